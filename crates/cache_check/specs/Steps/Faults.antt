-- A fault of one image as one of a cache.
use Rattle.std.specs.Prelude.{ℕ}
use Rattle.dsc_base.specs.RuleNames.{number_of}
use Rattle.dsc_base.specs.declared.fault.Fault.{Fault}
use Rattle.dsc_base.specs.declared.fault.Fault.TheVariants.{Broken, Memory}
use Rattle.dsc_base.specs.declared.fault.ViewFault.{ViewFault}
use Rattle.dsc_base.specs.declared.fault.ViewFault.TheVariants.{Broken as BrokenView, Memory as ViewMemory}
use Rattle.dsc_base.specs.declared.finding_kind.FindingKind.{FindingKind}
use Rattle.cache_header.specs.Findings.{finding}

-- a rule that image k breaks has the rule's number for its place
abbrev pub in_view : FindingKind → ℕ → Fault → ViewFault
in_view kind k (Broken s) = BrokenView (finding kind k (number_of s.rule))
in_view kind k Memory = ViewMemory
