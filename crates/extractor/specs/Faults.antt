-- A fault of a set as one of a cache.
use Rattle.dsc_base.specs.declared.fault.SetFault.{SetFault}
use Rattle.dsc_base.specs.declared.fault.SetFault.TheVariants.{Broken, Memory}
use Rattle.dsc_base.specs.declared.fault.ViewFault.{ViewFault}
use Rattle.dsc_base.specs.declared.fault.ViewFault.TheVariants.{Broken as BrokenView, Memory as ViewMemory}
use Rattle.extractor.specs.Vetting.{break_finding}

abbrev pub in_cache : SetFault → ViewFault
in_cache (Broken b) = BrokenView (break_finding b)
in_cache Memory = ViewMemory
