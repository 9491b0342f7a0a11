-- What was appended is read back.
use Rattle.std.proofs.Common.{◌++◌, ◌∙◌, List, ℕ, ap}
use Rattle.dsc_base.proofs.UlebLaws.{uleb4_bytes-appended}
use Rattle.dsc_base.proofs.uleb.put_uleb4.Goals as goal

pub returns-clause-reads_back : goal.returns-clause-reads_back
returns-clause-reads_back c =
    uleb4_bytes-appended c.args.out.now.items c.extend_from_slice.new.self.items c.args.value c.requires
    (c.in_ok-extend_from_slice.ensures.items ∙ ap (λ (l : List ℕ). c.args.out.now.items ++ l) c.uleb4.ensures.spelled)
