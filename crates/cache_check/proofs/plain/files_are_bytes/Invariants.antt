use Rattle.std.proofs.Common.{◌<◌, take}
use Rattle.std.specs.List.{All}
use Rattle.load_model.specs.Phases.{contents}
use Rattle.cache_check.proofs.plain.files_are_bytes.Given as goal

abbrev pub invariant-loop-file : goal.invariant-loop-file
invariant-loop-file l = All (λ f. All (λ b. b < 256) f) (contents (take l.file-index l.files))
