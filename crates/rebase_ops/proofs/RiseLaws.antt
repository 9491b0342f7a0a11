-- The rebases of a stream rise.
use Rattle.std.proofs.Common.{List, arith}
use Rattle.std.specs.List.Sorted.{IsNonDecreasingBy}
use Rattle.std.proofs.lemmas.List.Sorted.{IsNonDecreasingBy-from_all_adjacent}
use Rattle.macho_image.specs.Records.{Img}
use Rattle.macho_image.specs.declared.place.Location.{Location}
use Rattle.rebase_ops.specs.Rebases.{AreRebases}

pub rebases_rise : (image : Img) (ls : List Location) → AreRebases image ls → IsNonDecreasingBy (λ (l : Location). l.address) ls
rebases_rise image ls read =
    IsNonDecreasingBy-from_all_adjacent (λ (l : Location). l.address) ls (λ k d lt. let far = read.apart k d (omega arith) in omega arith)
