use Rattle.std.proofs.Common.{List, sym, subst}
use Rattle.std.specs.List.Sorted.{IsNonDecreasingBy}
use Rattle.macho_image.specs.declared.place.Location.{Location}
use Rattle.rebase_ops.proofs.RiseLaws.{rebases_rise}
use Rattle.prebind.proofs.reading.read_streams.Goals as goal

pub read_split-requires : goal.read_split-requires
read_split-requires c =
    subst (λ (ls : List Location). IsNonDecreasingBy (λ (l : Location). l.address) ls) (sym c.deref-5.ensures.value)
    (rebases_rise c.args.image.now c.in_ok-rebases.rebases.items c.in_ok-rebases.ensures.sound)
