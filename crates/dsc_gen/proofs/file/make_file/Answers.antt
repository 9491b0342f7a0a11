-- The parts are small.
use Rattle.std.proofs.Common.{sym, subst}
use Rattle.dsc_gen.specs.Files.{Parts, AreSmall}
use Rattle.dsc_gen.proofs.SmallLaws.{parts_small}
use Rattle.dsc_gen.proofs.file.make_file.Goals as goal

pub lay_out-linkedit-requires-clause-small : goal.lay_out-linkedit-requires-clause-small
lay_out-linkedit-requires-clause-small c =
    subst (λ (p : Parts). AreSmall p) (sym c.in_ok-parts.ensures) (parts_small c.args.shape.now c.args.k c.args.draw.now c.requires.shape c.requires.draw)

pub put_linkedit-requires : goal.put_linkedit-requires
put_linkedit-requires c =
    subst (λ (p : Parts). AreSmall p) (sym c.in_ok-parts.ensures) (parts_small c.args.shape.now c.args.k c.args.draw.now c.requires.shape c.requires.draw)
