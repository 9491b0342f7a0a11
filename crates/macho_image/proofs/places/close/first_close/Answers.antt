use Rattle.std.proofs.Common.{arith, sym, ◌∙◌}
use Rattle.macho_image.specs.declared.place.Location.{Location}
use Rattle.macho_image.proofs.CloseLaws.{close_is, close_here, close_end}
use Rattle.macho_image.proofs.OrderLaws.{up_from}
use Rattle.macho_image.proofs.places.close.first_close.Goals as goal

no_location : Location
no_location = record { segment = 0; section = 0; address = 0 }

pub returns-then-saturating_sub-lt-WORD : goal.returns-then-saturating_sub-lt-WORD
unfolding no_location
returns-then-saturating_sub-lt-WORD c =
    let ls = c.args.locations.now in
    let up = up_from 0 ls (λ d some. omega arith) c.requires in
    let near = c.if-saturating_sub-lt-WORD.true in
    sym (close_is ls up ∙ (c.loop-i.invariant ∙ close_here ls c.loop-i.i no_location (omega arith) (omega arith) (omega (arith, near, c.saturating_sub.ensures))))

pub returns : goal.returns
returns c =
    let ls = c.args.locations.now in
    let up = up_from 0 ls (λ d some. omega arith) c.requires in
    sym (close_is ls up ∙ (c.loop-i.invariant ∙ close_end ls c.loop-i.i (omega arith)))
