use Rattle.std.proofs.Common.{List, ap, ◌∙◌}
use Rattle.macho_image.specs.declared.place.Moved.{Moved}
use Rattle.cache_header.specs.Records.{Entry}
use Rattle.cache_layout.proofs.NumberedLaws.{numbered-grown}
use Rattle.cache_build.specs.Head.{text_address, text_size, entry_of}
use Rattle.cache_build.proofs.head.entries.Goals as goal

pub loop-number-preserved : goal.loop-number-preserved
loop-number-preserved c =
    let i = c.index-images-number.result in
    numbered-grown (entry_of c.args.layout.now) c.args.images.now c.loop-number.number i c.loop-number.entries.items c.push.new.self.items c.in_ok-entry.entry
    c.loop-number-test.true c.index-images-number.is c.loop-number.invariant c.in_ok-push.ensures.items
    (c.in_ok-entry.ensures ∙ ap (λ (m : List Moved). let e : Entry = record { address = text_address m; path = i.install_name; uuid = i.uuid; text_size = text_size i.segments } in e) c.moves.ensures)
