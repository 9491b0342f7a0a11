use Rattle.std.proofs.Common.{◌+◌, arith, sym, ◌∙◌}
use Rattle.std.proofs.lemmas.List.{length-map}
use Rattle.extractor.specs.Free.{lists}
use Rattle.extractor.specs.Vetting.{cached_lists}
use Rattle.extractor.proofs.FreeLaws.{home_within, bound_word, free_word, lists_long}
use Rattle.extractor.proofs.free.keep_at.Goals as goal

pub bounds-bounds-number : goal.bounds-bounds-number
bounds-bounds-number c =
    let lt = home_within c.args.images.now (c.args.start + c.args.word.offset) c.args.home c.requires.home in
    let long = c.requires.bounds.count ∙ length-map c.args.images.now cached_lists in
    omega (arith, lt, long)

pub bounds-images-number : goal.bounds-images-number
bounds-images-number c = home_within c.args.images.now (c.args.start + c.args.word.offset) c.args.home c.requires.home

pub push_location-requires : goal.push_location-requires
push_location-requires c = let lt = home_within c.args.images.now (c.args.start + c.args.word.offset) c.args.home c.requires.home in omega (arith, lt, c.requires.count)

pub returns-then-has : goal.returns-then-has
returns-then-has c =
    bound_word c.args.start c.args.word c.args.images.now c.args.bounds.now (lists c.args.free.now.items) c.args.home c.index-bounds-number.result c.requires.bounds c.requires.home c.index-bounds-number.is (sym c.has.ensures ∙ c.if-has.true)

pub returns : goal.returns
returns c =
    free_word c.args.start c.args.word c.args.images.now c.args.bounds.now (lists c.args.free.now.items) (lists c.push_location.new.free.items) c.args.home c.index-bounds-number.result c.index-images-number.result c.location_in-location.result
    c.requires.bounds c.requires.home (lists_long c.args.free.now.items ∙ c.requires.count) c.index-bounds-number.is (sym c.has.ensures ∙ c.if-has.false) c.index-images-number.is c.location_in-location.ensures c.in_ok-push_location.ensures
