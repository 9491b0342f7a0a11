use Rattle.std.proofs.Common.{◌+◌, ap, ap₂, subst, ◌∙◌, arith, sym}
use Rattle.dsc_base.specs.Region.{paged}
use Rattle.cache_layout.specs.declared.mapping.Mapping.TheVariants.{Text, Writable, Fixed}
use Rattle.cache_layout.specs.Layouts.{layout_of}
use Rattle.cache_layout.specs.Apart.{AreInTurn, AreWithin, AreApart}
use Rattle.cache_layout.proofs.PlaceLaws.{are_in_turn, are_within, are_apart}
use Rattle.cache_layout.specs.Parts.{AreJoined}
use Rattle.cache_layout.proofs.PartLaws.{are_joined}
use Rattle.cache_layout.proofs.BreakLaws.{break-some, break-none, starts-are, same-span}
use Rattle.cache_layout.proofs.layout.lay_out.Goals as goal

pub overflow_add-starts : goal.overflow_add-starts
overflow_add-starts c =
    let rooms = c.images_room-room.ensures in
    omega (arith, rooms.rooms Text, rooms.fits Text)

pub overflow_add-starts-2 : goal.overflow_add-starts-2
overflow_add-starts-2 c =
    let rooms = c.images_room-room.ensures in
    omega (arith, rooms.rooms Text, rooms.fits Text)

pub overflow_add-starts-3 : goal.overflow_add-starts-3
overflow_add-starts-3 c =
    let rooms = c.images_room-room.ensures in
    omega (arith, rooms.rooms Text, rooms.fits Text, rooms.rooms Writable, rooms.fits Writable)

pub overflow_add-end : goal.overflow_add-end
overflow_add-end c =
    let rooms = c.images_room-room.ensures in
    omega (arith, rooms.rooms Text, rooms.fits Text, rooms.rooms Writable, rooms.fits Writable, rooms.rooms Fixed, rooms.fits Fixed)

pub returns-then-end-gt-SPAN_LIMIT-clause-cause : goal.returns-then-end-gt-SPAN_LIMIT-clause-cause
returns-then-end-gt-SPAN_LIMIT-clause-cause c =
    let rooms = c.images_room-room.ensures.rooms in
    let is = c.args.images.now in
    let top = c.page_up-head.ensures.value ∙ ap paged c.head_size.ensures.size in
    break-some is _ (ap₂ (λ a b. a + b) (starts-are is c.images_room-room.result c.page_up-head.result top rooms Fixed) (rooms Fixed)) (omega arith)

pub returns-clause-fits : goal.returns-clause-fits
returns-clause-fits c =
    let rooms = c.images_room-room.ensures.rooms in
    let is = c.args.images.now in
    let top = c.page_up-head.ensures.value ∙ ap paged c.head_size.ensures.size in
    break-none is _ (ap₂ (λ a b. a + b) (starts-are is c.images_room-room.result c.page_up-head.result top rooms Fixed) (rooms Fixed)) (omega arith)

pub returns-clause-layout : goal.returns-clause-layout
unfolding layout_of
returns-clause-layout c =
    let rooms = c.images_room-room.ensures.rooms in
    let is = c.args.images.now in
    let starts = starts-are is c.images_room-room.result c.page_up-head.result (c.page_up-head.ensures.value ∙ ap paged c.head_size.ensures.size) rooms in
    let text = same-span c.range.result _ _ _ _ c.range.ensures (starts Text) (rooms Text) in
    let writable = same-span c.range-2.result _ _ _ _ c.range-2.ensures (starts Writable) (rooms Writable) in
    let fixed = same-span c.range-3.result _ _ _ _ c.range-3.ensures (starts Fixed) (rooms Fixed) in
    λ j. record {
      moves = c.in_ok-moves.ensures.moves j;
      shifts = c.in_ok-moves.ensures.shifts j;
      text = text j;
      writable = writable j;
      fixed = fixed j;
    }

pub returns-clause-ranges : goal.returns-clause-ranges
returns-clause-ranges c = subst (AreInTurn c.args.images.now) (sym (returns-clause-layout c)) (are_in_turn c.args.images.now (returns-clause-fits c))

pub returns-clause-within : goal.returns-clause-within
returns-clause-within c = subst (AreWithin c.args.images.now) (sym (returns-clause-layout c)) (are_within c.args.images.now (returns-clause-fits c))

pub returns-clause-apart : goal.returns-clause-apart
returns-clause-apart c = subst (AreApart c.args.images.now) (sym (returns-clause-layout c)) (are_apart c.args.images.now)

pub returns-clause-parts : goal.returns-clause-parts
returns-clause-parts c = subst (AreJoined c.args.images.now) (sym (returns-clause-layout c)) (are_joined c.args.images.now)
