-- When a set is too large for a layout.
use Rattle.std.proofs.Common.{◌≡◌, ◌≤◌, ◌<◌, ◌+◌, ℕ, Bool, true, false, List, refl, sym, ap, ap₂, ◌∙◌, arith, nat_lt, if◌then◌else◌, Option, Some, None}
use Rattle.std.proofs.lemmas.Bool.Decides.{nat_tests}
use Rattle.dsc_base.specs.Region.{paged}
use Rattle.dsc_base.specs.declared.fault.Span.{Span}
use Rattle.dsc_base.specs.declared.fault.Break.{Break}
use Rattle.dsc_base.specs.declared.rule.Rule.TheVariants.{SpanTooLarge}
use Rattle.macho_image.specs.Records.{Img}
use Rattle.cache_layout.specs.declared.mapping.Mapping.{Mapping}
use Rattle.cache_layout.specs.declared.mapping.Mapping.TheVariants.{Text, Writable, Fixed}
use Rattle.cache_layout.specs.declared.room.Room.{Room}
use Rattle.cache_layout.specs.Places.{head_size, images_room, mapping_start}
use Rattle.cache_layout.specs.Layouts.{segments_end, layout_break}
use Rattle.cache_layout.specs.Rooms.{held}

pub break-some : (is : List Img) (n : ℕ) → n ≡ segments_end is → 0x20000000 < n → layout_break is ≡ Some (record { rule = SpanTooLarge; image = 0; at = n })
unfolding layout_break
break-some is n end large =
    let over : nat_lt 0x20000000 (segments_end is) ≡ true = (let at : 0x20000000 < segments_end is = omega (arith, end, large) in grind (arith, nat_tests)) in
    ap₂ (λ (b : Bool) (k : ℕ). if b then (let o : Option Break = Some (record { rule = SpanTooLarge; image = 0; at = k }) in o) else None) over (sym end)

pub break-none : (is : List Img) (n : ℕ) → n ≡ segments_end is → n ≤ 0x20000000 → layout_break is ≡ None
unfolding layout_break
break-none is n end small =
    let under : nat_lt 0x20000000 (segments_end is) ≡ false = (let at : segments_end is ≤ 0x20000000 = omega (arith, end, small) in grind (arith, nat_tests)) in
    ap (λ (b : Bool). if b then (let o : Option Break = Some (record { rule = SpanTooLarge; image = 0; at = segments_end is }) in o) else None) under

-- the other way round
pub none-fits : (is : List Img) → layout_break is ≡ None → segments_end is ≤ 0x20000000
unfolding layout_break
none-fits is none = (let under : nat_lt 0x20000000 (segments_end is) ≡ false = not_large (nat_lt 0x20000000 (segments_end is)) _ none in grind (arith, nat_tests))
  where
    not_large : (b : Bool) (x : Break) → (if b then Some x else None) ≡ None → b ≡ false
    not_large true x e = absurd (cc)
    not_large false x e = refl

-- the starts of the mappings by the rooms before them
pub starts-are : (is : List Img) (room : Room) (head : ℕ) → head ≡ paged (head_size is) → ((m : Mapping) → held room m ≡ images_room m is)
    → (m : Mapping) → held (record { text = head; writable = head + room.text; fixed = head + room.text + room.writable }) m ≡ mapping_start m is
starts-are is room head top rooms Text = top
starts-are is room head top rooms Writable = ap₂ (λ a b. a + b) top (rooms Text)
starts-are is room head top rooms Fixed = ap₂ (λ a b. a + b) (ap₂ (λ a b. a + b) top (rooms Text)) (rooms Writable)

-- each mapping ends before the end of all
pub mapping-ends : (m : Mapping) (is : List Img) → mapping_start m is + images_room m is ≤ segments_end is
mapping-ends Text is = omega arith
mapping-ends Writable is = omega arith
mapping-ends Fixed is = omega arith

pub same-span : (span : Span) (at len at' len' : ℕ) → span ≡ record { at = at; len = len } → at ≡ at' → len ≡ len' → span ≡ record { at = at'; len = len' }
same-span span at len at' len' is here long = is ∙ ap₂ (λ (a l : ℕ). let s : Span = record { at = a; len = l } in s) here long
