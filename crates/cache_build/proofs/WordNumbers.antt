-- The numbers of words in a cache: each fits its word, and a pointer that leads to a place has one in the first 512 MiB of the region.
use Rattle.std.proofs.Common.{◌≡◌, ◌≤◌, ◌<◌, ℕ, ◌+◌, ◌%◌, ◌^◌, true, false, nat_lt, Some, None, List, map, refl, sym, ap, ◌∙◌, subst, arith, inl, inr}
use Rattle.std.specs.Prelude.{ℤ, slice_get, position}
use Rattle.std.specs.List.{enumerate_from}
use Rattle.dsc_base.specs.declared.rule.Rule.TheVariants.{BoundOutOfRange}
use Rattle.dsc_base.specs.Region.{region_start}
use Rattle.macho_image.specs.Records.{Img}
use Rattle.macho_image.specs.Places.{wrap, above}
use Rattle.macho_image.proofs.AboveLaws.{above_small}
use Rattle.macho_image.proofs.Unbroken.{or_none, broken_none}
use Rattle.bind_ops.specs.Records.{BoundWord}
use Rattle.split_info.specs.declared.reference.RefKind.{RefKind}
use Rattle.split_info.specs.declared.reference.RefKind.TheVariants.{Pointer64, Delta32, Delta64, ImageOff32}
use Rattle.split_info.specs.References.{width_of}
use Rattle.prebind.specs.declared.resolved.Resolved.{Resolved}
use Rattle.prebind.specs.declared.resolved.Resolved.TheVariants as outcomes
use Rattle.prebind.specs.declared.resolved.WordTarget.{WordTarget}
use Rattle.prebind.specs.declared.resolved.WordTarget.TheVariants.{Place, Constant}
use Rattle.prebind.specs.declared.resolved.PlacedWord.{PlacedWord}
use Rattle.prebind.specs.Sets.{StreamLists, ImageSet}
use Rattle.prebind.specs.Numbers.{Starts, counted_to, cut_to, number_to}
use Rattle.prebind.specs.Targets.{bound_target, outcome_of, pointer_at}
use Rattle.prebind.specs.Words.{Word, placed_bind, bound_words, rebased_word, pointer_word, ordered_pointers, streams_at}
use Rattle.cache_layout.specs.Layouts.{Laid, layout_of}
use Rattle.cache_layout.specs.Apart.{IsSegment, AreInTurn, move_at}
use Rattle.cache_layout.proofs.PlaceLaws.{are_in_turn, are_within}
use Rattle.cache_layout.proofs.RoomLaws.{paged-covers}
use Rattle.ref_rewrite.specs.Breaks.{leads_beyond, delta_break, offset_break, bound_break, image_break, rewrite_break}
use Rattle.ref_rewrite.specs.Moving.{new_starts, new_address, header_move, new_number}
use Rattle.ref_rewrite.specs.Planned.{leads_to_place}
use Rattle.ref_rewrite.proofs.FitLaws.{segment_there}
use Rattle.load_model.proofs.RuledWords.{position_none, unbroken_each}
use Rattle.load_model.proofs.WordCases.{IsIn, in_map}
use Rattle.cache_build.proofs.ImageWords.{IsReadSet, IsOne, pointer_cases, word_kinds, image_words}
use Rattle.cache_build.proofs.Memberships.{in_enumerated}
use Rattle.cache_build.proofs.RebaseTargets.{LeadsInto, rebase_leads}
use Rattle.std.proofs.lemmas.Bool.{or_parts, ltb-false}

-- ---- a bound word leads into the cache, if it leads to a place

bound_none : (l : Laid) (set : ImageSet) (k : ℕ) (i : Img) → rewrite_break l set ≡ None → slice_get set.images k ≡ Some i → bound_break l set k ≡ None
unfolding rewrite_break image_break
bound_none l set k i none image =
    let own = unbroken_each (λ (p : ℕ × Img). image_break l set p.0) 0 (enumerate_from 0 set.images) (k, i) none (in_enumerated set.images k i image) in
    let one = or_none (delta_break l set k) _ own in
    let two = or_none (offset_break l set k) _ one.1 in
    let three = or_none (bound_break l set k) _ two.1 in
    three.0

no_position : (l : Laid) (set : ImageSet) (k : ℕ) (s : StreamLists) → streams_at set k ≡ s → bound_break l set k ≡ None → position (λ (w : PlacedWord). leads_beyond l w.target) (map (placed_bind set k) s.binds) ≡ None
unfolding bound_break bound_words
no_position l set k s same free =
    ap (λ (t : StreamLists). position (λ (w : PlacedWord). leads_beyond l w.target) (map (placed_bind set k) t.binds)) (sym same) ∙ broken_none BoundOutOfRange _ free

bound_within : (l : Laid) (set : ImageSet) (k : ℕ) (i : Img) (s : StreamLists) (b : BoundWord) → IsOne set k i s → rewrite_break l set ≡ None → IsIn s.binds b → leads_beyond l (placed_bind set k b).target ≡ false
bound_within l set k i s b one none there =
    let free : bound_break l set k ≡ None = bound_none l set k i none one.read.of.image_is in
    let own : IsIn (map (placed_bind set k) s.binds) (placed_bind set k b) = in_map (placed_bind set k) s.binds b there in
    position_none (λ (w : PlacedWord). leads_beyond l w.target) (map (placed_bind set k) s.binds) (placed_bind set k b) (no_position l set k s one.streams free) own

-- ---- numbers of pointers

record IsHigh (n : ℕ) : Type 0 where
  from : region_start ≤ n
  to : n ≤ region_start + 0x20000000

high_bound : (l : Laid) (location header : ℕ) (t : WordTarget) → l.fixed.at + l.fixed.len ≤ 0x20000000 → leads_to_place t ≡ true → leads_beyond l t ≡ false → IsHigh (number_to (new_starts l) location header Pointer64 t)
unfolding number_to counted_to cut_to
high_bound l location header (Constant c) low leads beyond = absurd (cc)
high_bound l location header (Place k g distance) low leads beyond =
    let n : ℕ = wrap ((move_at l k g).address + distance) in
    let two = or_parts (nat_lt n region_start) (nat_lt (region_start + (l.fixed.at + l.fixed.len)) n) beyond in
    let end : n ≤ region_start + (l.fixed.at + l.fixed.len) = ltb-false (region_start + (l.fixed.at + l.fixed.len)) n two.1 in
    record { from = ltb-false n region_start two.0; to = omega (arith, end, low) }

place_number : (l : Laid) (location header k g d : ℕ) → number_to (new_starts l) location header Pointer64 (Place k g d) ≡ wrap ((move_at l k g).address + d)
unfolding number_to counted_to cut_to
place_number l location header k g d = refl

high_place : (set : ImageSet) (k location header : ℕ) (i : Img) (s : StreamLists) (t : WordTarget) → IsOne set k i s → LeadsInto k i t → IsHigh (number_to (new_starts (layout_of set.images)) location header Pointer64 t)
high_place set k location header i s t one leads =
    let is : List Img = set.images in
    let there : IsSegment is k leads.number i leads.segment = segment_there is k leads.number i leads.segment one.at.lt one.at.at leads.segment_is in
    let within = are_within is one.at.none k leads.number i leads.segment there leads.owned in
    let number : number_to (new_starts (layout_of is)) location header Pointer64 t ≡ wrap ((move_at (layout_of is) k leads.number).address + leads.distance) =
    ap (λ (u : WordTarget). number_to (new_starts (layout_of is)) location header Pointer64 u) leads.is ∙ place_number (layout_of is) location header k leads.number leads.distance in
    let plain : wrap ((move_at (layout_of is) k leads.number).address + leads.distance) ≡ (move_at (layout_of is) k leads.number).address + leads.distance =
    omega (arith, within.2.address, within.2.end, within.2.span, leads.fits, paged-covers leads.segment.vmsize) in
    subst IsHigh (sym (number ∙ plain)) (record {
      from = omega (arith, within.2.address);
      to = omega (arith, within.2.address, within.2.end, within.2.span, leads.fits, paged-covers leads.segment.vmsize);
    })

-- a pointer of an image that leads to a place
pub pointer_high : (set : ImageSet) (k : ℕ) (i : Img) (s : StreamLists) (w : PlacedWord) → IsReadSet set → IsOne set k i s → IsIn (ordered_pointers set k) w → leads_to_place w.target ≡ true
    → (0 < new_number (layout_of set.images) k i.segments (pointer_word w)) × (new_number (layout_of set.images) k i.segments (pointer_word w) < 2 ^ 48)
unfolding new_number
pointer_high set k i s w given one there leads =
    let is : List Img = set.images in
    let l : Laid = layout_of is in
    let location : ℕ = new_address l k i.segments w.at.segment w.at.address in
    let header : ℕ = (header_move l k i.segments).address in
    let turn : AreInTurn is l = are_in_turn is given.none in
    let high : IsHigh (number_to (new_starts l) location header Pointer64 w.target) = elim (pointer_cases set k i s w one.read.of there) [
      | inl bound ↦
          let same : w.target ≡ (placed_bind set k bound.bind).target = ap (λ (v : PlacedWord). v.target) bound.is in
          subst (λ (t : WordTarget). IsHigh (number_to (new_starts l) location header Pointer64 t)) (sym same)
          (high_bound l location header (placed_bind set k bound.bind).target turn.span (ap leads_to_place (sym same) ∙ leads) (bound_within l set k i s bound.bind one given.rewritten bound.there))
      | inr free ↦
          let same : w.target ≡ (rebased_word k i.segments (pointer_at s.references) free.place).target = ap (λ (v : PlacedWord). v.target) free.is in
          subst (λ (t : WordTarget). IsHigh (number_to (new_starts l) location header Pointer64 t)) (sym same)
          (high_place set k location header i s (rebased_word k i.segments (pointer_at s.references) free.place).target one (rebase_leads set k i s free.place one (given.led k one.at.lt) free.there free.free))
    ] in
    let from : region_start ≤ new_number l k i.segments (pointer_word w) = high.from in
    let to : new_number l k i.segments (pointer_word w) ≤ region_start + 0x20000000 = high.to in
    (omega (arith, from), omega (arith, to))

-- ---- numbers that fit

-- a target whose number fits a word, if it is a constant
abbrev ConstantFits : RefKind → WordTarget → Type 0
ConstantFits kind (Place k g distance) = Unit {0}
ConstantFits kind (Constant c) = c < 256 ^ width_of kind

wrap_fits : (n : ℕ) → wrap n < 256 ^ 8
wrap_fits n = omega arith

above_fits : (a x : ℕ) → above a x < 256 ^ 8
above_fits a x = omega (arith, above_small a x)

cut_fits : (n : ℕ) → n % 2 ^ 32 < 256 ^ 4
cut_fits n = omega arith

number_fits : (starts : Starts) (location header : ℕ) (kind : RefKind) (target : WordTarget) → ConstantFits kind target → number_to starts location header kind target < 256 ^ width_of kind
unfolding number_to counted_to cut_to
number_fits starts location header Pointer64 (Place k g d) fits = wrap_fits (starts k g + d)
number_fits starts location header Delta32 (Place k g d) fits = cut_fits (above location (wrap (starts k g + d)))
number_fits starts location header Delta64 (Place k g d) fits = above_fits location (wrap (starts k g + d))
number_fits starts location header ImageOff32 (Place k g d) fits = cut_fits (above header (wrap (starts k g + d)))
number_fits starts location header kind (Constant c) fits = fits

bound_fits : (addend : ℤ) (o : Resolved) → ConstantFits Pointer64 (bound_target addend o)
bound_fits addend (outcomes.Place k g distance) = tt
bound_fits addend (outcomes.Constant n) = wrap_fits _
bound_fits addend outcomes.Absent = wrap_fits _
bound_fits addend outcomes.Loop = wrap_fits _
bound_fits addend outcomes.BadOrdinal = wrap_fits _

pub word_fits : (set : ImageSet) (k : ℕ) (i : Img) (s : StreamLists) (w : Word) → IsReadSet set → IsOne set k i s → IsIn (image_words set k i s) w → new_number (layout_of set.images) k i.segments w < 256 ^ width_of w.kind
unfolding new_number
word_fits set k i s w given one there =
    let l : Laid = layout_of set.images in
    number_fits (new_starts l) (new_address l k i.segments w.at.segment w.at.address) (header_move l k i.segments).address w.kind w.target
    (elim (word_kinds set k i s w there) [
      | inr r ↦ subst (λ (v : Word). ConstantFits v.kind v.target) (sym r.is) tt
      | inl p ↦ subst (λ (v : Word). ConstantFits v.kind v.target) (sym p.is) (elim (pointer_cases set k i s p.pointer one.read.of p.there) [
        | inl bound ↦ subst (λ (v : PlacedWord). ConstantFits Pointer64 v.target) (sym bound.is) (bound_fits bound.bind.addend (outcome_of set k bound.bind))
        | inr free ↦
            let leads = rebase_leads set k i s free.place one (given.led k one.at.lt) free.there free.free in
            subst (λ (v : PlacedWord). ConstantFits Pointer64 v.target) (sym free.is) (subst (λ (t : WordTarget). ConstantFits Pointer64 t) (sym leads.is) tt)
      ])
    ])
