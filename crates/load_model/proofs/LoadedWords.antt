-- Each word of an image that is loaded leads to its target: bound words, and rebases that aren't bound.
use Rattle.std.proofs.Common.{◌≡◌, ◌≤◌, ◌<◌, ℕ, ◌+◌, ◌^◌, false, Option, Some, None, List, map, refl, sym, ap, ap₂, ◌∙◌, subst, arith, inl, inr}
use Rattle.std.specs.Prelude.{slice_get}
use Rattle.std.proofs.lemmas.Bool.{cond-false}
use Rattle.macho_image.specs.Records.{Seg, Img}
use Rattle.macho_image.specs.declared.place.Location.{Location}
use Rattle.macho_image.specs.declared.places.segment_index.Inside.{Inside}
use Rattle.macho_image.specs.Order.{addresses_of}
use Rattle.macho_image.specs.Places.{wrap, above}
use Rattle.macho_image.specs.Segments.{start_of, segments_in, value_of, inside}
use Rattle.macho_image.proofs.SegmentLaws.{inside_some}
use Rattle.bind_ops.specs.Records.{BoundWord}
use Rattle.split_info.specs.declared.reference.RefKind.TheVariants.{Pointer64}
use Rattle.prebind.specs.declared.resolved.Resolved.{Resolved}
use Rattle.prebind.specs.declared.resolved.Resolved.TheVariants as outcomes
use Rattle.prebind.specs.declared.resolved.WordTarget.{WordTarget}
use Rattle.prebind.specs.declared.resolved.WordTarget.TheVariants.{Place, Constant}
use Rattle.prebind.specs.Sets.{StreamLists, ImageSet, AreStreamsOf}
use Rattle.prebind.specs.Numbers.{Starts, led_to, LeadsTo, counted_to, cut_to, number_to}
use Rattle.prebind.specs.Targets.{pointer_at, value_place, rebase_target, bound_target, outcome_of}
use Rattle.prebind.specs.Places.{is_linkedit_at}
use Rattle.prebind.specs.WordRules.{leads_into_linkedit, leads_nowhere, breaks_135, breaks_136}
use Rattle.prebind.specs.Words.{streams_in, placed_bind, is_bound, bound_words}
use Rattle.load_model.specs.Memory.{Cells, HasNumber}
use Rattle.load_model.specs.Loading.{loaded, loaded_starts, bound_to, rebased, segment_cells}
use Rattle.load_model.specs.Corresponds.{Leads, loaded_side}
use Rattle.load_model.proofs.NumberLaws.{address_on}
use Rattle.load_model.proofs.LoadingLaws.{IsLow, AreApart, low_at}
use Rattle.load_model.proofs.BoundLaws as bound
use Rattle.load_model.proofs.BoundLaws.{places_of}
use Rattle.load_model.proofs.RebasedLaws as rebase
use Rattle.load_model.proofs.RebasedLaws.{IsFree}
use Rattle.load_model.proofs.WordCases.{IsIn, in_map, IsImageOf}
use Rattle.load_model.proofs.SpreadLaws.{free_of_binds, binds_spread, rebases_read, rebase_is_word, word_low, binds_low, free_far}
use Rattle.macho_image.proofs.AboveLaws.{wrap_fits}

-- an image of a set whose streams were read, and whose segments are apart
pub record IsReadImage (set : ImageSet) (k : ℕ) (i : Img) (s : StreamLists) : Type 0 where
  pub of : IsImageOf set k i s
  pub sound : AreStreamsOf i s
  pub apart : AreApart i.segments

-- ---- in memory

-- before it is bound, and then
abbrev pub rebased_cells : ℕ → Img → StreamLists → Cells
rebased_cells slide i s = rebased slide (addresses_of s.rebases) (segment_cells slide i.segments)

abbrev cells_by : ImageSet → (ℕ → ℕ) → ℕ → Option Img → Option StreamLists → Cells
cells_by set slides k i s =
    bound_to (loaded_starts set slides) (slides k) (map (placed_bind set k) (streams_in s).binds)
    (rebased (slides k) (addresses_of (streams_in s).rebases) (segment_cells (slides k) (segments_in i)))

pub loaded_is : (set : ImageSet) (slides : ℕ → ℕ) (k : ℕ) (i : Img) (s : StreamLists) → IsImageOf set k i s
    → loaded set slides k ≡ bound_to (loaded_starts set slides) (slides k) (map (placed_bind set k) s.binds) (rebased_cells (slides k) i s)
unfolding loaded bound_words
loaded_is set slides k i s of = ap₂ (cells_by set slides k) of.image_is of.streams_are

-- an address that no bound word has
pub unbound_cell : (set : ImageSet) (slides : ℕ → ℕ) (k y : ℕ) (i : Img) (s : StreamLists) → IsReadImage set k i s → y < 2 ^ 63 → IsFree y (places_of (map (placed_bind set k) s.binds))
    → loaded set slides k (wrap (y + slides k)) ≡ rebased_cells (slides k) i s (wrap (y + slides k))
unbound_cell set slides k y i s read low free =
    ap (λ (cells : Cells). cells (wrap (y + slides k))) (loaded_is set slides k i s read.of)
    ∙ bound.bound_free (loaded_starts set slides) (slides k) y (map (placed_bind set k) s.binds) (rebased_cells (slides k) i s) low (binds_low set k i s read.sound read.apart) free

loaded_start : (set : ImageSet) (slides : ℕ → ℕ) (k g : ℕ) (i : Img) → slice_get set.images k ≡ Some i → loaded_starts set slides k g ≡ wrap (start_of (slice_get i.segments g) + slides k)
loaded_start set slides k g i image = ap (λ (o : Option Img). wrap (start_of (slice_get (segments_in o) g) + slides k)) image

pub start_low : (ss : List Seg) (g : ℕ) → AreApart ss → start_of (slice_get ss g) ≤ 2 ^ 47
start_low ss g apart = at (slice_get ss g) refl
  where
    at : (o : Option Seg) → slice_get ss g ≡ o → start_of o ≤ 2 ^ 47
    at None is = omega arith
    at (Some t) is =
        let low : IsLow t = low_at g t ss apart is in
        let end : t.vmaddr + t.vmsize ≤ 0x800000000000 = low.low in
        omega (arith, end)

counted : (a x slide : ℕ) → a ≤ 2 ^ 47 → wrap (wrap (a + slide) + above a x) ≡ wrap (x + slide)
unfolding above
counted a x slide low = omega (arith, low)

-- an address is so far behind where a segment starts once it is loaded as it is before
pub slid_start : (set : ImageSet) (slides : ℕ → ℕ) (k g value : ℕ) (i : Img) → slice_get set.images k ≡ Some i → AreApart i.segments
    → wrap (loaded_starts set slides k g + above (start_of (slice_get i.segments g)) value) ≡ wrap (value + slides k)
slid_start set slides k g value i image apart =
    ap (λ (n : ℕ). wrap (n + above (start_of (slice_get i.segments g)) value)) (loaded_start set slides k g i image)
    ∙ counted (start_of (slice_get i.segments g)) value (slides k) (start_low i.segments g apart)

-- ---- bound words

-- a target whose number has 8 bytes
abbrev IsNarrow : WordTarget → Type 0
IsNarrow (Place k g distance) = Unit {0}
IsNarrow (Constant c) = c < 2 ^ 64

bound_narrow : (set : ImageSet) (k : ℕ) (b : BoundWord) → IsNarrow (bound_target b.addend (outcome_of set k b))
bound_narrow set k b = at (outcome_of set k b)
  where
    at : (o : Resolved) → IsNarrow (bound_target b.addend o)
    at (outcomes.Place k g distance) = tt
    at (outcomes.Constant n) = wrap_fits _
    at outcomes.Absent = wrap_fits _
    at outcomes.Loop = wrap_fits _
    at outcomes.BadOrdinal = wrap_fits _

narrow_fits : (starts : Starts) (location : ℕ) (target : WordTarget) → IsNarrow target → number_to starts location 0 Pointer64 target < 2 ^ 64
unfolding number_to counted_to cut_to
narrow_fits starts location (Place k g distance) narrow = wrap_fits (starts k g + distance)
narrow_fits starts location (Constant c) narrow = narrow

bound_leads_to : (starts : Starts) (location header : ℕ) (target : WordTarget) → LeadsTo starts location header Pointer64 (number_to starts location 0 Pointer64 target) target
unfolding number_to counted_to cut_to led_to
bound_leads_to starts location header (Place k g distance) = refl
bound_leads_to starts location header (Constant c) = refl

pub bound_leads : (set : ImageSet) (slides : ℕ → ℕ) (k header : ℕ) (i : Img) (s : StreamLists) (b : BoundWord) → IsReadImage set k i s → IsIn s.binds b
    → Leads (loaded_side set slides k) b.at.address header Pointer64 (bound_target b.addend (outcome_of set k b))
bound_leads set slides k header i s b read there =
    let starts : Starts = loaded_starts set slides in
    let location : ℕ = wrap (b.at.address + slides k) in
    let target : WordTarget = bound_target b.addend (outcome_of set k b) in
    let own : IsIn (map (placed_bind set k) s.binds) (placed_bind set k b) = in_map (placed_bind set k) s.binds b there in
    record {
      number = number_to starts location 0 Pointer64 target;
      fits = narrow_fits starts location target (bound_narrow set k b);
      there = subst (λ (cells : Cells). HasNumber 8 cells (wrap (b.at.address + slides k)) (number_to (loaded_starts set slides) (wrap (b.at.address + slides k)) 0 Pointer64 (bound_target b.addend (outcome_of set k b))))
          (sym (loaded_is set slides k i s read.of))
          (bound.bound_word starts (slides k) own.number (placed_bind set k b) (map (placed_bind set k) s.binds) (rebased_cells (slides k) i s) (binds_low set k i s read.sound read.apart) (binds_spread set k i s read.sound) own.found);
      leads = bound_leads_to starts location (wrap (header + slides k)) target;
    }

-- ---- rebases that aren't bound

raised : (value start distance slide : ℕ) → value ≡ start + distance → wrap (value + slide) ≡ wrap (wrap (start + slide) + distance)
raised value start distance slide is = omega (arith, is)

-- a value leads to its target, raised by the slide, where it keeps the rules on where values lead
pub value_leads : (set : ImageSet) (slides : ℕ → ℕ) (k location header value : ℕ) (i : Img) (o : Option ℕ) → slice_get set.images k ≡ Some i → AreApart i.segments
    → breaks_135 i.segments value o ≡ false → breaks_136 i.segments value o ≡ false → LeadsTo (loaded_starts set slides) location header Pointer64 (wrap (value + slides k)) (rebase_target k i.segments value o)
unfolding led_to
value_leads set slides k location header value i (Some g) image apart owned led = sym (slid_start set slides k g value i image apart)
value_leads set slides k location header value i None image apart owned led = at (inside i.segments value) refl owned led
  where
    at : (p : Option Inside) → inside i.segments value ≡ p → leads_into_linkedit i.segments p ≡ false → leads_nowhere p ≡ false
        → LeadsTo (loaded_starts set slides) location header Pointer64 (wrap (value + slides k)) (value_place k i.segments value p)
    at None is owned led = absurd (cc)
    at (Some p) is owned led =
        let found = inside_some i.segments value p is in
        let start : loaded_starts set slides k p.segment ≡ wrap (found.0.vmaddr + slides k) =
        loaded_start set slides k p.segment i image ∙ ap (λ (q : Option Seg). wrap (start_of q + slides k)) found.1 in
        subst (λ (t : WordTarget). LeadsTo (loaded_starts set slides) location header Pointer64 (wrap (value + slides k)) t)
        (sym (cond-false (is_linkedit_at (slice_get i.segments p.segment)) (Constant value) (Place k p.segment p.distance) owned))
        (raised value found.0.vmaddr p.distance (slides k) (omega (arith, found.2, found.3)) ∙ ap (λ (n : ℕ). wrap (n + p.distance)) (sym start))

pub free_leads : (set : ImageSet) (slides : ℕ → ℕ) (k header : ℕ) (i : Img) (s : StreamLists) (l : Location) → IsReadImage set k i s → IsIn s.rebases l → is_bound s.binds l.address ≡ false
    → breaks_135 i.segments (value_of i.segments l) (pointer_at s.references l.address) ≡ false → breaks_136 i.segments (value_of i.segments l) (pointer_at s.references l.address) ≡ false
    → Leads (loaded_side set slides k) l.address header Pointer64 (rebase_target k i.segments (value_of i.segments l) (pointer_at s.references l.address))
free_leads set slides k header i s l read there free owned led =
    let value : ℕ = value_of i.segments l in
    let low : l.address + 8 ≤ 2 ^ 47 = word_low i l read.apart (rebase_is_word i s l read.sound there) in
    record {
      number = wrap (value + slides k);
      fits = wrap_fits (value + slides k);
      there = λ n lt.
          let apart : IsFree (l.address + n) (places_of (map (placed_bind set k) s.binds)) =
          free_of_binds set k (l.address + n) s.binds (λ b in_b. elim (free_far i s l b read.sound there free in_b) [ inl before ↦ inl (omega (arith, before, lt)) | inr behind ↦ inr (omega (arith, behind)) ]) in
          ap (loaded set slides k) (address_on l.address (slides k) n)
          ∙ (unbound_cell set slides k (l.address + n) i s read (omega (arith, low, lt)) apart
          ∙ (ap (rebased_cells (slides k) i s) (sym (address_on l.address (slides k) n))
          ∙ rebase.rebased_word (slides k) there.number i s.rebases l read.apart (rebases_read i s read.sound) there.found n lt));
      leads = value_leads set slides k (wrap (l.address + slides k)) (wrap (header + slides k)) value i (pointer_at s.references l.address) read.of.image_is read.apart owned led;
    }
