-- A reference that is no pointer leads to its target once its image is loaded: its bytes are the file's, and both ends of a difference move alike.
use Rattle.std.proofs.Common.{◌≡◌, ◌≤◌, ◌<◌, ◌⊎◌, ℕ, ◌+◌, ◌-◌, ◌*◌, ◌^◌, Bool, true, false, not, ◌&&◌, ◌||◌, Option, Some, List, [], ◌∷◌, length, map, get_or, sym, ap, ◌∙◌, subst, arith, inl, inr}
use Rattle.std.specs.Prelude.{slice_get, slice_index}
use Rattle.std.proofs.lemmas.Bool.{cases_lt, false≢true, or_parts}
use Rattle.std.proofs.lemmas.Bool.Decides.{nat_tests}
use Rattle.dsc_base.specs.Numbers.{number_at, little_bytes}
use Rattle.dsc_base.proofs.NumberLaws.{number_at-same, number_at-lt}
use Rattle.dsc_base.specs.declared.rule.Rule.TheVariants.{SplitOverlap}
use Rattle.dsc_base.specs.Refusals.{broken}
use Rattle.macho_image.specs.Records.{Seg, Img}
use Rattle.macho_image.specs.Breaks.{IsSound}
use Rattle.macho_image.specs.declared.place.Location.{Location}
use Rattle.macho_image.specs.Order.{addresses_of}
use Rattle.macho_image.specs.Places.{wrap, above}
use Rattle.macho_image.specs.Segments.{header_address, number_of, number_within}
use Rattle.macho_image.proofs.Unbroken.{or_none, broken_none}
use Rattle.bind_ops.specs.Records.{BoundWord}
use Rattle.bind_ops.specs.Binds.{places_of as bind_places}
use Rattle.split_info.specs.declared.reference.RefKind.{RefKind}
use Rattle.split_info.specs.declared.reference.RefKind.TheVariants.{Pointer64, Delta32, Delta64, ImageOff32}
use Rattle.split_info.specs.declared.reference.Reference.{Reference}
use Rattle.split_info.specs.References.{width_of}
use Rattle.split_info.specs.Overlap.{is_pointer, shares, meets_word, strays, overlap_at}
use Rattle.split_info.specs.Split.{spelled_of, references_of, reading_break, split_break, IsReference, AreReferences}
use Rattle.split_info.proofs.AcceptLaws.{accepted}
use Rattle.prebind.specs.Sets.{StreamLists, ImageSet, IsSplitRead, AreStreamsOf}
use Rattle.prebind.specs.Numbers.{extended, led_to}
use Rattle.prebind.specs.Targets.{reference_number, reference_target}
use Rattle.prebind.specs.Words.{placed_bind}
use Rattle.load_model.specs.Loading.{in_memory, loaded, segment_cells}
use Rattle.load_model.specs.Corresponds.{Leads, loaded_side}
use Rattle.load_model.proofs.NumberLaws.{address_on}
use Rattle.load_model.proofs.LoadingLaws.{IsLow, low_at, length-in_memory, in_memory-byte, loaded_cell}
use Rattle.load_model.proofs.BoundLaws.{places_of}
use Rattle.load_model.proofs.RebasedLaws.{IsFree, free_byte, rebases_low}
use Rattle.dsc_base.proofs.SpeltLaws.{spelt_byte}
use Rattle.load_model.proofs.WordCases.{IsIn, in_cases, in_none, in_map, all_in}
use Rattle.load_model.proofs.SpreadLaws.{free_of_binds, free_of_rebases, rebases_read}
use Rattle.load_model.proofs.LoadedWords.{IsReadImage, unbound_cell, slid_start}

-- each byte of a segment is below 256
abbrev pub HaveBytes : List Seg → Type 0
HaveBytes ss = (g : ℕ) (t : Seg) → slice_get ss g ≡ Some t → (n : ℕ) → get_or t.bytes n 0 < 256

-- ---- the bytes of a segment that no word has

-- an address in no word has its segment's byte
pub plain_cell : (set : ImageSet) (slides : ℕ → ℕ) (k g d : ℕ) (i : Img) (s : StreamLists) (t : Seg) → IsReadImage set k i s → slice_get i.segments g ≡ Some t → d < t.vmsize
    → IsFree (t.vmaddr + d) (addresses_of s.rebases) → IsFree (t.vmaddr + d) (places_of (map (placed_bind set k) s.binds))
    → loaded set slides k (wrap (t.vmaddr + d + slides k)) ≡ Some (get_or (in_memory t) d 0)
plain_cell set slides k g d i s t read got lt unrebased unbound =
    let low : IsLow t = low_at g t i.segments read.apart got in
    let end : t.vmaddr + t.vmsize ≤ 0x800000000000 = low.low in
    unbound_cell set slides k (t.vmaddr + d) i s read (omega (arith, end, lt)) unbound
    ∙ (free_byte (slides k) (t.vmaddr + d) (addresses_of s.rebases) (segment_cells (slides k) i.segments) (omega (arith, end, lt)) (rebases_low i s.rebases read.apart (rebases_read i s read.sound)) unrebased
    ∙ loaded_cell (slides k) d g t i.segments read.apart got lt)

-- ---- references that were accepted

split_accepted : (i : Img) (s : StreamLists) → IsSound i → IsSplitRead i s → AreReferences i s.rebases (bind_places s.binds) s.references
unfolding split_break
split_accepted i s sound read =
    let two = or_none (reading_break s.rebases 0 (spelled_of i.streams.split i)) (broken SplitOverlap (overlap_at s.rebases (bind_places s.binds) (references_of i.streams.split i))) read.accepted in
    subst (λ (rs : List Reference). AreReferences i s.rebases (bind_places s.binds) rs) (sym read.is)
    (accepted i i.streams.split s.rebases (bind_places s.binds) sound two.0 (broken_none SplitOverlap (overlap_at s.rebases (bind_places s.binds) (references_of i.streams.split i)) two.1))

-- what is true of each reference, where there is one
pub reference_accepted : (i : Img) (s : StreamLists) (r : Reference) → IsSound i → AreStreamsOf i s → IsIn s.references r → IsReference i s.rebases r × (strays s.rebases (bind_places s.binds) r ≡ false)
reference_accepted i s r sound streams there = elim streams.references [
  | inl read ↦
      let are : AreReferences i s.rebases (bind_places s.binds) s.references = split_accepted i s sound read in
      (all_in (IsReference i s.rebases) s.references r are.all there, all_in (λ (q : Reference). strays s.rebases (bind_places s.binds) q ≡ false) s.references r are.off_words there)
  | inr none ↦ absurd (in_none r (subst (λ (rs : List Reference). IsIn rs r) none there))
]

-- ---- they share no byte with a word

pub not_met : (words : List Location) (r : Reference) (l : Location) → meets_word words r ≡ false → IsIn words l → shares r.from (width_of r.kind) l.address 8 ≡ false
not_met [] r l none there = absurd (in_none l there)
not_met (m ∷ ms) r l none there =
    let two = or_parts (shares r.from (width_of r.kind) m.address 8) (meets_word ms r) none in
    elim (in_cases m ms l there) [
      | inl is ↦ subst (λ (x : Location). shares r.from (width_of r.kind) x.address 8 ≡ false) is two.0
      | inr later ↦ not_met ms r l two.1 later
    ]

pub apart_byte : (from width a n : ℕ) → shares from width a 8 ≡ false → n < width → (from + n < a) ⊎ (a + 8 ≤ from + n)
apart_byte from width a n none lt = elim (cases_lt (from + n) a) [
  | inl before ↦ inl before
  | inr behind ↦ elim (cases_lt (from + n) (a + 8)) [
    | inl within ↦
        let first : from < a + 8 = omega (arith, within) in
        let last : a < from + width = omega (arith, behind, lt) in
        absurd (false≢true (sym none ∙ (let both : shares from width a 8 ≡ true = grind (arith, nat_tests) in both)))
    | inr above ↦ inr above
  ]
]

pub no_word : (rebases bound : List Location) (r : Reference) → is_pointer r.kind ≡ false → strays rebases bound r ≡ false → (meets_word rebases r ≡ false) × (meets_word bound r ≡ false)
no_word rebases bound r other none = at (is_pointer r.kind) (meets_word rebases r) (meets_word bound r) other none
  where
    at : (p a b : Bool) → p ≡ false → not p && (a || b) ≡ false → (a ≡ false) × (b ≡ false)
    at true a b other none = absurd (cc)
    at false a b other none = or_parts a b none

-- ---- where they lead

-- both ends of a difference move alike, and so does a header
pub kind_leads : (kind : RefKind) (from header n slide : ℕ) → is_pointer kind ≡ false → led_to kind (wrap (from + slide)) (wrap (header + slide)) n ≡ wrap (led_to kind from header n + slide)
unfolding led_to
kind_leads Pointer64 from header n slide other = absurd (cc)
kind_leads Delta32 from header n slide other = moved from (extended n) slide
  where
    moved : (a b c : ℕ) → wrap (wrap (a + c) + b) ≡ wrap (wrap (a + b) + c)
    moved a b c = omega arith
kind_leads Delta64 from header n slide other = omega arith
kind_leads ImageOff32 from header n slide other = omega arith

-- ---- a reference

bytes_in_memory : (t : Seg) → ((n : ℕ) → get_or t.bytes n 0 < 256) → (n : ℕ) → get_or (in_memory t) n 0 < 256
bytes_in_memory t bytes n = subst (λ (b : ℕ). b < 256) (sym (in_memory-byte t n)) (bytes n)

number_in_memory : (w at : ℕ) (t : Seg) → number_at w t.bytes at ≡ number_at w (in_memory t) at
number_in_memory w at t = number_at-same w t.bytes (in_memory t) at at (λ k lt. sym (in_memory-byte t (at + k)))

number_read : (ss : List Seg) (r : Reference) (t : Seg) → slice_get ss r.from_segment ≡ Some t → reference_number ss r ≡ number_at (width_of r.kind) t.bytes (r.from - t.vmaddr)
unfolding number_of
number_read ss r t got = ap (λ (o : Option Seg). number_within (width_of r.kind) o r.from) got

-- as many bytes as a kind has hold its number
pub width_holds : (kind : RefKind) (n : ℕ) → n < 256 ^ width_of kind → n < 2 ^ (8 * width_of kind)
width_holds Pointer64 n small = omega arith
width_holds Delta32 n small = omega arith
width_holds Delta64 n small = omega arith
width_holds ImageOff32 n small = omega arith

pub reference_leads : (set : ImageSet) (slides : ℕ → ℕ) (k : ℕ) (i : Img) (s : StreamLists) (r : Reference) → IsReadImage set k i s → IsSound i → HaveBytes i.segments → IsIn s.references r → is_pointer r.kind ≡ false
    → Leads (loaded_side set slides k) r.from (header_address i.segments) r.kind (reference_target k i.segments r)
reference_leads set slides k i s r read sound bytes there other =
    let two = reference_accepted i s r sound read.sound there in
    let own : IsReference i s.rebases r = two.0 in
    let t : Seg = own.segment in
    let w : ℕ = width_of r.kind in
    let d : ℕ = r.from - own.segment.vmaddr in
    let header : ℕ = header_address i.segments in
    let number : ℕ = number_at (width_of r.kind) own.segment.bytes (r.from - own.segment.vmaddr) in
    let free = no_word s.rebases (bind_places s.binds) r other two.1 in
    let low : IsLow own.segment = low_at r.from_segment own.segment i.segments read.apart own.segment_is in
    let within : d + w ≤ length (in_memory t) = omega (arith, own.from, own.to, length-in_memory t low) in
    let read_is : reference_number i.segments r ≡ number = number_read i.segments r t own.segment_is in
    record {
      number = number;
      fits = width_holds r.kind number (number_at-lt w t.bytes d (bytes r.from_segment t own.segment_is));
      there = λ n lt.
          let place : r.from + n + slides k ≡ own.segment.vmaddr + (r.from - own.segment.vmaddr + n) + slides k = omega (arith, own.from) in
          let at : own.segment.vmaddr + (r.from - own.segment.vmaddr + n) ≡ r.from + n = omega (arith, own.from) in
          let unrebased : IsFree (t.vmaddr + (d + n)) (addresses_of s.rebases) =
          subst (λ (y : ℕ). IsFree y (addresses_of s.rebases)) (sym at)
          (free_of_rebases (r.from + n) s.rebases (λ l in_l. apart_byte r.from w l.address n (not_met s.rebases r l free.0 in_l) lt)) in
          let unbound : IsFree (t.vmaddr + (d + n)) (places_of (map (placed_bind set k) s.binds)) =
          subst (λ (y : ℕ). IsFree y (places_of (map (placed_bind set k) s.binds))) (sym at)
          (free_of_binds set k (r.from + n) s.binds (λ b in_b. apart_byte r.from w b.at.address n (not_met (bind_places s.binds) r b.at free.1 (in_map (λ (c : BoundWord). c.at) s.binds b in_b)) lt)) in
          ap (loaded set slides k) (address_on r.from (slides k) n)
          ∙ (ap (λ (x : ℕ). loaded set slides k (wrap x)) place
          ∙ (plain_cell set slides k r.from_segment (d + n) i s t read own.segment_is (omega (arith, lt, own.from, own.to)) unrebased unbound
          ∙ ap (λ (b : ℕ). Some b) (sym (ap (λ (v : ℕ). slice_index (little_bytes w v) n) (number_in_memory w d t) ∙ spelt_byte w d n (in_memory t) within (bytes_in_memory t (bytes r.from_segment t own.segment_is)) lt))));
      leads =
          kind_leads r.kind r.from header number (slides k) other
          ∙ (ap (λ (v : ℕ). wrap (led_to r.kind r.from header v + slides k)) (sym read_is)
          ∙ sym (slid_start set slides k r.to_segment (led_to r.kind r.from header (reference_number i.segments r)) i read.of.image_is read.apart));
    }
