-- The bytes of a section that are in no word: each is loaded as its segment has it.
use Rattle.std.proofs.Common.{◌≡◌, ◌≤◌, ◌<◌, ◌⊎◌, ℕ, ◌+◌, ◌-◌, Bool, true, ◌||◌, nat_eq, Some, List, [], ◌∷◌, map, get_or, refl, sym, ap, ◌∙◌, subst, arith, inl, inr}
use Rattle.std.specs.Prelude.{slice_get}
use Rattle.std.proofs.lemmas.Bool.{cases_Bool, cases_lt}
use Rattle.std.proofs.lemmas.Bool.Decides.{nat_tests}
use Rattle.macho_image.specs.Records.{Seg, Img}
use Rattle.macho_image.specs.Breaks.{IsSound}
use Rattle.macho_image.specs.Order.{addresses_of}
use Rattle.macho_image.specs.declared.section.Section.{Section}
use Rattle.macho_image.specs.declared.place.Location.{Location}
use Rattle.macho_image.specs.Places.{wrap, IsWord}
use Rattle.bind_ops.specs.Records.{BoundWord}
use Rattle.split_info.proofs.SoundSections.{IsInside, section_inside}
use Rattle.prebind.specs.declared.resolved.PlacedWord.{PlacedWord}
use Rattle.prebind.specs.Sets.{StreamLists, ImageSet}
use Rattle.prebind.specs.Words.{Word, placed_bind, is_bound, pointer_word, words_of}
use Rattle.load_model.specs.Loading.{in_memory, loaded}
use Rattle.load_model.specs.Corresponds.{InWord}
use Rattle.load_model.proofs.BoundLaws.{places_of}
use Rattle.load_model.proofs.RebasedLaws.{IsFree}
use Rattle.load_model.proofs.WordCases.{IsIn, in_first, in_rest, covered, free_word, bound_in, free_in}
use Rattle.load_model.proofs.SpreadLaws.{free_of_binds, free_of_rebases, bound_is_word, rebase_is_word}
use Rattle.load_model.proofs.LoadedWords.{IsReadImage}
use Rattle.load_model.proofs.LoadedReferences.{plain_cell}
use Rattle.load_model.proofs.WordPlaces.{one_section}

-- ---- words around a byte

-- the bind at an address that is bound
record HasBind (bs : List BoundWord) (a : ℕ) : Type 0 where
  bind : BoundWord
  there : IsIn bs bind
  is : bind.at.address ≡ a

bind_at : (bs : List BoundWord) (a : ℕ) → is_bound bs a ≡ true → HasBind bs a
bind_at [] a bound = absurd (cc)
bind_at (b ∷ bs) a bound = elim (cases_Bool (nat_eq b.at.address a)) [
  | inl here ↦ record { bind = b; there = in_first b bs; is = grind (arith, nat_tests, here) }
  | inr other ↦
      let rest : HasBind bs a = bind_at bs a (sym (ap (λ (t : Bool). t || is_bound bs a) other) ∙ bound) in
      record { bind = rest.bind; there = in_rest b bs rest.bind rest.there; is = rest.is }
]

-- a byte of a section that lies in a pointer of the image is in its word
in_pointer : (set : ImageSet) (k : ℕ) (i : Img) → IsSound i → (j offset : ℕ) (u : Section) (w : PlacedWord) → slice_get i.sections j ≡ Some u → offset < u.size → IsIn (words_of set k) (pointer_word w) → IsWord i w.at
    → w.at.address ≤ u.addr + offset → u.addr + offset < w.at.address + 8 → InWord (words_of set k) (j + 1) u offset
in_pointer set k i sound j offset u w got lt there word from to =
    let same : j ≡ w.at.section - 1 =
    one_section i sound j (w.at.section - 1) u word.section got word.section_is (u.addr + offset) (omega arith) (omega (arith, lt)) (omega (arith, word.section_from, from)) (omega (arith, word.section_to, to)) in
    covered (words_of set k) (pointer_word w) (j + 1) offset u there (omega (arith, same, word.section_counts), u.addr + offset - w.at.address, omega (arith, from, to), omega (arith, from))

in_bind : (set : ImageSet) (k : ℕ) (i : Img) (s : StreamLists) (b : BoundWord) (j offset : ℕ) (u : Section) → IsReadImage set k i s → IsSound i → slice_get i.sections j ≡ Some u → offset < u.size → IsIn s.binds b
    → b.at.address ≤ u.addr + offset → u.addr + offset < b.at.address + 8 → InWord (words_of set k) (j + 1) u offset
in_bind set k i s b j offset u read sound got lt there from to =
    in_pointer set k i sound j offset u (placed_bind set k b) got lt (bound_in set k i s b read.of there) (bound_is_word i s b read.sound there) from to

in_rebase : (set : ImageSet) (k : ℕ) (i : Img) (s : StreamLists) (l : Location) (j offset : ℕ) (u : Section) → IsReadImage set k i s → IsSound i → slice_get i.sections j ≡ Some u → offset < u.size → IsIn s.rebases l
    → l.address ≤ u.addr + offset → u.addr + offset < l.address + 8 → InWord (words_of set k) (j + 1) u offset
in_rebase set k i s l j offset u read sound got lt there from to = elim (cases_Bool (is_bound s.binds l.address)) [
  | inl bound ↦
      let found : HasBind s.binds l.address = bind_at s.binds l.address bound in
      in_bind set k i s found.bind j offset u read sound got lt found.there (omega (arith, found.is, from)) (omega (arith, found.is, to))
  | inr free ↦
      let w : Word = free_word k i s l in
      in_pointer set k i sound j offset u (record { at = w.at; target = w.target }) got lt (free_in set k i s l read.of there free) (rebase_is_word i s l read.sound there) from to
]

outside : (y a : ℕ) → (a ≤ y → y < a + 8 → ⊥) → (y < a) ⊎ (a + 8 ≤ y)
outside y a none = elim (cases_lt y a) [
  | inl before ↦ inl before
  | inr from ↦ elim (cases_lt y (a + 8)) [ inl to ↦ absurd (none from to) | inr behind ↦ inr behind ]
]

-- ---- each other byte

-- a byte of a section, by how far it lies above the start of its segment, as it is loaded
pub record IsLoadedByte (set : ImageSet) (slides : ℕ → ℕ) (k : ℕ) (i : Img) (u : Section) (offset : ℕ) : Type 0 where
  pub home : Seg
  pub found : slice_get i.segments u.segment ≡ Some home
  pub above : home.vmaddr ≤ u.addr
  pub distance : ℕ
  pub far : distance ≡ u.addr - home.vmaddr + offset
  pub within : distance < home.vmsize
  pub there : loaded set slides k (wrap (u.addr + offset + slides k)) ≡ Some (get_or (in_memory home) distance 0)

pub other_byte : (set : ImageSet) (slides : ℕ → ℕ) (k : ℕ) (i : Img) (s : StreamLists) (j offset : ℕ) (u : Section) → IsReadImage set k i s → IsSound i → slice_get i.sections j ≡ Some u → offset < u.size
    → (InWord (words_of set k) (j + 1) u offset → ⊥) → IsLoadedByte set slides k i u offset
other_byte set slides k i s j offset u read sound got lt none =
    let is : IsInside i u = section_inside i j u sound got in
    let d : ℕ = u.addr - is.segment.vmaddr + offset in
    let same : u.addr + offset ≡ is.segment.vmaddr + (u.addr - is.segment.vmaddr + offset) = omega (arith, is.from) in
    let unrebased : IsFree (u.addr + offset) (addresses_of s.rebases) =
    free_of_rebases (u.addr + offset) s.rebases (λ l there. outside (u.addr + offset) l.address (λ from to. none (in_rebase set k i s l j offset u read sound got lt there from to))) in
    let unbound : IsFree (u.addr + offset) (places_of (map (placed_bind set k) s.binds)) =
    free_of_binds set k (u.addr + offset) s.binds (λ b there. outside (u.addr + offset) b.at.address (λ from to. none (in_bind set k i s b j offset u read sound got lt there from to))) in
    let within : d < is.segment.vmsize = omega (arith, is.from, is.to, lt) in
    record {
      home = is.segment;
      found = is.segment_is;
      above = is.from;
      distance = d;
      far = refl;
      within = within;
      there = ap (λ (y : ℕ). loaded set slides k (wrap (y + slides k))) same
          ∙ plain_cell set slides k u.segment d i s is.segment read is.segment_is within
          (subst (λ (y : ℕ). IsFree y (addresses_of s.rebases)) same unrebased)
          (subst (λ (y : ℕ). IsFree y (places_of (map (placed_bind set k) s.binds))) same unbound);
    }
