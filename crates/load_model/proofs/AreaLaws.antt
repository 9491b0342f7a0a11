-- What a number that is put into the bytes of a segment leaves in memory.
use Rattle.std.proofs.Common.{Vec, Global, ◌≡◌, ◌≤◌, ◌<◌, ◌⊎◌, ℕ, zero, suc, ◌+◌, ◌-◌, Option, Some, List, [], ◌∷◌, map, drop, length, get_or, refl, sym, ap, ◌∙◌, subst, arith, inl, inr}
use Rattle.std.specs.Prelude.{slice_get, slice_set, unwrap_or}
use Rattle.std.proofs.lemmas.Bool.{cases_lt}
use Rattle.std.proofs.lemmas.List.{get_or-map, length-map, length-set, get_or-set_same, get_or-set_other, get_or-drop}
use Rattle.std.proofs.lemmas.Option.{same_Some, slice_get_within, get_or_from_slice_get}
use Rattle.dsc_base.specs.Numbers.{number_at, put_number}
use Rattle.dsc_base.proofs.NumberLaws.{get_or-put_below, get_or-put_within, get_or-put_above, length-put_number}
use Rattle.macho_image.specs.Records.{Seg}
use Rattle.macho_image.specs.Places.{wrap}
use Rattle.load_model.specs.Memory.{Cells, with_number, number_from}
use Rattle.load_model.specs.Loading.{in_memory, segment_cells}
use Rattle.load_model.specs.Phases.{contents}
use Rattle.load_model.specs.Areas.{IsArea, AreAreas}
use Rattle.load_model.proofs.NumberLaws.{address_on, number_there, byte_apart, number_from-bytes}
use Rattle.load_model.proofs.LoadingLaws.{KeepApart, IsLow, AreApartFrom, AreApart, length-in_memory, low_at, loaded_cell}

-- ---- lists of bytes

pub contents_set : (vs : List (Vec ℕ Global)) (i : ℕ) (y : Vec ℕ Global) (bytes : List ℕ) → y.items ≡ bytes → contents (slice_set vs i y) ≡ slice_set (contents vs) i bytes
contents_set [] i y bytes is = refl
contents_set (v ∷ vs) zero y bytes is = ap (λ (b : List ℕ). b ∷ contents vs) is
contents_set (v ∷ vs) (suc i) y bytes is = ap (λ (l : List (List ℕ)). v.items ∷ l) (contents_set vs i y bytes is)

pub contents_at : (vs : List (Vec ℕ Global)) (i : ℕ) (d : Vec ℕ Global) → i < length vs → get_or (contents vs) i [] ≡ (get_or vs i d).items
contents_at [] i d lt = absurd (omega arith)
contents_at (v ∷ vs) zero d lt = refl
contents_at (v ∷ vs) (suc i) d lt = contents_at vs i d (omega (arith, lt))

-- ---- segments in memory

-- before any word is set
pub areas_start : (slide : ℕ) (ss : List Seg) (areas : List (List ℕ)) → AreApart ss → areas ≡ map in_memory ss → AreAreas (segment_cells slide ss) slide ss areas
areas_start slide ss areas apart are = record {
  count = ap (λ (l : List (List ℕ)). length l) are ∙ length-map ss in_memory;
  each = λ g s got.
      let within : g < length ss = slice_get_within ss g s got in
      let is : get_or areas g [] ≡ in_memory s =
      ap (λ (l : List (List ℕ)). get_or l g []) are ∙ (get_or-map in_memory ss g s [] within ∙ ap in_memory (get_or_from_slice_get ss g s s got)) in
      record {
        size = ap (λ (b : List ℕ). length b) is ∙ length-in_memory s (low_at g s ss apart got);
        each = λ d lt. loaded_cell slide d g s ss apart got lt ∙ ap (λ (b : List ℕ). Some (get_or b d 0)) (sym is);
      };
}

-- the number of a word's bytes
pub area_number : (cells : Cells) (slide a : ℕ) (s : Seg) (bytes : List ℕ) → IsArea cells slide s bytes → s.vmaddr ≤ a → a + 8 ≤ s.vmaddr + s.vmsize → number_from 8 cells (wrap (a + slide)) ≡ number_at 8 bytes (a - s.vmaddr)
unfolding number_at
area_number cells slide a s bytes area from to =
    number_from-bytes 8 a slide cells (drop (a - s.vmaddr) bytes)
    (λ k lt.
    let place : a + k + slide ≡ s.vmaddr + (a - s.vmaddr + k) + slide = omega (arith, from) in
    ap (λ (x : ℕ). unwrap_or (cells (wrap x)) 0) place
    ∙ (ap (λ (o : Option ℕ). unwrap_or o 0) (area.each (a - s.vmaddr + k) (omega (arith, lt, from, to)))
    ∙ sym (get_or-drop (a - s.vmaddr) bytes k 0)))

-- a segment in which a number is put
put_there : (cells : Cells) (slide a v : ℕ) (s : Seg) (bytes : List ℕ) → IsLow s → IsArea cells slide s bytes → s.vmaddr ≤ a → a + 8 ≤ s.vmaddr + s.vmsize
    → IsArea (with_number 8 (wrap (a + slide)) v cells) slide s (put_number 8 bytes (a - s.vmaddr) v)
put_there cells slide a v s bytes low area from to =
    let end : s.vmaddr + s.vmsize ≤ 0x800000000000 = low.low in
    let at : ℕ = a - s.vmaddr in
    let inside : a - s.vmaddr + 8 ≤ length bytes = omega (arith, from, to, area.size) in
    record {
      size = length-put_number 8 bytes at v inside ∙ area.size;
      each = λ d lt. elim (cases_lt d at) [
        | inl before ↦
            byte_apart 8 a (s.vmaddr + d) slide v cells (omega arith) (omega (arith, end, to)) (omega (arith, end, lt)) (inl (omega (arith, before)))
            ∙ (area.each d lt ∙ ap (λ (b : ℕ). Some b) (sym (get_or-put_below 8 bytes at v d (omega (arith, inside)) before)))
        | inr behind ↦ elim (cases_lt d (at + 8)) [
          | inr above ↦
              byte_apart 8 a (s.vmaddr + d) slide v cells (omega arith) (omega (arith, end, to)) (omega (arith, end, lt)) (inr (omega (arith, above, from)))
              ∙ (area.each d lt ∙ ap (λ (b : ℕ). Some b) (sym (get_or-put_above 8 bytes at v d (omega (arith, inside)) above)))
          | inl within ↦
              let k : ℕ = d - at in
              let place : s.vmaddr + d + slide ≡ a + (d - (a - s.vmaddr)) + slide = omega (arith, behind, from) in
              let far : a - s.vmaddr + (d - (a - s.vmaddr)) ≡ d = omega (arith, behind) in
              ap (λ (x : ℕ). with_number 8 (wrap (a + slide)) v cells (wrap x)) place
              ∙ (ap (with_number 8 (wrap (a + slide)) v cells) (sym (address_on a slide k))
              ∙ (number_there 8 a slide v cells (omega arith) k (omega (arith, within, behind))
              ∙ ap (λ (b : ℕ). Some b) (sym (get_or-put_within 8 bytes at v k (omega (arith, inside)) (omega (arith, within, behind))) ∙ ap (λ (n : ℕ). get_or (put_number 8 bytes at v) n 0) far)))
        ]
      ];
    }

-- and one apart from it
put_apart : (cells : Cells) (slide a v : ℕ) (s t : Seg) (bytes : List ℕ) → IsLow s → IsLow t → KeepApart s t → IsArea cells slide t bytes → s.vmaddr ≤ a → a + 8 ≤ s.vmaddr + s.vmsize
    → IsArea (with_number 8 (wrap (a + slide)) v cells) slide t bytes
put_apart cells slide a v s t bytes low other apart area from to =
    let end : s.vmaddr + s.vmsize ≤ 0x800000000000 = low.low in
    let last : t.vmaddr + t.vmsize ≤ 0x800000000000 = other.low in
    record {
      size = area.size;
      each = λ d lt.
          let off : (t.vmaddr + d < a) ⊎ (a + 8 ≤ t.vmaddr + d) = elim (cases_lt (t.vmaddr + d) a) [
            | inl before ↦ inl before
            | inr behind ↦ elim (cases_lt (t.vmaddr + d) (a + 8)) [
              | inl within ↦ absurd (apart (t.vmaddr + d) (omega (arith, from, behind)) (omega (arith, to, within)) (omega arith) (omega (arith, lt)))
              | inr above ↦ inr above
            ]
          ] in
          byte_apart 8 a (t.vmaddr + d) slide v cells (omega arith) (omega (arith, end, to)) (omega (arith, last, lt)) off ∙ area.each d lt;
    }

apart_at : (s : Seg) (ts : List Seg) (h : ℕ) (t : Seg) → AreApartFrom s ts → slice_get ts h ≡ Some t → KeepApart s t
apart_at s [] h t apart got = absurd (cc)
apart_at s (u ∷ us) zero t apart got = subst (λ (x : Seg). KeepApart s x) (same_Some u t got) apart.0
apart_at s (u ∷ us) (suc h) t apart got = apart_at s us h t apart.1 got

turned : (s t : Seg) → KeepApart s t → KeepApart t s
turned s t apart x low high from to = apart x from to low high

two_apart : (ss : List Seg) (g h : ℕ) (s t : Seg) → AreApart ss → slice_get ss g ≡ Some s → slice_get ss h ≡ Some t → (h ≡ g → ⊥) → KeepApart s t
two_apart [] g h s t apart first second other = absurd (cc)
two_apart (u ∷ us) zero zero s t apart first second other = absurd (other refl)
two_apart (u ∷ us) zero (suc h) s t apart first second other = subst (λ (x : Seg). KeepApart x t) (same_Some u s first) (apart_at u us h t apart.1 second)
two_apart (u ∷ us) (suc g) zero s t apart first second other = turned t s (subst (λ (x : Seg). KeepApart x s) (same_Some u t second) (apart_at u us g s apart.1 first))
two_apart (u ∷ us) (suc g) (suc h) s t apart first second other = two_apart us g h s t apart.2 first second (λ is. other (ap suc is))

-- where a number is put into one of the segments
pub areas_put : (cells : Cells) (slide a v g : ℕ) (s : Seg) (ss : List Seg) (areas : List (List ℕ)) → AreApart ss → AreAreas cells slide ss areas → slice_get ss g ≡ Some s → s.vmaddr ≤ a → a + 8 ≤ s.vmaddr + s.vmsize
    → AreAreas (with_number 8 (wrap (a + slide)) v cells) slide ss (slice_set areas g (put_number 8 (get_or areas g []) (a - s.vmaddr) v))
areas_put cells slide a v g s ss areas apart are got from to =
    let bytes : List ℕ = put_number 8 (get_or areas g []) (a - s.vmaddr) v in
    let within : g < length areas = omega (arith, slice_get_within ss g s got, are.count) in
    record {
      count = length-set areas g bytes ∙ are.count;
      each = λ h t there. elim (cases_eq h g) [
        | inl is ↦
            let same : s ≡ t = same_Some s t (sym got ∙ (ap (λ (n : ℕ). slice_get ss n) (sym is) ∙ there)) in
            let here : get_or (slice_set areas g bytes) h [] ≡ bytes = ap (λ (n : ℕ). get_or (slice_set areas g bytes) n []) is ∙ get_or-set_same areas g bytes [] within in
            subst (λ (b : List ℕ). IsArea (with_number 8 (wrap (a + slide)) v cells) slide t b) (sym here)
            (subst (λ (u : Seg). IsArea (with_number 8 (wrap (a + slide)) v cells) slide u (put_number 8 (get_or areas g []) (a - s.vmaddr) v)) same
            (put_there cells slide a v s (get_or areas g []) (low_at g s ss apart got) (are.each g s got) from to))
        | inr other ↦
            subst (λ (b : List ℕ). IsArea (with_number 8 (wrap (a + slide)) v cells) slide t b) (sym (get_or-set_other areas g h bytes [] other))
            (put_apart cells slide a v s t (get_or areas h []) (low_at g s ss apart got) (low_at h t ss apart there) (two_apart ss g h s t apart got there other) (are.each h t there) from to)
      ];
    }
  where
    cases_eq : (h g : ℕ) → (h ≡ g) ⊎ (h ≡ g → ⊥)
    cases_eq h g = elim (cases_lt h g) [
      | inl less ↦ inr (λ is. omega (arith, less, is))
      | inr ge ↦ elim (cases_lt g h) [ inl more ↦ inr (λ is. omega (arith, more, is)) | inr le ↦ inl (omega (arith, ge, le)) ]
    ]
