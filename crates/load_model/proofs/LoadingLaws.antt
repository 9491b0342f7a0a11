-- What loading leaves of an image's segments, where no address is in two of them.
use Rattle.std.proofs.Common.{◌≡◌, ◌≤◌, ◌<◌, ℕ, zero, suc, ◌+◌, ◌-◌, ◌^◌, Some, List, [], ◌∷◌, length, get_or, replicate, refl, sym, ap, ◌∙◌, subst, arith, inl, inr, length-append}
use Rattle.std.specs.Prelude.{slice_get}
use Rattle.std.proofs.lemmas.Bool.{cases_lt}
use Rattle.std.proofs.Math.ListN.{get_or-append}
use Rattle.std.proofs.lemmas.List.{length-replicate, get_or-append_right, get_or_past}
use Rattle.macho_image.specs.Records.{Seg}
use Rattle.macho_image.specs.Places.{wrap, above}
use Rattle.load_model.specs.Memory.{Cells, with_bytes}
use Rattle.load_model.specs.Loading.{in_memory, segment_cells}
use Rattle.load_model.proofs.CellLaws.{cell_at, cell_behind, distance_is, distance_below}

-- no address is in both segments
abbrev pub KeepApart : Seg → Seg → Type 0
KeepApart s t = (x : ℕ) → s.vmaddr ≤ x → x < s.vmaddr + s.vmsize → t.vmaddr ≤ x → x < t.vmaddr + t.vmsize → ⊥

-- a segment lies below 2 ^ 47 and has its file's bytes, no more than its size
pub record IsLow (s : Seg) : Type 0 where
  pub low : s.vmaddr + s.vmsize ≤ 0x800000000000
  pub bytes : length s.bytes ≡ s.filesize
  pub within : s.filesize ≤ s.vmsize

abbrev pub AreApartFrom : Seg → List Seg → Type 0
AreApartFrom s [] = Unit {0}
AreApartFrom s (t ∷ ts) = KeepApart s t × AreApartFrom s ts

abbrev pub AreApart : List Seg → Type 0
AreApart [] = Unit {0}
AreApart (s ∷ ss) = IsLow s × AreApartFrom s ss × AreApart ss

pub length-in_memory : (s : Seg) → IsLow s → length (in_memory s) ≡ s.vmsize
length-in_memory s low =
    length-append s.bytes (replicate (s.vmsize - s.filesize) 0) ∙ omega (arith, low.bytes, low.within, length-replicate {A = ℕ} (s.vmsize - s.filesize) 0)

pub zero_byte : (n d : ℕ) → ◌≡◌ {A = ℕ} (get_or (replicate n 0) d 0) 0
zero_byte zero d = refl
zero_byte (suc n) zero = refl
zero_byte (suc n) (suc d) = zero_byte n d

-- behind the file's bytes there are zeros, as there are in no list
pub in_memory-byte : (s : Seg) (d : ℕ) → get_or (in_memory s) d 0 ≡ get_or s.bytes d 0
in_memory-byte s d =
    elim (cases_lt d (length s.bytes)) [
      | inl within ↦ get_or-append s.bytes (replicate (s.vmsize - s.filesize) 0) 0 d within
      | inr behind ↦
          get_or-append_right s.bytes (replicate (s.vmsize - s.filesize) 0) (length s.bytes) d 0 refl behind
          ∙ (zero_byte (s.vmsize - s.filesize) (d - length s.bytes) ∙ sym (get_or_past s.bytes d 0 behind))
    ]

apart_from : (s t : Seg) (g : ℕ) (ts : List Seg) → AreApartFrom s ts → slice_get ts g ≡ Some t → KeepApart s t
apart_from s t g [] apart got = absurd (cc)
apart_from s t zero (u ∷ ts) apart got = subst (λ (v : Seg). KeepApart s v) (is u t got) apart.0
  where
    is : (u t : Seg) → Some u ≡ Some t → u ≡ t
    is u t got = cc
apart_from s t (suc g) (u ∷ ts) apart got = apart_from s t g ts apart.1 got

pub low_at : (g : ℕ) (t : Seg) (ss : List Seg) → AreApart ss → slice_get ss g ≡ Some t → IsLow t
low_at g t [] apart got = absurd (cc)
low_at zero t (s ∷ ss) apart got = subst IsLow (is s t got) apart.0
  where
    is : (u t : Seg) → Some u ≡ Some t → u ≡ t
    is u t got = cc
low_at (suc g) t (s ∷ ss) apart got = low_at g t ss apart.2 got

-- an address of a segment isn't in another one
passed : (s t : Seg) (slide d : ℕ) (cells : Cells) → IsLow s → IsLow t → KeepApart s t → d < t.vmsize
    → with_bytes (wrap (s.vmaddr + slide)) (in_memory s) cells (wrap (t.vmaddr + d + slide)) ≡ cells (wrap (t.vmaddr + d + slide))
passed s t slide d cells low other apart lt =
    let long : length (in_memory s) ≡ s.vmsize = length-in_memory s low in
    let below : s.vmaddr + s.vmsize ≤ 0x800000000000 = low.low in
    let end : t.vmaddr + t.vmsize ≤ 0x800000000000 = other.low in
    elim (cases_lt (t.vmaddr + d) s.vmaddr) [
      | inl under ↦
          cell_behind (wrap (s.vmaddr + slide)) (wrap (t.vmaddr + d + slide)) (2 ^ 64 - (s.vmaddr - (t.vmaddr + d))) (in_memory s) cells
          (distance_below s.vmaddr (t.vmaddr + d) slide under (omega (arith, below))) (omega (arith, long, below))
      | inr over ↦ elim (cases_lt (t.vmaddr + d) (s.vmaddr + s.vmsize)) [
        | inl within ↦ absurd (apart (t.vmaddr + d) over within (omega arith) (omega (arith, lt)))
        | inr behind ↦
            let e : t.vmaddr + d ≡ s.vmaddr + (t.vmaddr + d - s.vmaddr) = omega (arith, over) in
            cell_behind (wrap (s.vmaddr + slide)) (wrap (t.vmaddr + d + slide)) (t.vmaddr + d - s.vmaddr) (in_memory s) cells
            (ap (λ (x : ℕ). above (wrap (s.vmaddr + slide)) (wrap (x + slide))) e ∙ distance_is s.vmaddr (t.vmaddr + d - s.vmaddr) slide (omega (arith, end, lt)))
            (omega (arith, long, behind))
      ]
    ]

-- a byte of a segment, as it is loaded
pub loaded_cell : (slide d g : ℕ) (t : Seg) (ss : List Seg) → AreApart ss → slice_get ss g ≡ Some t → d < t.vmsize
    → segment_cells slide ss (wrap (t.vmaddr + d + slide)) ≡ Some (get_or (in_memory t) d 0)
unfolding segment_cells
loaded_cell slide d g t [] apart got lt = absurd (cc)
loaded_cell slide d zero t (s ∷ ss) apart got lt =
    let is : t ≡ s = cc in
    let low : IsLow t = subst IsLow (sym is) apart.0 in
    ap (λ (u : Seg). with_bytes (wrap (u.vmaddr + slide)) (in_memory u) (segment_cells slide ss) (wrap (t.vmaddr + d + slide))) (sym is)
    ∙ cell_at (wrap (t.vmaddr + slide)) (wrap (t.vmaddr + d + slide)) d (in_memory t) (segment_cells slide ss)
    (distance_is t.vmaddr d slide (let below : t.vmaddr + t.vmsize ≤ 0x800000000000 = low.low in omega (arith, below, lt)))
    (omega (arith, length-in_memory t low, lt))
loaded_cell slide d (suc g) t (s ∷ ss) apart got lt =
    passed s t slide d (segment_cells slide ss) apart.0 (low_at g t ss apart.2 got) (apart_from s t g ss apart.1 got) lt
    ∙ loaded_cell slide d g t ss apart.2 got lt
