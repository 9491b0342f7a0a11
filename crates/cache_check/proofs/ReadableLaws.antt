-- A cache of which nothing is found can be read: its head, its shape and its chains are as they should be.
use Rattle.std.proofs.Common.{◌≡◌, ◌<◌, ℕ, ◌+◌, ◌*◌, ◌/◌, ◌^◌, Bool, true, false, not, nat_eq, nat_le, Some, None, List, length, take, drop, get_or, refl, sym, subst, arith, inl, inr, if◌then◌else◌}
use Rattle.std.proofs.lemmas.Bool.{cases_lt, and_parts, eqb-true}
use Rattle.std.proofs.lemmas.List.{get_or-take, get_or-drop, get_or_past, length-take}
use Rattle.dsc_base.specs.Numbers.{number_at}
use Rattle.dsc_base.specs.declared.fault.Finding.{Finding}
use Rattle.dsc_base.specs.declared.finding_kind.FindingKind.TheVariants.{SlideInfoShape, MaskShape}
use Rattle.dsc_base.proofs.NumberLaws.{number_at-lt}
use Rattle.slide_chain.specs.Chains.{IsRun}
use Rattle.slide_chain.specs.Info.{info_read, is_shaped, is_run, info_finding}
use Rattle.slide_chain.proofs.InfoLaws.{is_run-true, length-halves_at}
use Rattle.cache_header.specs.Records.{Head}
use Rattle.cache_header.specs.Reading.{head_read}
use Rattle.cache_header.specs.Findings.{head_finding}
use Rattle.cache_check.specs.Shape.{data_mapping, shape_finding}
use Rattle.cache_check.specs.Views.{slide_bytes, slide_finding, view_finding}
use Rattle.cache_check.proofs.CachedLaws.{neither}
use Rattle.cache_check.proofs.ViewLaws.{IsReadable, data_pages, suits_of, chains_none}

abbrev pub AreBytes : List ℕ → Type 0
AreBytes xs = (k : ℕ) → get_or xs k 0 < 256

pub taken : (n : ℕ) (xs : List ℕ) → AreBytes xs → AreBytes (take n xs)
taken n xs bytes k = elim (cases_lt k n) [
  | inl inside ↦ subst (λ (b : ℕ). b < 256) (sym (get_or-take n xs k 0 inside)) (bytes k)
  | inr past ↦ subst (λ (b : ℕ). b < 256) (sym (get_or_past (take n xs) k 0 (omega (arith, past, length-take n xs)))) (omega arith)
]

pub dropped : (n : ℕ) (xs : List ℕ) → AreBytes xs → AreBytes (drop n xs)
dropped n xs bytes k = subst (λ (b : ℕ). b < 256) (sym (get_or-drop n xs k 0)) (bytes (n + k))

either_none : (a b : Bool) (x y : Finding) → (if not a then Some x else (if not b then Some y else None)) ≡ None → (a ≡ true) × (b ≡ true)
either_none true true x y none = (refl, refl)
either_none true false x y none = absurd (cc)
either_none false b x y none = absurd (cc)

info_none : (size : ℕ) (bytes : List ℕ) → info_finding size bytes ≡ None → (is_shaped size bytes ≡ true) × (is_run (number_at 8 bytes 24) ≡ true)
unfolding info_finding
info_none size bytes none = either_none (is_shaped size bytes) (is_run (number_at 8 bytes 24)) (record { kind = SlideInfoShape; image = 0; at = 0x38 }) (record { kind = MaskShape; image = 0; at = 0x38 }) none

starts_counted : (size : ℕ) (bytes : List ℕ) → is_shaped size bytes ≡ true → number_at 4 bytes 12 ≡ size / 4096
unfolding is_shaped
starts_counted size bytes shaped =
    let one = and_parts (nat_le 40 (length bytes)) _ shaped in
    let two = and_parts (nat_eq (number_at 4 bytes 0) 2) _ one.1 in
    let three = and_parts (nat_eq (number_at 4 bytes 4) 4096) _ two.1 in
    eqb-true (number_at 4 bytes 12) (size / 4096) (and_parts (nat_eq (number_at 4 bytes 12) (size / 4096)) _ three.1).0

starts_read : (bytes : List ℕ) → length (info_read bytes).starts ≡ number_at 4 bytes 12
unfolding info_read
starts_read bytes = length-halves_at (number_at 4 bytes 12) bytes (number_at 4 bytes 8)

mask_read : (bytes : List ℕ) → (info_read bytes).mask ≡ number_at 8 bytes 24
unfolding info_read
mask_read bytes = refl

pub readable : (cache : List ℕ) → AreBytes cache → view_finding cache ≡ None → IsReadable cache
unfolding view_finding slide_finding
readable cache bytes none =
    let head : Head = head_read cache in
    let info : List ℕ = slide_bytes (head_read cache) cache in
    let size : ℕ = (data_mapping (head_read cache).mappings).size in
    let one = neither (head_finding cache) _ none in
    let two = neither (shape_finding (length cache) head) _ one.1 in
    let three = neither (slide_finding head cache) None two.1 in
    let four = neither (info_finding size info) _ three.0 in
    let shaped = info_none size info four.0 in
    let small : number_at 8 info 24 < 256 ^ 8 = number_at-lt 8 info 24 (taken (head_read cache).slide_info.len (drop (head_read cache).slide_info.at cache) (dropped (head_read cache).slide_info.at cache bytes)) in
    let run : IsRun (info_read info).mask = subst IsRun (sym (mask_read info)) (is_run-true (number_at 8 info 24) small shaped.1) in
    let pages : length (info_read info).starts * 4096 ≡ size =
    omega (arith, starts_read info, starts_counted size info shaped.0, data_pages (length cache) (head_read cache) two.0) in
    record { head = one.0; shape = two.0; suits = suits_of (info_read info) (head_read cache) cache two.0 pages run; chains = chains_none (head_read cache) cache three.0 }
