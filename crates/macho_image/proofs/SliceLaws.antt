-- The dylib of a file is a part of it.
use Rattle.std.proofs.Common.{◌≡◌, ◌≤◌, ◌<◌, ℕ, ◌+◌, ◌*◌, Bool, true, false, if◌then◌else◌, nat_le, Option, Some, None, List, [], drop, length, All, refl, ap, subst, arith, inl, inr, ◌⊎◌}
use Rattle.std.specs.Prelude.{find, unwrap_or, option_map}
use Rattle.std.proofs.lemmas.Bool.Decides.{nat_tests}
use Rattle.std.proofs.lemmas.List.Elements.{All-take, All-drop, All-nil}
use Rattle.dsc_base.specs.declared.fault.Span.{Span}
use Rattle.macho_image.specs.Universal.{big_at, archs_in, is_x86_64, part_of, picked, slice_of, bytes_of}
use Rattle.macho_image.specs.Files.{dylib_of}

either : (b : Bool) (x y : Option Span) (s : Span) → (if b then x else y) ≡ Some s → (x ≡ Some s) ⊎ (y ≡ Some s)
either true x y s is = inl is
either false x y s is = inr is

inside_if : (n at size : ℕ) (s : Span) (b : Bool) → b ≡ nat_le (at + size) n → (if b then Some (record { at = at; len = size }) else None) ≡ Some s → s.at + s.len ≤ n
inside_if n at size s true fits is =
    let same : record { at = at; len = size } ≡ s = cc in
    let within : at + size ≤ n = grind (arith, nat_tests, fits) in
    subst (λ (t : Span). t.at + t.len ≤ n) same within
inside_if n at size s false fits is = absurd (cc)

part_inside : (file : List ℕ) (s : Span) → part_of (length file) (find is_x86_64 (archs_in (big_at file 4) (drop 8 file))) ≡ Some s → s.at + s.len ≤ length file
part_inside file s is =
    elim (find is_x86_64 (archs_in (big_at file 4) (drop 8 file))) as (λ o. part_of (length file) o ≡ Some s → s.at + s.len ≤ length file) [
      | None ↦ λ none. absurd (cc)
      | Some a ↦ λ own. inside_if (length file) a.offset a.size s (nat_le (a.offset + a.size) (length file)) refl own
    ] is

picked_inside : (file : List ℕ) (s : Span) → picked file ≡ Some s → s.at + s.len ≤ length file
picked_inside file s is =
    elim (either (nat_le (8 + 20 * big_at file 4) (length file)) (part_of (length file) (find is_x86_64 (archs_in (big_at file 4) (drop 8 file)))) None s is) [
      | inl part ↦ part_inside file s part
      | inr none ↦ absurd (cc)
    ]

pub slice_inside : (file : List ℕ) (s : Span) → slice_of file ≡ Some s → s.at + s.len ≤ length file
unfolding slice_of
slice_inside file s is =
    elim (either _ (picked file) (Some (record { at = 0; len = length file })) s is) [
      | inl part ↦ picked_inside file s part
      | inr whole ↦
          let same : record { at = 0; len = length file } ≡ s = cc in
          subst (λ (t : Span). t.at + t.len ≤ length file) same (omega arith)
    ]

pub dylib_is : (file : List ℕ) (s : Span) → slice_of file ≡ Some s → dylib_of file ≡ bytes_of file s
unfolding dylib_of
dylib_is file s is = ap (λ (o : Option Span). unwrap_or (option_map (bytes_of file) o) []) is

pub dylib_bytes : (file : List ℕ) → All (λ (b : ℕ). b < 256) file → All (λ (b : ℕ). b < 256) (dylib_of file)
unfolding dylib_of
dylib_bytes file bytes =
    elim (slice_of file) as (λ o. All (λ (b : ℕ). b < 256) (unwrap_or (option_map (bytes_of file) o) [])) [
      | None ↦ All-nil (λ (b : ℕ). b < 256)
      | Some s ↦ All-take (λ (b : ℕ). b < 256) s.len (drop s.at file) (All-drop (λ (b : ℕ). b < 256) s.at file bytes)
    ]
