-- The rebase stream is what the rebase writer makes of the pointers: no two of them lie side by side, so each is a run of its own.
use Rattle.std.proofs.Common.{◌≡◌, ◌+◌, ◌-◌, ℕ, zero, suc, false, Option, Some, List, [], ◌∷◌, ◌++◌, slice_get, refl, sym, ap, ap₂, ◌∙◌, arith}
use Rattle.std.proofs.lemmas.Bool.{cond-false}
use Rattle.std.proofs.lemmas.Bool.Decides.{nat_tests}
use Rattle.dsc_base.specs.Uleb.{uleb_bytes}
use Rattle.macho_image.specs.Records.{Img, Seg}
use Rattle.macho_image.specs.declared.place.Location.{Location}
use Rattle.rebase_ops.specs.Writing.{Run, run_from, is_next, in_front, runs_of, offset_from, offset_in, runs_bytes, rebase_bytes}
use Rattle.dsc_gen.specs.Contents.{pointer_place}
use Rattle.dsc_gen.specs.Streams.{rebases_from, rebase_stream, pointers_from, IsWritten}

abbrev pointer : ℕ → ℕ → Location
pointer start i = record { segment = 1; section = 2; address = start + pointer_place i }

apart : (start i : ℕ) → is_next (pointer start i) 1 (start + pointer_place (suc i)) ≡ false
apart start i = grind (arith, nat_tests)

one_run : (start i n : ℕ) → runs_of (pointer start i ∷ pointers_from start (suc i) n) ≡ run_from (pointer start i) 1 ∷ runs_of (pointers_from start (suc i) n)
one_run start i zero = refl
one_run start i (suc n) =
    let later = one_run start (suc i) n in
    let l : Location = pointer start i in
    let rs : List Run = runs_of (pointers_from start (suc (suc i)) n) in
    let r : Run = run_from (pointer start (suc i)) 1 in
    ap (in_front l) later ∙ (cond-false (is_next l r.segment r.address) (run_from l (r.count + 1) ∷ rs) (run_from l 1 ∷ (r ∷ rs)) (apart start i) ∙ ap (λ (qs : List Run). run_from l 1 ∷ qs) (sym later))

offset_is : (image : Img) (area : Seg) (i : ℕ) → slice_get image.segments 1 ≡ Some area → offset_in image 1 (area.vmaddr + pointer_place i) ≡ pointer_place i
unfolding offset_in
offset_is image area i is = ap (λ (s : Option Seg). offset_from s (area.vmaddr + pointer_place i)) is ∙ (let e : area.vmaddr + pointer_place i - area.vmaddr ≡ pointer_place i = omega arith in e)

runs_are : (image : Img) (area : Seg) (i n : ℕ) → slice_get image.segments 1 ≡ Some area → runs_bytes image (runs_of (pointers_from area.vmaddr i n)) ≡ rebases_from i n
unfolding runs_bytes rebases_from
runs_are image area i zero is = refl
runs_are image area i (suc n) is =
    ap (runs_bytes image) (one_run area.vmaddr i n)
    ∙ ap₂ (λ (at : ℕ) (rest : List ℕ). (0x21 ∷ (uleb_bytes at ++ 0x51 ∷ [])) ++ rest) (offset_is image area i is) (runs_are image area (suc i) n is)

pub stream_written : (pointers : ℕ) → IsWritten pointers (rebase_stream pointers)
unfolding rebase_bytes rebase_stream
stream_written pointers image area is = ap (λ (l : List ℕ). 0x11 ∷ (l ++ 0 ∷ [])) (sym (runs_are image area 0 pointers is))
