-- Walking over commands that are whole, one at a time.
use Rattle.std.proofs.Common.{◌≡◌, ◌≤◌, ◌+◌, ℕ, suc, Bool, true, false, not, ◌||◌, List, ◌∷◌, take, drop, length, refl, sym, ap, ◌∙◌, subst, arith, if◌then◌else◌, nat_eq, nat_lt, Option, Some, None, length-drop}
use Rattle.std.proofs.lemmas.Bool.Decides.{nat_tests}
use Rattle.std.proofs.lemmas.List.{length-take-le}
use Rattle.dsc_base.specs.Numbers.{number_at}
use Rattle.macho_image.specs.Records.{Img, Load}
use Rattle.macho_image.specs.Macho.{size_of, commands_in, loads_from}
use Rattle.macho_image.specs.Rules.{begins_whole, misshapen}
use Rattle.macho_image.specs.Breaks.{kind_break, form_of, header_break, IsSound}
use Rattle.macho_image.specs.Walk.{AreWhole}
use Rattle.macho_image.proofs.Splitting.{begins_whole-front}
use Rattle.macho_image.proofs.Unbroken.{or_none, when_true, kind_unbroken, IsWholeHeader}

-- of whole commands the first begins the rest, and those behind it are whole
pub record IsStep (left at : ℕ) (rest : List ℕ) : Type 0 where
  pub whole : begins_whole rest ≡ true
  pub behind : AreWhole left (at + size_of rest) (drop (size_of rest) rest)
  pub size : length (take (size_of rest) rest) ≡ size_of rest
  pub loads : loads_from at (commands_in (suc left) rest) ≡ record { at = at; bytes = take (size_of rest) rest } ∷ loads_from (at + size_of rest) (commands_in left (drop (size_of rest) rest))

pub walk_step : (left at : ℕ) (rest : List ℕ) → AreWhole (suc left) at rest → IsStep left at rest
walk_step left at rest are =
    let first = when_true (begins_whole rest) at (misshapen left (at + size_of rest) (drop (size_of rest) rest)) are.shape in
    let front = begins_whole-front rest first.0 in
    let len : length (take (size_of rest) rest) ≡ size_of rest = length-take-le (size_of rest) rest front.within in
    record {
      whole = first.0;
      behind = record { shape = first.1; short = omega (arith, are.short, front.within, length-drop (size_of rest) rest) };
      size = len;
      loads = ap (λ (n : ℕ). let l : Load = record { at = at; bytes = take (size_of rest) rest } in l ∷ loads_from (at + n) (commands_in left (drop (size_of rest) rest))) len;
    }

pub walk_next : (n left at : ℕ) (rest : List ℕ) → AreWhole n at rest → n ≡ suc left → IsStep left at rest
walk_next n left at rest are more = walk_step left at rest (subst (λ (k : ℕ). AreWhole k at rest) more are)

-- behind the first one
pub walk_behind : (left at : ℕ) (rest rest' piece : List ℕ) → IsStep left at rest → piece ≡ take (size_of rest) rest → rest' ≡ drop (size_of rest) rest → AreWhole left (at + length piece) rest'
walk_behind left at rest rest' piece step is cut =
    let len : at + size_of rest ≡ at + length piece = ap (λ (n : ℕ). at + n) (sym (ap length is ∙ step.size)) in
    subst (λ (b : List ℕ). AreWhole left (at + length piece) b) (sym cut) (subst (λ (n : ℕ). AreWhole left n (drop (size_of rest) rest)) len step.behind)

-- an image's header is one whose commands are whole
pub sound_header : (image : Img) → IsSound image → IsWholeHeader (form_of image.header) image.header
unfolding header_break
sound_header image sound = kind_unbroken (form_of image.header) image.header (or_none (kind_break (form_of image.header) image.header) _ sound.unbroken).0

pub sound_front : (image : Img) → IsSound image → 32 ≤ length image.header
sound_front image sound = go (nat_lt (length image.header) 32) (not (nat_eq (number_at 4 image.header 0) 0xFEED_FACF)) refl (sound_header image sound).magic
  where
    go : (a b : Bool) → nat_lt (length image.header) 32 ≡ a → if◌then◌else◌ {A = Option ℕ} (a || b) (Some 0) None ≡ None → 32 ≤ length image.header
    go true b short none = absurd (cc)
    go false b long none = grind (arith, nat_tests)
