-- Numbers that a command gets are read back.
use Rattle.std.proofs.Common.{◌≡◌, ◌≤◌, ◌<◌, ℕ, zero, suc, ◌+◌, ◌-◌, ◌*◌, ◌^◌, true, false, nat_eq, if◌then◌else◌, List, [], ◌∷◌, ◌++◌, take, drop, length, get_or, ap, ◌∙◌, arith, append_assoc}
use Rattle.std.proofs.lemmas.List.{length-take-le}
use Rattle.dsc_base.specs.Numbers.{number_at, little_bytes}
use Rattle.dsc_base.specs.declared.fault.Span.{Span}
use Rattle.dsc_base.proofs.NumberLaws.{number_at-append_left, number_at-append_right, number_at-take, number_at-little_bytes, length-little_bytes}
use Rattle.macho_image.specs.Macho.{number_of}
use Rattle.macho_edit.specs.declared.spots.LinkSpots.{LinkSpots}
use Rattle.macho_edit.specs.Conditions.{IsLow}
use Rattle.macho_edit.specs.Tables.{words, with_words, words_for, spotted, start_of}

pub words_at : (ns rest : List ℕ) (i : ℕ) → i < length ns → get_or ns i 0 < 2 ^ 32 → number_at 4 (words ns ++ rest) (4 * i) ≡ get_or ns i 0
unfolding words
words_at [] rest i lt fits = absurd (omega arith)
words_at (n ∷ ns) rest zero lt fits =
    ap (λ (l : List ℕ). number_at 4 l 0) (append_assoc (little_bytes 4 n) (words ns) rest) ∙ number_at-little_bytes 4 n (words ns ++ rest) fits
words_at (n ∷ ns) rest (suc i) lt fits =
    let at : 4 * suc i - 4 ≡ 4 * i = omega arith in
    ap (λ (l : List ℕ). number_at 4 l (4 * suc i)) (append_assoc (little_bytes 4 n) (words ns) rest)
    ∙ (number_at-append_right 4 (little_bytes 4 n) (words ns ++ rest) 4 (4 * suc i) (length-little_bytes 4 n) (omega arith)
    ∙ (ap (number_at 4 (words ns ++ rest)) at ∙ words_at ns rest i (omega arith) fits))

pub with_words_at : (ns c : List ℕ) (i at : ℕ) → 8 + 4 * length ns ≤ length c → i < length ns → get_or ns i 0 < 2 ^ 32 → at ≡ 8 + 4 * i → number_at 4 (with_words ns c) at ≡ get_or ns i 0
unfolding with_words
with_words_at ns c i at room lt fits is =
    let place : at - 8 ≡ 4 * i = omega arith in
    number_at-append_right 4 (take 8 c) (words ns ++ drop (8 + 4 * length ns) c) 8 at (length-take-le 8 c (omega arith)) (omega arith)
    ∙ (ap (number_at 4 (words ns ++ drop (8 + 4 * length ns) c)) place ∙ words_at ns (drop (8 + 4 * length ns) c) i lt fits)

pub with_words_front : (ns c : List ℕ) (w at : ℕ) → 8 ≤ length c → at + w ≤ 8 → number_at w (with_words ns c) at ≡ number_at w c at
unfolding with_words
with_words_front ns c w at long front =
    number_at-append_left w (take 8 c) (words ns ++ drop (8 + 4 * length ns) c) at (omega (arith, length-take-le 8 c long)) ∙ number_at-take w 8 c at front

pub spotted_front : (spots : LinkSpots) (c : List ℕ) (w at : ℕ) → 8 ≤ length c → at + w ≤ 8 → number_at w (spotted spots c) at ≡ number_at w c at
unfolding spotted
spotted_front spots c w at long front = with_words_front (words_for spots (number_of c)) c w at long front

-- a span that ends below 2 ^ 32 begins there
pub start_low : (s : Span) → IsLow s → start_of s < 2 ^ 32
start_low s low = elim (nat_eq s.len 0) as (λ b. if◌then◌else◌ {A = ℕ} b 0 s.at < 2 ^ 32) [ true ↦ omega arith | false ↦ omega arith ]
