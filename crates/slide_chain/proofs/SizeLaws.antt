-- How large slide information is, and that what is made can be spelled and read back.
use Rattle.std.proofs.Common.{◌≡◌, ◌≤◌, ◌<◌, ℕ, zero, suc, ◌+◌, ◌-◌, ◌*◌, ◌/◌, ◌%◌, ◌^◌, List, [], ◌∷◌, ◌++◌, length, get_or, refl, ap, ◌∙◌, arith, length-append}
use Rattle.std.specs.Prelude.{None}
use Rattle.std.proofs.Math.Nat.{pow-le-pow_right}
use Rattle.slide_chain.specs.Chains.{Slide, IsRun, Suits}
use Rattle.slide_chain.specs.Info.{halves, info_bytes, info_size, info_read}
use Rattle.slide_chain.specs.Making.{page_firsts, marked_last, extras_for, start_for, starts_of, extras_of, info_of, IsMade, chains_break}
use Rattle.slide_chain.proofs.InfoLaws.{IsSpellable, info-back}
use Rattle.slide_chain.proofs.RefusedLaws.{accepted_few}
use Rattle.slide_chain.proofs.WordLaws.{made_ones}

-- ---- any slide information

length-halves : (xs : List ℕ) → length (halves xs) ≡ 2 * length xs
unfolding halves
length-halves [] = refl
length-halves (x ∷ xs) = omega (arith, length-halves xs)

-- a head of 40 bytes and two for each start and extra
pub info_size-is : (s : Slide) → info_size s ≡ 40 + 2 * (length s.starts + length s.extras)
unfolding info_bytes
info_size-is s = omega (arith, length-append (halves s.starts) (halves s.extras), length-halves s.starts, length-halves s.extras)

-- ---- what is made

length-starts_of : (count : ℕ) (pages : List (List ℕ)) → length (starts_of count pages) ≡ length pages
unfolding starts_of
length-starts_of count [] = refl
length-starts_of count (fs ∷ pages) = ap suc (length-starts_of (count + length (extras_for fs)) pages)

length-page_firsts : (limit page n : ℕ) (ws : List ℕ) → length (page_firsts limit page n ws) ≡ n
unfolding page_firsts
length-page_firsts limit page zero ws = refl
length-page_firsts limit page (suc n) ws = ap suc (length-page_firsts limit (page + 4096) n _)

-- one start for each page
pub length-starts : (bits size : ℕ) (ws : List ℕ) → length (info_of bits size ws).starts ≡ size / 4096
unfolding info_of
length-starts bits size ws =
    length-starts_of 0 (page_firsts (2 ^ bits - 1) 0 (size / 4096) ws) ∙ length-page_firsts (2 ^ bits - 1) 0 (size / 4096) ws

pub info_size-made : (bits size : ℕ) (ws : List ℕ) → info_size (info_of bits size ws) ≡ 40 + 2 * (size / 4096 + length (info_of bits size ws).extras)
info_size-made bits size ws =
    info_size-is (info_of bits size ws) ∙ ap (λ (n : ℕ). 40 + 2 * (n + length (info_of bits size ws).extras)) (length-starts bits size ws)

pub made : (bits size : ℕ) (ws : List ℕ) → 1 ≤ bits → bits ≤ 16 → chains_break bits size ws ≡ None → IsMade (info_of bits size ws) size ws
made bits size ws some most none = record { bits = bits; some = some; most = most; made = refl; few = accepted_few bits size ws none }

start-fits : (count : ℕ) (fs : List ℕ) → count ≤ 0x4000 → start_for count fs < 2 ^ 16
unfolding start_for
start-fits count [] few = omega arith
start-fits count (f ∷ []) few = omega arith
start-fits count (f ∷ g ∷ fs) few = omega (arith, few)

starts-fit : (count k : ℕ) (pages : List (List ℕ)) → count + length (extras_of pages) ≤ 0x4000 → get_or (starts_of count pages) k 0 < 2 ^ 16
unfolding starts_of extras_of
starts-fit count k [] few = omega arith
starts-fit count zero (fs ∷ pages) few = start-fits count fs (omega (arith, few))
starts-fit count (suc k) (fs ∷ pages) few =
    starts-fit (count + length (extras_for fs)) k pages (omega (arith, few, length-append (extras_for fs) (extras_of pages)))

marked-fit : (k f : ℕ) (fs : List ℕ) → get_or (marked_last (f ∷ fs)) k 0 < 2 ^ 16
unfolding marked_last
marked-fit zero f [] = omega arith
marked-fit (suc k) f [] = omega arith
marked-fit zero f (g ∷ fs) = omega arith
marked-fit (suc k) f (g ∷ fs) = marked-fit k g fs

extra-fits : (k : ℕ) (fs : List ℕ) → get_or (extras_for fs) k 0 < 2 ^ 16
unfolding extras_for
extra-fits k [] = omega arith
extra-fits k (f ∷ []) = omega arith
extra-fits k (f ∷ g ∷ fs) = marked-fit k f (g ∷ fs)

append-fits : (k : ℕ) (xs ys : List ℕ) → ((i : ℕ) → get_or xs i 0 < 2 ^ 16) → ((i : ℕ) → get_or ys i 0 < 2 ^ 16) → get_or (xs ++ ys) k 0 < 2 ^ 16
append-fits k [] ys in_xs in_ys = in_ys k
append-fits zero (x ∷ xs) ys in_xs in_ys = in_xs 0
append-fits (suc k) (x ∷ xs) ys in_xs in_ys = append-fits k xs ys (λ i. in_xs (suc i)) in_ys

extras-fit : (k : ℕ) (pages : List (List ℕ)) → get_or (extras_of pages) k 0 < 2 ^ 16
unfolding extras_of
extras-fit k [] = omega arith
extras-fit k (fs ∷ pages) = append-fits k (extras_for fs) (extras_of pages) (λ i. extra-fits i fs) (λ i. extras-fit i pages)

mask-fits : (n : ℕ) → n ≤ 16 → (2 ^ n - 1) * 2 ^ 48 < 2 ^ 64
mask-fits n most =
    let small : 2 ^ n ≤ 2 ^ 16 = pow-le-pow_right {n = 2} (omega arith) {i = n} {j = 16} most in
    omega (arith, small)

pub spellable : (bits size : ℕ) (ws : List ℕ) → bits ≤ 16 → size ≤ 0x20000000 → chains_break bits size ws ≡ None → IsSpellable (info_of bits size ws)
unfolding info_of
spellable bits size ws most low none =
    let pages : List (List ℕ) = page_firsts (2 ^ bits - 1) 0 (size / 4096) ws in
    let few : length (extras_of (page_firsts (2 ^ bits - 1) 0 (size / 4096) ws)) ≤ 0x4000 = accepted_few bits size ws none in
    record {
      few_starts = omega (arith, length-starts bits size ws, low);
      few_extras = omega (arith, few);
      mask_fits = mask-fits bits most;
      value_add_fits = omega arith;
      starts_fit = λ k. starts-fit 0 k pages (omega (arith, few));
      extras_fit = λ k. extras-fit k pages;
    }

-- what was made is read back from its bytes
pub info_is : (bits size : ℕ) (ws : List ℕ) → bits ≤ 16 → size ≤ 0x20000000 → chains_break bits size ws ≡ None → info_read (info_bytes (info_of bits size ws)) ≡ info_of bits size ws
info_is bits size ws most low none = info-back (info_of bits size ws) (spellable bits size ws most low none)

-- its mask is a run of ones from bit 48 up
pub run-made : (bits size : ℕ) (ws : List ℕ) → 1 ≤ bits → bits ≤ 16 → IsRun (info_of bits size ws).mask
unfolding info_of
run-made bits size ws some most = record {
  low = 48;
  count = bits;
  above = omega arith;
  some = some;
  within = omega (arith, most);
  ones = made_ones bits;
}

-- so it suits the data that it was made of
pub suits-made : (bits size : ℕ) (area ws : List ℕ) → 1 ≤ bits → bits ≤ 16 → size % 4096 ≡ 0 → length area ≡ size → Suits (info_of bits size ws) area
suits-made bits size area ws some most even long = record {
  pages = omega (arith, length-starts bits size ws, even, long);
  run = run-made bits size ws some most;
}
