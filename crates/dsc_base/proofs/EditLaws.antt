-- Laws of numbers that are set in bytes: they are read back, nothing else changes, and their order is free.
use Rattle.std.proofs.Common.{◌≡◌, ◌≤◌, ◌<◌, ◌⊎◌, ℕ, zero, suc, ◌+◌, ◌-◌, List, [], ◌∷◌, ◌++◌, map, take, drop, length, get_or, refl, sym, ap, ap₂, subst, ◌∙◌, arith, append_assoc, inl, inr}
use Rattle.std.proofs.lemmas.List.{ext_get_or, take-append-le, drop-append-le}
use Rattle.std.proofs.Math.Seq.{take-append-add, drop-append-add, drop-cons}
use Rattle.std.specs.Int.{byte_at, bytes_low_first}
use Rattle.std.proofs.lemmas.Bool.{cases_lt}
use Rattle.dsc_base.specs.declared.edits.Edit.{Edit}
use Rattle.dsc_base.specs.Numbers.{number_at, put_number, little_bytes}
use Rattle.dsc_base.specs.Edits.{put_all, AllInside, AllFit, ApartFrom, AllApart, RisesFrom, Holds, IsAmong, further, Change, change_all, settled}
use Rattle.dsc_base.proofs.NumberLaws.{length-put_number, number_at-put_other, number_at-put_same, get_or-put_below, get_or-put_within, get_or-put_above}

-- the bytes stay as many
pub length-put_all : (es : List Edit) (b : List ℕ) → AllInside (length b) es → length (put_all es b) ≡ length b
unfolding put_all
length-put_all [] b inside = refl
length-put_all (e ∷ es) b inside =
    let step : length (put_number e.width b e.at e.value) ≡ length b = length-put_number e.width b e.at e.value inside.0 in
    length-put_all es (put_number e.width b e.at e.value) (subst (λ (n : ℕ). AllInside n es) (sym step) inside.1) ∙ step

-- after one edit the others still lie inside
AllInside-put : (e : Edit) (es : List Edit) (b : List ℕ) → AllInside (length b) (e ∷ es) → AllInside (length (put_number e.width b e.at e.value)) es
AllInside-put e es b inside = subst (λ (n : ℕ). AllInside n es) (sym (length-put_number e.width b e.at e.value inside.0)) inside.1

-- a number that shares no byte with an edit is unchanged
pub number_at-put_all_apart : (es : List Edit) (b : List ℕ) (at w : ℕ) → AllInside (length b) es → ApartFrom at w es → number_at w (put_all es b) at ≡ number_at w b at
unfolding put_all
number_at-put_all_apart [] b at w inside apart = refl
number_at-put_all_apart (e ∷ es) b at w inside apart =
    number_at-put_all_apart es (put_number e.width b e.at e.value) at w (AllInside-put e es b inside) apart.1
    ∙ number_at-put_other e.width b e.at e.value w at (omega (arith, inside.0)) apart.0

-- each edit that keeps apart from the others is read back
pub Holds-put_all : (es : List Edit) (b : List ℕ) → AllInside (length b) es → AllApart es → AllFit es → Holds (put_all es b) es
unfolding put_all
Holds-put_all [] b inside apart fit = tt
Holds-put_all (e ∷ es) b inside apart fit = (
  number_at-put_all_apart es (put_number e.width b e.at e.value) e.at e.width (AllInside-put e es b inside) apart.0
      ∙ number_at-put_same e.width b e.at e.value (omega (arith, inside.0)) fit.0,
  Holds-put_all es (put_number e.width b e.at e.value) (AllInside-put e es b inside) apart.1 fit.1,
)

Holds-among : (x : Edit) (es : List Edit) (b : List ℕ) → Holds b es → IsAmong x es → number_at x.width b x.at ≡ x.value
Holds-among x [] b holds among = absurd among
Holds-among x (e ∷ es) b holds (inl is) = subst (λ (v : Edit). number_at v.width b v.at ≡ v.value) (sym is) holds.0
Holds-among x (e ∷ es) b holds (inr later) = Holds-among x es b holds.1 later

pub number_at-put_all : (x : Edit) (es : List Edit) (b : List ℕ) → AllInside (length b) es → AllApart es → AllFit es → IsAmong x es → number_at x.width (put_all es b) x.at ≡ x.value
number_at-put_all x es b inside apart fit among = Holds-among x es (put_all es b) (Holds-put_all es b inside apart fit) among

-- what keeps apart from the whole keeps apart from a part
pub ApartFrom-part : (at w i u : ℕ) (es : List Edit) → at ≤ i → i + u ≤ at + w → ApartFrom at w es → ApartFrom i u es
ApartFrom-part at w i u [] le within apart = tt
ApartFrom-part at w i u (e ∷ es) le within (inl before, rest) = (inl (omega arith), ApartFrom-part at w i u es le within rest)
ApartFrom-part at w i u (e ∷ es) le within (inr behind, rest) = (inr (omega arith), ApartFrom-part at w i u es le within rest)

-- a byte in no edit is unchanged
pub get_or-put_all_apart : (es : List Edit) (b : List ℕ) (i : ℕ) → AllInside (length b) es → ApartFrom i 1 es → get_or (put_all es b) i 0 ≡ get_or b i 0
unfolding put_all
get_or-put_all_apart [] b i inside apart = refl
get_or-put_all_apart (e ∷ es) b i inside (inl before, rest) =
    get_or-put_all_apart es (put_number e.width b e.at e.value) i (AllInside-put e es b inside) rest
    ∙ get_or-put_below e.width b e.at e.value i (omega (arith, inside.0)) (omega arith)
get_or-put_all_apart (e ∷ es) b i inside (inr behind, rest) =
    get_or-put_all_apart es (put_number e.width b e.at e.value) i (AllInside-put e es b inside) rest
    ∙ get_or-put_above e.width b e.at e.value i (omega (arith, inside.0)) behind

-- a byte in an edit is that edit's
pub get_or-put_all : (x : Edit) (es : List Edit) (b : List ℕ) (k : ℕ) → AllInside (length b) es → AllApart es → IsAmong x es → k < x.width → get_or (put_all es b) (x.at + k) 0 ≡ get_or (little_bytes x.width x.value) k 0
unfolding put_all
get_or-put_all x [] b k inside apart among lt = absurd among
get_or-put_all x (e ∷ es) b k inside apart (inl is) lt =
    let le : k < e.width = subst (λ (v : Edit). k < v.width) is lt in
    let here : get_or (put_all es (put_number e.width b e.at e.value)) (e.at + k) 0 ≡ get_or (little_bytes e.width e.value) k 0 =
    get_or-put_all_apart es (put_number e.width b e.at e.value) (e.at + k) (AllInside-put e es b inside) (ApartFrom-part e.at e.width (e.at + k) 1 es (omega arith) (omega arith) apart.0)
    ∙ get_or-put_within e.width b e.at e.value k (omega (arith, inside.0)) le in
    subst (λ (v : Edit). get_or (put_all es (put_number e.width b e.at e.value)) (v.at + k) 0 ≡ get_or (little_bytes v.width v.value) k 0) (sym is) here
get_or-put_all x (e ∷ es) b k inside apart (inr later) lt =
    get_or-put_all x es (put_number e.width b e.at e.value) k (AllInside-put e es b inside) apart.1 later lt

-- a byte is in one of the edits or apart from all of them
pub in_one_or_apart : (es : List Edit) (i : ℕ) → ((x : Edit) × (IsAmong x es × (x.at ≤ i) × (i < x.at + x.width))) ⊎ ApartFrom i 1 es
in_one_or_apart [] i = inr tt
in_one_or_apart (e ∷ es) i =
    elim (in_one_or_apart es i) [
      | inl found ↦ inl (found.0, (inr found.1.0, found.1.1, found.1.2))
      | inr apart ↦ elim (cases_lt i e.at) [
        | inl below ↦ inr (inl (omega arith), apart)
        | inr above ↦ elim (cases_lt i (e.at + e.width)) [
          | inl within ↦ inl (e, (inl refl, above, within))
          | inr behind ↦ inr (inr behind, apart)
        ]
      ]
    ]

-- whoever is apart from edits is apart from each of them
ApartFrom-among : (x : Edit) (es : List Edit) (i : ℕ) → ApartFrom i 1 es → IsAmong x es → (i + 1 ≤ x.at) ⊎ (x.at + x.width ≤ i)
ApartFrom-among x [] i apart among = absurd among
ApartFrom-among x (e ∷ es) i apart (inl is) = subst (λ (v : Edit). (i + 1 ≤ v.at) ⊎ (v.at + v.width ≤ i)) (sym is) apart.0
ApartFrom-among x (e ∷ es) i apart (inr later) = ApartFrom-among x es i apart.1 later

ApartFrom-each : (es : List Edit) (i : ℕ) → ((x : Edit) → IsAmong x es → (i + 1 ≤ x.at) ⊎ (x.at + x.width ≤ i)) → ApartFrom i 1 es
ApartFrom-each [] i each = tt
ApartFrom-each (e ∷ es) i each = (each e (inl refl), ApartFrom-each es i (λ x among. each x (inr among)))

-- edits that keep apart leave the same bytes in any order
pub put_all-order : (xs ys : List Edit) (b : List ℕ) → AllInside (length b) xs → AllApart xs → AllInside (length b) ys → AllApart ys → ((x : Edit) → IsAmong x xs → IsAmong x ys) → ((y : Edit) → IsAmong y ys → IsAmong y xs) → put_all xs b ≡ put_all ys b
put_all-order xs ys b in_xs apart_xs in_ys apart_ys to back =
    ext_get_or 0 (put_all xs b) (put_all ys b) (length-put_all xs b in_xs ∙ sym (length-put_all ys b in_ys))
    (λ i lt. elim (in_one_or_apart xs i) [
      | inl found ↦
          let x : Edit = found.0 in
          let k : ℕ = i - x.at in
          let place : x.at + (i - x.at) ≡ i = omega (arith, found.1.1) in
          let small : i - x.at < x.width = omega (arith, found.1.1, found.1.2) in
          ap (λ (j : ℕ). get_or (put_all xs b) j 0) (sym place)
          ∙ (get_or-put_all x xs b (i - x.at) in_xs apart_xs found.1.0 small
          ∙ (sym (get_or-put_all x ys b (i - x.at) in_ys apart_ys (to x found.1.0) small)
          ∙ ap (λ (j : ℕ). get_or (put_all ys b) j 0) place))
      | inr apart ↦
          get_or-put_all_apart xs b i in_xs apart
          ∙ sym (get_or-put_all_apart ys b i in_ys (ApartFrom-each ys i (λ y among. ApartFrom-among y xs i apart (back y among))))
    ])

-- edits over other edits that change no further byte leave what they leave alone
pub put_all-covered : (xs ys : List Edit) (b : List ℕ) → AllInside (length b) xs → AllInside (length b) ys → AllApart ys → ((i : ℕ) → ApartFrom i 1 ys → ApartFrom i 1 xs) → put_all ys (put_all xs b) ≡ put_all ys b
put_all-covered xs ys b in_xs in_ys apart covers =
    let long : length (put_all xs b) ≡ length b = length-put_all xs b in_xs in
    let in_after : AllInside (length (put_all xs b)) ys = subst (λ (n : ℕ). AllInside n ys) (sym long) in_ys in
    ext_get_or 0 (put_all ys (put_all xs b)) (put_all ys b) (length-put_all ys (put_all xs b) in_after ∙ (long ∙ sym (length-put_all ys b in_ys)))
    (λ i lt. elim (in_one_or_apart ys i) [
      | inl found ↦
          let y : Edit = found.0 in
          let place : y.at + (i - y.at) ≡ i = omega (arith, found.1.1) in
          let small : i - y.at < y.width = omega (arith, found.1.1, found.1.2) in
          ap (λ (j : ℕ). get_or (put_all ys (put_all xs b)) j 0) (sym place)
          ∙ (get_or-put_all y ys (put_all xs b) (i - y.at) in_after apart found.1.0 small
          ∙ (sym (get_or-put_all y ys b (i - y.at) in_ys apart found.1.0 small)
          ∙ ap (λ (j : ℕ). get_or (put_all ys b) j 0) place))
      | inr free ↦
          get_or-put_all_apart ys (put_all xs b) i in_after free
          ∙ (get_or-put_all_apart xs b i in_xs (covers i free)
          ∙ sym (get_or-put_all_apart ys b i in_ys free))
    ])

-- edits that follow one another keep apart
ApartFrom-rising : (at w n : ℕ) (es : List Edit) → at + w ≤ n → RisesFrom n es → ApartFrom at w es
ApartFrom-rising at w n [] le rises = tt
ApartFrom-rising at w n (e ∷ es) le rises =
    (inl (omega (arith, rises.0)), ApartFrom-rising at w (e.at + e.width) es (omega (arith, rises.0)) rises.1)

pub rising_apart : (n : ℕ) (es : List Edit) → RisesFrom n es → AllApart es
rising_apart n [] rises = tt
rising_apart n (e ∷ es) rises = (ApartFrom-rising e.at e.width (e.at + e.width) es (omega arith) rises.1, rising_apart (e.at + e.width) es rises.1)

-- edits in two lists, one after the other
pub put_all-append : (xs ys : List Edit) (b : List ℕ) → put_all (xs ++ ys) b ≡ put_all ys (put_all xs b)
unfolding put_all
put_all-append [] ys b = refl
put_all-append (e ∷ es) ys b = put_all-append es ys (put_number e.width b e.at e.value)

-- a number in the first or the second part of bytes that are joined
pub put_number-append_left : (w : ℕ) (a c : List ℕ) (at v : ℕ) → at + w ≤ length a → put_number w (a ++ c) at v ≡ put_number w a at v ++ c
unfolding put_number
put_number-append_left w a c at v inside =
    ap₂ (λ (front back : List ℕ). front ++ (little_bytes w v ++ back)) (take-append-le at a c (omega arith)) (drop-append-le (at + w) a c inside)
    ∙ (ap (λ (l : List ℕ). take at a ++ l) (sym (append_assoc (little_bytes w v) (drop (at + w) a) c))
    ∙ sym (append_assoc (take at a) (little_bytes w v ++ drop (at + w) a) c))

pub put_number-append_right : (w : ℕ) (a c : List ℕ) (at v : ℕ) → at + w ≤ length c → put_number w (a ++ c) (length a + at) v ≡ a ++ put_number w c at v
unfolding put_number
put_number-append_right w a c at v inside =
    let sum : length a + at + w ≡ length a + (at + w) = omega arith in
    ap₂ (λ (front back : List ℕ). front ++ (little_bytes w v ++ back)) (take-append-add a c at)
    (ap (λ (n : ℕ). drop n (a ++ c)) sum ∙ drop-append-add a c (at + w))
    ∙ append_assoc a (take at c) (little_bytes w v ++ drop (at + w) c)

-- edits in the first part of bytes that are joined
pub put_all-append_left : (es : List Edit) (a c : List ℕ) → AllInside (length a) es → put_all es (a ++ c) ≡ put_all es a ++ c
unfolding put_all
put_all-append_left [] a c inside = refl
put_all-append_left (e ∷ es) a c inside =
    ap (put_all es) (put_number-append_left e.width a c e.at e.value inside.0)
    ∙ put_all-append_left es (put_number e.width a e.at e.value) c (AllInside-put e es a inside)

-- edits in the second part
pub put_all-append_right : (es : List Edit) (a c : List ℕ) → AllInside (length c) es → put_all (map (further (length a)) es) (a ++ c) ≡ a ++ put_all es c
unfolding put_all
put_all-append_right [] a c inside = refl
put_all-append_right (e ∷ es) a c inside =
    ap (put_all (map (further (length a)) es)) (put_number-append_right e.width a c e.at e.value inside.0)
    ∙ put_all-append_right es a (put_number e.width c e.at e.value) (AllInside-put e es c inside)

-- after a change that keeps apart, the others are the edits that they were
settled-same : (cs : List Change) (b : List ℕ) (w i v : ℕ) → i + w ≤ length b → ApartFrom i w (map (settled b) cs) → map (settled (put_number w b i v)) cs ≡ map (settled b) cs
settled-same [] b w i v inside apart = refl
settled-same (c ∷ cs) b w i v inside apart =
    let here : number_at c.width (put_number w b i v) c.at ≡ number_at c.width b c.at =
    number_at-put_other w b i v c.width c.at (omega (arith, inside)) (elim apart.0 [ inl before ↦ inr before | inr behind ↦ inl behind ]) in
    ap₂ (λ (n : ℕ) (es : List Edit). record { at = c.at; width = c.width; value = c.becomes n } ∷ es) here (settled-same cs b w i v inside apart.1)

-- changes that keep apart are the edits that they are on the bytes as they were
pub change_all-settled : (cs : List Change) (b : List ℕ) → AllInside (length b) (map (settled b) cs) → AllApart (map (settled b) cs) → change_all cs b ≡ put_all (map (settled b) cs) b
unfolding change_all put_all
change_all-settled [] b inside apart = refl
change_all-settled (c ∷ cs) b inside apart =
    let after : List ℕ = put_number c.width b c.at (c.becomes (number_at c.width b c.at)) in
    let same : map (settled after) cs ≡ map (settled b) cs = settled-same cs b c.width c.at (c.becomes (number_at c.width b c.at)) inside.0 apart.0 in
    let still : AllInside (length after) (map (settled b) cs) =
    subst (λ (n : ℕ). AllInside n (map (settled b) cs)) (sym (length-put_number c.width b c.at (c.becomes (number_at c.width b c.at)) inside.0)) inside.1 in
    change_all-settled cs after (subst (AllInside (length after)) (sym same) still) (subst AllApart (sym same) apart.1)
    ∙ ap (λ (es : List Edit). put_all es after) same

-- a narrower spelling is the front of a wider one
pub take-bytes : (i n m v : ℕ) → n ≤ m → take n (bytes_low_first i m v) ≡ bytes_low_first i n v
take-bytes i zero m v le = refl
take-bytes i (suc n) zero v le = absurd (omega arith)
take-bytes i (suc n) (suc m) v le = ap (λ (l : List ℕ). byte_at i v ∷ l) (take-bytes (suc i) n m v (omega arith))

-- the edit at an index first, then those behind it
pub put_all-drop : (es : List Edit) (i : ℕ) (b : List ℕ) (d : Edit) → i < length es → put_all (drop i es) b ≡ put_all (drop (i + 1) es) (put_number (get_or es i d).width b (get_or es i d).at (get_or es i d).value)
unfolding put_all
put_all-drop es i b d lt =
    let one : suc i ≡ i + 1 = omega arith in
    let next : drop (suc i) es ≡ drop (i + 1) es = ap (λ (n : ℕ). drop n es) one in
    ap (λ (l : List Edit). put_all l b) (drop-cons es i d lt)
    ∙ ap (λ (l : List Edit). put_all l (put_number (get_or es i d).width b (get_or es i d).at (get_or es i d).value)) next
