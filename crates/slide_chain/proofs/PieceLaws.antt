-- Linking piece by piece: a piece is whole pages, and gets the changes of the words that lie in it.
use Rattle.std.proofs.Common.{◌≡◌, ◌<◌, ◌≤◌, ℕ, zero, suc, ◌+◌, ◌-◌, ◌*◌, ◌%◌, ◌^◌, List, [], ◌∷◌, ◌++◌, map, length, take, drop, get_or, sym, ap, ap₂, subst, refl, inl, inr, ◌∙◌, arith, length-append}
use Rattle.std.proofs.lemmas.Bool.{cases_lt}
use Rattle.std.proofs.lemmas.List.{append_assoc, drop_all, take-append-drop, length-take, ext_get_or, get_or-append-add, get_or_append_left}
use Rattle.std.proofs.lemmas.Nat.Gcd.{dvd_trans, dvd_of_mod-eq-zero, mod-eq-zero_of_dvd}
use Rattle.std.specs.Fork.{IsChunk}
use Rattle.dsc_base.specs.Numbers.{number_at, put_number}
use Rattle.dsc_base.specs.Edits.{Change, change_all, settled, AllFit}
use Rattle.dsc_base.proofs.NumberLaws.{number_at-append_left, number_at-append_right, number_at-put_other, length-put_number}
use Rattle.dsc_base.proofs.EditLaws.{put_number-append_left, put_number-append_right}
use Rattle.slide_chain.specs.Making.{step_to, linking, front, rest, AreWords, AllBelow}
use Rattle.slide_chain.specs.Steps.Pieces.{earlier}
use Rattle.slide_chain.proofs.ListLaws.{drop-at, words-weaken, below-at}
use Rattle.slide_chain.proofs.MadeLaws.{front-below, front-above, rest-below, rest-above, front-words, rest-words, front-step}

-- ---- changes that lie in a part

-- each change lies between two places
abbrev pub AllBetween : ℕ → ℕ → List Change → Type 0
AllBetween low high [] = Unit {0}
AllBetween low high (c ∷ cs) = ((low ≤ c.at) × (c.at + c.width ≤ high)) × AllBetween low high cs

change_all-append : (cs ds : List Change) (b : List ℕ) → change_all (cs ++ ds) b ≡ change_all ds (change_all cs b)
unfolding change_all
change_all-append [] ds b = refl
change_all-append (c ∷ cs) ds b = change_all-append cs ds (put_number c.width b c.at (c.becomes (number_at c.width b c.at)))

length-change_all : (low high : ℕ) (cs : List Change) (b : List ℕ) → AllBetween low high cs → high ≤ length b → length (change_all cs b) ≡ length b
unfolding change_all
length-change_all low high [] b inside long = refl
length-change_all low high (c ∷ cs) b inside long =
    let next : List ℕ = put_number c.width b c.at (c.becomes (number_at c.width b c.at)) in
    let same : length (put_number c.width b c.at (c.becomes (number_at c.width b c.at))) ≡ length b =
    length-put_number c.width b c.at (c.becomes (number_at c.width b c.at)) (omega (arith, inside.0.1)) in
    length-change_all low high cs next inside.1 (omega (arith, same)) ∙ same

change_all-left : (low high : ℕ) (cs : List Change) (a b : List ℕ) → AllBetween low high cs → high ≤ length a → change_all cs (a ++ b) ≡ change_all cs a ++ b
unfolding change_all
change_all-left low high [] a b inside long = refl
change_all-left low high (c ∷ cs) a b inside long =
    let room : c.at + c.width ≤ length a = omega (arith, inside.0.1) in
    let v : ℕ = c.becomes (number_at c.width a c.at) in
    let same : length (put_number c.width a c.at (c.becomes (number_at c.width a c.at))) ≡ length a = length-put_number c.width a c.at v room in
    ap (λ (n : ℕ). change_all cs (put_number c.width (a ++ b) c.at (c.becomes n))) (number_at-append_left c.width a b c.at room)
    ∙ (ap (change_all cs) (put_number-append_left c.width a b c.at v room)
    ∙ change_all-left low high cs (put_number c.width a c.at v) b inside.1 (omega (arith, same)))

change_all-right : (low high : ℕ) (cs : List Change) (a b : List ℕ) → AllBetween low high cs → low ≡ length a → high ≤ low + length b → change_all cs (a ++ b) ≡ a ++ change_all (map (earlier low) cs) b
unfolding change_all
change_all-right low high [] a b inside start long = refl
change_all-right low high (c ∷ cs) a b inside start long =
    let at : ℕ = c.at - low in
    let place : c.at ≡ length a + (c.at - low) = omega (arith, inside.0.0, start) in
    let room : (c.at - low) + c.width ≤ length b = omega (arith, inside.0.0, inside.0.1) in
    let v : ℕ = c.becomes (number_at c.width b (c.at - low)) in
    let same : length (put_number c.width b (c.at - low) (c.becomes (number_at c.width b (c.at - low)))) ≡ length b = length-put_number c.width b at v room in
    ap (λ (n : ℕ). change_all cs (put_number c.width (a ++ b) c.at (c.becomes n))) (number_at-append_right c.width a b low c.at (sym start) inside.0.0)
    ∙ (ap (λ (k : ℕ). change_all cs (put_number c.width (a ++ b) k v)) place
    ∙ (ap (change_all cs) (put_number-append_right c.width a b at v room)
    ∙ change_all-right low high cs a (put_number c.width b at v) inside.1 start (omega (arith, same))))

-- ---- the words of a part

pub front-under : (end : ℕ) (ws : List ℕ) → AllBelow end (front end ws)
unfolding front
front-under end [] = tt
front-under end (w ∷ ws) =
    elim (cases_lt w end) [
      | inl below ↦ subst (AllBelow end) (sym (front-below end w ws below)) (below, front-under end ws)
      | inr above ↦ subst (AllBelow end) (sym (front-above end w ws above)) tt
    ]

rest-under : (end high : ℕ) (ws : List ℕ) → AllBelow high ws → AllBelow high (rest end ws)
unfolding rest
rest-under end high [] under = tt
rest-under end high (w ∷ ws) under =
    elim (cases_lt w end) [
      | inl below ↦ subst (AllBelow high) (sym (rest-below end w ws below)) (rest-under end high ws under.1)
      | inr above ↦ subst (AllBelow high) (sym (rest-above end w ws above)) under
    ]

between-from : (low from high : ℕ) (cs : List Change) → low ≤ from → AllBetween from high cs → AllBetween low high cs
between-from low from high [] le inside = tt
between-from low from high (c ∷ cs) le inside = ((omega (arith, inside.0.0), inside.0.1), between-from low from high cs le inside.1)

linking-between : (limit low high : ℕ) (ws : List ℕ) → high % 4096 ≡ 0 → AreWords low ws → AllBelow high ws → AllBetween low high (linking limit ws)
unfolding linking
linking-between limit low high [] even words under = tt
linking-between limit low high (w ∷ ws) even words under =
    ((words.0, omega (arith, even, words.2, under.0)), between-from low (w + 8) high (linking limit ws) (omega (arith, words.0)) (linking-between limit (w + 8) high ws even words.3 under.1))

earlier-between : (low high n : ℕ) (cs : List Change) → AllBetween low high cs → high ≤ low + n → AllBetween 0 n (map (earlier low) cs)
earlier-between low high n [] inside le = tt
earlier-between low high n (c ∷ cs) inside le = ((omega arith, omega (arith, inside.0.0, inside.0.1)), earlier-between low high n cs inside.1 le)

-- what is linked below a page's place, and from there on
linking-split : (limit end : ℕ) (ws : List ℕ) → end % 4096 ≡ 0 → linking limit ws ≡ linking limit (front end ws) ++ linking limit (rest end ws)
unfolding linking front rest
linking-split limit end [] even = refl
linking-split limit end (w ∷ ws) even =
    elim (cases_lt w end) [
      | inl below ↦
          ap₂ (λ (k : ℕ) (l : List Change). record { at = w; width = 8; becomes = λ v. v + k * 2 ^ 48 } ∷ l) (front-step limit end w ws even below) (linking-split limit end ws even)
          ∙ ap₂ (λ (l m : List ℕ). linking limit l ++ linking limit m) (sym (front-below end w ws below)) (sym (rest-below end w ws below))
      | inr above ↦ ap₂ (λ (l m : List ℕ). linking limit l ++ linking limit m) (sym (front-above end w ws above)) (sym (rest-above end w ws above))
    ]

-- ---- one word after the other

-- the word at an index, in a piece
pub record WordIn (start len i : ℕ) (ws : List ℕ) : Type 0 where
  pub from : start ≤ get_or ws i 0
  pub room : get_or ws i 0 + 8 ≤ start + len
  pub later : AreWords (get_or ws i 0 + 8) (drop (i + 1) ws)

words-from : (from : ℕ) (ws : List ℕ) (i : ℕ) → AreWords from ws → AreWords from (drop i ws)
words-from from ws zero words = words
words-from from [] (suc i) words = tt
words-from from (w ∷ ws) (suc i) words = words-from from ws i (words-weaken from (w + 8) ws (omega (arith, words.0)) words.3)

pub word-in : (start len i : ℕ) (ws : List ℕ) → i < length ws → start % 4096 ≡ 0 → len % 4096 ≡ 0 → AreWords start ws → AllBelow (start + len) ws → WordIn start len i ws
word-in start len i ws within even pages words under =
    let here : AreWords start (get_or ws i 0 ∷ drop (i + 1) ws) = subst (AreWords start) (drop-at ws i within) (words-from start ws i words) in
    record { from = here.0; room = omega (arith, even, pages, here.2, below-at (start + len) ws i within under); later = here.3 }

pub word-fits : (limit start i : ℕ) (piece ws : List ℕ) → i < length ws → AllFit (map (settled piece) (map (earlier start) (linking limit (drop i ws))))
    → number_at 8 piece (get_or ws i 0 - start) + step_to limit (get_or ws i 0) (drop (i + 1) ws) * 2 ^ 48 < 256 ^ 8
unfolding linking
word-fits limit start i piece ws within fit =
    let here : AllFit (map (settled piece) (map (earlier start) (linking limit (get_or ws i 0 ∷ drop (i + 1) ws)))) =
    subst (λ (l : List ℕ). AllFit (map (settled piece) (map (earlier start) (linking limit l)))) (drop-at ws i within) fit in
    here.0

put-fits : (limit start w v : ℕ) (piece ws : List ℕ) → start ≤ w → w - start + 8 ≤ length piece → AreWords (w + 8) ws → AllFit (map (settled piece) (map (earlier start) (linking limit ws)))
    → AllFit (map (settled (put_number 8 piece (w - start) v)) (map (earlier start) (linking limit ws)))
unfolding linking
put-fits limit start w v piece [] from room words fit = tt
put-fits limit start w v piece (a ∷ ws) from room words fit = (
  subst (λ (n : ℕ). n + step_to limit a ws * 2 ^ 48 < 256 ^ 8) (sym (number_at-put_other 8 piece (w - start) v 8 (a - start) (omega arith) (inr (omega (arith, from, words.0))))) fit.0,
  put-fits limit start w v piece ws from room (words-weaken (w + 8) (a + 8) ws (omega (arith, words.0)) words.3) fit.1,
)

-- the words behind keep their numbers
pub later-fit : (limit start i v : ℕ) (piece ws : List ℕ) → i < length ws → {len : ℕ} → WordIn start len i ws → get_or ws i 0 - start + 8 ≤ length piece
    → AllFit (map (settled piece) (map (earlier start) (linking limit (drop i ws))))
    → AllFit (map (settled (put_number 8 piece (get_or ws i 0 - start) v)) (map (earlier start) (linking limit (drop (i + 1) ws))))
unfolding linking
later-fit limit start i v piece ws within word room fit =
    let here : AllFit (map (settled piece) (map (earlier start) (linking limit (get_or ws i 0 ∷ drop (i + 1) ws)))) =
    subst (λ (l : List ℕ). AllFit (map (settled piece) (map (earlier start) (linking limit l)))) (drop-at ws i within) fit in
    put-fits limit start (get_or ws i 0) v piece (drop (i + 1) ws) word.from room word.later here.1

-- what is left to link, after the word at an index
pub piece-next : (limit start i : ℕ) (piece ws : List ℕ) → i < length ws
    → change_all (map (earlier start) (linking limit (drop i ws))) piece
    ≡ change_all (map (earlier start) (linking limit (drop (i + 1) ws))) (put_number 8 piece (get_or ws i 0 - start) (number_at 8 piece (get_or ws i 0 - start) + step_to limit (get_or ws i 0) (drop (i + 1) ws) * 2 ^ 48))
unfolding change_all linking
piece-next limit start i piece ws within = ap (λ (l : List ℕ). change_all (map (earlier start) (linking limit l)) piece) (drop-at ws i within)

pub piece-none : (limit start i : ℕ) (piece ws : List ℕ) → length ws ≤ i → change_all (map (earlier start) (linking limit (drop i ws))) piece ≡ piece
unfolding change_all linking
piece-none limit start i piece ws past = ap (λ (l : List ℕ). change_all (map (earlier start) (linking limit l)) piece) (drop_all i ws past)

-- ---- one piece of the data

-- a piece in the data, whose words are those from its place on and below its end
pub record IsPiece (area ws before piece behind : List ℕ) (start : ℕ) : Type 0 where
  pub parts : area ≡ before ++ (piece ++ behind)
  pub place : length before ≡ start
  pub even : start % 4096 ≡ 0
  pub pages : length piece % 4096 ≡ 0
  pub whole : length area % 4096 ≡ 0
  pub words : AreWords 0 ws
  pub under : AllBelow (length area) ws

-- the changes of its words, by their places in it
abbrev pub own_changes : ℕ → ℕ → ℕ → List ℕ → List Change
own_changes limit start len ws = map (earlier start) (linking limit (front (start + len) (rest start ws)))

-- what lies where
record PieceParts (limit start : ℕ) (area ws : List ℕ) (len : ℕ) : Type 0 where
  last : (start + len) % 4096 ≡ 0
  before : AllBetween 0 start (linking limit (front start ws))
  own : AllBetween start (start + len) (linking limit (front (start + len) (rest start ws)))
  behind : AllBetween (start + len) (length area) (linking limit (rest (start + len) (rest start ws)))
  split : linking limit ws ≡ linking limit (front start ws) ++ (linking limit (front (start + len) (rest start ws)) ++ linking limit (rest (start + len) (rest start ws)))

piece-parts : (limit start : ℕ) (area ws before piece behind : List ℕ) → IsPiece area ws before piece behind start → PieceParts limit start area ws (length piece)
piece-parts limit start area ws before piece behind is =
    let end : ℕ = start + length piece in
    let last : (start + length piece) % 4096 ≡ 0 = omega (arith, is.even, is.pages) in
    let rising : AreWords start (rest start ws) = rest-words start 0 ws is.words in
    record {
      last = last;
      before = linking-between limit 0 start (front start ws) is.even (front-words start 0 ws is.words) (front-under start ws);
      own = linking-between limit start end (front end (rest start ws)) last (front-words end start (rest start ws) rising) (front-under end (rest start ws));
      behind = linking-between limit end (length area) (rest end (rest start ws)) is.whole (rest-words end start (rest start ws) rising) (rest-under end (length area) (rest start ws) (rest-under start (length area) ws is.under));
      split = linking-split limit start ws is.even ∙ ap (λ (l : List Change). linking limit (front start ws) ++ l) (linking-split limit end (rest start ws) last);
    }

record LinkedPiece (limit start : ℕ) (area ws piece : List ℕ) : Type 0 where
  left : List ℕ
  right : List ℕ
  place : length left ≡ start
  long : length (change_all (own_changes limit start (length piece) ws) piece) ≡ length piece
  parts : change_all (linking limit ws) area ≡ left ++ (change_all (own_changes limit start (length piece) ws) piece ++ right)

linked-piece : (limit start : ℕ) (area ws before piece behind : List ℕ) → IsPiece area ws before piece behind start → LinkedPiece limit start area ws piece
linked-piece limit start area ws before piece behind is =
    let parts : PieceParts limit start area ws (length piece) = piece-parts limit start area ws before piece behind is in
    let end : ℕ = start + length piece in
    let c1 : List Change = linking limit (front start ws) in
    let c2 : List Change = linking limit (front end (rest start ws)) in
    let c3 : List Change = linking limit (rest end (rest start ws)) in
    let sizes : length area ≡ start + (length piece + length behind) =
    omega (arith, ap (λ (l : List ℕ). length l) is.parts, is.place, length-append before (piece ++ behind), length-append piece behind) in
    let left : List ℕ = change_all c1 before in
    let own : List ℕ = change_all (own_changes limit start (length piece) ws) piece in
    let right : List ℕ = change_all (map (earlier end) c3) behind in
    let inner : AllBetween 0 (length piece) (own_changes limit start (length piece) ws) = earlier-between start end (length piece) c2 parts.own (omega arith) in
    let left_long : length (change_all (linking limit (front start ws)) before) ≡ start = length-change_all 0 start c1 before parts.before (omega (arith, is.place)) ∙ is.place in
    let own_long : length (change_all (own_changes limit start (length piece) ws) piece) ≡ length piece = length-change_all 0 (length piece) (own_changes limit start (length piece) ws) piece inner (omega arith) in
    let both : length (change_all (linking limit (front start ws)) before ++ change_all (own_changes limit start (length piece) ws) piece) ≡ start + length piece = omega (arith, length-append left own, left_long, own_long) in
    record {
      left = left;
      right = right;
      place = left_long;
      long = own_long;
      parts = ap₂ (λ (cs : List Change) (b : List ℕ). change_all cs b) parts.split is.parts
          ∙ (change_all-append c1 (c2 ++ c3) (before ++ (piece ++ behind))
          ∙ (change_all-append c2 c3 (change_all c1 (before ++ (piece ++ behind)))
          ∙ (ap (λ (b : List ℕ). change_all c3 (change_all c2 b)) (change_all-left 0 start c1 before (piece ++ behind) parts.before (omega (arith, is.place)))
          ∙ (ap (change_all c3) (change_all-right start end c2 left (piece ++ behind) parts.own (sym left_long) (omega (arith, length-append piece behind)))
          ∙ (ap (λ (b : List ℕ). change_all c3 (left ++ b)) (change_all-left 0 (length piece) (own_changes limit start (length piece) ws) piece behind inner (omega arith))
          ∙ (ap (change_all c3) (sym (append_assoc left own behind))
          ∙ (change_all-right end (length area) c3 (left ++ own) behind parts.behind (sym both) (omega (arith, sizes))
          ∙ append_assoc left own right)))))));
    }

-- each byte of a piece is what its own changes leave
pub piece-byte : (limit start k : ℕ) (area ws before piece behind : List ℕ) → IsPiece area ws before piece behind start → k < length piece
    → get_or (change_all (linking limit ws) area) (start + k) 0 ≡ get_or (change_all (own_changes limit start (length piece) ws) piece) k 0
piece-byte limit start k area ws before piece behind is within =
    let linked : LinkedPiece limit start area ws piece = linked-piece limit start area ws before piece behind is in
    let own : List ℕ = change_all (own_changes limit start (length piece) ws) piece in
    let place : start + k ≡ length linked.left + k = omega (arith, linked.place) in
    ap (λ (l : List ℕ). get_or l (start + k) 0) linked.parts
    ∙ (ap (λ (n : ℕ). get_or (linked.left ++ (own ++ linked.right)) n 0) place
    ∙ (get_or-append-add linked.left (own ++ linked.right) k 0
    ∙ get_or_append_left own linked.right 0 k (omega (arith, within, linked.long))))

-- ---- the numbers of a piece

fit-parts : (b : List ℕ) (cs ds : List Change) → AllFit (map (settled b) (cs ++ ds)) → AllFit (map (settled b) cs) × AllFit (map (settled b) ds)
fit-parts b [] ds fit = (tt, fit)
fit-parts b (c ∷ cs) ds fit =
    let later : AllFit (map (settled b) cs) × AllFit (map (settled b) ds) = fit-parts b cs ds fit.1 in
    ((fit.0, later.0), later.1)

fit-earlier : (start end : ℕ) (cs : List Change) (before piece behind : List ℕ) → length before ≡ start → end ≤ start + length piece → AllBetween start end cs
    → AllFit (map (settled (before ++ (piece ++ behind))) cs) → AllFit (map (settled piece) (map (earlier start) cs))
fit-earlier start end [] before piece behind place last inside fit = tt
fit-earlier start end (c ∷ cs) before piece behind place last inside fit = (
  subst (λ (n : ℕ). c.becomes n < 256 ^ c.width)
      (number_at-append_right c.width before (piece ++ behind) start c.at place inside.0.0
      ∙ number_at-append_left c.width piece behind (c.at - start) (omega (arith, inside.0.0, inside.0.1, last))) fit.0,
  fit-earlier start end cs before piece behind place last inside.1 fit.1,
)

pub piece-fits : (limit start : ℕ) (area ws before piece behind : List ℕ) → IsPiece area ws before piece behind start → AllFit (map (settled area) (linking limit ws))
    → AllFit (map (settled piece) (own_changes limit start (length piece) ws))
piece-fits limit start area ws before piece behind is fit =
    let parts : PieceParts limit start area ws (length piece) = piece-parts limit start area ws before piece behind is in
    let end : ℕ = start + length piece in
    let own : AllFit (map (settled area) (linking limit (front end (rest start ws)))) =
    (fit-parts area (linking limit (front end (rest start ws))) (linking limit (rest end (rest start ws)))
    (fit-parts area (linking limit (front start ws)) (linking limit (front end (rest start ws)) ++ linking limit (rest end (rest start ws)))
    (subst (λ (cs : List Change). AllFit (map (settled area) cs)) parts.split fit)).1).0 in
    fit-earlier start end (linking limit (front end (rest start ws))) before piece behind is.place (omega arith) parts.own
    (subst (λ (b : List ℕ). AllFit (map (settled b) (linking limit (front end (rest start ws))))) is.parts own)

-- ---- the chunks that threads get

whole_pages : (size start : ℕ) → size % 4096 ≡ 0 → start % size ≡ 0 → start % 4096 ≡ 0
whole_pages size start pages whole = mod-eq-zero_of_dvd 4096 (dvd_trans 4096 (dvd_of_mod-eq-zero 4096 pages) (dvd_of_mod-eq-zero size whole))

-- what is owed of the data and their words
pub record AreData (area ws : List ℕ) : Type 0 where
  pub whole : length area % 4096 ≡ 0
  pub words : AreWords 0 ws
  pub under : AllBelow (length area) ws

pub chunk-piece : (size start : ℕ) (area ws piece : List ℕ) → size % 4096 ≡ 0 → AreData area ws → IsChunk area size start piece
    → IsPiece area ws (take start area) piece (drop size (drop start area)) start
chunk-piece size start area ws piece pages are chunk =
    let even : start % 4096 ≡ 0 = whole_pages size start pages chunk.start_is_multiple in
    record {
      parts = sym (take-append-drop start area) ∙ ap (λ (l : List ℕ). take start area ++ l) (sym (take-append-drop size (drop start area)) ∙ ap (λ (l : List ℕ). l ++ drop size (drop start area)) (sym chunk.value));
      place = omega (arith, length-take start area, chunk.in_bounds);
      even = even;
      pages = omega (arith, chunk.len, pages, even, are.whole);
      whole = are.whole;
      words = are.words;
      under = are.under;
    }

-- a byte of the data in the piece that holds it, and what was left there
pub record InPiece (limit size : ℕ) (area new ws : List ℕ) (i : ℕ) : Type 0 where
  pub start : ℕ
  pub offset : ℕ
  pub place : start + offset ≡ i
  pub piece : List ℕ
  pub chunk : IsChunk area size start piece
  pub inside : offset < length piece
  pub left : get_or (change_all (own_changes limit start (length piece) ws) piece) offset 0 ≡ get_or new i 0

-- so all pieces together are what linking all words leaves
pub chunks-all : (limit size : ℕ) (area new ws : List ℕ) → size % 4096 ≡ 0 → AreData area ws → length new ≡ length area → ((i : ℕ) → i < length area → InPiece limit size area new ws i)
    → new ≡ change_all (linking limit ws) area
chunks-all limit size area new ws pages are long each =
    let inside : AllBetween 0 (length area) (linking limit ws) = linking-between limit 0 (length area) ws are.whole are.words are.under in
    ext_get_or 0 new (change_all (linking limit ws) area) (long ∙ sym (length-change_all 0 (length area) (linking limit ws) area inside (omega arith)))
    (λ i lt.
    let at : InPiece limit size area new ws i = each i (omega (arith, lt, long)) in
    sym at.left
    ∙ (sym (piece-byte limit at.start at.offset area ws (take at.start area) at.piece (drop size (drop at.start area)) (chunk-piece size at.start area ws at.piece pages are at.chunk) at.inside)
    ∙ ap (λ (n : ℕ). get_or (change_all (linking limit ws) area) n 0) at.place))
