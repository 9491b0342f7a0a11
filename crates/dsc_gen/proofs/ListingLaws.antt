-- What loops append, one piece for each word, and what they set.
use Rattle.std.proofs.Common.{◌≡◌, ◌≤◌, ◌<◌, ℕ, suc, ◌+◌, List, [], ◌∷◌, ◌++◌, drop, length, get_or, sym, ap, ◌∙◌, arith, append_assoc, append-nil}
use Rattle.std.proofs.lemmas.List.{at_drop_more, at_drop_all}
use Rattle.dsc_base.specs.Numbers.{put_number}
use Rattle.dsc_base.specs.declared.edits.Edit.{Edit}
use Rattle.dsc_base.specs.Edits.{put_all}

-- one part behind another
pub and_then : {X : Type 0} (old middle new a b : List X) → middle ≡ old ++ a → new ≡ middle ++ b → new ≡ old ++ (a ++ b)
and_then {X} old middle new a b first second = second ∙ (ap (λ (l : List X). l ++ b) first ∙ append_assoc old a b)

-- a part behind what was made so far, where it is the first of what was left
pub made_more : {X : Type 0} (done new piece left rest whole : List X) → done ++ left ≡ whole → left ≡ piece ++ rest → new ≡ done ++ piece → new ++ rest ≡ whole
made_more {X} done new piece left rest whole so_far first is =
    ap (λ (l : List X). l ++ rest) is ∙ (append_assoc done piece rest ∙ (ap (λ (l : List X). done ++ l) (sym first) ∙ so_far))

pub made_all : {X : Type 0} (done left whole : List X) → done ++ left ≡ whole → left ≡ [] → done ≡ whole
made_all {X} done left whole so_far none = sym (append-nil done) ∙ (ap (λ (l : List X). done ++ l) (sym none) ∙ so_far)

-- a listing with a piece for each word, by its number
pub listed_more : {X : Type 0} (F : ℕ → List ℕ → List X) (piece : ℕ → ℕ → List X) (step : (n w : ℕ) (ws : List ℕ) → F n (w ∷ ws) ≡ piece n w ++ F (suc n) ws)
    → (n m : ℕ) (ws : List ℕ) (i : ℕ) (done new whole : List X) → suc n ≡ m → i < length ws → done ++ F n (drop i ws) ≡ whole → new ≡ done ++ piece n (get_or ws i 0)
    → new ++ F m (drop (i + 1) ws) ≡ whole
listed_more {X} F piece step n m ws i done new whole next lt so_far is =
    made_more done new (piece n (get_or ws i 0)) (F n (drop i ws)) _ whole so_far
    (at_drop_more (F n) ws i 0 lt ∙ (step n (get_or ws i 0) (drop (i + 1) ws) ∙ ap (λ (k : ℕ). piece n (get_or ws i 0) ++ F k (drop (i + 1) ws)) next))
    is

pub listed_all : {X : Type 0} (F : ℕ → List ℕ → List X) (end : (i : ℕ) → F i [] ≡ []) (n : ℕ) (ws : List ℕ) (i : ℕ) (done whole : List X) → length ws ≤ i → done ++ F n (drop i ws) ≡ whole → done ≡ whole
listed_all F end n ws i done whole le so_far = made_all done _ whole so_far (at_drop_all (F n) ws i le ∙ end n)

-- a number set for each word
pub edited_more : (F : ℕ → List ℕ → List Edit) (edit : ℕ → ℕ → Edit) (step : (i w : ℕ) (ws : List ℕ) → F i (w ∷ ws) ≡ edit i w ∷ F (suc i) ws)
    → (ws : List ℕ) (i : ℕ) (done new whole : List ℕ) → i < length ws → put_all (F i (drop i ws)) done ≡ whole
    → new ≡ put_number (edit i (get_or ws i 0)).width done (edit i (get_or ws i 0)).at (edit i (get_or ws i 0)).value
    → put_all (F (i + 1) (drop (i + 1) ws)) new ≡ whole
unfolding put_all
edited_more F edit step ws i done new whole lt so_far is =
    let next : suc i ≡ i + 1 = omega arith in
    let here : F i (drop i ws) ≡ edit i (get_or ws i 0) ∷ F (i + 1) (drop (i + 1) ws) =
    at_drop_more (F i) ws i 0 lt ∙ (step i (get_or ws i 0) (drop (i + 1) ws) ∙ ap (λ (n : ℕ). edit i (get_or ws i 0) ∷ F n (drop (i + 1) ws)) next) in
    ap (λ (l : List ℕ). put_all (F (i + 1) (drop (i + 1) ws)) l) is ∙ (ap (λ (es : List Edit). put_all es done) (sym here) ∙ so_far)

pub edited_all : (F : ℕ → List ℕ → List Edit) (end : (i : ℕ) → F i [] ≡ []) (ws : List ℕ) (i : ℕ) (done whole : List ℕ) → length ws ≤ i → put_all (F i (drop i ws)) done ≡ whole → done ≡ whole
unfolding put_all
edited_all F end ws i done whole le so_far = ap (λ (es : List Edit). put_all es done) (sym (at_drop_all (F i) ws i le ∙ end i)) ∙ so_far

pub seven : (old one two three four five six new a b c d e f g : List ℕ)
    → one ≡ old ++ a → two ≡ one ++ b → three ≡ two ++ c → four ≡ three ++ d → five ≡ four ++ e → six ≡ five ++ f → new ≡ six ++ g
    → new ≡ old ++ (a ++ (b ++ (c ++ (d ++ (e ++ (f ++ g))))))
seven old one two three four five six new a b c d e f g p q r s t u v =
    and_then old one new a _ p (and_then one two new b _ q (and_then two three new c _ r (and_then three four new d _ s (and_then four five new e _ t (and_then five six new f g u v)))))
