-- Install names of images in a map.
use Rattle.std.proofs.Common.{◌≡◌, ◌≤◌, ◌<◌, ℕ, ◌+◌, Bool, true, false, cond, List, take, length, get_or, refl, sym, ap, ap₂, ◌∙◌, arith, Option, Some, None, true≢false}
use Rattle.std.specs.Prelude.{position, is_some}
use Rattle.std.specs.Cmp.Lexicographic.{same_text, nat_list_eq_equiv}
use Rattle.std.proofs.lemmas.Bool.{le-ltb}
use Rattle.std.proofs.lemmas.List.{take_more, take_all, length-take-le}
use Rattle.macho_image.specs.Records.{Img}
use Rattle.macho_image.specs.Rules.{same_bytes}
use Rattle.dep_closure.specs.Dependencies.{image_named}
use Rattle.dep_closure.proofs.PositionLaws.{or_last, below, position-push, position-take, below_same}

-- what a map has of each name, after so many images
abbrev pub AreNumberedTo : List Img → (List ℕ → Option ℕ) → ℕ → Type 0
AreNumberedTo images found number = (name : List ℕ) → found name ≡ image_named (take number images) name

one_more_named : (images : List Img) (number : ℕ) (i : Img) (name : List ℕ) → number < length images → i ≡ get_or images number i
    → image_named (take (number + 1) images) name ≡ or_last (image_named (take number images) name) (same_bytes name i.install_name) number
one_more_named images number i name more is =
    let p : Img → Bool = λ (j : Img). same_bytes name j.install_name in
    let long : length (take number images) ≡ number = length-take-le number images (omega arith) in
    ap (λ (js : List Img). position p js) (take_more images number i more)
    ∙ (position-push p (take number images) (get_or images number i)
    ∙ ap₂ (λ (j : Img) (n : ℕ). or_last (position p (take number images)) (p j) n) (sym is) long)

-- of one name, from whether it is the new one
last_none : (o : Option ℕ) (n : ℕ) → or_last o false n ≡ o
last_none None n = refl
last_none (Some k) n = refl

new_one : (b c : Bool) (o : Option ℕ) (n : ℕ) → b ≡ c → (b ≡ true → is_some o ≡ false) → cond b (Some n) o ≡ or_last o c n
new_one true true None n same absent = refl
new_one true true (Some k) n same absent = absurd (true≢false (absent refl))
new_one true false o n same absent = absurd (true≢false same)
new_one false true o n same absent = absurd (true≢false (sym same))
new_one false false o n same absent = sym (last_none o n)

old_one : (b : Bool) (o : Option ℕ) (n : ℕ) → (b ≡ true → is_some o ≡ true) → o ≡ or_last o b n
old_one true None n there = absurd (true≢false (sym (there refl)))
old_one true (Some k) n there = refl
old_one false o n there = sym (last_none o n)

pub numbered_new : (images : List Img) (old new : List ℕ → Option ℕ) (number : ℕ) (i : Img) (key : List ℕ) → AreNumberedTo images old number → number < length images → i ≡ get_or images number i → key ≡ i.install_name
    → is_some (old key) ≡ false → ((name : List ℕ) → new name ≡ cond (same_bytes key name) (Some number) (old name)) → AreNumberedTo images new (number + 1)
numbered_new images old new number i key kept more is key_is absent updates name =
    let same : same_bytes key name ≡ same_bytes name key = nat_list_eq_equiv.symm key name in
    let none : same_bytes key name ≡ true → is_some (old name) ≡ false = λ (e : same_bytes key name ≡ true). ap (λ (n : List ℕ). is_some (old n)) (sym (same_text key name (sym e))) ∙ absent in
    updates name
    ∙ (new_one (same_bytes key name) (same_bytes name key) (old name) number same none
    ∙ (ap₂ (λ (o : Option ℕ) (k : List ℕ). or_last o (same_bytes name k) number) (kept name) key_is ∙ sym (one_more_named images number i name more is)))

pub numbered_old : (images : List Img) (old : List ℕ → Option ℕ) (number : ℕ) (i : Img) (key : List ℕ) → AreNumberedTo images old number → number < length images → i ≡ get_or images number i → key ≡ i.install_name
    → is_some (old key) ≡ true → AreNumberedTo images old (number + 1)
numbered_old images old number i key kept more is key_is there name =
    let some : same_bytes name key ≡ true → is_some (old name) ≡ true = λ (e : same_bytes name key ≡ true). ap (λ (n : List ℕ). is_some (old n)) (same_text name key (sym e)) ∙ there in
    old_one (same_bytes name key) (old name) number some
    ∙ (ap₂ (λ (o : Option ℕ) (k : List ℕ). or_last o (same_bytes name k) number) (kept name) key_is ∙ sym (one_more_named images number i name more is))

pub numbered_none : (images : List Img) (found : List ℕ → Option ℕ) → ((name : List ℕ) → found name ≡ None) → AreNumberedTo images found 0
numbered_none images found none name = none name

pub numbered_all : (images : List Img) (found : List ℕ → Option ℕ) (number : ℕ) → AreNumberedTo images found number → length images ≤ number → (name : List ℕ) → found name ≡ image_named images name
numbered_all images found number kept all name = kept name ∙ ap (λ (js : List Img). image_named js name) (take_all number images all)

-- a name among the images before one
pub named_before : (images : List Img) (name : List ℕ) (n k : ℕ) → Some k ≡ image_named images name → k < n → Some k ≡ image_named (take n images) name
named_before images name n k found lt =
    sym (position-take (λ (j : Img). same_bytes name j.install_name) n images ∙ (ap (λ (o : Option ℕ). below n o) (sym found) ∙ below_same n k lt))

pub named_after : (images : List Img) (name : List ℕ) (n k : ℕ) → Some k ≡ image_named images name → n ≤ k → None ≡ image_named (take n images) name
named_after images name n k found le =
    sym (position-take (λ (j : Img). same_bytes name j.install_name) n images ∙ (ap (λ (o : Option ℕ). below n o) (sym found) ∙ ap (λ (b : Bool). cond b (Some k) None) (le-ltb k n le)))

pub named_nowhere : (images : List Img) (name : List ℕ) (n : ℕ) → None ≡ image_named images name → None ≡ image_named (take n images) name
named_nowhere images name n none =
    sym (position-take (λ (j : Img). same_bytes name j.install_name) n images ∙ ap (λ (o : Option ℕ). below n o) (sym none))
