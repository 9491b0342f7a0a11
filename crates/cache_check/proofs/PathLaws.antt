-- Paths of images in a map.
use Rattle.std.proofs.Common.{◌≡◌, ◌<◌, ℕ, ◌+◌, Bool, true, false, cond, List, take, length, get_or, refl, sym, ap, ap₂, ◌∙◌, arith, Option, Some, None, true≢false}
use Rattle.std.specs.Prelude.{position, option_map}
use Rattle.std.specs.Cmp.Lexicographic.{same_text, nat_list_eq_equiv}
use Rattle.std.proofs.lemmas.List.{take_more, length-take-le}
use Rattle.dsc_base.specs.declared.finding_kind.FindingKind.TheVariants.{NameTwice}
use Rattle.macho_image.specs.Rules.{same_bytes}
use Rattle.dep_closure.proofs.PositionLaws.{or_last, position-push}
use Rattle.cache_header.specs.Findings.{finding}
use Rattle.cache_header.specs.Records.{Entry}
use Rattle.cache_check.specs.Images.{twice_finding}

-- the first of some images that has a path
abbrev pub path_at : List Entry → List ℕ → Option ℕ
path_at entries path = position (λ (d : Entry). same_bytes path d.path) entries

-- what a map has of each path, after so many images
abbrev pub AreNumbered : List Entry → (List ℕ → Option ℕ) → ℕ → Type 0
AreNumbered entries found n = (path : List ℕ) → found path ≡ path_at (take n entries) path

one_more : (entries : List Entry) (n : ℕ) (e : Entry) (path : List ℕ) → n < length entries → e ≡ get_or entries n e → path_at (take (n + 1) entries) path ≡ or_last (path_at (take n entries) path) (same_bytes path e.path) n
one_more entries n e path more is =
    let p : Entry → Bool = λ (d : Entry). same_bytes path d.path in
    let long : length (take n entries) ≡ n = length-take-le n entries (omega arith) in
    ap (λ (es : List Entry). position p es) (take_more entries n e more)
    ∙ (position-push p (take n entries) (get_or entries n e) ∙ ap₂ (λ (d : Entry) (m : ℕ). or_last (position p (take n entries)) (p d) m) (sym is) long)

last_none : (o : Option ℕ) (n : ℕ) → or_last o false n ≡ o
last_none None n = refl
last_none (Some k) n = refl

new_one : (b c : Bool) (o : Option ℕ) (n : ℕ) → b ≡ c → (b ≡ true → o ≡ None) → cond b (Some n) o ≡ or_last o c n
new_one true true None n same absent = refl
new_one true true (Some k) n same absent = absurd (cc (absent refl))
new_one true false o n same absent = absurd (true≢false same)
new_one false true o n same absent = absurd (true≢false (sym same))
new_one false false o n same absent = sym (last_none o n)

-- a path that no image had
pub numbered_new : (entries : List Entry) (old new : List ℕ → Option ℕ) (n : ℕ) (e : Entry) (key : List ℕ) → AreNumbered entries old n → n < length entries → e ≡ get_or entries n e → key ≡ e.path
    → old key ≡ None → ((path : List ℕ) → new path ≡ cond (same_bytes key path) (Some n) (old path)) → AreNumbered entries new (n + 1)
numbered_new entries old new n e key kept more is key_is absent updates path =
    let same : same_bytes key path ≡ same_bytes path key = nat_list_eq_equiv.symm key path in
    let none : same_bytes key path ≡ true → old path ≡ None = λ (t : same_bytes key path ≡ true). ap old (sym (same_text key path (sym t))) ∙ absent in
    updates path
    ∙ (new_one (same_bytes key path) (same_bytes path key) (old path) n same none
    ∙ (ap₂ (λ (o : Option ℕ) (k : List ℕ). or_last o (same_bytes path k) n) (kept path) key_is ∙ sym (one_more entries n e path more is)))

pub twice_is : (entries : List Entry) (found : List ℕ → Option ℕ) (n : ℕ) (e : Entry) (key : List ℕ) (o : Option ℕ) → AreNumbered entries found n → key ≡ e.path → found key ≡ o → twice_finding entries n e ≡ option_map (λ (j : ℕ). finding NameTwice n j) o
unfolding twice_finding
twice_is entries found n e key o kept key_is at =
    ap (λ (p : Option ℕ). option_map (λ (j : ℕ). finding NameTwice n j) p) (sym (kept e.path) ∙ (ap found (sym key_is) ∙ at))
