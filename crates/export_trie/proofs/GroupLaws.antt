-- Exports that part at a byte.
use Rattle.std.proofs.Common.{◌≡◌, ◌≢◌, ◌≤◌, ◌<◌, ℕ, zero, suc, ◌+◌, ◌-◌, List, [], ◌∷◌, ◌++◌, take, drop, length, get_or, refl, sym, ap, ap₂, subst, ◌∙◌, arith, inl, inr, Bool, true}
use Rattle.std.specs.Prelude.{nat_eq}
use Rattle.std.specs.List.{prefix_len}
use Rattle.std.specs.declared.cmp.Ordering.TheVariants.{Less}
use Rattle.std.specs.Ordering.{nat_cmp}
use Rattle.std.specs.Cmp.Lexicographic.{slice_cmp}
use Rattle.std.proofs.Math.Seq.{take-suc}
use Rattle.std.proofs.lemmas.Bool.{cond-true, cond-false, cases_Bool, cases_lt, eqb-true, eqb-false}
use Rattle.std.proofs.lemmas.List.{take_all}
use Rattle.std.proofs.lemmas.List.Sums.{common_prefix_len-le}
use Rattle.export_trie.specs.declared.export.Export.{Export}
use Rattle.export_trie.specs.Paths.{Member}
use Rattle.export_trie.specs.Writing.{goes_with, same_edge, other_edges, shared_len, going_on, HasNoZero}
use Rattle.export_trie.specs.Planning.{Rising, IsReady}
use Rattle.export_trie.proofs.PrefixLaws.{common, common-take, common-least, common-falls, front_first}

-- parts of a list
pub Member-take : {A : Type 0} (k : ℕ) (x : A) (xs : List A) → Member x (take k xs) → Member x xs
Member-take zero x [] member = absurd member
Member-take zero x (y ∷ xs) member = absurd member
Member-take (suc k) x [] member = absurd member
Member-take (suc k) x (y ∷ xs) (inl is) = inl is
Member-take (suc k) x (y ∷ xs) (inr member) = inr (Member-take k x xs member)

pub Member-drop : {A : Type 0} (k : ℕ) (x : A) (xs : List A) → Member x (drop k xs) → Member x xs
Member-drop zero x xs member = member
Member-drop (suc k) x [] member = absurd member
Member-drop (suc k) x (y ∷ xs) member = inr (Member-drop k x xs member)

pub Rising-take : (k : ℕ) (xs : List Export) → Rising xs → Rising (take k xs)
Rising-take zero [] rising = tt
Rising-take zero (x ∷ xs) rising = tt
Rising-take (suc k) [] rising = tt
Rising-take (suc k) (x ∷ xs) rising = (λ e member. rising.0 e (Member-take k e xs member), Rising-take k xs rising.1)

pub Rising-drop : (k : ℕ) (xs : List Export) → Rising xs → Rising (drop k xs)
Rising-drop zero xs rising = rising
Rising-drop (suc k) [] rising = tt
Rising-drop (suc k) (x ∷ xs) rising = Rising-drop k xs rising.1

-- those with the same byte have it, and the next one has not
pub prefix-passes : (p : Export → Bool) (x : Export) (xs : List Export) → Member x (take (prefix_len p xs) xs) → p x ≡ true
prefix-passes p x [] member = absurd member
prefix-passes p x (y ∷ xs) member =
    elim (cases_Bool (p y)) [
      | inl yes' ↦ go yes' (λ later. prefix-passes p x xs later) (subst (λ (n : ℕ). Member x (take n (y ∷ xs))) (cond-true (p y) (1 + prefix_len p xs) 0 yes' ∙ (let e : 1 + prefix_len p xs ≡ suc (prefix_len p xs) = omega arith in e)) member)
      | inr no' ↦ absurd (subst (λ (n : ℕ). Member x (take n (y ∷ xs))) (cond-false (p y) (1 + prefix_len p xs) 0 no') member)
    ]
  where
    go : p y ≡ true → (Member x (take (prefix_len p xs) xs) → p x ≡ true) → Member x (y ∷ take (prefix_len p xs) xs) → p x ≡ true
    go yes' more (inl is) = ap p is ∙ yes'
    go yes' more (inr later) = more later

-- what is shared with all
pub shared-least : (k : ℕ) (name : List ℕ) (group : List Export) → k ≤ length name → ((x : Export) → Member x group → k ≤ common name x.name) → k ≤ shared_len name group
shared-least k name [] in_name each = in_name
shared-least k name (x ∷ group) in_name each = omega (arith, each x (inl refl), shared-least k name group in_name (λ y member. each y (inr member)))

pub shared-name : (name : List ℕ) (group : List Export) → shared_len name group ≤ length name
shared-name name [] = omega arith
shared-name name (x ∷ group) = omega (arith, shared-name name group)

pub shared-each : (name : List ℕ) (group : List Export) (x : Export) → Member x group → shared_len name group ≤ common name x.name
shared-each name [] x member = absurd member
shared-each name (y ∷ group) x (inl is) = subst (λ (e : Export). shared_len name (y ∷ group) ≤ common name e.name) (sym is) (omega arith)
shared-each name (y ∷ group) x (inr member) = omega (arith, shared-each name group x member)

-- the first one and those that go its way
pub group-Member : (depth : ℕ) (first : Export) (exports : List Export) (x : Export) → Member x (same_edge depth first exports) → Member x exports
group-Member depth first exports x member = Member-take (prefix_len (goes_with depth first) exports) x exports member

pub rest-Member : (depth : ℕ) (first : Export) (exports : List Export) (x : Export) → Member x (other_edges depth first exports) → Member x exports
rest-Member depth first exports x member = Member-drop (prefix_len (goes_with depth first) exports) x exports member

pub group-byte : (depth : ℕ) (first : Export) (exports : List Export) (x : Export) → Member x (same_edge depth first exports) → get_or x.name depth 0 ≡ get_or first.name depth 0
group-byte depth first exports x member = eqb-true (get_or x.name depth 0) (get_or first.name depth 0) (prefix-passes (goes_with depth first) x exports member)

module _ (depth : ℕ) (first : Export) (exports : List Export) (ready : IsReady depth (first ∷ exports)) where
  abbrev group : List Export
  group = same_edge depth first exports

  abbrev len : ℕ
  len = shared_len first.name group

  later : (x : Export) → Member x exports → slice_cmp nat_cmp first.name x.name ≡ Less
  later = ready.rising.0

  -- one byte more is in common
  pub deeper : depth < len
  deeper = shared-least (suc depth) first.name group (ready.longer first (inl refl)) each
    where
      each : (x : Export) → Member x group → suc depth ≤ common first.name x.name
      each x member =
          let in_all : Member x (first ∷ exports) = inr (group-Member depth first exports x member) in
          common-least (suc depth) first.name x.name (ready.longer first (inl refl)) (ready.longer x in_all)
          (take-suc first.name depth 0 (ready.longer first (inl refl))
          ∙ (ap₂ (λ (l : List ℕ) (b : ℕ). l ++ b ∷ []) (ready.begins first (inl refl) ∙ sym (ready.begins x in_all)) (sym (group-byte depth first exports x member))
          ∙ sym (take-suc x.name depth 0 (ready.longer x in_all))))

  pub within : len ≤ length first.name
  within = shared-name first.name group

  pub group-front : (x : Export) → Member x group → take len x.name ≡ take len first.name
  group-front x member = sym (common-take len first.name x.name (shared-each first.name group x member))

  pub group-longer : (x : Export) → Member x group → len < length x.name
  group-longer x member =
      let le = shared-each first.name group x member in
      let fits = (common_prefix_len-le nat_eq first.name x.name).1 in
      elim (cases_lt len (length x.name)) [
        | inl longer ↦ longer
        | inr no_more ↦
            let is_front : x.name ≡ take len first.name = sym (take_all len x.name no_more) ∙ group-front x member in
            absurd (front_first first.name len (subst (λ (l : List ℕ). slice_cmp nat_cmp first.name l ≡ Less) is_front (later x (group-Member depth first exports x member))))
      ]

  -- the node of the edge
  pub ready_below : IsReady len (going_on len first group)
  ready_below =
      elim (cases_Bool (nat_eq (length first.name) len)) [
        | inl own ↦
            subst (λ (l : List Export). IsReady len l) (sym (cond-true (nat_eq (length first.name) len) group (first ∷ group) own))
            (record {
              front = take len first.name;
              begins = group-front;
              longer = group-longer;
              plain = λ x member. ready.plain x (inr (group-Member depth first exports x member));
              rising = Rising-take (prefix_len (goes_with depth first) exports) exports ready.rising.1;
            })
        | inr other ↦
            subst (λ (l : List Export). IsReady len l) (sym (cond-false (nat_eq (length first.name) len) group (first ∷ group) other))
            (record {
              front = take len first.name;
              begins = λ x member. both_begin x member;
              longer = λ x member. both_longer (eqb-false (length first.name) len other) x member;
              plain = λ x member. both_plain x member;
              rising = (λ x member. later x (group-Member depth first exports x member), Rising-take (prefix_len (goes_with depth first) exports) exports ready.rising.1);
            })
      ]
    where
      both_begin : (x : Export) → Member x (first ∷ group) → take len x.name ≡ take len first.name
      both_begin x (inl is) = ap (λ (e : Export). take len e.name) is
      both_begin x (inr member) = group-front x member

      both_longer : length first.name ≢ len → (x : Export) → Member x (first ∷ group) → len < length x.name
      both_longer other x (inl is) = subst (λ (e : Export). len < length e.name) (sym is) (omega (arith, other, within))
      both_longer other x (inr member) = group-longer x member

      both_plain : (x : Export) → Member x (first ∷ group) → HasNoZero x.name
      both_plain x (inl is) = ready.plain x (inl is)
      both_plain x (inr member) = ready.plain x (inr (group-Member depth first exports x member))

  -- its siblings
  pub ready_next : IsReady depth (other_edges depth first exports)
  ready_next = record {
    front = ready.front;
    begins = λ x member. ready.begins x (inr (rest-Member depth first exports x member));
    longer = λ x member. ready.longer x (inr (rest-Member depth first exports x member));
    plain = λ x member. ready.plain x (inr (rest-Member depth first exports x member));
    rising = Rising-drop (prefix_len (goes_with depth first) exports) exports ready.rising.1;
  }

-- the first and the last of a group have in common what all have
pub last-Member : (x : Export) (xs : List Export) (i : ℕ) → i < length xs → x ≡ get_or xs i x → Member x xs
last-Member x [] i inside is = absurd (omega arith)
last-Member x (y ∷ xs) zero inside is = inl is
last-Member x (y ∷ xs) (suc i) inside is = inr (last-Member x xs i (omega arith) is)

pub shared-last : (first : Export) (group : List Export) (last : Export) → ((x : Export) → Member x group → slice_cmp nat_cmp first.name x.name ≡ Less) → Rising group → 0 < length group → last ≡ get_or group (length group - 1) last → shared_len first.name group ≡ common first.name last.name
shared-last first [] last before rising some is = absurd (omega arith)
shared-last first (x ∷ []) last before rising some is =
    let le = (common_prefix_len-le nat_eq first.name x.name).0 in
    let e : last ≡ x = is in
    let shared : shared_len first.name (x ∷ []) ≡ common first.name x.name = omega (arith, le) in
    shared ∙ ap (λ (y : Export). common first.name y.name) (sym e)
shared-last first (x ∷ y ∷ group) last before rising some is =
    let at : length (x ∷ y ∷ group) - 1 ≡ suc (length (y ∷ group) - 1) = omega arith in
    let is' : last ≡ get_or (y ∷ group) (length (y ∷ group) - 1) last = is ∙ ap (λ (i : ℕ). get_or (x ∷ y ∷ group) i last) at in
    let member : Member last (y ∷ group) = last-Member last (y ∷ group) (length (y ∷ group) - 1) (omega arith) is' in
    let falls = common-falls first.name x.name last.name (before x (inl refl)) (rising.0 last member) in
    omega (arith, falls, shared-last first (y ∷ group) last (λ z m. before z (inr m)) rising.1 (omega arith) is')

-- parts of what is ready
pub get_or-Member : (xs : List Export) (k : ℕ) (d : Export) → k < length xs → Member (get_or xs k d) xs
get_or-Member [] k d inside = absurd (omega arith)
get_or-Member (x ∷ xs) zero d inside = inl refl
get_or-Member (x ∷ xs) (suc k) d inside = inr (get_or-Member xs k d (omega arith))

pub ready-longer : (depth : ℕ) (xs ys : List Export) → ys ≡ drop 1 xs → IsReady depth xs → (k : ℕ) (d : Export) → k < length ys → depth < length (get_or ys k d).name
ready-longer depth xs ys is ready k d inside =
    subst (λ (l : List Export). depth < length (get_or l k d).name) (sym is)
    (ready.longer (get_or (drop 1 xs) k d) (Member-drop 1 (get_or (drop 1 xs) k d) xs (get_or-Member (drop 1 xs) k d (omega (arith, ap length is)))))

pub ready-part : (depth n : ℕ) (first : Export) (xs ys : List Export) → ys ≡ drop 1 xs → 1 ≤ length xs → first ≡ get_or xs 0 first → IsReady depth xs → IsReady depth (first ∷ take n ys)
ready-part depth n first [] ys is some at ready = absurd (omega arith)
ready-part depth n first (x ∷ xs) ys is some at ready =
    subst (λ (l : List Export). IsReady depth (first ∷ take n l)) (sym is)
    (subst (λ (e : Export). IsReady depth (e ∷ take n xs)) (sym at)
    (record {
      front = ready.front;
      begins = λ e member. ready.begins e (whole e member);
      longer = λ e member. ready.longer e (whole e member);
      plain = λ e member. ready.plain e (whole e member);
      rising = (λ e member. ready.rising.0 e (Member-take n e xs member), Rising-take n xs ready.rising.1);
    }))
  where
    whole : (e : Export) → Member e (x ∷ take n xs) → Member e (x ∷ xs)
    whole e (inl same) = inl same
    whole e (inr member) = inr (Member-take n e xs member)
