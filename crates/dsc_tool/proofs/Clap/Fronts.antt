-- What was seen in front of words that are still to be read.
use Rattle.std.proofs.Common.{◌≡◌, ◌++◌, List, [], ◌∷◌, Bool, true, false, Option, Some, None, refl, ap, sym, ◌∙◌, append_assoc}
use Rattle.std.specs.Prelude.{if◌then◌else◌, is_some, option_map}
use Rattle.std.proofs.lemmas.List.{append-nil}
use Rattle.clap.specs.Walk.{Text}
use Rattle.dsc_tool.specs.WordParts.{Parts, with_plain, with_value}
use Rattle.dsc_tool.proofs.Clap.Held.{Seen, nothing, value, plain, value_plain, plain_value, seen_plain, seen_value, has_value}

abbrev pub parts_of : Seen → Parts
parts_of nothing = record { value = None; plain = [] }
parts_of (value v) = record { value = Some v; plain = [] }
parts_of (plain ws) = record { value = None; plain = ws }
parts_of (value_plain v ws) = record { value = Some v; plain = ws }
parts_of (plain_value ws v) = record { value = Some v; plain = ws }

abbrev pub in_front : Seen → Option Parts → Option Parts
in_front nothing x = x
in_front (value v) x = with_value v x
in_front (plain ws) x = option_map (λ (p : Parts). record p { plain = ws ++ p.plain }) x
in_front (value_plain v ws) x = with_value v (option_map (λ (p : Parts). record p { plain = ws ++ p.plain }) x)
in_front (plain_value ws v) x = with_value v (option_map (λ (p : Parts). record p { plain = ws ++ p.plain }) x)

more : (ws : List Text) (w : Text) (x : Option Parts)
    → option_map (λ (p : Parts). record p { plain = (ws ++ w ∷ []) ++ p.plain }) x ≡ option_map (λ (p : Parts). record p { plain = ws ++ p.plain }) (option_map (with_plain w) x)
more ws w None = refl
more ws w (Some p) = ap (λ (l : List Text). Some (record p { plain = l })) (append_assoc ws (w ∷ []) p.plain)

one : (w : Text) (x : Option Parts) → option_map (λ (p : Parts). record p { plain = (w ∷ []) ++ p.plain }) x ≡ option_map (with_plain w) x
one w None = refl
one w (Some p) = refl

pub front_plain : (w : Text) (e : Seen) (x : Option Parts) → in_front (seen_plain w e) x ≡ in_front e (option_map (with_plain w) x)
front_plain w nothing x = one w x
front_plain w (value v) x = ap (with_value v) (one w x)
front_plain w (plain ws) x = more ws w x
front_plain w (value_plain v ws) x = ap (with_value v) (more ws w x)
front_plain w (plain_value ws v) x = ap (with_value v) (more ws w x)

choice_map : {X : Type 0} (f : X → X) (b : Bool) (y : X) → (if b then None else Some (f y)) ≡ option_map f (if b then None else Some y)
choice_map f true y = refl
choice_map f false y = refl

value_behind : (v : Text) (ws : List Text) (x : Option Parts)
    → with_value v (option_map (λ (p : Parts). record p { plain = ws ++ p.plain }) x) ≡ option_map (λ (p : Parts). record p { plain = ws ++ p.plain }) (with_value v x)
value_behind v ws None = refl
value_behind v ws (Some p) = choice_map (λ (q : Parts). record q { plain = ws ++ q.plain }) (is_some p.value) (record p { value = Some v })

pub front_value : (v : Text) (e : Seen) (x : Option Parts) → has_value e ≡ false → in_front (seen_value v e) x ≡ in_front e (with_value v x)
front_value v nothing x is = refl
front_value v (value u) x is = absurd cc
front_value v (plain ws) x is = value_behind v ws x
front_value v (value_plain u ws) x is = absurd cc
front_value v (plain_value ws u) x is = absurd cc

twice_by : (u v : Text) (b : Bool) (p : Parts) → with_value u (if b then None else Some (record p { value = Some v })) ≡ None
twice_by u v true p = refl
twice_by u v false p = refl

twice : (u v : Text) (x : Option Parts) → with_value u (with_value v x) ≡ None
twice u v None = refl
twice u v (Some p) = twice_by u v (is_some p.value) p

pub front_twice : (v : Text) (e : Seen) (x : Option Parts) → has_value e ≡ true → in_front e (with_value v x) ≡ None
front_twice v nothing x is = absurd cc
front_twice v (value u) x is = twice u v x
front_twice v (plain ws) x is = absurd cc
front_twice v (value_plain u ws) x is = ap (with_value u) (sym (value_behind v ws x)) ∙ twice u v (option_map (λ (p : Parts). record p { plain = ws ++ p.plain }) x)
front_twice v (plain_value ws u) x is = ap (with_value u) (sym (value_behind v ws x)) ∙ twice u v (option_map (λ (p : Parts). record p { plain = ws ++ p.plain }) x)

pub front_none : (e : Seen) → in_front e None ≡ None
front_none nothing = refl
front_none (value v) = refl
front_none (plain ws) = refl
front_none (value_plain v ws) = refl
front_none (plain_value ws v) = refl

pub front_end : (e : Seen) → in_front e (Some record { value = None; plain = [] }) ≡ Some (parts_of e)
front_end nothing = refl
front_end (value v) = refl
front_end (plain ws) = ap (λ (l : List Text). Some record { value = None; plain = l }) (append-nil ws)
front_end (value_plain v ws) = ap (λ (l : List Text). Some record { value = Some v; plain = l }) (append-nil ws)
front_end (plain_value ws v) = ap (λ (l : List Text). Some record { value = Some v; plain = l }) (append-nil ws)
