-- The symbols that are kept are none of a debugger's, and have names and sections.
use Rattle.std.proofs.Common.{◌≡◌, ◌≤◌, ℕ, Bool, true, false, not, ◌&&◌, ◌||◌, cond, List, [], ◌∷◌, length, map, refl, ◌∙◌, arith, nat_eq, nat_lt, Option, Some, None, if◌then◌else◌}
use Rattle.std.specs.Prelude.{is_none, unwrap_or}
use Rattle.std.specs.List.{All, filter, count_by}
use Rattle.std.proofs.lemmas.Bool.Decides.{nat_tests}
use Rattle.std.proofs.lemmas.List.{length-map}
use Rattle.std.proofs.lemmas.List.Elements.{All-cons, All-nil, All-head, All-tail}
use Rattle.std.proofs.lemmas.List.Sums.{length-filter}
use Rattle.macho_image.specs.Nlists.{Nlist, is_stab, is_in_section, is_alias, name_at, is_kept}
use Rattle.macho_image.specs.TableRules.{lacks_name, lacks_section}
use Rattle.nlist_table.specs.Symbols.{symbol_of, symbols_of}
use Rattle.nlist_table.specs.Kept.{HasAlias, IsSymbol}
use Rattle.nlist_table.proofs.NameLaws.{name_is, found_name}

neither : (a b : Bool) → (a || b) ≡ false → (a ≡ false) × (b ≡ false)
neither true b e = absurd (cc)
neither false b e = (refl, e)

not_both : (a b : Bool) → (a && b) ≡ false → a ≡ true → b ≡ false
not_both true b e is = e
not_both false b e is = absurd (cc)

kept_kind : (b : Bool) → not b ≡ true → b ≡ false
kept_kind true e = absurd (cc)
kept_kind false e = refl

alias_stands : (b : Bool) (strings : List ℕ) (value : ℕ) → (b && is_none (name_at strings value)) ≡ false
    → HasAlias b (if b then name_at strings value else None) (if b then 0 else value)
alias_stands false strings value e = refl
alias_stands true strings value e = stands (name_at strings value) refl e
  where
    stands : (o : Option (List ℕ)) → name_at strings value ≡ o → is_none o ≡ false → HasAlias true o 0
    stands None is some = absurd (cc)
    stands (Some name) is some = (name_is strings value name is, refl)

section_stands : (n section : ℕ) → (nat_eq section 0 || nat_lt n section) ≡ false → (1 ≤ section) × (section ≤ n)
section_stands n section e =
    let both = neither (nat_eq section 0) (nat_lt n section) e in
    let some : nat_eq section 0 ≡ false = both.0 in
    let few : nat_lt n section ≡ false = both.1 in
    (grind (arith, nat_tests), grind (arith, nat_tests))

pub symbol_stands : (strings : List ℕ) (n : ℕ) (e : Nlist) → is_kept e ≡ true → lacks_name strings e ≡ false → lacks_section n e ≡ false → IsSymbol n (symbol_of strings e)
unfolding symbol_of
symbol_stands strings n e kept named placed =
    let names = neither (is_none (name_at strings e.strx)) (is_alias e.kind && is_none (name_at strings e.value)) named in
    record {
      kept = kept_kind (is_stab e.kind) kept;
      name = name_is strings e.strx (unwrap_or (name_at strings e.strx) []) (found_name (name_at strings e.strx) names.0);
      alias = alias_stands (is_alias e.kind) strings e.value names.1;
      section = λ is. section_stands n e.section (not_both (is_in_section e.kind) (nat_eq e.section 0 || nat_lt n e.section) placed is);
    }

pub symbols_stand : (strings : List ℕ) (n : ℕ) (es : List Nlist) → All (λ e. lacks_name strings e ≡ false) es → All (λ e. lacks_section n e ≡ false) es → All (IsSymbol n) (symbols_of strings es)
symbols_stand strings n [] named placed = All-nil (IsSymbol n)
symbols_stand strings n (e ∷ es) named placed =
    let rest = symbols_stand strings n es (All-tail (λ x. lacks_name strings x ≡ false) e es named) (All-tail (λ x. lacks_section n x ≡ false) e es placed) in
    step (is_kept e) refl rest
  where
    step : (b : Bool) → is_kept e ≡ b → All (IsSymbol n) (symbols_of strings es) → All (IsSymbol n) (map (symbol_of strings) (cond b (e ∷ filter is_kept es) (filter is_kept es)))
    step true is rest =
        All-cons (IsSymbol n) (symbol_of strings e) (symbols_of strings es)
        (symbol_stands strings n e is (All-head (λ x. lacks_name strings x ≡ false) e es named) (All-head (λ x. lacks_section n x ≡ false) e es placed)) rest
    step false is rest = rest

pub length-symbols : (strings : List ℕ) (es : List Nlist) → length (symbols_of strings es) ≡ count_by is_kept es
length-symbols strings es = length-map (filter is_kept es) (symbol_of strings) ∙ length-filter is_kept es
