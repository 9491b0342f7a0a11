-- What follows where tables break none of their rules.
use Rattle.std.proofs.Common.{◌≡◌, ◌≤◌, ◌<◌, ◌+◌, ℕ, Bool, true, false, not, ◌&&◌, cond, List, length, get_or, refl, sym, subst, arith, nat_le, if◌then◌else◌, Option, Some, None}
use Rattle.std.specs.Prelude.{slice_get, slice_index, IsErrAnd, Result, Ok, Err}
use Rattle.std.specs.List.{All, position}
use Rattle.std.proofs.lemmas.Bool.Decides.{nat_tests}
use Rattle.std.proofs.lemmas.Option.{slice_get_within}
use Rattle.dsc_base.specs.declared.fault.Site.{Site}
use Rattle.dsc_base.specs.declared.fault.Fault.{Fault}
use Rattle.dsc_base.specs.declared.rule.Rule.TheVariants.{TableNameOutside, TableBadSection, TableIndexOutside}
use Rattle.dsc_base.specs.Refusals.{broken, IsRefusal, Refuses}
use Rattle.macho_image.proofs.Unbroken.{broken_none, least_none_both}
use Rattle.macho_image.specs.Nlists.{Nlist, is_flag, is_kept}
use Rattle.macho_image.specs.TableRules.{lacks_name, lacks_section, ends_behind, breaks_groups, breaks_table_name, breaks_table_section, breaks_table_index, lacks_symbol, is_symbol, nearer, tables_break}
use Rattle.nlist_table.specs.Kept.{EachGroup}
use Rattle.nlist_table.proofs.ListLaws.{none_pass}

nearer_none : (a b : Option Site) → nearer a b ≡ None → (a ≡ None) × (b ≡ None)
nearer_none None b e = (refl, e)
nearer_none (Some a) None e = absurd (cc)
nearer_none (Some a) (Some b) e = absurd (some (nat_le a.at b.at) e)
  where
    some : (c : Bool) → (if c then Some a else Some b) ≡ None → ⊥
    some true e = cc
    some false e = cc

-- no entry lacks its name or its section, each group ends with the entries, and no index lacks its symbol
pub record KeepRules (strings : List ℕ) (n : ℕ) (es : List Nlist) (groups indirect : List ℕ) : Type 0 where
  pub names : All (λ e. lacks_name strings e ≡ false) es
  pub sections : All (λ e. lacks_section n e ≡ false) es
  pub groups_end : EachGroup (λ k. slice_index groups k + slice_index groups (k + 1) ≤ length es)
  pub symbols : All (λ index. lacks_symbol es index ≡ false) indirect

groups_none : (n : ℕ) (groups : List ℕ) → breaks_groups n groups ≡ None → EachGroup (λ k. slice_index groups k + slice_index groups (k + 1) ≤ n)
groups_none n groups none =
    let one = first (ends_behind n (slice_index groups 0) (slice_index groups 1)) 0 _ none in
    let two = first (ends_behind n (slice_index groups 2) (slice_index groups 3)) 2 _ one.1 in
    let three = first (ends_behind n (slice_index groups 4) (slice_index groups 5)) 4 None two.1 in
    (within _ _ one.0, within _ _ two.0, within _ _ three.0)
  where
    first : (b : Bool) (k : ℕ) (more : Option ℕ) → cond b (Some k) more ≡ None → (b ≡ false) × (more ≡ None)
    first true k more e = absurd (cc)
    first false k more e = (refl, e)

    within : (i c : ℕ) → ends_behind n i c ≡ false → i + c ≤ n
    within i c e = grind (arith, nat_tests)

pub rules_kept : (strings : List ℕ) (n : ℕ) (es : List Nlist) (groups indirect : List ℕ) → tables_break strings n es groups indirect ≡ None → KeepRules strings n es groups indirect
rules_kept strings n es groups indirect none =
    let one = nearer_none (broken TableNameOutside (breaks_table_name strings es)) (nearer (broken TableBadSection (breaks_table_section n es)) (broken TableIndexOutside (breaks_table_index es groups indirect))) none in
    let two = nearer_none (broken TableBadSection (breaks_table_section n es)) (broken TableIndexOutside (breaks_table_index es groups indirect)) one.1 in
    let index = least_none_both (breaks_groups (length es) groups) (position (lacks_symbol es) indirect) (broken_none TableIndexOutside (breaks_table_index es groups indirect) two.1) in
    record {
      names = none_pass (lacks_name strings) es (broken_none TableNameOutside (breaks_table_name strings es) one.0);
      sections = none_pass (lacks_section n) es (broken_none TableBadSection (breaks_table_section n es) two.0);
      groups_end = groups_none (length es) groups index.0;
      symbols = none_pass (lacks_symbol es) indirect index.1;
    }

-- an index that doesn't lack its symbol is a flag, or that of an entry that is kept
pub has_symbol : (es : List Nlist) (index : ℕ) → lacks_symbol es index ≡ false → is_flag index ≡ false → is_symbol (slice_get es index) ≡ true
has_symbol es index lacks no_flag = from (is_flag index) (is_symbol (slice_get es index)) lacks no_flag
  where
    from : (f s : Bool) → (not f && not s) ≡ false → f ≡ false → s ≡ true
    from true s e h = absurd (cc)
    from false true e h = refl
    from false false e h = absurd (cc)

pub some_symbol : (o : Option Nlist) → is_symbol o ≡ true → (e : Nlist) × (o ≡ Some e) × (is_kept e ≡ true)
some_symbol None is = absurd (cc)
some_symbol (Some e) is = (e, refl, is)

pub indices_inside : (es : List Nlist) (indirect same : List ℕ) → indirect ≡ same → All (λ index. lacks_symbol es index ≡ false) indirect → All (λ index. is_flag index ≡ false → index < length es) same
indices_inside es indirect same is has =
    subst (λ (xs : List ℕ). All (λ index. is_flag index ≡ false → index < length es) xs) is
    (λ k d inside plain.
    let there = some_symbol (slice_get es (get_or indirect k d)) (has_symbol es (get_or indirect k d) (has k d inside) plain) in
    slice_get_within es (get_or indirect k d) there.0 there.1)

-- a fault that is handed on
pub refuses_on : {X : Type 0} (found other : Option Site) (r : Result X Fault) (fault : Fault) → other ≡ found → IsErrAnd r (λ f. f ≡ fault) → IsRefusal other fault → Refuses found r
refuses_on found other (Ok x) fault same is refused = absurd is
refuses_on found other (Err f) fault same is refused =
    subst (λ (o : Option Site). IsRefusal o f) same (subst (λ (g : Fault). IsRefusal other g) (sym is) refused)
