-- The tables that an image finds in a linkedit break no rule.
use Rattle.std.proofs.Common.{◌≡◌, ◌≤◌, ◌<◌, ℕ, ◌+◌, Bool, true, false, not, ◌&&◌, ◌||◌, List, [], ◌∷◌, length, map, get_or, refl, sym, ap, ap₂, ◌∙◌, arith, if◌then◌else◌, Option, Some, None, All}
use Rattle.std.specs.Prelude.{position, option_map, slice_get, slice_index, is_none, nat_eq, nat_lt}
use Rattle.std.proofs.lemmas.Bool.Decides.{nat_tests}
use Rattle.std.proofs.lemmas.List.{length-map}
use Rattle.std.proofs.lemmas.List.Elements.{All-nil, All-head, All-tail}
use Rattle.std.proofs.lemmas.Option.{slice_get-map, slice_get-get_or}
use Rattle.dsc_base.specs.Limits.{span_limit}
use Rattle.dsc_base.specs.Refusals.{broken, least}
use Rattle.dsc_base.specs.declared.rule.Rule.TheVariants.{TableNameOutside, TableBadSection, TableIndexOutside}
use Rattle.macho_image.specs.Nlists.{Nlist, is_kept, is_in_section, is_alias, name_at, is_flag, nlists_of}
use Rattle.macho_image.specs.TableRules.{lacks_name, lacks_section, ends_behind, breaks_groups, is_symbol, lacks_symbol, nearer, tables_break}
use Rattle.nlist_table.specs.Symbols.{Sym, Tabs}
use Rattle.nlist_table.specs.Kept.{HasAlias, HasSection, IsSymbol, AreTables}
use Rattle.dep_closure.proofs.PositionLaws.{position-cons}
use Rattle.linkedit_merge.specs.Indices.{pool_len}
use Rattle.linkedit_merge.specs.Linkedit.{entry_value, entry_of, pool_of, linkedit_of, spots_in}
use Rattle.linkedit_merge.specs.Parts.{bytes_in}
use Rattle.linkedit_merge.specs.Pool.{is_pooled, pool_bytes}
use Rattle.linkedit_merge.specs.ReadBack.{FitsSymbol}
use Rattle.linkedit_merge.specs.Shares.{Share}
use Rattle.linkedit_merge.proofs.NameLaws.{read_name}
use Rattle.linkedit_merge.proofs.ReadLaws.{pieces_found, share_pooled}
use Rattle.linkedit_merge.proofs.TableLaws.{ArePooled, entries_back}

none_behind : {X : Type 0} (p : X → Bool) (x : X) (xs : List X) → p x ≡ false → position p xs ≡ None → position p (x ∷ xs) ≡ None
none_behind p x xs here rest = position-cons p x xs ∙ (λ i. if here i then Some 0 else option_map (λ (k : ℕ). k + 1) (rest i))

-- ---- one entry

alias_found : (pool : List (List ℕ)) (b : Bool) (alias : Option (List ℕ)) (value : ℕ) → HasAlias b alias value → ((other : List ℕ) → alias ≡ Some other → is_pooled pool other ≡ true)
    → (b && is_none (name_at (pool_bytes pool) (entry_value pool alias value))) ≡ false
alias_found pool true None value has pooled = absurd has
alias_found pool true (Some name) value has pooled = ap (λ (o : Option (List ℕ)). is_none o) (read_name pool name has.0 (pooled name refl))
alias_found pool false alias value has pooled = refl

name_found : (pool : List (List ℕ)) (n : ℕ) (s : Sym) → IsSymbol n s → ArePooled pool s → lacks_name (pool_bytes pool) (entry_of pool s) ≡ false
name_found pool n s is pooled =
    ap₂ (λ (o : Option (List ℕ)) (b : Bool). is_none o || b) (read_name pool s.name is.name pooled.name) (alias_found pool (is_alias s.kind) s.alias s.value is.alias pooled.alias)

section_found : (n kind section : ℕ) → HasSection n kind section → (is_in_section kind && (nat_eq section 0 || nat_lt n section)) ≡ false
section_found n kind section has = go (is_in_section kind) refl
  where
    go : (b : Bool) → is_in_section kind ≡ b → (is_in_section kind && (nat_eq section 0 || nat_lt n section)) ≡ false
    go true is =
        let within = has is in
        let low : 1 ≤ section = within.0 in
        let high : section ≤ n = within.1 in
        let first : nat_eq section 0 ≡ false = grind (arith, nat_tests) in
        let second : nat_lt n section ≡ false = grind (arith, nat_tests) in
        (λ i. is i && (first i || second i))
    go false is = ap (λ (b : Bool). b && (nat_eq section 0 || nat_lt n section)) is

-- ---- all entries

names_found : (pool : List (List ℕ)) (n : ℕ) (ss : List Sym) → All (IsSymbol n) ss → All (ArePooled pool) ss → position (lacks_name (pool_bytes pool)) (map (entry_of pool) ss) ≡ None
names_found pool n [] are pooled = refl
names_found pool n (s ∷ ss) are pooled =
    none_behind (lacks_name (pool_bytes pool)) (entry_of pool s) (map (entry_of pool) ss) (name_found pool n s (All-head (IsSymbol n) s ss are) (All-head (ArePooled pool) s ss pooled))
    (names_found pool n ss (All-tail (IsSymbol n) s ss are) (All-tail (ArePooled pool) s ss pooled))

sections_found : (pool : List (List ℕ)) (n : ℕ) (ss : List Sym) → All (IsSymbol n) ss → position (lacks_section n) (map (entry_of pool) ss) ≡ None
sections_found pool n [] are = refl
sections_found pool n (s ∷ ss) are =
    none_behind (lacks_section n) (entry_of pool s) (map (entry_of pool) ss) (section_found n s.kind s.section (All-head (IsSymbol n) s ss are).section)
    (sections_found pool n ss (All-tail (IsSymbol n) s ss are))

some_symbol : Sym
some_symbol = record { name = []; alias = None; kind = 0; section = 0; desc = 0; value = 0 }

index_found : (pool : List (List ℕ)) (n : ℕ) (ss : List Sym) (index : ℕ) → All (IsSymbol n) ss → (is_flag index ≡ false → index < length ss) → lacks_symbol (map (entry_of pool) ss) index ≡ false
index_found pool n ss index are within = go (is_flag index) refl
  where
    go : (b : Bool) → is_flag index ≡ b → lacks_symbol (map (entry_of pool) ss) index ≡ false
    go true flag = ap (λ (b : Bool). not b && not (is_symbol (slice_get (map (entry_of pool) ss) index))) flag
    go false flag =
        let lt : index < length ss = within flag in
        let s : Sym = get_or ss index some_symbol in
        let there : slice_get (map (entry_of pool) ss) index ≡ Some (entry_of pool s) =
        slice_get-map (entry_of pool) ss index ∙ ap (λ (o : Option Sym). option_map (entry_of pool) o) (slice_get-get_or ss index some_symbol lt) in
        let kept : is_kept (entry_of pool s) ≡ true = ap (λ (b : Bool). not b) (are index some_symbol lt).kept in
        let is : is_symbol (slice_get (map (entry_of pool) ss) index) ≡ true = ap (λ (o : Option Nlist). is_symbol o) there ∙ kept in
        (λ i. not (flag i) && not (is i))

indices_found : (pool : List (List ℕ)) (n : ℕ) (ss : List Sym) (indices : List ℕ) → All (IsSymbol n) ss → All (λ (index : ℕ). is_flag index ≡ false → index < length ss) indices
    → position (lacks_symbol (map (entry_of pool) ss)) indices ≡ None
indices_found pool n ss [] are within = refl
indices_found pool n ss (index ∷ indices) are within =
    none_behind (lacks_symbol (map (entry_of pool) ss)) index indices (index_found pool n ss index are (All-head (λ (i : ℕ). is_flag i ≡ false → i < length ss) index indices within))
    (indices_found pool n ss indices are (All-tail (λ (i : ℕ). is_flag i ≡ false → i < length ss) index indices within))

groups_found : (n m : ℕ) (groups : List ℕ) → n ≡ m → (slice_index groups 0 + slice_index groups 1 ≤ m) × (slice_index groups 2 + slice_index groups 3 ≤ m) × (slice_index groups 4 + slice_index groups 5 ≤ m) → breaks_groups n groups ≡ None
groups_found n m groups many within =
    let one : ends_behind n (slice_index groups 0) (slice_index groups 1) ≡ false = ends n m (slice_index groups 0) (slice_index groups 1) many within.0 in
    let two : ends_behind n (slice_index groups 2) (slice_index groups 3) ≡ false = ends n m (slice_index groups 2) (slice_index groups 3) many within.1 in
    let three : ends_behind n (slice_index groups 4) (slice_index groups 5) ≡ false = ends n m (slice_index groups 4) (slice_index groups 5) many within.2 in
    let o : Option ℕ = None in
    (λ i. if one i then Some 0 else (if two i then Some 2 else (if three i then Some 4 else o)))
  where
    ends : (n m a c : ℕ) → n ≡ m → a + c ≤ m → nat_lt n (a + c) ≡ false
    ends n m a c many le = grind (arith, nat_tests)

-- ---- the tables of an image

entries_unbroken : (pool : List (List ℕ)) (n : ℕ) (t : Tabs) → AreTables n t → All (ArePooled pool) t.symbols → tables_break (pool_bytes pool) n (map (entry_of pool) t.symbols) t.groups t.indirect ≡ None
entries_unbroken pool n t are pooled =
    let names = names_found pool n t.symbols are.symbols pooled in
    let sections = sections_found pool n t.symbols are.symbols in
    let indices = indices_found pool n t.symbols t.indirect are.symbols are.indirect in
    let groups = groups_found (length (map (entry_of pool) t.symbols)) (length t.symbols) t.groups (length-map t.symbols (entry_of pool)) are.groups in
    (λ i. nearer (broken TableNameOutside (names i)) (nearer (broken TableBadSection (sections i)) (broken TableIndexOutside (least (groups i) (indices i)))))

-- by the names and the entries that it finds, whatever indices and groups there are of them
pub tables_keep : (start : ℕ) (shares : List Share) (k : ℕ) (share : Share) (n : ℕ) (groups indirect : List ℕ) → k < length shares → get_or shares k share ≡ share
    → AreTables n (record { symbols = share.tables.symbols; indirect = indirect; groups = groups }) → All FitsSymbol share.tables.symbols → pool_len (pool_of shares) ≤ span_limit
    → tables_break (bytes_in start (linkedit_of shares) (spots_in start shares k share).strings) n (nlists_of (bytes_in start (linkedit_of shares) (spots_in start shares k share).symbols)) groups indirect ≡ None
tables_keep start shares k share n groups indirect lt is are fits few =
    let pool = pool_of shares in
    let found = pieces_found start shares k share lt is in
    let entries : nlists_of (bytes_in start (linkedit_of shares) (spots_in start shares k share).symbols) ≡ map (entry_of pool) share.tables.symbols =
    ap (λ (l : List ℕ). nlists_of l) found.symbols ∙ entries_back pool share.tables.symbols few fits in
    (λ i. tables_break (found.strings i) n (entries i) groups indirect)
    ∙ entries_unbroken pool n (record { symbols = share.tables.symbols; indirect = indirect; groups = groups }) are (share_pooled shares k share lt is)

-- and where there are no symbols
pub none_keep : (n : ℕ) (t : Tabs) → t.symbols ≡ [] → AreTables n t → tables_break [] n [] t.groups t.indirect ≡ None
none_keep n t none are =
    let many : 0 ≡ length t.symbols = sym (ap (λ (ss : List Sym). length ss) none) in
    let groups = groups_found 0 (length t.symbols) t.groups many are.groups in
    let within : All (λ (index : ℕ). is_flag index ≡ false → index < 0) t.indirect = λ k d lt flag. let inside = are.indirect k d lt flag in omega (arith, inside, many) in
    let indices = indices_found [] n [] t.indirect (All-nil (IsSymbol n)) within in
    (λ i. nearer (broken TableNameOutside None) (nearer (broken TableBadSection None) (broken TableIndexOutside (least (groups i) (indices i)))))
