-- The tables of an image are read back from their entries and the pool.
use Rattle.std.proofs.Common.{◌≡◌, ◌≤◌, ◌<◌, ℕ, ◌+◌, ◌%◌, ◌^◌, ◌∙◌, Bool, true, false, cond, not, List, [], ◌∷◌, ◌++◌, length, map, take, drop, refl, sym, ap, ap₂, arith, Option, Some, None, All}
use Rattle.std.specs.Prelude.{nat_eq, ◌&&◌, bit_and, unwrap_or, filter, count_by, slice_index}
use Rattle.std.specs.List.{flat_map}
use Rattle.std.proofs.lemmas.Bool.{cond-true, cond-false, eqb-true, ne_eqb}
use Rattle.std.proofs.lemmas.List.{length-map, length-take-le, length-drop}
use Rattle.std.proofs.lemmas.List.Sums.{length-filter}
use Rattle.dsc_base.specs.Numbers.{little_bytes}
use Rattle.std.proofs.lemmas.List.Elements.{All-nil, All-cons, All-head, All-tail, All-take, All-drop}
use Rattle.dsc_base.specs.Limits.{span_limit}
use Rattle.macho_image.specs.Records.{Img}
use Rattle.macho_image.specs.declared.place.Moved.{Moved}
use Rattle.macho_image.specs.Nlists.{Nlist, is_stab, is_kept, is_in_section, is_alias, name_at, is_flag, nlists_of, indirect_of}
use Rattle.nlist_table.specs.Symbols.{Sym, Tabs, symbol_of, symbols_of, kept_before, renumbered, regrouped, kept_groups, tables_from}
use Rattle.nlist_table.specs.Kept.{HasAlias, IsSymbol, EachGroup, AreTables}
use Rattle.nlist_table.specs.Moving.{segment_number, shift_in, moved_value}
use Rattle.nlist_table.specs.Spelling.{nlist_bytes, FitsNlist}
use Rattle.nlist_table.proofs.PieceLaws.{nlists_back, indirect_back}
use Rattle.linkedit_merge.specs.Indices.{pool_len}
use Rattle.linkedit_merge.specs.Linkedit.{entry_value, entry_of, symbol_bytes}
use Rattle.linkedit_merge.specs.Pool.{is_pooled, pool_bytes, index_in}
use Rattle.linkedit_merge.specs.ReadBack.{FitsSymbol, HasFields}
use Rattle.linkedit_merge.specs.Shares.{moved_symbol}
use Rattle.linkedit_merge.proofs.ListLaws.{flat_map-map}
use Rattle.linkedit_merge.proofs.NameLaws.{read_name, index_below}

-- ---- symbols whose values moved

not_both : (a : Bool) (x : ℕ) → a && nat_eq x 0xA ≡ true → a && nat_eq x 0xE ≡ false
not_both false x is = refl
not_both true x is = ne_eqb x 0xE (λ e. let f = eqb-true x 0xA is in omega (arith, e, f))

alias_stays : (kind : ℕ) → is_alias kind ≡ true → is_in_section kind ≡ false
unfolding is_alias is_in_section
alias_stays kind is = not_both (not (is_stab kind)) (bit_and kind 0x0E) is

kept_value : (s : Sym) (image : Img) (m : List Moved) → is_alias s.kind ≡ true → moved_value s image m ≡ s.value
unfolding moved_value
kept_value s image m is = cond-false (is_in_section s.kind) ((s.value + shift_in image m (segment_number image s.section)) % 2 ^ 64) s.value (alias_stays s.kind is)

moved_alias : (b : Bool) (alias : Option (List ℕ)) (old new : ℕ) → (b ≡ true → new ≡ old) → HasAlias b alias old → HasAlias b alias new
moved_alias true None old new same h = h
moved_alias true (Some name) old new same h = (h.0, same refl ∙ h.1)
moved_alias false alias old new same h = h

pub moved_sound : (n : ℕ) (image : Img) (m : List Moved) (s : Sym) → IsSymbol n s → IsSymbol n (moved_symbol image m s)
moved_sound n image m s h = record {
  kept = h.kept;
  name = h.name;
  alias = moved_alias (is_alias s.kind) s.alias s.value (moved_value s image m) (kept_value s image m) h.alias;
  section = h.section;
}

number_fits : (b : Bool) (x y : ℕ) → y < 2 ^ 64 → cond b (x % 2 ^ 64) y < 2 ^ 64
number_fits true x y h = omega arith
number_fits false x y h = h

pub moved_fits : (image : Img) (m : List Moved) (s : Sym) → FitsSymbol s → FitsSymbol (moved_symbol image m s)
unfolding moved_value
moved_fits image m s h = record { desc = h.desc; value = number_fits (is_in_section s.kind) _ s.value h.value }

-- ---- one symbol

-- the names of a symbol are in the pool
pub record ArePooled (pool : List (List ℕ)) (s : Sym) : Type 0 where
  pub name : is_pooled pool s.name ≡ true
  pub alias : (other : List ℕ) → s.alias ≡ Some other → is_pooled pool other ≡ true

alias_back : (pool : List (List ℕ)) (b : Bool) (alias : Option (List ℕ)) (value : ℕ) → HasAlias b alias value → ((other : List ℕ) → alias ≡ Some other → is_pooled pool other ≡ true)
    → cond b (name_at (pool_bytes pool) (entry_value pool alias value)) None ≡ alias
alias_back pool true None value h pooled = absurd h
alias_back pool true (Some name) value h pooled = read_name pool name h.0 (pooled name refl)
alias_back pool false alias value h pooled = sym h

value_back : (pool : List (List ℕ)) (b : Bool) (alias : Option (List ℕ)) (value : ℕ) → HasAlias b alias value → cond b 0 (entry_value pool alias value) ≡ value
value_back pool true None value h = absurd h
value_back pool true (Some name) value h = sym h.1
value_back pool false None value h = refl
value_back pool false (Some name) value h = absurd (cc)

same_symbol : (name name' : List ℕ) (alias alias' : Option (List ℕ)) (kind section desc value value' : ℕ) → name ≡ name' → alias ≡ alias' → value ≡ value'
    → ◌≡◌ {A = Sym} (record { name = name; alias = alias; kind = kind; section = section; desc = desc; value = value }) (record { name = name'; alias = alias'; kind = kind; section = section; desc = desc; value = value' })
same_symbol name name' alias alias' kind section desc value value' p q r = cc

symbol_back : (pool : List (List ℕ)) (n : ℕ) (s : Sym) → IsSymbol n s → ArePooled pool s → symbol_of (pool_bytes pool) (entry_of pool s) ≡ s
unfolding symbol_of
symbol_back pool n s h pooled =
    same_symbol (unwrap_or (name_at (pool_bytes pool) (index_in pool s.name)) []) s.name (cond (is_alias s.kind) (name_at (pool_bytes pool) (entry_value pool s.alias s.value)) None) s.alias s.kind s.section s.desc
    (cond (is_alias s.kind) 0 (entry_value pool s.alias s.value)) s.value
    (ap (λ (o : Option (List ℕ)). unwrap_or o []) (read_name pool s.name h.name pooled.name))
    (alias_back pool (is_alias s.kind) s.alias s.value h.alias pooled.alias)
    (value_back pool (is_alias s.kind) s.alias s.value h.alias)

-- ---- all symbols of an image

kept_all : (pool : List (List ℕ)) (n : ℕ) (ss : List Sym) → All (IsSymbol n) ss → filter is_kept (map (entry_of pool) ss) ≡ map (entry_of pool) ss
kept_all pool n [] h = refl
kept_all pool n (s ∷ ss) h =
    let is : is_kept (entry_of pool s) ≡ true = ap (λ (b : Bool). not b) (All-head (IsSymbol n) s ss h).kept in
    cond-true (is_kept (entry_of pool s)) (entry_of pool s ∷ filter is_kept (map (entry_of pool) ss)) (filter is_kept (map (entry_of pool) ss)) is
    ∙ ap (λ (es : List Nlist). entry_of pool s ∷ es) (kept_all pool n ss (All-tail (IsSymbol n) s ss h))

each_back : (pool : List (List ℕ)) (n : ℕ) (ss : List Sym) → All (IsSymbol n) ss → All (ArePooled pool) ss → map (symbol_of (pool_bytes pool)) (map (entry_of pool) ss) ≡ ss
each_back pool n [] h pooled = refl
each_back pool n (s ∷ ss) h pooled =
    ap₂ (λ (x : Sym) (xs : List Sym). x ∷ xs) (symbol_back pool n s (All-head (IsSymbol n) s ss h) (All-head (ArePooled pool) s ss pooled))
    (each_back pool n ss (All-tail (IsSymbol n) s ss h) (All-tail (ArePooled pool) s ss pooled))

symbols_back : (pool : List (List ℕ)) (n : ℕ) (ss : List Sym) → All (IsSymbol n) ss → All (ArePooled pool) ss → symbols_of (pool_bytes pool) (map (entry_of pool) ss) ≡ ss
symbols_back pool n ss h pooled = ap (λ (es : List Nlist). map (symbol_of (pool_bytes pool)) es) (kept_all pool n ss h) ∙ each_back pool n ss h pooled

-- ---- their entries as bytes

value_fits : (pool : List (List ℕ)) (alias : Option (List ℕ)) (value : ℕ) → pool_len pool ≤ span_limit → value < 2 ^ 64 → entry_value pool alias value < 2 ^ 64
value_fits pool None value few h = h
value_fits pool (Some name) value few h = omega (arith, index_below pool name)

entries_fit : (pool : List (List ℕ)) (ss : List Sym) → pool_len pool ≤ span_limit → All FitsSymbol ss → All FitsNlist (map (entry_of pool) ss)
entries_fit pool [] few h = All-nil FitsNlist
entries_fit pool (s ∷ ss) few h =
    let first = All-head FitsSymbol s ss h in
    All-cons FitsNlist (entry_of pool s) (map (entry_of pool) ss)
    (record { strx = omega (arith, index_below pool s.name); desc = first.desc; value = value_fits pool s.alias s.value few first.value })
    (entries_fit pool ss few (All-tail FitsSymbol s ss h))

pub entries_back : (pool : List (List ℕ)) (ss : List Sym) → pool_len pool ≤ span_limit → All FitsSymbol ss → nlists_of (flat_map (symbol_bytes pool) ss) ≡ map (entry_of pool) ss
entries_back pool ss few h =
    ap (λ (l : List ℕ). nlists_of l) (sym (flat_map-map nlist_bytes (entry_of pool) ss)) ∙ nlists_back (map (entry_of pool) ss) (entries_fit pool ss few h)

-- ---- indices and groups

filter_all : (es : List Nlist) → All (λ (e : Nlist). is_kept e ≡ true) es → filter is_kept es ≡ es
filter_all [] kept = refl
filter_all (e ∷ es) kept =
    cond-true (is_kept e) (e ∷ filter is_kept es) (filter is_kept es) (All-head (λ (x : Nlist). is_kept x ≡ true) e es kept)
    ∙ ap (λ (l : List Nlist). e ∷ l) (filter_all es (All-tail (λ (x : Nlist). is_kept x ≡ true) e es kept))

count_all : (es : List Nlist) → All (λ (e : Nlist). is_kept e ≡ true) es → count_by is_kept es ≡ length es
count_all es kept = sym (length-filter is_kept es) ∙ ap (λ (l : List Nlist). length l) (filter_all es kept)

before_all : (es : List Nlist) (index : ℕ) → All (λ (e : Nlist). is_kept e ≡ true) es → index ≤ length es → kept_before es index ≡ index
before_all es index kept within = count_all (take index es) (All-take (λ (e : Nlist). is_kept e ≡ true) index es kept) ∙ length-take-le index es within

index_back : (es : List Nlist) (index : ℕ) (b : Bool) → is_flag index ≡ b → All (λ (e : Nlist). is_kept e ≡ true) es → (is_flag index ≡ false → index < length es) → renumbered es index ≡ index
index_back es index true flag kept within = cond-true (is_flag index) index (kept_before es index) flag
index_back es index false flag kept within =
    cond-false (is_flag index) index (kept_before es index) flag ∙ before_all es index kept (let lt = within flag in omega arith)

indices_back : (es : List Nlist) (indices : List ℕ) → All (λ (e : Nlist). is_kept e ≡ true) es → All (λ (index : ℕ). is_flag index ≡ false → index < length es) indices → map (renumbered es) indices ≡ indices
indices_back es [] kept h = refl
indices_back es (i ∷ is) kept h =
    ap₂ (λ (x : ℕ) (xs : List ℕ). x ∷ xs) (index_back es i (is_flag i) refl kept (All-head (λ (index : ℕ). is_flag index ≡ false → index < length es) i is h))
    (indices_back es is kept (All-tail (λ (index : ℕ). is_flag index ≡ false → index < length es) i is h))

group_back : (es : List Nlist) (index n : ℕ) → All (λ (e : Nlist). is_kept e ≡ true) es → index + n ≤ length es → regrouped es index n ≡ index ∷ n ∷ []
group_back es index n kept within =
    let part = take n (drop index es) in
    let long : length part ≡ n = length-take-le n (drop index es) (omega (arith, length-drop index es)) in
    ap₂ (λ (a b : ℕ). a ∷ b ∷ []) (before_all es index kept (omega arith))
    (count_all part (All-take (λ (e : Nlist). is_kept e ≡ true) n (drop index es) (All-drop (λ (e : Nlist). is_kept e ≡ true) index es kept)) ∙ long)

six : (groups : List ℕ) → length groups ≡ 6
    → slice_index groups 0 ∷ slice_index groups 1 ∷ slice_index groups 2 ∷ slice_index groups 3 ∷ slice_index groups 4 ∷ slice_index groups 5 ∷ [] ≡ groups
six (a ∷ b ∷ c ∷ d ∷ e ∷ f ∷ []) long = refl
six [] long = absurd (omega arith)
six (a ∷ []) long = absurd (omega arith)
six (a ∷ b ∷ []) long = absurd (omega arith)
six (a ∷ b ∷ c ∷ []) long = absurd (omega arith)
six (a ∷ b ∷ c ∷ d ∷ []) long = absurd (omega arith)
six (a ∷ b ∷ c ∷ d ∷ e ∷ []) long = absurd (omega arith)
six (a ∷ b ∷ c ∷ d ∷ e ∷ f ∷ g ∷ gs) long = absurd (omega arith)

groups_back : (es : List Nlist) (groups : List ℕ) → All (λ (e : Nlist). is_kept e ≡ true) es → length groups ≡ 6
    → EachGroup (λ k. slice_index groups k + slice_index groups (k + 1) ≤ length es) → kept_groups es groups ≡ groups
groups_back es groups kept long h =
    ap₂ (λ (a b : List ℕ). a ++ b) (group_back es (slice_index groups 0) (slice_index groups 1) kept h.0)
    (ap₂ (λ (a b : List ℕ). a ++ b) (group_back es (slice_index groups 2) (slice_index groups 3) kept h.1)
    (ap (λ (a : List ℕ). a ++ []) (group_back es (slice_index groups 4) (slice_index groups 5) kept h.2)))
    ∙ six groups long

-- ---- the tables of an image

entries_kept : (pool : List (List ℕ)) (n : ℕ) (ss : List Sym) → All (IsSymbol n) ss → All (λ (e : Nlist). is_kept e ≡ true) (map (entry_of pool) ss)
entries_kept pool n [] h = All-nil (λ (e : Nlist). is_kept e ≡ true)
entries_kept pool n (s ∷ ss) h =
    All-cons (λ (e : Nlist). is_kept e ≡ true) (entry_of pool s) (map (entry_of pool) ss) (ap (λ (b : Bool). not b) (All-head (IsSymbol n) s ss h).kept)
    (entries_kept pool n ss (All-tail (IsSymbol n) s ss h))

same_tables : (ss ss' : List Sym) (is is' gs gs' : List ℕ) → ss ≡ ss' → is ≡ is' → gs ≡ gs'
    → ◌≡◌ {A = Tabs} (record { symbols = ss; indirect = is; groups = gs }) (record { symbols = ss'; indirect = is'; groups = gs' })
same_tables ss ss' is is' gs gs' p q r = cc

pub tables_back : (pool : List (List ℕ)) (n : ℕ) (t : Tabs) → pool_len pool ≤ span_limit → AreTables n t → HasFields t → All (ArePooled pool) t.symbols
    → tables_from (pool_bytes pool) (nlists_of (flat_map (symbol_bytes pool) t.symbols)) t.groups (indirect_of (flat_map (little_bytes 4) t.indirect)) ≡ t
tables_back pool n t few h fits pooled =
    let es = map (entry_of pool) t.symbols in
    let long : length es ≡ length t.symbols = length-map t.symbols (entry_of pool) in
    let kept = entries_kept pool n t.symbols h.symbols in
    let within : (m : ℕ) → m ≤ length t.symbols → m ≤ length es = λ m le. omega arith in
    ap₂ (λ (a : List Nlist) (b : List ℕ). tables_from (pool_bytes pool) a t.groups b) (entries_back pool t.symbols few fits.symbols) (indirect_back t.indirect fits.indirect)
    ∙ same_tables (symbols_of (pool_bytes pool) es) t.symbols (map (renumbered es) t.indirect) t.indirect (kept_groups es t.groups) t.groups
    (symbols_back pool n t.symbols h.symbols pooled)
    (indices_back es t.indirect kept (λ k d lt flag. let inside = h.indirect k d lt flag in omega arith))
    (groups_back es t.groups kept fits.groups (within _ h.groups.0, within _ h.groups.1, within _ h.groups.2))
