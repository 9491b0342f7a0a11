-- Indices and groups lie in the table of the symbols that are kept, and lead to the same ones as before.
use Rattle.std.proofs.Common.{◌≡◌, ◌≤◌, ◌<◌, ◌+◌, ℕ, Bool, true, false, List, [], ◌∷◌, take, drop, length, map, refl, sym, ap, subst, ◌∙◌, arith, Option, Some, None, if◌then◌else◌}
use Rattle.std.specs.Prelude.{slice_get, slice_index, option_map}
use Rattle.std.specs.List.{All, AllZip, filter, count_by, take-map, drop-map}
use Rattle.std.proofs.lemmas.Bool.Decides.{nat_tests}
use Rattle.std.proofs.lemmas.List.Elements.{All-cons, All-nil, All-head, All-tail}
use Rattle.std.proofs.lemmas.Option.{slice_get-map, slice_get_within}
use Rattle.macho_image.specs.Records.{Img, StreamBytes}
use Rattle.macho_image.specs.Nlists.{Nlist, nlists_of, indirect_of, is_flag, is_kept}
use Rattle.macho_image.specs.TableRules.{lacks_symbol, tables_break, table_break}
use Rattle.nlist_table.specs.Symbols.{Sym, Tabs, symbol_of, symbols_of, kept_before, renumbered, tables_from, tables_of}
use Rattle.nlist_table.specs.Kept.{AreTables, IsRenumbered, LeadAsBefore, LeadAsIn}
use Rattle.nlist_table.proofs.ListLaws.{filter_get, filter_take, filter_drop}
use Rattle.nlist_table.proofs.CountLaws.{kept_before-le, kept_before-all, kept_before-add}
use Rattle.nlist_table.proofs.BreakLaws.{KeepRules, rules_kept, has_symbol, some_symbol}
use Rattle.nlist_table.proofs.SymbolLaws.{symbols_stand, length-symbols}

-- the symbol of an entry that is kept stands at its new index
pub symbol_at : (strings : List ℕ) (es : List Nlist) (index : ℕ) (e : Nlist) → slice_get es index ≡ Some e → is_kept e ≡ true → slice_get (symbols_of strings es) (kept_before es index) ≡ Some (symbol_of strings e)
symbol_at strings es index e is kept =
    slice_get-map (symbol_of strings) (filter is_kept es) (kept_before es index) ∙ ap (option_map (symbol_of strings)) (filter_get is_kept es index e is kept)

pub index_is : (es : List Nlist) (index : ℕ) → is_flag index ≡ false → renumbered es index ≡ kept_before es index
index_is es index plain = ap (λ (b : Bool). if b then index else kept_before es index) plain

pub index_leads : (strings : List ℕ) (es : List Nlist) (index : ℕ) → lacks_symbol es index ≡ false → IsRenumbered strings es (symbols_of strings es) index (renumbered es index)
index_leads strings es index has = record {
  flag = λ is. ap (λ (b : Bool). if b then index else kept_before es index) is;
  index =
      λ plain.
      let new = index_is es index plain in
      let low = kept_before-le es index in
      ap is_flag new ∙ below (kept_before es index) low plain;
  leads =
      λ plain e is.
      let there = some_symbol (slice_get es index) (has_symbol es index has plain) in
      let kept : is_kept e ≡ true = let same : e ≡ there.0 = same_entry (slice_get es index) e there.0 is there.1 in ap is_kept same ∙ there.2 in
      ap (λ (k : ℕ). slice_get (symbols_of strings es) k) (index_is es index plain) ∙ symbol_at strings es index e is kept;
}
  where
    below : (k : ℕ) → k ≤ index → is_flag index ≡ false → is_flag k ≡ false
    below k le plain = grind (arith, nat_tests)

    same_entry : (o : Option Nlist) (a b : Nlist) → o ≡ Some a → o ≡ Some b → a ≡ b
    same_entry o a b x y = cc

index_within : (strings : List ℕ) (es : List Nlist) (index : ℕ) → lacks_symbol es index ≡ false → is_flag (renumbered es index) ≡ false → renumbered es index < length (symbols_of strings es)
index_within strings es index has plain = by_flag (is_flag index) refl
  where
    by_flag : (b : Bool) → is_flag index ≡ b → renumbered es index < length (symbols_of strings es)
    by_flag true is =
        let stays : renumbered es index ≡ index = ap (λ (b : Bool). if b then index else kept_before es index) is in
        let flag : true ≡ false = sym is ∙ (ap is_flag (sym stays) ∙ plain) in absurd (cc)
    by_flag false is =
        let there = some_symbol (slice_get es index) (has_symbol es index has is) in
        let lt = slice_get_within (symbols_of strings es) (kept_before es index) (symbol_of strings there.0) (symbol_at strings es index there.0 there.1 there.2) in
        let new = index_is es index is in
        omega (arith, lt, new)

indices_within : (strings : List ℕ) (es : List Nlist) (indirect : List ℕ) → All (λ index. lacks_symbol es index ≡ false) indirect
    → All (λ index. is_flag index ≡ false → index < length (symbols_of strings es)) (map (renumbered es) indirect)
indices_within strings es [] has = All-nil (λ index. is_flag index ≡ false → index < length (symbols_of strings es))
indices_within strings es (x ∷ xs) has =
    All-cons (λ index. is_flag index ≡ false → index < length (symbols_of strings es)) (renumbered es x) (map (renumbered es) xs)
    (index_within strings es x (All-head (λ index. lacks_symbol es index ≡ false) x xs has))
    (indices_within strings es xs (All-tail (λ index. lacks_symbol es index ≡ false) x xs has))

indices_lead : (strings : List ℕ) (es : List Nlist) (indirect : List ℕ) → All (λ index. lacks_symbol es index ≡ false) indirect
    → AllZip (IsRenumbered strings es (symbols_of strings es)) indirect (map (renumbered es) indirect)
indices_lead strings es [] has = tt
indices_lead strings es (x ∷ xs) has =
    (index_leads strings es x (All-head (λ index. lacks_symbol es index ≡ false) x xs has), indices_lead strings es xs (All-tail (λ index. lacks_symbol es index ≡ false) x xs has))

group_within : (strings : List ℕ) (es : List Nlist) (i n : ℕ) → kept_before es i + count_by is_kept (take n (drop i es)) ≤ length (symbols_of strings es)
group_within strings es i n = omega (arith, kept_before-add es i n, kept_before-all es (i + n), length-symbols strings es)

-- a group's part of the symbols
pub group_same : (strings : List ℕ) (es : List Nlist) (i n : ℕ) → take (count_by is_kept (take n (drop i es))) (drop (kept_before es i) (symbols_of strings es)) ≡ symbols_of strings (take n (drop i es))
group_same strings es i n =
    let count = count_by is_kept (take n (drop i es)) in
    ap (λ (l : List Sym). take count l) (drop-map (symbol_of strings) (kept_before es i) (filter is_kept es))
    ∙ (ap (λ (l : List Nlist). take count (map (symbol_of strings) l)) (filter_drop is_kept i es)
    ∙ (take-map (symbol_of strings) count (filter is_kept (drop i es)) ∙ ap (λ (l : List Nlist). map (symbol_of strings) l) (filter_take is_kept n (drop i es))))

tables_stand : (strings : List ℕ) (n : ℕ) (es : List Nlist) (groups indirect : List ℕ) → KeepRules strings n es groups indirect → AreTables n (tables_from strings es groups indirect)
tables_stand strings n es groups indirect kept = record {
  symbols = symbols_stand strings n es kept.names kept.sections;
  indirect = indices_within strings es indirect kept.symbols;
  groups = (
    group_within strings es (slice_index groups 0) (slice_index groups 1),
    group_within strings es (slice_index groups 2) (slice_index groups 3),
    group_within strings es (slice_index groups 4) (slice_index groups 5),
  );
}

tables_lead : (strings : List ℕ) (n : ℕ) (es : List Nlist) (groups indirect : List ℕ) → KeepRules strings n es groups indirect → LeadAsBefore strings es groups indirect (tables_from strings es groups indirect)
tables_lead strings n es groups indirect kept = record {
  indirect = indices_lead strings es indirect kept.symbols;
  groups = (
    group_same strings es (slice_index groups 0) (slice_index groups 1),
    group_same strings es (slice_index groups 2) (slice_index groups 3),
    group_same strings es (slice_index groups 4) (slice_index groups 5),
  );
}

-- the same of the tables of an image
pub record AreParts (image : Img) (strings symbols groups indirect : List ℕ) (n : ℕ) : Type 0 where
  pub strings_are : strings ≡ image.streams.strings
  pub symbols_are : symbols ≡ image.streams.symbols
  pub groups_are : groups ≡ image.groups
  pub indirect_are : indirect ≡ image.streams.indirect
  pub sections_are : n ≡ length image.sections

pub parts_are : (image seen : Img) (streams : StreamBytes) (n : ℕ) → streams ≡ seen.streams → seen ≡ image → n ≡ length seen.sections → AreParts image streams.strings streams.symbols seen.groups streams.indirect n
parts_are image seen streams n inside same many = record {
  strings_are = ap (λ (s : StreamBytes). s.strings) inside ∙ ap (λ (i : Img). i.streams.strings) same;
  symbols_are = ap (λ (s : StreamBytes). s.symbols) inside ∙ ap (λ (i : Img). i.streams.symbols) same;
  groups_are = ap (λ (i : Img). i.groups) same;
  indirect_are = ap (λ (s : StreamBytes). s.indirect) inside ∙ ap (λ (i : Img). i.streams.indirect) same;
  sections_are = many ∙ ap (λ (i : Img). length i.sections) same;
}

pub parts_tables : (image : Img) (strings symbols groups indirect : List ℕ) (n : ℕ) → AreParts image strings symbols groups indirect n → tables_from strings (nlists_of symbols) groups (indirect_of indirect) ≡ tables_of image
unfolding tables_of
parts_tables image strings symbols groups indirect n parts =
    λ i. tables_from (parts.strings_are i) (nlists_of (parts.symbols_are i)) (parts.groups_are i) (indirect_of (parts.indirect_are i))

pub parts_break : (image : Img) (strings symbols groups indirect : List ℕ) (n : ℕ) → AreParts image strings symbols groups indirect n → tables_break strings n (nlists_of symbols) groups (indirect_of indirect) ≡ table_break image
unfolding table_break
parts_break image strings symbols groups indirect n parts =
    λ i. tables_break (parts.strings_are i) (parts.sections_are i) (nlists_of (parts.symbols_are i)) (parts.groups_are i) (indirect_of (parts.indirect_are i))

-- and of those of an image that breaks no rule
pub image_tables : (image : Img) (t : Tabs) → t ≡ tables_of image → table_break image ≡ None → AreTables (length image.sections) t
unfolding tables_of table_break
image_tables image t is none =
    subst (AreTables (length image.sections)) (sym is)
    (tables_stand image.streams.strings (length image.sections) (nlists_of image.streams.symbols) image.groups (indirect_of image.streams.indirect)
    (rules_kept image.streams.strings (length image.sections) (nlists_of image.streams.symbols) image.groups (indirect_of image.streams.indirect) none))

pub image_leads : (image : Img) (t : Tabs) → t ≡ tables_of image → table_break image ≡ None → LeadAsIn image t
unfolding tables_of table_break
image_leads image t is none =
    subst (LeadAsIn image) (sym is)
    (tables_lead image.streams.strings (length image.sections) (nlists_of image.streams.symbols) image.groups (indirect_of image.streams.indirect)
    (rules_kept image.streams.strings (length image.sections) (nlists_of image.streams.symbols) image.groups (indirect_of image.streams.indirect) none))
