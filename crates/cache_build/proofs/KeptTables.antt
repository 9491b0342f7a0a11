-- The tables of an image of a set that can be built are read in its cache, and break no rule there.
use Rattle.std.proofs.Common.{◌≡◌, ◌≤◌, ◌<◌, ℕ, ◌+◌, ◌*◌, ◌^◌, Bool, true, false, Option, Some, None, List, [], ◌∷◌, take, drop, length, map, filter, get_or, All, refl, sym, ap, ◌∙◌, subst, arith, inl, inr, if◌then◌else◌}
use Rattle.std.proofs.lemmas.Bool.{cases_Bool, cond-true, cond-false}
use Rattle.std.proofs.lemmas.List.{length-map}
use Rattle.std.proofs.lemmas.List.Elements.{All-nil, All-cons, All-take, All-drop}
use Rattle.std.proofs.lemmas.Option.{slice_get_read}
use Rattle.dsc_base.specs.Limits.{span_limit}
use Rattle.dsc_base.specs.Numbers.{number_at}
use Rattle.dsc_base.proofs.NumberLaws.{number_at-lt}
use Rattle.macho_image.specs.Records.{StreamBytes, Img}
use Rattle.macho_image.specs.Format.{symtab_symoff, symtab_nsyms, dysymtab_indirectsymoff, dysymtab_nindirectsyms}
use Rattle.macho_image.specs.Macho.{commands_of, command_where, is_symtab, is_dysymtab, part_in, streams_of}
use Rattle.macho_image.specs.Nlists.{Nlist, nlist_at, nlists_of, is_kept, is_alias, indirect_of, is_flag}
use Rattle.macho_image.specs.TableRules.{tables_break, table_break}
use Rattle.macho_image.specs.declared.place.Moved.{Moved}
use Rattle.macho_edit.specs.MovedImage.{named_by, spotted_groups, moved_image}
use Rattle.macho_edit.specs.declared.spots.LinkSpots.{LinkSpots}
use Rattle.nlist_table.specs.Kept.{AreTables, IsSymbol}
use Rattle.nlist_table.specs.Symbols.{Sym, Tabs, symbol_of, renumbered, kept_before, tables_of}
use Rattle.nlist_table.proofs.CountLaws.{kept_before-le}
use Rattle.nlist_table.proofs.KeptLaws.{image_tables}
use Rattle.nlist_table.proofs.PieceLaws.{indirect_back}
use Rattle.cache_layout.proofs.RoomLaws.{paged-covers}
use Rattle.linkedit_merge.specs.Indices.{pool_len}
use Rattle.linkedit_merge.specs.Linkedit.{linkedit_of, linkedit_size, pool_of, spots_in}
use Rattle.linkedit_merge.specs.Parts.{bytes_in}
use Rattle.linkedit_merge.specs.ReadBack.{FitsSymbol, HasFields}
use Rattle.linkedit_merge.specs.Shares.{Share, moved_symbol, share_of}
use Rattle.linkedit_merge.proofs.ReadLaws.{moved_have_fields, pieces_found, shared_range}
use Rattle.linkedit_merge.proofs.SoundTables.{tables_keep, none_keep}
use Rattle.linkedit_merge.proofs.SpanLaws.{spots_within}
use Rattle.cache_build.proofs.BuildableSets.{IsReadOf, IsBuildable, set_shares, set_start, slid_of}
use Rattle.cache_build.proofs.ByteLaws.{read_byte}
use Rattle.cache_build.proofs.CacheFacts.{IsCache, moved_in}
use Rattle.cache_build.proofs.MovedExports.{spotted_bytes}
use Rattle.cache_build.proofs.MovedSpots.{own_moves, own_share, own_spots, share_in, share_is, spots_are, span_low, share_tables}

-- ---- the numbers of tables that are read have the widths of their fields

record FitsEntry (e : Nlist) : Type 0 where
  desc : e.desc < 2 ^ 16
  value : e.value < 2 ^ 64

entry_fits : (bytes : List ℕ) (at : ℕ) → ((n : ℕ) → get_or bytes n 0 < 256) → FitsEntry (nlist_at bytes at)
unfolding nlist_at
entry_fits bytes at plain = record { desc = number_at-lt 2 bytes (at + 6) plain; value = number_at-lt 8 bytes (at + 8) plain }

symbol_fits : (strings : List ℕ) (e : Nlist) → FitsEntry e → FitsSymbol (symbol_of strings e)
unfolding symbol_of
symbol_fits strings e fits = record { desc = fits.desc; value = go (is_alias e.kind) }
  where
    go : (b : Bool) → (if b then 0 else e.value) < 2 ^ 64
    go true = omega arith
    go false = fits.value

symbols_fit : (strings bytes : List ℕ) (ks : List ℕ) → ((n : ℕ) → get_or bytes n 0 < 256) → All FitsSymbol (map (symbol_of strings) (filter is_kept (map (λ (k : ℕ). nlist_at bytes (16 * k)) ks)))
symbols_fit strings bytes [] plain = All-nil FitsSymbol
symbols_fit strings bytes (k ∷ ks) plain =
    let e : Nlist = nlist_at bytes (16 * k) in
    let es : List Nlist = map (λ (j : ℕ). nlist_at bytes (16 * j)) ks in
    let rest : All FitsSymbol (map (symbol_of strings) (filter is_kept es)) = symbols_fit strings bytes ks plain in
    elim (cases_Bool (is_kept e)) [
      | inl is ↦
          subst (λ (l : List Nlist). All FitsSymbol (map (symbol_of strings) l)) (sym (cond-true (is_kept e) (e ∷ filter is_kept es) (filter is_kept es) is))
          (All-cons FitsSymbol (symbol_of strings e) (map (symbol_of strings) (filter is_kept es)) (symbol_fits strings e (entry_fits bytes (16 * k) plain)) rest)
      | inr is_not ↦ subst (λ (l : List Nlist). All FitsSymbol (map (symbol_of strings) l)) (sym (cond-false (is_kept e) (e ∷ filter is_kept es) (filter is_kept es) is_not)) rest
    ]

index_fits : (es : List Nlist) (index : ℕ) → index < 2 ^ 32 → renumbered es index < 2 ^ 32
index_fits es index fits = go (is_flag index)
  where
    go : (b : Bool) → (if b then index else kept_before es index) < 2 ^ 32
    go true = fits
    go false = omega (arith, kept_before-le es index, fits)

indices_fit : (es : List Nlist) (bytes : List ℕ) (ks : List ℕ) → ((n : ℕ) → get_or bytes n 0 < 256) → All (λ (index : ℕ). index < 2 ^ 32) (map (renumbered es) (map (λ (k : ℕ). number_at 4 bytes (4 * k)) ks))
indices_fit es bytes [] plain = All-nil (λ (index : ℕ). index < 2 ^ 32)
indices_fit es bytes (k ∷ ks) plain =
    All-cons (λ (index : ℕ). index < 2 ^ 32) (renumbered es (number_at 4 bytes (4 * k))) (map (renumbered es) (map (λ (j : ℕ). number_at 4 bytes (4 * j)) ks))
    (index_fits es (number_at 4 bytes (4 * k)) (number_at-lt 4 bytes (4 * k) plain)) (indices_fit es bytes ks plain)

fields_fit : (i : Img) → ((n : ℕ) → get_or i.streams.symbols n 0 < 256) → ((n : ℕ) → get_or i.streams.indirect n 0 < 256) → HasFields (tables_of i)
unfolding tables_of
fields_fit i symbols indirect = record {
  symbols = symbols_fit i.streams.strings i.streams.symbols _ symbols;
  indirect = indices_fit (nlists_of i.streams.symbols) i.streams.indirect _ indirect;
  groups = refl;
}

-- parts of a file are bytes
part_plain : (file : List ℕ) (command : Option (List ℕ)) (entry offset size : ℕ) → All (λ (b : ℕ). b < 256) file → (n : ℕ) → get_or (part_in file command entry offset size) n 0 < 256
part_plain file None entry offset size plain n = omega arith
part_plain file (Some c) entry offset size plain n =
    read_byte (take (entry * number_at 4 c size) (drop (number_at 4 c offset) file))
    (All-take (λ (b : ℕ). b < 256) (entry * number_at 4 c size) (drop (number_at 4 c offset) file) (All-drop (λ (b : ℕ). b < 256) (number_at 4 c offset) file plain)) n

own_fields_fit : (i : Img) → IsReadOf i → HasFields (tables_of i)
unfolding streams_of
own_fields_fit i read =
    fields_fit i
    (λ n. subst (λ (s : StreamBytes). get_or s.symbols n 0 < 256) (sym read.streams) (part_plain read.bytes (command_where is_symtab (commands_of i.header)) 16 symtab_symoff symtab_nsyms read.plain n))
    (λ n. subst (λ (s : StreamBytes). get_or s.indirect n 0 < 256) (sym read.streams) (part_plain read.bytes (command_where is_dysymtab (commands_of i.header)) 4 dysymtab_indirectsymoff dysymtab_nindirectsyms read.plain n))

-- ---- with the commands that name them, and without

ungrouped : (n : ℕ) (ss : List Sym) → All (IsSymbol n) ss → AreTables n (record { symbols = ss; indirect = []; groups = 0 ∷ 0 ∷ 0 ∷ 0 ∷ 0 ∷ 0 ∷ [] })
ungrouped n ss all = record { symbols = all; indirect = λ k d lt flag. absurd (omega (arith, lt)); groups = (omega arith, omega arith, omega arith) }

by_commands : (symtab dysymtab : Option (List ℕ)) (b : List ℕ) (spots : LinkSpots) (n : ℕ) (t : Tabs) (strings symbols : List ℕ) → AreTables n t → (symtab ≡ None → t.symbols ≡ [])
    → take spots.strings.len (drop spots.strings.at b) ≡ strings → take spots.symbols.len (drop spots.symbols.at b) ≡ symbols → indirect_of (take spots.indirect.len (drop spots.indirect.at b)) ≡ t.indirect → spots.groups ≡ t.groups
    → ((groups indirect : List ℕ) → AreTables n (record { symbols = t.symbols; indirect = indirect; groups = groups }) → tables_break strings n (nlists_of symbols) groups indirect ≡ None)
    → tables_break (named_by symtab b spots.strings) n (nlists_of (named_by symtab b spots.symbols)) (spotted_groups spots dysymtab) (indirect_of (named_by dysymtab b spots.indirect)) ≡ None
by_commands (Some c) (Some d) b spots n t strings symbols are empty first second third fourth keep =
    (λ i. tables_break (first i) n (nlists_of (second i)) (fourth i) (third i)) ∙ keep t.groups t.indirect are
by_commands (Some c) None b spots n t strings symbols are empty first second third fourth keep =
    (λ i. tables_break (first i) n (nlists_of (second i)) (0 ∷ 0 ∷ 0 ∷ 0 ∷ 0 ∷ 0 ∷ []) []) ∙ keep (0 ∷ 0 ∷ 0 ∷ 0 ∷ 0 ∷ 0 ∷ []) [] (ungrouped n t.symbols are.symbols)
by_commands None (Some d) b spots n t strings symbols are empty first second third fourth keep = (λ i. tables_break [] n [] (fourth i) (third i)) ∙ none_keep n t (empty refl) are
by_commands None None b spots n t strings symbols are empty first second third fourth keep =
    none_keep n (record { symbols = []; indirect = []; groups = 0 ∷ 0 ∷ 0 ∷ 0 ∷ 0 ∷ 0 ∷ [] }) refl (ungrouped n [] (All-nil (IsSymbol n)))

-- ---- each image's

moved_tables_in : (i : Img) (moves : List Moved) (spots : LinkSpots) (b : List ℕ) → table_break (moved_image i moves spots b)
    ≡ tables_break (named_by (command_where is_symtab (commands_of i.header)) b spots.strings) (length (moved_image i moves spots b).sections) (nlists_of (named_by (command_where is_symtab (commands_of i.header)) b spots.symbols))
    (spotted_groups spots (command_where is_dysymtab (commands_of i.header))) (indirect_of (named_by (command_where is_dysymtab (commands_of i.header)) b spots.indirect))
unfolding table_break moved_image
moved_tables_in i moves spots b = refl

many_sections : (i : Img) (moves : List Moved) (spots : LinkSpots) (b : List ℕ) → length (moved_image i moves spots b).sections ≡ length i.sections
unfolding moved_image
many_sections i moves spots b = length-map i.sections _

share_fields : (i : Img) (m : List Moved) → HasFields (tables_of i) → HasFields (share_of i (tables_of i) m).tables
unfolding share_of
share_fields i m fits = moved_have_fields i m (tables_of i) fits

unnamed_symbols : (i : Img) (m : List Moved) → IsReadOf i → command_where is_symtab (commands_of i.header) ≡ None → (share_of i (tables_of i) m).tables.symbols ≡ []
unfolding share_of tables_of streams_of
unnamed_symbols i m read none =
    let symbols : i.streams.symbols ≡ [] = ap (λ (s : StreamBytes). s.symbols) read.streams ∙ ap (λ (o : Option (List ℕ)). part_in read.bytes o 16 symtab_symoff symtab_nsyms) none in
    ap (λ (l : List ℕ). map (moved_symbol i m) (map (symbol_of i.streams.strings) (filter is_kept (nlists_of l)))) symbols

module _ (bits : ℕ) (is : List Img) (able : IsBuildable bits is) (cache : IsCache bits is) (k : ℕ) (i : Img) (lt : k < length is) (at : i ≡ get_or is k i) where
  -- the pool is a part of the linkedit
  pool_low : pool_len (pool_of (set_shares is)) ≤ span_limit
  unfolding spots_in
  pool_low =
      let start : ℕ = set_start bits is in
      let shares : List Share = set_shares is in
      let range = shared_range start shares 2 (omega arith) in
      let within = spots_within start shares k (own_share is k i) (share_in is k lt) (share_is is k i (own_share is k i) lt at) in
      let inside : (spots_in start shares k (own_share is k i)).strings.at + (spots_in start shares k (own_share is k i)).strings.len ≤ start + linkedit_size shares = within.strings.inside in
      omega (arith, range.long, inside, span_low bits is able.merged, paged-covers (linkedit_size (set_shares is)))

  pub tables_kept : table_break (moved_in bits is k i) ≡ None
  tables_kept =
      let start : ℕ = set_start bits is in
      let shares : List Share = set_shares is in
      let share : Share = own_share is k i in
      let b : List ℕ = slid_of bits is 0 in
      let here : get_or (set_shares is) k (own_share is k i) ≡ own_share is k i = share_is is k i (own_share is k i) lt at in
      let within : k < length (set_shares is) = share_in is k lt in
      let same : own_spots bits is k ≡ spots_in start shares k share = spots_are bits is k i lt at in
      let spans = spots_within start shares k share within here in
      let found = pieces_found start shares k share within here in
      let read = able.accepted.read k i lt at in
      let tables : AreTables (length i.sections) (own_share is k i).tables = share_tables i (own_moves is k) (image_tables i (tables_of i) refl (able.accepted.tables k i (slice_get_read is (length is) k i refl lt at))) in
      let fits : HasFields (own_share is k i).tables = share_fields i (own_moves is k) (own_fields_fit i read) in
      let indirect : indirect_of (take (spots_in start shares k share).indirect.len (drop (spots_in start shares k share).indirect.at b)) ≡ share.tables.indirect =
      ap (λ (l : List ℕ). indirect_of l) (spotted_bytes bits is cache (spots_in start shares k share).indirect spans.indirect ∙ found.indirect) ∙ indirect_back share.tables.indirect fits.indirect in
      let kept =
      by_commands (command_where is_symtab (commands_of i.header)) (command_where is_dysymtab (commands_of i.header)) b (spots_in start shares k share) (length i.sections) share.tables
      (bytes_in start (linkedit_of shares) (spots_in start shares k share).strings) (bytes_in start (linkedit_of shares) (spots_in start shares k share).symbols) tables (unnamed_symbols i (own_moves is k) read)
      (spotted_bytes bits is cache (spots_in start shares k share).strings spans.strings) (spotted_bytes bits is cache (spots_in start shares k share).symbols spans.symbols) indirect found.groups
      (λ groups indices are. tables_keep start shares k share (length i.sections) groups indices within here are fits.symbols pool_low) in
      moved_tables_in i (own_moves is k) (own_spots bits is k) b
      ∙ (λ j. tables_break (named_by (command_where is_symtab (commands_of i.header)) b (same j).strings) (many_sections i (own_moves is k) (own_spots bits is k) b j) (nlists_of (named_by (command_where is_symtab (commands_of i.header)) b (same j).symbols))
      (spotted_groups (same j) (command_where is_dysymtab (commands_of i.header))) (indirect_of (named_by (command_where is_dysymtab (commands_of i.header)) b (same j).indirect)))
      ∙ kept
