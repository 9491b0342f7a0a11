-- An image finds by its spots what it has of a linkedit.
use Rattle.std.proofs.Common.{◌≡◌, ◌≤◌, ◌<◌, ℕ, ◌+◌, ◌-◌, ◌*◌, ◌∙◌, Bool, true, false, cond, List, [], ◌∷◌, ◌++◌, length, map, take, drop, get_or, refl, sym, ap, ap₂, subst, arith, Option, Some, All}
use Rattle.std.specs.Prelude.{nat_eq, slice_index, slice_get}
use Rattle.std.proofs.lemmas.Option.{slice_get_within, slice_get-get_or, get_or_from_slice_get}
use Rattle.macho_edit.specs.declared.spots.LinkSpots.{LinkSpots}
use Rattle.cache_layout.proofs.NumberedLaws.{numbered-get}
use Rattle.linkedit_merge.specs.Conditions.{HaveTables}
use Rattle.linkedit_merge.proofs.ShareLaws.{many_shares, share_there}
use Rattle.std.specs.List.{flat_map, sum_by}
use Rattle.std.proofs.lemmas.Bool.{eqb-true, eqb-false}
use Rattle.std.proofs.lemmas.List.{length-map, length-append, length-take-le, get_or_append_left, get_or-append-add, get_or-map, take-append-drop, drop_more, drop_at, take_at, drop-drop, drop-take, take-take, get_or_default}
use Rattle.std.proofs.lemmas.List.Concat.{flat_map-append, length-flat_map, get_or-flat_map}
use Rattle.std.proofs.lemmas.List.Elements.{All-nil, All-cons, All-head, All-tail}
use Rattle.dsc_base.specs.Limits.{span_limit}
use Rattle.dsc_base.specs.Numbers.{little_bytes}
use Rattle.dsc_base.specs.declared.fault.Span.{Span}
use Rattle.macho_image.specs.Records.{Img}
use Rattle.macho_image.specs.declared.place.Moved.{Moved}
use Rattle.macho_image.specs.Nlists.{nlists_of, indirect_of}
use Rattle.nlist_table.specs.Symbols.{Sym, Tabs, tables_from}
use Rattle.nlist_table.specs.Kept.{IsSymbol, AreTables}
use Rattle.linkedit_merge.specs.Indices.{pool_len}
use Rattle.linkedit_merge.specs.Linkedit.{streams_in, all_symbols, pool_of, symbol_bytes, tables_in, parts_of, linkedit_of, within, symbols_len, indirect_len, spots_in, spots_of}
use Rattle.linkedit_merge.specs.Parts.{lens_of, span_behind, span_of, bytes_in}
use Rattle.linkedit_merge.specs.Pool.{is_pooled, alias_names, symbol_names, pool_bytes}
use Rattle.linkedit_merge.specs.ReadBack.{FitsSymbol, HasFields, ReadsBack, AllReadBack}
use Rattle.linkedit_merge.specs.Shares.{Share, no_tables, moved_symbol, moved_tables, share_of, shares_of}
use Rattle.linkedit_merge.proofs.ListLaws.{flat_within, sum_each, sum_same}
use Rattle.linkedit_merge.proofs.NameLaws.{pooled_has}
use Rattle.linkedit_merge.proofs.PartLaws.{part_read}
use Rattle.linkedit_merge.proofs.TableLaws.{ArePooled, moved_sound, moved_fits, tables_back}

-- ---- names of the symbols of a share

all_left : {Y : Type 0} (P : Y → Type 0) (a b : List Y) → All P (a ++ b) → All P a
all_left P a b h = λ k d lt. subst P (get_or_append_left a b d k lt) (h k d (omega (arith, length-append a b)))

all_right : {Y : Type 0} (P : Y → Type 0) (a b : List Y) → All P (a ++ b) → All P b
all_right P a b h = λ k d lt. subst P (get_or-append-add a b k d) (h (length a + k) d (omega (arith, length-append a b)))

all_within : {X Y : Type 0} (P : Y → Type 0) (f : X → List Y) (xs : List X) → All P (flat_map f xs) → All (λ (x : X). All P (f x)) xs
all_within {X} P f [] h = All-nil (λ (x : X). All P (f x))
all_within {X} P f (x ∷ xs) h = All-cons (λ (y : X). All P (f y)) x xs (all_left P (f x) (flat_map f xs) h) (all_within P f xs (all_right P (f x) (flat_map f xs) h))

pooled_symbol : (pool : List (List ℕ)) (s : Sym) → All (λ (name : List ℕ). is_pooled pool name ≡ true) (symbol_names s) → ArePooled pool s
pooled_symbol pool s h =
    let P : List ℕ → Type 0 = λ name. is_pooled pool name ≡ true in
    record {
      name = All-head P s.name (alias_names s.alias) h;
      alias = λ other is. All-head P other [] (subst (λ (o : Option (List ℕ)). All P (alias_names o)) is (All-tail P s.name (alias_names s.alias) h));
    }

pooled_each : (pool : List (List ℕ)) (ss : List Sym) → All (λ (s : Sym). All (λ (name : List ℕ). is_pooled pool name ≡ true) (symbol_names s)) ss → All (ArePooled pool) ss
pooled_each pool ss h = λ k d lt. pooled_symbol pool (get_or ss k d) (h k d lt)

pooled_all : (shares : List Share) → All (λ (share : Share). All (ArePooled (pool_of shares)) share.tables.symbols) shares
pooled_all shares =
    let pool = pool_of shares in
    let P : List ℕ → Type 0 = λ name. is_pooled pool name ≡ true in
    let each = all_within P symbol_names (all_symbols shares) (pooled_has [] (flat_map symbol_names (all_symbols shares))) in
    let within_shares = all_within (λ (s : Sym). All P (symbol_names s)) (λ (share : Share). share.tables.symbols) shares each in
    λ k d lt. pooled_each pool (get_or shares k d).tables.symbols (within_shares k d lt)

-- ---- parts of the linkedit

many_streams : (shares : List Share) → length (flat_map streams_in shares) ≡ 5 * length shares
many_streams shares = length-flat_map streams_in shares ∙ sum_each (λ (share : Share). length (streams_in share)) 5 shares (λ share. refl)

pub many_parts : (shares : List Share) → length (parts_of shares) ≡ 5 * length shares + 3
unfolding parts_of
many_parts shares = omega (arith, length-append (flat_map streams_in shares) (tables_in (pool_of shares) shares), many_streams shares)

own_part : (shares : List Share) (k j : ℕ) (share : Share) → k < length shares → get_or shares k share ≡ share → j < 5 → get_or (parts_of shares) (5 * k + j) [] ≡ get_or (streams_in share) j []
unfolding parts_of
own_part shares k j share within is few =
    let before : length (flat_map streams_in (take k shares)) ≡ 5 * k = omega (arith, many_streams (take k shares), length-take-le k shares (omega arith)) in
    get_or_append_left (flat_map streams_in shares) (tables_in (pool_of shares) shares) [] (5 * k + j) (omega (arith, many_streams shares))
    ∙ (ap (λ (n : ℕ). get_or (flat_map streams_in shares) (n + j) []) (sym before)
    ∙ (get_or-flat_map streams_in shares k j share [] within few
    ∙ ap (λ (x : Share). get_or (streams_in x) j []) is))

shared_part : (shares : List Share) (j : ℕ) → get_or (parts_of shares) (5 * length shares + j) [] ≡ get_or (tables_in (pool_of shares) shares) j []
unfolding parts_of
shared_part shares j =
    ap (λ (n : ℕ). get_or (flat_map streams_in shares ++ tables_in (pool_of shares) shares) (n + j) []) (sym (many_streams shares))
    ∙ get_or-append-add (flat_map streams_in shares) (tables_in (pool_of shares) shares) j []

pub own_read : (start : ℕ) (shares : List Share) (k j : ℕ) (share : Share) → k < length shares → get_or shares k share ≡ share → j < 5
    → bytes_in start (linkedit_of shares) (span_of start (lens_of (parts_of shares)) (5 * k + j)) ≡ get_or (streams_in share) j []
unfolding linkedit_of
own_read start shares k j share within is few =
    part_read start (parts_of shares) (5 * k + j) (omega (arith, many_parts shares)) ∙ own_part shares k j share within is few

shared_read : (start : ℕ) (shares : List Share) (j : ℕ) → j < 3
    → bytes_in start (linkedit_of shares) (span_of start (lens_of (parts_of shares)) (5 * length shares + j)) ≡ get_or (tables_in (pool_of shares) shares) j []
unfolding linkedit_of
shared_read start shares j few = part_read start (parts_of shares) (5 * length shares + j) (omega (arith, many_parts shares)) ∙ shared_part shares j

-- ---- a range within another

-- a range that has so many bytes begins no earlier than the linkedit
pub record IsRange (start : ℕ) (part : List ℕ) (whole : Span) : Type 0 where
  pub long : whole.len ≡ length part
  pub behind : 0 < length part → start ≤ whole.at

range_by : (b : Bool) (start at len : ℕ) → nat_eq len 0 ≡ b
    → (let span : Span = cond b (record { at = 0; len = 0 }) (record { at = start + at; len = len }) in (span.len ≡ len) × (0 < len → start ≤ span.at))
range_by true start at len none = let zero = eqb-true len 0 none in (sym zero, λ some. omega arith)
range_by false start at len some = (refl, λ _. omega arith)

pub shared_range : (start : ℕ) (shares : List Share) (j : ℕ) → j < 3 → IsRange start (get_or (tables_in (pool_of shares) shares) j []) (span_of start (lens_of (parts_of shares)) (5 * length shares + j))
unfolding span_behind
shared_range start shares j few =
    let parts = parts_of shares in
    let n = 5 * length shares + j in
    let here : slice_index (lens_of parts) n ≡ length (get_or (tables_in (pool_of shares) shares) j []) =
    get_or-map (λ (part : List ℕ). length part) parts n [] 0 (omega (arith, many_parts shares)) ∙ ap (λ (l : List ℕ). length l) (shared_part shares j) in
    let range = range_by (nat_eq (slice_index (lens_of parts) n) 0) start _ (slice_index (lens_of parts) n) refl in
    record { long = range.0 ∙ here; behind = λ some. range.1 (omega (arith, here)) }

within_by : (b : Bool) (start : ℕ) (linkedit part : List ℕ) (whole : Span) (before len : ℕ) → nat_eq len 0 ≡ b → bytes_in start linkedit whole ≡ part → IsRange start part whole → before + len ≤ length part
    → (let span : Span = cond b (record { at = 0; len = 0 }) (record { at = whole.at + before; len = len }) in bytes_in start linkedit span) ≡ take len (drop before part)
within_by true start linkedit part whole before len none read range inside = ap (λ (n : ℕ). take n (drop before part)) (sym (eqb-true len 0 none))
within_by false start linkedit part whole before len some read range inside =
    let rest = drop (whole.at - start) linkedit in
    let left = whole.len - before in
    let some_bytes : 0 < len = ne_zero len some in
    let at : whole.at + before - start ≡ whole.at - start + before = (let first = range.behind (omega arith) in omega arith) in
    let whole_is : whole.len ≡ before + left = omega (arith, range.long) in
    ap (λ (n : ℕ). take len (drop n linkedit)) at
    ∙ (ap (λ (l : List ℕ). take len l) (sym (drop-drop before (whole.at - start) linkedit))
    ∙ (sym (take-take len left (drop before rest) (omega (arith, range.long)))
    ∙ (ap (λ (l : List ℕ). take len l) (sym (drop-take before left rest))
    ∙ (ap (λ (n : ℕ). take len (drop before (take n rest))) (sym whole_is)
    ∙ ap (λ (l : List ℕ). take len (drop before l)) read))))
  where
    ne_zero : (len : ℕ) → nat_eq len 0 ≡ false → 0 < len
    ne_zero len some = let no : len ≡ 0 → ⊥ = eqb-false len 0 some in omega (arith, no)

within_read : (start : ℕ) (linkedit part : List ℕ) (whole : Span) (before len : ℕ) → bytes_in start linkedit whole ≡ part → IsRange start part whole → before + len ≤ length part
    → bytes_in start linkedit (within whole before len) ≡ take len (drop before part)
within_read start linkedit part whole before len read range inside = within_by (nat_eq len 0) start linkedit part whole before len refl read range inside

-- the part of one item among those of all
record IsCut {X : Type 0} (f : X → List ℕ) (xs : List X) (k : ℕ) (x : X) : Type 0 where
  here : take (length (f x)) (drop (length (flat_map f (take k xs))) (flat_map f xs)) ≡ f x
  inside : length (flat_map f (take k xs)) + length (f x) ≤ length (flat_map f xs)

cut : {X : Type 0} (f : X → List ℕ) (xs : List X) (k : ℕ) (x : X) → k < length xs → get_or xs k x ≡ x → IsCut f xs k x
cut {X} f xs k x lt is =
    let front = flat_map f (take k xs) in
    let rest = flat_map f (drop (k + 1) xs) in
    let split : flat_map f xs ≡ front ++ (f x ++ rest) =
    ap (λ (l : List X). flat_map f l) (sym (take-append-drop k xs))
    ∙ (flat_map-append f (take k xs) (drop k xs)
    ∙ ap (λ (l : List X). front ++ flat_map f l) (drop_more xs k x lt ∙ ap (λ (y : X). y ∷ drop (k + 1) xs) is)) in
    record {
      here =
          ap (λ (l : List ℕ). take (length (f x)) (drop (length front) l)) split
          ∙ (ap (λ (l : List ℕ). take (length (f x)) l) (drop_at front (f x ++ rest) (length front) refl)
          ∙ take_at (f x) rest (length (f x)) refl);
      inside = omega (arith, ap (λ (l : List ℕ). length l) split, length-append front (f x ++ rest), length-append (f x) rest);
    }

-- the bytes of an image's share of a table: f of each entry, each of w bytes
share_cut : {Y : Type 0} (f : Y → List ℕ) (g : Share → List Y) (w : ℕ) (size : Share → ℕ) (start : ℕ) (linkedit : List ℕ) (shares : List Share) (k : ℕ) (share : Share) (whole : Span)
    → ((y : Y) → length (f y) ≡ w) → ((s : Share) → size s ≡ w * length (g s)) → k < length shares → get_or shares k share ≡ share
    → bytes_in start linkedit whole ≡ flat_map f (flat_map g shares) → IsRange start (flat_map f (flat_map g shares)) whole
    → bytes_in start linkedit (within whole (sum_by size (take k shares)) (size share)) ≡ flat_map f (g share)
share_cut {Y} f g w size start linkedit shares k share whole wide sized lt is read range =
    let h : Share → List ℕ = λ s. flat_map f (g s) in
    let joined_is : flat_map f (flat_map g shares) ≡ flat_map h shares = flat_within f g shares in
    let one : (s : Share) → length (h s) ≡ size s = λ s. length-flat_map f (g s) ∙ (sum_each (λ (y : Y). length (f y)) w (g s) wide ∙ sym (sized s)) in
    let before : length (flat_map h (take k shares)) ≡ sum_by size (take k shares) = length-flat_map h (take k shares) ∙ sum_same (λ (s : Share). length (h s)) size (take k shares) one in
    let own = cut h shares k share lt is in
    let long : length (h share) ≡ size share = one share in
    within_read start linkedit (flat_map f (flat_map g shares)) whole (sum_by size (take k shares)) (size share) read range
    (let inside = own.inside in omega (arith, before, long, ap (λ (l : List ℕ). length l) joined_is))
    ∙ (ap (λ (l : List ℕ). take (size share) (drop (sum_by size (take k shares)) l)) joined_is
    ∙ (ap₂ (λ (a b : ℕ). take a (drop b (flat_map h shares))) (sym long) (sym before) ∙ own.here))

-- ---- what an image finds

same_tables : (strings strings' symbols symbols' groups indirect indirect' : List ℕ) → strings ≡ strings' → symbols ≡ symbols' → indirect ≡ indirect'
    → tables_from strings (nlists_of symbols) groups (indirect_of indirect) ≡ tables_from strings' (nlists_of symbols') groups (indirect_of indirect')
same_tables strings strings' symbols symbols' groups indirect indirect' p q r = cc

-- the bytes of its tables
pub record HasPieces (start : ℕ) (linkedit : List ℕ) (pool : List (List ℕ)) (share : Share) (spots : LinkSpots) : Type 0 where
  pub strings : bytes_in start linkedit spots.strings ≡ pool_bytes pool
  pub symbols : bytes_in start linkedit spots.symbols ≡ flat_map (symbol_bytes pool) share.tables.symbols
  pub indirect : bytes_in start linkedit spots.indirect ≡ flat_map (little_bytes 4) share.tables.indirect
  pub groups : spots.groups ≡ share.tables.groups

pub pieces_found : (start : ℕ) (shares : List Share) (k : ℕ) (share : Share) → k < length shares → get_or shares k share ≡ share → HasPieces start (linkedit_of shares) (pool_of shares) share (spots_in start shares k share)
unfolding spots_in
pieces_found start shares k share lt is =
    let lens = lens_of (parts_of shares) in
    let pool = pool_of shares in
    let zero_right : (m : ℕ) → m + 0 ≡ m = λ m. omega arith in
    let first : bytes_in start (linkedit_of shares) (span_of start lens (5 * length shares)) ≡ flat_map (symbol_bytes pool) (all_symbols shares) =
    ap (λ (m : ℕ). bytes_in start (linkedit_of shares) (span_of start lens m)) (sym (zero_right (5 * length shares))) ∙ shared_read start shares 0 (omega arith) in
    let first_range : IsRange start (flat_map (symbol_bytes pool) (all_symbols shares)) (span_of start lens (5 * length shares)) =
    subst (λ (m : ℕ). IsRange start (flat_map (symbol_bytes pool) (all_symbols shares)) (span_of start lens m)) (zero_right (5 * length shares)) (shared_range start shares 0 (omega arith)) in
    record {
      strings = shared_read start shares 2 (omega arith);
      symbols = share_cut (symbol_bytes pool) (λ (s : Share). s.tables.symbols) 16 symbols_len start (linkedit_of shares) shares k share (span_of start lens (5 * length shares)) (λ s. refl) (λ s. refl) lt is first first_range;
      indirect =
          share_cut (little_bytes 4) (λ (s : Share). s.tables.indirect) 4 indirect_len start (linkedit_of shares) shares k share (span_of start lens (5 * length shares + 1)) (λ s. refl) (λ s. refl) lt is
          (shared_read start shares 1 (omega arith)) (shared_range start shares 1 (omega arith));
      groups = refl;
    }

-- the names of a share are in the pool
pub share_pooled : (shares : List Share) (k : ℕ) (share : Share) → k < length shares → get_or shares k share ≡ share → All (ArePooled (pool_of shares)) share.tables.symbols
share_pooled shares k share lt is = let all = pooled_all shares k share lt in subst (λ (s : Share). All (ArePooled (pool_of shares)) s.tables.symbols) is all

pub reads_back : (start : ℕ) (shares : List Share) (k : ℕ) (share : Share) (n : ℕ) → k < length shares → get_or shares k share ≡ share
    → AreTables n share.tables → HasFields share.tables → pool_len (pool_of shares) ≤ span_limit → ReadsBack start (linkedit_of shares) share (spots_in start shares k share)
unfolding spots_in
reads_back start shares k share n lt is sound fits few =
    let lens = lens_of (parts_of shares) in
    let pool = pool_of shares in
    let zero_right : (m : ℕ) → m + 0 ≡ m = λ m. omega arith in
    let found = pieces_found start shares k share lt is in
    record {
      bind = ap (λ (m : ℕ). bytes_in start (linkedit_of shares) (span_of start lens m)) (sym (zero_right (5 * k))) ∙ own_read start shares k 0 share lt is (omega arith);
      lazy = own_read start shares k 1 share lt is (omega arith);
      exports = own_read start shares k 2 share lt is (omega arith);
      function_starts = own_read start shares k 3 share lt is (omega arith);
      data_in_code = own_read start shares k 4 share lt is (omega arith);
      tables =
          same_tables (bytes_in start (linkedit_of shares) (spots_in start shares k share).strings) (pool_bytes pool) (bytes_in start (linkedit_of shares) (spots_in start shares k share).symbols)
          (flat_map (symbol_bytes pool) share.tables.symbols) share.tables.groups (bytes_in start (linkedit_of shares) (spots_in start shares k share).indirect) (flat_map (little_bytes 4) share.tables.indirect)
          found.strings found.symbols found.indirect
          ∙ tables_back pool n share.tables few sound fits (share_pooled shares k share lt is);
    }

-- ---- tables with moved values

pub moved_are_tables : (n : ℕ) (image : Img) (m : List Moved) (t : Tabs) → AreTables n t → AreTables n (moved_tables image m t)
moved_are_tables n image m t h =
    let long : length (map (moved_symbol image m) t.symbols) ≡ length t.symbols = length-map t.symbols (moved_symbol image m) in
    record {
      symbols = moved_each t.symbols h.symbols;
      indirect = λ k d lt flag. let inside = h.indirect k d lt flag in omega arith;
      groups = (let g = h.groups.0 in omega arith, let g = h.groups.1 in omega arith, let g = h.groups.2 in omega arith);
    }
  where
    moved_each : (ss : List Sym) → All (IsSymbol n) ss → All (IsSymbol n) (map (moved_symbol image m) ss)
    moved_each [] all = All-nil (IsSymbol n)
    moved_each (s ∷ ss) all = All-cons (IsSymbol n) (moved_symbol image m s) (map (moved_symbol image m) ss) (moved_sound n image m s (All-head (IsSymbol n) s ss all)) (moved_each ss (All-tail (IsSymbol n) s ss all))

pub moved_have_fields : (image : Img) (m : List Moved) (t : Tabs) → HasFields t → HasFields (moved_tables image m t)
moved_have_fields image m t h = record { symbols = moved_each t.symbols h.symbols; indirect = h.indirect; groups = h.groups }
  where
    moved_each : (ss : List Sym) → All FitsSymbol ss → All FitsSymbol (map (moved_symbol image m) ss)
    moved_each [] all = All-nil FitsSymbol
    moved_each (s ∷ ss) all = All-cons FitsSymbol (moved_symbol image m s) (map (moved_symbol image m) ss) (moved_fits image m s (All-head FitsSymbol s ss all)) (moved_each ss (All-tail FitsSymbol s ss all))

-- ---- all images

sound_share : (images : List Img) (tables : List Tabs) (moves : List (List Moved)) (k : ℕ) (image : Img) (t : Tabs) (m : List Moved) → AreTables (length image.sections) t → HasFields t
    → (n : ℕ) × AreTables n (share_of image t m).tables × HasFields (share_of image t m).tables
unfolding share_of
sound_share images tables moves k image t m sound fits = (length image.sections, moved_are_tables (length image.sections) image m t sound, moved_have_fields image m t fits)

shares_sound : (images : List Img) (tables : List Tabs) (moves : List (List Moved)) (k : ℕ) (share : Share) → HaveTables images tables → All HasFields tables → k < length images
    → get_or (shares_of images tables moves) k share ≡ share → (n : ℕ) × AreTables n share.tables × HasFields share.tables
shares_sound [] tables moves k share have fits none is = absurd (omega arith)
shares_sound (i ∷ is) tables moves k share have fits lt at =
    let images = i ∷ is in
    let image = get_or images k i in
    let t = get_or tables k no_tables in
    let m = get_or moves k [] in
    let here : k < length tables = omega (arith, have.many) in
    let own : get_or (shares_of images tables moves) k share ≡ share_of image t m = share_there images tables moves k image t m share (record {
      within = lt;
      image_is = get_or_default images k i image lt;
      tables_within = here;
      tables_is = get_or_default tables k no_tables t here;
      moves_is = refl;
    }) in
    let sound = have.each k image t (slice_get-get_or images k i lt) (slice_get-get_or tables k no_tables here) in
    subst (λ (s : Share). (n : ℕ) × AreTables n s.tables × HasFields s.tables) (sym own ∙ at) (sound_share images tables moves k image t m sound (fits k no_tables here))

spots_there : (start : ℕ) (shares : List Share) (k : ℕ) (share : Share) (s : LinkSpots) → k < length shares → get_or shares k share ≡ share → slice_get (spots_of start shares) k ≡ Some s → spots_in start shares k share ≡ s
unfolding spots_of
spots_there start shares k share s lt is found =
    sym (numbered-get (spots_in start shares) shares k share s lt (sym is)) ∙ get_or_from_slice_get (spots_of start shares) k s s found

pub all_read_back : (start : ℕ) (images : List Img) (tables : List Tabs) (moves : List (List Moved)) → HaveTables images tables → All HasFields tables → pool_len (pool_of (shares_of images tables moves)) ≤ span_limit
    → AllReadBack start (linkedit_of (shares_of images tables moves)) (shares_of images tables moves) (spots_of start (shares_of images tables moves))
all_read_back start images tables moves have fits few = λ k share s share_is spots_is.
    let shares = shares_of images tables moves in
    let lt : k < length shares = slice_get_within shares k share share_is in
    let is : get_or shares k share ≡ share = get_or_from_slice_get shares k share share share_is in
    let sound = shares_sound images tables moves k share have fits (omega (arith, many_shares images tables moves)) is in
    subst (ReadsBack start (linkedit_of shares) share) (spots_there start shares k share s lt is spots_is)
    (reads_back start shares k share sound.0 lt is sound.1 sound.2 few)
