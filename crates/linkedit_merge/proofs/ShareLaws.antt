-- The shares of images: the one of a number, and what they have of the tables.
use Rattle.std.proofs.Common.{◌≡◌, ◌<◌, ℕ, ◌+◌, ◌*◌, Bool, true, false, cond, List, [], ◌∷◌, ◌++◌, length, map, take, drop, get_or, refl, sym, ap, ap₂, ◌∙◌, arith}
use Rattle.std.specs.Prelude.{nat_eq}
use Rattle.std.specs.List.{flat_map, sum, sum_by, enumerate_from}
use Rattle.std.proofs.lemmas.List.Sums.{sum-map}
use Rattle.std.proofs.lemmas.List.{length-map, append-nil, get_or_read, nil_from_length, drop_more, drop_all}
use Rattle.std.proofs.lemmas.List.Concat.{length-flat_map}
use Rattle.std.proofs.lemmas.Bool.{eqb-true}
use Rattle.dsc_base.specs.Numbers.{little_bytes}
use Rattle.dsc_base.specs.Region.{padded}
use Rattle.macho_image.specs.Records.{Img}
use Rattle.macho_image.specs.declared.place.Moved.{Moved}
use Rattle.nlist_table.specs.Symbols.{Sym, Tabs}
use Rattle.cache_layout.proofs.NumberedLaws.{numbered-get, length-numbered}
use Rattle.linkedit_merge.specs.Parts.{eight_up, with_part}
use Rattle.linkedit_merge.specs.Shares.{Share, no_tables, moved_symbol, share_of, share_at, shares_of}
use Rattle.linkedit_merge.specs.Sizes.{opened, symbols_size, indirect_size}
use Rattle.linkedit_merge.specs.Linkedit.{all_symbols, all_indirect, symbol_bytes, symbols_len, indirect_len}
use Rattle.linkedit_merge.proofs.ListLaws.{appended, flat_map-map, sum_within, sum_same, sum_each}

pub many_shares : (images : List Img) (tables : List Tabs) (moves : List (List Moved)) → length (shares_of images tables moves) ≡ length images
unfolding shares_of
many_shares images tables moves = length-numbered (share_at tables moves) images

-- what belongs to image n
pub record IsShare (images : List Img) (tables : List Tabs) (moves : List (List Moved)) (n : ℕ) (image : Img) (t : Tabs) (m : List Moved) : Type 0 where
  pub within : n < length images
  pub image_is : image ≡ get_or images n image
  pub tables_within : n < length tables
  pub tables_is : t ≡ get_or tables n t
  pub moves_is : m ≡ get_or moves n []

pub share_there : (images : List Img) (tables : List Tabs) (moves : List (List Moved)) (n : ℕ) (image : Img) (t : Tabs) (m : List Moved) (d : Share) → IsShare images tables moves n image t m
    → get_or (shares_of images tables moves) n d ≡ share_of image t m
unfolding shares_of
share_there images tables moves n image t m d h =
    numbered-get (share_at tables moves) images n image d h.within h.image_is
    ∙ ap₂ (λ (x : Tabs) (y : List Moved). share_of image x y) (sym (get_or_read tables n t h.tables_within h.tables_is no_tables)) (sym h.moves_is)

-- what depends on the tables alone
tables_from : {Y : Type 0} (f : Share → Y) (g : Tabs → Y) (n : ℕ) (images : List Img) (tables : List Tabs) (moves : List (List Moved)) → n + length images ≡ length tables
    → ((image : Img) (t : Tabs) (m : List Moved) → f (share_of image t m) ≡ g t)
    → map f (map (λ (p : ℕ × Img). share_at tables moves p.0 p.1) (enumerate_from n images)) ≡ map g (drop n tables)
tables_from {Y} f g n [] tables moves many same = ap (λ (l : List Tabs). map g l) (sym (drop_all n tables (omega arith)))
tables_from {Y} f g n (image ∷ images) tables moves many same =
    ap₂ (λ (y : Y) (ys : List Y). y ∷ ys) (same image (get_or tables n no_tables) (get_or moves n [])) (tables_from f g (n + 1) images tables moves (omega arith) same)
    ∙ ap (λ (l : List Tabs). map g l) (sym (drop_more tables n no_tables (omega arith)))

pub by_tables : {Y : Type 0} (f : Share → Y) (g : Tabs → Y) (images : List Img) (tables : List Tabs) (moves : List (List Moved)) → length tables ≡ length images
    → ((image : Img) (t : Tabs) (m : List Moved) → f (share_of image t m) ≡ g t) → map f (shares_of images tables moves) ≡ map g tables
unfolding shares_of
by_tables f g images tables moves many same = tables_from f g 0 images tables moves (omega arith) same

pub sums_by_tables : (f : Share → ℕ) (g : Tabs → ℕ) (images : List Img) (tables : List Tabs) (moves : List (List Moved)) → length tables ≡ length images
    → ((image : Img) (t : Tabs) (m : List Moved) → f (share_of image t m) ≡ g t) → sum_by f (shares_of images tables moves) ≡ sum_by g tables
sums_by_tables f g images tables moves many same =
    sym (sum-map f (shares_of images tables moves)) ∙ (ap (λ (l : List ℕ). sum l) (by_tables f g images tables moves many same) ∙ sum-map g tables)

pub flats_by_tables : {A : Type 0} (f : Share → List A) (g : Tabs → List A) (images : List Img) (tables : List Tabs) (moves : List (List Moved)) → length tables ≡ length images
    → ((image : Img) (t : Tabs) (m : List Moved) → f (share_of image t m) ≡ g t) → flat_map f (shares_of images tables moves) ≡ flat_map g tables
flats_by_tables {A} f g images tables moves many same =
    sym (flat_map-map (λ (x : List A). x) f (shares_of images tables moves))
    ∙ (ap (λ (l : List (List A)). flat_map (λ (x : List A). x) l) (by_tables f g images tables moves many same) ∙ flat_map-map (λ (x : List A). x) g tables)

pub symbols_kept : (image : Img) (t : Tabs) (m : List Moved) → symbols_len (share_of image t m) ≡ 16 * length t.symbols
unfolding share_of
symbols_kept image t m = ap (λ (n : ℕ). 16 * n) (length-map t.symbols (moved_symbol image m))

pub indirect_kept : (image : Img) (t : Tabs) (m : List Moved) → indirect_len (share_of image t m) ≡ 4 * length t.indirect
unfolding share_of
indirect_kept image t m = refl

-- one image's symbols more
pub symbols_next : (pool : List (List ℕ)) (images : List Img) (tables : List Tabs) (moves : List (List Moved)) (n : ℕ) (image : Img) (t : Tabs) (m : List Moved) (symbols : List Sym) (start old new : List ℕ)
    → IsShare images tables moves n image t m → symbols ≡ t.symbols
    → old ≡ start ++ flat_map (λ (share : Share). flat_map (symbol_bytes pool) share.tables.symbols) (take n (shares_of images tables moves))
    → new ≡ old ++ flat_map (symbol_bytes pool) (map (moved_symbol image m) symbols)
    → new ≡ start ++ flat_map (λ (share : Share). flat_map (symbol_bytes pool) share.tables.symbols) (take (n + 1) (shares_of images tables moves))
unfolding share_of
symbols_next pool images tables moves n image t m symbols start old new h own so_far put =
    appended (λ (share : Share). flat_map (symbol_bytes pool) share.tables.symbols) (shares_of images tables moves) n (share_of image t m) start old new
    (let within = h.within in omega (arith, many_shares images tables moves)) (sym (share_there images tables moves n image t m (share_of image t m) h)) so_far
    (put ∙ ap (λ (ss : List Sym). old ++ flat_map (symbol_bytes pool) (map (moved_symbol image m) ss)) own)

-- ---- parts made ready, and then their bytes

part_opened : (b : Bool) (before part : List ℕ) → nat_eq (length part) 0 ≡ b
    → cond b before (padded (eight_up (length before)) before) ++ part ≡ cond b before (padded (eight_up (length before)) before ++ part)
part_opened true before part none = ap (λ (l : List ℕ). before ++ l) (nil_from_length part (eqb-true (length part) 0 none)) ∙ append-nil before
part_opened false before part some = refl

pub opened_part : (before part opening after : List ℕ) (size : ℕ) → size ≡ length part → opening ≡ opened before size → after ≡ opening ++ part → after ≡ with_part before part
unfolding with_part
opened_part before part opening after size long ready put =
    put ∙ (ap (λ (l : List ℕ). l ++ part) (ready ∙ ap (λ (n : ℕ). opened before n) long) ∙ part_opened (nat_eq (length part) 0) before part refl)

-- ---- lengths

pub long_symbols : (pool : List (List ℕ)) (images : List Img) (tables : List Tabs) (moves : List (List Moved)) → length tables ≡ length images
    → length (flat_map (symbol_bytes pool) (all_symbols (shares_of images tables moves))) ≡ symbols_size tables
long_symbols pool images tables moves many =
    let shares = shares_of images tables moves in
    length-flat_map (symbol_bytes pool) (all_symbols shares)
    ∙ (sum_within (λ (s : Sym). length (symbol_bytes pool s)) (λ (share : Share). share.tables.symbols) shares
    ∙ (sum_same (λ (share : Share). sum_by (λ (s : Sym). length (symbol_bytes pool s)) share.tables.symbols) symbols_len shares
    (λ share. sum_each (λ (s : Sym). length (symbol_bytes pool s)) 16 share.tables.symbols (λ s. refl))
    ∙ sums_by_tables symbols_len (λ (t : Tabs). 16 * length t.symbols) images tables moves many (symbols_kept)))

pub long_indirect : (tables : List Tabs) → length (flat_map (little_bytes 4) (flat_map (λ (t : Tabs). t.indirect) tables)) ≡ indirect_size tables
long_indirect tables =
    length-flat_map (little_bytes 4) (flat_map (λ (t : Tabs). t.indirect) tables)
    ∙ (sum_within (λ (i : ℕ). length (little_bytes 4 i)) (λ (t : Tabs). t.indirect) tables
    ∙ sum_same (λ (t : Tabs). sum_by (λ (i : ℕ). length (little_bytes 4 i)) t.indirect) (λ (t : Tabs). 4 * length t.indirect) tables
    (λ t. sum_each (λ (i : ℕ). length (little_bytes 4 i)) 4 t.indirect (λ i. refl)))

pub indices_kept : (image : Img) (t : Tabs) (m : List Moved) → (share_of image t m).tables.indirect ≡ t.indirect
unfolding share_of
indices_kept image t m = refl

pub indirect_all : (images : List Img) (tables : List Tabs) (moves : List (List Moved)) → length tables ≡ length images → all_indirect (shares_of images tables moves) ≡ flat_map (λ (t : Tabs). t.indirect) tables
indirect_all images tables moves many = flats_by_tables (λ (share : Share). share.tables.indirect) (λ (t : Tabs). t.indirect) images tables moves many indices_kept
