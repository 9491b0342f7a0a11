-- The parts of the shares are those that are put, with the same size.
use Rattle.std.proofs.Common.{◌≡◌, ◌≤◌, ◌<◌, ℕ, ◌+◌, List, [], ◌∷◌, ◌++◌, Vec, Global, length, map, get_or, refl, sym, ap, ap₂, ◌∙◌, arith, subst, Option, Some, None, Bool, true, false}
use Rattle.std.specs.Prelude.{nat_lt, if◌then◌else◌, Result, Ok, Err}
use Rattle.std.specs.Result.{IsErrAnd}
use Rattle.std.proofs.lemmas.Bool.{cond-true, cond-false, lt-ltb, le-ltb, ltb-false}
use Rattle.dsc_base.specs.Limits.{span_limit}
use Rattle.dsc_base.specs.Region.{paged}
use Rattle.dsc_base.specs.Refusals.{IsSetRefusal, RefusesSet}
use Rattle.dsc_base.specs.declared.fault.Break.{Break}
use Rattle.dsc_base.specs.declared.fault.SetFault.{SetFault}
use Rattle.cache_layout.specs.Layouts.{Laid}
use Rattle.std.specs.List.{flat_map}
use Rattle.std.proofs.lemmas.List.{length-map, get_or-map, get_or_default, same_lists, map-append}
use Rattle.dsc_base.specs.Numbers.{little_bytes}
use Rattle.macho_image.specs.Records.{Img}
use Rattle.macho_image.specs.declared.place.Moved.{Moved}
use Rattle.export_trie.specs.declared.export.Export.{Export}
use Rattle.nlist_table.specs.Symbols.{Tabs}
use Rattle.cache_layout.specs.Places.{numbered}
use Rattle.cache_layout.proofs.NumberedLaws.{numbered-get, length-numbered}
use Rattle.cache_layout.proofs.RoomLaws.{paged-covers}
use Rattle.linkedit_merge.specs.declared.sizes.SizeFault.{SizeFault}
use Rattle.linkedit_merge.specs.declared.sizes.SizeFault.TheVariants.{TooLarge, Memory}
use Rattle.linkedit_merge.specs.Indices.{pool_len}
use Rattle.linkedit_merge.specs.Linkedit.{streams_in, all_indirect, pool_of, tables_in, parts_of, linkedit_size, linkedit_start, too_large, merge_break, linkedit_of}
use Rattle.linkedit_merge.specs.Parts.{end_with, end_behind, lens_of}
use Rattle.linkedit_merge.specs.Pool.{pooled_behind, symbol_names}
use Rattle.linkedit_merge.specs.Shares.{Share, moved_symbol, share_of, share_at, shares_of}
use Rattle.linkedit_merge.specs.Sizes.{Exceeds, refusal_of, moved_at, own_at, all_streams, symbols_size, indirect_size, whole_size}
use Rattle.linkedit_merge.proofs.ListLaws.{flat_map-map, flat_within}
use Rattle.linkedit_merge.proofs.PartLaws.{end-append, length-joined}
use Rattle.linkedit_merge.proofs.SizeLaws.{end_with-covers}
use Rattle.linkedit_merge.proofs.ShareLaws.{many_shares, flats_by_tables, long_symbols, long_indirect, indirect_all}

-- ---- streams

-- the streams of a share are those that are put
share_streams : (images : List Img) (tables : List Tabs) (moves : List (List Moved)) (k : ℕ) (image : Img) → k < length images → image ≡ get_or images k image
    → streams_in (share_at tables moves k image) ≡ own_at (numbered (moved_at moves) images) k image
unfolding share_of
share_streams images tables moves k image within is =
    ap (λ (es : List Export). own_at (es ∷ []) 0 image) (sym (numbered-get (moved_at moves) images k image [] within is))

streams_same : (images : List Img) (tables : List Tabs) (moves : List (List Moved)) → map streams_in (shares_of images tables moves) ≡ numbered (own_at (numbered (moved_at moves) images)) images
unfolding shares_of
streams_same [] tables moves = refl
streams_same (i ∷ is) tables moves =
    let images = i ∷ is in
    let exports = numbered (moved_at moves) images in
    let shares = shares_of images tables moves in
    let many : length (map streams_in shares) ≡ length images = length-map shares streams_in ∙ many_shares images tables moves in
    same_lists (map streams_in shares) (numbered (own_at exports) images) (many ∙ sym (length-numbered (own_at exports) images))
    (λ k d within.
    let image = get_or images k i in
    let lt : k < length images = omega (arith, many) in
    let is : image ≡ get_or images k image = get_or_default images k i image lt in
    let share = share_at tables moves k image in
    get_or-map streams_in shares k share d (omega (arith, many_shares images tables moves))
    ∙ (ap streams_in (numbered-get (share_at tables moves) images k image share lt is)
    ∙ (share_streams images tables moves k image lt is
    ∙ sym (numbered-get (own_at exports) images k image d lt is))))

pub streams_are : (images : List Img) (tables : List Tabs) (moves : List (List Moved)) → flat_map streams_in (shares_of images tables moves) ≡ all_streams (numbered (moved_at moves) images) images
streams_are images tables moves =
    sym (flat_map-map (λ (parts : List (List ℕ)). parts) streams_in (shares_of images tables moves))
    ∙ ap (λ (l : List (List (List ℕ))). flat_map (λ (parts : List (List ℕ)). parts) l) (streams_same images tables moves)

-- ---- names

names_kept : (image : Img) (t : Tabs) (m : List Moved) → flat_map symbol_names (share_of image t m).tables.symbols ≡ flat_map symbol_names t.symbols
unfolding share_of
names_kept image t m = flat_map-map symbol_names (moved_symbol image m) t.symbols

pub names_are : (images : List Img) (tables : List Tabs) (moves : List (List Moved)) → length tables ≡ length images
    → pool_of (shares_of images tables moves) ≡ pooled_behind [] (flat_map symbol_names (flat_map (λ (t : Tabs). t.symbols) tables))
names_are images tables moves many =
    ap (λ (l : List (List ℕ)). pooled_behind [] l)
    (flat_within symbol_names (λ (share : Share). share.tables.symbols) (shares_of images tables moves)
    ∙ (flats_by_tables (λ (share : Share). flat_map symbol_names share.tables.symbols) (λ (t : Tabs). flat_map symbol_names t.symbols) images tables moves many names_kept
    ∙ sym (flat_within symbol_names (λ (t : Tabs). t.symbols) tables)))

-- ---- parts and sizes

pub parts_are : (images : List Img) (tables : List Tabs) (moves : List (List Moved)) (exports : List (List Export)) (names : List (List ℕ)) → exports ≡ numbered (moved_at moves) images → names ≡ pool_of (shares_of images tables moves)
    → parts_of (shares_of images tables moves) ≡ all_streams exports images ++ tables_in names (shares_of images tables moves)
unfolding parts_of
parts_are images tables moves exports names exports_is names_is =
    ap₂ (λ (l : List (List ℕ)) (ns : List (List ℕ)). l ++ tables_in ns (shares_of images tables moves))
    (streams_are images tables moves ∙ ap (λ (es : List (List Export)). all_streams es images) (sym exports_is)) (sym names_is)

pub size_is : (images : List Img) (tables : List Tabs) (moves : List (List Moved)) (exports : List (List Export)) (names : List (List ℕ)) → length tables ≡ length images → exports ≡ numbered (moved_at moves) images → names ≡ pool_of (shares_of images tables moves)
    → linkedit_size (shares_of images tables moves) ≡ whole_size exports images tables (pool_len names)
unfolding linkedit_size whole_size
size_is images tables moves exports names many exports_is names_is =
    let shares = shares_of images tables moves in
    let own = all_streams exports images in
    let indirect : length (flat_map (little_bytes 4) (all_indirect shares)) ≡ indirect_size tables =
    ap (λ (l : List ℕ). length (flat_map (little_bytes 4) l)) (indirect_all images tables moves many) ∙ long_indirect tables in
    ap (λ (l : List (List ℕ)). end_behind 0 (lens_of l)) (parts_are images tables moves exports names exports_is names_is)
    ∙ (ap (λ (l : List ℕ). end_behind 0 l) (map-append (λ (part : List ℕ). length part) own (tables_in names shares))
    ∙ (end-append 0 (lens_of own) (lens_of (tables_in names shares))
    ∙ ap₂ (λ (m n : ℕ). end_behind (end_behind 0 (lens_of own)) (m ∷ n ∷ pool_len names ∷ [])) (long_symbols names images tables moves many) indirect))

-- the moved exports, passed on
pub passed_on : (passed given : List (Vec Export Global)) (exports : List (List Export)) → passed ≡ given → map (λ e. e.items) given ≡ exports → map (λ e. e.items) passed ≡ exports
passed_on passed given exports same moved = ap (λ (l : List (Vec Export Global)). map (λ (e : Vec Export Global). e.items) l) same ∙ moved

pub one_each : (passed given : List (Vec Export Global)) (images : List Img) (moves : List (List Moved)) → passed ≡ given → map (λ e. e.items) given ≡ numbered (moved_at moves) images → length passed ≡ length images
one_each passed given images moves same moved =
    sym (length-map passed (λ (e : Vec Export Global). e.items))
    ∙ (ap (λ (l : List (List Export)). length l) (passed_on passed given (numbered (moved_at moves) images) same moved) ∙ length-numbered (moved_at moves) images)

-- what is measured with a pool of the names is the size
pub measured : (images : List Img) (tables : List Tabs) (moves : List (List Moved)) (exports : List (List Export)) (names : List (List ℕ)) (pool whole : ℕ) → length tables ≡ length images → exports ≡ numbered (moved_at moves) images
    → names ≡ pooled_behind [] (flat_map symbol_names (flat_map (λ (t : Tabs). t.symbols) tables)) → pool ≡ pool_len names → whole ≡ whole_size exports images tables pool → whole ≡ linkedit_size (shares_of images tables moves)
measured images tables moves exports names pool whole many exports_is names_is pool_is whole_is =
    whole_is
    ∙ (ap (λ (n : ℕ). whole_size exports images tables n) pool_is ∙ sym (size_is images tables moves exports names many exports_is (names_is ∙ sym (names_are images tables moves many))))

-- ---- the refusal

pub breaks_where : (layout : Laid) (slide : ℕ) (shares : List Share) → span_limit < linkedit_start layout slide + paged (linkedit_size shares) → merge_break layout slide shares ≡ Some too_large
unfolding merge_break
breaks_where layout slide shares above =
    cond-true (nat_lt span_limit (linkedit_start layout slide + paged (linkedit_size shares))) (Some too_large) None (lt-ltb span_limit (linkedit_start layout slide + paged (linkedit_size shares)) above)

-- slide information that is too long alone
pub slide_breaks : (layout : Laid) (slide : ℕ) (shares : List Share) → span_limit < slide → merge_break layout slide shares ≡ Some too_large
unfolding linkedit_start paged
slide_breaks layout slide shares above = breaks_where layout slide shares (omega (arith, above))

pub fits_where : (layout : Laid) (slide : ℕ) (shares : List Share) → linkedit_start layout slide + paged (linkedit_size shares) ≤ span_limit → merge_break layout slide shares ≡ None
unfolding merge_break
fits_where layout slide shares below =
    cond-false (nat_lt span_limit (linkedit_start layout slide + paged (linkedit_size shares))) (Some too_large) None (le-ltb span_limit (linkedit_start layout slide + paged (linkedit_size shares)) below)

-- and the other way
pub length-linkedit_of : (shares : List Share) → length (linkedit_of shares) ≡ linkedit_size shares
unfolding linkedit_of linkedit_size
length-linkedit_of shares = length-joined [] (parts_of shares)

pub unbroken_fits : (layout : Laid) (slide : ℕ) (shares : List Share) → merge_break layout slide shares ≡ None → linkedit_start layout slide + paged (linkedit_size shares) ≤ span_limit
unfolding merge_break
unbroken_fits layout slide shares none = ltb-false span_limit (linkedit_start layout slide + paged (linkedit_size shares)) (clear (nat_lt span_limit (linkedit_start layout slide + paged (linkedit_size shares))) none)
  where
    clear : (b : Bool) → if◌then◌else◌ {A = Option Break} b (Some too_large) None ≡ None → b ≡ false
    clear true is = absurd (cc)
    clear false is = refl

refused : (layout : Laid) (slide : ℕ) (shares : List Share) (size : ℕ) (fault : SizeFault) → size ≤ linkedit_size shares → Exceeds span_limit size fault → IsSetRefusal (merge_break layout slide shares) (refusal_of fault)
refused layout slide shares size TooLarge below h = breaks_where layout slide shares (omega (arith, h, paged-covers (linkedit_size shares)))
refused layout slide shares size Memory below h = tt

-- the exit of a `?` at a size that exceeds the limit, or for want of memory
pub refused_exit : {X : Type 0} (layout : Laid) (slide : ℕ) (shares : List Share) (size : ℕ) (r : Result X SetFault) (fault : SizeFault) → size ≤ linkedit_size shares → IsErrAnd r (λ g. g ≡ refusal_of fault) → Exceeds span_limit size fault
    → RefusesSet (merge_break layout slide shares) r
refused_exit layout slide shares size (Ok x) fault below is h = absurd is
refused_exit layout slide shares size (Err g) fault below is h = subst (λ (f : SetFault). IsSetRefusal (merge_break layout slide shares) f) (sym is) (refused layout slide shares size fault below h)

-- the pool is a part
pool_below : (before : ℕ) (a b pool : ℕ) → pool ≤ end_behind before (a ∷ b ∷ pool ∷ [])
unfolding end_behind
pool_below before a b pool = end_with-covers (end_with (end_with before a) b) pool

pub pool_within : (exports : List (List Export)) (images : List Img) (tables : List Tabs) (pool : ℕ) → pool ≤ whole_size exports images tables pool
unfolding whole_size
pool_within exports images tables pool = pool_below (end_behind 0 (lens_of (all_streams exports images))) (symbols_size tables) (indirect_size tables) pool
