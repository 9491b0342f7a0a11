-- The spots that are told as the parts are put are those of the shares.
use Rattle.std.proofs.Common.{◌≡◌, ◌<◌, ℕ, zero, suc, ◌+◌, ◌*◌, List, [], ◌∷◌, ◌++◌, length, take, get_or, refl, sym, ap, ◌∙◌, arith}
use Rattle.std.specs.List.{flat_map, sum, sum_by}
use Rattle.std.proofs.lemmas.List.{length-append, get_or_append_left, get_or-append-add, get_or_default, get_or_read, same_lists, nil_from_length, take-map}
use Rattle.std.proofs.lemmas.List.Sums.{sum-map}
use Rattle.dsc_base.specs.Region.{paged}
use Rattle.dsc_base.specs.declared.fault.Span.{Span}
use Rattle.macho_edit.specs.declared.spots.LinkSpots.{LinkSpots}
use Rattle.macho_image.specs.Records.{Img}
use Rattle.macho_image.specs.declared.place.Moved.{Moved}
use Rattle.nlist_table.specs.Symbols.{Tabs}
use Rattle.cache_layout.specs.Places.{moved_to, numbered}
use Rattle.cache_layout.proofs.NumberedLaws.{numbered-get, length-numbered}
use Rattle.linkedit_merge.specs.declared.spots.Frame.{Frame}
use Rattle.linkedit_merge.specs.declared.streams.StreamSpots.{StreamSpots}
use Rattle.linkedit_merge.specs.Linkedit.{parts_of, within, symbols_len, indirect_len, linkedit_size, spots_in, spots_of}
use Rattle.linkedit_merge.specs.Parts.{lens_of, span_of, spans_behind}
use Rattle.linkedit_merge.specs.Shares.{Share, no_tables, share_of, shares_of}
use Rattle.linkedit_merge.specs.Sizes.{spans_of, symbols_size, indirect_size}
use Rattle.linkedit_merge.specs.Spots.{image_spots, spots_from}
use Rattle.linkedit_merge.proofs.PartLaws.{span-at, length-spans}
use Rattle.linkedit_merge.proofs.ShareLaws.{IsShare, many_shares, share_there, by_tables, symbols_kept, indirect_kept}

-- ---- the ranges of five parts for each image

pub many_spans : (ss : List StreamSpots) → length (flat_map spans_of ss) ≡ 5 * length ss
many_spans [] = refl
many_spans (s ∷ ss) = omega (arith, many_spans ss)

-- part j of image k
five_at : (ss : List StreamSpots) (k j : ℕ) (s : StreamSpots) (d : Span) → k < length ss → get_or ss k s ≡ s → j < 5 → get_or (flat_map spans_of ss) (5 * k + j) d ≡ get_or (spans_of s) j d
five_at [] k j s d none is few = absurd (omega arith)
five_at (t ∷ ss) zero j s d some is few =
    let first : 5 * zero + j ≡ j = omega arith in
    let none : List Span = spans_of t in
    ap (λ (n : ℕ). get_or (none ++ flat_map spans_of ss) n d) first
    ∙ (get_or_append_left none (flat_map spans_of ss) d j few ∙ ap (λ (x : StreamSpots). get_or (spans_of x) j d) is)
five_at (t ∷ ss) (suc k) j s d some is few =
    let next : 5 * suc k + j ≡ 5 + (5 * k + j) = omega arith in
    ap (λ (n : ℕ). get_or (spans_of t ++ flat_map spans_of ss) n d) next
    ∙ (get_or-append-add (spans_of t) (flat_map spans_of ss) (5 * k + j) d
    ∙ five_at ss k j s d (omega arith) is few)

-- what is known of the ranges of all parts
pub record AreSpans (start : ℕ) (lens : List ℕ) (ss : List StreamSpots) (x y z : Span) : Type 0 where
  pub all : flat_map spans_of ss ++ (x ∷ y ∷ z ∷ []) ≡ spans_behind start 0 lens

span_here : (start : ℕ) (lens : List ℕ) (ss : List StreamSpots) (x y z : Span) (n : ℕ) (d : Span) → AreSpans start lens ss x y z → n < 5 * length ss + 3
    → get_or (flat_map spans_of ss ++ (x ∷ y ∷ z ∷ [])) n d ≡ span_of start lens n
span_here start lens ss x y z n d h within =
    let long : length lens ≡ 5 * length ss + 3 =
    omega (arith, length-spans start 0 lens, ap (λ (l : List Span). length l) h.all, length-append (flat_map spans_of ss) (x ∷ y ∷ z ∷ []), many_spans ss) in
    ap (λ (l : List Span). get_or l n d) h.all ∙ span-at start lens n d (omega arith)

pub own_span : (start : ℕ) (lens : List ℕ) (ss : List StreamSpots) (x y z : Span) (k j : ℕ) (s : StreamSpots) (d : Span) → AreSpans start lens ss x y z → k < length ss → get_or ss k s ≡ s → j < 5
    → get_or (spans_of s) j d ≡ span_of start lens (5 * k + j)
own_span start lens ss x y z k j s d h some is few =
    sym (five_at ss k j s d some is few)
    ∙ (sym (get_or_append_left (flat_map spans_of ss) (x ∷ y ∷ z ∷ []) d (5 * k + j) (omega (arith, many_spans ss)))
    ∙ span_here start lens ss x y z (5 * k + j) d h (omega arith))

pub shared_span : (start : ℕ) (lens : List ℕ) (ss : List StreamSpots) (x y z : Span) (j : ℕ) (d : Span) → AreSpans start lens ss x y z → j < 3
    → get_or (x ∷ y ∷ z ∷ []) j d ≡ span_of start lens (5 * length ss + j)
shared_span start lens ss x y z j d h few =
    sym (get_or-append-add (flat_map spans_of ss) (x ∷ y ∷ z ∷ []) j d)
    ∙ (ap (λ (n : ℕ). get_or (flat_map spans_of ss ++ (x ∷ y ∷ z ∷ [])) (n + j) d) (many_spans ss)
    ∙ span_here start lens ss x y z (5 * length ss + j) d h (omega arith))

-- ---- the entries before an image

before_is : (f : Share → ℕ) (g : Tabs → ℕ) (images : List Img) (tables : List Tabs) (moves : List (List Moved)) (k : ℕ) → length tables ≡ length images
    → ((image : Img) (t : Tabs) (m : List Moved) → f (share_of image t m) ≡ g t) → sum_by g (take k tables) ≡ sum_by f (take k (shares_of images tables moves))
before_is f g images tables moves k many same =
    sym (sum-map g (take k tables))
    ∙ (ap (λ (l : List ℕ). sum l) (sym (take-map g k tables) ∙ (ap (λ (l : List ℕ). take k l) (sym (by_tables f g images tables moves many same)) ∙ take-map f k (shares_of images tables moves)))
    ∙ sum-map f (take k (shares_of images tables moves)))

groups_kept : (image : Img) (t : Tabs) (m : List Moved) → (share_of image t m).tables.groups ≡ t.groups
unfolding share_of
groups_kept image t m = refl

-- ---- one image's spots

fields : (size size' : ℕ) (place place' : ℕ) (s : StreamSpots) (a b c d e x x' y y' z z' : Span) (gs gs' : List ℕ)
    → place ≡ place' → size ≡ size' → s.bind ≡ a → s.lazy ≡ b → s.exports ≡ c → s.function_starts ≡ d → s.data_in_code ≡ e → x ≡ x' → y ≡ y' → z ≡ z' → gs ≡ gs'
    → ◌≡◌ {A = LinkSpots}
    (record { linkedit = moved_to place; vmsize = paged size; filesize = size; rebase = record { at = 0; len = 0 }; bind = s.bind; lazy = s.lazy; exports = s.exports; function_starts = s.function_starts; data_in_code = s.data_in_code; symbols = x; indirect = y; strings = z; groups = gs })
    (record { linkedit = moved_to place'; vmsize = paged size'; filesize = size'; rebase = record { at = 0; len = 0 }; bind = a; lazy = b; exports = c; function_starts = d; data_in_code = e; symbols = x'; indirect = y'; strings = z'; groups = gs' })
fields size size' place place' s a b c d e x x' y y' z z' gs gs' p q f g h i j k l m n = cc

-- what is known of the frame
pub record IsFrame (start : ℕ) (images : List Img) (tables : List Tabs) (moves : List (List Moved)) (ss : List StreamSpots) (frame : Frame) : Type 0 where
  pub many : length ss ≡ length images
  pub tables_many : length tables ≡ length images
  pub start_is : frame.start ≡ start
  pub size_is : frame.size ≡ linkedit_size (shares_of images tables moves)
  pub spans : AreSpans start (lens_of (parts_of (shares_of images tables moves))) ss frame.symbols frame.indirect frame.strings

spots_one : (start : ℕ) (images : List Img) (tables : List Tabs) (moves : List (List Moved)) (ss : List StreamSpots) (frame : Frame) (k : ℕ) (s : StreamSpots) (image : Img) (t : Tabs) (m : List Moved)
    → IsFrame start images tables moves ss frame → get_or ss k s ≡ s → IsShare images tables moves k image t m
    → image_spots frame s (symbols_size (take k tables)) (indirect_size (take k tables)) t ≡ spots_in start (shares_of images tables moves) k (share_of image t m)
unfolding image_spots spots_in
spots_one start images tables moves ss frame k s image t m h is own =
    let shares = shares_of images tables moves in
    let lens = lens_of (parts_of shares) in
    let nowhere : Span = record { at = 0; len = 0 } in
    let within_k : k < length ss = (let lt = own.within in omega (arith, h.many)) in
    let all : 5 * length ss ≡ 5 * length shares = omega (arith, h.many, many_shares images tables moves) in
    let at : (j : ℕ) → j < 5 → get_or (spans_of s) j nowhere ≡ span_of start lens (5 * k + j) = λ j few. own_span start lens ss frame.symbols frame.indirect frame.strings k j s nowhere h.spans within_k is few in
    let shared : (j : ℕ) → j < 3 → get_or (frame.symbols ∷ frame.indirect ∷ frame.strings ∷ []) j nowhere ≡ span_of start lens (5 * length shares + j) =
    λ j few. shared_span start lens ss frame.symbols frame.indirect frame.strings j nowhere h.spans few ∙ ap (λ (n : ℕ). span_of start lens (n + j)) all in
    let zero_left : (n : ℕ) → n + 0 ≡ n = λ n. omega arith in
    fields frame.size (linkedit_size shares) frame.start start s
    (span_of start lens (5 * k)) (span_of start lens (5 * k + 1)) (span_of start lens (5 * k + 2)) (span_of start lens (5 * k + 3)) (span_of start lens (5 * k + 4))
    (within frame.symbols (symbols_size (take k tables)) (16 * length t.symbols)) (within (span_of start lens (5 * length shares)) (sum_by symbols_len (take k shares)) (symbols_len (share_of image t m)))
    (within frame.indirect (indirect_size (take k tables)) (4 * length t.indirect)) (within (span_of start lens (5 * length shares + 1)) (sum_by indirect_len (take k shares)) (indirect_len (share_of image t m)))
    frame.strings (span_of start lens (5 * length shares + 2)) t.groups (share_of image t m).tables.groups
    h.start_is h.size_is (at 0 (omega arith) ∙ ap (λ (n : ℕ). span_of start lens n) (zero_left (5 * k))) (at 1 (omega arith)) (at 2 (omega arith)) (at 3 (omega arith)) (at 4 (omega arith))
    (within_same frame.symbols (span_of start lens (5 * length shares)) (symbols_size (take k tables)) (sum_by symbols_len (take k shares)) (16 * length t.symbols) (symbols_len (share_of image t m))
    (shared 0 (omega arith) ∙ ap (λ (n : ℕ). span_of start lens n) (zero_left (5 * length shares)))
    (before_is symbols_len (λ (x : Tabs). 16 * length x.symbols) images tables moves k h.tables_many symbols_kept) (sym (symbols_kept image t m)))
    (within_same frame.indirect (span_of start lens (5 * length shares + 1)) (indirect_size (take k tables)) (sum_by indirect_len (take k shares)) (4 * length t.indirect) (indirect_len (share_of image t m))
    (shared 1 (omega arith))
    (before_is indirect_len (λ (x : Tabs). 4 * length x.indirect) images tables moves k h.tables_many indirect_kept) (sym (indirect_kept image t m)))
    (shared 2 (omega arith)) (sym (groups_kept image t m))
  where
    within_same : (a a' : Span) (b b' c c' : ℕ) → a ≡ a' → b ≡ b' → c ≡ c' → within a b c ≡ within a' b' c'
    within_same a a' b b' c c' p q r = cc

-- ---- the spots of all images

spots_at : (start : ℕ) (images : List Img) (tables : List Tabs) (moves : List (List Moved)) (ss : List StreamSpots) (frame : Frame) (k : ℕ) (s : StreamSpots) (image : Img) (t : Tabs) (m : List Moved) (d : LinkSpots)
    → IsFrame start images tables moves ss frame → get_or ss k s ≡ s → IsShare images tables moves k image t m
    → get_or (numbered (spots_from frame tables) ss) k d ≡ get_or (spots_of start (shares_of images tables moves)) k d
unfolding spots_of
spots_at start images tables moves ss frame k s image t m d h is own =
    let shares = shares_of images tables moves in
    let share = share_of image t m in
    numbered-get (spots_from frame tables) ss k s d (let lt = own.within in omega (arith, h.many)) (sym is)
    ∙ (ap (λ (x : Tabs). image_spots frame s (symbols_size (take k tables)) (indirect_size (take k tables)) x) (sym (get_or_read tables k t own.tables_within own.tables_is no_tables))
    ∙ (spots_one start images tables moves ss frame k s image t m h is own
    ∙ sym (numbered-get (spots_in start shares) shares k share d (let lt = own.within in omega (arith, many_shares images tables moves)) (sym (share_there images tables moves k image t m share own)))))

many_spots : (start : ℕ) (shares : List Share) → length (spots_of start shares) ≡ length shares
unfolding spots_of
many_spots start shares = length-numbered (spots_in start shares) shares

pub spots_are : (start : ℕ) (images : List Img) (tables : List Tabs) (moves : List (List Moved)) (ss : List StreamSpots) (frame : Frame) → IsFrame start images tables moves ss frame
    → numbered (spots_from frame tables) ss ≡ spots_of start (shares_of images tables moves)
spots_are start [] tables moves ss frame h =
    ap (λ (l : List StreamSpots). numbered (spots_from frame tables) l) (nil_from_length ss h.many)
    ∙ sym (nil_from_length (spots_of start (shares_of [] tables moves)) (many_spots start (shares_of [] tables moves) ∙ many_shares [] tables moves))
spots_are start (i ∷ is) tables moves ss frame h =
    let images = i ∷ is in
    let shares = shares_of images tables moves in
    let one = spots_of start shares in
    let long : length (numbered (spots_from frame tables) ss) ≡ length ss = length-numbered (spots_from frame tables) ss in
    let many : length one ≡ length images = many_spots start shares ∙ many_shares images tables moves in
    same_lists (numbered (spots_from frame tables) ss) one (long ∙ (h.many ∙ sym many))
    (λ k d within.
    let lt : k < length images = omega (arith, long, h.many) in
    let image = get_or images k i in
    let t = get_or tables k no_tables in
    let nowhere : Span = record { at = 0; len = 0 } in
    let none : StreamSpots = record { bind = nowhere; lazy = nowhere; exports = nowhere; function_starts = nowhere; data_in_code = nowhere } in
    let s = get_or ss k none in
    spots_at start images tables moves ss frame k s image t (get_or moves k []) d h (sym (get_or_default ss k none s (omega (arith, h.many))))
    (record {
      within = lt;
      image_is = get_or_default images k i image lt;
      tables_within = omega (arith, h.tables_many);
      tables_is = get_or_default tables k no_tables t (omega (arith, h.tables_many));
      moves_is = refl;
    }))
