-- The file of an image from its parts.
use Rattle.std.proofs.Common.{◌≡◌, ◌≤◌, ℕ, ◌+◌, ◌%◌, List, [], ◌++◌, length, not, filter, take, drop, sym, ap, ap₂, ◌∙◌, arith}
use Rattle.std.specs.List.{flat_map}
use Rattle.std.proofs.lemmas.List.{drop-append-le, append-nil, drop_all, take_all}
use Rattle.dsc_base.specs.declared.fault.Span.{Span}
use Rattle.macho_image.specs.Records.{Seg, Img}
use Rattle.macho_image.specs.Rules.{is_linkedit_segment}
use Rattle.macho_image.specs.declared.place.Location.{Location}
use Rattle.macho_image.specs.declared.place.Moved.{Moved}
use Rattle.macho_edit.specs.Cached.{standalone_bytes}
use Rattle.macho_edit.specs.declared.spots.LinkSpots.{LinkSpots}
use Rattle.nlist_table.specs.Symbols.{Tabs, tables_of}
use Rattle.linkedit_merge.specs.Indices.{pool_len}
use Rattle.linkedit_merge.specs.Parts.{joined_behind, lens_of, spans_behind}
use Rattle.extractor.specs.declared.linkedit.OwnParts.{OwnParts}
use Rattle.extractor.specs.ExtractOf.{linkedit_parts, linkedit_of, linkedit_limit, bodies_of, page_bytes, body_bytes, moves_from, spots_of, header_of, file_of, rebase_stream}
use Rattle.extractor.specs.Files.{AreOwnParts, AreFew}
use Rattle.linkedit_merge.specs.Indices.{names_of}
use Rattle.extractor.specs.Prepared.{own_parts, names_in}
use Rattle.extractor.proofs.BodyLaws.{length-pages}
use Rattle.extractor.proofs.JoinedLaws.{joined_base, spans_base}
use Rattle.extractor.proofs.PreparedLaws.{parts_are, all_below, size_is}

pub whole_base : (i : Img) → length (body_bytes i) % 8 ≡ 0
unfolding body_bytes
whole_base i = let whole = length-pages (bodies_of i) in omega (arith, whole)

-- the parts that were made ready are those of the image
pub ready_parts : (i : Img) (words : List Location) (p : OwnParts) → AreOwnParts i words p → own_parts i p.rebase.items p.tables (names_of p.pool) ≡ linkedit_parts i words
ready_parts i words p are =
    ap₂ (λ (r : List ℕ) (t : Tabs). own_parts i r t (names_of p.pool)) are.rebase are.tables
    ∙ (ap (λ (ns : List (List ℕ)). own_parts i (rebase_stream i words) (tables_of i) ns) are.names ∙ sym (parts_are i words))

pub ready_few : (i : Img) (words : List Location) (p : OwnParts) → AreOwnParts i words p → length (linkedit_of i words) ≤ linkedit_limit → AreFew p.tables
ready_few i words p are small =
    let t = tables_of i in
    let below = all_below i (length (rebase_stream i words)) (length t.symbols) (length t.indirect) (pool_len (names_in t)) in
    let size = size_is i words in
    let symbols = ap (λ (u : Tabs). length u.symbols) are.tables in
    let indirect = ap (λ (u : Tabs). length u.indirect) are.tables in
    record {
      symbols = omega (arith, below.symbols_below, size, symbols, small);
      indirect = omega (arith, below.indirect_below, size, indirect, small);
    }

-- a linkedit put behind the bodies
pub behind_bodies : (i : Img) (words : List Location) (parts : List (List ℕ)) (out after : List ℕ) → parts ≡ linkedit_parts i words → out ≡ body_bytes i → after ≡ joined_behind out parts → after ≡ body_bytes i ++ linkedit_of i words
unfolding linkedit_of
behind_bodies i words parts out after are out_is put =
    put ∙ (ap₂ (λ (o : List ℕ) (ps : List (List ℕ)). joined_behind o ps) (out_is ∙ sym (append-nil (body_bytes i))) are ∙ joined_base (body_bytes i) [] (linkedit_parts i words) (whole_base i))

pub spans_there : (i : Img) (words : List Location) (parts : List (List ℕ)) (out : List ℕ) (spans : List Span) → parts ≡ linkedit_parts i words → out ≡ body_bytes i → spans ≡ spans_behind 0 (length out) (lens_of parts)
    → spans ≡ spans_behind (length (body_bytes i)) 0 (lens_of (linkedit_parts i words))
spans_there i words parts out spans are out_is put =
    let none : length (body_bytes i) ≡ length (body_bytes i) + 0 = omega arith in
    put ∙ (ap₂ (λ (o : List ℕ) (ps : List (List ℕ)). spans_behind 0 (length o) (lens_of ps)) out_is are
    ∙ (ap (λ (n : ℕ). spans_behind 0 n (lens_of (linkedit_parts i words))) none ∙ spans_base (length (body_bytes i)) 0 (lens_of (linkedit_parts i words)) (whole_base i)))

-- what a slice of a vector's bytes leaves in the vector
pub written_back : (old all new : List ℕ) (len : ℕ) → all ≡ old → length all ≡ len → length new ≡ length all → take len (new ++ drop (length new) old) ≡ new
written_back old all new len same long kept =
    let size = ap (λ (l : List ℕ). length l) same in
    ap (λ (l : List ℕ). take len (new ++ l)) (drop_all (length new) old (omega (arith, kept, size)))
    ∙ (ap (λ (l : List ℕ). take len l) (append-nil new) ∙ take_all len new (omega (arith, long, kept)))

-- and the header in front
pub with_header : (k : ℕ) (i : Img) (words : List Location) (header out file : List ℕ) → header ≡ header_of k i words → out ≡ body_bytes i ++ linkedit_of i words → length header ≤ length (body_bytes i) → file ≡ header ++ drop (length header) out
    → file ≡ file_of k i words
unfolding file_of
with_header k i words header out file header_is out_is fits is =
    is ∙ (ap (λ (o : List ℕ). header ++ drop (length header) o) out_is
    ∙ (ap (λ (l : List ℕ). header ++ l) (drop-append-le (length header) (body_bytes i) (linkedit_of i words) fits)
    ∙ ap (λ (h : List ℕ). h ++ (drop (length h) (body_bytes i) ++ linkedit_of i words)) header_is))

-- the pages of its segments put into nothing
pub bodies_put : (i : Img) (old out : List ℕ) (ss : List Seg) → old ≡ [] → ss ≡ i.segments → out ≡ old ++ flat_map page_bytes (filter (λ (s : Seg). not (is_linkedit_segment s)) ss) → out ≡ body_bytes i
unfolding body_bytes
bodies_put i old out ss none are put = put ∙ ap₂ (λ (o : List ℕ) (l : List Seg). o ++ flat_map page_bytes (filter (λ (s : Seg). not (is_linkedit_segment s)) l)) none are

-- a header by the moves and spots that were made
pub header_is : (k : ℕ) (i : Img) (words : List Location) (header : List ℕ) (moves : List Moved) (spots : LinkSpots) → moves ≡ moves_from 0 i.segments → spots ≡ spots_of k i words → header ≡ standalone_bytes i moves spots → header ≡ header_of k i words
unfolding header_of
header_is k i words header moves spots moves_are spots_are is = is ∙ ap₂ (λ (ms : List Moved) (s : LinkSpots). standalone_bytes i ms s) moves_are spots_are
