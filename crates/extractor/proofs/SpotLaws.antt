-- Where the parts of a linkedit of its own stand: each range is low, and tables have whole entries.
use Rattle.std.proofs.Common.{◌≡◌, ◌<◌, ℕ, ◌+◌, ◌*◌, ◌/◌, Bool, true, false, List, [], length, get_or, refl, sym, ap, ap₂, ◌∙◌, subst, arith, if◌then◌else◌}
use Rattle.std.specs.Prelude.{nat_eq, slice_index}
use Rattle.std.proofs.lemmas.Bool.{eqb-true}
use Rattle.dsc_base.specs.Region.{paged}
use Rattle.dsc_base.specs.declared.fault.Span.{Span}
use Rattle.macho_image.specs.Records.{Img}
use Rattle.macho_image.specs.Breaks.{IsSound}
use Rattle.macho_image.specs.declared.place.Location.{Location}
use Rattle.macho_image.specs.declared.place.Moved.{Moved}
use Rattle.macho_edit.specs.declared.spots.LinkSpots.{LinkSpots}
use Rattle.macho_edit.specs.Conditions.{IsLow, CanMove}
use Rattle.nlist_table.specs.Symbols.{tables_of}
use Rattle.linkedit_merge.specs.Parts.{lens_of, span_behind, spans_behind, span_of}
use Rattle.linkedit_merge.specs.Indices.{pool_len}
use Rattle.linkedit_merge.proofs.PartLaws.{length-joined, span-at}
use Rattle.linkedit_merge.proofs.SpanLaws.{IsWithin, span_within}
use Rattle.extractor.specs.declared.parts.PartSpans.{PartSpans}
use Rattle.extractor.specs.ExtractOf.{rebase_stream, linkedit_parts, linkedit_of, linkedit_address, moves_from, body_bytes, spots_of}
use Rattle.extractor.specs.Files.{CanExtract, part_spans, own_spots}
use Rattle.extractor.specs.Prepared.{names_in, own_lens}
use Rattle.extractor.proofs.BodyLaws.{length-moves, end_low, bodies_fit, bodies_long}
use Rattle.extractor.proofs.PreparedLaws.{parts_are, lens_are}

-- the lengths of the nine parts
pub lens_is : (i : Img) (words : List Location) → lens_of (linkedit_parts i words) ≡ own_lens i (length (rebase_stream i words)) (length (tables_of i).symbols) (length (tables_of i).indirect) (pool_len (names_in (tables_of i)))
lens_is i words =
    ap (λ (ps : List (List ℕ)). lens_of ps) (parts_are i words) ∙ lens_are i (rebase_stream i words) (tables_of i) (names_in (tables_of i))

pub nine : (i : Img) (words : List Location) → length (lens_of (linkedit_parts i words)) ≡ 9
nine i words = ap (λ (ls : List ℕ). length ls) (lens_is i words)

-- ---- the spots by the ranges that were noted

abbrev no_span : Span
no_span = record { at = 0; len = 0 }

same_spots : (m : Moved) (v f : ℕ) (g : List ℕ) (a b c d e h j k l a' b' c' d' e' h' j' k' l' : Span)
    → a ≡ a' → b ≡ b' → c ≡ c' → d ≡ d' → e ≡ e' → h ≡ h' → j ≡ j' → k ≡ k' → l ≡ l'
    → ◌≡◌ {A = LinkSpots} (record { linkedit = m; vmsize = v; filesize = f; rebase = a; bind = b; lazy = c; exports = d; function_starts = e; data_in_code = h; symbols = j; indirect = k; strings = l; groups = g })
    (record { linkedit = m; vmsize = v; filesize = f; rebase = a'; bind = b'; lazy = c'; exports = d'; function_starts = e'; data_in_code = h'; symbols = j'; indirect = k'; strings = l'; groups = g })
same_spots m v f g a b c d e h j k l a' b' c' d' e' h' j' k' l' p q r s t u w x y = cc

spots_by : (k start size : ℕ) (p : PartSpans) (groups : List ℕ) (i : Img) (words : List Location) → part_spans p ≡ spans_behind start 0 (lens_of (linkedit_parts i words)) → start ≡ length (body_bytes i) → size ≡ length (linkedit_of i words)
    → groups ≡ (tables_of i).groups → own_spots k start size p groups ≡ own_spots k (length (body_bytes i)) (length (linkedit_of i words)) p (tables_of i).groups
spots_by k start size p groups i words spans start_is size_is groups_are =
    ap₂ (λ (a b : ℕ). own_spots k a b p groups) start_is size_is ∙ ap (λ (g : List ℕ). own_spots k (length (body_bytes i)) (length (linkedit_of i words)) p g) groups_are

pub spots_are : (k start size : ℕ) (p : PartSpans) (groups : List ℕ) (i : Img) (words : List Location) → part_spans p ≡ spans_behind start 0 (lens_of (linkedit_parts i words)) → start ≡ length (body_bytes i) → size ≡ length (linkedit_of i words)
    → groups ≡ (tables_of i).groups → own_spots k start size p groups ≡ spots_of k i words
unfolding own_spots spots_of
spots_are k start size p groups i words spans start_is size_is groups_are =
    let lens = lens_of (linkedit_parts i words) in
    let from = length (body_bytes i) in
    let whole : part_spans p ≡ spans_behind (length (body_bytes i)) 0 (lens_of (linkedit_parts i words)) = spans ∙ ap (λ (n : ℕ). spans_behind n 0 (lens_of (linkedit_parts i words))) start_is in
    let here = λ (n : ℕ) (lt : n < 9). ap (λ (ss : List Span). get_or ss n no_span) whole ∙ span-at from lens n no_span (let e = nine i words in omega (arith, e, lt)) in
    spots_by k start size p groups i words spans start_is size_is groups_are
    ∙ same_spots (record { address = linkedit_address k; file = from }) (paged (length (linkedit_of i words))) (length (linkedit_of i words)) (tables_of i).groups
    p.streams.rebase p.streams.bind p.streams.lazy p.streams.exports p.streams.function_starts p.streams.data_in_code p.tables.symbols p.tables.indirect p.tables.strings
    (span_of from lens 0) (span_of from lens 1) (span_of from lens 2) (span_of from lens 3) (span_of from lens 4) (span_of from lens 5) (span_of from lens 6) (span_of from lens 7) (span_of from lens 8)
    (here 0 (omega arith)) (here 1 (omega arith)) (here 2 (omega arith)) (here 3 (omega arith)) (here 4 (omega arith)) (here 5 (omega arith)) (here 6 (omega arith)) (here 7 (omega arith)) (here 8 (omega arith))

-- ---- each range

pub part_within : (i : Img) (words : List Location) (n : ℕ) → n < 9 → IsWithin (length (body_bytes i)) (length (linkedit_of i words)) (span_of (length (body_bytes i)) (lens_of (linkedit_parts i words)) n)
unfolding linkedit_of
part_within i words n lt =
    subst (λ (size : ℕ). IsWithin (length (body_bytes i)) size (span_of (length (body_bytes i)) (lens_of (linkedit_parts i words)) n)) (sym (length-joined [] (linkedit_parts i words)))
    (span_within (length (body_bytes i)) (lens_of (linkedit_parts i words)) n (let e = nine i words in omega (arith, e, lt)))

len_by : (b : Bool) (at len : ℕ) → nat_eq len 0 ≡ b → (let s : Span = if b then record { at = 0; len = 0 } else record { at = at; len = len } in s.len) ≡ len
len_by true at len none = sym (eqb-true len 0 none)
len_by false at len some = refl

span_long : (start before len : ℕ) → (span_behind start before len).len ≡ len
unfolding span_behind
span_long start before len = len_by (nat_eq len 0) (start + (before + 7) / 8 * 8) len refl

pub part_long : (start : ℕ) (i : Img) (words : List Location) (n : ℕ)
    → (span_of start (lens_of (linkedit_parts i words)) n).len ≡ slice_index (own_lens i (length (rebase_stream i words)) (length (tables_of i).symbols) (length (tables_of i).indirect) (pool_len (names_in (tables_of i)))) n
part_long start i words n = span_long start _ (slice_index (lens_of (linkedit_parts i words)) n) ∙ ap (λ (ls : List ℕ). slice_index ls n) (lens_is i words)

-- ---- the header can be written

pub can_move : (k : ℕ) (i : Img) (words : List Location) → IsSound i → CanExtract i words → CanMove i (moves_from 0 i.segments) (spots_of k i words)
unfolding spots_of
can_move k i words sound ready =
    let from = length (body_bytes i) in
    let low : (n : ℕ) → n < 9 → IsLow (span_of from (lens_of (linkedit_parts i words)) n) =
    λ n lt. let inside = part_within i words n lt in omega (arith, inside.inside, bodies_long i sound ready.bodies, bodies_fit i sound ready.bodies, ready.linkedit) in
    record {
      one_each = length-moves 0 i.segments;
      low = end_low i sound ready.bodies;
      spans = record {
        rebase = low 0 (omega arith);
        bind = low 1 (omega arith);
        lazy = low 2 (omega arith);
        exports = low 3 (omega arith);
        function_starts = low 4 (omega arith);
        data_in_code = low 5 (omega arith);
        symbols = low 6 (omega arith);
        indirect = low 7 (omega arith);
        strings = low 8 (omega arith);
      };
      whole_symbols = let long = part_long from i words 6 in omega (arith, long);
      whole_indirect = let long = part_long from i words 7 in omega (arith, long);
    }
