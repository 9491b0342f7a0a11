-- The file of an image has the streams that the image has in the cache, and its own rebases.
use Rattle.std.proofs.Common.{◌≡◌, ◌≤◌, ◌<◌, ℕ, ◌-◌, false, Option, Some, None, List, [], ◌++◌, take, drop, length, get_or, refl, sym, ap, ◌∙◌, arith, inl, inr, append_assoc, length-append, length-drop}
use Rattle.std.specs.Prelude.{is_some}
use Rattle.std.proofs.lemmas.Bool.{cases_lt}
use Rattle.dsc_base.specs.declared.fault.Span.{Span}
use Rattle.dsc_base.proofs.FieldLaws.{drop_past}
use Rattle.macho_image.specs.Format.{dyld_info_bind_off, dyld_info_bind_size, dyld_info_lazy_bind_off, dyld_info_lazy_bind_size, dyld_info_export_off, dyld_info_export_size}
use Rattle.macho_image.specs.Records.{StreamBytes, Img}
use Rattle.macho_image.specs.Macho.{commands_of, command_where, is_dyld_info, part_in, streams_of, image_from, image_of}
use Rattle.macho_image.specs.declared.place.Location.{Location}
use Rattle.macho_edit.specs.MovedImage.{named_by, standalone_image}
use Rattle.linkedit_merge.specs.Parts.{joined, lens_of, span_of, bytes_in}
use Rattle.linkedit_merge.proofs.PartLaws.{part_read}
use Rattle.extractor.specs.ExtractOf.{rebase_stream, linkedit_parts, linkedit_of, body_bytes, moves_from, header_of, file_of, spots_of}
use Rattle.extractor.proofs.PreparedLaws.{parts_are}
use Rattle.extractor.proofs.SpotLaws.{part_within}

-- ---- the bytes of a part

behind_front : (start : ℕ) (front linkedit : List ℕ) (s : Span) → length front ≡ start → (0 < s.len → start ≤ s.at) → take s.len (drop s.at (front ++ linkedit)) ≡ bytes_in start linkedit s
behind_front start front linkedit s long behind = elim (cases_lt 0 s.len) [
  | inl some ↦ ap (λ (l : List ℕ). take s.len l) (drop_past front linkedit start s.at long (behind some))
  | inr none ↦
      let zero_len : s.len ≡ 0 = omega (arith, none) in
      ap (λ (n : ℕ). take n (drop s.at (front ++ linkedit))) zero_len ∙ sym (ap (λ (n : ℕ). take n (drop (s.at - start) linkedit)) zero_len)
]

pub part_there : (k : ℕ) (i : Img) (words : List Location) (n : ℕ) → n < 9 → length (header_of k i words) ≤ length (body_bytes i)
    → (let s : Span = span_of (length (body_bytes i)) (lens_of (linkedit_parts i words)) n in take s.len (drop s.at (file_of k i words))) ≡ get_or (linkedit_parts i words) n []
unfolding file_of linkedit_of
part_there k i words n lt fits =
    let header = header_of k i words in
    let rest = drop (length header) (body_bytes i) in
    let start = length (body_bytes i) in
    let s : Span = span_of (length (body_bytes i)) (lens_of (linkedit_parts i words)) n in
    let long : length (header_of k i words ++ drop (length (header_of k i words)) (body_bytes i)) ≡ length (body_bytes i) = omega (arith, length-append header rest, length-drop (length header) (body_bytes i), fits) in
    let inside = part_within i words n lt in
    let parts : length (linkedit_parts i words) ≡ 9 = ap (λ (ps : List (List ℕ)). length ps) (parts_are i words) in
    ap (λ (l : List ℕ). take s.len (drop s.at l)) (sym (append_assoc header rest (joined (linkedit_parts i words))))
    ∙ (behind_front start (header ++ rest) (joined (linkedit_parts i words)) s long inside.behind
    ∙ part_read start (linkedit_parts i words) n (omega (arith, parts, lt)))

-- ---- the streams

by_command : (command : Option (List ℕ)) (b stream : List ℕ) (s : Span) → (command ≡ None → stream ≡ []) → take s.len (drop s.at b) ≡ stream → named_by command b s ≡ stream
by_command None b stream s none there = sym (none refl)
by_command (Some c) b stream s none there = there

-- the image, which some bytes spell
pub record IsOf (bytes : List ℕ) (i : Img) : Type 0 where
  pub place : ℕ
  pub is : i ≡ image_of bytes place

streams_are : (bytes : List ℕ) (i : Img) (of : IsOf bytes i) → i.streams ≡ streams_of bytes (commands_of i.header)
unfolding image_from
streams_are bytes i of = ap (λ (j : Img). j.streams) of.is ∙ sym (ap (λ (j : Img). streams_of bytes (commands_of j.header)) of.is)

record HasNone (i : Img) : Type 0 where
  bind : i.streams.bind ≡ []
  lazy : i.streams.lazy ≡ []
  exports : i.streams.exports ≡ []

unnamed : (bytes : List ℕ) (i : Img) → IsOf bytes i → command_where is_dyld_info (commands_of i.header) ≡ None → HasNone i
unfolding streams_of
unnamed bytes i of none =
    let are = streams_are bytes i of in
    record {
      bind = ap (λ (s : StreamBytes). s.bind) are ∙ ap (λ (o : Option (List ℕ)). part_in bytes o 1 dyld_info_bind_off dyld_info_bind_size) none;
      lazy = ap (λ (s : StreamBytes). s.lazy) are ∙ ap (λ (o : Option (List ℕ)). part_in bytes o 1 dyld_info_lazy_bind_off dyld_info_lazy_bind_size) none;
      exports = ap (λ (s : StreamBytes). s.exports) are ∙ ap (λ (o : Option (List ℕ)). part_in bytes o 1 dyld_info_export_off dyld_info_export_size) none;
    }

has_info : (bytes : List ℕ) (i : Img) → IsOf bytes i → i.has_dyld_info ≡ is_some (command_where is_dyld_info (commands_of i.header))
unfolding image_from
has_info bytes i of = ap (λ (j : Img). j.has_dyld_info) of.is ∙ sym (ap (λ (j : Img). is_some (command_where is_dyld_info (commands_of j.header))) of.is)

-- the image that the file has
unfoldable pub own_image : ℕ → Img → List Location → Img
own_image k i words = standalone_image i (moves_from 0 i.segments) (spots_of k i words) (file_of k i words)

pub record HasStreams (i own : Img) (words : List Location) : Type 0 where
  pub rebase : own.streams.rebase ≡ rebase_stream i words
  pub bind : own.streams.bind ≡ i.streams.bind
  pub lazy : own.streams.lazy ≡ i.streams.lazy
  pub weak : own.streams.weak ≡ []
  pub exports : own.streams.exports ≡ i.streams.exports
  pub split : own.streams.split ≡ None

no_words : (i : Img) (words : List Location) → (i.has_dyld_info ≡ false → words ≡ []) → i.has_dyld_info ≡ false → rebase_stream i words ≡ []
no_words i words none without = ap (λ (ls : List Location). rebase_stream i ls) (none without)

pub own_streams : (k : ℕ) (i : Img) (words : List Location) (bytes : List ℕ) → IsOf bytes i → (i.has_dyld_info ≡ false → words ≡ []) → length (header_of k i words) ≤ length (body_bytes i) → HasStreams i (own_image k i words) words
unfolding own_image standalone_image spots_of
own_streams k i words bytes of none fits =
    let info = command_where is_dyld_info (commands_of i.header) in
    let there = λ (n : ℕ) (lt : n < 9). part_there k i words n lt fits ∙ ap (λ (ps : List (List ℕ)). get_or ps n []) (parts_are i words) in
    let absent = unnamed bytes i of in
    record {
      rebase = by_command info (file_of k i words) (rebase_stream i words) (span_of (length (body_bytes i)) (lens_of (linkedit_parts i words)) 0) (λ no. no_words i words none (has_info bytes i of ∙ ap (λ (o : Option (List ℕ)). is_some o) no)) (there 0 (omega arith));
      bind = by_command info (file_of k i words) i.streams.bind (span_of (length (body_bytes i)) (lens_of (linkedit_parts i words)) 1) (λ no. (absent no).bind) (there 1 (omega arith));
      lazy = by_command info (file_of k i words) i.streams.lazy (span_of (length (body_bytes i)) (lens_of (linkedit_parts i words)) 2) (λ no. (absent no).lazy) (there 2 (omega arith));
      weak = refl;
      exports = by_command info (file_of k i words) i.streams.exports (span_of (length (body_bytes i)) (lens_of (linkedit_parts i words)) 3) (λ no. (absent no).exports) (there 3 (omega arith));
      split = refl;
    }
