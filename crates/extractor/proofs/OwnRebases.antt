-- The rebase stream of a file spells the words that it was written for.
use Rattle.std.proofs.Common.{◌≡◌, ℕ, ◌+◌, ◌-◌, Bool, true, false, Option, List, [], ◌∷◌, ◌++◌, refl, sym, ap, ap₂, ◌∙◌, arith, if◌then◌else◌}
use Rattle.std.specs.Prelude.{slice_get}
use Rattle.std.specs.List.{AllByRecursion}
use Rattle.std.proofs.lemmas.List.Elements.{recursion_from_All}
use Rattle.dsc_base.specs.Uleb.{uleb_bytes}
use Rattle.macho_image.specs.Records.{Seg, Img}
use Rattle.macho_image.specs.Breaks.{IsSound}
use Rattle.macho_image.specs.Places.{IsWord}
use Rattle.macho_image.specs.Streams.{records, opcodes_in}
use Rattle.macho_image.specs.declared.section.Section.{Section}
use Rattle.macho_image.specs.declared.place.Location.{Location}
use Rattle.rebase_ops.specs.Rebases.{rebases_of}
use Rattle.rebase_ops.specs.Writing.{Run, run_from, is_next, in_front, runs_of, offset_from, offset_in, times_bytes, runs_bytes, rebase_bytes, CanBeWritten}
use Rattle.rebase_ops.proofs.WrittenLaws.{ready, words_back}
use Rattle.extractor.specs.ExtractOf.{rebase_stream}
use Rattle.extractor.proofs.AlikeLaws.{AreLike}

none_there : (i : Img) → rebases_of [] i ≡ []
unfolding rebases_of records opcodes_in
none_there i = refl

module _ (image own : Img) (alike : AreLike image own) where
  -- a word of the one is a word of the other
  pub word_too : (l : Location) → IsWord image l → IsWord own l
  word_too l w =
      let to = alike.segments l.segment w.segment w.segment_is w.writable in
      record {
        segment = to.0;
        segment_is = to.1.0;
        writable = to.1.1.protection ∙ w.writable;
        from = omega (arith, w.from, to.1.1.address);
        to = omega (arith, w.to, to.1.1.address, to.1.1.size);
        section = w.section;
        section_counts = w.section_counts;
        section_is = ap (λ (xs : List Section). slice_get xs (l.section - 1)) alike.sections ∙ w.section_is;
        in_segment = w.in_segment;
        section_from = w.section_from;
        section_to = w.section_to;
        aligned = w.aligned;
        in_page = w.in_page;
      }

  pub written_too : (ls : List Location) → CanBeWritten image ls → CanBeWritten own ls
  written_too ls can = record { all = λ n d lt. word_too _ (can.all n d lt); apart = can.apart; low = can.low }

  -- ---- the same bytes for them

  abbrev HasSame : ℕ → Type 0
  HasSame g = (a : ℕ) → offset_in own g a ≡ offset_in image g a

  same_offset : (l : Location) → IsWord image l → HasSame l.segment
  unfolding offset_in
  same_offset l w a =
      let to = alike.segments l.segment w.segment w.segment_is w.writable in
      ap (λ (o : Option Seg). offset_from o a) to.1.0 ∙ (ap (λ (n : ℕ). a - n) to.1.1.address ∙ sym (ap (λ (o : Option Seg). offset_from o a) w.segment_is))

  front_same : (l : Location) (rs : List Run) → HasSame l.segment → AllByRecursion (λ (r : Run). HasSame r.segment) rs → AllByRecursion (λ (r : Run). HasSame r.segment) (in_front l rs)
  front_same l [] own_same rest = (own_same, tt)
  front_same l (r ∷ rs) own_same rest = by (is_next l r.segment r.address)
    where
      by : (b : Bool) → AllByRecursion (λ (q : Run). HasSame q.segment) (if b then run_from l (r.count + 1) ∷ rs else run_from l 1 ∷ (r ∷ rs))
      by true = (own_same, rest.1)
      by false = (own_same, rest)

  runs_same : (ls : List Location) → AllByRecursion (IsWord image) ls → AllByRecursion (λ (r : Run). HasSame r.segment) (runs_of ls)
  runs_same [] words = tt
  runs_same (l ∷ ls) words = front_same l (runs_of ls) (same_offset l words.0) (runs_same ls words.1)

  bytes_same : (rs : List Run) → AllByRecursion (λ (r : Run). HasSame r.segment) rs → runs_bytes own rs ≡ runs_bytes image rs
  unfolding runs_bytes
  bytes_same [] same = refl
  bytes_same (r ∷ rs) same = ap₂ (λ (n : ℕ) (l : List ℕ). ((0x20 + r.segment) ∷ (uleb_bytes n ++ times_bytes r.count)) ++ l) (same.0 r.address) (bytes_same rs same.1)

  stream_same : (ls : List Location) → AllByRecursion (IsWord image) ls → rebase_bytes own ls ≡ rebase_bytes image ls
  unfolding rebase_bytes
  stream_same ls words = ap (λ (l : List ℕ). 0x11 ∷ (l ++ 0 ∷ [])) (bytes_same (runs_of ls) (runs_same ls words))

  pub rebases_back : (ls : List Location) → IsSound own → CanBeWritten image ls → rebases_of (rebase_stream image ls) own ≡ ls
  rebases_back [] sound can = none_there own
  rebases_back (l ∷ ls) sound can =
      ap (λ (b : List ℕ). rebases_of b own) (sym (stream_same (l ∷ ls) (recursion_from_All (IsWord image) (l ∷ ls) can.all)))
      ∙ words_back own (l ∷ ls) (ready own (l ∷ ls) sound (written_too (l ∷ ls) can))
