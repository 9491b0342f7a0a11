-- The whole of a stream, and what is tried when it was read.
use Rattle.std.proofs.Common.{refl, ◌≡◌, ◌++◌, ℕ, Bool, true, false, List, [], length, sym, ap, ap₂, ◌∙◌, subst, append-nil, nat_eq, if◌then◌else◌, Option, None}
use Rattle.std.specs.Prelude.{slice_index}
use Rattle.std.specs.Option.{option_or}
use Rattle.dsc_base.specs.declared.fault.Site.{Site}
use Rattle.dsc_base.specs.declared.fault.Fault.{Fault}
use Rattle.dsc_base.specs.declared.fault.Fault.TheVariants.{Broken, Memory}
use Rattle.dsc_base.specs.declared.rule.Rule.TheVariants.{NoSplitInfo, SplitNotV2, SplitOverlap}
use Rattle.macho_image.specs.Records.{Img}
use Rattle.dsc_base.specs.Refusals.{broken, IsRefusal}
use Rattle.macho_image.specs.declared.place.Location.{Location}
use Rattle.split_info.specs.declared.reference.Reference.{Reference}
use Rattle.split_info.specs.Stream.{Spelled, End, Refused, number, spelled}
use Rattle.split_info.specs.Split.{is_unsplit, spelled_of, references, references_of, reading_break, split_break}
use Rattle.split_info.specs.Overlap.{overlap_at}
use Rattle.split_info.specs.Reading.{pairs, IsRead}

-- ---- A stream

pub other_format : (bytes : List ℕ) (image : Img) → nat_eq (slice_index bytes 0) 0x7F ≡ false → spelled bytes image ≡ Refused (record { rule = SplitNotV2; at = 0 })
unfolding spelled
other_format bytes image other =
    ap (λ (b : Bool). if b then number bytes 1 (λ count first. pairs bytes image count first (λ next. End)) else Refused (record { rule = SplitNotV2; at = 0 })) other

pub own_format : (bytes : List ℕ) (image : Img) → nat_eq (slice_index bytes 0) 0x7F ≡ true → spelled bytes image ≡ number bytes 1 (λ count first. pairs bytes image count first (λ next. End))
unfolding spelled
own_format bytes image own =
    ap (λ (b : Bool). if b then number bytes 1 (λ count first. pairs bytes image count first (λ next. End)) else Refused (record { rule = SplitNotV2; at = 0 })) own

-- all was read
pub record HasRead (rebases : List Location) (whole : Spelled) (rs : List Reference) : Type 0 where
  pub found : rs ≡ references whole
  pub sound : reading_break rebases 0 whole ≡ None

pub all_read : (rebases : List Location) (old new : List Reference) (whole same : Spelled) → old ≡ [] → whole ≡ same → IsRead rebases old new same End → HasRead rebases whole new
all_read rebases old new whole same none is read = record {
  found = sym (append-nil new) ∙ (read.added ∙ (ap (λ (rs : List Reference). rs ++ references same) none ∙ ap (λ (s : Spelled). references s) (sym is)));
  sound = ap (λ (s : Spelled). reading_break rebases 0 s) is ∙ (ap (λ (rs : List Reference). reading_break rebases (length rs) same) (sym none) ∙ sym read.sound);
}

pub part_refused : (rebases : List Location) (old : List Reference) (whole same : Spelled) (fault : Fault) → old ≡ [] → whole ≡ same → IsRefusal (reading_break rebases (length old) same) fault → IsRefusal (reading_break rebases 0 whole) fault
part_refused rebases old whole same fault none is refused =
    subst (λ (s : Spelled). IsRefusal (reading_break rebases 0 s) fault) (sym is) (subst (λ (rs : List Reference). IsRefusal (reading_break rebases (length rs) same) fault) none refused)

pub whole_refused : (rebases : List Location) (whole : Spelled) (site : Site) (fault : Fault) → whole ≡ Refused site → fault ≡ Broken site → IsRefusal (reading_break rebases 0 whole) fault
whole_refused rebases whole site fault is fault_is =
    subst (λ (f : Fault). IsRefusal (reading_break rebases 0 whole) f) (sym fault_is) (ap (λ (s : Spelled). reading_break rebases 0 s) is)

-- ---- Behind the stream

pub reading_refused : (stream : Option (List ℕ)) (image : Img) (rebases bound : List Location) (fault : Fault) → IsRefusal (reading_break rebases 0 (spelled_of stream image)) fault → IsRefusal (split_break stream image rebases bound) fault
unfolding split_break
reading_refused stream image rebases bound Memory refused = tt
reading_refused stream image rebases bound (Broken site) refused = ap (λ (o : Option Site). option_or o (broken SplitOverlap (overlap_at rebases bound (references_of stream image)))) refused

pub overlap_is : (stream : Option (List ℕ)) (image : Img) (rebases bound : List Location) (found : Option ℕ) → reading_break rebases 0 (spelled_of stream image) ≡ None → overlap_at rebases bound (references_of stream image) ≡ found
    → split_break stream image rebases bound ≡ broken SplitOverlap found
unfolding split_break
overlap_is stream image rebases bound found none is =
    ap (λ (o : Option Site). option_or o (broken SplitOverlap (overlap_at rebases bound (references_of stream image)))) none ∙ ap (λ (o : Option ℕ). broken SplitOverlap o) is

-- what was tried of what was read
pub overlap_read : (stream : Option (List ℕ)) (image : Img) (rebases bound words : List Location) (rs items : List Reference) (found : Option ℕ) → words ≡ rebases → rs ≡ references_of stream image → items ≡ rs → found ≡ overlap_at words bound items
    → overlap_at rebases bound (references_of stream image) ≡ found
overlap_read stream image rebases bound words rs items found same read given is = sym (is ∙ ap₂ (λ (ls : List Location) (ts : List Reference). overlap_at ls bound ts) same (given ∙ read))

pub reading_kept : (stream : Option (List ℕ)) (image : Img) (rebases words : List Location) → words ≡ rebases → reading_break words 0 (spelled_of stream image) ≡ None → reading_break rebases 0 (spelled_of stream image) ≡ None
reading_kept stream image rebases words same none = ap (λ (ls : List Location). reading_break ls 0 (spelled_of stream image)) (sym same) ∙ none
