-- Parts of a stream, one after another.
use Rattle.std.proofs.Common.{◌≡◌, ◌<◌, ◌+◌, ℕ, zero, suc, List, [], ◌∷◌, ◌++◌, length, refl, sym, ap, ◌∙◌, subst, arith, append_assoc, length-append, Option, Some, None}
use Rattle.std.specs.Prelude.{option_map, Result, Ok, Err, IsErrAnd, IfErr}
use Rattle.std.specs.Option.{option_or}
use Rattle.dsc_base.specs.declared.fault.Site.{Site}
use Rattle.dsc_base.specs.declared.fault.Fault.{Fault}
use Rattle.dsc_base.specs.declared.fault.Fault.TheVariants.{Broken, Memory}
use Rattle.dsc_base.specs.declared.rule.Rule.{Rule}
use Rattle.dsc_base.specs.declared.rule.Rule.TheVariants.{SplitBadKind, SplitBadSection, SplitOutsideSection}
use Rattle.macho_image.specs.Records.{Img}
use Rattle.dsc_base.specs.Refusals.{IsRefusal}
use Rattle.macho_image.specs.declared.place.Location.{Location}
use Rattle.split_info.specs.declared.reference.RefKind.{RefKind}
use Rattle.split_info.specs.declared.reference.Reference.{Reference}
use Rattle.split_info.specs.declared.extent.Extent.{Extent}
use Rattle.split_info.specs.declared.extent.Target.{Target}
use Rattle.split_info.specs.References.{kind_of, from_section, to_section, target_in, reference_in}
use Rattle.split_info.specs.Stream.{times, Spelled, Refused, Next, number, known}
use Rattle.split_info.specs.Split.{references, reading_break, reference_fault, site_at}
use Rattle.split_info.specs.Reading.{offsets, groups, targets, pairs, IsRead, RefusesPart}

-- ---- Parts

pub read_none : (rebases : List Location) (old : List Reference) (whole rest : Spelled) → rest ≡ whole → IsRead rebases old old whole rest
read_none rebases old whole rest same = record {
  added = ap (λ (s : Spelled). old ++ references s) same;
  sound = ap (λ (s : Spelled). reading_break rebases (length old) s) same;
}

pub read_then : (rebases : List Location) (a b c : List Reference) (whole middle rest : Spelled) → IsRead rebases a b whole middle → IsRead rebases b c middle rest → IsRead rebases a c whole rest
read_then rebases a b c whole middle rest first second = record {
  added = second.added ∙ first.added;
  sound = second.sound ∙ first.sound;
}

pub read_from : (rebases : List Location) (a b : List Reference) (whole same rest : Spelled) → whole ≡ same → IsRead rebases a b same rest → IsRead rebases a b whole rest
read_from rebases a b whole same rest is read = record {
  added = read.added ∙ ap (λ (s : Spelled). a ++ references s) (sym is);
  sound = read.sound ∙ ap (λ (s : Spelled). reading_break rebases (length a) s) (sym is);
}

-- what is refused behind what was read
pub refused_behind : (rebases : List Location) (a b : List Reference) (whole rest : Spelled) (fault : Fault) → IsRead rebases a b whole rest → IsRefusal (reading_break rebases (length b) rest) fault → IsRefusal (reading_break rebases (length a) whole) fault
refused_behind rebases a b whole rest Memory read refused = tt
refused_behind rebases a b whole rest (Broken site) read refused = sym read.sound ∙ refused

pub refused_is : (rebases : List Location) (a : List Reference) (whole : Spelled) (site : Site) (fault : Fault) → whole ≡ Refused site → fault ≡ Broken site → IsRefusal (reading_break rebases (length a) whole) fault
refused_is rebases a whole site fault is fault_is =
    subst (λ (f : Fault). IsRefusal (reading_break rebases (length a) whole) f) (sym fault_is) (ap (λ (s : Spelled). reading_break rebases (length a) s) is)

-- so many of them are left
abbrev pub AreLeft : List Location → List Reference → List Reference → ((ℕ → Spelled) → Spelled) → ((ℕ → Spelled) → Spelled) → Type 0
AreLeft rebases old new whole left = (rest : ℕ → Spelled) → IsRead rebases old new (whole rest) (left rest)

-- nothing is left
pub read_end : (rebases : List Location) (a b : List Reference) (whole left rest : Spelled) → IsRead rebases a b whole left → left ≡ rest → IsRead rebases a b whole rest
read_end rebases a b whole left rest read is = read_then rebases a b b whole left rest read (read_none rebases b left rest (sym is))

pub none_is : {X : Type 0} (found answer : Option X) → answer ≡ found → ((x : X) → answer ≡ Some x → ⊥) → found ≡ None
none_is found None is never = sym is
none_is found (Some x) is never = absurd (never x refl)

-- a fault that is handed on
pub part_on : {X : Type 0} (rebases : List Location) (a : List Reference) (part : (ℕ → Spelled) → Spelled) (r : Result X Fault) (fault : Fault) → IsErrAnd r (λ other. other ≡ fault) → RefusesPart rebases a part fault → IfErr r (RefusesPart rebases a part)
part_on rebases a part (Ok x) fault is refused = absurd is
part_on rebases a part (Err other) fault is refused = subst (λ (f : Fault). RefusesPart rebases a part f) (sym is) refused

-- a part that begins with another one
pub refused_from : (rebases : List Location) (a : List Reference) (whole same : Spelled) (fault : Fault) → whole ≡ same → IsRefusal (reading_break rebases (length a) same) fault → IsRefusal (reading_break rebases (length a) whole) fault
refused_from rebases a whole same fault is refused = subst (λ (s : Spelled). IsRefusal (reading_break rebases (length a) s) fault) (sym is) refused

-- ---- References of one kind from one section to one place

pub offsets_next : (bytes : List ℕ) (kind : RefKind) (from : Extent) (target : Target) (left left' sum at delta next : ℕ) (rest : ℕ → Spelled)
    → left ≡ suc left' → ((more : ℕ → ℕ → Spelled) → number bytes at more ≡ more delta next)
    → offsets bytes kind from target left sum at rest
    ≡ known SplitOutsideSection at (reference_in kind from target (sum + delta)) (λ reference. Next at reference (offsets bytes kind from target left' (sum + delta) next rest))
unfolding times
offsets_next bytes kind from target left left' sum at delta next rest one read =
    ap (λ (n : ℕ). offsets bytes kind from target n sum at rest) one
    ∙ read (λ delta next. known SplitOutsideSection at (reference_in kind from target (sum + delta)) (λ reference. Next at reference (offsets bytes kind from target left' (sum + delta) next rest)))

pub offsets_cut : (bytes : List ℕ) (kind : RefKind) (from : Extent) (target : Target) (left sum at : ℕ) (rest : ℕ → Spelled) (site : Site)
    → 0 < left → ((more : ℕ → ℕ → Spelled) → number bytes at more ≡ Refused site) → offsets bytes kind from target left sum at rest ≡ Refused site
unfolding times
offsets_cut bytes kind from target zero sum at rest site some cut = absurd (omega arith)
offsets_cut bytes kind from target (suc left) sum at rest site some cut =
    cut (λ delta next. known SplitOutsideSection at (reference_in kind from target (sum + delta)) (λ reference. Next at reference (offsets bytes kind from target left (sum + delta) next rest)))

pub offsets_end : (bytes : List ℕ) (kind : RefKind) (from : Extent) (target : Target) (left sum at : ℕ) (rest : ℕ → Spelled) → left ≡ 0 → offsets bytes kind from target left sum at rest ≡ rest at
unfolding times
offsets_end bytes kind from target left sum at rest none = ap (λ (n : ℕ). offsets bytes kind from target n sum at rest) none

pub one_read : (rebases : List Location) (old new : List Reference) (at before : ℕ) (r : Reference) (more : Spelled) → before ≡ length old → None ≡ reference_fault rebases before r → new ≡ old ++ r ∷ [] → IsRead rebases old new (Next at r more) more
one_read rebases old new at before r more count keeps pushed =
    let long : length new ≡ length old + 1 = ap length pushed ∙ length-append old (r ∷ []) in
    record {
      added = ap (λ (rs : List Reference). rs ++ references more) pushed ∙ append_assoc old (r ∷ []) (references more);
      sound =
          ap (λ (n : ℕ). reading_break rebases n more) long
          ∙ ap (λ (o : Option Rule). option_or (option_map (site_at at) o) (reading_break rebases (length old + 1) more)) (keeps ∙ ap (λ (n : ℕ). reference_fault rebases n r) count);
    }

-- the next number completes a reference
pub offset_read : (rebases : List Location) (bytes : List ℕ) (kind : RefKind) (from : Extent) (target : Target) (old new : List Reference) (left left' sum at delta next before : ℕ) (r : Reference) (rest : ℕ → Spelled)
    → left ≡ suc left' → ((more : ℕ → ℕ → Spelled) → number bytes at more ≡ more delta next) → Some r ≡ reference_in kind from target (sum + delta) → before ≡ length old → None ≡ reference_fault rebases before r → new ≡ old ++ r ∷ []
    → IsRead rebases old new (offsets bytes kind from target left sum at rest) (offsets bytes kind from target left' (sum + delta) next rest)
offset_read rebases bytes kind from target old new left left' sum at delta next before r rest one read is count keeps pushed =
    let more = offsets bytes kind from target left' (sum + delta) next rest in
    read_from rebases old new (offsets bytes kind from target left sum at rest) (Next at r more) more
    (offsets_next bytes kind from target left left' sum at delta next rest one read
    ∙ ap (λ (o : Option Reference). known SplitOutsideSection at o (λ reference. Next at reference (offsets bytes kind from target left' (sum + delta) next rest))) (sym is))
    (one_read rebases old new at before r more count keeps pushed)

-- or is outside its section
pub offset_outside : (bytes : List ℕ) (kind : RefKind) (from : Extent) (target : Target) (left left' sum at delta next : ℕ) (rest : ℕ → Spelled)
    → left ≡ suc left' → ((more : ℕ → ℕ → Spelled) → number bytes at more ≡ more delta next) → reference_in kind from target (sum + delta) ≡ None
    → offsets bytes kind from target left sum at rest ≡ Refused (record { rule = SplitOutsideSection; at = at })
offset_outside bytes kind from target left left' sum at delta next rest one read is =
    offsets_next bytes kind from target left left' sum at delta next rest one read
    ∙ ap (λ (o : Option Reference). known SplitOutsideSection at o (λ reference. Next at reference (offsets bytes kind from target left' (sum + delta) next rest))) is

-- or a reference that may not be there
pub offset_refused : (rebases : List Location) (bytes : List ℕ) (kind : RefKind) (from : Extent) (target : Target) (old : List Reference) (left left' sum at delta next before : ℕ) (r : Reference) (rule : Rule) (fault : Fault) (rest : ℕ → Spelled)
    → left ≡ suc left' → ((more : ℕ → ℕ → Spelled) → number bytes at more ≡ more delta next) → Some r ≡ reference_in kind from target (sum + delta) → before ≡ length old → Some rule ≡ reference_fault rebases before r → fault ≡ Broken (site_at at rule)
    → IsRefusal (reading_break rebases (length old) (offsets bytes kind from target left sum at rest)) fault
offset_refused rebases bytes kind from target old left left' sum at delta next before r rule fault rest one read is count breaks fault_is =
    let more = offsets bytes kind from target left' (sum + delta) next rest in
    let whole : offsets bytes kind from target left sum at rest ≡ Next at r more =
    offsets_next bytes kind from target left left' sum at delta next rest one read
    ∙ ap (λ (o : Option Reference). known SplitOutsideSection at o (λ reference. Next at reference (offsets bytes kind from target left' (sum + delta) next rest))) (sym is) in
    subst (λ (f : Fault). IsRefusal (reading_break rebases (length old) (offsets bytes kind from target left sum at rest)) f) (sym fault_is)
    (ap (λ (s : Spelled). reading_break rebases (length old) s) whole
    ∙ ap (λ (o : Option Rule). option_or (option_map (site_at at) o) (reading_break rebases (length old + 1) more)) (sym (breaks ∙ ap (λ (n : ℕ). reference_fault rebases n r) count)))

-- ---- Groups

groups_next : (bytes : List ℕ) (from : Extent) (target : Target) (left left' at code counted : ℕ) (rest : ℕ → Spelled) → left ≡ suc left' → ((more : ℕ → ℕ → Spelled) → number bytes at more ≡ more code counted)
    → groups bytes from target left at rest
    ≡ known SplitBadKind at (kind_of code) (λ kind. number bytes counted (λ count first. offsets bytes kind from target count 0 first (λ next. groups bytes from target left' next rest)))
unfolding times
groups_next bytes from target left left' at code counted rest one read =
    ap (λ (n : ℕ). groups bytes from target n at rest) one
    ∙ read (λ code counted. known SplitBadKind at (kind_of code) (λ kind. number bytes counted (λ count first. offsets bytes kind from target count 0 first (λ next. groups bytes from target left' next rest))))

pub groups_cut : (bytes : List ℕ) (from : Extent) (target : Target) (left at : ℕ) (rest : ℕ → Spelled) (site : Site) → 0 < left → ((more : ℕ → ℕ → Spelled) → number bytes at more ≡ Refused site) → groups bytes from target left at rest ≡ Refused site
unfolding times
groups_cut bytes from target zero at rest site some cut = absurd (omega arith)
groups_cut bytes from target (suc left) at rest site some cut =
    cut (λ code counted. known SplitBadKind at (kind_of code) (λ kind. number bytes counted (λ count first. offsets bytes kind from target count 0 first (λ next. groups bytes from target left next rest))))

pub groups_end : (bytes : List ℕ) (from : Extent) (target : Target) (left at : ℕ) (rest : ℕ → Spelled) → left ≡ 0 → groups bytes from target left at rest ≡ rest at
unfolding times
groups_end bytes from target left at rest none = ap (λ (n : ℕ). groups bytes from target n at rest) none

pub groups_unknown : (bytes : List ℕ) (from : Extent) (target : Target) (left left' at code counted : ℕ) (rest : ℕ → Spelled) → left ≡ suc left' → ((more : ℕ → ℕ → Spelled) → number bytes at more ≡ more code counted) → kind_of code ≡ None
    → groups bytes from target left at rest ≡ Refused (record { rule = SplitBadKind; at = at })
groups_unknown bytes from target left left' at code counted rest one read unknown =
    groups_next bytes from target left left' at code counted rest one read
    ∙ ap (λ (o : Option RefKind). known SplitBadKind at o (λ kind. number bytes counted (λ count first. offsets bytes kind from target count 0 first (λ next. groups bytes from target left' next rest)))) unknown

pub groups_known : (bytes : List ℕ) (from : Extent) (target : Target) (left left' at code counted : ℕ) (kind : RefKind) (rest : ℕ → Spelled) → left ≡ suc left' → ((more : ℕ → ℕ → Spelled) → number bytes at more ≡ more code counted) → Some kind ≡ kind_of code
    → groups bytes from target left at rest ≡ number bytes counted (λ count first. offsets bytes kind from target count 0 first (λ next. groups bytes from target left' next rest))
groups_known bytes from target left left' at code counted kind rest one read is =
    groups_next bytes from target left left' at code counted rest one read
    ∙ ap (λ (o : Option RefKind). known SplitBadKind at o (λ kind. number bytes counted (λ count first. offsets bytes kind from target count 0 first (λ next. groups bytes from target left' next rest)))) (sym is)

-- ---- Places in one section

targets_next : (bytes : List ℕ) (from to : Extent) (left left' sum at delta counted : ℕ) (rest : ℕ → Spelled) → left ≡ suc left' → ((more : ℕ → ℕ → Spelled) → number bytes at more ≡ more delta counted)
    → targets bytes from to left sum at rest
    ≡ known SplitOutsideSection at (target_in to (sum + delta)) (λ target. number bytes counted (λ count first. groups bytes from target count first (λ next. targets bytes from to left' (sum + delta) next rest)))
unfolding times
targets_next bytes from to left left' sum at delta counted rest one read =
    ap (λ (n : ℕ). targets bytes from to n sum at rest) one
    ∙ read (λ delta counted. known SplitOutsideSection at (target_in to (sum + delta)) (λ target. number bytes counted (λ count first. groups bytes from target count first (λ next. targets bytes from to left' (sum + delta) next rest))))

pub targets_cut : (bytes : List ℕ) (from to : Extent) (left sum at : ℕ) (rest : ℕ → Spelled) (site : Site) → 0 < left → ((more : ℕ → ℕ → Spelled) → number bytes at more ≡ Refused site) → targets bytes from to left sum at rest ≡ Refused site
unfolding times
targets_cut bytes from to zero sum at rest site some cut = absurd (omega arith)
targets_cut bytes from to (suc left) sum at rest site some cut =
    cut (λ delta counted. known SplitOutsideSection at (target_in to (sum + delta)) (λ target. number bytes counted (λ count first. groups bytes from target count first (λ next. targets bytes from to left (sum + delta) next rest))))

pub targets_end : (bytes : List ℕ) (from to : Extent) (left sum at : ℕ) (rest : ℕ → Spelled) → left ≡ 0 → targets bytes from to left sum at rest ≡ rest at
unfolding times
targets_end bytes from to left sum at rest none = ap (λ (n : ℕ). targets bytes from to n sum at rest) none

pub targets_outside : (bytes : List ℕ) (from to : Extent) (left left' sum at delta counted : ℕ) (rest : ℕ → Spelled) → left ≡ suc left' → ((more : ℕ → ℕ → Spelled) → number bytes at more ≡ more delta counted) → target_in to (sum + delta) ≡ None
    → targets bytes from to left sum at rest ≡ Refused (record { rule = SplitOutsideSection; at = at })
targets_outside bytes from to left left' sum at delta counted rest one read outside =
    targets_next bytes from to left left' sum at delta counted rest one read
    ∙ ap (λ (o : Option Target). known SplitOutsideSection at o (λ target. number bytes counted (λ count first. groups bytes from target count first (λ next. targets bytes from to left' (sum + delta) next rest)))) outside

pub targets_inside : (bytes : List ℕ) (from to : Extent) (left left' sum at delta counted : ℕ) (target : Target) (rest : ℕ → Spelled) → left ≡ suc left' → ((more : ℕ → ℕ → Spelled) → number bytes at more ≡ more delta counted) → Some target ≡ target_in to (sum + delta)
    → targets bytes from to left sum at rest ≡ number bytes counted (λ count first. groups bytes from target count first (λ next. targets bytes from to left' (sum + delta) next rest))
targets_inside bytes from to left left' sum at delta counted target rest one read is =
    targets_next bytes from to left left' sum at delta counted rest one read
    ∙ ap (λ (o : Option Target). known SplitOutsideSection at o (λ target. number bytes counted (λ count first. groups bytes from target count first (λ next. targets bytes from to left' (sum + delta) next rest)))) (sym is)

-- ---- Pairs of sections

-- what follows from a to-section, and from a from-section
abbrev pub pair_with : List ℕ → Img → ℕ → ℕ → ℕ → (ℕ → Spelled) → Extent → Option Extent → Spelled
pair_with bytes image left second counted rest from o =
    known SplitBadSection second o (λ to. number bytes counted (λ count first. targets bytes from to count 0 first (λ next. pairs bytes image left next rest)))

abbrev pub pair_from : List ℕ → Img → ℕ → ℕ → ℕ → (ℕ → Spelled) → Option Extent → Spelled
pair_from bytes image left at second rest o = known SplitBadSection at o (λ from. number bytes second (λ other counted. pair_with bytes image left second counted rest from (to_section image other)))

pairs_next : (bytes : List ℕ) (image : Img) (left left' at one second : ℕ) (rest : ℕ → Spelled) → left ≡ suc left' → ((more : ℕ → ℕ → Spelled) → number bytes at more ≡ more one second)
    → pairs bytes image left at rest ≡ pair_from bytes image left' at second rest (from_section image one)
unfolding times
pairs_next bytes image left left' at one second rest is read =
    ap (λ (n : ℕ). pairs bytes image n at rest) is ∙ read (λ one second. pair_from bytes image left' at second rest (from_section image one))

pub pairs_cut : (bytes : List ℕ) (image : Img) (left at : ℕ) (rest : ℕ → Spelled) (site : Site) → 0 < left → ((more : ℕ → ℕ → Spelled) → number bytes at more ≡ Refused site) → pairs bytes image left at rest ≡ Refused site
unfolding times
pairs_cut bytes image zero at rest site some cut = absurd (omega arith)
pairs_cut bytes image (suc left) at rest site some cut = cut (λ one second. pair_from bytes image left at second rest (from_section image one))

pub pairs_end : (bytes : List ℕ) (image : Img) (left at : ℕ) (rest : ℕ → Spelled) → left ≡ 0 → pairs bytes image left at rest ≡ rest at
unfolding times
pairs_end bytes image left at rest none = ap (λ (n : ℕ). pairs bytes image n at rest) none

pub pairs_nowhere : (bytes : List ℕ) (image : Img) (left left' at one second : ℕ) (rest : ℕ → Spelled) → left ≡ suc left' → ((more : ℕ → ℕ → Spelled) → number bytes at more ≡ more one second) → from_section image one ≡ None
    → pairs bytes image left at rest ≡ Refused (record { rule = SplitBadSection; at = at })
pairs_nowhere bytes image left left' at one second rest is read none =
    pairs_next bytes image left left' at one second rest is read ∙ ap (λ (o : Option Extent). pair_from bytes image left' at second rest o) none

pub pairs_from : (bytes : List ℕ) (image : Img) (left left' at one second : ℕ) (from : Extent) (rest : ℕ → Spelled) → left ≡ suc left' → ((more : ℕ → ℕ → Spelled) → number bytes at more ≡ more one second) → Some from ≡ from_section image one
    → pairs bytes image left at rest ≡ number bytes second (λ other counted. pair_with bytes image left' second counted rest from (to_section image other))
pairs_from bytes image left left' at one second from rest is read some =
    pairs_next bytes image left left' at one second rest is read ∙ ap (λ (o : Option Extent). pair_from bytes image left' at second rest o) (sym some)

pub pairs_with : (bytes : List ℕ) (image : Img) (left left' at one second other counted : ℕ) (from : Extent) (rest : ℕ → Spelled) → left ≡ suc left' → ((more : ℕ → ℕ → Spelled) → number bytes at more ≡ more one second) → Some from ≡ from_section image one
    → ((more : ℕ → ℕ → Spelled) → number bytes second more ≡ more other counted) → (o : Option Extent) → o ≡ to_section image other → pairs bytes image left at rest ≡ pair_with bytes image left' second counted rest from o
pairs_with bytes image left left' at one second other counted from rest is read some next o found =
    pairs_from bytes image left left' at one second from rest is read some
    ∙ (next (λ other counted. pair_with bytes image left' second counted rest from (to_section image other)) ∙ ap (λ (o : Option Extent). pair_with bytes image left' second counted rest from o) (sym found))
