-- The plans and the rules of a set, one image more at a time.
use Rattle.std.proofs.Common.{◌≡◌, ◌≤◌, ◌<◌, ℕ, suc, ◌+◌, ◌^◌, List, take, drop, length, get_or, refl, sym, ap, ap₂, ◌∙◌, arith, Option, None}
use Rattle.std.specs.Prelude.{option_map}
use Rattle.std.specs.List.{enumerate_from}
use Rattle.std.specs.Option.{option_or}
use Rattle.std.proofs.Math.Seq.{drop-cons}
use Rattle.std.proofs.lemmas.List.{drop_all}
use Rattle.std.proofs.lemmas.List.FromFn.{length-enumerate_from, get_or-enumerate_from}
use Rattle.dsc_base.specs.declared.fault.Site.{Site}
use Rattle.dsc_base.specs.declared.fault.Break.{Break}
use Rattle.dsc_base.specs.declared.fault.Span.{Span}
use Rattle.dsc_base.specs.declared.fault.SetFault.{SetFault}
use Rattle.dsc_base.specs.declared.fault.SetFault.TheVariants.{Broken, Memory}
use Rattle.dsc_base.specs.Refusals.{in_image, in_each, IsSetRefusal}
use Rattle.macho_image.specs.Records.{Img}
use Rattle.cache_layout.specs.declared.mapping.Mapping.{Mapping}
use Rattle.cache_layout.specs.declared.mapping.Mapping.TheVariants.{Text, Writable, Fixed}
use Rattle.cache_layout.specs.Places.{segments_room, mapping_start, image_start}
use Rattle.cache_layout.specs.Layouts.{Laid}
use Rattle.cache_layout.specs.Apart.{range_in}
use Rattle.cache_layout.proofs.BreakLaws.{none-fits, mapping-ends}
use Rattle.cache_layout.proofs.SpanLaws.{image_start-first, image_start-next, image_ends}
use Rattle.cache_layout.proofs.PlaceLaws.{range_in-is}
use Rattle.prebind.specs.Sets.{ImageSet}
use Rattle.ref_rewrite.specs.declared.spans.Parts.{Parts}
use Rattle.ref_rewrite.specs.Breaks.{image_break, rewrite_break}
use Rattle.ref_rewrite.specs.Planned.{IsLayout, span_in}
use Rattle.ref_rewrite.specs.Spans.{span_of, end_of}

-- ---- the rules

abbrev pub breaks_at : Laid → ImageSet → ℕ × Img → Option Site
breaks_at l set p = image_break l set p.0

-- the images before image k break no rule
abbrev pub AreUnbroken : Laid → ImageSet → ℕ → Type 0
AreUnbroken l set k = in_each (breaks_at l set) k (drop k (enumerate_from 0 set.images)) ≡ rewrite_break l set

pub none_before : (l : Laid) (set : ImageSet) → AreUnbroken l set 0
unfolding rewrite_break
none_before l set = refl

here : (l : Laid) (set : ImageSet) (k : ℕ) (image : Img) → k < length set.images → image ≡ get_or set.images k image
    → in_each (breaks_at l set) k (drop k (enumerate_from 0 set.images)) ≡ option_or (option_map (in_image k) (image_break l set k)) (in_each (breaks_at l set) (k + 1) (drop (k + 1) (enumerate_from 0 set.images)))
unfolding in_each
here l set k image lt is =
    let ps : List (ℕ × Img) = enumerate_from 0 set.images in
    let d : ℕ × Img = (0, image) in
    let long : k < length ps = omega (arith, lt, length-enumerate_from 0 set.images) in
    let next : suc k ≡ k + 1 = omega arith in
    let at : get_or ps k d ≡ (0 + k, get_or set.images k image) = get_or-enumerate_from 0 set.images k d lt in
    let number : (get_or ps k d).0 ≡ k = ap (λ (p : ℕ × Img). p.0) at ∙ (let e : 0 + k ≡ k = omega arith in e) in
    ap (λ (qs : List (ℕ × Img)). in_each (breaks_at l set) k qs) (drop-cons ps k d long)
    ∙ ap₂ (λ (n m : ℕ). option_or (option_map (in_image k) (image_break l set n)) (in_each (breaks_at l set) (k + 1) (drop m ps))) number next

pub none_more : (l : Laid) (set : ImageSet) (k : ℕ) (image : Img) → k < length set.images → image ≡ get_or set.images k image → option_map (in_image k) (image_break l set k) ≡ None → AreUnbroken l set k → AreUnbroken l set (k + 1)
none_more l set k image lt is none kept =
    sym (here l set k image lt is ∙ ap (λ (o : Option Break). option_or o (in_each (breaks_at l set) (k + 1) (drop (k + 1) (enumerate_from 0 set.images)))) none) ∙ kept

pub none_at_all : (l : Laid) (set : ImageSet) (k : ℕ) → length set.images ≤ k → AreUnbroken l set k → rewrite_break l set ≡ None
unfolding in_each
none_at_all l set k past kept =
    sym kept ∙ ap (λ (ps : List (ℕ × Img)). in_each (breaks_at l set) k ps) (drop_all k (enumerate_from 0 set.images) (omega (arith, past, length-enumerate_from 0 set.images)))

pub refused_at : (l : Laid) (set : ImageSet) (k : ℕ) (image : Img) (fault : SetFault) → k < length set.images → image ≡ get_or set.images k image → IsSetRefusal (option_map (in_image k) (image_break l set k)) fault → AreUnbroken l set k
    → IsSetRefusal (rewrite_break l set) fault
refused_at l set k image Memory lt is refused kept = tt
refused_at l set k image (Broken site) lt is refused kept =
    sym kept ∙ (here l set k image lt is ∙ ap (λ (o : Option Break). option_or o (in_each (breaks_at l set) (k + 1) (drop (k + 1) (enumerate_from 0 set.images)))) refused)

-- ---- the parts of the mappings

abbrev pub AreBehind : Parts → List Img → ℕ → Type 0
AreBehind parts images k = (m : Mapping) → end_of parts m ≡ image_start images (take k images) m

pub starts_behind : (l : Laid) (images : List Img) (parts : Parts) (m : Mapping) → IsLayout l images → span_of parts m ≡ record { at = (range_in l m).at; len = 0 } → end_of parts m ≡ image_start images (take 0 images) m
starts_behind l images parts m layout is =
    let range : (range_in l m).at ≡ mapping_start m images = ap (λ (laid : Laid). (range_in laid m).at) layout.is ∙ ap (λ (s : Span). s.at) (range_in-is images m) in
    let end : end_of parts m ≡ (range_in l m).at + 0 = ap (λ (s : Span). s.at + s.len) is in
    omega (arith, end, range, image_start-first m images)

pub all_start : (l : Laid) (images : List Img) (parts : Parts) → IsLayout l images → parts.text ≡ record { at = l.text.at; len = 0 } → parts.writable ≡ record { at = l.writable.at; len = 0 } → parts.fixed ≡ record { at = l.fixed.at; len = 0 }
    → AreBehind parts images 0
all_start l images parts layout text writable fixed Text = starts_behind l images parts Text layout text
all_start l images parts layout text writable fixed Writable = starts_behind l images parts Writable layout writable
all_start l images parts layout text writable fixed Fixed = starts_behind l images parts Fixed layout fixed

pub ends_low : (l : Laid) (images : List Img) (parts : Parts) (k : ℕ) (image : Img) (m : Mapping) → IsLayout l images → k < length images → image ≡ get_or images k image → AreBehind parts images k → end_of parts m ≤ 2 ^ 47
ends_low l images parts k image m layout lt is behind =
    omega (arith, behind m, image_ends m images k image lt is, mapping-ends m images, none-fits images layout.fits)

pub span_is : (images : List Img) (old new : Parts) (k : ℕ) (image : Img) (m : Mapping) → AreBehind old images k → (span_of new m).at ≡ end_of old m → (span_of new m).len ≡ segments_room m image.segments → span_of new m ≡ span_in m images k image
span_is images old new k image m behind at len = λ j. record { at = (at ∙ behind m) j; len = len j }

pub ends_behind : (images : List Img) (old new : Parts) (k : ℕ) (image : Img) (m : Mapping) → k < length images → image ≡ get_or images k image → AreBehind old images k → (span_of new m).at ≡ end_of old m → (span_of new m).len ≡ segments_room m image.segments
    → end_of new m ≡ image_start images (take (k + 1) images) m
ends_behind images old new k image m lt is behind at len = omega (arith, at, len, behind m, image_start-next m images k image lt is)
