-- What the links and an index of a set tell of it.
use Rattle.std.proofs.Common.{◌≡◌, ◌<◌, ◌^◌, ◌+◌, ℕ, List, [], ◌∷◌, length, map, get_or, sym, ap, subst, ◌∙◌, arith, Option}
use Rattle.std.specs.List.{All}
use Rattle.std.proofs.lemmas.List.{length-map}
use Rattle.std.proofs.lemmas.List.Elements.{All-nil, All-cons, All-head, All-tail}
use Rattle.macho_image.specs.Records.{Img}
use Rattle.macho_image.proofs.SoundSegments.{few_segments}
use Rattle.export_trie.specs.Exports.{exports_of}
use Rattle.export_trie.specs.declared.export.Export.{Export}
use Rattle.export_trie.specs.declared.export.Target.{Target}
use Rattle.dep_closure.specs.declared.dep.Dep.{Dep}
use Rattle.dep_closure.specs.declared.dep.Dep.TheVariants as deps
use Rattle.dep_closure.specs.Linked.{Linked, dependency_at, AreLinks}
use Rattle.prebind.specs.Sets.{StreamLists, ImageSet}
use Rattle.prebind.specs.Places.{exports_in}
use Rattle.prebind.specs.Resolves.{Step, first_exporting, dependency_step, step}
use Rattle.prebind.specs.Probes.{searched, dependency_probes, step_probes}
use Rattle.prebind.specs.Indexed.{span_of, FrameOf, frame_of, WasRead, IndexOf, AreOf}
use Rattle.prebind.specs.Framed.{framed_found}
use Rattle.prebind.proofs.SoundLaws.{sound_links}
use Rattle.prebind.proofs.FrameLaws.{framed_is}

pub many_frames : (set : ImageSet) (links : Linked) (indexed : IndexOf) → AreOf set links indexed → length indexed.frames ≡ length set.images
many_frames set links indexed are = ap (λ (fs : List FrameOf). length fs) are.index.frames ∙ length-map set.images frame_of

-- sets of one index have as many images
pub within_each : (set other : ImageSet) (links : Linked) (indexed : IndexOf) (k : ℕ) → AreOf set links indexed → AreOf other links indexed → k < length other.images → k < length set.images
within_each set other links indexed k are others lt = omega (arith, many_frames set links indexed are, many_frames other links indexed others, lt)

pub many_names : (set : ImageSet) (links : Linked) (indexed : IndexOf) → AreOf set links indexed → length indexed.names ≡ length set.images
many_names set links indexed are =
    ap (λ (ess : List (List Export)). length ess) are.index.names
    ∙ (length-map set.streams (λ (s : StreamLists). exports_of s.exports) ∙ are.index.sound.many)

pub links_of_set : (set : ImageSet) (links : Linked) (indexed : IndexOf) → AreOf set links indexed → AreLinks (length set.images) links
links_of_set set links indexed are = subst (λ (l : Linked). AreLinks (length set.images) l) (sym are.linked) (sound_links set are.index.sound)

-- the segments of each image are few
abbrev AreFew : FrameOf → Type 0
AreFew f = length f.segments < 2 ^ 32

few_spans : (images : List Img) → All WasRead images → All AreFew (map frame_of images)
few_spans [] read = All-nil AreFew
few_spans (image ∷ images) read =
    let own = All-head WasRead image images read in
    let few = few_segments image own.sound own.bytes in
    All-cons AreFew (frame_of image) (map frame_of images) (omega (arith, few, length-map image.segments span_of)) (few_spans images (All-tail WasRead image images read))

pub frames_few : (set : ImageSet) (links : Linked) (indexed : IndexOf) → AreOf set links indexed → All (λ (f : FrameOf). length f.segments < 2 ^ 32) indexed.frames
frames_few set links indexed are = subst (λ (fs : List FrameOf). All AreFew fs) (sym are.index.frames) (few_spans set.images are.index.read)

-- the step of a resolution, by what an ordinal names
pub step_is : (set : ImageSet) (links : Linked) (indexed : IndexOf) (image ordinal : ℕ) (name : List ℕ) (d : Dep) → AreOf set links indexed → d ≡ dependency_at links image ordinal → dependency_step set name d ≡ step set image ordinal name
unfolding step
step_is set links indexed image ordinal name d are is = ap (λ (e : Dep). dependency_step set name e) (is ∙ ap (λ (l : Linked). dependency_at l image ordinal) are.linked)

pub probes_are : (set : ImageSet) (links : Linked) (indexed : IndexOf) (image ordinal : ℕ) (name : List ℕ) (d : Dep) → AreOf set links indexed → d ≡ dependency_at links image ordinal → dependency_probes set name d ≡ step_probes set image ordinal name
unfolding step_probes
probes_are set links indexed image ordinal name d are is = ap (λ (e : Dep). dependency_probes set name e) (is ∙ ap (λ (l : Linked). dependency_at l image ordinal) are.linked)

-- a search order gone through by the index
pub found_by : (set : ImageSet) (links : Linked) (indexed : IndexOf) (name : List ℕ) (j : ℕ) → AreOf set links indexed → framed_found indexed.frames (first_exporting indexed.names name (get_or links.orders j [])) ≡ dependency_step set name (deps.Image j)
found_by set links indexed name j are =
    (λ i. framed_found (are.index.frames i) (first_exporting (are.index.names i) name (get_or (are.linked i).orders j [])))
    ∙ framed_is set.images (first_exporting (exports_in set.streams) name (get_or set.links.orders j []))

pub searched_by : (set : ImageSet) (links : Linked) (indexed : IndexOf) (name : List ℕ) (j : ℕ) → AreOf set links indexed → searched indexed.names name (get_or links.orders j []) ≡ dependency_probes set name (deps.Image j)
searched_by set links indexed name j are = λ i. searched (are.index.names i) name (get_or (are.linked i).orders j [])

-- the step that goes through a search order, and the images that it asks
pub found_image : (set : ImageSet) (links : Linked) (indexed : IndexOf) (image ordinal first : ℕ) (name order : List ℕ) (frames : List FrameOf) (names : List (List Export)) (found : Option (ℕ × Target)) (s : Step) → AreOf set links indexed
    → deps.Image first ≡ dependency_at links image ordinal → frames ≡ indexed.frames → names ≡ indexed.names → order ≡ get_or links.orders first [] → found ≡ first_exporting names name order → s ≡ framed_found frames found → s ≡ step set image ordinal name
found_image set links indexed image ordinal first name order frames names found s are named frames_are names_are order_is found_is is =
    is
    ∙ (ap (λ (f : Option (ℕ × Target)). framed_found frames f) found_is
    ∙ ((λ i. framed_found (frames_are i) (first_exporting (names_are i) name (order_is i)))
    ∙ (found_by set links indexed name first are ∙ step_is set links indexed image ordinal name (deps.Image first) are named)))

pub searched_image : (set : ImageSet) (links : Linked) (indexed : IndexOf) (image ordinal first : ℕ) (name order : List ℕ) (names : List (List Export)) (taken now : ℕ) → AreOf set links indexed → deps.Image first ≡ dependency_at links image ordinal
    → names ≡ indexed.names → order ≡ get_or links.orders first [] → now ≡ taken + searched names name order → now ≡ taken + step_probes set image ordinal name
searched_image set links indexed image ordinal first name order names taken now are named names_are order_is is =
    is ∙ ap (λ (n : ℕ). taken + n) ((λ i. searched (names_are i) name (order_is i)) ∙ (searched_by set links indexed name first are ∙ probes_are set links indexed image ordinal name (deps.Image first) are named))
