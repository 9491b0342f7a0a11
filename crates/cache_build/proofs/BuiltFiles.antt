-- Files that break no rule make a cache that corresponds to them, whose mappings are as long as it, and which is sound.
use Rattle.std.proofs.Common.{◌≡◌, ◌≤◌, ℕ, ◌+◌, ◌-◌, None, List, length, Vec, Global, sym, ap, ◌∙◌, arith}
use Rattle.std.specs.List.{sum_by}
use Rattle.std.proofs.lemmas.List.{length-map}
use Rattle.macho_image.specs.Records.{Img}
use Rattle.cache_header.specs.declared.head.Mapping.{Mapping}
use Rattle.cache_header.specs.Reading.{span}
use Rattle.cache_layout.specs.Layouts.{layout_of, layout_break}
use Rattle.cache_layout.specs.Apart.{AreInTurn}
use Rattle.cache_layout.proofs.PlaceLaws.{are_in_turn}
use Rattle.prebind.specs.Sets.{image_set}
use Rattle.load_model.specs.Mapped.{three_mappings}
use Rattle.load_model.specs.Phases.{contents, images_of, files_break}
use Rattle.cache_build.specs.Breaks.{behind_layout, set_break}
use Rattle.cache_build.specs.Built.{built}
use Rattle.cache_build.specs.Cache.{cache_of}
use Rattle.cache_build.specs.Always.{CorrespondsAlways}
use Rattle.cache_build.specs.Sound.{IsSoundCache}
use Rattle.cache_build.proofs.BuildableSets.{IsBuildable, set_span}
use Rattle.cache_build.proofs.CacheFacts.{HasEdits, IsCache}
use Rattle.cache_build.proofs.AcceptedSets.{AreFiles, accepted_set, buildable_set}
use Rattle.cache_build.proofs.SetEdits.{has_edits}
use Rattle.cache_build.proofs.ToldCaches.{mappings_is}
use Rattle.cache_build.proofs.CacheBytes.{is_cache}
use Rattle.cache_build.proofs.CachedSets.{cached_images}
use Rattle.cache_build.proofs.MappedWords.{IsCachedSet, fixed_ends}
use Rattle.cache_build.proofs.CacheTheorem.{always}
use Rattle.cache_build.proofs.SoundCaches.{sound_cache}
use Rattle.cache_build.proofs.SoundImages.{images_sound}
use Rattle.cache_check.specs.Images.{images_finding}
use Rattle.cache_check.specs.Views.{view_of}
use Rattle.macho_image.proofs.Unbroken.{or_none}

-- what a set that breaks no rule has, by phases
pub record BreaksNone (bits : ℕ) (files : List (List ℕ)) : Type 0 where
  pub read : files_break files ≡ None
  pub layout : layout_break (images_of files) ≡ None
  pub behind : behind_layout bits (layout_of (images_of files)) (image_set (images_of files)) ≡ None

pub set_parts : (bits : ℕ) (files : List (List ℕ)) → set_break bits files ≡ None → BreaksNone bits files
unfolding set_break
set_parts bits files none =
    let is : List Img = images_of files in
    let one = or_none (files_break files) _ none in
    let two = or_none (layout_break is) _ one.1 in
    let three = or_none (behind_layout bits (layout_of is) (image_set is)) None two.1 in
    record { read = one.0; layout = two.0; behind = three.0 }

buildable : (bits : ℕ) (files : List (List ℕ)) → 1 ≤ bits → bits ≤ 16 → length files ≤ 4096 → AreFiles files → set_break bits files ≡ None → IsBuildable bits (images_of files)
buildable bits files some most few bytes none =
    let parts : BreaksNone bits files = set_parts bits files none in
    buildable_set bits (images_of files) some most (accepted_set files few bytes parts.read parts.layout) parts.behind

cached_set : (bits : ℕ) (is : List Img) → IsBuildable bits is → IsCachedSet bits is
cached_set bits is ready =
    let edits : HasEdits bits is = has_edits bits is ready.some ready.most ready.accepted ready.rewritten in
    let cache : IsCache bits is = is_cache bits is ready edits in
    record { ready = ready; edits = edits; cache = cache; images = λ k i lt at. cached_images bits is ready edits cache k i lt at }

few_of : (files : List (Vec ℕ Global)) → length files ≤ 4096 → length (contents files) ≤ 4096
few_of files few = omega (arith, few, length-map files (λ (f : Vec ℕ Global). f.items))

-- the caches of files in memory
pub files_correspond : (bits : ℕ) (files : List (Vec ℕ Global)) → (1 ≤ bits) × (bits ≤ 16) → (1 ≤ length files) × (length files ≤ 4096) → AreFiles (contents files) → set_break bits (contents files) ≡ None
    → CorrespondsAlways (contents files) (built bits (contents files))
files_correspond bits files fit few bytes none =
    always bits (contents files) (cached_set bits (images_of (contents files)) (buildable bits (contents files) fit.0 fit.1 (few_of files few.1) bytes none))

-- ---- their spans

three_sum : (a b c : ℕ) → sum_by (λ (m : Mapping). m.size) (three_mappings a b c) ≡ a + (b + c)
three_sum a b c = omega arith

span_is : (bits : ℕ) (is : List Img) → IsCachedSet bits is → span (cache_of bits is) ≡ length (cache_of bits is)
span_is bits is set =
    let turn : AreInTurn is (layout_of is) = are_in_turn is set.ready.accepted.layout in
    let end : (layout_of is).fixed.at + (layout_of is).fixed.len ≤ set_span bits is = fixed_ends bits is in
    ap (λ (ms : List Mapping). sum_by (λ (m : Mapping). m.size) ms) (mappings_is bits is set.ready)
    ∙ (three_sum (layout_of is).writable.at (layout_of is).writable.len (set_span bits is - ((layout_of is).writable.at + (layout_of is).writable.len))
    ∙ (omega (arith, turn.fixed, end) ∙ sym set.cache.long))

pub files_span : (bits : ℕ) (files : List (Vec ℕ Global)) → (1 ≤ bits) × (bits ≤ 16) → (1 ≤ length files) × (length files ≤ 4096) → AreFiles (contents files) → set_break bits (contents files) ≡ None
    → span (built bits (contents files)) ≡ length (built bits (contents files))
files_span bits files fit few bytes none =
    span_is bits (images_of (contents files)) (cached_set bits (images_of (contents files)) (buildable bits (contents files) fit.0 fit.1 (few_of files few.1) bytes none))

-- ---- what can be read back of them

pub files_sound : (bits : ℕ) (files : List (Vec ℕ Global)) → (1 ≤ bits) × (bits ≤ 16) → (1 ≤ length files) × (length files ≤ 4096) → AreFiles (contents files) → set_break bits (contents files) ≡ None
    → IsSoundCache (built bits (contents files))
files_sound bits files fit few bytes none =
    sound_cache bits (images_of (contents files)) (cached_set bits (images_of (contents files)) (buildable bits (contents files) fit.0 fit.1 (few_of files few.1) bytes none))

pub files_images : (bits : ℕ) (files : List (Vec ℕ Global)) → (1 ≤ bits) × (bits ≤ 16) → (1 ≤ length files) × (length files ≤ 4096) → AreFiles (contents files) → set_break bits (contents files) ≡ None
    → images_finding (view_of (built bits (contents files))) ≡ None
files_images bits files fit few bytes none =
    images_sound bits (images_of (contents files)) (cached_set bits (images_of (contents files)) (buildable bits (contents files) fit.0 fit.1 (few_of files few.1) bytes none))
