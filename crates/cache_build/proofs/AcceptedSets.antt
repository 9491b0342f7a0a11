-- Files that break no rule make images that can be built, up to what their words and their linkedit say.
use Rattle.std.proofs.Common.{subst, ◌≡◌, ◌≤◌, ◌<◌, ℕ, None, List, [], length, get_or, All, refl, sym, ap, ◌∙◌, arith, inl, inr}
use Rattle.std.specs.Option.{option_or}
use Rattle.std.proofs.lemmas.Bool.{cases_lt}
use Rattle.std.proofs.lemmas.List.{get_or_default, length-map, get_or-map, get_or_past}
use Rattle.dsc_base.specs.declared.rule.Rule.TheVariants.{ExportOutside}
use Rattle.dsc_base.specs.Refusals.{broken, in_image, in_each}
use Rattle.macho_image.specs.declared.form.Form.TheVariants.{Standalone}
use Rattle.macho_image.specs.Records.{Img}
use Rattle.macho_image.specs.Macho.{header_in, image_of, image_from}
use Rattle.macho_image.specs.Rules.{breaks_wrong_kind}
use Rattle.macho_image.specs.Breaks.{form_of}
use Rattle.macho_image.specs.Segments.{segments_at}
use Rattle.macho_image.proofs.Unbroken.{image_unbroken, kind_unbroken, form_is, or_none}
use Rattle.cache_layout.specs.Layouts.{layout_of, layout_break}
use Rattle.slide_chain.specs.Making.{chains_break}
use Rattle.export_trie.specs.declared.export.Export.{Export}
use Rattle.prebind.specs.Sets.{ImageSet, image_set, lists_of}
use Rattle.prebind.specs.Places.{exports_in, strays, export_break}
use Rattle.prebind.specs.Agree.{HaveExportsInside}
use Rattle.prebind.proofs.SetLaws.{sound_set}
use Rattle.load_model.specs.Phases.{dylib_of, images_of, shape_break, files_break}
use Rattle.load_model.proofs.AcceptedFiles.{AreAccepted, accepted_files}
use Rattle.macho_image.proofs.SliceLaws.{dylib_bytes}
use Rattle.load_model.proofs.SoundSets.{unbroken_shape, each_none, sound_images}
use Rattle.ref_rewrite.specs.Breaks.{rewrite_break}
use Rattle.linkedit_merge.specs.Linkedit.{merge_break}
use Rattle.cache_build.specs.Breaks.{behind_layout}
use Rattle.cache_build.proofs.BuildableSets.{IsReadOf, IsAccepted, IsBuildable, set_chained, set_slide, set_shares}
use Rattle.cache_build.proofs.ByteLaws.{segment_bytes}

-- files are bytes
abbrev pub AreFiles : List (List ℕ) → Type 0
AreFiles files = All (λ (f : List ℕ). All (λ (b : ℕ). b < 256) f) files

alone : (f : List ℕ) → breaks_wrong_kind Standalone (header_in f 0) ≡ None → form_of (image_of f 0).header ≡ Standalone
unfolding image_from
alone f none = form_is Standalone (header_in f 0) none

standalone : (files : List (List ℕ)) → in_each shape_break 0 files ≡ None → (k : ℕ) (i : Img) → k < length (images_of files) → i ≡ get_or (images_of files) k i → form_of i.header ≡ Standalone
standalone files none k i lt at =
    let inside : k < length files = omega (arith, lt, length-map files (λ (f : List ℕ). image_of (dylib_of f) 0)) in
    let file : List ℕ = get_or files k [] in
    let f : List ℕ = dylib_of file in
    let own : get_or files k [] ≡ get_or files k file = get_or_default files k [] file inside in
    let unbroken = image_unbroken Standalone f 0 (unbroken_shape file (each_none 0 files k file none inside own)) in
    let is : i ≡ image_of f 0 = at ∙ get_or-map (λ (g : List ℕ). image_of (dylib_of g) 0) files k [] i inside in
    ap (λ (j : Img). form_of j.header) is ∙ alone f (kind_unbroken Standalone (header_in f 0) unbroken.kind).kind

read_of : (f : List ℕ) → All (λ (b : ℕ). b < 256) f → IsReadOf (image_of f 0)
unfolding image_from
read_of f plain = record { bytes = f; plain = plain; streams = refl; groups = refl }

-- each image is read of its file
each_read : (files : List (List ℕ)) → AreFiles files → (k : ℕ) (i : Img) → k < length (images_of files) → i ≡ get_or (images_of files) k i → IsReadOf i
each_read files all k i lt at =
    let inside : k < length files = omega (arith, lt, length-map files (λ (f : List ℕ). image_of (dylib_of f) 0)) in
    let f : List ℕ = dylib_of (get_or files k []) in
    let is : i ≡ image_of f 0 = at ∙ get_or-map (λ (g : List ℕ). image_of (dylib_of g) 0) files k [] i inside in
    subst IsReadOf (sym is) (read_of f (dylib_bytes (get_or files k []) (all k [] inside)))

pub accepted_set : (files : List (List ℕ)) → length files ≤ 4096 → AreFiles files → files_break files ≡ None → layout_break (images_of files) ≡ None → IsAccepted (images_of files)
accepted_set files few bytes none fits =
    let accepted : AreAccepted files = accepted_files files none in
    let long : length (images_of files) ≡ length files = length-map files (λ (f : List ℕ). image_of (dylib_of f) 0) in
    record {
      few = omega (arith, few, long);
      sound = λ k d lt. sound_images 0 files accepted.shapes k d lt;
      alone = standalone files accepted.shapes;
      read = each_read files bytes;
      streams = accepted.streams;
      tables = accepted.tables;
      set = sound_set (images_of files) (omega (arith, few, long)) accepted.streams accepted.linked;
      exports = accepted.exports;
      words = accepted.words;
      layout = fits;
      bytes = segment_bytes files bytes;
    }

-- ---- their exports

-- an image that there is none of has none
pub no_export : (set : ImageSet) (k : ℕ) → length set.streams ≤ k → export_break set k ≡ None
unfolding export_break
no_export set k past =
    let none : get_or (exports_in set.streams) k [] ≡ [] =
    get_or_past (exports_in set.streams) k [] (let long : length (exports_in set.streams) ≡ length set.streams = length-map set.streams _ in omega (arith, past, long)) in
    ap (λ (es : List Export). Rattle.std.specs.Prelude.option_map (in_image k) (broken ExportOutside (Rattle.std.specs.List.position (λ (e : Export). strays (segments_at set.images k) e.target) es))) none

streams_long : (js : List Img) → length (image_set js).streams ≡ length js
unfolding image_set
streams_long js = length-map js lists_of

pub exports_inside : (is : List Img) → IsAccepted is → HaveExportsInside (image_set is)
exports_inside is accepted k = elim (cases_lt k (length is)) [
  | inl inside ↦ accepted.exports k inside
  | inr past ↦ no_export (image_set is) k (let long : length (image_set is).streams ≡ length is = streams_long is in omega (arith, past, long))
]

-- ---- what they break behind their layout

pub buildable_set : (bits : ℕ) (is : List Img) → 1 ≤ bits → bits ≤ 16 → IsAccepted is → behind_layout bits (layout_of is) (image_set is) ≡ None → IsBuildable bits is
unfolding behind_layout image_set
buildable_set bits is some most accepted none =
    let one = or_none (rewrite_break (layout_of is) (image_set is)) _ none in
    let two = or_none (chains_break bits (layout_of is).writable.len (set_chained is)) _ one.1 in
    let three = or_none (merge_break (layout_of is) (length (set_slide bits is)) (set_shares is)) None two.1 in
    record { some = some; most = most; accepted = accepted; rewritten = one.0; chains = two.0; merged = three.0 }
