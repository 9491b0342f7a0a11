-- Files that break no rule up to their layout can be gathered, and what their cache is filled with is what is built of them.
use Rattle.std.proofs.Common.{◌≡◌, ◌≤◌, ◌<◌, ℕ, None, List, Vec, Global, length, map, All, sym, ap, ap₂, ◌∙◌, subst}
use Rattle.macho_image.specs.Records.{Img}
use Rattle.nlist_table.specs.Symbols.{Tabs, tables_of}
use Rattle.dep_closure.specs.Linked.{Linked, links_of}
use Rattle.prebind.specs.declared.resolved.PlacedWord.{PlacedWord}
use Rattle.prebind.specs.Sets.{StreamLists, ImageSet, lists_of, image_set}
use Rattle.cache_layout.specs.Layouts.{Laid, layout_of, layout_break}
use Rattle.load_model.specs.Phases.{images_of, files_break}
use Rattle.cache_build.specs.Cache.{cache_from}
use Rattle.cache_build.specs.Filling.{IsPrepared, CanBuild}
use Rattle.cache_build.specs.Ready.{IsReady}
use Rattle.cache_build.proofs.AcceptedSets.{accepted_set}
use Rattle.cache_build.proofs.BuildLaws.{set_behind}
use Rattle.cache_build.proofs.BuildableSets.{IsAccepted}
use Rattle.cache_build.proofs.FreeBits.{can_build}
use Rattle.cache_build.proofs.MovedSpots.{can_move_each}
use Rattle.cache_build.proofs.PreparedSets.{lists_held, prepared}
use Rattle.cache_build.proofs.SetEdits.{has_edits}
use Rattle.load_model.specs.Placed.{AreAllPlaced}
use Rattle.prebind.proofs.PlacedLists.{items_placed}

-- what a build has at hand of files, once they are read and laid out
pub record IsRead (files : List (List ℕ)) (images laid_images : List Img) (streams : List StreamLists) (tables : List Tabs) (links : Linked) (words : List (Vec PlacedWord Global)) (l : Laid) : Type 0 where
  pub few : length files ≤ 4096
  pub bytes : All (λ (f : List ℕ). All (λ (b : ℕ). b < 256) f) files
  pub images_are : images ≡ images_of files
  pub streams_are : streams ≡ map lists_of (images_of files)
  pub tables_are : tables ≡ map tables_of (images_of files)
  pub links_are : links ≡ links_of (images_of files)
  pub words_placed : AreAllPlaced (image_set (images_of files)) words
  pub unbroken : files_break files ≡ None
  pub laid_of : laid_images ≡ images_of files
  pub laid : l ≡ layout_of laid_images
  pub fits : layout_break laid_images ≡ None

-- the set as it is handed on
abbrev pub handed : List Img → List StreamLists → Linked → ImageSet
handed images streams links = record { images = images; streams = streams; links = links }

read_set : (files : List (List ℕ)) (images laid_images : List Img) (streams : List StreamLists) (tables : List Tabs) (links : Linked) (words : List (Vec PlacedWord Global)) (l : Laid) → IsRead files images laid_images streams tables links words l
    → handed images streams links ≡ image_set (images_of files)
unfolding image_set
read_set files images laid_images streams tables links words l r =
    ap₂ (λ (is : List Img) (ss : List StreamLists). handed is ss links) r.images_are r.streams_are
    ∙ ap (λ (ls : Linked). handed (images_of files) (map lists_of (images_of files)) ls) r.links_are

read_layout : (files : List (List ℕ)) (images laid_images : List Img) (streams : List StreamLists) (tables : List Tabs) (links : Linked) (words : List (Vec PlacedWord Global)) (l : Laid) → IsRead files images laid_images streams tables links words l
    → l ≡ layout_of (images_of files)
read_layout files images laid_images streams tables links words l r = r.laid ∙ ap layout_of r.laid_of

read_accepted : (files : List (List ℕ)) (images laid_images : List Img) (streams : List StreamLists) (tables : List Tabs) (links : Linked) (words : List (Vec PlacedWord Global)) (l : Laid) → IsRead files images laid_images streams tables links words l
    → IsAccepted (images_of files)
read_accepted files images laid_images streams tables links words l r = accepted_set files r.few r.bytes r.unbroken (ap layout_break (sym r.laid_of) ∙ r.fits)

read_prepared : (files : List (List ℕ)) (images laid_images : List Img) (streams : List StreamLists) (tables : List Tabs) (links : Linked) (words : List (Vec PlacedWord Global)) (l : Laid) → IsRead files images laid_images streams tables links words l
    → IsPrepared (handed images streams links) tables (lists_held words) l
read_prepared files images laid_images streams tables links words l r =
    let is : List Img = images_of files in
    let accepted : IsAccepted (images_of files) = read_accepted files images laid_images streams tables links words l r in
    let all : IsPrepared (image_set (images_of files)) (map tables_of (images_of files)) (lists_held words) (layout_of (images_of files)) = prepared is (lists_held words) accepted (items_placed (λ (v : Vec PlacedWord Global). v.items) (image_set is) words r.words_placed) in
    subst (λ (s : ImageSet). IsPrepared s tables (lists_held words) l) (sym (read_set files images laid_images streams tables links words l r))
    (subst (λ (ts : List Tabs). IsPrepared (image_set is) ts (lists_held words) l) (sym r.tables_are)
    (subst (λ (m : Laid). IsPrepared (image_set is) (map tables_of is) (lists_held words) m) (sym (read_layout files images laid_images streams tables links words l r)) all))

read_can : (bits : ℕ) (files : List (List ℕ)) (images laid_images : List Img) (streams : List StreamLists) (tables : List Tabs) (links : Linked) (words : List (Vec PlacedWord Global)) (l : Laid) → (1 ≤ bits) × (bits ≤ 16) → IsRead files images laid_images streams tables links words l
    → CanBuild bits l (handed images streams links)
read_can bits files images laid_images streams tables links words l some r =
    let is : List Img = images_of files in
    let accepted : IsAccepted (images_of files) = read_accepted files images laid_images streams tables links words l r in
    let all : CanBuild bits (layout_of (images_of files)) (image_set (images_of files)) = can_build bits is some.0 some.1 accepted (has_edits bits is some.0 some.1 accepted) (can_move_each bits is accepted) in
    subst (λ (s : ImageSet). CanBuild bits l s) (sym (read_set files images laid_images streams tables links words l r))
    (subst (λ (m : Laid). CanBuild bits m (image_set is)) (sym (read_layout files images laid_images streams tables links words l r)) all)

-- so it is ready for what is built of it, and so it stays wherever it is handed on
pub read_ready : (files : List (List ℕ)) (images laid_images : List Img) (streams : List StreamLists) (tables : List Tabs) (links : Linked) (words : List (Vec PlacedWord Global)) (l : Laid) → IsRead files images laid_images streams tables links words l
    → (bits : ℕ) → (1 ≤ bits) × (bits ≤ 16) → IsReady bits files (handed images streams links) tables (lists_held words) l
read_ready files images laid_images streams tables links words l r bits some =
    let set : handed images streams links ≡ image_set (images_of files) = read_set files images laid_images streams tables links words l r in
    record {
      prepared = read_prepared files images laid_images streams tables links words l r;
      can = read_can bits files images laid_images streams tables links words l some r;
      breaks = set_behind bits files laid_images l (handed images streams links) r.laid_of set r.laid r.unbroken r.fits;
      cache = ap₂ (λ (m : Laid) (s : ImageSet). cache_from bits m s) (read_layout files images laid_images streams tables links words l r) set;
    }

pub ready_handed : (bits : ℕ) (files : List (List ℕ)) (images images' : List Img) (streams streams' : List StreamLists) (tables tables' : List Tabs) (links : Linked) (words words' : List (Vec PlacedWord Global)) (l : Laid)
    → IsReady bits files (handed images streams links) tables (lists_held words) l → images' ≡ images → streams' ≡ streams → tables' ≡ tables → words' ≡ words → IsReady bits files (handed images' streams' links) tables' (lists_held words') l
ready_handed bits files images images' streams streams' tables tables' links words words' l ready images_are streams_are tables_are words_are =
    subst (λ (is : List Img). IsReady bits files (handed is streams' links) tables' (lists_held words') l) (sym images_are)
    (subst (λ (ss : List StreamLists). IsReady bits files (handed images ss links) tables' (lists_held words') l) (sym streams_are)
    (subst (λ (ts : List Tabs). IsReady bits files (handed images streams links) ts (lists_held words') l) (sym tables_are)
    (subst (λ (ws : List (Vec PlacedWord Global)). IsReady bits files (handed images streams links) tables (lists_held ws) l) (sym words_are) ready)))
