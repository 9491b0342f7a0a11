-- What is taken of a set, step by step, is what its cache is filled with.
use Rattle.std.proofs.Common.{◌≡◌, ℕ, List, map, length, ap, ap₂, ◌∙◌}
use Rattle.std.specs.List.{flat_map}
use Rattle.dsc_base.specs.Edits.{put_all}
use Rattle.macho_edit.specs.declared.spots.LinkSpots.{LinkSpots}
use Rattle.nlist_table.specs.Symbols.{Tabs, tables_of}
use Rattle.cache_header.specs.Spelling.{head_bytes}
use Rattle.cache_layout.specs.declared.mapping.Mapping.{Mapping}
use Rattle.cache_layout.specs.Layouts.{Laid}
use Rattle.cache_layout.specs.Apart.{range_in}
use Rattle.cache_layout.specs.Parts.{mapping_part}
use Rattle.slide_chain.specs.Chains.{Slide}
use Rattle.slide_chain.specs.Info.{info_bytes}
use Rattle.slide_chain.specs.Making.{info_of}
use Rattle.prebind.specs.declared.resolved.PlacedWord.{PlacedWord}
use Rattle.prebind.specs.Sets.{ImageSet}
use Rattle.ref_rewrite.specs.Pages.{all_pages, part_of, all_edits}
use Rattle.ref_rewrite.specs.Planned.{plans_of, with_headers}
use Rattle.ref_rewrite.specs.Plans.{Plan}
use Rattle.ref_rewrite.specs.Rewritten.{edits_in, joined}
use Rattle.linkedit_merge.specs.Shares.{Share, shares_of}
use Rattle.linkedit_merge.specs.Linkedit.{linkedit_start, linkedit_of, spots_of}
use Rattle.cache_build.specs.declared.frame.Frame.{Frame}
use Rattle.cache_build.specs.Cache.{headers_of}
use Rattle.cache_build.specs.Head.{head_of}
use Rattle.cache_build.specs.Places.{shares_in, frame_of}
use Rattle.cache_build.proofs.GatherLaws.{words_chained}
use Rattle.cache_build.proofs.WholeCaches.{IsGathered, edits_are}
use Rattle.prebind.specs.Placed.{AreListsPlaced}

-- what each step says, where it is handed what the steps before it gave
pub record AreTaken (bits : ℕ) (l : Laid) (set : ImageSet) (tables : List Tabs) (placed : List (List PlacedWord)) (plans passed : List Plan) (words given : List ℕ) (size : ℕ) (info : Slide) (slide_info : List ℕ) (slide : ℕ) (linkedit : List ℕ) (spots : List LinkSpots) (frame : Frame) (head : List ℕ) : Type 0 where
  pub placed_all : AreListsPlaced set placed
  pub tables_are : tables ≡ map tables_of set.images
  pub planned : plans ≡ plans_of l set placed
  pub plans_passed : passed ≡ plans
  pub words_are : words ≡ flat_map (λ (p : Plan). p.words) passed
  pub words_given : given ≡ words
  pub size_is : size ≡ l.writable.len
  pub made : info ≡ info_of bits size given
  pub told : slide_info ≡ info_bytes (info_of bits size given)
  pub slide_is : slide ≡ length slide_info
  pub merged : linkedit ≡ linkedit_of (shares_of set.images tables l.moves)
  pub spotted : spots ≡ spots_of (linkedit_start l slide) (shares_of set.images tables l.moves)
  pub framed : frame ≡ frame_of l slide (shares_of set.images tables l.moves)
  pub head_is : head ≡ head_bytes (head_of l frame set.images)
  pub ranges : (m : Mapping) → joined (part_of m) (with_headers (headers_of l spots set.images) plans)
      ≡ put_all (edits_in (range_in l m) (all_edits plans)) (mapping_part m (all_pages (headers_of l spots set.images) set.images) set.images)

pub gathered : (bits : ℕ) (l : Laid) (set : ImageSet) (tables : List Tabs) (placed : List (List PlacedWord)) (plans passed : List Plan) (words given : List ℕ) (size : ℕ) (info : Slide) (slide_info : List ℕ) (slide : ℕ) (linkedit : List ℕ) (spots : List LinkSpots) (frame : Frame) (head : List ℕ)
    → AreTaken bits l set tables placed plans passed words given size info slide_info slide linkedit spots frame head
    → IsGathered bits l set plans (headers_of l spots set.images) frame head info words slide_info linkedit
gathered bits l set tables placed plans passed words given size info slide_info slide linkedit spots frame head t =
    let shares : shares_of set.images tables l.moves ≡ shares_in l set.images = ap (λ (ts : List Tabs). shares_of set.images ts l.moves) t.tables_are in
    record {
      edits_all = ap all_edits t.planned ∙ edits_are l set placed t.placed_all;
      words_all = words_chained l set placed plans passed words t.placed_all t.planned t.plans_passed t.words_are;
      info_made = t.made ∙ ap₂ (λ (n : ℕ) (ws : List ℕ). info_of bits n ws) t.size_is t.words_given;
      info_told = t.told ∙ ap₂ (λ (n : ℕ) (ws : List ℕ). info_bytes (info_of bits n ws)) t.size_is t.words_given;
      linkedit_is = t.merged ∙ ap linkedit_of shares;
      framed = t.framed ∙ ap₂ (λ (n : ℕ) (ss : List Share). frame_of l n ss) t.slide_is shares;
      headers_are = ap (λ (ss : List LinkSpots). headers_of l ss set.images) (t.spotted ∙ ap₂ (λ (n : ℕ) (ss : List Share). spots_of (linkedit_start l n) ss) t.slide_is shares);
      head_is = t.head_is;
      ranges = t.ranges;
    }
