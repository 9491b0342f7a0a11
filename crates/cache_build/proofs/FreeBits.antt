-- Once pointers are set in data, the bits of the distance are free in each word that is chained; so accepted images can be built.
use Rattle.std.proofs.Common.{◌≡◌, ◌≤◌, ℕ, ◌-◌, ◌*◌, ◌^◌, None, List, length, sym, subst}
use Rattle.dsc_base.specs.declared.edits.Edit.{Edit}
use Rattle.dsc_base.specs.Edits.{put_all, AllInside}
use Rattle.macho_image.specs.Records.{Img}
use Rattle.cache_layout.specs.declared.mapping.Mapping.TheVariants.{Writable}
use Rattle.cache_layout.specs.Layouts.{layout_of}
use Rattle.cache_layout.specs.Parts.{mapping_part}
use Rattle.slide_chain.specs.Making.{AreOutside}
use Rattle.slide_chain.proofs.LinkedLaws.{set-outside}
use Rattle.prebind.specs.Sets.{image_set}
use Rattle.ref_rewrite.specs.Breaks.{rewrite_break}
use Rattle.ref_rewrite.specs.Pages.{all_pages}
use Rattle.ref_rewrite.specs.Planned.{AreSized}
use Rattle.ref_rewrite.specs.Rewritten.{edits_in}
use Rattle.linkedit_merge.specs.Linkedit.{merge_break}
use Rattle.cache_build.specs.Filling.{CanBuild, CanMoveEach}
use Rattle.cache_build.proofs.BuildableSets.{IsAccepted, set_edits, set_chained, set_slide, set_shares, set_spots}
use Rattle.cache_build.proofs.CacheFacts.{HasEdits}
use Rattle.cache_build.proofs.SizedPages.{data_long}

set_free : (bits : ℕ) (is : List Img) (headers : List (List ℕ)) → IsAccepted is → HasEdits bits is → AreSized headers is
    → AreOutside ((2 ^ bits - 1) * 2 ^ 48) (put_all (edits_in (layout_of is).writable (set_edits is)) (mapping_part Writable (all_pages headers is) is)) (set_chained is)
set_free bits is headers accepted has sized =
    let es : List Edit = edits_in (layout_of is).writable (set_edits is) in
    let bytes : List ℕ = mapping_part Writable (all_pages headers is) is in
    set-outside bits es bytes (set_chained is) (subst (λ (n : ℕ). AllInside n es) (sym (data_long headers is accepted.sound sized)) has.linked.inside) has.linked.apart has.linked.fit has.linked.pointers

pub can_build : (bits : ℕ) (is : List Img) → 1 ≤ bits → bits ≤ 16 → IsAccepted is → (rewrite_break (layout_of is) (image_set is) ≡ None → HasEdits bits is)
    → (merge_break (layout_of is) (length (set_slide bits is)) (set_shares is) ≡ None → CanMoveEach (layout_of is) (set_spots bits is) is) → CanBuild bits (layout_of is) (image_set is)
unfolding image_set
can_build bits is some most accepted edits moves = record {
  outside = λ none headers sized. set_free bits is headers accepted (edits none) sized;
  moves = moves;
}
