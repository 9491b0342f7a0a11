-- Where slide information and the merged linkedit of a set stand, and that its cache ends within the limit.
use Rattle.std.proofs.Common.{◌≡◌, ◌≤◌, ◌<◌, ℕ, ◌+◌, Bool, true, false, List, length, get_or, subst, sym, refl, arith, nat_lt, if◌then◌else◌, Some, None}
use Rattle.std.proofs.lemmas.Bool.Decides.{nat_tests}
use Rattle.dsc_base.specs.declared.fault.Break.{Break}
use Rattle.dsc_base.specs.Region.{paged}
use Rattle.macho_image.specs.Records.{Img}
use Rattle.macho_image.specs.Breaks.{IsSound}
use Rattle.cache_layout.specs.declared.mapping.Mapping.TheVariants.{Fixed}
use Rattle.cache_layout.specs.Layouts.{Laid, layout_of}
use Rattle.cache_layout.specs.Apart.{AreInTurn}
use Rattle.cache_layout.proofs.PlaceLaws.{are_in_turn}
use Rattle.linkedit_merge.specs.Shares.{Share}
use Rattle.linkedit_merge.specs.Linkedit.{linkedit_start, linkedit_size, merge_break}
use Rattle.linkedit_merge.proofs.StartLaws.{start_is}
use Rattle.cache_build.proofs.BuildableSets.{IsAccepted, IsBuildable, set_slide, set_shares, set_start, set_span}

pub sound_in : (is : List Img) → IsAccepted is → (k : ℕ) (i : Img) → k < length is → i ≡ get_or is k i → IsSound i
sound_in is accepted k i lt at = subst IsSound (sym at) (accepted.sound k i lt)

pub in_turn : (is : List Img) → IsAccepted is → AreInTurn is (layout_of is)
in_turn is accepted = are_in_turn is accepted.layout

-- a linkedit that breaks no rule ends within the limit
ends_low : (l : Laid) (n : ℕ) (shares : List Share) → merge_break l n shares ≡ None → linkedit_start l n + paged (linkedit_size shares) ≤ 0x20000000
unfolding merge_break
ends_low l n shares none =
    let under : nat_lt 0x20000000 (linkedit_start l n + paged (linkedit_size shares)) ≡ false = not_large (nat_lt 0x20000000 (linkedit_start l n + paged (linkedit_size shares))) _ none in
    grind (arith, nat_tests)
  where
    not_large : (b : Bool) (x : Break) → (if b then Some x else None) ≡ None → b ≡ false
    not_large true x e = absurd (cc)
    not_large false x e = refl

pub span_low : (bits : ℕ) (is : List Img) → IsBuildable bits is → set_span bits is ≤ 0x20000000
span_low bits is buildable = ends_low (layout_of is) (length (set_slide bits is)) (set_shares is) buildable.merged

-- the linkedit starts behind the pages of slide information
pub starts_at : (bits : ℕ) (is : List Img) → IsAccepted is → set_start bits is ≡ (layout_of is).fixed.at + (layout_of is).fixed.len + paged (length (set_slide bits is))
starts_at bits is accepted =
    let turn : AreInTurn is (layout_of is) = in_turn is accepted in
    start_is (layout_of is) (length (set_slide bits is)) (omega (arith, (turn.pages Fixed).0, (turn.pages Fixed).1))
