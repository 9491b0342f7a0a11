-- What is gathered of a set can be filled in: the plans with their headers fit the layout, and the words that are chained can be linked.
use Rattle.std.proofs.Common.{◌≡◌, ℕ, ◌-◌, ◌*◌, ◌^◌, None, List, [], ◌++◌, length, take, drop, refl, sym, ap, ◌∙◌, subst, arith}
use Rattle.std.specs.List.{flat_map}
use Rattle.std.proofs.lemmas.List.{append-nil, take_all, drop_all}
use Rattle.dsc_base.specs.declared.edits.Edit.{Edit}
use Rattle.dsc_base.specs.Edits.{put_all}
use Rattle.cache_layout.specs.declared.mapping.Mapping.TheVariants.{Writable}
use Rattle.cache_layout.specs.Layouts.{Laid}
use Rattle.cache_layout.specs.Parts.{mapping_part}
use Rattle.slide_chain.specs.Chains.{Slide}
use Rattle.slide_chain.specs.Making.{AreOutside, IsMade}
use Rattle.slide_chain.proofs.LinkedLaws.{outside-made}
use Rattle.prebind.specs.Sets.{ImageSet}
use Rattle.ref_rewrite.specs.Breaks.{rewrite_break}
use Rattle.ref_rewrite.specs.Following.{FollowIn}
use Rattle.ref_rewrite.specs.Pages.{all_pages}
use Rattle.ref_rewrite.specs.Planned.{IsLayout, AreSized, with_headers}
use Rattle.ref_rewrite.specs.Plans.{Plan, Fit}
use Rattle.ref_rewrite.specs.Rewritten.{edits_in, joined}
use Rattle.cache_build.specs.declared.frame.Frame.{Frame}
use Rattle.cache_build.specs.Edits.{edits_of, chained_of}
use Rattle.cache_build.specs.Filling.{CanFill, CanBuild}
use Rattle.cache_build.proofs.GatherLaws.{words_rise, words_below, data_pages}
use Rattle.cache_build.proofs.WholeCaches.{IsGathered}

-- what is lent out whole and comes back as long as before is all there is
pub written_back : {X : Type 0} (old all new : List X) (len : ℕ) → all ≡ old → length all ≡ len → length new ≡ length all → take len (new ++ drop (length new) old) ≡ new
written_back {X} old all new len same long kept =
    let none : drop (length new) old ≡ [] = drop_all (length new) old (omega (arith, kept, ap (λ (l : List X). length l) same)) in
    ap (λ (l : List X). take len (new ++ l)) none ∙ (ap (λ (l : List X). take len l) (append-nil new) ∙ take_all len new (omega (arith, kept, long)))

-- what is known of plans and of the words that they chain
pub record ArePlans (l : Laid) (headers : List (List ℕ)) (plans : List Plan) (info : Slide) (words : List ℕ) : Type 0 where
  pub fit : Fit l.text.len l.writable.len l.fixed.len (with_headers headers plans)
  pub follow : FollowIn 0 l.writable.len (flat_map (λ (p : Plan). p.words) plans)
  pub words_are : words ≡ flat_map (λ (p : Plan). p.words) plans
  pub made : IsMade info l.writable.len words

pub can_fill : (bits : ℕ) (l : Laid) (set : ImageSet) (plans : List Plan) (headers : List (List ℕ)) (frame : Frame) (head : List ℕ) (info : Slide) (words slide_info linkedit : List ℕ)
    → IsGathered bits l set plans headers frame head info words slide_info linkedit → ArePlans l headers plans info words → IsLayout l set.images → CanBuild bits l set → rewrite_break l set ≡ None → AreSized headers set.images
    → CanFill l (with_headers headers plans) info words
can_fill bits l set plans headers frame head info words slide_info linkedit is are layout can none sized =
    let bytes : List ℕ = mapping_part Writable (all_pages headers set.images) set.images in
    let area : List ℕ = joined (λ (p : Plan). p.writable) (with_headers headers plans) in
    let mask : ℕ = (2 ^ bits - 1) * 2 ^ 48 in
    let own : joined (λ (p : Plan). p.writable) (with_headers headers plans) ≡ put_all (edits_in l.writable (edits_of l set)) (mapping_part Writable (all_pages headers set.images) set.images) =
    is.ranges Writable ∙ ap (λ (es : List Edit). put_all (edits_in l.writable es) bytes) is.edits_all in
    let free : AreOutside ((2 ^ bits - 1) * 2 ^ 48) (joined (λ (p : Plan). p.writable) (with_headers headers plans)) words =
    subst (λ (ws : List ℕ). AreOutside mask area ws) (sym is.words_all) (subst (λ (b : List ℕ). AreOutside mask b (chained_of l set)) (sym own) (can.outside none headers sized)) in
    record {
      fit = are.fit;
      pages = data_pages l set.images l.writable.len layout refl;
      made = are.made;
      rising = words_rise plans plans l.writable.len words words are.follow refl are.words_are refl;
      below = words_below plans plans l.writable.len l.writable.len words words are.follow refl are.words_are refl refl;
      outside = outside-made info bits l.writable.len area words is.info_made free;
    }
