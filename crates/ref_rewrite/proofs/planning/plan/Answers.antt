use Rattle.std.proofs.Common.{◌≡◌, ◌<◌, List, [], ◌∷◌, ◌++◌, length, map, get_or, refl, sym, ap, subst, ◌∙◌, arith, Vec, Global}
use Rattle.std.proofs.lemmas.List.{get_or-map, length-map, take_all}
use Rattle.std.proofs.lemmas.Option.{slice_get_read}
use Rattle.std.specs.List.{All}
use Rattle.std.proofs.lemmas.List.Elements.{All-nil, All-push, All-same, All-more}
use Rattle.dsc_base.specs.Edits.{AllFit}
use Rattle.macho_image.specs.Records.{Img}
use Rattle.macho_image.specs.Breaks.{IsSound}
use Rattle.ref_rewrite.specs.Plans.{Plan}
use Rattle.prebind.specs.declared.resolved.PlacedWord.{PlacedWord}
use Rattle.prebind.specs.Steps.{set_of}
use Rattle.prebind.specs.Words.{pointers_of, streams_at, ArePlaced}
use Rattle.cache_layout.specs.Places.{numbered}
use Rattle.cache_layout.specs.Layouts.{Laid}
use Rattle.cache_layout.proofs.NumberedLaws.{numbered-grown}
use Rattle.cache_layout.proofs.PlaceLaws.{length-moves}
use Rattle.ref_rewrite.specs.Planned.{plan_of, plan_in, plans_of}
use Rattle.ref_rewrite.proofs.FitLaws.{made_planned, made_fit}
use Rattle.ref_rewrite.proofs.FollowingLaws.{own_sized, made_follow}
use Rattle.ref_rewrite.proofs.MappingLaws.{made_rewritten}
use Rattle.ref_rewrite.proofs.SetLaws.{none_before, none_more, none_at_all, refused_at, all_start, ends_low, span_is, ends_behind}
use Rattle.ref_rewrite.proofs.planning.plan.Goals as goal
use Rattle.prebind.proofs.PlacedLists.{placed_at}

pub loop-number-init : goal.loop-number-init
loop-number-init c =
    let layout = c.args.layout.now in
    let images = c.args.set.now.images.now in
    record {
      made = c.in_ok-plans.ensures.items;
      fit = All-same (λ (p : Plan). AllFit p.edits) c.in_ok-plans.plans.items [] c.in_ok-plans.ensures.items (All-nil (λ (p : Plan). AllFit p.edits));
      sound = All-nil IsSound;
      parts = all_start layout images c.at_start-parts.result c.requires.layout c.at_start-parts.ensures.text c.at_start-parts.ensures.writable c.at_start-parts.ensures.fixed;
      unbroken = none_before layout (set_of c.args.set.now);
    }

pub next-parts-requires : goal.next-parts-requires
next-parts-requires c = λ m.
    ends_low c.args.layout.now c.args.set.now.images.now c.loop-number.parts c.loop-number.number c.image-item.result m c.requires.layout (omega arith) c.image-item.is c.loop-number.invariant.parts

pub plan_at-requires-clause-layout : goal.plan_at-requires-clause-layout
plan_at-requires-clause-layout c =
    ap (λ (l : Laid). length l.moves) c.requires.layout.is ∙ length-moves c.args.set.now.images.now

pub plan_at-requires-clause-image : goal.plan_at-requires-clause-image
plan_at-requires-clause-image c =
    slice_get_read c.args.set.now.images.now (length c.args.set.now.images.now) c.loop-number.number c.image-item.result refl (omega arith) c.image-item.is

pub plan_at-requires-clause-placed : goal.plan_at-requires-clause-placed
plan_at-requires-clause-placed c =
    let placed = c.args.placed.now in
    let n = c.loop-number.number in
    let vector = c.index-placed-number.result in
    let inside : n < length placed = omega (arith, length-map placed (λ (v : Vec PlacedWord Global). v.items), c.requires.placed.count) in
    let words : get_or (map (λ (v : Vec PlacedWord Global). v.items) placed) n [] ≡ c.as_slice-words.result.now =
    get_or-map (λ (v : Vec PlacedWord Global). v.items) placed n vector [] inside ∙ (sym (ap (λ (v : Vec PlacedWord Global). v.items) c.index-placed-number.is) ∙ sym c.as_slice-words.ensures.value) in
    subst (λ (ws : List PlacedWord). ArePlaced (pointers_of (set_of c.args.set.now) n) ws) words (placed_at (set_of c.args.set.now) (map (λ (v : Vec PlacedWord Global). v.items) c.args.placed.now) c.requires.placed n (omega arith))

pub plan_at-requires-clause-parts : goal.plan_at-requires-clause-parts
plan_at-requires-clause-parts c = λ m.
    span_is c.args.set.now.images.now c.loop-number.parts c.next-parts.result c.loop-number.number c.image-item.result m c.loop-number.invariant.parts (c.next-parts.ensures.at m) (c.next-parts.ensures.len m)

pub returns-in-Err-clause-cause : goal.returns-in-Err-clause-cause
returns-in-Err-clause-cause c =
    refused_at c.args.layout.now (set_of c.args.set.now) c.loop-number.number c.image-item.result c.in-Err.fault (omega arith) c.image-item.is c.in-Err.ensures.cause c.loop-number.invariant.unbroken

pub loop-number-preserved : goal.loop-number-preserved
loop-number-preserved c =
    let placed = c.args.placed.now in
    let n = c.loop-number.number in
    let vector = c.index-placed-number.result in
    let inside : n < length placed = omega (arith, length-map placed (λ (v : Vec PlacedWord Global). v.items), c.requires.placed.count) in
    let words : get_or (map (λ (v : Vec PlacedWord Global). v.items) placed) n [] ≡ c.as_slice-words.result.now =
    get_or-map (λ (v : Vec PlacedWord Global). v.items) placed n vector [] inside ∙ (sym (ap (λ (v : Vec PlacedWord Global). v.items) c.index-placed-number.is) ∙ sym c.as_slice-words.ensures.value) in
    let layout = c.args.layout.now in
    let set = set_of c.args.set.now in
    let image = c.image-item.result in
    let all = map (λ (v : Vec PlacedWord Global). v.items) placed in
    let plan : c.in-Ok.plan ≡ plan_in layout set all n image = c.in-Ok.ensures.plan ∙ ap (λ (ws : List PlacedWord). plan_of layout set.images n image (streams_at set n) ws) (sym words) in
    record {
      made = numbered-grown (plan_in layout set all) set.images n image c.loop-number.plans.items c.push.new.self.items c.in-Ok.plan (omega arith) c.image-item.is c.loop-number.invariant.made c.in_ok-push-in-Ok.ensures.items plan;
      fit = All-same (λ (p : Plan). AllFit p.edits) c.push.new.self.items (c.loop-number.plans.items ++ c.in-Ok.plan ∷ []) c.in_ok-push-in-Ok.ensures.items (All-push (λ (p : Plan). AllFit p.edits) c.loop-number.plans.items c.in-Ok.plan c.loop-number.invariant.fit c.in-Ok.ensures.fit);
      sound = All-more IsSound set.images n image (omega arith) c.loop-number.invariant.sound (subst IsSound c.image-item.is c.in-Ok.ensures.sound);
      parts = λ m. ends_behind set.images c.loop-number.parts c.next-parts.result n image m (omega arith) c.image-item.is c.loop-number.invariant.parts (c.next-parts.ensures.at m) (c.next-parts.ensures.len m);
      unbroken = none_more layout set n image (omega arith) c.image-item.is c.in-Ok.ensures.cause c.loop-number.invariant.unbroken;
    }

pub returns-clause-plans : goal.returns-clause-plans
unfolding plans_of
returns-clause-plans c =
    let layout = c.args.layout.now in
    let set = set_of c.args.set.now in
    let all = map (λ (v : Vec PlacedWord Global). v.items) c.args.placed.now in
    c.loop-number.invariant.made ∙ ap (λ (is : List Img). numbered (plan_in layout set all) is) (take_all c.loop-number.number set.images (omega arith))

pub returns-clause-cause : goal.returns-clause-cause
returns-clause-cause c =
    none_at_all c.args.layout.now (set_of c.args.set.now) c.loop-number.number (omega arith) c.loop-number.invariant.unbroken

pub returns-clause-fit : goal.returns-clause-fit
unfolding plans_of
returns-clause-fit c = λ headers sized.
    let layout = c.args.layout.now in
    let set = set_of c.args.set.now in
    let all = map (λ (v : Vec PlacedWord Global). v.items) c.args.placed.now in
    let whole = take_all c.loop-number.number set.images (omega arith) in
    let made : c.loop-number.plans.items ≡ plans_of layout set all = c.loop-number.invariant.made ∙ ap (λ (is : List Img). numbered (plan_in layout set all) is) whole in
    let given = made_planned layout set all c.loop-number.plans.items headers c.requires.sound c.requires.read c.requires.layout c.requires.placed (subst (λ (is : List Img). All IsSound is) whole c.loop-number.invariant.sound) made c.loop-number.invariant.fit sized in
    made_fit layout set all c.loop-number.plans.items headers c.requires.layout made given

pub returns-clause-ranges : goal.returns-clause-ranges
unfolding plans_of
returns-clause-ranges c = λ headers sized m.
    let layout = c.args.layout.now in
    let set = set_of c.args.set.now in
    let all = map (λ (v : Vec PlacedWord Global). v.items) c.args.placed.now in
    let whole = take_all c.loop-number.number set.images (omega arith) in
    let made : c.loop-number.plans.items ≡ plans_of layout set all = c.loop-number.invariant.made ∙ ap (λ (is : List Img). numbered (plan_in layout set all) is) whole in
    let given = made_planned layout set all c.loop-number.plans.items headers c.requires.sound c.requires.read c.requires.layout c.requires.placed (subst (λ (is : List Img). All IsSound is) whole c.loop-number.invariant.sound) made c.loop-number.invariant.fit sized in
    made_rewritten layout set all c.loop-number.plans.items headers m c.requires.layout made given

pub returns-clause-words : goal.returns-clause-words
unfolding plans_of
returns-clause-words c =
    let layout = c.args.layout.now in
    let set = set_of c.args.set.now in
    let all = map (λ (v : Vec PlacedWord Global). v.items) c.args.placed.now in
    let whole = take_all c.loop-number.number set.images (omega arith) in
    let made : c.loop-number.plans.items ≡ plans_of layout set all = c.loop-number.invariant.made ∙ ap (λ (is : List Img). numbered (plan_in layout set all) is) whole in
    let headers = map (λ (i : Img). i.header) set.images in
    let given = made_planned layout set all c.loop-number.plans.items headers c.requires.sound c.requires.read c.requires.layout c.requires.placed (subst (λ (is : List Img). All IsSound is) whole c.loop-number.invariant.sound) made c.loop-number.invariant.fit (own_sized set.images) in
    made_follow layout set all c.loop-number.plans.items headers c.requires.layout made given
