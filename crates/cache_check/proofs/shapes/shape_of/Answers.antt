use Rattle.std.proofs.Common.{◌≡◌, ◌≤◌, ◌<◌, ◌^◌, nat_eq, ◌+◌, ◌∷◌, ◌++◌, [], List, ℕ, Vec, Global, get_or, length, sym, ap, subst, ◌∙◌}
use Rattle.std.specs.Prelude.{filter, not}
use Rattle.macho_image.specs.Records.{Seg, Img}
use Rattle.macho_image.specs.Rules.{is_linkedit_segment}
use Rattle.macho_image.specs.declared.section.Section.{Section}
use Rattle.load_model.specs.Corresponds.{shape_of, segment_shape}
use Rattle.cache_check.proofs.PartLaws.{AreAllShaped, all_start, all_more, all_other, all_end}
use Rattle.cache_check.proofs.LongLaws.{few_numbers}
use Rattle.cache_check.proofs.shapes.shape_of.Goals as goal
use Rattle.cache_check.proofs.shapes.shape_of.Goals.{then-not-is_linkedit+in_ok-push_segment, else-not-is_linkedit}

pub loop-number-init : goal.loop-number-init
loop-number-init c =
    let segments = ap (λ (i : Img). i.segments) c.image.view_is in
    record {
      shaped = all_start c.args.image.now c.push.new.self.items c.count_segments.result
          (c.count_segments.ensures ∙ ap (λ (ss : List Seg). length (filter (λ (s : Seg). not (is_linkedit_segment s)) ss)) (c.deref.ensures.value ∙ segments))
          (c.in_ok-push.ensures.items ∙ ap (λ (l : List ℕ). l ++ c.count_segments.result ∷ []) c.new-numbers.ensures.items);
      segments = c.deref-segment-items.ensures.value ∙ segments;
    }

pub loop-number-preserved : goal.loop-number-preserved
loop-number-preserved c =
    let n : ℕ = c.loop-number.number in
    let s : Seg = c.segment-item.result in
    let all = shape_of c.args.image.now in
    let at : c.segment-item.result ≡ get_or c.args.image.now.segments c.loop-number.number c.segment-item.result =
    c.segment-item.is ∙ ap (λ (ss : List Seg). get_or ss c.loop-number.number c.segment-item.result) c.loop-number.invariant.segments in
    let lt = subst (λ (ss : List Seg). c.loop-number.number < length ss) c.loop-number.invariant.segments c.loop-number-test.true in
    record {
      shaped = elim c.if-not-is_linkedit.branch [
        | then-not-is_linkedit+in_ok-push_segment w ↦
            all_more c.args.image.now c.loop-number.numbers.items c.if-not-is_linkedit.numbers.items (shape_of c.args.image.now) c.loop-number.number c.segment-item.result c.segment-item.result c.loop-number.invariant.shaped lt at
            (sym c.is_linkedit.ensures ∙ w.if-not-is_linkedit.true)
            (ap (λ (v : Vec ℕ Global). v.items) w.numbers-is ∙ (w.in_ok-push_segment.ensures
            ∙ ap (λ (xs : List Section). c.loop-number.numbers.items ++ segment_shape c.segment-item.result (own xs)) (w.deref-then-not-is_linkedit.ensures.value ∙ ap (λ (i : Img). i.sections) c.image.view_is)))
        | else-not-is_linkedit w ↦
            subst (λ (v : Vec ℕ Global). AreAllShaped c.args.image.now v.items (c.loop-number.number + 1) (shape_of c.args.image.now)) (sym w.numbers-is)
            (all_other c.args.image.now c.loop-number.numbers.items (shape_of c.args.image.now) c.loop-number.number c.segment-item.result c.segment-item.result c.loop-number.invariant.shaped lt at
            (sym c.is_linkedit.ensures ∙ w.if-not-is_linkedit.false))
      ];
      segments = c.loop-number.invariant.segments;
    }
  where
    own : List Section → List Section
    own xs = filter (λ (x : Section). nat_eq x.segment c.loop-number.number) xs

pub returns-clause-few : goal.returns-clause-few
returns-clause-few c =
    let shape = all_end c.args.image.now c.loop-number.numbers.items c.loop-number.number c.loop-number.invariant.shaped
    (subst (λ (ss : List Seg). length ss ≤ c.loop-number.number) c.loop-number.invariant.segments c.loop-number-test.false) in
    let bytes : (k : ℕ) → get_or c.args.image.now.header k 0 < 256 = λ k. subst (λ (b : List ℕ). get_or b k 0 < 256) (ap (λ (i : Img). i.header) c.image.view_is) (c.are_bytes.ensures.each k) in
    subst (λ (l : List ℕ). length l < 2 ^ 32) (sym shape) (few_numbers c.args.image.now c.facts.ensures bytes)

pub returns-clause-shape : goal.returns-clause-shape
returns-clause-shape c =
    all_end c.args.image.now c.loop-number.numbers.items c.loop-number.number c.loop-number.invariant.shaped
    (subst (λ (ss : List Seg). length ss ≤ c.loop-number.number) c.loop-number.invariant.segments c.loop-number-test.false)
