use Rattle.std.proofs.Common.{rules, ◌≡◌, ◌∙◌, ◌<◌, ◌++◌, ℕ, List, length, get_or, refl, sym, ap, arith}
use Rattle.std.specs.Prelude.{slice_get, Some}
use Rattle.std.proofs.lemmas.List.{length-set, get_or-set_other}
use Rattle.std.proofs.lemmas.Option.{slice_get_read}
use Rattle.macho_image.specs.Records.{Seg}
use Rattle.load_model.specs.Mapped.{Piece}
use Rattle.load_model.specs.Phases.{contents}
use Rattle.load_model.specs.Areas.{body_piece}
use Rattle.load_model.proofs.PieceLaws.{pieces_more, area_kept}
use Rattle.load_model.proofs.loading.handed_out.Goals as goal

pub loop-number-preserved : goal.loop-number-preserved
loop-number-preserved c =
    let n : ℕ = c.loop-number.number in
    let ss : List Seg = c.args.image.now.segments in
    let lt : c.loop-number.number < length c.args.image.now.segments = search rules in
    let own : c.index-segment.result.now ≡ get_or c.args.image.now.segments c.loop-number.number c.index-segment.result.now = search rules in
    let got : slice_get c.args.image.now.segments c.loop-number.number ≡ Some c.index-segment.result.now = slice_get_read ss (length ss) n c.index-segment.result.now refl lt own in
    let value : get_or c.loop-number.areas.items c.loop-number.number c.index_mut.result.now ≡ c.index_mut.result.now = search rules in
    let area = area_kept c.loop-number.areas.items c.args.areas.now.items n c.index_mut.result.now (omega (arith, lt, c.requires)) (λ d. c.loop-number.invariant.rest n d (omega arith)) value in
    record {
      count = length-set c.loop-number.areas.items n c.push_body.new.area ∙ c.loop-number.invariant.count;
      rest = λ k d le. get_or-set_other c.loop-number.areas.items n k c.push_body.new.area d (λ same. omega (arith, le, same)) ∙ c.loop-number.invariant.rest k d (omega (arith, le));
      made = c.in_ok-push_body.ensures ∙ (ap (λ (l : List Piece). l ++ body_piece c.args.slide c.index-segment.result.now c.index_mut.result.now.items) c.loop-number.invariant.made
          ∙ sym (pieces_more c.args.slide n ss (contents c.args.areas.now.items) c.index-segment.result.now c.index_mut.result.now.items got area));
    }
