-- Each turn copies the first of the pieces that are left into the spans; at the end none is left.
use Rattle.std.proofs.Common.{◌∙◌, [], ◌∷◌, ap}
use Rattle.ref_rewrite.specs.Plans.{Part}
use Rattle.ref_rewrite.specs.Rewritten.{parts_in, put_parts}
use Rattle.ref_rewrite.proofs.SpanLaws.{parts_turn, parts_end}
use Rattle.ref_rewrite.proofs.rewrite.image.copy_pieces.Goals as goal

pub loop-piece-preserved : goal.loop-piece-preserved
loop-piece-preserved c = record {
  text = parts_turn c.args.spans.text c.args.pieces.now c.loop-piece.piece-index c.piece-item.result c.loop-piece.text c.copy_bytes.new.text (put_parts (parts_in c.args.spans.text c.args.pieces.now) c.args.text.now) c.loop-piece-test.true c.piece-item.is c.loop-piece.invariant.text
      (c.copy_bytes.ensures.text ∙ ap (λ (x : Part). put_parts (parts_in c.args.spans.text (x ∷ [])) c.loop-piece.text) c.piece.view_is);
  writable = parts_turn c.args.spans.writable c.args.pieces.now c.loop-piece.piece-index c.piece-item.result c.loop-piece.writable c.copy_bytes.new.writable (put_parts (parts_in c.args.spans.writable c.args.pieces.now) c.args.writable.now) c.loop-piece-test.true c.piece-item.is c.loop-piece.invariant.writable
      (c.copy_bytes.ensures.writable ∙ ap (λ (x : Part). put_parts (parts_in c.args.spans.writable (x ∷ [])) c.loop-piece.writable) c.piece.view_is);
  fixed = parts_turn c.args.spans.fixed c.args.pieces.now c.loop-piece.piece-index c.piece-item.result c.loop-piece.fixed c.copy_bytes.new.fixed (put_parts (parts_in c.args.spans.fixed c.args.pieces.now) c.args.fixed.now) c.loop-piece-test.true c.piece-item.is c.loop-piece.invariant.fixed
      (c.copy_bytes.ensures.fixed ∙ ap (λ (x : Part). put_parts (parts_in c.args.spans.fixed (x ∷ [])) c.loop-piece.fixed) c.piece.view_is);
}

pub returns-clause-text : goal.returns-clause-text
returns-clause-text c = parts_end c.args.spans.text c.args.pieces.now c.loop-piece.piece-index c.loop-piece.text (put_parts (parts_in c.args.spans.text c.args.pieces.now) c.args.text.now) c.loop-piece-test.false c.loop-piece.invariant.text

pub returns-clause-writable : goal.returns-clause-writable
returns-clause-writable c = parts_end c.args.spans.writable c.args.pieces.now c.loop-piece.piece-index c.loop-piece.writable (put_parts (parts_in c.args.spans.writable c.args.pieces.now) c.args.writable.now) c.loop-piece-test.false c.loop-piece.invariant.writable

pub returns-clause-fixed : goal.returns-clause-fixed
returns-clause-fixed c = parts_end c.args.spans.fixed c.args.pieces.now c.loop-piece.piece-index c.loop-piece.fixed (put_parts (parts_in c.args.spans.fixed c.args.pieces.now) c.args.fixed.now) c.loop-piece-test.false c.loop-piece.invariant.fixed
