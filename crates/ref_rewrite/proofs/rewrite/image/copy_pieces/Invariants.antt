use Rattle.std.proofs.Common.{◌≡◌, drop}
use Rattle.ref_rewrite.specs.Rewritten.{parts_in, put_parts}
use Rattle.ref_rewrite.proofs.rewrite.image.copy_pieces.Given as goal

-- what the pieces behind leave in each span is what all of them leave
abbrev pub invariant-loop-piece : goal.invariant-loop-piece
invariant-loop-piece l = record {
  text : put_parts (parts_in l.spans.text (drop l.piece-index l.pieces)) l.text ≡ put_parts (parts_in l.spans.text l.pieces) l.initial.text;
  writable : put_parts (parts_in l.spans.writable (drop l.piece-index l.pieces)) l.writable ≡ put_parts (parts_in l.spans.writable l.pieces) l.initial.writable;
  fixed : put_parts (parts_in l.spans.fixed (drop l.piece-index l.pieces)) l.fixed ≡ put_parts (parts_in l.spans.fixed l.pieces) l.initial.fixed;
}
