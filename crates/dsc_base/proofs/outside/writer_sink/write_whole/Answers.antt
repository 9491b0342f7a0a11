use Rattle.std.proofs.Common.{◌≡◌, ℕ, List, Bor, drop, ap, sym, ◌∙◌, subst}
use Rattle.std.proofs.lemmas.List.{take_rest}
use Rattle.dsc_base.proofs.Passing.{HasPassed, passed_more, passed_kept}
use Rattle.dsc_base.proofs.outside.writer_sink.write_whole.Goals as goal
use Rattle.dsc_base.proofs.outside.writer_sink.write_whole.Goals.{in-Ok, in-Err}

pub pieces-preserved : goal.pieces-preserved
pieces-preserved g c =
    let start = g.W.Write.contents c.args.writer.now in
    let before = g.W.Write.contents c.pieces.writer in
    let after = g.W.Write.contents c.write.new.self in
    let rest = c.pieces.rest.now in
    let P : List ℕ → Type 0 = λ xs. HasPassed start after c.args.bytes.now xs in
    elim c.match-write.branch [
      | in-Ok w ↦
          let left : c.match-write.rest.now ≡ drop w.in-Ok.count rest = ap (λ (b : Bor (List ℕ)). b.now) w.rest-is ∙ take_rest rest w.in-Ok.count in
          subst P (sym left) (passed_more start before after c.args.bytes.now rest w.in-Ok.count c.pieces.invariant w.in-Ok.ensures.bytes)
      | in-Err w ↦
          let left : c.match-write.rest.now ≡ rest = ap (λ (b : Bor (List ℕ)). b.now) w.rest-is in
          subst P (sym left) (passed_kept start before after c.args.bytes.now rest c.pieces.invariant w.in-Err.ensures.bytes)
    ]
