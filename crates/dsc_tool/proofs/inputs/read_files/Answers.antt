-- One more input is read, or the reading ends at it.
use Rattle.std.proofs.Common.{◌≡◌, ◌≤◌, ◌+◌, ◌++◌, ℕ, List, [], ◌∷◌, length, take, Option, sym, ap, ap₂, ◌∙◌, subst, arith}
use Rattle.std.proofs.lemmas.Result.{err_from_is_err_and}
use Rattle.dsc_base.specs.Outside.{Files, HasFile}
use Rattle.load_model.specs.Phases.{contents}
use Rattle.dsc_tool.specs.Inputs.{AreRead, FileCause, total}
use Rattle.dsc_tool.specs.Stops.{input_limit}
use Rattle.dsc_tool.proofs.InputLaws.{same_item, read_more, total_more, contents_more, stopped_at}
use Rattle.dsc_tool.proofs.inputs.read_files.Goals as goal

pub returns-in_err-input-clause-cause : goal.returns-in_err-input-clause-cause
returns-in_err-input-clause-cause g c =
    let p = err_from_is_err_and c.from_residual-in_err-input.result c.from_residual-in_err-input.ensures.1 in
    let cause = subst (λ (f : Option Files). FileCause f (g.S.Store.get_faults c.loop-number.store) (g.S.Store.get_faults c.read_file.new.store) c.args.first c.as_str.result.now c.loop-number.number c.loop-number.total c.in_err-input.field-0.0)
    c.loop-number.invariant.files c.in_err-input.ensures.cause in
    rw (p.1, p.2)
    (stopped_at (g.S.Store.files c.args.store.now) (g.S.Store.get_faults c.args.store.now) (g.S.Store.get_faults c.loop-number.store) (g.S.Store.get_faults c.read_file.new.store) c.args.first
    c.args.names.now c.loop-number.number c.as_str.result.now (contents c.loop-number.inputs.items) c.loop-number.total c.in_err-input.field-0.0
    (omega arith) (same_item c.args.names.now c.loop-number.number c.index-names-number.result c.as_str.result.now c.as_str.ensures c.index-names-number.is)
    c.loop-number.invariant.read c.loop-number.invariant.size c.loop-number.invariant.gets cause)

pub loop-number-preserved : goal.loop-number-preserved
loop-number-preserved g c =
    let before : List (List ℕ) = contents c.loop-number.inputs.items in
    let file : List ℕ = c.in_ok-input.input.items in
    let more : contents c.push.new.self.items ≡ before ++ (file ∷ []) = contents_more c.loop-number.inputs.items c.push.new.self.items c.in_ok-input.input c.in_ok-push.ensures.items in
    let there = subst (λ (f : Option Files). HasFile f c.as_str.result.now file) c.loop-number.invariant.files c.in_ok-input.ensures.there in
    let fits : total before + length file ≤ input_limit = subst (λ (n : ℕ). n + length file ≤ input_limit) c.loop-number.invariant.size c.in_ok-input.ensures.together in
    let size : c.len.result ≡ length file = omega (arith, c.len.ensures, c.in_ok-input.input.ok) in
    record {
      read = subst (λ (b : List (List ℕ)). AreRead (g.S.Store.files c.args.store.now) (take (c.loop-number.number + 1) c.args.names.now) b) (sym more)
          (read_more (g.S.Store.files c.args.store.now) c.args.names.now before c.loop-number.number c.as_str.result.now file (omega arith)
          (same_item c.args.names.now c.loop-number.number c.index-names-number.result c.as_str.result.now c.as_str.ensures c.index-names-number.is)
          c.loop-number.invariant.read there c.in_ok-input.ensures.within fits);
      size = ap₂ (λ (a b : ℕ). a + b) c.loop-number.invariant.size size ∙ (sym (total_more before file) ∙ ap total (sym more));
      files = c.read_file.ensures.files ∙ c.loop-number.invariant.files;
      gets = omega (arith, c.loop-number.invariant.gets, c.read_file.ensures.get_count);
      puts = c.read_file.ensures.put_count ∙ c.loop-number.invariant.puts;
    }
