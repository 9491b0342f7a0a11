-- Each turn links one word; the words behind keep their numbers until their turn.
use Rattle.std.proofs.Common.{◌≡◌, ◌<◌, ◌≤◌, ◌+◌, ◌-◌, ◌*◌, ◌^◌, ℕ, List, map, length, ◌∙◌, sym, ap, subst, refl, get_or, drop, arith}
use Rattle.dsc_base.specs.Numbers.{number_at, put_number}
use Rattle.dsc_base.specs.Edits.{change_all, settled, AllFit}
use Rattle.slide_chain.specs.Making.{step_to, linking}
use Rattle.slide_chain.specs.Steps.Pieces.{earlier}
use Rattle.slide_chain.proofs.PieceLaws.{WordIn, word-in, word-fits, later-fit, piece-next, piece-none}
use Rattle.slide_chain.proofs.ListLaws.{words-weaken}
use Rattle.slide_chain.proofs.writing.link_words.Goals as goal

pub step_from-requires-clause-rises : goal.step_from-requires-clause-rises
step_from-requires-clause-rises c = words-weaken 0 c.args.start c.args.words.now (omega arith) c.requires.words

pub overflow_sub-word : goal.overflow_sub-word
overflow_sub-word c = (word-in c.args.start (length c.args.piece.now) c.loop-i.i c.args.words.now c.loop-i-test.true c.requires.start c.requires.pages c.requires.words c.requires.inside).from

pub link-requires-clause-inside : goal.link-requires-clause-inside
link-requires-clause-inside c =
    let word : WordIn c.args.start (length c.args.piece.now) c.loop-i.i c.args.words.now =
    word-in c.args.start (length c.args.piece.now) c.loop-i.i c.args.words.now c.loop-i-test.true c.requires.start c.requires.pages c.requires.words c.requires.inside in
    omega (arith, word.from, word.room)

pub link-requires-clause-fits : goal.link-requires-clause-fits
link-requires-clause-fits c =
    let fit : number_at 8 c.loop-i.piece (get_or c.args.words.now c.loop-i.i 0 - c.args.start) + step_to c.args.limit (get_or c.args.words.now c.loop-i.i 0) (drop (c.loop-i.i + 1) c.args.words.now) * 2 ^ 48 < 256 ^ 8 =
    word-fits c.args.limit c.args.start c.loop-i.i c.loop-i.piece c.args.words.now c.loop-i-test.true c.loop-i.invariant.fits in
    omega (arith, fit, c.step_from.ensures)

pub loop-i-init : goal.loop-i-init
loop-i-init c = record { done = refl; fits = c.requires.fits }

pub loop-i-preserved : goal.loop-i-preserved
loop-i-preserved c =
    let w : ℕ = get_or c.args.words.now c.loop-i.i 0 in
    let word : WordIn c.args.start (length c.args.piece.now) c.loop-i.i c.args.words.now =
    word-in c.args.start (length c.args.piece.now) c.loop-i.i c.args.words.now c.loop-i-test.true c.requires.start c.requires.pages c.requires.words c.requires.inside in
    let room : get_or c.args.words.now c.loop-i.i 0 - c.args.start + 8 ≤ length c.loop-i.piece = omega (arith, word.from, word.room) in
    let is : c.link.new.area ≡ put_number 8 c.loop-i.piece (get_or c.args.words.now c.loop-i.i 0 - c.args.start)
    (number_at 8 c.loop-i.piece (get_or c.args.words.now c.loop-i.i 0 - c.args.start) + step_to c.args.limit (get_or c.args.words.now c.loop-i.i 0) (drop (c.loop-i.i + 1) c.args.words.now) * 2 ^ 48) =
    c.link.ensures ∙ ap (λ (u : ℕ). put_number 8 c.loop-i.piece (get_or c.args.words.now c.loop-i.i 0 - c.args.start) (number_at 8 c.loop-i.piece (get_or c.args.words.now c.loop-i.i 0 - c.args.start) + u * 2 ^ 48)) c.step_from.ensures in
    record {
      done = ap (change_all (map (earlier c.args.start) (linking c.args.limit (drop (c.loop-i.i + 1) c.args.words.now)))) is
          ∙ (sym (piece-next c.args.limit c.args.start c.loop-i.i c.loop-i.piece c.args.words.now c.loop-i-test.true) ∙ c.loop-i.invariant.done);
      fits = subst (λ (b : List ℕ). AllFit (map (settled b) (map (earlier c.args.start) (linking c.args.limit (drop (c.loop-i.i + 1) c.args.words.now))))) (sym c.link.ensures)
          (later-fit c.args.limit c.args.start c.loop-i.i (number_at 8 c.loop-i.piece (w - c.args.start) + c.step_from.result * 2 ^ 48) c.loop-i.piece c.args.words.now c.loop-i-test.true word room c.loop-i.invariant.fits);
    }

pub returns : goal.returns
returns c = sym (piece-none c.args.limit c.args.start c.loop-i.i c.loop-i.piece c.args.words.now c.loop-i-test.false) ∙ c.loop-i.invariant.done
