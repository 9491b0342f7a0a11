-- Each turn appends one run, and the whole is the definition's stream.
use Rattle.std.proofs.Common.{◌≡◌, ◌≤◌, ◌+◌, ◌-◌, ◌∙◌, ℕ, List, take, drop, length, length-drop, ap, arith}
use Rattle.std.proofs.lemmas.List.{take_all}
use Rattle.rebase_ops.specs.Rebases.{rebases_of, rebase_break}
use Rattle.rebase_ops.proofs.RunLaws.{no_place}
use Rattle.rebase_ops.proofs.WrittenLaws.{added-next, added-end, ready, words_back, none_broken}
use Rattle.rebase_ops.proofs.write.write_rebases.Goals as goal

pub loop-at-preserved : goal.loop-at-preserved
loop-at-preserved c =
    let ls = c.args.locations.now in
    let behind : take (length c.args.locations.now - (c.loop-at.at + 1)) (drop (c.loop-at.at + 1) c.args.locations.now) ≡ drop (c.loop-at.at + 1) c.args.locations.now =
    take_all (length ls - (c.loop-at.at + 1)) (drop (c.loop-at.at + 1) ls) (omega (arith, length-drop (c.loop-at.at + 1) ls)) in
    let within : c.loop-at.at + (1 + c.followers-count.result) ≤ length c.args.locations.now = omega (arith, c.followers-count.ensures.within, ap length behind, length-drop (c.loop-at.at + 1) ls) in
    record {
      added =
          added-next c.args.image.now ls (take (length ls - (c.loop-at.at + 1)) (drop (c.loop-at.at + 1) ls)) c.loop-at.at c.followers-count.result no_place c.loop-at.out.items c.put_run.new.out.items
          c.loop-at-test.true behind c.followers-count.ensures.run c.in_ok-put_run.ensures
          ∙ c.loop-at.invariant.added;
      within = within;
    }

pub returns-clause-bytes : goal.returns-clause-bytes
returns-clause-bytes c =
    added-end c.args.image.now c.args.locations.now c.loop-at.at c.loop-at.out.items c.push-2.new.self.items c.loop-at-test.false c.loop-at.invariant.added c.in_ok-push-2.ensures.items

pub returns-clause-words : goal.returns-clause-words
returns-clause-words c =
    let image = c.args.image.now in
    let ls = c.args.locations.now in
    let bytes = added-end image ls c.loop-at.at c.loop-at.out.items c.push-2.new.self.items c.loop-at-test.false c.loop-at.invariant.added c.in_ok-push-2.ensures.items in
    ap (λ (b : List ℕ). rebases_of b image) bytes ∙ words_back image ls (ready image ls c.facts.ensures c.requires)

pub returns-clause-sound : goal.returns-clause-sound
returns-clause-sound c = λ few.
    let image = c.args.image.now in
    let ls = c.args.locations.now in
    let bytes = added-end image ls c.loop-at.at c.loop-at.out.items c.push-2.new.self.items c.loop-at-test.false c.loop-at.invariant.added c.in_ok-push-2.ensures.items in
    ap (λ (b : List ℕ). rebase_break b image) bytes ∙ none_broken image ls (ready image ls c.facts.ensures c.requires) few
