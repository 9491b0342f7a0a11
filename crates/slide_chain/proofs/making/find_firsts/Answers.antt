-- A word is taken or passed, and what is left gives the rest.
use Rattle.std.proofs.Common.{◌≡◌, ◌∙◌, ◌++◌, ◌+◌, ◌-◌, ◌||◌, ◌∷◌, [], List, ℕ, get_or, nat_eq, sym, ap, true, false}
use Rattle.std.proofs.lemmas.List.{append-nil}
use Rattle.slide_chain.specs.Making.{step}
use Rattle.slide_chain.proofs.MakeLaws.{firsts_behind, firsts-end, first-taken, first-passed}
use Rattle.slide_chain.proofs.making.find_firsts.Goals as goal
use Rattle.slide_chain.proofs.making.find_firsts.Goals.{then-is_first+in_ok-push, else-is_first}

pub loop-i-init : goal.loop-i-init
loop-i-init c = ap (λ (l : List ℕ). l ++ firsts_behind c.args.limit c.args.words.now 0) c.clear.ensures.items

pub loop-i-preserved : goal.loop-i-preserved
loop-i-preserved c =
    elim c.if-is_first.branch [
      | then-is_first+in_ok-push w ↦
          let taken : (nat_eq c.loop-i.i 0 || nat_eq (step c.args.limit (get_or c.args.words.now (c.loop-i.i - 1) 0) (get_or c.args.words.now c.loop-i.i 0)) 0) ≡ true = sym c.is_first.ensures ∙ w.if-is_first.true in
          let is : c.if-is_first.found.items ≡ c.loop-i.found.items ++ (get_or c.args.words.now c.loop-i.i 0 ∷ []) = ap (λ v. v.items) w.found-is ∙ w.in_ok-push.ensures.items in
          ap (λ (l : List ℕ). l ++ firsts_behind c.args.limit c.args.words.now (c.loop-i.i + 1)) is
          ∙ first-taken c.args.limit c.args.words.now c.loop-i.found.items _ c.loop-i.i c.loop-i-test.true taken c.loop-i.invariant
      | else-is_first w ↦
          let passed : (nat_eq c.loop-i.i 0 || nat_eq (step c.args.limit (get_or c.args.words.now (c.loop-i.i - 1) 0) (get_or c.args.words.now c.loop-i.i 0)) 0) ≡ false = sym c.is_first.ensures ∙ w.if-is_first.false in
          ap (λ v. v.items ++ firsts_behind c.args.limit c.args.words.now (c.loop-i.i + 1)) w.found-is
          ∙ first-passed c.args.limit c.args.words.now c.loop-i.found.items _ c.loop-i.i c.loop-i-test.true passed c.loop-i.invariant
    ]

pub returns : goal.returns
returns c =
    sym (append-nil c.loop-i.found.items)
    ∙ (ap (λ (l : List ℕ). c.loop-i.found.items ++ l) (sym (firsts-end c.args.limit c.args.words.now c.loop-i.i c.loop-i-test.false)) ∙ c.loop-i.invariant)
