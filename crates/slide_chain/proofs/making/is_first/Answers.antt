use Rattle.std.proofs.Common.{◌≡◌, ◌+◌, ◌-◌, ◌≤◌, ℕ, get_or, subst, arith}
use Rattle.slide_chain.proofs.ListLaws.{next-at}
use Rattle.slide_chain.proofs.making.is_first.Goals as goal

pub step_between-requires : goal.step_between-requires
step_between-requires c =
    let back : c.args.i - 1 + 1 ≡ c.args.i = omega arith in
    let next : get_or c.args.words.now (c.args.i - 1) 0 + 8 ≤ get_or c.args.words.now c.args.i 0 =
    subst (λ (n : ℕ). get_or c.args.words.now (c.args.i - 1) 0 + 8 ≤ get_or c.args.words.now n 0) back (next-at c.args.words.now (c.args.i - 1) (omega arith) c.requires.words) in
    omega arith
