use Rattle.std.proofs.Common.{refl, arith}
use Rattle.slide_chain.specs.Chains.{delta_of}
use Rattle.slide_chain.proofs.WordLaws.{run_zeros}
use Rattle.slide_chain.proofs.words.delta.Goals as goal

pub overflow_sub-result : goal.overflow_sub-result
overflow_sub-result c = omega (arith, run_zeros c.args.mask c.requires, c.requires.above)

pub returns : goal.returns
unfolding delta_of
returns c = refl
