-- The index that the map has is where the name stands.
use Rattle.std.proofs.Common.{◌∙◌, ap, ℕ, Option}
use Rattle.std.specs.Prelude.{unwrap_or}
use Rattle.linkedit_merge.specs.Pool.{index_in}
use Rattle.linkedit_merge.proofs.PoolLaws.{found_in}
use Rattle.linkedit_merge.proofs.pool.Pool.index_of.Goals as goal

pub returns : goal.returns
unfolding index_in
returns c =
    c.unwrap_or.ensures
    ∙ ap (λ (o : Option ℕ). unwrap_or o 0) (c.copied.ensures ∙ (c.get.ensures.value ∙ found_in c.args.self.now.indices.entries c.args.name.now c.requires))
