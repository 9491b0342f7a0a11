use Rattle.std.proofs.Common.{◌∙◌, ap, not, List}
use Rattle.prebind.specs.Resolves.{Pair, is_met}
use Rattle.prebind.proofs.MetLaws.{met_keys}
use Rattle.prebind.proofs.met.Met.insert.Goals as goal

pub returns-clause-fresh : goal.returns-clause-fresh
returns-clause-fresh c =
    c.in_ok-new.ensures.added
    ∙ ap not (met_keys c.args.image c.args.name.now c.self.inside.pairs.keys ∙ ap (λ (ps : List Pair). is_met ps (c.args.image, c.args.name.now)) c.self.view_is)
