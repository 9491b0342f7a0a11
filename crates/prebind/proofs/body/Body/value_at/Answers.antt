use Rattle.std.proofs.Common.{◌∙◌, List, sym, ap}
use Rattle.macho_image.specs.Records.{Seg}
use Rattle.macho_image.specs.Segments.{value_of}
use Rattle.prebind.proofs.BodyLaws.{value_in_body}
use Rattle.prebind.proofs.body.Body.value_at.Goals as goal

pub returns : goal.returns
returns c =
    c.value_at.ensures ∙ (sym (value_in_body c.self.inside.segments.now c.self.inside.linkedit c.args.word.now) ∙ ap (λ (ss : List Seg). value_of ss c.args.word.now) c.self.view_is)
