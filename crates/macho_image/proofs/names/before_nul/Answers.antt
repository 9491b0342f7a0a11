use Rattle.std.proofs.Common.{◌∙◌, sym, nat_eq}
use Rattle.macho_image.proofs.Texts.{before_found, before_absent}
use Rattle.macho_image.proofs.names.before_nul.Goals as goal

pub returns-in-Some : goal.returns-in-Some
returns-in-Some c = c.front.ensures ∙ before_found (λ x. nat_eq x 0) c.args.bytes.now c.in-Some.len (sym c.nul_at.ensures ∙ c.in-Some.is)

pub returns-in-None : goal.returns-in-None
returns-in-None c = before_absent (λ x. nat_eq x 0) c.args.bytes.now (sym c.nul_at.ensures ∙ c.in-None.is)
