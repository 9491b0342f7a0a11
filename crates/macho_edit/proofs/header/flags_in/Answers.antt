use Rattle.std.proofs.Common.{◌∙◌, sym, ap, arith}
use Rattle.macho_image.specs.declared.form.Form.{Form}
use Rattle.macho_edit.specs.Cached.{flags_in}
use Rattle.macho_edit.proofs.FrontLaws.{flag_set, flag_clear}
use Rattle.macho_edit.proofs.header.flags_in.Goals as goal

pub returns-in-Cached : goal.returns-in-Cached
returns-in-Cached c = flag_set c.args.flags (omega arith) ∙ ap (λ (f : Form). flags_in f c.args.flags) (sym c.in-Cached.is)

pub returns-in-Standalone : goal.returns-in-Standalone
returns-in-Standalone c = flag_clear c.args.flags (omega arith) ∙ ap (λ (f : Form). flags_in f c.args.flags) (sym c.in-Standalone.is)
