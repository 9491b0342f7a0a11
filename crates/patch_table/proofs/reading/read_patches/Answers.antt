use Rattle.std.proofs.Common.{◌∙◌, sym}
use Rattle.patch_table.proofs.TableLaws.{head_there, head_facts}
use Rattle.patch_table.proofs.BreakLaws.{refused_misshapen}
use Rattle.patch_table.proofs.reading.read_patches.Goals as goal

pub returns-then-not-has_head-clause-refuses : goal.returns-then-not-has_head-clause-refuses
returns-then-not-has_head-clause-refuses c =
    refused_misshapen _ c.misshapen.result c.misshapen.ensures
    (λ (t, spells). let clash = sym c.if-not-has_head.true ∙ (c.has_head.ensures ∙ head_there t c.args.bytes.now spells) in absurd (cc))

pub read_told-requires : goal.read_told-requires
read_told-requires c = head_facts c.args.bytes.now (sym c.has_head.ensures ∙ c.if-not-has_head.false)
