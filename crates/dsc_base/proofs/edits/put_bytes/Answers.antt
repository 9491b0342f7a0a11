-- A write to a part of the bytes is a put of the number there.
use Rattle.std.proofs.Common.{◌≡◌, ◌+◌, ◌-◌, ◌∙◌, take, ap, arith}
use Rattle.dsc_base.specs.Numbers.{little_bytes}
use Rattle.dsc_base.proofs.NumberLaws.{put_mid-put}
use Rattle.dsc_base.proofs.EditLaws.{take-bytes}
use Rattle.dsc_base.proofs.edits.put_bytes.Goals as goal

pub returns : goal.returns
returns c =
    let spelled : c.copy_from_slice.new.self ≡ little_bytes c.args.width c.args.value =
    c.copy_from_slice.ensures.after ∙ (ap (take c.args.width) c.to_le_bytes.ensures ∙ take-bytes 0 c.args.width 8 c.args.value c.requires.narrow) in
    put_mid-put c.args.width c.args.bytes.now c.args.at (c.args.at + c.args.width - c.args.at) c.args.value c.copy_from_slice.new.self
    spelled (omega arith)
