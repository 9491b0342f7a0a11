use Rattle.std.proofs.Common.{◌≡◌, ◌∙◌, false, arith, sym}
use Rattle.macho_image.specs.Nlists.{is_flag}
use Rattle.nlist_table.proofs.CountLaws.{length-indices, index_read, kept_before-le}
use Rattle.nlist_table.proofs.KeptLaws.{index_is}
use Rattle.nlist_table.proofs.numbering.Numbering.renumber.Goals as goal

pub index-requires : goal.index-requires
index-requires c =
    let s = c.args.self.now in
    let plain : is_flag c.args.index ≡ false = sym c.if-is_flag.ensures in
    omega (arith, c.requires plain, s.before.ok.0, length-indices s.entries.now s.before.items s.counted)

pub overflow_cast-result : goal.overflow_cast-result
overflow_cast-result c =
    let s = c.args.self.now in
    let plain : is_flag c.args.index ≡ false = sym c.if-is_flag.ensures in
    let within = c.requires plain in
    omega (arith, index_read s.entries.now s.before.items c.args.index c.index.result.now s.counted (omega (arith, within)) c.index.ensures, kept_before-le s.entries.now c.args.index, c.ranges.index.fits)

pub returns-else-is_flag : goal.returns-else-is_flag
returns-else-is_flag c =
    let s = c.args.self.now in
    let plain : is_flag c.args.index ≡ false = sym c.if-is_flag.ensures in
    let within = c.requires plain in
    index_read s.entries.now s.before.items c.args.index c.index.result.now s.counted (omega (arith, within)) c.index.ensures ∙ sym (index_is s.entries.now c.args.index plain)
