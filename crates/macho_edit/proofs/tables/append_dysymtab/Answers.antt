use Rattle.std.proofs.Common.{◌≡◌, length, arith}
use Rattle.macho_edit.proofs.AppendLaws.{dysymtab_written}
use Rattle.macho_edit.proofs.tables.append_dysymtab.Goals as goal

pub returns : goal.returns
returns c =
    let six : length c.args.spots.now.groups ≡ 6 = omega arith in
    dysymtab_written c.args.spots.now c.args.command.now c.args.out.now.items c.extend_from_slice.new.self.items c.append_words.new.out.items c.append_words-2.new.out.items
    c.extend_from_slice-2.new.self.items c.indirect_words-indirect.result six
    c.in_ok-extend_from_slice.ensures.items c.in_ok-append_words.ensures c.indirect_words-indirect.ensures c.in_ok-append_words-2.ensures c.in_ok-extend_from_slice-2.ensures.items
