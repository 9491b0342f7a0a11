-- A write to a part of the bytes puts the piece over them.
use Rattle.std.proofs.Common.{◌-◌, ◌+◌, length, arith, rules}
use Rattle.export_trie.proofs.FillLaws.{put_mid-over}
use Rattle.export_trie.proofs.writing.put_piece.Goals as goal

pub returns : goal.returns
returns c =
    put_mid-over c.args.at (c.args.at + length c.args.piece.now - c.args.at) c.args.bytes.now c.copy_from_slice.new.self c.args.piece.now
    (search rules) (omega arith)
