-- A part made ready, and then its bytes.
use Rattle.std.proofs.Common.{◌∙◌, sym}
use Rattle.std.specs.List.{flat_map}
use Rattle.dsc_base.specs.Numbers.{little_bytes}
use Rattle.nlist_table.specs.Symbols.{Tabs}
use Rattle.linkedit_merge.proofs.ShareLaws.{opened_part, long_indirect}
use Rattle.linkedit_merge.proofs.merged.put_indices.Goals as goal

pub returns-clause-bytes : goal.returns-clause-bytes
returns-clause-bytes c =
    opened_part c.args.out.now.items (flat_map (little_bytes 4) (flat_map (λ (t : Tabs). t.indirect) c.args.tables.now)) c.open_part.new.out.items c.append_all_indices.new.out.items c.args.size
    (c.requires.size ∙ sym (long_indirect c.args.tables.now)) c.in_ok-span.ensures.bytes c.in_ok-append_all_indices.ensures
