use Rattle.std.proofs.Common.{◌≡◌, ◌++◌, All, take}
use Rattle.std.specs.List.{flat_map}
use Rattle.patch_table.specs.Spelling.{record_bytes, FitsRecord}
use Rattle.patch_table.proofs.writing.append_records.Given as goal

-- the records before the index are appended, and fit
abbrev pub invariant-loop-record : goal.invariant-loop-record
invariant-loop-record l =
    (l.out.items ≡ l.fn.out.items ++ flat_map record_bytes (take l.record-index l.records)) × All FitsRecord (take l.record-index l.records)
