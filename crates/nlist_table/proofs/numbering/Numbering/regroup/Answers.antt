use Rattle.std.proofs.Common.{◌+◌, arith}
use Rattle.nlist_table.proofs.CountLaws.{length-indices, index_read, kept_before-le, kept_before-add, count_part}
use Rattle.nlist_table.proofs.numbering.Numbering.regroup.Goals as goal

pub index-first-requires : goal.index-first-requires
index-first-requires c =
    let s = c.args.self.now in
    omega (arith, c.requires, s.before.ok.0, length-indices s.entries.now s.before.items s.counted)

pub index-behind-requires : goal.index-behind-requires
index-behind-requires c =
    let s = c.args.self.now in
    omega (arith, c.requires, s.before.ok.0, length-indices s.entries.now s.before.items s.counted)

pub overflow_cast-result : goal.overflow_cast-result
overflow_cast-result c =
    let s = c.args.self.now in
    let first = index_read s.entries.now s.before.items c.args.index c.index-first.result.now s.counted (omega (arith, c.requires)) c.index-first.ensures in
    omega (arith, first, kept_before-le s.entries.now c.args.index, c.ranges.index.fits)

pub overflow_sub-result : goal.overflow_sub-result
overflow_sub-result c =
    let s = c.args.self.now in
    let first = index_read s.entries.now s.before.items c.args.index c.index-first.result.now s.counted (omega (arith, c.requires)) c.index-first.ensures in
    let behind = index_read s.entries.now s.before.items (c.args.index + c.args.count) c.index-behind.result.now s.counted c.requires c.index-behind.ensures in
    omega (arith, first, behind, kept_before-add s.entries.now c.args.index c.args.count)

pub overflow_cast-result-2 : goal.overflow_cast-result-2
overflow_cast-result-2 c =
    let s = c.args.self.now in
    let first = index_read s.entries.now s.before.items c.args.index c.index-first.result.now s.counted (omega (arith, c.requires)) c.index-first.ensures in
    let behind = index_read s.entries.now s.before.items (c.args.index + c.args.count) c.index-behind.result.now s.counted c.requires c.index-behind.ensures in
    omega (arith, first, behind, kept_before-add s.entries.now c.args.index c.args.count, count_part s.entries.now c.args.index c.args.count, c.ranges.count.fits)

pub returns-clause-index : goal.returns-clause-index
returns-clause-index c =
    let s = c.args.self.now in
    index_read s.entries.now s.before.items c.args.index c.index-first.result.now s.counted (omega (arith, c.requires)) c.index-first.ensures

pub returns-clause-count : goal.returns-clause-count
returns-clause-count c =
    let s = c.args.self.now in
    let first = index_read s.entries.now s.before.items c.args.index c.index-first.result.now s.counted (omega (arith, c.requires)) c.index-first.ensures in
    let behind = index_read s.entries.now s.before.items (c.args.index + c.args.count) c.index-behind.result.now s.counted c.requires c.index-behind.ensures in
    omega (arith, first, behind, kept_before-add s.entries.now c.args.index c.args.count)
