-- A size that exceeds the limit does so with all others.
use Rattle.std.proofs.Common.{◌∙◌, [], ◌∷◌, Vec, Global, map, arith}
use Rattle.dsc_base.specs.Limits.{span_limit}
use Rattle.export_trie.specs.declared.export.Export.{Export}
use Rattle.linkedit_merge.specs.Parts.{end_behind, lens_of}
use Rattle.linkedit_merge.specs.Sizes.{all_streams, symbols_size, indirect_size, whole_size}
use Rattle.linkedit_merge.proofs.SizeLaws.{exceeds_exit, below_whole, whole_is}
use Rattle.linkedit_merge.proofs.merging.measure.Goals as goal

pub returns-in_err-symbols-clause-cause : goal.returns-in_err-symbols-clause-cause
returns-in_err-symbols-clause-cause c =
    let exports = map (λ (e : Vec Export Global). e.items) c.args.exports.now in
    exceeds_exit span_limit (symbols_size c.args.tables.now) (whole_size exports c.args.images.now c.args.tables.now c.args.pool_len) c.from_residual.result c.in_err-symbols.field-0.0
    ((below_whole exports c.args.images.now c.args.tables.now c.args.pool_len).symbols) c.from_residual.ensures.1 c.in_err-symbols.ensures.cause

pub returns-in_err-indirect-clause-cause : goal.returns-in_err-indirect-clause-cause
returns-in_err-indirect-clause-cause c =
    let exports = map (λ (e : Vec Export Global). e.items) c.args.exports.now in
    exceeds_exit span_limit (indirect_size c.args.tables.now) (whole_size exports c.args.images.now c.args.tables.now c.args.pool_len) c.from_residual-in_err-indirect.result c.in_err-indirect.field-0.0
    ((below_whole exports c.args.images.now c.args.tables.now c.args.pool_len).indirect) c.from_residual-in_err-indirect.ensures.1 c.in_err-indirect.ensures.cause

pub returns-in_err-streams-clause-cause : goal.returns-in_err-streams-clause-cause
returns-in_err-streams-clause-cause c =
    let exports = map (λ (e : Vec Export Global). e.items) c.args.exports.now in
    exceeds_exit span_limit (end_behind 0 (lens_of (all_streams exports c.args.images.now))) (whole_size exports c.args.images.now c.args.tables.now c.args.pool_len) c.from_residual-in_err-streams.result c.in_err-streams.field-0.0
    ((below_whole exports c.args.images.now c.args.tables.now c.args.pool_len).streams) c.from_residual-in_err-streams.ensures.1 c.in_err-streams.ensures.cause

pub returns-in_err-whole-clause-cause : goal.returns-in_err-whole-clause-cause
returns-in_err-whole-clause-cause c =
    let exports = map (λ (e : Vec Export Global). e.items) c.args.exports.now in
    let size = end_behind c.in_ok-streams.streams (c.in_ok-symbols.symbols ∷ c.in_ok-indirect.indirect ∷ c.args.pool_len ∷ []) in
    let whole = whole_is exports c.args.images.now c.args.tables.now c.args.pool_len c.in_ok-streams.streams c.in_ok-symbols.symbols c.in_ok-indirect.indirect
    c.in_ok-streams.ensures.size.0 c.in_ok-symbols.ensures.size.0 c.in_ok-indirect.ensures.size.0 in
    exceeds_exit span_limit size (whole_size exports c.args.images.now c.args.tables.now c.args.pool_len) c.from_residual-in_err-whole.result c.in_err-whole.field-0.0
    (omega (arith, whole)) c.from_residual-in_err-whole.ensures.1 c.in_err-whole.ensures.cause

pub returns-clause-whole : goal.returns-clause-whole
returns-clause-whole c =
    let exports = map (λ (e : Vec Export Global). e.items) c.args.exports.now in
    let whole = whole_is exports c.args.images.now c.args.tables.now c.args.pool_len c.in_ok-streams.streams c.in_ok-symbols.symbols c.in_ok-indirect.indirect
    c.in_ok-streams.ensures.size.0 c.in_ok-symbols.ensures.size.0 c.in_ok-indirect.ensures.size.0 in
    (c.in_ok-whole.ensures.size.0 ∙ whole, omega (arith, whole, c.in_ok-whole.ensures.size.1))
