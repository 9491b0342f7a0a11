-- What is measured and written are the parts of the shares.
use Rattle.std.proofs.Common.{◌≡◌, ◌∙◌, ℕ, List, [], Vec, Global, map, refl, sym, ap, ap₂, arith, Some, Option, get_or, ◌≤◌, subst}
use Rattle.std.specs.List.{flat_map}
use Rattle.std.proofs.lemmas.Option.{slice_get_within, get_or_from_slice_get}
use Rattle.dsc_base.specs.Region.{paged}
use Rattle.dsc_base.specs.declared.fault.Break.{Break}
use Rattle.export_trie.specs.declared.export.Export.{Export}
use Rattle.nlist_table.specs.Symbols.{Tabs}
use Rattle.cache_layout.specs.Places.{numbered}
use Rattle.cache_layout.proofs.NumberedLaws.{numbered-get}
use Rattle.linkedit_merge.specs.Indices.{names_of, pool_len}
use Rattle.linkedit_merge.specs.Linkedit.{linkedit_of, linkedit_start, pool_of}
use Rattle.linkedit_merge.specs.Parts.{joined, lens_of, spans_behind}
use Rattle.linkedit_merge.specs.Pool.{pooled_behind, symbol_names}
use Rattle.linkedit_merge.specs.Shares.{shares_of}
use Rattle.linkedit_merge.specs.Sizes.{moved_at, whole_size}
use Rattle.linkedit_merge.specs.declared.streams.StreamSpots.{StreamSpots}
use Rattle.linkedit_merge.specs.Spots.{spots_from}
use Rattle.linkedit_merge.proofs.MergeLaws.{names_are, parts_are, size_is, passed_on, one_each, measured, breaks_where, fits_where, refused_exit, pool_within}
use Rattle.linkedit_merge.specs.ReadBack.{AllReadBack, IsTrie}
use Rattle.linkedit_merge.proofs.ReadLaws.{all_read_back}
use Rattle.linkedit_merge.proofs.SpotLaws.{IsFrame, spots_are}
use Rattle.dsc_base.specs.Limits.{span_limit}
use Rattle.macho_edit.specs.declared.spots.LinkSpots.{LinkSpots}
use Rattle.linkedit_merge.proofs.merging.merge_images.Goals as goal

pub returns-in_err-pool-clause-cause : goal.returns-in_err-pool-clause-cause
returns-in_err-pool-clause-cause c =
    let images = c.args.images.now in
    let tables = c.args.tables.now in
    let moves = c.args.layout.now.moves in
    let shares = shares_of images tables moves in
    let exports = map (λ (e : Vec Export Global). e.items) c.in_ok-exports.exports.items in
    let names = pooled_behind [] (flat_map symbol_names (flat_map (λ (t : Tabs). t.symbols) tables)) in
    let size = size_is images tables moves exports names c.requires.tables.many c.in_ok-exports.ensures.moved (sym (names_are images tables moves c.requires.tables.many)) in
    refused_exit c.args.layout.now c.args.slide_size shares (pool_len names) c.from_residual-in_err-pool.result c.in_err-pool.field-0.0
    (omega (arith, size, pool_within exports images tables (pool_len names))) c.from_residual-in_err-pool.ensures.1 c.in_err-pool.ensures.cause

pub measure-requires-clause-one_each : goal.measure-requires-clause-one_each
measure-requires-clause-one_each c = one_each c.deref.result.now c.in_ok-exports.exports.items c.args.images.now c.args.layout.now.moves c.deref.ensures.value c.in_ok-exports.ensures.moved

pub write-requires-clause-one_each : goal.write-requires-clause-one_each
write-requires-clause-one_each c = one_each c.deref-2.result.now c.in_ok-exports.exports.items c.args.images.now c.args.layout.now.moves c.deref-2.ensures.value c.in_ok-exports.ensures.moved

pub returns-in_err-sizes-clause-cause : goal.returns-in_err-sizes-clause-cause
returns-in_err-sizes-clause-cause c =
    let images = c.args.images.now in
    let tables = c.args.tables.now in
    let moves = c.args.layout.now.moves in
    let shares = shares_of images tables moves in
    let items = λ (e : Vec Export Global). e.items in
    let exports = map items c.deref.result.now in
    let names = names_of c.in_ok-pool.pool in
    let moved = passed_on c.deref.result.now c.in_ok-exports.exports.items (numbered (moved_at moves) images) c.deref.ensures.value c.in_ok-exports.ensures.moved in
    let measure = whole_size exports images tables c.in_ok-pool.pool.len in
    let whole = measured images tables moves exports names c.in_ok-pool.pool.len measure c.requires.tables.many moved c.in_ok-pool.ensures.names c.in_ok-pool.ensures.pool.long refl in
    refused_exit c.args.layout.now c.args.slide_size shares measure c.from_residual-in_err-sizes.result c.in_err-sizes.field-0.0
    (omega (arith, whole)) c.from_residual-in_err-sizes.ensures.1 c.in_err-sizes.ensures.cause

pub returns-then-start-page_up-gt-SPAN_LIMIT-clause-cause : goal.returns-then-start-page_up-gt-SPAN_LIMIT-clause-cause
returns-then-start-page_up-gt-SPAN_LIMIT-clause-cause c =
    let images = c.args.images.now in
    let tables = c.args.tables.now in
    let moves = c.args.layout.now.moves in
    let shares = shares_of images tables moves in
    let items = λ (e : Vec Export Global). e.items in
    let exports = map items c.deref.result.now in
    let names = names_of c.in_ok-pool.pool in
    let moved = passed_on c.deref.result.now c.in_ok-exports.exports.items (numbered (moved_at moves) images) c.deref.ensures.value c.in_ok-exports.ensures.moved in
    let whole = measured images tables moves exports names c.in_ok-pool.pool.len c.in_ok-sizes.sizes.whole c.requires.tables.many moved c.in_ok-pool.ensures.names c.in_ok-pool.ensures.pool.long c.in_ok-sizes.ensures.whole.0 in
    breaks_where c.args.layout.now c.args.slide_size shares
    (omega (arith, c.if-start-page_up-gt-SPAN_LIMIT.true, c.linkedit_start-start.ensures.start, c.page_up.ensures.value, ap paged whole))
    ∙ ap (λ (x : Break). let o : Option Break = Some x in o) (sym c.too_large.ensures)

pub all_spots-requires-clause-low : goal.all_spots-requires-clause-low
all_spots-requires-clause-low c = c.in_ok-written.ensures.low

pub returns-clause-bytes : goal.returns-clause-bytes
unfolding linkedit_of
returns-clause-bytes c =
    let images = c.args.images.now in
    let tables = c.args.tables.now in
    let moves = c.args.layout.now.moves in
    let items = λ (e : Vec Export Global). e.items in
    let exports = map items c.deref-2.result.now in
    let names = names_of c.in_ok-pool.pool in
    let moved = passed_on c.deref-2.result.now c.in_ok-exports.exports.items (numbered (moved_at moves) images) c.deref-2.ensures.value c.in_ok-exports.ensures.moved in
    c.in_ok-written.ensures.written.bytes
    ∙ ap (λ (l : List (List ℕ)). joined l) (sym (parts_are images tables moves exports names moved (c.in_ok-pool.ensures.names ∙ sym (names_are images tables moves c.requires.tables.many))))

pub returns-clause-spots : goal.returns-clause-spots
returns-clause-spots c =
    let images = c.args.images.now in
    let tables = c.args.tables.now in
    let moves = c.args.layout.now.moves in
    let shares = shares_of images tables moves in
    let start = linkedit_start c.args.layout.now c.args.slide_size in
    let items = λ (e : Vec Export Global). e.items in
    let exports = map items c.deref.result.now in
    let written_exports = map items c.deref-2.result.now in
    let names = names_of c.in_ok-pool.pool in
    let names_is = c.in_ok-pool.ensures.names ∙ sym (names_are images tables moves c.requires.tables.many) in
    let moved = passed_on c.deref.result.now c.in_ok-exports.exports.items (numbered (moved_at moves) images) c.deref.ensures.value c.in_ok-exports.ensures.moved in
    let written_moved = passed_on c.deref-2.result.now c.in_ok-exports.exports.items (numbered (moved_at moves) images) c.deref-2.ensures.value c.in_ok-exports.ensures.moved in
    let whole = measured images tables moves exports names c.in_ok-pool.pool.len c.in_ok-sizes.sizes.whole c.requires.tables.many moved c.in_ok-pool.ensures.names c.in_ok-pool.ensures.pool.long c.in_ok-sizes.ensures.whole.0 in
    let streams = c.in_ok-written.written.streams.items in
    let frame = c.in_ok-written.written.frame in
    let written = c.in_ok-written.ensures.written in
    let start_is : c.linkedit_start-start.result ≡ start = c.linkedit_start-start.ensures.start in
    let parts = parts_are images tables moves written_exports names written_moved names_is in
    let h : IsFrame start images tables moves streams frame = record {
      many = written.many;
      tables_many = c.requires.tables.many;
      start_is = written.start_is ∙ start_is;
      size_is = written.size_is ∙ whole;
      spans = record { all = written.spans ∙ ap₂ (λ (n : ℕ) (l : List (List ℕ)). spans_behind n 0 (lens_of l)) start_is (sym parts) };
    } in
    c.in_ok-spots.ensures
    ∙ (ap (λ (l : List StreamSpots). numbered (spots_from frame tables) l) c.deref-3.ensures.value ∙ spots_are start images tables moves streams frame h)

pub returns-clause-cause : goal.returns-clause-cause
returns-clause-cause c =
    let images = c.args.images.now in
    let tables = c.args.tables.now in
    let moves = c.args.layout.now.moves in
    let shares = shares_of images tables moves in
    let items = λ (e : Vec Export Global). e.items in
    let exports = map items c.deref.result.now in
    let names = names_of c.in_ok-pool.pool in
    let moved = passed_on c.deref.result.now c.in_ok-exports.exports.items (numbered (moved_at moves) images) c.deref.ensures.value c.in_ok-exports.ensures.moved in
    let whole = measured images tables moves exports names c.in_ok-pool.pool.len c.in_ok-sizes.sizes.whole c.requires.tables.many moved c.in_ok-pool.ensures.names c.in_ok-pool.ensures.pool.long c.in_ok-sizes.ensures.whole.0 in
    fits_where c.args.layout.now c.args.slide_size shares
    (omega (arith, c.if-start-page_up-gt-SPAN_LIMIT.false, c.linkedit_start-start.ensures.start, c.page_up.ensures.value, ap paged whole))

pub returns-clause-read_back : goal.returns-clause-read_back
returns-clause-read_back c =
    let images = c.args.images.now in
    let tables = c.args.tables.now in
    let moves = c.args.layout.now.moves in
    let shares = shares_of images tables moves in
    let start = linkedit_start c.args.layout.now c.args.slide_size in
    let names_is : names_of c.in_ok-pool.pool ≡ pool_of shares = c.in_ok-pool.ensures.names ∙ sym (names_are images tables moves c.requires.tables.many) in
    let few : pool_len (pool_of shares) ≤ span_limit = omega (arith, c.in_ok-pool.ensures.pool.long, c.in_ok-pool.ensures.pool.low, ap pool_len names_is) in
    subst (λ (bytes : List ℕ). AllReadBack start bytes shares c.in_ok-spots.spots.items) (sym (returns-clause-bytes c))
    (subst (λ (spots : List LinkSpots). AllReadBack start (linkedit_of shares) shares spots) (sym (returns-clause-spots c))
    (all_read_back start images tables moves c.requires.tables c.read_fields.ensures few))

pub returns-clause-exports : goal.returns-clause-exports
returns-clause-exports c = λ k image found.
    let images = c.args.images.now in
    let moves = c.args.layout.now.moves in
    let items = λ (e : Vec Export Global). e.items in
    let lt = slice_get_within images k image found in
    let own = ap (λ (l : List (List Export)). get_or l k []) (ap (λ (l : List (Vec Export Global)). map items l) c.deref-2.ensures.value ∙ c.in_ok-exports.ensures.moved)
    ∙ numbered-get (moved_at moves) images k image [] lt (sym (get_or_from_slice_get images k image image found)) in
    subst IsTrie own (c.in_ok-written.ensures.tries k lt)
