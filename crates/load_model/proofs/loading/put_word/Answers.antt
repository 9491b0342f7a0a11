use Rattle.std.proofs.Common.{rules, ◌≡◌, ◌∙◌, ap, sym, [], slice_index_or, List, ℕ}
use Rattle.std.proofs.lemmas.List.{with_items_is}
use Rattle.std.specs.Vec.{with_items}
use Rattle.dsc_base.specs.Numbers.{put_number}
use Rattle.load_model.specs.Phases.{contents}
use Rattle.load_model.proofs.AreaLaws.{contents_set, contents_at}
use Rattle.load_model.proofs.loading.put_word.Goals as goal

pub returns : goal.returns
returns c =
    let whole = contents_at c.args.areas.now.items c.args.segment c.index_mut-area.result.now c.requires.segment in
    let area : c.deref_mut.result.now ≡ slice_index_or (contents c.args.areas.now.items) c.args.segment [] = search (rules, sym whole) in
    let items : (with_items c.index_mut-area.result.now c.put_u64.new.bytes).items ≡ c.put_u64.new.bytes = with_items_is c.index_mut-area.result.now c.put_u64.new.bytes (search (rules, c.put_u64.auto.bytes, c.deref_mut.ensures.len)) in
    contents_set c.args.areas.now.items c.args.segment (with_items c.index_mut-area.result.now c.put_u64.new.bytes) (put_number 8 (slice_index_or (contents c.args.areas.now.items) c.args.segment []) c.args.at c.args.value)
    (items ∙ c.put_u64.ensures.put ∙ ap (λ (b : List ℕ). put_number 8 b c.args.at c.args.value) area)
