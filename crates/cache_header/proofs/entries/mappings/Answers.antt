use Rattle.std.proofs.Common.{◌∙◌, ◌+◌, ◌-◌, ◌*◌, ap₂, ℕ, arith}
use Rattle.cache_header.specs.Reading.{mappings_from, mappings_of}
use Rattle.cache_header.proofs.EntryLaws.{mappings_more, mappings_end}
use Rattle.cache_header.proofs.entries.mappings.Goals as goal

pub loop-k-preserved : goal.loop-k-preserved
loop-k-preserved c =
    mappings_more c.loop-k.mappings.items c.push.new.self.items _ c.args.bytes.now (c.get_u32-count.result - c.loop-k.k) (c.get_u32-count.result - (c.loop-k.k + 1))
    (c.get_u32-table.result + 32 * c.loop-k.k) (c.get_u32-table.result + 32 * (c.loop-k.k + 1)) c.mapping.result
    (omega arith) (omega arith) c.mapping.ensures c.in_ok-push.ensures.items c.loop-k.invariant

pub returns : goal.returns
unfolding mappings_of
returns c =
    mappings_end c.loop-k.mappings.items _ c.args.bytes.now (c.get_u32-count.result - c.loop-k.k) (c.get_u32-table.result + 32 * c.loop-k.k) (omega arith) c.loop-k.invariant
    ∙ ap₂ (λ (n at : ℕ). mappings_from n c.args.bytes.now at) c.get_u32-count.ensures c.get_u32-table.ensures
