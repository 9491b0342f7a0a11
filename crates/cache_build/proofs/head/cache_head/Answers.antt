use Rattle.std.proofs.Common.{◌+◌, ◌-◌}
use Rattle.cache_build.proofs.HeadLaws.{writable_head}
use Rattle.cache_build.proofs.head.cache_head.Goals as goal

pub write_cache_head-requires : goal.write_cache_head-requires
write_cache_head-requires c =
    writable_head c.args.layout.now c.args.images.now _ c.writable.result.at c.writable.result.len (c.args.frame.now.span - (c.writable.result.at + c.writable.result.len))
    c.requires.few c.requires.images c.in_ok-mappings.ensures c.in_ok-entries.ensures
