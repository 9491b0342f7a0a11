-- Where a linkedit starts behind segments that end on a page.
use Rattle.std.proofs.Common.{◌≡◌, ℕ, ◌+◌, ◌%◌, arith}
use Rattle.dsc_base.specs.Region.{paged}
use Rattle.cache_layout.specs.Layouts.{Laid}
use Rattle.linkedit_merge.specs.Linkedit.{linkedit_start}

-- slide information takes whole pages behind them
pub start_is : (layout : Laid) (slide : ℕ) → (layout.fixed.at + layout.fixed.len) % 4096 ≡ 0 → linkedit_start layout slide ≡ layout.fixed.at + layout.fixed.len + paged slide
unfolding linkedit_start paged
start_is layout slide whole = omega arith
