-- The end so far, behind which the other streams end where all do.
use Rattle.std.proofs.Common.{◌≡◌, ◌≤◌, map, drop}
use Rattle.std.specs.List.{flat_map}
use Rattle.dsc_base.specs.Limits.{span_limit}
use Rattle.cache_layout.specs.Places.{numbered}
use Rattle.linkedit_merge.specs.Parts.{end_behind, lens_of}
use Rattle.linkedit_merge.specs.Sizes.{own_at, all_streams}
use Rattle.linkedit_merge.proofs.images.streams_size.Given as goal

abbrev pub invariant-loop-number : goal.invariant-loop-number
invariant-loop-number l = record {
  end : end_behind l.end (lens_of (flat_map (λ parts. parts) (drop l.number (numbered (own_at (map (λ e. e.items) l.exports)) l.images)))) ≡ end_behind 0 (lens_of (all_streams (map (λ e. e.items) l.exports) l.images));
  low : l.end ≤ span_limit;
}
