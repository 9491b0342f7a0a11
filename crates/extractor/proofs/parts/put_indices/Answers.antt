-- A part made ready, and then its bytes.
use Rattle.std.proofs.Common.{◌*◌, ◌∙◌, ℕ, length, ap, refl, sym}
use Rattle.std.specs.List.{flat_map}
use Rattle.dsc_base.specs.Numbers.{little_bytes}
use Rattle.linkedit_merge.specs.Parts.{span_behind}
use Rattle.linkedit_merge.proofs.ShareLaws.{opened_part}
use Rattle.extractor.proofs.PreparedLaws.{long_each}
use Rattle.extractor.proofs.parts.put_indices.Goals as goal

pub returns-clause-bytes : goal.returns-clause-bytes
returns-clause-bytes c =
    opened_part c.args.out.now.items (flat_map (little_bytes 4) c.args.indices.now) c.open_part.new.out.items c.append_indices.new.out.items (4 * length c.args.indices.now)
    (sym (long_each (little_bytes 4) 4 c.args.indices.now (λ n. refl))) c.in_ok-span.ensures.bytes c.in_ok-append_indices.ensures

pub returns-clause-span : goal.returns-clause-span
returns-clause-span c = c.in_ok-span.ensures.span ∙ ap (λ (n : ℕ). span_behind 0 (length c.args.out.now.items) n) (sym (long_each (little_bytes 4) 4 c.args.indices.now (λ n. refl)))
