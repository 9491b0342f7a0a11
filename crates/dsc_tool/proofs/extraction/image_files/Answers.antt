use Rattle.std.proofs.Common.{◌≡◌, ◌∙◌, ℕ, ap, map, arith}
use Rattle.std.specs.List.{range_with_len}
use Rattle.dsc_tool.specs.Extraction.{image_file}
use Rattle.dsc_tool.proofs.ExtractLaws.{one_file_more}
use Rattle.dsc_tool.proofs.extraction.image_files.Goals as goal

pub loop-index-preserved : goal.loop-index-preserved
loop-index-preserved c =
    one_file_more (image_file c.args.prefix.now c.args.vetted.now.view) c.args.first c.loop-index.index c.loop-index.files.items c.push.new.self.items c.in_ok-file.file c.loop-index.invariant
    c.in_ok-file.ensures c.in_ok-push.ensures.items

pub returns : goal.returns
returns c =
    let count : c.loop-index.index ≡ c.args.count = omega arith in
    c.loop-index.invariant ∙ ap (λ (n : ℕ). map (image_file c.args.prefix.now c.args.vetted.now.view) (range_with_len c.args.first n)) count
