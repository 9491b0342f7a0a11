-- Each turn makes one file.
use Rattle.std.proofs.Common.{◌∙◌, ap}
use Rattle.dsc_gen.specs.Draws.{Draw}
use Rattle.dsc_gen.specs.Files.{file_of}
use Rattle.dsc_gen.proofs.FileLaws.{files_more, files_all, files_count}
use Rattle.dsc_gen.proofs.files.generate.Goals as goal

pub loop-k-preserved : goal.loop-k-preserved
loop-k-preserved c =
    files_more c.args.shape.now c.args.count c.loop-k.k c.loop-k.generator c.draw_image.new.generator c.loop-k.files.items c.push.new.self.items c.in_ok-bytes.bytes _ c.loop-k-test.true c.loop-k.invariant
    (c.in_ok-bytes.ensures ∙ ap (λ (d : Draw). file_of c.args.shape.now c.loop-k.k d) c.in_ok-draw.ensures.drawn) c.in_ok-draw.ensures.after c.in_ok-push.ensures.items

pub returns-clause-files : goal.returns-clause-files
returns-clause-files c = files_all c.args.seed c.args.shape.now c.args.count c.loop-k.k c.loop-k.generator c.loop-k.files.items c.loop-k-test.false c.loop-k.invariant

pub returns-clause-count : goal.returns-clause-count
returns-clause-count c = files_count c.args.seed c.args.shape.now c.args.count c.loop-k.files.items (returns-clause-files c)
