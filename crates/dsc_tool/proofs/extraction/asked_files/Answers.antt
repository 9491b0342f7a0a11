use Rattle.std.proofs.Common.{inr, refl}
use Rattle.dsc_tool.proofs.ExtractLaws.{missing_image, one_image}
use Rattle.dsc_tool.proofs.extraction.asked_files.Goals as goal

pub returns-in-None-number-clause-stop : goal.returns-in-None-number-clause-stop
returns-in-None-number-clause-stop c =
    inr (
      refl,
      missing_image c.args.prefix.now c.args.vetted.now.view c.args.image c.in-Some.path c.as_str.result.now c.as_bytes.result.now c.number.result c.in-Some.is c.as_str.ensures c.as_bytes.ensures.value
          c.number.ensures c.in-None-number.is,
    )

pub returns-clause-files : goal.returns-clause-files
returns-clause-files c =
    one_image c.args.prefix.now c.args.vetted.now.view c.args.image c.in-Some.path c.as_str.result.now c.as_bytes.result.now c.number.result c.in-Some-number.number
    c.in_ok-image_files-in-Some-number.field-0.items c.in-Some.is c.as_str.ensures c.as_bytes.ensures.value c.number.ensures c.in-Some-number.is c.in_ok-image_files-in-Some-number.ensures
