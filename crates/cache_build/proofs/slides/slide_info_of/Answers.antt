use Rattle.cache_build.proofs.SlideSizes.{few_starts, small_info}
use Rattle.cache_build.proofs.slides.slide_info_of.Goals as goal

pub slide_info_bytes-requires-clause-starts : goal.slide_info_bytes-requires-clause-starts
slide_info_bytes-requires-clause-starts c = few_starts c.in-Ok.info c.args.bits c.args.data_size c.args.words.now c.in-Ok.ensures.info c.requires.room

pub returns-clause-small : goal.returns-clause-small
returns-clause-small c =
    small_info c.in-Ok.info c.args.bits c.args.data_size c.args.words.now c.in_ok-bytes.bytes.items c.in-Ok.ensures.info c.in-Ok.ensures.made.few c.requires.room c.in_ok-bytes.ensures.bytes
