use Rattle.std.proofs.Common.{ap}
use Rattle.macho_image.specs.Places.{above}
use Rattle.dsc_base.specs.Region.{region_start}
use Rattle.cache_header.specs.Records.{Entry}
use Rattle.cache_check.proofs.images.header_place.Goals as goal

pub returns : goal.returns
unfolding above
returns c = ap (λ (e : Entry). above region_start e.address) c.entry.view_is
