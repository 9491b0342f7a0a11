-- An image as contracts see it, from its fields.
use Rattle.macho_image.specs.declared.image.Image.TheInside.{Inside}
use Rattle.macho_image.specs.Records.{Img}
use Rattle.macho_image.specs.Breaks.{IsSound}

abbrev pub image_view : Inside → Img
image_view i = record { install_name = i.install_name.now; segments = i.segments.items; sections = i.sections.items; dependencies = i.dependencies.items; streams = i.streams; groups = i.groups; uuid = i.uuid; has_dyld_info = i.has_dyld_info; header = i.header.now }

abbrev pub IsSoundInside : Inside → Type 0
IsSoundInside i = IsSound (image_view i)
