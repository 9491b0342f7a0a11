-- The number and the name of each FindingKind.
use Rattle.std.specs.Prelude.{ℕ, List, codes}
use Rattle.dsc_base.specs.declared.finding_kind.FindingKind.{FindingKind}
use Rattle.dsc_base.specs.declared.finding_kind.FindingKind.TheVariants.{CacheTooLarge, NotCache, ShortHeader, TableOutside, NameNotPlain, MappingShape, SlideInfoShape, MaskShape, ExtrasEnd, ChainLeavesPage, ChainsOverlap, ImageBroken, NameDiffers, SegmentOutside, NameTwice, StreamBroken, LinkBroken, ChainOutside, PointerNotSymbol, ForeignPointer, ExtractTooLarge}

abbrev pub number_of : FindingKind → ℕ
number_of CacheTooLarge = 201
number_of NotCache = 202
number_of ShortHeader = 203
number_of TableOutside = 204
number_of NameNotPlain = 205
number_of MappingShape = 206
number_of SlideInfoShape = 207
number_of MaskShape = 208
number_of ExtrasEnd = 209
number_of ChainLeavesPage = 210
number_of ChainsOverlap = 211
number_of ImageBroken = 212
number_of NameDiffers = 213
number_of SegmentOutside = 214
number_of NameTwice = 215
number_of StreamBroken = 216
number_of LinkBroken = 217
number_of ChainOutside = 218
number_of PointerNotSymbol = 219
number_of ForeignPointer = 220
number_of ExtractTooLarge = 221

abbrev pub name_of : FindingKind → List ℕ
name_of CacheTooLarge = codes "CacheTooLarge"
name_of NotCache = codes "NotCache"
name_of ShortHeader = codes "ShortHeader"
name_of TableOutside = codes "TableOutside"
name_of NameNotPlain = codes "NameNotPlain"
name_of MappingShape = codes "MappingShape"
name_of SlideInfoShape = codes "SlideInfoShape"
name_of MaskShape = codes "MaskShape"
name_of ExtrasEnd = codes "ExtrasEnd"
name_of ChainLeavesPage = codes "ChainLeavesPage"
name_of ChainsOverlap = codes "ChainsOverlap"
name_of ImageBroken = codes "ImageBroken"
name_of NameDiffers = codes "NameDiffers"
name_of SegmentOutside = codes "SegmentOutside"
name_of NameTwice = codes "NameTwice"
name_of StreamBroken = codes "StreamBroken"
name_of LinkBroken = codes "LinkBroken"
name_of ChainOutside = codes "ChainOutside"
name_of PointerNotSymbol = codes "PointerNotSymbol"
name_of ForeignPointer = codes "ForeignPointer"
name_of ExtractTooLarge = codes "ExtractTooLarge"
