-- A loaded segment as a range of memory with its bytes.
use Rattle.load_model.specs.declared.loaded.LoadedSegment.{LoadedSegment}
use Rattle.load_model.specs.Mapped.{Piece}

abbrev pub piece_of : LoadedSegment → Piece
piece_of s = record { address = s.address; bytes = s.bytes.items }
