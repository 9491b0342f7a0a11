-- Images of a cache of which nothing is wrong by themselves: their streams are accepted.
use Rattle.std.specs.Prelude.{◌≡◌, List, [], None}
use Rattle.std.specs.List.{All}
use Rattle.macho_image.specs.Records.{Img}
use Rattle.macho_image.specs.Order.{addresses_of}
use Rattle.macho_image.specs.TableRules.{table_break}
use Rattle.bind_ops.specs.declared.kind.StreamKind.TheVariants.{Bind, Lazy}
use Rattle.bind_ops.specs.Binds.{binds_of, bind_break, places_of}
use Rattle.bind_ops.specs.Clash.{clash_break}
use Rattle.bind_ops.specs.Weak.{weak_break}
use Rattle.export_trie.specs.Order.{trie_break}

-- none of the rules of its streams and tables is broken, and it has no rebase stream
pub record IsRead (i : Img) : Type 0 where
  pub rebases : i.streams.rebase ≡ []
  pub binds : bind_break Bind i.streams.bind i ≡ None
  pub lazy : bind_break Lazy i.streams.lazy i ≡ None
  pub weak : weak_break i.streams.weak ≡ None
  pub apart : clash_break [] (addresses_of (places_of (binds_of Bind i.streams.bind i))) (addresses_of (places_of (binds_of Lazy i.streams.lazy i))) ≡ None
  pub exports : trie_break i.streams.exports ≡ None
  pub tables : table_break i ≡ None

abbrev pub AreRead : List Img → Type 0
AreRead images = All IsRead images
