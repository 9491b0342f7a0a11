-- The names of a trie's exports rise.
use Rattle.export_trie.proofs.WriteLaws.{rising_from}
use Rattle.export_trie.proofs.index.NameIndex.add.Goals as goal

pub names_of-requires : goal.names_of-requires
names_of-requires c = rising_from c.in-Ok.exports.items c.in-Ok.ensures.writable.rises
