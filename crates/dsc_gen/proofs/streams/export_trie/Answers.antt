-- The exports can be written.
use Rattle.std.proofs.Common.{◌∙◌, sym, subst, List}
use Rattle.export_trie.specs.declared.export.Export.{Export}
use Rattle.export_trie.specs.Writing.{IsWritable}
use Rattle.dsc_gen.proofs.ExportLaws.{writable}
use Rattle.dsc_gen.proofs.streams.export_trie.Goals as goal

pub write_trie-requires : goal.write_trie-requires
write_trie-requires c = subst (λ (l : List Export). IsWritable l) (sym (c.deref.ensures.value ∙ c.in_ok-exports.ensures)) (writable c.args.size c.args.words.now c.requires.eight)
