-- A name that isn't there goes last.
use Rattle.std.proofs.Common.{◌∙◌, ap}
use Rattle.indexmap.proofs.CallerLemmas.{insert_entry-new}
use Rattle.export_trie.specs.Index.{exports_in}
use Rattle.export_trie.proofs.IndexLaws.{not_there, one_more}
use Rattle.export_trie.proofs.index.keep_name.Goals as goal

pub returns-in-Ok : goal.returns-in-Ok
returns-in-Ok c =
    ap exports_in (c.in-Ok.ensures.entries ∙ insert_entry-new _ c.args.names.now c.into_vec.result _ (not_there c.args.names.now.entries c.into_vec.result c.args.export.name c.into_vec.ensures c.requires))
    ∙ one_more c.args.names.now.entries c.into_vec.result c.args.export c.into_vec.ensures
