-- What is looked up is what the name leads to.
use Rattle.std.proofs.Common.{◌∙◌, ap}
use Rattle.std.specs.Prelude.{Option, Some, option_map}
use Rattle.export_trie.specs.declared.export.Target.{Target}
use Rattle.export_trie.specs.Finding.{target_in}
use Rattle.export_trie.proofs.IndexLaws.{target_meant, looked_up}
use Rattle.export_trie.proofs.index.entry_named.Goals as goal

pub returns-in_err-meaning : goal.returns-in_err-meaning
returns-in_err-meaning c =
    ap (option_map target_in) c.from_residual.ensures
    ∙ (ap (option_map target_meant) c.in_err-meaning.ensures.value ∙ looked_up c.args.names.now.entries c.args.name.now)

pub returns : goal.returns
returns c =
    ap (λ (t : Target). let o : Option Target = Some t in o) c.entry_of.ensures
    ∙ (ap (option_map target_meant) c.in_ok-meaning.ensures.value ∙ looked_up c.args.names.now.entries c.args.name.now)
