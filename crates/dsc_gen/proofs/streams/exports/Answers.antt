-- Each turn adds one export.
use Rattle.std.proofs.Common.{◌∙◌, ◌++◌, ◌∷◌, [], ℕ, List, ap₂, refl}
use Rattle.export_trie.specs.declared.export.Export.{Export}
use Rattle.export_trie.specs.declared.export.Target.TheVariants.{Offset}
use Rattle.dsc_gen.specs.Streams.{exports_from}
use Rattle.dsc_gen.proofs.ListingLaws.{listed_all}
use Rattle.dsc_gen.proofs.WordLaws.{listed_exports}
use Rattle.dsc_gen.proofs.streams.exports.Goals as goal

pub loop-i-preserved : goal.loop-i-preserved
loop-i-preserved c = listed_exports c.args.size c.args.words.now c.loop-i.i _ _ _ c.loop-i-test.true c.loop-i.invariant
    (c.in_ok-push.ensures.items
    ∙ ap₂ (λ (name : List ℕ) (value : ℕ). c.loop-i.exports.items ++ (let export : Export = record { name = name; flags = 0; target = Offset value } in export) ∷ []) (c.in_ok-name.ensures ∙ c.symbol_name.ensures) c.from.ensures)

pub returns : goal.returns
returns c = listed_all (exports_from c.args.size) (λ _. refl) c.loop-i.i c.args.words.now c.loop-i.i _ _ c.loop-i-test.false c.loop-i.invariant
