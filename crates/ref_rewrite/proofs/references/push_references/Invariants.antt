use Rattle.std.proofs.Common.{◌≡◌, ◌++◌, take}
use Rattle.std.specs.List.{list_any}
use Rattle.dsc_base.specs.Edits.{AllFit}
use Rattle.ref_rewrite.specs.Steps.{misfits, edits_of}
use Rattle.ref_rewrite.proofs.references.push_references.Given as goal

abbrev pub invariant-loop-reference : goal.invariant-loop-reference
invariant-loop-reference l = record {
  edits : l.edits.items ≡ l.initial.edits.items ++ edits_of l.moving.layout.now l.moving.number l.moving.segments.now (take l.reference-index l.references);
  fit : AllFit l.initial.edits.items → AllFit l.edits.items;
  misfits : l.misfit ≡ list_any (misfits l.moving.layout.now l.moving.number l.moving.segments.now) (take l.reference-index l.references);
}
