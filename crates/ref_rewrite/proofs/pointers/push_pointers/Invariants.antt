use Rattle.std.proofs.Common.{◌≡◌, ◌++◌, map, take}
use Rattle.dsc_base.specs.Edits.{AllFit}
use Rattle.prebind.specs.Words.{pointer_word}
use Rattle.ref_rewrite.specs.Moving.{edit_of}
use Rattle.ref_rewrite.proofs.pointers.push_pointers.Given as goal

abbrev pub invariant-loop-word : goal.invariant-loop-word
invariant-loop-word l = record {
  edits : l.edits.items ≡ l.initial.edits.items ++ map (edit_of l.moving.layout.now l.moving.number l.moving.segments.now) (map pointer_word (take l.word-index l.words));
  fit : AllFit l.initial.edits.items → AllFit l.edits.items;
}
