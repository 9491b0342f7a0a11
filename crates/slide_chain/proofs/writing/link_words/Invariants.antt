use Rattle.std.proofs.Common.{◌≡◌, drop, map}
use Rattle.dsc_base.specs.Edits.{change_all, settled, AllFit}
use Rattle.slide_chain.specs.Making.{linking}
use Rattle.slide_chain.specs.Steps.Pieces.{earlier}
use Rattle.slide_chain.proofs.writing.link_words.Given as goal

-- what linking the words behind leaves is what linking all of them leaves, and their numbers fit
abbrev pub invariant-loop-i : goal.invariant-loop-i
invariant-loop-i l = record {
  done : change_all (map (earlier l.start) (linking l.limit (drop l.i l.words))) l.piece ≡ change_all (map (earlier l.start) (linking l.limit l.words)) l.initial.piece;
  fits : AllFit (map (settled l.piece) (map (earlier l.start) (linking l.limit (drop l.i l.words))));
}
