use Rattle.std.proofs.Common.{◌≡◌}
use Rattle.prebind.specs.Steps.{set_of}
use Rattle.prebind.specs.Words.{bound_words}
use Rattle.load_model.proofs.EachLaws.{AreEach}
use Rattle.load_model.proofs.FirstLaws.{AreUnbroken}
use Rattle.extractor.specs.Vetting.{symbol_break_in}
use Rattle.extractor.proofs.symbols.place_all.Given as goal

abbrev pub invariant-loop-image : goal.invariant-loop-image
invariant-loop-image l = record {
  bound : AreEach (λ k own. own.items ≡ bound_words (set_of l.set) k) l.image l.words.items;
  unbroken : AreUnbroken (symbol_break_in (set_of l.set)) l.image;
}
