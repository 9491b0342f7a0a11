use Rattle.prebind.specs.Steps.{set_of}
use Rattle.prebind.specs.Words.{pointers_of, ArePlaced}
use Rattle.prebind.specs.WordRules.{place_break}
use Rattle.load_model.proofs.EachLaws.{AreEach}
use Rattle.load_model.proofs.FirstLaws.{AreUnbroken}
use Rattle.load_model.proofs.symbols.place_all_words.Given as goal

abbrev pub invariant-loop-image : goal.invariant-loop-image
invariant-loop-image l = record {
  placed : AreEach (λ k own. ArePlaced (pointers_of (set_of l.set) k) own.items) l.image l.words.items;
  unbroken : AreUnbroken (place_break (set_of l.set)) l.image;
}
