use Rattle.std.proofs.Common.{ℕ, Vec, Global, length, arith, ◌∙◌}
use Rattle.prebind.specs.declared.resolved.PlacedWord.{PlacedWord}
use Rattle.prebind.specs.Sets.{ImageSet}
use Rattle.prebind.specs.Steps.{set_of}
use Rattle.prebind.specs.Words.{pointers_of, ArePlaced}
use Rattle.prebind.specs.WordRules.{place_break}
use Rattle.load_model.proofs.EachLaws.{each_none, each_more}
use Rattle.load_model.proofs.FirstLaws.{unbroken_more, first_none, first_refused}
use Rattle.load_model.proofs.symbols.place_all_words.Goals as goal

abbrev IsPlaced : ImageSet → ℕ → Vec PlacedWord Global → Type 0
IsPlaced set k own = ArePlaced (pointers_of set k) own.items

pub loop-image-init : goal.loop-image-init
loop-image-init c = record {
  placed = each_none (IsPlaced (set_of c.args.set.now)) c.in_ok-words.words.items c.in_ok-words.ensures.items;
  unbroken = λ k lt. absurd (omega arith);
}

pub loop-image-preserved : goal.loop-image-preserved
loop-image-preserved c =
    let set : ImageSet = set_of c.args.set.now in
    let before = c.loop-image.invariant in
    record {
      placed = each_more (IsPlaced set) c.loop-image.image c.loop-image.words.items c.push.new.self.items c.in-Ok.own before.placed c.in-Ok.ensures.found c.in_ok-push-in-Ok.ensures.items;
      unbroken = unbroken_more (place_break set) c.loop-image.image before.unbroken c.in-Ok.ensures.cause;
    }

pub returns-in-Err-clause-cause : goal.returns-in-Err-clause-cause
returns-in-Err-clause-cause c =
    first_refused (place_break (set_of c.args.set.now)) (length c.args.set.now.images.now) c.loop-image.image c.in-Err.fault c.loop-image-test.true c.loop-image.invariant.unbroken c.in-Err.ensures.cause

pub returns-clause-placed : goal.returns-clause-placed
returns-clause-placed c = record { count = c.loop-image.invariant.placed.count ∙ omega arith; placed = c.loop-image.invariant.placed.each }

pub returns-clause-cause : goal.returns-clause-cause
returns-clause-cause c =
    first_none (place_break (set_of c.args.set.now)) (length c.args.set.now.images.now) (λ k lt. c.loop-image.invariant.unbroken k (omega (arith, lt)))
