use Rattle.std.proofs.Common.{◌≡◌, ℕ, Vec, Global, length, arith, ◌∙◌}
use Rattle.prebind.specs.declared.resolved.PlacedWord.{PlacedWord}
use Rattle.prebind.specs.Sets.{ImageSet}
use Rattle.prebind.specs.Steps.{set_of}
use Rattle.prebind.specs.Words.{bound_words}
use Rattle.load_model.proofs.EachLaws.{each_none, each_more}
use Rattle.load_model.proofs.FirstLaws.{unbroken_more, first_none, first_refused}
use Rattle.extractor.specs.Vetting.{symbol_break_in}
use Rattle.extractor.proofs.symbols.place_all.Goals as goal

abbrev IsBound : ImageSet → ℕ → Vec PlacedWord Global → Type 0
IsBound set k own = own.items ≡ bound_words set k

pub loop-image-init : goal.loop-image-init
loop-image-init c = record {
  bound = each_none (IsBound (set_of c.args.set.now)) c.in_ok-words.words.items c.in_ok-words.ensures.items;
  unbroken = λ k lt. absurd (omega arith);
}

pub loop-image-preserved : goal.loop-image-preserved
loop-image-preserved c =
    let set : ImageSet = set_of c.args.set.now in
    let before = c.loop-image.invariant in
    record {
      bound = each_more (IsBound set) c.loop-image.image c.loop-image.words.items c.push.new.self.items c.in-Ok.own before.bound c.in-Ok.ensures.found c.in_ok-push-in-Ok.ensures.items;
      unbroken = unbroken_more (symbol_break_in set) c.loop-image.image before.unbroken c.in-Ok.ensures.cause;
    }

pub returns-in-Err-clause-cause : goal.returns-in-Err-clause-cause
returns-in-Err-clause-cause c =
    first_refused (symbol_break_in (set_of c.args.set.now)) (length c.args.set.now.images.now) c.loop-image.image c.in-Err.fault c.loop-image-test.true c.loop-image.invariant.unbroken c.in-Err.ensures.cause

pub returns-clause-placed : goal.returns-clause-placed
returns-clause-placed c = record { count = c.loop-image.invariant.bound.count ∙ omega arith; bound = c.loop-image.invariant.bound.each }

pub returns-clause-cause : goal.returns-clause-cause
returns-clause-cause c =
    first_none (symbol_break_in (set_of c.args.set.now)) (length c.args.set.now.images.now) (λ k lt. c.loop-image.invariant.unbroken k (omega (arith, lt)))
