use Rattle.std.proofs.Common.{rules, ◌≡◌, ◌∙◌, ap}
use Rattle.prebind.specs.Steps.{set_of}
use Rattle.prebind.specs.Numbers.{number_to}
use Rattle.prebind.specs.Targets.{bound_target, outcome_of}
use Rattle.prebind.specs.declared.resolved.PlacedWord.{PlacedWord}
use Rattle.prebind.specs.declared.resolved.Resolved.{Resolved}
use Rattle.split_info.specs.declared.reference.RefKind.TheVariants.{Pointer64}
use Rattle.load_model.specs.Areas.{slide_at}
use Rattle.load_model.specs.Loading.{loaded_starts}
use Rattle.load_model.proofs.loading.bind_number.Goals as goal

pub returns-clause-found : goal.returns-clause-found
returns-clause-found c =
    let number = number_to (loaded_starts (set_of c.args.set.now) (slide_at c.args.slides.now)) 0 0 Pointer64 in
    let is : c.in_ok-outcome.outcome ≡ outcome_of (set_of c.args.set.now) c.args.image c.args.bind.now = search rules in
    c.target_number.ensures
    ∙ (ap (λ (w : PlacedWord). number w.target) c.in_ok-word.ensures.found
    ∙ ap (λ (r : Resolved). number (bound_target c.args.bind.now.addend r)) is)
