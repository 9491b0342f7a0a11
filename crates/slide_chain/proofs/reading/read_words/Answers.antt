-- What is wrong with the runs of extras goes first, then a chain that leaves its page, then words that overlap.
use Rattle.std.proofs.Common.{◌≡◌, ◌∙◌, List, ℕ, sym, ap, subst}
use Rattle.std.specs.Prelude.{Some, None}
use Rattle.dsc_base.specs.declared.fault.Finding.{Finding}
use Rattle.slide_chain.specs.Chains.{Slide, slide_of, leaving, lowest}
use Rattle.slide_chain.specs.declared.reading.Walk.TheVariants.{Sound, Leaves, Overlaps}
use Rattle.slide_chain.specs.Steps.Reading.{WalkIs, SameHeads}
use Rattle.slide_chain.proofs.FindingLaws.{finding-ends, finding-leaves, finding-overlaps, finding-none, lowest-leaving}
use Rattle.slide_chain.proofs.reading.read_words.Goals as goal

pub returns-in-Some-clause-cause : goal.returns-in-Some-clause-cause
returns-in-Some-clause-cause c =
    let s : Slide = slide_of c.args.mask c.args.value_add c.args.starts.now c.args.extras.now in
    finding-ends s c.args.area.now c.in-Some.page (sym c.endless_page.ensures ∙ c.in-Some.is) ∙ ap (λ (f : Finding). Some f) (sym c.finding.ensures)

pub returns-in-Sound-clause-sound : goal.returns-in-Sound-clause-sound
returns-in-Sound-clause-sound c =
    let s : Slide = slide_of c.args.mask c.args.value_add c.args.starts.now c.args.extras.now in
    let walked : WalkIs (slide_of c.args.mask c.args.value_add c.args.starts.now c.args.extras.now) c.args.area.now c.read_pages.new.words.items Sound =
    subst (WalkIs (slide_of c.args.mask c.args.value_add c.args.starts.now c.args.extras.now) c.args.area.now c.read_pages.new.words.items) c.in-Sound.is (c.in_ok-read_pages.ensures {u = tt}) in
    finding-none s c.args.area.now (sym c.endless_page.ensures ∙ c.in_default.is) walked.0 walked.1

pub returns-in-Leaves-clause-cause : goal.returns-in-Leaves-clause-cause
returns-in-Leaves-clause-cause c =
    let s : Slide = slide_of c.args.mask c.args.value_add c.args.starts.now c.args.extras.now in
    let walked : WalkIs (slide_of c.args.mask c.args.value_add c.args.starts.now c.args.extras.now) c.args.area.now c.read_pages.new.words.items (Leaves c.in-Leaves.at) =
    subst (WalkIs (slide_of c.args.mask c.args.value_add c.args.starts.now c.args.extras.now) c.args.area.now c.read_pages.new.words.items) c.in-Leaves.is (c.in_ok-read_pages.ensures {u = tt}) in
    finding-leaves s c.args.area.now c.in-Leaves.at (sym c.endless_page.ensures ∙ c.in_default.is) walked ∙ ap (λ (f : Finding). Some f) (sym c.finding-in-Leaves.ensures)

pub returns-in-Some-first_leaving-clause-cause : goal.returns-in-Some-first_leaving-clause-cause
returns-in-Some-first_leaving-clause-cause c =
    let s : Slide = slide_of c.args.mask c.args.value_add c.args.starts.now c.args.extras.now in
    let same : SameHeads c.args.starts.now c.args.extras.now c.deref.result.now c.deref-in-Overlaps.result.now =
    subst (λ (l : List ℕ). SameHeads c.args.starts.now c.args.extras.now l c.deref-in-Overlaps.result.now) (sym c.deref.ensures.value)
    (subst (λ (l : List ℕ). SameHeads c.args.starts.now c.args.extras.now c.in_ok-few_starts-in-Overlaps.few_starts.items l) (sym c.deref-in-Overlaps.ensures.value) (c.in_ok-few_starts-in-Overlaps.ensures {u = tt})) in
    let leaves : lowest (leaving (slide_of c.args.mask c.args.value_add c.args.starts.now c.args.extras.now) c.args.area.now) ≡ Some c.in-Some-first_leaving.leaves =
    sym (lowest-leaving c.args.mask c.args.value_add c.args.starts.now c.args.extras.now c.deref.result.now c.deref-in-Overlaps.result.now c.args.area.now same) ∙ sym c.first_leaving.ensures ∙ c.in-Some-first_leaving.is in
    finding-leaves s c.args.area.now c.in-Some-first_leaving.leaves (sym c.endless_page.ensures ∙ c.in_default.is) leaves ∙ ap (λ (f : Finding). Some f) (sym c.finding-in-Some-first_leaving.ensures)

pub returns-clause-cause : goal.returns-clause-cause
returns-clause-cause c =
    let s : Slide = slide_of c.args.mask c.args.value_add c.args.starts.now c.args.extras.now in
    let same : SameHeads c.args.starts.now c.args.extras.now c.deref.result.now c.deref-in-Overlaps.result.now =
    subst (λ (l : List ℕ). SameHeads c.args.starts.now c.args.extras.now l c.deref-in-Overlaps.result.now) (sym c.deref.ensures.value)
    (subst (λ (l : List ℕ). SameHeads c.args.starts.now c.args.extras.now c.in_ok-few_starts-in-Overlaps.few_starts.items l) (sym c.deref-in-Overlaps.ensures.value) (c.in_ok-few_starts-in-Overlaps.ensures {u = tt})) in
    let stays : lowest (leaving (slide_of c.args.mask c.args.value_add c.args.starts.now c.args.extras.now) c.args.area.now) ≡ None =
    sym (lowest-leaving c.args.mask c.args.value_add c.args.starts.now c.args.extras.now c.deref.result.now c.deref-in-Overlaps.result.now c.args.area.now same) ∙ sym c.first_leaving.ensures ∙ c.in-None.is in
    let walked : WalkIs (slide_of c.args.mask c.args.value_add c.args.starts.now c.args.extras.now) c.args.area.now c.read_pages.new.words.items (Overlaps c.in-Overlaps.at) =
    subst (WalkIs (slide_of c.args.mask c.args.value_add c.args.starts.now c.args.extras.now) c.args.area.now c.read_pages.new.words.items) c.in-Overlaps.is (c.in_ok-read_pages.ensures {u = tt}) in
    finding-overlaps s c.args.area.now c.in-Overlaps.at (sym c.endless_page.ensures ∙ c.in_default.is) stays walked ∙ ap (λ (f : Finding). Some f) (sym c.finding-in-None.ensures)
