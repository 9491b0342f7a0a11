-- Which finding comes first.
use Rattle.std.proofs.Common.{◌≡◌, ℕ, List, [], ap, ap₂, ◌∙◌}
use Rattle.std.specs.Prelude.{Option, Some, None}
use Rattle.dsc_base.specs.declared.finding_kind.FindingKind.TheVariants.{ExtrasEnd, ChainLeavesPage, ChainsOverlap}
use Rattle.slide_chain.specs.Chains.{Slide, slide_of, endless_page, leaving, overlapping, reached, lowest, chain_finding}
use Rattle.slide_chain.specs.Steps.Reading.{SameHeads}
use Rattle.slide_chain.proofs.ApartLaws.{findings}
use Rattle.slide_chain.proofs.ReadLaws.{pages-same, lowest-same}

pub finding-ends : (s : Slide) (area : List ℕ) (page : ℕ) → endless_page s.extras 0 s.starts ≡ Some page → chain_finding s area ≡ Some record { kind = ExtrasEnd; image = 0; at = page }
unfolding chain_finding
finding-ends s area page is = ap (λ (o : Option ℕ). findings o (lowest (leaving s area)) (lowest (overlapping (reached s area)))) is

pub finding-leaves : (s : Slide) (area : List ℕ) (at : ℕ) → endless_page s.extras 0 s.starts ≡ None → lowest (leaving s area) ≡ Some at → chain_finding s area ≡ Some record { kind = ChainLeavesPage; image = 0; at = at }
unfolding chain_finding
finding-leaves s area at ends is = ap₂ (λ (o p : Option ℕ). findings o p (lowest (overlapping (reached s area)))) ends is

pub finding-overlaps : (s : Slide) (area : List ℕ) (at : ℕ) → endless_page s.extras 0 s.starts ≡ None → lowest (leaving s area) ≡ None → lowest (overlapping (reached s area)) ≡ Some at
    → chain_finding s area ≡ Some record { kind = ChainsOverlap; image = 0; at = at }
unfolding chain_finding
finding-overlaps s area at ends stays is =
    ap₂ (λ (o p : Option ℕ). findings o p (lowest (overlapping (reached s area)))) ends stays
    ∙ ap (λ (p : Option ℕ). findings None None p) is

pub finding-none : (s : Slide) (area : List ℕ) → endless_page s.extras 0 s.starts ≡ None → leaving s area ≡ [] → overlapping (reached s area) ≡ [] → chain_finding s area ≡ None
unfolding chain_finding lowest
finding-none s area ends stays apart =
    ap₂ (λ (o : Option ℕ) (l : List ℕ). findings o (lowest l) (lowest (overlapping (reached s area)))) ends stays
    ∙ ap (λ (l : List ℕ). findings None None (lowest l)) apart

-- starts and extras that lead to the same first words are left from the same places
pub lowest-leaving : (mask value_add : ℕ) (starts extras moved few area : List ℕ) → SameHeads starts extras moved few → lowest (leaving (slide_of mask 0 moved few) area) ≡ lowest (leaving (slide_of mask value_add starts extras) area)
unfolding leaving
lowest-leaving mask value_add starts extras moved few area same =
    lowest-same (leaving (slide_of mask value_add starts extras) area) (leaving (slide_of mask 0 moved few) area) (pages-same mask extras few area 0 starts moved same)
