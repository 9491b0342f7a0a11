-- Words that are drawn one after the other.
use Rattle.std.proofs.Common.{◌≡◌, ◌≤◌, ◌<◌, ℕ, zero, suc, ◌+◌, ◌-◌, List, [], ◌∷◌, ◌++◌, length, refl, sym, ap, ap₂, ◌∙◌, arith}
use Rattle.rand_pcg.specs.Lcg.{Lcg}
use Rattle.rand_pcg.specs.Pcg.{pcg32}
use Rattle.dsc_gen.specs.declared.shape.Shape.{Shape}
use Rattle.dsc_gen.specs.Draws.{words, after, drawn, IsDraw, code_words, at_targets, at_pointers, at_exports, at_symbols}
use Rattle.dsc_gen.proofs.ListingLaws.{made_more, made_all}

pub words_more : (n i w : ℕ) (g next : Lcg) (done new whole : List ℕ) → i < n → done ++ words (n - i) g ≡ whole → (w, next) ≡ pcg32 g → new ≡ done ++ w ∷ [] → new ++ words (n - (i + 1)) next ≡ whole
unfolding words
words_more n i w g next done new whole lt so_far drawn is =
    let left : n - i ≡ suc (n - (i + 1)) = omega arith in
    made_more done new (w ∷ []) (words (n - i) g) (words (n - (i + 1)) next) whole so_far (ap (λ (m : ℕ). words m g) left ∙ ap₂ (λ (x : ℕ) (h : Lcg). x ∷ words (n - (i + 1)) h) (sym (ap (λ (p : ℕ × Lcg). p.0) drawn)) (sym (ap (λ (p : ℕ × Lcg). p.1) drawn))) is

pub after_more : (n i w : ℕ) (g next last : Lcg) → i < n → after (n - i) g ≡ last → (w, next) ≡ pcg32 g → after (n - (i + 1)) next ≡ last
unfolding after
after_more n i w g next last lt so_far drawn =
    let left : n - i ≡ suc (n - (i + 1)) = omega arith in
    ap (λ (h : Lcg). after (n - (i + 1)) h) (ap (λ (p : ℕ × Lcg). p.1) drawn) ∙ (sym (ap (λ (m : ℕ). after m g) left) ∙ so_far)

pub words_all : (n i : ℕ) (g : Lcg) (done whole : List ℕ) → n ≤ i → done ++ words (n - i) g ≡ whole → done ≡ whole
unfolding words
words_all n i g done whole le so_far = let none : n - i ≡ 0 = omega arith in made_all done _ whole so_far (ap (λ (m : ℕ). words m g) none)

pub after_all : (n i : ℕ) (g last : Lcg) → n ≤ i → after (n - i) g ≡ last → g ≡ last
unfolding after
after_all n i g last le so_far = let none : n - i ≡ 0 = omega arith in sym (ap (λ (m : ℕ). after m g) none) ∙ so_far

pub length-words : (n : ℕ) (g : Lcg) → length (words n g) ≡ n
unfolding words
length-words zero g = refl
length-words (suc n) g = ap suc (length-words n (pcg32 g).1)

pub drawn_whole : (shape : Shape) (g : Lcg) → IsDraw shape (drawn shape g)
unfolding drawn
drawn_whole shape g = record {
  code = length-words (code_words shape) g;
  targets = length-words shape.pointers (at_targets shape g);
  pointers = length-words shape.pointers (at_pointers shape g);
  exports = length-words 8 (at_exports shape g);
  symbols = length-words shape.links (at_symbols shape g);
}
