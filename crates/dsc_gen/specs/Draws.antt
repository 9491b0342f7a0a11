-- Draws: the words of Pcg32 (O'Neill, "PCG: a family of simple fast space-efficient statistically good algorithms for random number generation"), and what those of an image are for.
use Rattle.std.specs.Prelude.{◌≡◌, length, ℕ, zero, suc, ◌-◌, ◌*◌, ◌/◌, List, [], ◌∷◌}
use Rattle.rand_pcg.specs.Lcg.{Lcg, started, increment_of}
use Rattle.rand_pcg.specs.Pcg.{pcg32, multiplier_64}
use Rattle.dsc_gen.specs.declared.shape.Shape.{Shape}

-- the generator of a seed, on stream 54
abbrev pub seeded : ℕ → Lcg
seeded seed = started 64 multiplier_64 seed (increment_of 64 54)

-- so many words, one after the other
unfoldable pub words : ℕ → Lcg → List ℕ
words zero g = []
words (suc n) g = (pcg32 g).0 ∷ words n (pcg32 g).1

-- the generator behind so many words
unfoldable pub after : ℕ → Lcg → Lcg
after zero g = g
after (suc n) g = after n (pcg32 g).1

-- the words of an image, by what they decide
pub record Draw : Type 0 where
  pub code : List ℕ
  pub identifier : List ℕ
  pub targets : List ℕ
  pub pointers : List ℕ
  pub exports : List ℕ
  pub symbols : List ℕ

-- the bytes of the text segment, and of the data segment
abbrev pub segment_size : Shape → ℕ
segment_size shape = 4096 * shape.pages

-- where the text segment's section begins, behind the header and its commands
abbrev pub text_start : ℕ
text_start = 0x800

abbrev pub code_words : Shape → ℕ
code_words shape = (segment_size shape - text_start) / 4

-- where the words of the other parts begin: those of the code come first, then the identifier's four, one for the target of each delta, one for the value of each pointer, one for each of eight exports
abbrev pub at_identifier : Shape → Lcg → Lcg
at_identifier shape g = after (code_words shape) g

abbrev pub at_targets : Shape → Lcg → Lcg
at_targets shape g = after 4 (at_identifier shape g)

abbrev pub at_pointers : Shape → Lcg → Lcg
at_pointers shape g = after shape.pointers (at_targets shape g)

abbrev pub at_exports : Shape → Lcg → Lcg
at_exports shape g = after shape.pointers (at_pointers shape g)

abbrev pub at_symbols : Shape → Lcg → Lcg
at_symbols shape g = after 8 (at_exports shape g)

-- the words of the image that comes next
unfoldable pub drawn : Shape → Lcg → Draw
drawn shape g = record {
  code = words (code_words shape) g;
  identifier = words 4 (at_identifier shape g);
  targets = words shape.pointers (at_targets shape g);
  pointers = words shape.pointers (at_pointers shape g);
  exports = words 8 (at_exports shape g);
  symbols = words shape.links (at_symbols shape g);
}

-- the generator behind them: one word for the symbol of each link
unfoldable pub behind : Shape → Lcg → Lcg
behind shape g = after shape.links (at_symbols shape g)

-- as many words as an image takes
pub record IsDraw (shape : Shape) (draw : Draw) : Type 0 where
  pub code : length draw.code ≡ code_words shape
  pub targets : length draw.targets ≡ shape.pointers
  pub pointers : length draw.pointers ≡ shape.pointers
  pub exports : length draw.exports ≡ 8
  pub symbols : length draw.symbols ≡ shape.links
