-- Bytes outside words, by the words and by the bytes that they have.
use Rattle.std.proofs.Common.{◌≡◌, ℕ, ◌+◌, Bool, Option, None, List, ap, ap₂, ◌∙◌, if◌then◌else◌}
use Rattle.std.specs.List.{list_any}
use Rattle.macho_image.specs.Records.{Img}
use Rattle.prebind.specs.Numbers.{Starts}
use Rattle.prebind.specs.Words.{Word}
use Rattle.prebind.specs.declared.resolved.PlacedWord.{PlacedWord}
use Rattle.cache_check.specs.declared.extents.Extent.{Extent}
use Rattle.cache_check.specs.declared.mismatch.Mismatch.{Mismatch}
use Rattle.cache_check.specs.declared.verdict.Seen.TheVariants.{Number}
use Rattle.cache_check.specs.Bytes.{Chains, Pair, covers, unlike, byte_in, byte_at, byte_mismatch, earlier, earliest, word_mismatch, stray_in, in_sections, first_mismatch}
use Rattle.cache_check.specs.Firsts.{first_below}
use Rattle.cache_check.specs.Steps.Extents.{holds}
use Rattle.cache_check.specs.Steps.Gaps.{found_byte, wanted_byte, held_byte, held_mismatch}

module _ (extents : List Extent) (words : List Word) (alike : (a : ℕ) → list_any (holds a) extents ≡ list_any (covers a) words) where
  same_byte : (number : ℕ) (p : Pair) (o : ℕ) → held_byte extents number p o ≡ byte_at words number p o
  unfolding held_byte byte_at found_byte wanted_byte
  same_byte number p o =
      ap (λ (b : Bool). if b then None else unlike number o (Number (byte_in p.cached (p.there.addr + o))) (Number (byte_in p.own (p.here.addr + o)))) (alike (p.here.addr + o))

  same_in : (number : ℕ) (p : Pair) → held_mismatch extents number p ≡ byte_mismatch words number p
  unfolding held_mismatch byte_mismatch
  same_in number p = ap (λ (f : ℕ → Option Mismatch). first_below f p.here.size) (λ i o. same_byte number p o i)

  pub same_sections : (file cached : Img) → in_sections (held_mismatch extents) file cached ≡ in_sections (byte_mismatch words) file cached
  same_sections file cached = ap (λ (d : ℕ → Pair → Option Mismatch). in_sections d file cached) (λ i number p. same_in number p i)

pub three_first : (chains : Chains) (starts : Starts) (pointers : List PlacedWord) (words : List Word) (file cached : Img) (word stray byte both all : Option Mismatch)
    → word ≡ earliest (word_mismatch chains starts file cached) words → stray ≡ in_sections (stray_in chains pointers) file cached → byte ≡ in_sections (byte_mismatch words) file cached
    → both ≡ earlier word stray → all ≡ earlier both byte → all ≡ first_mismatch chains starts pointers words file cached
unfolding first_mismatch
three_first chains starts pointers words file cached word stray byte both all word_is stray_is byte_is both_is all_is =
    all_is ∙ ap₂ (λ (a b : Option Mismatch). earlier a b) (both_is ∙ ap₂ (λ (a b : Option Mismatch). earlier a b) word_is stray_is) byte_is
