-- The bytes of a section that are in no word of the file are there in the mapped cache.
use Rattle.std.proofs.Common.{◌≡◌, ◌≤◌, ◌<◌, ◌⊎◌, ℕ, ◌+◌, ◌-◌, Bool, true, false, ◌||◌, nat_le, nat_lt, Some, None, List, [], ◌∷◌, refl, sym, ap, ◌∙◌, arith, inl, inr, if◌then◌else◌}
use Rattle.std.specs.Prelude.{slice_get}
use Rattle.std.specs.List.{list_any}
use Rattle.std.proofs.lemmas.Bool.{cases_Bool, cases_lt, and_parts, eqb-true, leb-true, ltb-true}
use Rattle.std.proofs.lemmas.Option.{slice_get_within}
use Rattle.macho_image.specs.Records.{Img}
use Rattle.macho_image.specs.declared.section.Section.{Section}
use Rattle.macho_image.specs.Places.{wrap}
use Rattle.split_info.specs.References.{width_of}
use Rattle.prebind.specs.declared.resolved.PlacedWord.{PlacedWord}
use Rattle.prebind.specs.Sets.{StreamLists, ImageSet}
use Rattle.prebind.specs.Words.{Word, pointer_word, ordered_pointers, words_of}
use Rattle.load_model.specs.Corresponds.{InWord}
use Rattle.load_model.specs.Mapped.{mapped}
use Rattle.load_model.proofs.LoadedWords.{IsReadImage}
use Rattle.load_model.proofs.WordCases.{IsIn, in_first, in_rest, covered}
use Rattle.load_model.proofs.WordPlaces.{StandsIn, word_stands, one_section}
use Rattle.cache_check.specs.declared.verdict.Seen.TheVariants.{Number}
use Rattle.cache_check.specs.Bytes.{Pair, unlike, covers, byte_in, byte_at, byte_mismatch, leads_to_place, words_by_address}
use Rattle.cache_check.proofs.FirstLaws.{none_each}
use Rattle.cache_check.proofs.LedLaws.{steady_there}
use Rattle.cache_check.proofs.MatchedLaws.{IsMatched, AreMatched, alike_seen, home_of, still_cell}
use Rattle.cache_check.proofs.PairedLaws.{HasPair}
use Rattle.cache_check.proofs.ViewLaws.{IsReadable}
use Rattle.cache_check.proofs.WordOrder.{by_address_word, word_of_in, pointer_by_address}

-- a word that covers an address
record IsCovered (words : List Word) (address : ℕ) : Type 0 where
  word : Word
  there : IsIn words word
  from : word.at.address ≤ address
  to : address < word.at.address + width_of word.kind

covering : (words : List Word) (address : ℕ) → list_any (covers address) words ≡ true → IsCovered words address
covering [] address any = absurd (cc)
covering (w ∷ ws) address any = at (covers address w) refl any (covering ws address)
  where
    at : (b : Bool) → covers address w ≡ b → b || list_any (covers address) ws ≡ true → (list_any (covers address) ws ≡ true → IsCovered ws address) → IsCovered (w ∷ ws) address
    at true is any later =
        let parts = and_parts (nat_le w.at.address address) (nat_lt address (w.at.address + width_of w.kind)) is in
        record { word = w; there = in_first w ws; from = leb-true w.at.address address parts.0; to = ltb-true address (w.at.address + width_of w.kind) parts.1 }
    at false is any later =
        let rest : IsCovered ws address = later any in
        record { word = rest.word; there = in_rest w ws rest.word rest.there; from = rest.from; to = rest.to }

module _ (cache : List ℕ) (readable : IsReadable cache) (set : ImageSet) (matched : AreMatched cache set) (slide k : ℕ) (file image : Img) (s : StreamLists) (own : IsMatched cache set k file image) (read : IsReadImage set k file s) where
  -- a word around a byte of a section stands in that section
  in_word : (j o : ℕ) (u : Section) (w : Word) → slice_get file.sections j ≡ Some u → o < u.size → IsIn (words_by_address set k file) w → w.at.address ≤ u.addr + o → u.addr + o < w.at.address + width_of w.kind → InWord (words_of set k) (j + 1) u o
  in_word j o u w got lt there from to =
      let word : IsIn (words_of set k) w = by_address_word set k file w own.file_is there in
      let stands : StandsIn file w.at (width_of w.kind) = word_stands set k file s w read own.sound (word_of_in (words_of set k) w word) in
      let same : j ≡ w.at.section - 1 =
      one_section file own.sound j (w.at.section - 1) u stands.section got stands.found (u.addr + o) (omega arith) (omega (arith, lt)) (omega (arith, stands.place, from)) (omega (arith, stands.place, stands.within, to)) in
      covered (words_of set k) w (j + 1) o u word (omega (arith, same, stands.counts), u.addr + o - w.at.address, omega (arith, from, to), omega (arith, from))

  pub byte_there : (j o : ℕ) (u : Section) → slice_get file.sections j ≡ Some u → o < u.size → (InWord (words_of set k) (j + 1) u o → ⊥) → (pair : HasPair file image j u)
      → mapped cache slide (wrap (pair.there.addr + o + slide)) ≡ Some (byte_in pair.own (u.addr + o))
  unfolding byte_mismatch byte_at
  byte_there j o u got lt free pair =
      let p : Pair = record { own = pair.own; here = u; cached = pair.cached; there = pair.there } in
      let none : byte_at (words_by_address set k file) (j + 1) p o ≡ None = none_each (byte_at (words_by_address set k file) (j + 1) p) u.size o (own.agreed.others j p (slice_get_within file.sections j u got) pair.pair) lt in
      let uncovered : list_any (covers (u.addr + o)) (words_by_address set k file) ≡ false = elim (cases_Bool (list_any (covers (u.addr + o)) (words_by_address set k file))) [
        | inl any ↦
            let found : IsCovered (words_by_address set k file) (u.addr + o) = covering (words_by_address set k file) (u.addr + o) any in
            absurd (free (in_word j o u found.word got lt found.there found.from found.to))
        | inr not_any ↦ not_any
      ] in
      let same : byte_in pair.cached (pair.there.addr + o) ≡ byte_in pair.own (u.addr + o) =
      eqb-true (byte_in pair.cached (pair.there.addr + o)) (byte_in pair.own (u.addr + o))
      (alike_seen (j + 1) o (Number (byte_in pair.cached (pair.there.addr + o))) (Number (byte_in pair.own (u.addr + o)))
      (sym (ap (λ (b : Bool). if b then None else unlike (j + 1) o (Number (byte_in pair.cached (pair.there.addr + o))) (Number (byte_in pair.own (u.addr + o)))) uncovered) ∙ none)) in
      let apart : (v : PlacedWord) → IsIn (ordered_pointers set k) v → leads_to_place (Some v) ≡ true → (u.addr + o < v.at.address) ⊎ (v.at.address + 8 ≤ u.addr + o) = λ v there leads. elim (cases_lt (u.addr + o) v.at.address) [
        | inl before ↦ inl before
        | inr from ↦ elim (cases_lt (u.addr + o) (v.at.address + 8)) [
          | inl to ↦ absurd (free (in_word j o u (pointer_word v) got lt (pointer_by_address set k file v there) from to))
          | inr behind ↦ inr behind
        ]
      ] in
      still_cell cache readable file image j u pair (home_of cache k file image j u own.held pair) slide o lt (steady_there cache readable set matched slide k file image s own read j u pair o got lt apart)
      ∙ ap (λ (b : ℕ). Some b) same
