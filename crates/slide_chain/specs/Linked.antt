-- Data whose words are set and then linked into chains, for deltas of any number of bits. Words that keep their number at every slide are set and not chained.
use Rattle.std.specs.Prelude.{◌≡◌, ◌≤◌, ◌<◌, ℕ, ◌+◌, ◌-◌, ◌%◌, ◌^◌, ◌&&◌, List, [], ◌∷◌, map, nat_eq, if◌then◌else◌}
use Rattle.std.specs.List.{list_any}
use Rattle.dsc_base.specs.declared.edits.Edit.{Edit}
use Rattle.dsc_base.specs.Edits.{put_all, change_all, AllInside, AllFit, AllApart, IsAmong}
use Rattle.slide_chain.specs.declared.words.ChainWord.{ChainWord}
use Rattle.slide_chain.specs.Making.{linking, AreWords, AllBelow}

-- the data with all edits made, and then the words at these places linked
abbrev pub linked_data : ℕ → List ℕ → List Edit → List ℕ → List ℕ
linked_data bits chained edits bytes = change_all (linking (2 ^ bits - 1) chained) (put_all edits bytes)

-- an edit under a slide, by the places of the chained words: their values are raised, modulo 2^64
abbrev pub raised : ℕ → List ℕ → Edit → Edit
raised slide chained e = record {
  at = e.at;
  width = e.width;
  value = if list_any (nat_eq e.at) chained then (e.value + slide) % 2 ^ 64 else e.value;
}

-- the value that is set in the eight bytes at a place
unfoldable pub value_at : List Edit → ℕ → ℕ
value_at [] a = 0
value_at (e ∷ edits) a = if nat_eq e.at a && nat_eq e.width 8 then e.value else value_at edits a

-- the chained words with the values that are set there
abbrev pub chained_words : List Edit → List ℕ → List ChainWord
chained_words edits chained = map (λ a. record { offset = a; value = value_at edits a }) chained

-- ---- what callers owe

-- one of the edits is a pointer at this place: eight bytes, a value that isn't 0 and leaves the bits from 48 up to the delta
pub record HasPointer (edits : List Edit) (a : ℕ) : Type 0 where
  pub edit : Edit
  pub among : IsAmong edit edits
  pub place : edit.at ≡ a
  pub width : edit.width ≡ 8
  pub some : 0 < edit.value
  pub small : edit.value < 2 ^ 48

abbrev pub HavePointers : List Edit → List ℕ → Type 0
HavePointers edits [] = Unit {0}
HavePointers edits (a ∷ chained) = HasPointer edits a × HavePointers edits chained

-- edits of data of so many bytes, which keep apart, and places of pointers among them: the places rise, at multiples of 4, none of them across a page's end
pub record CanLink (bits size : ℕ) (chained : List ℕ) (edits : List Edit) : Type 0 where
  pub some : 1 ≤ bits
  pub most : bits ≤ 16
  pub pages : size % 4096 ≡ 0
  pub words : AreWords 0 chained
  pub below : AllBelow size chained
  pub pointers : HavePointers edits chained
  pub inside : AllInside size edits
  pub apart : AllApart edits
  pub fit : AllFit edits
