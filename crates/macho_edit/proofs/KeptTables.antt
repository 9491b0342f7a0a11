-- The commands of streams and tables name the spots, which lie in the linkedit.
use Rattle.std.proofs.Common.{◌≡◌, ◌≤◌, ◌<◌, inl, inr, ℕ, ◌+◌, ◌-◌, ◌*◌, ◌/◌, ◌%◌, ◌^◌, false, List, length, get_or, refl, ap, ◌∙◌, arith, length-append}
use Rattle.std.proofs.lemmas.List.{get_or-append_right}
use Rattle.std.proofs.Math.ListN.{get_or-append}
use Rattle.dsc_base.specs.Numbers.{number_at}
use Rattle.dsc_base.specs.declared.fault.Span.{Span}
use Rattle.macho_image.specs.Macho.{number_of, is_segment}
use Rattle.macho_edit.specs.declared.spots.LinkSpots.{LinkSpots}
use Rattle.macho_edit.specs.Conditions.{IsLow, AreLow}
use Rattle.macho_edit.specs.Placed.{IsLinked, AreLinked}
use Rattle.macho_edit.specs.Tables.{words_for, with_words, spotted, start_of, info_words, symtab_words, dysymtab_words, indirect_words, data_words}
use Rattle.macho_edit.proofs.BoolLaws.{clash}
use Rattle.macho_edit.proofs.LengthLaws.{words_fit}
use Rattle.macho_edit.proofs.TableLaws.{with_words_at, start_low}
use Rattle.macho_edit.proofs.MovedCommands.{IsMoved}

-- what is known of spots that go into a header
pub record AreSpots (spots : LinkSpots) : Type 0 where
  pub low : AreLow spots
  pub six : length spots.groups ≡ 6
  pub narrow : (k : ℕ) → get_or spots.groups k 0 < 2 ^ 32
  pub whole_symbols : spots.symbols.len % 16 ≡ 0
  pub whole_indirect : spots.indirect.len % 4 ≡ 0

-- all spans that a header names lie in the linkedit
pub record AllLinked (spots : LinkSpots) : Type 0 where
  pub rebase : IsLinked spots spots.rebase
  pub others : AreLinked spots

-- a number that a moved command has, by its index among those that it got
value_at : (spots : LinkSpots) (c d ns : List ℕ) (m i v at : ℕ) → AreSpots spots → IsMoved spots c d → is_segment (number_of c) ≡ false → words_for spots (number_of c) ≡ ns
    → length ns ≡ m → i < m → get_or ns i 0 ≡ v → v < 2 ^ 32 → at ≡ 8 + 4 * i → number_at 4 d at ≡ v
unfolding spotted
value_at spots c d ns m i v at are is other words len lt value fits place = elim is.moved [
  | inl segment ↦ absurd (clash (is_segment (number_of c)) segment.segment other)
  | inr kept ↦
      let room : 8 + 4 * length (words_for spots (number_of c)) ≤ length c = words_fit spots (number_of c) (length c) are.six is.good.whole.sized.some is.good.whole.least in
      let same : length (words_for spots (number_of c)) ≡ length ns = ap length words in
      ap (λ (x : List ℕ). number_at 4 x at) (kept.moved ∙ ap (λ (xs : List ℕ). with_words xs c) words)
      ∙ (with_words_at ns c i at (omega arith) (omega arith) (omega arith) place ∙ value)
]

-- dyld_info_command
pub record InfoIs (spots : LinkSpots) (d : List ℕ) : Type 0 where
  pub rebase : number_at 4 d 8 ≡ start_of spots.rebase
  pub rebase_size : number_at 4 d 12 ≡ spots.rebase.len
  pub bind : number_at 4 d 16 ≡ start_of spots.bind
  pub bind_size : number_at 4 d 20 ≡ spots.bind.len
  pub weak : number_at 4 d 24 ≡ 0
  pub weak_size : number_at 4 d 28 ≡ 0
  pub lazy : number_at 4 d 32 ≡ start_of spots.lazy
  pub lazy_size : number_at 4 d 36 ≡ spots.lazy.len
  pub exports : number_at 4 d 40 ≡ start_of spots.exports
  pub exports_size : number_at 4 d 44 ≡ spots.exports.len

pub info_is : (spots : LinkSpots) (c d : List ℕ) → AreSpots spots → IsMoved spots c d → is_segment (number_of c) ≡ false → words_for spots (number_of c) ≡ info_words spots → InfoIs spots d
info_is spots c d are is other words =
    let at : (i v place : ℕ) → i < 10 → get_or (info_words spots) i 0 ≡ v → v < 2 ^ 32 → place ≡ 8 + 4 * i → number_at 4 d place ≡ v =
    λ i v place lt value fits eq. value_at spots c d (info_words spots) 10 i v place are is other words refl lt value fits eq in
    let low : AreLow spots = are.low in
    let a : spots.rebase.at + spots.rebase.len < 2 ^ 32 = low.rebase in
    let b : spots.bind.at + spots.bind.len < 2 ^ 32 = low.bind in
    let e : spots.lazy.at + spots.lazy.len < 2 ^ 32 = low.lazy in
    let f : spots.exports.at + spots.exports.len < 2 ^ 32 = low.exports in
    record {
      rebase = at 0 (start_of spots.rebase) 8 (omega arith) refl (start_low spots.rebase a) refl;
      rebase_size = at 1 spots.rebase.len 12 (omega arith) refl (omega arith) refl;
      bind = at 2 (start_of spots.bind) 16 (omega arith) refl (start_low spots.bind b) refl;
      bind_size = at 3 spots.bind.len 20 (omega arith) refl (omega arith) refl;
      weak = at 4 0 24 (omega arith) refl (omega arith) refl;
      weak_size = at 5 0 28 (omega arith) refl (omega arith) refl;
      lazy = at 6 (start_of spots.lazy) 32 (omega arith) refl (start_low spots.lazy e) refl;
      lazy_size = at 7 spots.lazy.len 36 (omega arith) refl (omega arith) refl;
      exports = at 8 (start_of spots.exports) 40 (omega arith) refl (start_low spots.exports f) refl;
      exports_size = at 9 spots.exports.len 44 (omega arith) refl (omega arith) refl;
    }

-- symtab_command
pub record SymtabIs (spots : LinkSpots) (d : List ℕ) : Type 0 where
  pub symbols : number_at 4 d 8 ≡ start_of spots.symbols
  pub count : number_at 4 d 12 ≡ spots.symbols.len / 16
  pub strings : number_at 4 d 16 ≡ start_of spots.strings
  pub strings_size : number_at 4 d 20 ≡ spots.strings.len

pub symtab_is : (spots : LinkSpots) (c d : List ℕ) → AreSpots spots → IsMoved spots c d → is_segment (number_of c) ≡ false → words_for spots (number_of c) ≡ symtab_words spots → SymtabIs spots d
symtab_is spots c d are is other words =
    let at : (i v place : ℕ) → i < 4 → get_or (symtab_words spots) i 0 ≡ v → v < 2 ^ 32 → place ≡ 8 + 4 * i → number_at 4 d place ≡ v =
    λ i v place lt value fits eq. value_at spots c d (symtab_words spots) 4 i v place are is other words refl lt value fits eq in
    let low : AreLow spots = are.low in
    let a : spots.symbols.at + spots.symbols.len < 2 ^ 32 = low.symbols in
    let b : spots.strings.at + spots.strings.len < 2 ^ 32 = low.strings in
    record {
      symbols = at 0 (start_of spots.symbols) 8 (omega arith) refl (start_low spots.symbols a) refl;
      count = at 1 (spots.symbols.len / 16) 12 (omega arith) refl (omega arith) refl;
      strings = at 2 (start_of spots.strings) 16 (omega arith) refl (start_low spots.strings b) refl;
      strings_size = at 3 spots.strings.len 20 (omega arith) refl (omega arith) refl;
    }

-- dysymtab_command
pub record DysymtabIs (spots : LinkSpots) (d : List ℕ) : Type 0 where
  pub groups : (k : ℕ) → k < 6 → number_at 4 d (8 + 4 * k) ≡ get_or spots.groups k 0
  pub indirect : number_at 4 d 56 ≡ start_of spots.indirect
  pub count : number_at 4 d 60 ≡ spots.indirect.len / 4
  pub external : number_at 4 d 68 ≡ 0
  pub local : number_at 4 d 76 ≡ 0

pub dysymtab_is : (spots : LinkSpots) (c d : List ℕ) → AreSpots spots → IsMoved spots c d → is_segment (number_of c) ≡ false → words_for spots (number_of c) ≡ dysymtab_words spots → DysymtabIs spots d
dysymtab_is spots c d are is other words =
    let six : length spots.groups ≡ 6 = are.six in
    let len : length (dysymtab_words spots) ≡ 18 = length-append spots.groups (indirect_words spots.indirect) ∙ omega arith in
    let at : (i v place : ℕ) → i < 18 → get_or (dysymtab_words spots) i 0 ≡ v → v < 2 ^ 32 → place ≡ 8 + 4 * i → number_at 4 d place ≡ v =
    λ i v place lt value fits eq. value_at spots c d (dysymtab_words spots) 18 i v place are is other words len lt value fits eq in
    let low : AreLow spots = are.low in
    let a : spots.indirect.at + spots.indirect.len < 2 ^ 32 = low.indirect in
    let behind : (i : ℕ) → 6 ≤ i → get_or (dysymtab_words spots) i 0 ≡ get_or (indirect_words spots.indirect) (i - 6) 0 =
    λ i le. get_or-append_right spots.groups (indirect_words spots.indirect) 6 i 0 six le in
    record {
      groups = λ k lt. at k (get_or spots.groups k 0) (8 + 4 * k) (omega arith) (get_or-append spots.groups (indirect_words spots.indirect) 0 k (omega arith)) (are.narrow k) refl;
      indirect = at 12 (start_of spots.indirect) 56 (omega arith) (behind 12 (omega arith)) (start_low spots.indirect a) refl;
      count = at 13 (spots.indirect.len / 4) 60 (omega arith) (behind 13 (omega arith)) (omega arith) refl;
      external = at 15 0 68 (omega arith) (behind 15 (omega arith)) (omega arith) refl;
      local = at 17 0 76 (omega arith) (behind 17 (omega arith)) (omega arith) refl;
    }

-- linkedit_data_command
pub record DataIs (s : Span) (d : List ℕ) : Type 0 where
  pub start : number_at 4 d 8 ≡ start_of s
  pub size : number_at 4 d 12 ≡ s.len

pub data_is : (spots : LinkSpots) (s : Span) (c d : List ℕ) → AreSpots spots → IsLow s → IsMoved spots c d → is_segment (number_of c) ≡ false → words_for spots (number_of c) ≡ data_words s → DataIs s d
data_is spots s c d are low is other words =
    let at : (i v place : ℕ) → i < 2 → get_or (data_words s) i 0 ≡ v → v < 2 ^ 32 → place ≡ 8 + 4 * i → number_at 4 d place ≡ v =
    λ i v place lt value fits eq. value_at spots c d (data_words s) 2 i v place are is other words refl lt value fits eq in
    let a : s.at + s.len < 2 ^ 32 = low in
    record {
      start = at 0 (start_of s) 8 (omega arith) refl (start_low s a) refl;
      size = at 1 s.len 12 (omega arith) refl (omega arith) refl;
    }
