-- The spots of an image lie in the linkedit: each range that has bytes is between its start and its end, and the tables are of whole entries.
use Rattle.std.proofs.Common.{◌≡◌, ◌≤◌, ◌<◌, ℕ, zero, suc, ◌+◌, ◌*◌, ◌%◌, ◌^◌, Bool, true, false, cond, List, [], ◌∷◌, length, take, get_or, refl, sym, ap, ◌∙◌, arith}
use Rattle.std.specs.Prelude.{nat_eq, slice_index}
use Rattle.std.specs.List.{flat_map, sum_by}
use Rattle.std.proofs.lemmas.Bool.{eqb-true, eqb-false}
use Rattle.std.proofs.lemmas.List.{length-map}
use Rattle.std.proofs.lemmas.List.Concat.{length-flat_map}
use Rattle.std.proofs.lemmas.List.Sums.{sum_by-cons}
use Rattle.dsc_base.specs.Numbers.{little_bytes}
use Rattle.dsc_base.specs.declared.fault.Span.{Span}
use Rattle.macho_edit.specs.declared.spots.LinkSpots.{LinkSpots}
use Rattle.macho_edit.specs.Conditions.{AreLow}
use Rattle.macho_edit.specs.Placed.{AreLinked}
use Rattle.nlist_table.specs.Symbols.{Sym}
use Rattle.cache_layout.proofs.NumberedLaws.{numbered-get}
use Rattle.linkedit_merge.specs.Linkedit.{all_symbols, all_indirect, pool_of, symbol_bytes, parts_of, linkedit_size, within, symbols_len, indirect_len, spots_in, spots_of}
use Rattle.linkedit_merge.specs.Parts.{eight_up, end_with, end_behind, lens_of, span_behind, span_of}
use Rattle.linkedit_merge.specs.Shares.{Share}
use Rattle.linkedit_merge.proofs.ListLaws.{sum_within, sum_each, sum_same}
use Rattle.linkedit_merge.proofs.PartLaws.{end-rises}
use Rattle.linkedit_merge.proofs.ReadLaws.{many_parts, shared_range}

-- a range that ends within so many bytes of a place, and begins no earlier if it has any
pub record IsWithin (start size : ℕ) (s : Span) : Type 0 where
  pub behind : 0 < s.len → start ≤ s.at
  pub inside : s.at + s.len ≤ start + size

-- ---- parts one behind the other

end_with-some : (before len : ℕ) → 0 < len → end_with before len ≡ eight_up before + len
unfolding end_with
end_with-some before len some = by_len (nat_eq len 0) refl
  where
    by_len : (b : Bool) → nat_eq len 0 ≡ b → cond b before (eight_up before + len) ≡ eight_up before + len
    by_len true none = let e : len ≡ 0 = eqb-true len 0 none in absurd (omega (arith, e, some))
    by_len false none = refl

-- each part ends before the whole does
part_ends : (before : ℕ) (lens : List ℕ) (n : ℕ) → n < length lens → 0 < slice_index lens n → eight_up (end_behind before (take n lens)) + slice_index lens n ≤ end_behind before lens
unfolding end_behind
part_ends before [] n none some = absurd (omega arith)
part_ends before (len ∷ lens) zero lt some = omega (arith, end-rises (end_with before len) lens, end_with-some before len some)
part_ends before (len ∷ lens) (suc n) lt some = part_ends (end_with before len) lens n (omega arith) some

within_by : (b : Bool) (start at len size : ℕ) → nat_eq len 0 ≡ b → (0 < len → at + len ≤ size)
    → (let span : Span = cond b (record { at = 0; len = 0 }) (record { at = start + at; len = len }) in IsWithin start size span)
within_by true start at len size none ends = record { behind = λ some. absurd (omega (arith, some)); inside = omega arith }
within_by false start at len size some ends =
    let no : len ≡ 0 → ⊥ = eqb-false len 0 some in
    let positive : 0 < len = omega (arith, no) in
    record { behind = λ _. omega arith; inside = omega (arith, ends positive) }

pub span_within : (start : ℕ) (lens : List ℕ) (n : ℕ) → n < length lens → IsWithin start (end_behind 0 lens) (span_of start lens n)
unfolding span_behind
span_within start lens n lt =
    within_by (nat_eq (slice_index lens n) 0) start (eight_up (end_behind 0 (take n lens))) (slice_index lens n) (end_behind 0 lens) refl (λ some. part_ends 0 lens n lt some)

-- ---- a range within another

narrow_by : (b : Bool) (start size : ℕ) (whole : Span) (before len : ℕ) → nat_eq len 0 ≡ b → IsWithin start size whole → before + len ≤ whole.len
    → (let span : Span = cond b (record { at = 0; len = 0 }) (record { at = whole.at + before; len = len }) in IsWithin start size span × (span.len ≡ len))
narrow_by true start size whole before len none inside fits =
    let e : len ≡ 0 = eqb-true len 0 none in
    (record { behind = λ some. absurd (omega (arith, some)); inside = omega arith }, sym e)
narrow_by false start size whole before len some inside fits =
    let no : len ≡ 0 → ⊥ = eqb-false len 0 some in
    let positive : 0 < whole.len = omega (arith, no, fits) in
    let first : start ≤ whole.at = inside.behind positive in
    (record { behind = λ _. omega (arith, first); inside = omega (arith, inside.inside, fits) }, refl)

narrowed : (start size : ℕ) (whole : Span) (before len : ℕ) → IsWithin start size whole → before + len ≤ whole.len → IsWithin start size (within whole before len) × ((within whole before len).len ≡ len)
narrowed start size whole before len inside fits = narrow_by (nat_eq len 0) start size whole before len refl inside fits

-- what an item adds is counted in the sum
part_below : {X : Type 0} (f : X → ℕ) (xs : List X) (k : ℕ) (x : X) → k < length xs → get_or xs k x ≡ x → sum_by f (take k xs) + f x ≤ sum_by f xs
part_below f [] k x lt is = absurd (omega arith)
part_below f (y ∷ ys) zero x lt is = omega (arith, sum_by-cons f y ys, ap f is)
part_below f (y ∷ ys) (suc k) x lt is = omega (arith, sum_by-cons f y ys, sum_by-cons f y (take k ys), part_below f ys k x (omega arith) is)

-- the tables of all images have the entries of each
all_symbols_long : (pool : List (List ℕ)) (shares : List Share) → length (flat_map (symbol_bytes pool) (all_symbols shares)) ≡ sum_by symbols_len shares
all_symbols_long pool shares =
    length-flat_map (symbol_bytes pool) (all_symbols shares)
    ∙ (sum_within (λ (s : Sym). length (symbol_bytes pool s)) (λ (share : Share). share.tables.symbols) shares
    ∙ sum_same (λ (share : Share). sum_by (λ (s : Sym). length (symbol_bytes pool s)) share.tables.symbols) symbols_len shares
    (λ share. sum_each (λ (s : Sym). length (symbol_bytes pool s)) 16 share.tables.symbols (λ s. refl)))

all_indirect_long : (shares : List Share) → length (flat_map (little_bytes 4) (all_indirect shares)) ≡ sum_by indirect_len shares
all_indirect_long shares =
    length-flat_map (little_bytes 4) (all_indirect shares)
    ∙ (sum_within (λ (i : ℕ). length (little_bytes 4 i)) (λ (share : Share). share.tables.indirect) shares
    ∙ sum_same (λ (share : Share). sum_by (λ (i : ℕ). length (little_bytes 4 i)) share.tables.indirect) indirect_len shares
    (λ share. sum_each (λ (i : ℕ). length (little_bytes 4 i)) 4 share.tables.indirect (λ i. refl)))

-- ---- the spots of an image

part_within : (start : ℕ) (shares : List Share) (n : ℕ) → n < 5 * length shares + 3 → IsWithin start (linkedit_size shares) (span_of start (lens_of (parts_of shares)) n)
unfolding linkedit_size
part_within start shares n lt =
    span_within start (lens_of (parts_of shares)) n (omega (arith, lt, many_parts shares, length-map (parts_of shares) (λ (part : List ℕ). length part)))

-- all that is known of the ranges of an image's own streams, of its tables and of the names
pub record AreWithin (start size : ℕ) (share : Share) (spots : LinkSpots) : Type 0 where
  pub bind : IsWithin start size spots.bind
  pub lazy : IsWithin start size spots.lazy
  pub exports : IsWithin start size spots.exports
  pub function_starts : IsWithin start size spots.function_starts
  pub data_in_code : IsWithin start size spots.data_in_code
  pub symbols : IsWithin start size spots.symbols
  pub indirect : IsWithin start size spots.indirect
  pub strings : IsWithin start size spots.strings
  pub symbols_are : spots.symbols.len ≡ symbols_len share
  pub indirect_are : spots.indirect.len ≡ indirect_len share

pub spots_within : (start : ℕ) (shares : List Share) (k : ℕ) (share : Share) → k < length shares → get_or shares k share ≡ share → AreWithin start (linkedit_size shares) share (spots_in start shares k share)
unfolding spots_in
spots_within start shares k share lt is =
    let lens = lens_of (parts_of shares) in
    let size = linkedit_size shares in
    let tables = 5 * length shares in
    let zero_right : (m : ℕ) → m + 0 ≡ m = λ m. omega arith in
    let own : (n : ℕ) → n < 5 * length shares + 3 → IsWithin start (linkedit_size shares) (span_of start (lens_of (parts_of shares)) n) = λ n less. part_within start shares n less in
    let first = shared_range start shares 0 (omega arith) in
    let first_long : (span_of start (lens_of (parts_of shares)) (5 * length shares)).len ≡ sum_by symbols_len shares =
    ap (λ (m : ℕ). (span_of start (lens_of (parts_of shares)) m).len) (sym (zero_right (5 * length shares))) ∙ (first.long ∙ all_symbols_long (pool_of shares) shares) in
    let second = shared_range start shares 1 (omega arith) in
    let second_long : (span_of start (lens_of (parts_of shares)) (5 * length shares + 1)).len ≡ sum_by indirect_len shares = second.long ∙ all_indirect_long shares in
    let symbols = narrowed start size (span_of start lens tables) (sum_by symbols_len (take k shares)) (symbols_len share) (own tables (omega arith)) (omega (arith, part_below symbols_len shares k share lt is, first_long)) in
    let indirect = narrowed start size (span_of start lens (tables + 1)) (sum_by indirect_len (take k shares)) (indirect_len share) (own (tables + 1) (omega arith)) (omega (arith, part_below indirect_len shares k share lt is, second_long)) in
    record {
      bind = own (5 * k) (omega (arith, lt));
      lazy = own (5 * k + 1) (omega (arith, lt));
      exports = own (5 * k + 2) (omega (arith, lt));
      function_starts = own (5 * k + 3) (omega (arith, lt));
      data_in_code = own (5 * k + 4) (omega (arith, lt));
      symbols = symbols.0;
      indirect = indirect.0;
      strings = own (tables + 2) (omega arith);
      symbols_are = symbols.1;
      indirect_are = indirect.1;
    }

-- where each image finds them
pub spots_at : (start : ℕ) (shares : List Share) (k : ℕ) (share : Share) (d : LinkSpots) → k < length shares → get_or shares k share ≡ share → get_or (spots_of start shares) k d ≡ spots_in start shares k share
unfolding spots_of
spots_at start shares k share d lt is = numbered-get (spots_in start shares) shares k share d lt (sym is)

linked : (start size : ℕ) (s : Span) → IsWithin start size s → 0 < s.len → (start ≤ s.at) × (s.at + s.len ≤ start + size)
linked start size s inside some = (inside.behind some, inside.inside)

pub spots_linked : (start : ℕ) (shares : List Share) (k : ℕ) (share : Share) → k < length shares → get_or shares k share ≡ share → AreLinked (spots_in start shares k share)
unfolding spots_in
spots_linked start shares k share lt is =
    let are = spots_within start shares k share lt is in
    let size = linkedit_size shares in
    record {
      bind = linked start size (spots_in start shares k share).bind are.bind;
      lazy = linked start size (spots_in start shares k share).lazy are.lazy;
      exports = linked start size (spots_in start shares k share).exports are.exports;
      function_starts = linked start size (spots_in start shares k share).function_starts are.function_starts;
      data_in_code = linked start size (spots_in start shares k share).data_in_code are.data_in_code;
      symbols = linked start size (spots_in start shares k share).symbols are.symbols;
      indirect = linked start size (spots_in start shares k share).indirect are.indirect;
      strings = linked start size (spots_in start shares k share).strings are.strings;
    }

rebase_low : (start : ℕ) (shares : List Share) (k : ℕ) (share : Share) → (spots_in start shares k share).rebase.at + (spots_in start shares k share).rebase.len < 2 ^ 32
unfolding spots_in
rebase_low start shares k share = omega arith

pub spots_low : (start : ℕ) (shares : List Share) (k : ℕ) (share : Share) → k < length shares → get_or shares k share ≡ share → start + linkedit_size shares < 2 ^ 32 → AreLow (spots_in start shares k share)
spots_low start shares k share lt is low =
    let are = spots_within start shares k share lt is in
    record {
      rebase = rebase_low start shares k share;
      bind = omega (arith, low, are.bind.inside);
      lazy = omega (arith, low, are.lazy.inside);
      exports = omega (arith, low, are.exports.inside);
      function_starts = omega (arith, low, are.function_starts.inside);
      data_in_code = omega (arith, low, are.data_in_code.inside);
      symbols = omega (arith, low, are.symbols.inside);
      indirect = omega (arith, low, are.indirect.inside);
      strings = omega (arith, low, are.strings.inside);
    }

-- entries of 16 and of 4 bytes
pub whole_entries : (start : ℕ) (shares : List Share) (k : ℕ) (share : Share) → k < length shares → get_or shares k share ≡ share
    → ((spots_in start shares k share).symbols.len % 16 ≡ 0) × ((spots_in start shares k share).indirect.len % 4 ≡ 0)
whole_entries start shares k share lt is =
    let are = spots_within start shares k share lt is in
    (omega (arith, are.symbols_are), omega (arith, are.indirect_are))
