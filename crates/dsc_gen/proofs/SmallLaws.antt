-- The streams of an image keep within fields of four bytes.
use Rattle.std.proofs.Common.{◌≡◌, ◌≤◌, ◌<◌, ◌+◌, ◌-◌, ◌*◌, ◌%◌, ◌^◌, ℕ, zero, suc, List, [], ◌∷◌, ◌++◌, length, refl, sym, ap, ◌∙◌, arith, inl, inr, nat_eq, length-append}
use Rattle.std.proofs.lemmas.Bool.{cond-true, cond-false, cases_Bool}
use Rattle.std.specs.List.{sum_by}
use Rattle.std.proofs.lemmas.List.Sums.{sum_by-cons}
use Rattle.dsc_base.specs.Uleb.{uleb_bytes}
use Rattle.dsc_base.proofs.UlebLaws.{length-uleb_bytes_ten}
use Rattle.export_trie.proofs.SizeLaws.{trie_small}
use Rattle.dsc_gen.specs.declared.shape.Shape.{Shape}
use Rattle.dsc_gen.specs.declared.split.Delta.{Delta}
use Rattle.dsc_gen.specs.Draws.{Draw, IsDraw, segment_size}
use Rattle.dsc_gen.specs.Contents.{pointer_place}
use Rattle.dsc_gen.specs.Streams.{rebase_opcodes, rebases_from, rebase_stream, bind_opcodes, binds_from, bind_stream, exports_from}
use Rattle.dsc_gen.specs.Split.{Group, alone, in_front, groups_of, rises_from, group_bytes, groups_bytes, stream_of, in_order, deltas_from, split_stream}
use Rattle.dsc_gen.specs.Files.{IsShape, AreSmall, ordinal_of, parts_of}
use Rattle.dsc_gen.proofs.ExportLaws.{writable}
use Rattle.dsc_gen.proofs.OrderLaws.{sum_in_order}

rebases_small : (i n : ℕ) → length (rebases_from i n) ≤ 12 * n
unfolding rebases_from
rebases_small i zero = omega arith
rebases_small i (suc n) =
    let all = length-append (rebase_opcodes i) (rebases_from (suc i) n) in
    let one = length-append (uleb_bytes (pointer_place i)) (0x51 ∷ []) in
    let ten = length-uleb_bytes_ten (pointer_place i) in
    let rest = rebases_small (suc i) n in
    omega (arith, all, one, ten, rest)

rebase_small : (n : ℕ) → n ≤ 65_536 → length (rebase_stream n) < 2 ^ 28
unfolding rebase_stream
rebase_small n few =
    let all = length-append (rebases_from 0 n) (0 ∷ []) in
    let rest = rebases_small 0 n in
    omega (arith, all, rest)

binds_small : (ordinal i : ℕ) (ws : List ℕ) → length (binds_from ordinal i ws) ≤ 18 * length ws
unfolding binds_from
binds_small ordinal i [] = omega arith
binds_small ordinal i (w ∷ ws) =
    let all = length-append (bind_opcodes ordinal i (w % 8)) (binds_from ordinal (suc i) ws) in
    let one = length-append (uleb_bytes (pointer_place i)) (0x90 ∷ []) in
    let ten = length-uleb_bytes_ten (pointer_place i) in
    let rest = binds_small ordinal (suc i) ws in
    omega (arith, all, one, ten, rest)

bind_small : (ordinal pointers : ℕ) (ws : List ℕ) → length ws ≤ 65_536 → length (bind_stream ordinal pointers ws) < 2 ^ 28
unfolding bind_stream
bind_small ordinal pointers ws few =
    let all = length-append (binds_from ordinal pointers ws) (0 ∷ []) in
    let rest = binds_small ordinal pointers ws in
    omega (arith, all, rest)

rises_small : (last : ℕ) (ds : List Delta) → length (rises_from last ds) ≤ 10 * length ds
unfolding rises_from
rises_small last [] = omega arith
rises_small last (d ∷ ds) =
    let all = length-append (uleb_bytes (d.from - last)) (rises_from d.from ds) in
    let ten = length-uleb_bytes_ten (d.from - last) in
    let rest = rises_small d.from ds in
    omega (arith, all, ten, rest)

-- no more than so many bytes are those of groups
abbrev most : List Group → ℕ
most [] = 0
most (g ∷ gs) = 22 + 10 * length g.deltas + most gs

groups_small : (last : ℕ) (gs : List Group) → length (groups_bytes last gs) ≤ most gs
unfolding groups_bytes
groups_small last [] = omega arith
groups_small last (g ∷ gs) =
    let all = length-append (group_bytes last g) (groups_bytes g.to gs) in
    let one = length-append (uleb_bytes (g.to - last)) (1 ∷ 3 ∷ (uleb_bytes (length g.deltas) ++ rises_from 0 g.deltas)) in
    let two = length-append (uleb_bytes (length g.deltas)) (rises_from 0 g.deltas) in
    let first = length-uleb_bytes_ten (g.to - last) in
    let second = length-uleb_bytes_ten (length g.deltas) in
    let third = rises_small 0 g.deltas in
    let rest = groups_small g.to gs in
    omega (arith, all, one, two, first, second, third, rest)

most_in_front : (d : Delta) (gs : List Group) → most (in_front d gs) ≤ 32 + most gs
most_in_front d [] = omega arith
most_in_front d (g ∷ gs) = elim (cases_Bool (nat_eq d.to g.to)) as (λ _. most (in_front d (g ∷ gs)) ≤ 32 + most (g ∷ gs)) [
  | inl same ↦ let is = ap most (cond-true (nat_eq d.to g.to) (record { to = d.to; deltas = d ∷ g.deltas } ∷ gs) (alone d ∷ (g ∷ gs)) same) in omega (arith, is)
  | inr other ↦ let is = ap most (cond-false (nat_eq d.to g.to) (record { to = d.to; deltas = d ∷ g.deltas } ∷ gs) (alone d ∷ (g ∷ gs)) other) in omega (arith, is)
]

most_of : (ds : List Delta) → most (groups_of ds) ≤ 32 * length ds
most_of [] = omega arith
most_of (d ∷ ds) = let here = most_in_front d (groups_of ds) in let rest = most_of ds in omega (arith, here, rest)

stream_small : (gs : List Group) → most gs ≤ 2_097_152 → length (stream_of gs) < 2 ^ 28
unfolding stream_of
stream_small [] few = omega arith
stream_small (g ∷ gs) few =
    let all = length-append (uleb_bytes (length (g ∷ gs))) (groups_bytes 0 (g ∷ gs)) in
    let ten = length-uleb_bytes_ten (length (g ∷ gs)) in
    let rest = groups_small 0 (g ∷ gs) in
    omega (arith, all, ten, rest, few)

length_is : (ds : List Delta) → sum_by (λ (d : Delta). 1) ds ≡ length ds
length_is [] = refl
length_is (d ∷ ds) = let all = sum_by-cons (λ (e : Delta). 1) d ds in let rest = length_is ds in omega (arith, all, rest)

length-deltas : (size i : ℕ) (ws : List ℕ) → length (deltas_from size i ws) ≡ length ws
length-deltas size i [] = refl
length-deltas size i (w ∷ ws) = ap suc (length-deltas size (suc i) ws)

split_small : (size : ℕ) (ws : List ℕ) → length ws ≤ 65_536 → length (split_stream size ws) < 2 ^ 28
unfolding split_stream
split_small size ws few =
    let ds : List Delta = deltas_from size 0 ws in
    let same : length (in_order ds) ≡ length ws = sym (length_is (in_order ds)) ∙ (sum_in_order (λ (d : Delta). 1) ds ∙ (length_is ds ∙ length-deltas size 0 ws)) in
    let rest = most_of (in_order ds) in
    stream_small (groups_of (in_order ds)) (omega (arith, same, rest, few))

pub parts_small : (shape : Shape) (k : ℕ) (draw : Draw) → IsShape shape → IsDraw shape draw → AreSmall (parts_of shape k draw)
unfolding parts_of
parts_small shape k draw is drawn = record {
  rebase = rebase_small shape.pointers (omega (arith, is.few, is.fits));
  bind = bind_small (ordinal_of k) shape.pointers draw.symbols (omega (arith, is.few, is.fits, drawn.symbols));
  exports = trie_small (exports_from (segment_size shape) 0 draw.exports) (writable (segment_size shape) draw.exports drawn.exports);
  split = split_small (segment_size shape) draw.targets (omega (arith, is.few, is.fits, drawn.targets));
}
