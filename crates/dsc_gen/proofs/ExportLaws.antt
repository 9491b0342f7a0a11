-- Exports that are generated make a trie.
use Rattle.std.proofs.Common.{◌≡◌, ◌<◌, ◌+◌, ◌*◌, ◌%◌, ◌-◌, ℕ, zero, suc, Bool, false, cond, List, [], ◌∷◌, length, refl, ap, arith, inl, inr, nat_eq, Less, Equal, Greater, slice_index_or}
use Rattle.std.specs.List.{sum_by}
use Rattle.std.specs.Ordering.{ordering_then, nat_cmp}
use Rattle.std.specs.Cmp.Lexicographic.{slice_cmp}
use Rattle.std.proofs.lemmas.Bool.{lt-ltb}
use Rattle.std.proofs.lemmas.Bool.Decides.{nat_tests}
use Rattle.std.proofs.lemmas.List.Sums.{sum_by-cons}
use Rattle.export_trie.specs.declared.export.Export.{Export}
use Rattle.export_trie.specs.declared.export.Target.TheVariants.{Offset}
use Rattle.export_trie.specs.Order.{names_len, too_many}
use Rattle.export_trie.specs.Paths.{Member}
use Rattle.export_trie.specs.Writing.{IsWritable, IsWritableExport}
use Rattle.dsc_gen.specs.Draws.{text_start}
use Rattle.dsc_gen.specs.Streams.{symbol_name, exports_from}

-- a digit more is a name behind
name_less : (i : ℕ) → slice_cmp nat_cmp (symbol_name i) (symbol_name (suc i)) ≡ Less
name_less i =
    let lt : 48 + i < 48 + suc i = omega arith in
    ap (λ (t : Bool). ordering_then (cond t Less (cond (nat_eq (48 + i) (48 + suc i)) Equal Greater)) Equal) (lt-ltb (48 + i) (48 + suc i) lt)

rises : (size i : ℕ) (ws : List ℕ) (k : ℕ) (d : Export) → k + 1 < length (exports_from size i ws) → slice_cmp nat_cmp (slice_index_or (exports_from size i ws) k d).name (slice_index_or (exports_from size i ws) (k + 1) d).name ≡ Less
rises size i [] k d lt = absurd (omega (arith, lt))
rises size i (w ∷ []) k d lt = absurd (omega (arith, lt))
rises size i (w ∷ v ∷ ws) zero d lt = name_less i
rises size i (w ∷ v ∷ ws) (suc k) d lt = let next : suc k + 1 ≡ suc (k + 1) = omega arith in rw next (rises size (suc i) (v ∷ ws) k d (omega (arith, lt)))

one : (size i w : ℕ) → IsWritableExport (record { name = symbol_name i; flags = 0; target = Offset (text_start + w % (size - text_start)) })
one size i w = record {
  short = omega arith;
  plain = (omega arith, (omega arith, (omega arith, tt)));
  known = refl;
  no_resolver = refl;
  fits = (refl, refl);
}

each : (size i : ℕ) (ws : List ℕ) (export : Export) → Member export (exports_from size i ws) → IsWritableExport export
each size i [] export none = absurd none
each size i (w ∷ ws) export (inl is) = rw is (one size i w)
each size i (w ∷ ws) export (inr later) = each size (suc i) ws export later

length-exports : (size i : ℕ) (ws : List ℕ) → length (exports_from size i ws) ≡ length ws
length-exports size i [] = refl
length-exports size i (w ∷ ws) = ap suc (length-exports size (suc i) ws)

names-exports : (size i : ℕ) (ws : List ℕ) → sum_by names_len (exports_from size i ws) ≡ 3 * length ws
names-exports size i [] = refl
names-exports size i (w ∷ ws) =
    let e : Export = record { name = symbol_name i; flags = 0; target = Offset (text_start + w % (size - text_start)) } in
    let all = sum_by-cons names_len e (exports_from size (suc i) ws) in
    let rest = names-exports size (suc i) ws in
    omega (arith, all, rest)

few : (size : ℕ) (ws : List ℕ) → length ws ≡ 8 → too_many (exports_from size 0 ws) ≡ false
unfolding too_many
few size ws eight =
    let some = length-exports size 0 ws in
    let names = names-exports size 0 ws in
    grind (arith, nat_tests)

pub writable : (size : ℕ) (ws : List ℕ) → length ws ≡ 8 → IsWritable (exports_from size 0 ws)
writable size ws eight = record {
  rises = rises size 0 ws;
  each = each size 0 ws;
  few = few size ws eight;
}
