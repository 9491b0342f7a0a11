-- One part behind the other.
use Rattle.std.proofs.Common.{◌≡◌, ◌≤◌, ◌∙◌, ◌++◌, ◌∷◌, [], ℕ, List, ap, sym, length, arith}
use Rattle.std.proofs.lemmas.Bool.Decides.{nat_tests}
use Rattle.dsc_base.specs.Uleb.{uleb_bytes}
use Rattle.dsc_gen.specs.Split.{groups_of, groups_bytes}
use Rattle.dsc_gen.proofs.ListingLaws.{and_then}
use Rattle.dsc_gen.proofs.SplitLaws.{stream_none, stream_some}
use Rattle.dsc_gen.proofs.split.stream_of.Goals as goal

pub returns-then-is_empty : goal.returns-then-is_empty
returns-then-is_empty c =
    let none : length c.args.deltas.now ≡ 0 = grind (arith, nat_tests) in
    and_then [] c.push.new.self.items c.push-then-is_empty.new.self.items (0x7F ∷ []) (0 ∷ []) (c.in_ok-push.ensures.items ∙ ap (λ (l : List ℕ). l ++ 0x7F ∷ []) c.new-out.ensures.items) c.in_ok-push-2.ensures.items
    ∙ sym (stream_none c.args.deltas.now none)

pub returns : goal.returns
returns c =
    let some : 1 ≤ length c.args.deltas.now = grind (arith, nat_tests) in
    let groups : List ℕ = groups_bytes 0 (groups_of c.args.deltas.now) in
    let count : List ℕ = uleb_bytes (length (groups_of c.args.deltas.now)) in
    and_then [] c.push.new.self.items c.put_groups.new.out.items (0x7F ∷ []) _ (c.in_ok-push.ensures.items ∙ ap (λ (l : List ℕ). l ++ 0x7F ∷ []) c.new-out.ensures.items)
    (and_then c.push.new.self.items c.extend_from_slice.new.self.items c.put_groups.new.out.items (1 ∷ 1 ∷ 2 ∷ []) _ c.in_ok-extend_from_slice.ensures.items
    (and_then c.extend_from_slice.new.self.items c.put_uleb.new.out.items c.put_groups.new.out.items count groups
    (c.in_ok-put_uleb.ensures.appended ∙ ap (λ (n : ℕ). c.extend_from_slice.new.self.items ++ uleb_bytes n) c.group_count.ensures) c.in_ok-put_groups.ensures))
    ∙ sym (stream_some c.args.deltas.now some)
