-- The first node is to come, if there is one.
use Rattle.std.proofs.Common.{◌≡◌, ◌<◌, ◌⊎◌, [], ◌∷◌, length, reverse, refl, inl, inr, rules, false}
use Rattle.std.specs.Prelude.{replicate}
use Rattle.std.proofs.lemmas.List.{nil_from_length}
use Rattle.export_trie.proofs.ReadLaws.{stands_start}
use Rattle.export_trie.proofs.reading.start.Goals as goal
use Rattle.export_trie.proofs.reading.start.Goals.{then-not-is_empty+in_ok-push, else-not-is_empty}

pub returns-clause-stands : goal.returns-clause-stands
returns-clause-stands c =
    let first : ((c.args.bytes.now ≡ []) × (reverse c.if-not-is_empty.pending.items ≡ [])) ⊎ ((0 < length c.args.bytes.now) × (reverse c.if-not-is_empty.pending.items ≡ record { prefix = 0; edge = []; offset = 0 } ∷ [])) =
    elim c.if-not-is_empty.branch [
      | then-not-is_empty+in_ok-push w ↦ inr (search rules, rw (w.pending-is, w.in_ok-push.ensures.items, c.new-pending.ensures.items) refl)
      | else-not-is_empty w ↦ inl (nil_from_length c.args.bytes.now (search rules), rw (w.pending-is, c.new-pending.ensures.items) refl)
    ] in
    let marks : c.in_ok-vec.field-0.items ≡ replicate (length c.args.bytes.now) false = c.in_ok-vec.ensures.items_if_clones_equal (λ y is. is) in
    rw (marks, c.new.ensures.items, c.new-2.ensures.items) (stands_start c.args.bytes.now (reverse c.if-not-is_empty.pending.items) first)
