use Rattle.std.proofs.Common.{rules, ◌<◌, ℕ, length, nat_lt, get_or, sym, ◌∙◌}
use Rattle.std.proofs.lemmas.List.Sorted.{IsPartitionPoint-from_clause}
use Rattle.prebind.specs.declared.resolved.PlacedWord.{PlacedWord}
use Rattle.prebind.specs.declared.resolved.WordTarget.TheVariants.{Constant}
use Rattle.cache_check.specs.Bytes.{pointer_here}
use Rattle.cache_check.proofs.SearchLaws.{parted, found, other, past}
use Rattle.cache_check.proofs.lookup.pointer_here.Goals as goal

pub returns-in_err-word : goal.returns-in_err-word
unfolding pointer_here
returns-in_err-word c =
    let rises : (i j : ℕ) (d : PlacedWord) → i < j → j < length c.args.pointers.now → (get_or c.args.pointers.now i d).at.address < (get_or c.args.pointers.now j d).at.address = c.requires in
    let point = IsPartitionPoint-from_clause (λ (w : PlacedWord). nat_lt w.at.address c.args.address) c.args.pointers.now c.partition_point-index.result c.partition_point-index.ensures.partitioned
    (parted (λ (w : PlacedWord). w.at.address) c.args.pointers.now rises c.args.address) (λ a r f h. search rules) in
    c.from_residual.ensures ∙ sym (past (λ (w : PlacedWord). w.at.address) c.args.pointers.now rises c.args.address c.partition_point-index.result point (record { at = record { segment = 0; section = 0; address = 0 }; target = Constant 0 }) c.in_err-word.ensures.lookup.3 c.partition_point-index.ensures.bound)

pub returns-then-word-address : goal.returns-then-word-address
unfolding pointer_here
returns-then-word-address c =
    let rises : (i j : ℕ) (d : PlacedWord) → i < j → j < length c.args.pointers.now → (get_or c.args.pointers.now i d).at.address < (get_or c.args.pointers.now j d).at.address = c.requires in
    let point = IsPartitionPoint-from_clause (λ (w : PlacedWord). nat_lt w.at.address c.args.address) c.args.pointers.now c.partition_point-index.result c.partition_point-index.ensures.partitioned
    (parted (λ (w : PlacedWord). w.at.address) c.args.pointers.now rises c.args.address) (λ a r f h. search rules) in
    sym (found (λ (w : PlacedWord). w.at.address) c.args.pointers.now rises c.args.address c.partition_point-index.result point c.in_ok-word.word.now c.in_ok-word.ensures.lookup.3.0 c.in_ok-word.ensures.lookup.1 c.if-word-address.true)

pub returns-else-word-address : goal.returns-else-word-address
unfolding pointer_here
returns-else-word-address c =
    let rises : (i j : ℕ) (d : PlacedWord) → i < j → j < length c.args.pointers.now → (get_or c.args.pointers.now i d).at.address < (get_or c.args.pointers.now j d).at.address = c.requires in
    let point = IsPartitionPoint-from_clause (λ (w : PlacedWord). nat_lt w.at.address c.args.address) c.args.pointers.now c.partition_point-index.result c.partition_point-index.ensures.partitioned
    (parted (λ (w : PlacedWord). w.at.address) c.args.pointers.now rises c.args.address) (λ a r f h. search rules) in
    sym (other (λ (w : PlacedWord). w.at.address) c.args.pointers.now rises c.args.address c.partition_point-index.result point c.in_ok-word.word.now c.in_ok-word.ensures.lookup.3.0 c.in_ok-word.ensures.lookup.1 c.if-word-address.false)
