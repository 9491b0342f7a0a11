use Rattle.std.proofs.Common.{rules, ◌<◌, ℕ, length, nat_lt, get_or, sym, ◌∙◌, arith}
use Rattle.std.proofs.lemmas.List.Sorted.{IsPartitionPoint-from_clause}
use Rattle.macho_image.specs.Places.{above}
use Rattle.slide_chain.specs.declared.words.ChainWord.{ChainWord}
use Rattle.cache_check.specs.Bytes.{chain_at}
use Rattle.cache_check.proofs.SearchLaws.{parted, found, other, past}
use Rattle.cache_check.proofs.lookup.chain_at.Goals as goal

pub returns-in_err-word : goal.returns-in_err-word
unfolding chain_at above
returns-in_err-word c =
    let rises : (i j : ℕ) (d : ChainWord) → i < j → j < length c.args.chains.now.words.now → (get_or c.args.chains.now.words.now i d).offset < (get_or c.args.chains.now.words.now j d).offset = λ i j d lt inside. omega (arith, c.args.chains.now.rises i j d lt inside) in
    let point = IsPartitionPoint-from_clause (λ (w : ChainWord). nat_lt w.offset (above c.args.chains.now.start c.args.address)) c.args.chains.now.words.now c.partition_point-index.result c.partition_point-index.ensures.partitioned
    (parted (λ (w : ChainWord). w.offset) c.args.chains.now.words.now rises (above c.args.chains.now.start c.args.address)) (λ a r f h. search rules) in
    c.from_residual.ensures ∙ sym (past (λ (w : ChainWord). w.offset) c.args.chains.now.words.now rises (above c.args.chains.now.start c.args.address) c.partition_point-index.result point (record { offset = 0; value = 0 }) c.in_err-word.ensures.lookup.3 c.partition_point-index.ensures.bound)

pub returns-then-word-offset : goal.returns-then-word-offset
unfolding chain_at above
returns-then-word-offset c =
    let rises : (i j : ℕ) (d : ChainWord) → i < j → j < length c.args.chains.now.words.now → (get_or c.args.chains.now.words.now i d).offset < (get_or c.args.chains.now.words.now j d).offset = λ i j d lt inside. omega (arith, c.args.chains.now.rises i j d lt inside) in
    let point = IsPartitionPoint-from_clause (λ (w : ChainWord). nat_lt w.offset (above c.args.chains.now.start c.args.address)) c.args.chains.now.words.now c.partition_point-index.result c.partition_point-index.ensures.partitioned
    (parted (λ (w : ChainWord). w.offset) c.args.chains.now.words.now rises (above c.args.chains.now.start c.args.address)) (λ a r f h. search rules) in
    sym (found (λ (w : ChainWord). w.offset) c.args.chains.now.words.now rises (above c.args.chains.now.start c.args.address) c.partition_point-index.result point c.in_ok-word.word.now c.in_ok-word.ensures.lookup.3.0 c.in_ok-word.ensures.lookup.1 c.if-word-offset.true)

pub returns-else-word-offset : goal.returns-else-word-offset
unfolding chain_at above
returns-else-word-offset c =
    let rises : (i j : ℕ) (d : ChainWord) → i < j → j < length c.args.chains.now.words.now → (get_or c.args.chains.now.words.now i d).offset < (get_or c.args.chains.now.words.now j d).offset = λ i j d lt inside. omega (arith, c.args.chains.now.rises i j d lt inside) in
    let point = IsPartitionPoint-from_clause (λ (w : ChainWord). nat_lt w.offset (above c.args.chains.now.start c.args.address)) c.args.chains.now.words.now c.partition_point-index.result c.partition_point-index.ensures.partitioned
    (parted (λ (w : ChainWord). w.offset) c.args.chains.now.words.now rises (above c.args.chains.now.start c.args.address)) (λ a r f h. search rules) in
    sym (other (λ (w : ChainWord). w.offset) c.args.chains.now.words.now rises (above c.args.chains.now.start c.args.address) c.partition_point-index.result point c.in_ok-word.word.now c.in_ok-word.ensures.lookup.3.0 c.in_ok-word.ensures.lookup.1 c.if-word-offset.false)
