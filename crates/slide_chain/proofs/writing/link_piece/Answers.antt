-- The words of the piece are those from its place on, and below its end.
use Rattle.std.proofs.Common.{◌≡◌, ◌+◌, ◌-◌, ◌∙◌, List, ℕ, length, take, drop, sym, ap, subst, arith}
use Rattle.std.proofs.lemmas.List.{take_rest}
use Rattle.slide_chain.specs.Making.{front, rest, AreWords, AllBelow}
use Rattle.slide_chain.proofs.ListLaws.{words-weaken}
use Rattle.slide_chain.proofs.MadeLaws.{front-words, rest-words}
use Rattle.slide_chain.proofs.PieceLaws.{front-under}
use Rattle.slide_chain.proofs.writing.link_piece.Goals as goal

pub words_below-requires-2 : goal.words_below-requires-2
words_below-requires-2 c = record {
  rises = subst (AreWords 0) (sym (take_rest c.args.words.now c.words_below.result ∙ c.words_below.ensures.rest))
      (words-weaken 0 c.args.start (rest c.args.start c.args.words.now) (omega arith) (rest-words c.args.start 0 c.args.words.now c.requires.words));
}

pub link_words-requires-clause-words : goal.link_words-requires-clause-words
link_words-requires-clause-words c =
    let behind : take (length c.args.words.now - c.words_below.result) (drop c.words_below.result c.args.words.now) ≡ rest c.args.start c.args.words.now =
    take_rest c.args.words.now c.words_below.result ∙ c.words_below.ensures.rest in
    subst (AreWords c.args.start) (sym (c.words_below-2.ensures.front ∙ ap (front (c.args.start + length c.args.piece.now)) behind))
    (front-words (c.args.start + length c.args.piece.now) c.args.start (rest c.args.start c.args.words.now) (rest-words c.args.start 0 c.args.words.now c.requires.words))

pub link_words-requires-clause-inside : goal.link_words-requires-clause-inside
link_words-requires-clause-inside c =
    let behind : List ℕ = take (length c.args.words.now - c.words_below.result) (drop c.words_below.result c.args.words.now) in
    subst (AllBelow (c.args.start + length c.args.piece.now)) (sym c.words_below-2.ensures.front) (front-under (c.args.start + length c.args.piece.now) behind)
