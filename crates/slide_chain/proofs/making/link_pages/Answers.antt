-- Each turn takes the words of one page.
use Rattle.std.proofs.Common.{◌≡◌, ◌+◌, ◌-◌, ◌*◌, ◌≤◌, ◌∙◌, ◌++◌, ◌∷◌, [], suc, List, take, drop, length, length-drop, rules, vec_len, ℕ, ap, subst, sym, arith}
use Rattle.std.proofs.lemmas.List.{drop-drop, take_rest}
use Rattle.slide_chain.specs.Making.{page_firsts, firsts, front, rest, extras_for, extras_of, start_for, AreWords}
use Rattle.slide_chain.proofs.ListLaws.{words-drop, words-take}
use Rattle.slide_chain.proofs.MakeLaws.{PagesGo, pages-more, pages-none, pages-end-extras, pages-end-starts}
use Rattle.slide_chain.proofs.making.link_pages.Goals as goal

pub loop-page-preserved : goal.loop-page-preserved
loop-page-preserved c =
    let ws : List ℕ = drop c.loop-page.passed c.args.words.now in
    let whole : take (length c.args.words.now - c.loop-page.passed) (drop c.loop-page.passed c.args.words.now) ≡ drop c.loop-page.passed c.args.words.now = take_rest c.args.words.now c.loop-page.passed in
    let own : take c.words_below.result (drop c.loop-page.passed c.args.words.now) ≡ front ((c.loop-page.page + 1) * 4096) (drop c.loop-page.passed c.args.words.now) =
    subst (λ (l : List ℕ). take c.words_below.result l ≡ front ((c.loop-page.page + 1) * 4096) l) whole c.words_below.ensures.front in
    let others : drop c.words_below.result (drop c.loop-page.passed c.args.words.now) ≡ rest ((c.loop-page.page + 1) * 4096) (drop c.loop-page.passed c.args.words.now) =
    subst (λ (l : List ℕ). drop c.words_below.result l ≡ rest ((c.loop-page.page + 1) * 4096) l) whole c.words_below.ensures.rest in
    let count : c.loop-page.passed + c.words_below.result - c.loop-page.passed ≡ c.words_below.result = omega arith in
    let found : c.find_firsts.new.found.items ≡ firsts c.args.limit (take c.words_below.result (drop c.loop-page.passed c.args.words.now)) =
    c.in_ok-find_firsts.ensures {u = tt} ∙ ap (λ (k : ℕ). firsts c.args.limit (take k (drop c.loop-page.passed c.args.words.now))) count in
    let sized : vec_len c.loop-page.extras ≡ length c.loop-page.extras.items = search rules in
    let start : length c.loop-page.extras.items + length (extras_for c.find_firsts.new.found.items) ≤ 0x4000 → c.start_of.result ≡ start_for (length c.loop-page.extras.items) c.find_firsts.new.found.items =
    subst (λ (l : List ℕ). length c.loop-page.extras.items + length (extras_for l) ≤ 0x4000 → c.start_of.result ≡ start_for (length c.loop-page.extras.items) l) c.deref.ensures.value
    (subst (λ (k : ℕ). k + length (extras_for c.deref.result.now) ≤ 0x4000 → c.start_of.result ≡ start_for k c.deref.result.now) (c.len.ensures ∙ sized) c.start_of.ensures) in
    let pushed : c.push.new.self.items ≡ c.loop-page.starts.items ++ (c.start_of.result ∷ []) = c.in_ok-push.ensures.items in
    let extras : c.push_extras.new.extras.items ≡ c.loop-page.extras.items ++ extras_for c.find_firsts.new.found.items =
    c.in_ok-push_extras.ensures {u = tt} ∙ ap (λ (l : List ℕ). c.loop-page.extras.items ++ extras_for l) c.deref-in-loop-page.ensures.value in
    let pages : c.args.pages - c.loop-page.page ≡ suc (c.args.pages - (c.loop-page.page + 1)) = omega arith in
    let next : (c.loop-page.page + 1) * 4096 ≡ c.loop-page.page * 4096 + 4096 = omega arith in
    record {
      inside = omega (arith, c.words_below.ensures.inside, ap (λ (l : List ℕ). length l) whole, length-drop c.loop-page.passed c.args.words.now, c.loop-page.invariant.inside);
      go = subst (λ (l : List ℕ). PagesGo c.args.limit (page_firsts c.args.limit 0 c.args.pages c.args.words.now) c.push.new.self.items c.push_extras.new.extras.items
          ((c.loop-page.page + 1) * 4096) (c.args.pages - (c.loop-page.page + 1)) l) (drop-drop c.words_below.result c.loop-page.passed c.args.words.now)
          (pages-more c.args.limit (page_firsts c.args.limit 0 c.args.pages c.args.words.now) c.loop-page.starts.items c.loop-page.extras.items c.push.new.self.items c.push_extras.new.extras.items
          (take c.words_below.result ws) (drop c.words_below.result ws) c.start_of.result (c.loop-page.page * 4096) (c.args.pages - c.loop-page.page) (c.args.pages - (c.loop-page.page + 1))
          ((c.loop-page.page + 1) * 4096) ws pages next own others pushed
          (subst (λ (l : List ℕ). length c.loop-page.extras.items + length (extras_for l) ≤ 0x4000 → c.start_of.result ≡ start_for (length c.loop-page.extras.items) l) found start)
          (extras ∙ ap (λ (l : List ℕ). c.loop-page.extras.items ++ extras_for l) found) c.loop-page.invariant.go);
    }

pub loop-page-init : goal.loop-page-init
loop-page-init c = record {
  inside = omega arith;
  go = pages-none c.args.limit c.args.pages (c.args.pages - 0) c.in_ok-starts.starts.items c.new-extras.result.items c.args.words.now c.in_ok-starts.ensures.items c.new-extras.ensures.items (omega arith);
}

pub words_below-requires : goal.words_below-requires
words_below-requires c = record {
  rises = subst (AreWords 0) (sym (take_rest c.args.words.now c.loop-page.passed)) (words-drop c.loop-page.passed c.args.words.now c.requires.words);
}

pub find_firsts-requires : goal.find_firsts-requires
find_firsts-requires c =
    let whole : take (length c.args.words.now - c.loop-page.passed) (drop c.loop-page.passed c.args.words.now) ≡ drop c.loop-page.passed c.args.words.now = take_rest c.args.words.now c.loop-page.passed in
    words-take (c.loop-page.passed + c.words_below.result - c.loop-page.passed) 0 (drop c.loop-page.passed c.args.words.now) (words-drop c.loop-page.passed c.args.words.now c.requires.words)

pub returns-clause-extras : goal.returns-clause-extras
returns-clause-extras c =
    pages-end-extras c.args.limit (page_firsts c.args.limit 0 c.args.pages c.args.words.now) c.loop-page.starts.items c.loop-page.extras.items (c.loop-page.page * 4096) (c.args.pages - c.loop-page.page)
    (drop c.loop-page.passed c.args.words.now) (omega arith) c.loop-page.invariant.go

pub returns-clause-starts : goal.returns-clause-starts
returns-clause-starts c = λ few.
    let is : c.loop-page.extras.items ≡ extras_of (page_firsts c.args.limit 0 c.args.pages c.args.words.now) = returns-clause-extras c in
    pages-end-starts c.args.limit (page_firsts c.args.limit 0 c.args.pages c.args.words.now) c.loop-page.starts.items c.loop-page.extras.items (c.loop-page.page * 4096) (c.args.pages - c.loop-page.page)
    (drop c.loop-page.passed c.args.words.now) (omega arith) c.loop-page.invariant.go (subst (λ (l : List ℕ). length l ≤ 0x4000) is few)
