-- Words that are slid in place: those behind are as they were until their turn comes.
use Rattle.std.proofs.Common.{◌≡◌, ◌<◌, ◌≤◌, ℕ, zero, suc, ◌+◌, ◌*◌, ◌%◌, List, [], ◌∷◌, ◌++◌, map, length, take, drop, get_or, sym, ap, ap₂, subst, refl, inl, inr, ◌∙◌, arith, true, false}
use Rattle.std.specs.Prelude.{nat_eq, nat_lt, filter, if◌then◌else◌}
use Rattle.std.specs.List.{flat_map}
use Rattle.std.proofs.lemmas.Bool.{eq-eqb, lt-ltb, ltb-false, cond-true, cond-false, cases_eq, cases_lt}
use Rattle.std.proofs.lemmas.List.{append-nil, drop_all}
use Rattle.dsc_base.specs.Numbers.{number_at, put_number}
use Rattle.dsc_base.specs.Edits.{change_all}
use Rattle.slide_chain.specs.Chains.{delta_of, moved, moving, chain, is_marked, extra_heads, heads, page_reached, page_leaving, each_page}
use Rattle.slide_chain.specs.Steps.Apart.{AreApart}
use Rattle.slide_chain.proofs.ListLaws.{drop-at}
use Rattle.slide_chain.proofs.MadeLaws.{chain-ends, chain-goes}
use Rattle.slide_chain.proofs.MarkLaws.{AllOf, AllOf-map, heads-at, one-head, many-heads}
use Rattle.slide_chain.proofs.PageLaws.{AllOf-flat_map, chain-below, reached-below}
use Rattle.slide_chain.proofs.OrderLaws.{each_page-below, each_page-split}
use Rattle.slide_chain.proofs.ApartLaws.{apart-left, filter-empty, cons_not_nil}
use Rattle.slide_chain.proofs.MovingLaws.{Moving, moving-all, moving-more, AllOf-right, moving-still, moving-apart, moving-left, AllOf-left}

-- ---- chains in data that differ elsewhere

pub chain-same : (mask : ℕ) (before now : List ℕ) (last n at : ℕ) → AllOf (λ a. number_at 8 now a ≡ number_at 8 before a) (chain mask before last n at) → chain mask now last n at ≡ chain mask before last n at
unfolding chain
chain-same mask before now last zero at same = refl
chain-same mask before now last (suc n) at same =
    elim (cases_lt last at) [
      | inl past ↦
          cond-true (nat_lt last at) [] (at ∷ (if nat_eq (delta_of mask (number_at 8 now at)) 0 then [] else chain mask now last n (at + delta_of mask (number_at 8 now at)))) (lt-ltb last at past)
          ∙ sym (cond-true (nat_lt last at) [] (at ∷ (if nat_eq (delta_of mask (number_at 8 before at)) 0 then [] else chain mask before last n (at + delta_of mask (number_at 8 before at)))) (lt-ltb last at past))
      | inr inside ↦ elim (cases_eq (delta_of mask (number_at 8 before at)) 0) [
        | inl none ↦
            let there : AllOf (λ a. number_at 8 now a ≡ number_at 8 before a) (at ∷ []) = subst (AllOf (λ a. number_at 8 now a ≡ number_at 8 before a)) (chain-ends mask before last n at inside none) same in
            chain-ends mask now last n at inside (ap (delta_of mask) there.0 ∙ none) ∙ sym (chain-ends mask before last n at inside none)
        | inr some ↦
            let next : ℕ = at + delta_of mask (number_at 8 before at) in
            let there : AllOf (λ a. number_at 8 now a ≡ number_at 8 before a) (at ∷ chain mask before last n next) = subst (AllOf (λ a. number_at 8 now a ≡ number_at 8 before a)) (chain-goes mask before last n at next inside some refl) same in
            let delta : delta_of mask (number_at 8 now at) ≡ delta_of mask (number_at 8 before at) = ap (delta_of mask) there.0 in
            chain-goes mask now last n at next inside (λ none. some (sym delta ∙ none)) (ap (λ (d : ℕ). at + d) delta)
            ∙ (ap (λ (l : List ℕ). at ∷ l) (chain-same mask before now last n next there.1) ∙ sym (chain-goes mask before last n at next inside some refl))
      ]
    ]

pub chains-same : (mask : ℕ) (before now : List ℕ) (last n : ℕ) (hs : List ℕ) → AllOf (λ a. number_at 8 now a ≡ number_at 8 before a) (flat_map (chain mask before last n) hs)
    → flat_map (chain mask now last n) hs ≡ flat_map (chain mask before last n) hs
chains-same mask before now last n [] same = refl
chains-same mask before now last n (h ∷ hs) same =
    ap₂ (λ (l r : List ℕ). l ++ r)
    (chain-same mask before now last n h (AllOf-left (λ a. number_at 8 now a ≡ number_at 8 before a) (chain mask before last n h) (flat_map (chain mask before last n) hs) same))
    (chains-same mask before now last n hs (AllOf-right (λ a. number_at 8 now a ≡ number_at 8 before a) (chain mask before last n h) (flat_map (chain mask before last n) hs) same))

-- ---- one chain

-- what is known while a chain is followed
pub record Following (mask value_add page : ℕ) (before now : List ℕ) (head at n : ℕ) : Type 0 where
  pub inside : at ≤ page + 0xFF8
  pub state : Moving mask value_add before now (chain mask before (page + 0xFF8) n at) (chain mask before (page + 0xFF8) 1024 head)

-- what callers owe for one chain
pub record ChainFits (mask page : ℕ) (before : List ℕ) (head : ℕ) : Type 0 where
  pub room : page + 4096 ≤ length before
  pub stays : filter (λ a. nat_lt (page + 0xFF8) (a + delta_of mask (number_at 8 before a))) (chain mask before (page + 0xFF8) 1024 head) ≡ []
  pub apart : AreApart (chain mask before (page + 0xFF8) 1024 head)

chain-room : (mask page : ℕ) (before : List ℕ) (head : ℕ) → page + 4096 ≤ length before → AllOf (λ p. p + 8 ≤ length before) (chain mask before (page + 0xFF8) 1024 head)
chain-room mask page before head room =
    AllOf-map (λ x. x ≤ page + 0xFF8) (λ p. p + 8 ≤ length before) (chain mask before (page + 0xFF8) 1024 head) (λ x le. omega (arith, le, room)) (chain-below mask before (page + 0xFF8) 1024 head)

chain-first : (P : ℕ → Type 0) (mask : ℕ) (before : List ℕ) (last n at : ℕ) → at ≤ last → AllOf P (chain mask before last (suc n) at) → P at
chain-first P mask before last n at inside all =
    elim (cases_eq (delta_of mask (number_at 8 before at)) 0) [
      | inl none ↦ let first : AllOf P (at ∷ []) = subst (AllOf P) (chain-ends mask before last n at inside none) all in first.0
      | inr some ↦
          let first : AllOf P (at ∷ chain mask before last n (at + delta_of mask (number_at 8 before at))) = subst (AllOf P) (chain-goes mask before last n at (at + delta_of mask (number_at 8 before at)) inside some refl) all in
          first.0
    ]

-- the word at hand has the number it had, and its step stays in the page
pub record WordAt (mask page : ℕ) (before now : List ℕ) (at : ℕ) : Type 0 where
  pub same : number_at 8 now at ≡ number_at 8 before at
  pub stays : at + delta_of mask (number_at 8 before at) ≤ page + 0xFF8

pub following-word : (mask value_add page : ℕ) (before now : List ℕ) (head at n m : ℕ) → n ≡ suc m → ChainFits mask page before head → Following mask value_add page before now head at n → WordAt mask page before now at
following-word mask value_add page before now head at n m is fits going =
    let turn : Moving mask value_add before now (chain mask before (page + 0xFF8) (suc m) at) (chain mask before (page + 0xFF8) 1024 head) =
    subst (λ (k : ℕ). Moving mask value_add before now (chain mask before (page + 0xFF8) k at) (chain mask before (page + 0xFF8) 1024 head)) is going.state in
    let out : nat_lt (page + 0xFF8) (at + delta_of mask (number_at 8 before at)) ≡ false =
    chain-first (λ a. nat_lt (page + 0xFF8) (a + delta_of mask (number_at 8 before a)) ≡ false) mask before (page + 0xFF8) m at going.inside
    (moving-left (λ a. nat_lt (page + 0xFF8) (a + delta_of mask (number_at 8 before a)) ≡ false) mask value_add before now (chain mask before (page + 0xFF8) (suc m) at) (chain mask before (page + 0xFF8) 1024 head)
    (filter-empty (λ a. nat_lt (page + 0xFF8) (a + delta_of mask (number_at 8 before a))) (chain mask before (page + 0xFF8) 1024 head) fits.stays) turn) in
    record {
      same = chain-first (λ a. number_at 8 now a ≡ number_at 8 before a) mask before (page + 0xFF8) m at going.inside
          (moving-still mask value_add before now (chain mask before (page + 0xFF8) (suc m) at) (chain mask before (page + 0xFF8) 1024 head) (chain-room mask page before head fits.room) fits.apart turn);
      stays = ltb-false (page + 0xFF8) (at + delta_of mask (number_at 8 before at)) out;
    }

one-moved : (mask value_add at : ℕ) (now : List ℕ) → put_number 8 now at (moved mask value_add 0 (number_at 8 now at)) ≡ change_all (map (moving mask value_add 0) (at ∷ [])) now
unfolding change_all
one-moved mask value_add at now = refl

pub following-ends : (mask value_add page : ℕ) (before now after : List ℕ) (head at n m : ℕ) → n ≡ suc m → ChainFits mask page before head → after ≡ put_number 8 now at (moved mask value_add 0 (number_at 8 now at))
    → delta_of mask (number_at 8 now at) ≡ 0 → Following mask value_add page before now head at n → after ≡ change_all (map (moving mask value_add 0) (chain mask before (page + 0xFF8) 1024 head)) before
following-ends mask value_add page before now after head at n m is_n fits is none going =
    let word : WordAt mask page before now at = following-word mask value_add page before now head at n m is_n fits going in
    let split : chain mask before (page + 0xFF8) n at ≡ (at ∷ []) ++ [] =
    ap (λ (k : ℕ). chain mask before (page + 0xFF8) k at) is_n ∙ chain-ends mask before (page + 0xFF8) m at going.inside (ap (delta_of mask) (sym word.same) ∙ none) in
    moving-all mask value_add before after [] (chain mask before (page + 0xFF8) 1024 head) refl
    (moving-more mask value_add before now after (at ∷ []) [] (chain mask before (page + 0xFF8) n at) (chain mask before (page + 0xFF8) 1024 head) split (is ∙ one-moved mask value_add at now) going.state)

pub following-more : (mask value_add page : ℕ) (before now after : List ℕ) (head at next n m : ℕ) → n ≡ suc m → ChainFits mask page before head → after ≡ put_number 8 now at (moved mask value_add 0 (number_at 8 now at))
    → (delta_of mask (number_at 8 now at) ≡ 0 → ⊥) → next ≡ at + delta_of mask (number_at 8 now at) → Following mask value_add page before now head at n → Following mask value_add page before after head next m
following-more mask value_add page before now after head at next n m is_n fits is some is_next going =
    let word : WordAt mask page before now at = following-word mask value_add page before now head at n m is_n fits going in
    let delta : delta_of mask (number_at 8 now at) ≡ delta_of mask (number_at 8 before at) = ap (delta_of mask) word.same in
    let split : chain mask before (page + 0xFF8) n at ≡ (at ∷ []) ++ chain mask before (page + 0xFF8) m next =
    ap (λ (k : ℕ). chain mask before (page + 0xFF8) k at) is_n ∙ chain-goes mask before (page + 0xFF8) m at next going.inside (λ none. some (delta ∙ none)) (ap (λ (d : ℕ). at + d) (sym delta) ∙ sym is_next) in
    record {
      inside = omega (arith, word.stays, delta, is_next);
      state = moving-more mask value_add before now after (at ∷ []) (chain mask before (page + 0xFF8) m next) (chain mask before (page + 0xFF8) n at) (chain mask before (page + 0xFF8) 1024 head) split (is ∙ one-moved mask value_add at now) going.state;
    }

pub following-over : (mask value_add page : ℕ) (before now : List ℕ) (head at n : ℕ) → n ≡ 0 → Following mask value_add page before now head at n → now ≡ change_all (map (moving mask value_add 0) (chain mask before (page + 0xFF8) 1024 head)) before
unfolding chain
following-over mask value_add page before now head at n none going =
    moving-all mask value_add before now (chain mask before (page + 0xFF8) n at) (chain mask before (page + 0xFF8) 1024 head) (ap (λ (k : ℕ). chain mask before (page + 0xFF8) k at) none) going.state

-- ---- chains among others

-- what callers owe for the words of several chains
pub record WordsFit (mask page : ℕ) (before whole : List ℕ) : Type 0 where
  pub room : AllOf (λ p. p + 8 ≤ length before) whole
  pub stays : AllOf (λ a. nat_lt (page + 0xFF8) (a + delta_of mask (number_at 8 before a)) ≡ false) whole
  pub apart : AreApart whole

-- the words that come next are those that came next at first, and owe nothing more
pub record OwnFits (mask page : ℕ) (now words own : List ℕ) : Type 0 where
  pub same : words ≡ own
  pub stays : filter (λ a. nat_lt (page + 0xFF8) (a + delta_of mask (number_at 8 now a))) words ≡ []
  pub apart : AreApart words

stays-now : (mask page : ℕ) (before now own : List ℕ) → AllOf (λ a. number_at 8 now a ≡ number_at 8 before a) own
    → AllOf (λ a. nat_lt (page + 0xFF8) (a + delta_of mask (number_at 8 before a)) ≡ false) own → filter (λ a. nat_lt (page + 0xFF8) (a + delta_of mask (number_at 8 now a))) own ≡ []
stays-now mask page before now [] same stays = refl
stays-now mask page before now (a ∷ own) same stays =
    let others : List ℕ = filter (λ b. nat_lt (page + 0xFF8) (b + delta_of mask (number_at 8 now b))) own in
    cond-false (nat_lt (page + 0xFF8) (a + delta_of mask (number_at 8 now a))) (a ∷ others) others (ap (λ (n : ℕ). nat_lt (page + 0xFF8) (a + delta_of mask n)) same.0 ∙ stays.0)
    ∙ stays-now mask page before now own same.1 stays.1

pub own-fits : (mask value_add page : ℕ) (before now own rest left whole words : List ℕ) → left ≡ own ++ rest → WordsFit mask page before whole
    → (AllOf (λ a. number_at 8 now a ≡ number_at 8 before a) own → words ≡ own) → Moving mask value_add before now left whole → OwnFits mask page now words own
own-fits mask value_add page before now own rest left whole words split fits is state =
    let still : AllOf (λ a. number_at 8 now a ≡ number_at 8 before a) own =
    AllOf-left (λ a. number_at 8 now a ≡ number_at 8 before a) own rest
    (subst (AllOf (λ a. number_at 8 now a ≡ number_at 8 before a)) split (moving-still mask value_add before now left whole fits.room fits.apart state)) in
    let same : words ≡ own = is still in
    let stays : filter (λ a. nat_lt (page + 0xFF8) (a + delta_of mask (number_at 8 now a))) own ≡ [] =
    stays-now mask page before now own still
    (AllOf-left (λ a. nat_lt (page + 0xFF8) (a + delta_of mask (number_at 8 before a)) ≡ false) own rest
    (subst (AllOf (λ a. nat_lt (page + 0xFF8) (a + delta_of mask (number_at 8 before a)) ≡ false)) split
    (moving-left (λ a. nat_lt (page + 0xFF8) (a + delta_of mask (number_at 8 before a)) ≡ false) mask value_add before now left whole fits.stays state))) in
    let apart : AreApart own = apart-left own rest (subst AreApart split (moving-apart mask value_add before now left whole fits.apart state)) in
    record {
      same = same;
      stays = subst (λ (l : List ℕ). filter (λ a. nat_lt (page + 0xFF8) (a + delta_of mask (number_at 8 now a))) l ≡ []) (sym same) stays;
      apart = subst AreApart (sym same) apart;
    }

-- ---- a run of extras

pub record Running (mask value_add page : ℕ) (before now extras : List ℕ) (i : ℕ) : Type 0 where
  pub heads : AllOf (λ h. nat_lt (page + 0xFF8) h ≡ false) (extra_heads page (drop i extras))
  pub state : Moving mask value_add before now (flat_map (chain mask before (page + 0xFF8) 1024) (extra_heads page (drop i extras))) (flat_map (chain mask before (page + 0xFF8) 1024) (extra_heads page extras))

heads-of : (page : ℕ) (extras : List ℕ) (i : ℕ) → List ℕ
heads-of page extras i = if is_marked (get_or extras i 0) then [] else extra_heads page (drop (i + 1) extras)

run-split : (mask page : ℕ) (before extras : List ℕ) (i : ℕ) → i < length extras
    → flat_map (chain mask before (page + 0xFF8) 1024) (extra_heads page (drop i extras))
    ≡ chain mask before (page + 0xFF8) 1024 (page + get_or extras i 0 % 0x4000 * 4) ++ flat_map (chain mask before (page + 0xFF8) 1024) (heads-of page extras i)
unfolding heads-of
run-split mask page before extras i within = ap (flat_map (chain mask before (page + 0xFF8) 1024)) (heads-at page extras i within)

pub running-fits : (mask value_add page : ℕ) (before now extras : List ℕ) (i : ℕ) → i < length extras → WordsFit mask page before (flat_map (chain mask before (page + 0xFF8) 1024) (extra_heads page extras))
    → Running mask value_add page before now extras i
    → OwnFits mask page now (chain mask now (page + 0xFF8) 1024 (page + get_or extras i 0 % 0x4000 * 4)) (chain mask before (page + 0xFF8) 1024 (page + get_or extras i 0 % 0x4000 * 4))
running-fits mask value_add page before now extras i within fits going =
    own-fits mask value_add page before now (chain mask before (page + 0xFF8) 1024 (page + get_or extras i 0 % 0x4000 * 4)) (flat_map (chain mask before (page + 0xFF8) 1024) (heads-of page extras i))
    (flat_map (chain mask before (page + 0xFF8) 1024) (extra_heads page (drop i extras))) (flat_map (chain mask before (page + 0xFF8) 1024) (extra_heads page extras))
    (chain mask now (page + 0xFF8) 1024 (page + get_or extras i 0 % 0x4000 * 4)) (run-split mask page before extras i within) fits
    (chain-same mask before now (page + 0xFF8) 1024 (page + get_or extras i 0 % 0x4000 * 4)) going.state

running-moved : (mask value_add page : ℕ) (before now after extras : List ℕ) (i : ℕ) → i < length extras → WordsFit mask page before (flat_map (chain mask before (page + 0xFF8) 1024) (extra_heads page extras))
    → after ≡ change_all (map (moving mask value_add 0) (chain mask now (page + 0xFF8) 1024 (page + get_or extras i 0 % 0x4000 * 4))) now → Running mask value_add page before now extras i
    → Moving mask value_add before after (flat_map (chain mask before (page + 0xFF8) 1024) (heads-of page extras i)) (flat_map (chain mask before (page + 0xFF8) 1024) (extra_heads page extras))
running-moved mask value_add page before now after extras i within fits is going =
    let own : OwnFits mask page now (chain mask now (page + 0xFF8) 1024 (page + get_or extras i 0 % 0x4000 * 4)) (chain mask before (page + 0xFF8) 1024 (page + get_or extras i 0 % 0x4000 * 4)) =
    running-fits mask value_add page before now extras i within fits going in
    moving-more mask value_add before now after (chain mask before (page + 0xFF8) 1024 (page + get_or extras i 0 % 0x4000 * 4)) (flat_map (chain mask before (page + 0xFF8) 1024) (heads-of page extras i))
    (flat_map (chain mask before (page + 0xFF8) 1024) (extra_heads page (drop i extras))) (flat_map (chain mask before (page + 0xFF8) 1024) (extra_heads page extras))
    (run-split mask page before extras i within) (is ∙ ap (λ (l : List ℕ). change_all (map (moving mask value_add 0) l) now) own.same) going.state

pub running-more : (mask value_add page : ℕ) (before now after extras : List ℕ) (i : ℕ) → i < length extras → is_marked (get_or extras i 0) ≡ false
    → WordsFit mask page before (flat_map (chain mask before (page + 0xFF8) 1024) (extra_heads page extras))
    → after ≡ change_all (map (moving mask value_add 0) (chain mask now (page + 0xFF8) 1024 (page + get_or extras i 0 % 0x4000 * 4))) now → Running mask value_add page before now extras i
    → Running mask value_add page before after extras (i + 1)
unfolding heads-of
running-more mask value_add page before now after extras i within unmarked fits is going =
    let rest : heads-of page extras i ≡ extra_heads page (drop (i + 1) extras) = cond-false (is_marked (get_or extras i 0)) [] (extra_heads page (drop (i + 1) extras)) unmarked in
    let first : AllOf (λ h. nat_lt (page + 0xFF8) h ≡ false) ((page + get_or extras i 0 % 0x4000 * 4) ∷ heads-of page extras i) = subst (AllOf (λ h. nat_lt (page + 0xFF8) h ≡ false)) (heads-at page extras i within) going.heads in
    record {
      heads = subst (AllOf (λ h. nat_lt (page + 0xFF8) h ≡ false)) rest first.1;
      state = subst (λ (l : List ℕ). Moving mask value_add before after (flat_map (chain mask before (page + 0xFF8) 1024) l) (flat_map (chain mask before (page + 0xFF8) 1024) (extra_heads page extras))) rest
          (running-moved mask value_add page before now after extras i within fits is going);
    }

pub running-ends : (mask value_add page : ℕ) (before now after extras : List ℕ) (i : ℕ) → i < length extras → is_marked (get_or extras i 0) ≡ true
    → WordsFit mask page before (flat_map (chain mask before (page + 0xFF8) 1024) (extra_heads page extras))
    → after ≡ change_all (map (moving mask value_add 0) (chain mask now (page + 0xFF8) 1024 (page + get_or extras i 0 % 0x4000 * 4))) now → Running mask value_add page before now extras i
    → after ≡ change_all (map (moving mask value_add 0) (flat_map (chain mask before (page + 0xFF8) 1024) (extra_heads page extras))) before
unfolding heads-of
running-ends mask value_add page before now after extras i within marked fits is going =
    let rest : heads-of page extras i ≡ [] = cond-true (is_marked (get_or extras i 0)) [] (extra_heads page (drop (i + 1) extras)) marked in
    moving-all mask value_add before after (flat_map (chain mask before (page + 0xFF8) 1024) (heads-of page extras i)) (flat_map (chain mask before (page + 0xFF8) 1024) (extra_heads page extras))
    (ap (flat_map (chain mask before (page + 0xFF8) 1024)) rest) (running-moved mask value_add page before now after extras i within fits is going)

pub running-over : (mask value_add page : ℕ) (before now extras : List ℕ) (i : ℕ) → length extras ≤ i → Running mask value_add page before now extras i
    → now ≡ change_all (map (moving mask value_add 0) (flat_map (chain mask before (page + 0xFF8) 1024) (extra_heads page extras))) before
unfolding extra_heads
running-over mask value_add page before now extras i past going =
    moving-all mask value_add before now (flat_map (chain mask before (page + 0xFF8) 1024) (extra_heads page (drop i extras))) (flat_map (chain mask before (page + 0xFF8) 1024) (extra_heads page extras))
    (ap (λ (l : List ℕ). flat_map (chain mask before (page + 0xFF8) 1024) (extra_heads page l)) (drop_all i extras past)) going.state

pub running-head : (mask value_add page : ℕ) (before now extras : List ℕ) (i : ℕ) → i < length extras → Running mask value_add page before now extras i → page + get_or extras i 0 % 0x4000 * 4 ≤ page + 0xFF8
unfolding heads-of
running-head mask value_add page before now extras i within going =
    let first : AllOf (λ h. nat_lt (page + 0xFF8) h ≡ false) ((page + get_or extras i 0 % 0x4000 * 4) ∷ heads-of page extras i) = subst (AllOf (λ h. nat_lt (page + 0xFF8) h ≡ false)) (heads-at page extras i within) going.heads in
    ltb-false (page + 0xFF8) (page + get_or extras i 0 % 0x4000 * 4) first.0

each-chain : (P : ℕ → Type 0) (xs : List ℕ) → ((x : ℕ) → P x) → AllOf P xs
each-chain P [] holds = tt
each-chain P (x ∷ xs) holds = (holds x, each-chain P xs holds)

pub words-fit : (mask page : ℕ) (before hs : List ℕ) → page + 4096 ≤ length before → filter (λ a. nat_lt (page + 0xFF8) (a + delta_of mask (number_at 8 before a))) (flat_map (chain mask before (page + 0xFF8) 1024) hs) ≡ []
    → AreApart (flat_map (chain mask before (page + 0xFF8) 1024) hs) → WordsFit mask page before (flat_map (chain mask before (page + 0xFF8) 1024) hs)
words-fit mask page before hs room stays apart = record {
  room = AllOf-flat_map (λ p. p + 8 ≤ length before) (chain mask before (page + 0xFF8) 1024) hs (each-chain (λ h. AllOf (λ p. p + 8 ≤ length before) (chain mask before (page + 0xFF8) 1024 h)) hs (λ h. chain-room mask page before h room));
  stays = filter-empty (λ a. nat_lt (page + 0xFF8) (a + delta_of mask (number_at 8 before a))) (flat_map (chain mask before (page + 0xFF8) 1024) hs) stays;
  apart = apart;
}

-- ---- one page

append-none : (xs ys : List ℕ) → xs ++ ys ≡ [] → (xs ≡ []) × (ys ≡ [])
append-none [] ys none = (refl, none)
append-none (x ∷ xs) ys none = absurd (cons_not_nil x (xs ++ ys) none)

map-none : (page : ℕ) (xs : List ℕ) → map (λ h. page) xs ≡ [] → xs ≡ []
map-none page [] none = refl
map-none page (x ∷ xs) none = absurd (cons_not_nil page (map (λ h. page) xs) none)

-- a page that no chain leaves
pub record PageStays (mask : ℕ) (extras area : List ℕ) (page start : ℕ) : Type 0 where
  pub heads : filter (nat_lt (page + 0xFF8)) (heads extras page start) ≡ []
  pub words : filter (λ a. nat_lt (page + 0xFF8) (a + delta_of mask (number_at 8 area a))) (page_reached mask extras area page start) ≡ []

pub page-stays : (mask : ℕ) (extras area : List ℕ) (page start : ℕ) → page_leaving mask extras area page start ≡ [] → PageStays mask extras area page start
unfolding page_leaving
page-stays mask extras area page start none =
    let parts : (map (λ h. page) (filter (nat_lt (page + 0xFF8)) (heads extras page start)) ≡ []) × (filter (λ a. nat_lt (page + 0xFF8) (a + delta_of mask (number_at 8 area a))) (page_reached mask extras area page start) ≡ []) =
    append-none (map (λ h. page) (filter (nat_lt (page + 0xFF8)) (heads extras page start))) (filter (λ a. nat_lt (page + 0xFF8) (a + delta_of mask (number_at 8 area a))) (page_reached mask extras area page start)) none in
    record { heads = map-none page (filter (nat_lt (page + 0xFF8)) (heads extras page start)) parts.0; words = parts.1 }

pub none-reached : (mask : ℕ) (extras area : List ℕ) (page start : ℕ) → start ≡ 0x4000 → page_reached mask extras area page start ≡ []
unfolding page_reached heads
none-reached mask extras area page start is =
    ap (flat_map (chain mask area (page + 0xFF8) 1024)) (cond-true (nat_eq start 0x4000) [] (if is_marked start then extra_heads page (drop (start % 0x4000) extras) else (page + start * 4) ∷ []) (eq-eqb start 0x4000 is))

pub single-reached : (mask : ℕ) (extras area : List ℕ) (page start : ℕ) → (start ≡ 0x4000 → ⊥) → start < 0x8000 → page_reached mask extras area page start ≡ chain mask area (page + 0xFF8) 1024 (page + start * 4)
unfolding page_reached
single-reached mask extras area page start some small =
    ap (flat_map (chain mask area (page + 0xFF8) 1024)) (one-head extras page start some small) ∙ append-nil (chain mask area (page + 0xFF8) 1024 (page + start * 4))

pub single-inside : (mask : ℕ) (extras area : List ℕ) (page start : ℕ) → (start ≡ 0x4000 → ⊥) → start < 0x8000 → PageStays mask extras area page start → page + start * 4 ≤ page + 0xFF8
single-inside mask extras area page start some small stays =
    let all : AllOf (λ h. nat_lt (page + 0xFF8) h ≡ false) ((page + start * 4) ∷ []) =
    subst (AllOf (λ h. nat_lt (page + 0xFF8) h ≡ false)) (one-head extras page start some small) (filter-empty (nat_lt (page + 0xFF8)) (heads extras page start) stays.heads) in
    ltb-false (page + 0xFF8) (page + start * 4) all.0

pub many-reached : (mask : ℕ) (extras area rest : List ℕ) (page start : ℕ) → 0x8000 ≤ start → rest ≡ drop (start % 0x4000) extras → page_reached mask extras area page start ≡ flat_map (chain mask area (page + 0xFF8) 1024) (extra_heads page rest)
unfolding page_reached
many-reached mask extras area rest page start large is = ap (flat_map (chain mask area (page + 0xFF8) 1024)) (many-heads extras rest page start large is)

-- ---- all pages

-- what callers owe for all pages
pub record PagesFit (mask : ℕ) (extras starts before : List ℕ) : Type 0 where
  pub room : AllOf (λ p. p + 8 ≤ length before) (each_page (page_reached mask extras before) 0 starts)
  pub stays : each_page (page_leaving mask extras before) 0 starts ≡ []
  pub apart : AreApart (each_page (page_reached mask extras before) 0 starts)

pub pages-fit : (mask : ℕ) (extras starts before : List ℕ) → length starts * 4096 ≡ length before → each_page (page_leaving mask extras before) 0 starts ≡ []
    → AreApart (each_page (page_reached mask extras before) 0 starts) → PagesFit mask extras starts before
pages-fit mask extras starts before long stays apart = record {
  room = AllOf-map (λ x. x + 8 ≤ 0 + 4096 * length starts) (λ p. p + 8 ≤ length before) (each_page (page_reached mask extras before) 0 starts) (λ x le. omega (arith, le, long))
      (each_page-below (page_reached mask extras before) (λ page start. reached-below mask extras before page start) 0 starts);
  stays = stays;
  apart = apart;
}

pages-split : (f : ℕ → ℕ → List ℕ) (starts : List ℕ) (i : ℕ) → i < length starts → each_page f (i * 4096) (drop i starts) ≡ f (i * 4096) (get_or starts i 0) ++ each_page f ((i + 1) * 4096) (drop (i + 1) starts)
unfolding each_page
pages-split f starts i within =
    let next : i * 4096 + 4096 ≡ (i + 1) * 4096 = omega arith in
    ap (each_page f (i * 4096)) (drop-at starts i within) ∙ ap (λ (p : ℕ). f (i * 4096) (get_or starts i 0) ++ each_page f p (drop (i + 1) starts)) next

-- the page at hand owes nothing more
pub record PageFits (mask : ℕ) (extras before now : List ℕ) (page start : ℕ) : Type 0 where
  pub same : page_reached mask extras now page start ≡ page_reached mask extras before page start
  pub stays : page_leaving mask extras now page start ≡ []
  pub apart : AreApart (page_reached mask extras now page start)

pub page-fits : (mask value_add : ℕ) (extras starts before now : List ℕ) (i : ℕ) → i < length starts → PagesFit mask extras starts before
    → Moving mask value_add before now (each_page (page_reached mask extras before) (i * 4096) (drop i starts)) (each_page (page_reached mask extras before) 0 starts)
    → PageFits mask extras before now (i * 4096) (get_or starts i 0)
unfolding page_leaving page_reached
page-fits mask value_add extras starts before now i within fits state =
    let page : ℕ = i * 4096 in
    let start : ℕ = get_or starts i 0 in
    let own : List ℕ = page_reached mask extras before (i * 4096) (get_or starts i 0) in
    let rest : List ℕ = each_page (page_reached mask extras before) ((i + 1) * 4096) (drop (i + 1) starts) in
    let left : List ℕ = each_page (page_reached mask extras before) (i * 4096) (drop i starts) in
    let split : each_page (page_reached mask extras before) (i * 4096) (drop i starts) ≡ own ++ rest = pages-split (page_reached mask extras before) starts i within in
    let still : AllOf (λ a. number_at 8 now a ≡ number_at 8 before a) (page_reached mask extras before (i * 4096) (get_or starts i 0)) =
    AllOf-left (λ a. number_at 8 now a ≡ number_at 8 before a) own rest
    (subst (AllOf (λ a. number_at 8 now a ≡ number_at 8 before a)) split (moving-still mask value_add before now left (each_page (page_reached mask extras before) 0 starts) fits.room fits.apart state)) in
    let same : page_reached mask extras now (i * 4096) (get_or starts i 0) ≡ page_reached mask extras before (i * 4096) (get_or starts i 0) =
    chains-same mask before now (i * 4096 + 0xFF8) 1024 (heads extras (i * 4096) (get_or starts i 0)) still in
    let passed : List ℕ = each_page (page_leaving mask extras before) 0 (take i starts) in
    let here : page_leaving mask extras before (i * 4096) (get_or starts i 0) ≡ [] =
    (append-none (page_leaving mask extras before (i * 4096) (get_or starts i 0)) (each_page (page_leaving mask extras before) (i * 4096 + 4096) (drop (i + 1) starts))
    (append-none passed (page_leaving mask extras before (i * 4096) (get_or starts i 0) ++ each_page (page_leaving mask extras before) (i * 4096 + 4096) (drop (i + 1) starts))
    (sym (each_page-split (page_leaving mask extras before) starts i within) ∙ fits.stays)).1).0 in
    let parts : PageStays mask extras before (i * 4096) (get_or starts i 0) = page-stays mask extras before (i * 4096) (get_or starts i 0) here in
    let apart : AreApart (page_reached mask extras before (i * 4096) (get_or starts i 0)) =
    apart-left own rest (subst AreApart split (moving-apart mask value_add before now left (each_page (page_reached mask extras before) 0 starts) fits.apart state)) in
    record {
      same = same;
      stays = ap₂ (λ (h w : List ℕ). map (λ (x : ℕ). i * 4096) h ++ w) parts.heads
          (ap (filter (λ a. nat_lt (i * 4096 + 0xFF8) (a + delta_of mask (number_at 8 now a)))) same
          ∙ stays-now mask (i * 4096) before now (page_reached mask extras before (i * 4096) (get_or starts i 0)) still
          (filter-empty (λ a. nat_lt (i * 4096 + 0xFF8) (a + delta_of mask (number_at 8 before a))) (page_reached mask extras before (i * 4096) (get_or starts i 0)) parts.words));
      apart = subst AreApart (sym same) apart;
    }

pub pages-more : (mask value_add : ℕ) (extras starts before now after : List ℕ) (i : ℕ) → i < length starts → PagesFit mask extras starts before
    → after ≡ change_all (map (moving mask value_add 0) (page_reached mask extras now (i * 4096) (get_or starts i 0))) now
    → Moving mask value_add before now (each_page (page_reached mask extras before) (i * 4096) (drop i starts)) (each_page (page_reached mask extras before) 0 starts)
    → Moving mask value_add before after (each_page (page_reached mask extras before) ((i + 1) * 4096) (drop (i + 1) starts)) (each_page (page_reached mask extras before) 0 starts)
pages-more mask value_add extras starts before now after i within fits is state =
    moving-more mask value_add before now after (page_reached mask extras before (i * 4096) (get_or starts i 0)) (each_page (page_reached mask extras before) ((i + 1) * 4096) (drop (i + 1) starts))
    (each_page (page_reached mask extras before) (i * 4096) (drop i starts)) (each_page (page_reached mask extras before) 0 starts) (pages-split (page_reached mask extras before) starts i within)
    (is ∙ ap (λ (l : List ℕ). change_all (map (moving mask value_add 0) l) now) (page-fits mask value_add extras starts before now i within fits state).same) state

pub pages-over : (mask value_add : ℕ) (extras starts before now : List ℕ) (i : ℕ) → length starts ≤ i
    → Moving mask value_add before now (each_page (page_reached mask extras before) (i * 4096) (drop i starts)) (each_page (page_reached mask extras before) 0 starts)
    → now ≡ change_all (map (moving mask value_add 0) (each_page (page_reached mask extras before) 0 starts)) before
unfolding each_page
pages-over mask value_add extras starts before now i past state =
    moving-all mask value_add before now (each_page (page_reached mask extras before) (i * 4096) (drop i starts)) (each_page (page_reached mask extras before) 0 starts)
    (ap (each_page (page_reached mask extras before) (i * 4096)) (drop_all i starts past)) state
