-- clap's walk tells the option's value from the plain words as the definition does.
use Rattle.std.proofs.Common.{◌≡◌, ◌⊎◌, inl, inr, List, [], ◌∷◌, Bool, true, false, not, Option, Some, None, codes, refl, ap, sym, ◌∙◌}
use Rattle.std.specs.Prelude.{if◌then◌else◌, IsUtf8, option_map}
use Rattle.std.specs.Str.{bytes_eq}
use Rattle.clap.specs.declared.error.kind.ErrorKind.TheVariants.{ArgumentConflict}
use Rattle.clap.specs.Kinds.{Kinds, or_else}
use Rattle.clap.specs.Walk.{Row, Text, Waiting, idle, positional, settled, used, walked}
use Rattle.clap.specs.Faults.{turn_fault, use_fault}
use Rattle.dsc_tool.specs.WordParts.{is_option, is_end, is_named, option_name, joined_value, with_plain, with_value, option_value, parts}
use Rattle.dsc_tool.proofs.Clap.WordForms.{named, IsLong, LongForm, ShortForm, option_form, plain_long, plain_short, plain_end}
use Rattle.dsc_tool.proofs.Clap.Held.{Seen, nothing, rules, value_filled, seen_value, has_value, repeat_end, value_fault, use_value}
use Rattle.dsc_tool.proofs.Clap.Walked.{Pending, none, awaited, value, plain, Suits, Fails, held, state, counts, counted, shape, settles, unsettled, counted_rows}
use Rattle.dsc_tool.proofs.Clap.Turns.{Wait, waits, at_rest, for_value, rests, IsPlain, plain_turn, plain_walked, end_turn, end_walked, trailing_turn, trailing_walked, value_turn, value_walked}
use Rattle.dsc_tool.proofs.Clap.OptionTurns.{fails_first, fails_as, fails_one, unknown_turn, short_turn, known_joined, known_apart, joined_walked, apart_walked}
use Rattle.dsc_tool.proofs.Clap.Fronts.{parts_of, in_front, front_plain, front_value, front_twice, front_none, front_end}
use Rattle.dsc_tool.proofs.Clap.WalkEnds.{faults_end, Comes, comes_as, same_faults, stepped, halted, ends, ends_unsettled}

-- ---- the definition at one word

parts_end : (long : Option Text) (word : Text) (rest : List Text) → is_end word ≡ true → parts long false (word ∷ rest) ≡ Some record { value = None; plain = rest }
unfolding parts
parts_end long word rest is =
    ap (λ (b : Bool). if b then Some record { value = None; plain = rest } else (if not (is_option word) then option_map (with_plain word) (parts long false rest)
    else (if is_named long (option_name word) then option_value (joined_value word) (parts long false rest) (parts long true rest) else None))) is

-- a word that isn't the end of the options
parts_before : (long : Option Text) (word : Text) (rest : List Text) (option named_so : Bool) → is_end word ≡ false → is_option word ≡ option → is_named long (option_name word) ≡ named_so
    → parts long false (word ∷ rest)
    ≡ (if not option then option_map (with_plain word) (parts long false rest)
    else (if named_so then option_value (joined_value word) (parts long false rest) (parts long true rest) else None))
unfolding parts
parts_before long word rest option named_so no_end is same =
    ap (λ (b : Bool). if b then Some record { value = None; plain = rest } else (if not (is_option word) then option_map (with_plain word) (parts long false rest)
    else (if is_named long (option_name word) then option_value (joined_value word) (parts long false rest) (parts long true rest) else None))) no_end
    ∙ (ap (λ (b : Bool). if not b then option_map (with_plain word) (parts long false rest)
    else (if is_named long (option_name word) then option_value (joined_value word) (parts long false rest) (parts long true rest) else None)) is
    ∙ ap (λ (b : Bool). if not option then option_map (with_plain word) (parts long false rest)
    else (if b then option_value (joined_value word) (parts long false rest) (parts long true rest) else None)) same)

parts_value : (long : Option Text) (word : Text) (rest : List Text) (option : Bool) → is_option word ≡ option
    → parts long true (word ∷ rest) ≡ (if option then None else with_value word (parts long false rest))
unfolding parts
parts_value long word rest option is = ap (λ (b : Bool). if b then None else with_value word (parts long false rest)) is

parts_missing : (long : Option Text) → parts long true [] ≡ None
unfolding parts
parts_missing long = refl

parts_none : (long : Option Text) → parts long false [] ≡ Some record { value = None; plain = [] }
unfolding parts
parts_none long = refl

-- ---- small facts

suits_plain : (long : Option Text) (w : Text) → Suits long (plain w)
suits_plain None w = tt
suits_plain (Some l) w = tt

suits_none : (long : Option Text) → Suits long none
suits_none None = tt
suits_none (Some l) = tt

is_plain : (word : Text) → is_option word ≡ false → IsPlain word
is_plain word is = record { end = plain_end word is; long = plain_long word is; short = plain_short word is }

-- ---- behind the end of the options

trailing : (long : Option Text) (words : List Text) (waiting : Waiting) (p : Pending) (e : Seen) → Suits long p → counts p e ≡ true
    → Comes long (state true waiting p e) words (in_front (counted p e) (Some record { value = None; plain = words }))
trailing long [] waiting p e suits ok =
    comes_as long (state true waiting p e) [] _ (Some (parts_of (counted p e))) (front_end (counted p e)) (ends long true waiting p e suits ok)
trailing long (word ∷ rest) waiting p e suits ok =
    stepped long (state true waiting p e) (state true positional (plain word) (counted p e)) word rest (in_front (counted p e) (Some record { value = None; plain = word ∷ rest }))
    (trailing_turn long waiting p e word ∙ settles long p e suits ok) (trailing_walked long waiting p e word suits ok)
    (comes_as long (state true positional (plain word) (counted p e)) rest _ _ (sym (front_plain word (counted p e) (Some record { value = None; plain = rest })))
    (trailing long rest positional (plain word) (counted p e) (suits_plain long word) refl))

trailing_fails : (long : Option Text) (words : List Text) (waiting : Waiting) (p : Pending) (e : Seen) → Suits long p → counts p e ≡ false
    → Fails (faults_end long (state true waiting p e) words)
trailing_fails long [] waiting p e suits open_still = ends_unsettled long true waiting p e suits open_still
trailing_fails long (word ∷ rest) waiting p e suits open_still =
    halted long (state true waiting p e) word rest (fails_as _ _ (trailing_turn long waiting p e word) (unsettled long p e suits open_still))

-- ---- options where what is pending can't be counted

known_fails : (l : Text) (w : Wait) (p : Pending) (e : Seen) (word : Text) (form : LongForm (Some l) word) (joined : Option Text) → form.joined ≡ joined → bytes_eq l form.name ≡ true
    → Suits (Some l) p → counts p e ≡ false → Fails (turn_fault (shape (Some l)) [] (state false (waits w) p e) word)
known_fails l w p e word form (Some v) is same suits open_still =
    fails_as _ _ (known_joined l v w p e word form.name (record { end = form.is.end; long = form.is.long ∙ ap (λ (j : Option Text). Some (form.name, j)) is }) same)
    (fails_first _ _ (fails_first _ _ (unsettled (Some l) p e suits open_still)))
known_fails l w p e word form None is same suits open_still =
    fails_as _ _ (known_apart l w p e word form.name (record { end = form.is.end; long = form.is.long ∙ ap (λ (j : Option Text). Some (form.name, j)) is }) same)
    (fails_first _ _ (unsettled (Some l) p e suits open_still))

long_fails : (long : Option Text) (w : Wait) (p : Pending) (e : Seen) (word : Text) (form : LongForm long word) (b : Bool) → named long form.name ≡ b → Suits long p → counts p e ≡ false
    → Fails (turn_fault (shape long) [] (state false (waits w) p e) word)
long_fails long w p e word form false same suits open_still = unknown_turn long w p e word form.name form.joined form.is same
long_fails None w p e word form true same suits open_still = absurd cc
long_fails (Some l) w p e word form true same suits open_still = known_fails l w p e word form form.joined refl same suits open_still

option_fails : (long : Option Text) (w : Wait) (p : Pending) (e : Seen) (word : Text) → LongForm long word ⊎ ShortForm long word → Suits long p → counts p e ≡ false
    → Fails (turn_fault (shape long) [] (state false (waits w) p e) word)
option_fails long w p e word (inl form) suits open_still = long_fails long w p e word form (named long form.name) refl suits open_still
option_fails long w p e word (inr form) suits open_still = short_turn long w p e word form.flags form.first form.is

-- ---- words where what is pending can't be counted

abbrev pub Texts : List Text → Type 0
Texts [] = Unit {0}
Texts (word ∷ rest) = IsUtf8 word × Texts rest

end_fails : (long : Option Text) (w : Wait) (p : Pending) (e : Seen) (word : Text) (rest : List Text) → is_end word ≡ true → Suits long p → counts p e ≡ false
    → Fails (faults_end long (state false (waits w) p e) (word ∷ rest))
end_fails long w p e word rest is suits open_still =
    fails_as _ _ (same_faults long (state false (waits w) p e) (state true (waits w) p e) word rest (end_turn (shape long) w p e word is) (end_walked (shape long) w p e word is))
    (trailing_fails long rest (waits w) p e suits open_still)

-- a word that looks like an option
dashed_fails : (long : Option Text) (w : Wait) (p : Pending) (e : Seen) (word : Text) (rest : List Text) (end : Bool) → IsUtf8 word → is_end word ≡ end → is_option word ≡ true
    → Suits long p → counts p e ≡ false → Fails (faults_end long (state false (waits w) p e) (word ∷ rest))
dashed_fails long w p e word rest true text end is suits open_still = end_fails long w p e word rest end suits open_still
dashed_fails long w p e word rest false text end is suits open_still =
    halted long (state false (waits w) p e) word rest (option_fails long w p e word (option_form long word text end is) suits open_still)

word_fails : (long : Option Text) (b : Bool) (p : Pending) (e : Seen) (word : Text) (rest : List Text) (option : Bool) → IsUtf8 word → is_option word ≡ option
    → Suits long p → counts p e ≡ false → Fails (faults_end long (state false (rests b) p e) (word ∷ rest))
word_fails long b p e word rest true text is suits open_still = dashed_fails long (at_rest b) p e word rest (is_end word) text refl is suits open_still
word_fails long b p e word rest false text is suits open_still =
    halted long (state false (rests b) p e) word rest (fails_as _ _ (plain_turn long b word p e (is_plain word is)) (unsettled long p e suits open_still))

words_fail : (long : Option Text) (words : List Text) (b : Bool) (p : Pending) (e : Seen) → Texts words → Suits long p → counts p e ≡ false
    → Fails (faults_end long (state false (rests b) p e) words)
words_fail long [] b p e texts suits open_still = ends_unsettled long false (rests b) p e suits open_still
words_fail long (word ∷ rest) b p e texts suits open_still = word_fails long b p e word rest (is_option word) texts.0 refl suits open_still

-- ---- words where it can

Ready : Option Text → List Text → Type 0
Ready long words = (b : Bool) (p : Pending) (e : Seen) → Suits long p → counts p e ≡ true → Comes long (state false (rests b) p e) words (in_front (counted p e) (parts long false words))

Awaiting : Option Text → List Text → Type 0
Awaiting None words = Unit {0}
Awaiting (Some l) words = (e : Seen) → Comes (Some l) (state false (waits for_value) awaited e) words (in_front e (parts (Some l) true words))

module _ (long : Option Text) (word : Text) (rest : List Text) (text : IsUtf8 word) (texts : Texts rest) where
  ready_plain : Ready long rest → is_option word ≡ false → Ready long (word ∷ rest)
  unfolding Ready
  ready_plain ready is b p e suits ok =
      stepped long (state false (rests b) p e) (state false positional (plain word) (counted p e)) word rest _
      (plain_turn long b word p e (is_plain word is) ∙ settles long p e suits ok) (plain_walked long b p e word (is_plain word is) suits ok)
      (comes_as long (state false positional (plain word) (counted p e)) rest _ _
      (ap (in_front (counted p e)) (parts_before long word rest false (is_named long (option_name word)) (plain_end word is) is refl) ∙ sym (front_plain word (counted p e) (parts long false rest)))
      (ready true (plain word) (counted p e) (suits_plain long word) refl))

  ready_end : is_end word ≡ true → Ready long (word ∷ rest)
  unfolding Ready
  ready_end is b p e suits ok =
      stepped long (state false (rests b) p e) (state true (rests b) p e) word rest _
      (end_turn (shape long) (at_rest b) p e word is) (end_walked (shape long) (at_rest b) p e word is)
      (comes_as long (state true (rests b) p e) rest _ _ (ap (in_front (counted p e)) (parts_end long word rest is)) (trailing long rest (rests b) p e suits ok))

  -- an option that the command doesn't have
  ready_other : is_end word ≡ false → is_option word ≡ true → is_named long (option_name word) ≡ false
      → ((w : Wait) (p : Pending) (e : Seen) → Fails (turn_fault (shape long) [] (state false (waits w) p e) word)) → Ready long (word ∷ rest)
  unfolding Ready
  ready_other no_end is other fails b p e suits ok =
      comes_as long (state false (rests b) p e) (word ∷ rest) _ None
      (ap (in_front (counted p e)) (parts_before long word rest true false no_end is other) ∙ front_none (counted p e))
      (halted long (state false (rests b) p e) word rest (fails (at_rest b) p e))

-- ---- the command's option

-- the word is the option's, with this value joined to it or none
pub record IsOption (l word : Text) (joined : Option Text) : Type 0 where
  pub end : is_end word ≡ false
  pub option : is_option word ≡ true
  pub name : is_named (Some l) (option_name word) ≡ true
  pub value : joined_value word ≡ joined
  pub seen_name : Text
  pub long : IsLong word seen_name joined
  pub same : bytes_eq l seen_name ≡ true

option_parts : (l word : Text) (rest : List Text) (joined : Option Text) → IsOption l word joined
    → parts (Some l) false (word ∷ rest) ≡ option_value joined (parts (Some l) false rest) (parts (Some l) true rest)
option_parts l word rest joined is =
    parts_before (Some l) word rest true true is.end is.option is.name ∙ ap (λ (j : Option Text). option_value j (parts (Some l) false rest) (parts (Some l) true rest)) is.value

joined_turn : (l v : Text) (b : Bool) (p : Pending) (e : Seen) (word : Text) → IsOption l word (Some v) → Suits (Some l) p → counts p e ≡ true
    → turn_fault (shape (Some l)) [] (state false (rests b) p e) word ≡ or_else (repeat_end (has_value (counted p e))) []
joined_turn l v b p e word is suits ok =
    known_joined l v (at_rest b) p e word is.seen_name is.long is.same
    ∙ (ap (λ (k : Kinds). or_else (or_else k (use_fault false (value_filled l) (v ∷ []) (settled (rules (Some l)) (held p e)).rows)) []) (settles (Some l) p e suits ok)
    ∙ (ap (λ (rows : List Row). or_else (use_fault false (value_filled l) (v ∷ []) rows) []) (counted_rows (Some l) p e suits ok)
    ∙ ap (λ (k : Kinds). or_else k []) (value_fault l v (counted p e))))

joined_to : (l v : Text) (b : Bool) (p : Pending) (e : Seen) (word : Text) → IsOption l word (Some v) → Suits (Some l) p → counts p e ≡ true → has_value (counted p e) ≡ false
    → walked (rules (Some l)) [] (state false (rests b) p e) word ≡ state false idle none (seen_value v (counted p e))
joined_to l v b p e word is suits ok fresh =
    joined_walked l v (at_rest b) p e word is.seen_name is.long is.same
    ∙ ap (λ (rows : List Row). record { held = record { rows = rows; pending = None; skip = 0 }; waiting = idle; position = 1; is_trailing = false; stopped = None })
    (ap (λ (rows : List Row). used (value_filled l) (v ∷ []) rows) (counted_rows (Some l) p e suits ok) ∙ use_value l v (counted p e) fresh)

joined_by : (l word v : Text) (rest : List Text) → Ready (Some l) rest → IsOption l word (Some v) → (b seen : Bool) (p : Pending) (e : Seen) → Suits (Some l) p → counts p e ≡ true
    → has_value (counted p e) ≡ seen → Comes (Some l) (state false (rests b) p e) (word ∷ rest) (in_front (counted p e) (parts (Some l) false (word ∷ rest)))
unfolding Ready
joined_by l word v rest ready is b true p e suits ok seen =
    comes_as (Some l) (state false (rests b) p e) (word ∷ rest) _ None
    (ap (in_front (counted p e)) (option_parts l word rest (Some v) is) ∙ front_twice v (counted p e) (parts (Some l) false rest) seen)
    (halted (Some l) (state false (rests b) p e) word rest
    (fails_as _ _ (joined_turn l v b p e word is suits ok) (fails_first _ _ (fails_as _ _ (ap repeat_end seen) (fails_one ArgumentConflict [])))))
joined_by l word v rest ready is b false p e suits ok seen =
    stepped (Some l) (state false (rests b) p e) (state false idle none (seen_value v (counted p e))) word rest _
    (joined_turn l v b p e word is suits ok ∙ ap (λ (s : Bool). or_else (repeat_end s) []) seen) (joined_to l v b p e word is suits ok seen)
    (comes_as (Some l) (state false idle none (seen_value v (counted p e))) rest _ _
    (ap (in_front (counted p e)) (option_parts l word rest (Some v) is) ∙ sym (front_value v (counted p e) (parts (Some l) false rest) seen))
    (ready false none (seen_value v (counted p e)) tt refl))

apart_by : (l word : Text) (rest : List Text) → Awaiting (Some l) rest → IsOption l word None → (b : Bool) (p : Pending) (e : Seen) → Suits (Some l) p → counts p e ≡ true
    → Comes (Some l) (state false (rests b) p e) (word ∷ rest) (in_front (counted p e) (parts (Some l) false (word ∷ rest)))
unfolding Awaiting
apart_by l word rest awaiting is b p e suits ok =
    stepped (Some l) (state false (rests b) p e) (state false (waits for_value) awaited (counted p e)) word rest _
    (known_apart l (at_rest b) p e word is.seen_name is.long is.same ∙ ap (λ (k : Kinds). or_else k []) (settles (Some l) p e suits ok))
    (apart_walked l (at_rest b) p e word is.seen_name is.long is.same
    ∙ ap (λ (rows : List Row). record { held = record { rows = rows; pending = Some (codes "value", []); skip = 0 }; waiting = waits for_value; position = 1; is_trailing = false; stopped = None })
    (counted_rows (Some l) p e suits ok))
    (comes_as (Some l) (state false (waits for_value) awaited (counted p e)) rest _ _ (ap (in_front (counted p e)) (option_parts l word rest None is)) (awaiting (counted p e)))

known_by : (l word : Text) (rest : List Text) (joined : Option Text) → Ready (Some l) rest → Awaiting (Some l) rest → IsOption l word joined → Ready (Some l) (word ∷ rest)
unfolding Ready
known_by l word rest (Some v) ready awaiting is b p e suits ok = joined_by l word v rest ready is b (has_value (counted p e)) p e suits ok refl
known_by l word rest None ready awaiting is b p e suits ok = apart_by l word rest awaiting is b p e suits ok

-- ---- one word more

named_by : (long : Option Text) (word : Text) (rest : List Text) (b : Bool) → IsUtf8 word → Texts rest → Ready long rest → Awaiting long rest → is_end word ≡ false → is_option word ≡ true
    → (form : LongForm long word) → named long form.name ≡ b → Ready long (word ∷ rest)
named_by long word rest false text texts ready awaiting no_end is form same =
    ready_other long word rest text texts no_end is (form.same_name ∙ same) (λ w p e. unknown_turn long w p e word form.name form.joined form.is same)
named_by None word rest true text texts ready awaiting no_end is form same = absurd cc
named_by (Some l) word rest true text texts ready awaiting no_end is form same =
    known_by l word rest form.joined ready awaiting
    (record { end = no_end; option = is; name = form.same_name ∙ same; value = form.same_value; seen_name = form.name; long = form.is; same = same })

formed_by : (long : Option Text) (word : Text) (rest : List Text) → IsUtf8 word → Texts rest → Ready long rest → Awaiting long rest → is_end word ≡ false → is_option word ≡ true
    → LongForm long word ⊎ ShortForm long word → Ready long (word ∷ rest)
formed_by long word rest text texts ready awaiting no_end is (inl form) = named_by long word rest (named long form.name) text texts ready awaiting no_end is form refl
formed_by long word rest text texts ready awaiting no_end is (inr form) =
    ready_other long word rest text texts no_end is form.other_name (λ w p e. short_turn long w p e word form.flags form.first form.is)

dashed_by : (long : Option Text) (word : Text) (rest : List Text) (end : Bool) → IsUtf8 word → Texts rest → Ready long rest → Awaiting long rest → is_end word ≡ end → is_option word ≡ true
    → Ready long (word ∷ rest)
dashed_by long word rest true text texts ready awaiting end is = ready_end long word rest text texts end
dashed_by long word rest false text texts ready awaiting end is = formed_by long word rest text texts ready awaiting end is (option_form long word text end is)

ready_more : (long : Option Text) (word : Text) (rest : List Text) (option : Bool) → IsUtf8 word → Texts rest → Ready long rest → Awaiting long rest → is_option word ≡ option → Ready long (word ∷ rest)
ready_more long word rest true text texts ready awaiting is = dashed_by long word rest (is_end word) text texts ready awaiting refl is
ready_more long word rest false text texts ready awaiting is = ready_plain long word rest text texts ready is

value_by : (l word : Text) (rest : List Text) (e : Seen) (seen : Bool) → Texts rest → Ready (Some l) rest → is_option word ≡ false → has_value e ≡ seen
    → Comes (Some l) (state false (waits for_value) awaited e) (word ∷ rest) (in_front e (parts (Some l) true (word ∷ rest)))
unfolding Ready
value_by l word rest e true texts ready is seen =
    stepped (Some l) (state false (waits for_value) awaited e) (state false idle (value word) e) word rest _ (value_turn l e word (is_plain word is)) (value_walked l e word (is_plain word is))
    (comes_as (Some l) (state false idle (value word) e) rest _ None
    (ap (in_front e) (parts_value (Some l) word rest false is) ∙ front_twice word e (parts (Some l) false rest) seen)
    (words_fail (Some l) rest false (value word) e texts tt (ap not seen)))
value_by l word rest e false texts ready is seen =
    stepped (Some l) (state false (waits for_value) awaited e) (state false idle (value word) e) word rest _ (value_turn l e word (is_plain word is)) (value_walked l e word (is_plain word is))
    (comes_as (Some l) (state false idle (value word) e) rest _ _
    (ap (in_front e) (parts_value (Some l) word rest false is) ∙ sym (front_value word e (parts (Some l) false rest) seen))
    (ready false (value word) e tt (ap not seen)))

awaiting_by : (l word : Text) (rest : List Text) (option : Bool) → IsUtf8 word → Texts rest → Ready (Some l) rest → is_option word ≡ option → Awaiting (Some l) (word ∷ rest)
unfolding Awaiting
awaiting_by l word rest true text texts ready is e =
    comes_as (Some l) (state false (waits for_value) awaited e) (word ∷ rest) _ None (ap (in_front e) (parts_value (Some l) word rest true is) ∙ front_none e)
    (dashed_fails (Some l) for_value awaited e word rest (is_end word) text refl is tt refl)
awaiting_by l word rest false text texts ready is e = value_by l word rest e (has_value e) texts ready is refl

awaiting_more : (long : Option Text) (word : Text) (rest : List Text) → IsUtf8 word → Texts rest → Ready long rest → Awaiting long (word ∷ rest)
unfolding Awaiting
awaiting_more None word rest text texts ready = tt
awaiting_more (Some l) word rest text texts ready = awaiting_by l word rest (is_option word) text texts ready refl

awaiting_none : (long : Option Text) → Awaiting long []
unfolding Awaiting
awaiting_none None = tt
awaiting_none (Some l) = λ e. comes_as (Some l) (state false (waits for_value) awaited e) [] _ None (ap (in_front e) (parts_missing (Some l)) ∙ front_none e)
    (ends_unsettled (Some l) false (waits for_value) awaited e tt refl)

ready_none : (long : Option Text) → Ready long []
unfolding Ready
ready_none long b p e suits ok =
    comes_as long (state false (rests b) p e) [] _ (Some (parts_of (counted p e))) (ap (in_front (counted p e)) (parts_none long) ∙ front_end (counted p e)) (ends long false (rests b) p e suits ok)

both : (long : Option Text) (words : List Text) → Texts words → Ready long words × Awaiting long words
both long [] texts = (ready_none long, awaiting_none long)
both long (word ∷ rest) texts =
    let behind = both long rest texts.1 in
    (ready_more long word rest (is_option word) texts.0 texts.1 behind.0 behind.1 refl, awaiting_more long word rest texts.0 texts.1 behind.0)

-- from the first word on
pub read : (long : Option Text) (words : List Text) → Texts words → Comes long (state false idle none nothing) words (parts long false words)
unfolding Ready
read long words texts = (both long words texts).0 false none nothing (suits_none long) refl
