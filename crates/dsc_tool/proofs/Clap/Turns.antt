-- x
use Rattle.std.proofs.Common.{◌≡◌, List, [], ◌∷◌, Bool, true, false, ◌&&◌, Option, Some, None, codes, refl, ap, ap₂, ◌∙◌}
use Rattle.std.specs.Prelude.{if◌then◌else◌}
use Rattle.std.specs.Option.{option_map_or}
use Rattle.std.specs.Str.{bytes_eq}
use Rattle.clap.specs.Kinds.{Kinds, or_else}
use Rattle.clap.specs.Lexer.{long_of, short_of}
use Rattle.clap.specs.Walk.{Held, Row, Rule, Step, Text, Waiting, idle, option, positional, settled, walked, plain_word, trailing, is_pending, takes_several, subcommand_or_other, long_or_other, short_or_plain, pushed, positional_held, after_step, arg_by_long, long_word}
use Rattle.clap.specs.Walk.{value as a_value}
use Rattle.clap.specs.Simple.{Shape}
use Rattle.clap.specs.Faults.{settle_fault, turn_fault, step_fault, other_fault, flag_word_fault, bundle_fault, positional_fault, long_fault}
use Rattle.dsc_tool.proofs.Clap.WordForms.{IsLong}
use Rattle.dsc_tool.proofs.Clap.Held.{Seen, rules, plain_filled}
use Rattle.dsc_tool.proofs.Clap.Walked.{Pending, plain, awaited, value, Suits, held, state, counts, counted, shape, counted_rows}

-- a word that is neither an option nor the end of the options
pub record IsPlain (word : Text) : Type 0 where
  pub end : bytes_eq word (codes "--") ≡ false
  pub long : long_of word ≡ None
  pub short : short_of word ≡ None

no_fault : (s : Shape) (word : Text) (h : Held) → IsPlain word → other_fault s None word h ≡ []
no_fault s word h is =
    ap (λ (b : Bool). if b then [] else flag_word_fault s.rules s.args_override_self (long_of word) word h) is.end
    ∙ (ap (λ (l : Option (Text × Option Text)). flag_word_fault s.rules s.args_override_self l word h) is.long
    ∙ ap (λ (f : Option Text). option_map_or (λ (flags : Text). bundle_fault s.rules s.args_override_self flags h) f []) is.short)

met_plain : (c : List Rule) (waiting : Waiting) (word : Text) (h : Held) → IsPlain word → subcommand_or_other c None waiting 1 word h ≡ plain_word c waiting word h
met_plain c waiting word h is =
    ap (λ (b : Bool). if b then (h, trailing 1) else long_or_other c waiting word (long_of word) h) is.end
    ∙ (ap (λ (l : Option (Text × Option Text)). long_or_other c waiting word l h) is.long
    ∙ ap (λ (f : Option Text). short_or_plain c waiting word f h) is.short)

either_way : {X : Type 0} (b : Bool) (x y : X) → (if b && false then x else y) ≡ y
either_way true x y = refl
either_way false x y = refl

one_by_one : (c : List Rule) (a : Rule) (h : Held) → takes_several a ≡ false → positional_fault c false a h ≡ settle_fault c false h
one_by_one c a h one =
    ap (λ (b : Bool). if is_pending a h.pending && b then [] else settle_fault c false h) one ∙ either_way (is_pending a h.pending) [] (settle_fault c false h)

settled_first : (c : List Rule) (a : Rule) (word : Text) (h : Held) → takes_several a ≡ false → positional_held c a word h ≡ pushed a.id word (settled c h)
settled_first c a word h one =
    ap (λ (b : Bool). pushed a.id word (if is_pending a h.pending && b then h else settled c h)) one
    ∙ ap (pushed a.id word) (either_way (is_pending a h.pending) h (settled c h))

-- nothing waits for a value
abbrev pub rests : Bool → Waiting
rests true = positional
rests false = idle

pub plain_turn : (long : Option Text) (b : Bool) (word : Text) (p : Pending) (e : Seen) → IsPlain word
    → turn_fault (shape long) [] (state false (rests b) p e) word ≡ settle_fault (rules long) false (held p e)
plain_turn None true word p e is =
    ap₂ (λ (k : Kinds) (m : Held × Step). or_else k (step_fault (shape None) 1 m.0 m.1)) (no_fault (shape None) word (held p e) is) (met_plain (rules None) positional word (held p e) is)
    ∙ one_by_one (rules None) plain_filled (held p e) refl
plain_turn None false word p e is =
    ap₂ (λ (k : Kinds) (m : Held × Step). or_else k (step_fault (shape None) 1 m.0 m.1)) (no_fault (shape None) word (held p e) is) (met_plain (rules None) idle word (held p e) is)
    ∙ one_by_one (rules None) plain_filled (held p e) refl
plain_turn (Some long) true word p e is =
    ap₂ (λ (k : Kinds) (m : Held × Step). or_else k (step_fault (shape (Some long)) 1 m.0 m.1)) (no_fault (shape (Some long)) word (held p e) is) (met_plain (rules (Some long)) positional word (held p e) is)
    ∙ one_by_one (rules (Some long)) plain_filled (held p e) refl
plain_turn (Some long) false word p e is =
    ap₂ (λ (k : Kinds) (m : Held × Step). or_else k (step_fault (shape (Some long)) 1 m.0 m.1)) (no_fault (shape (Some long)) word (held p e) is) (met_plain (rules (Some long)) idle word (held p e) is)
    ∙ one_by_one (rules (Some long)) plain_filled (held p e) refl

plain_held : (long : Option Text) (p : Pending) (e : Seen) (word : Text) → Suits long p → counts p e ≡ true
    → positional_held (rules long) plain_filled word (held p e) ≡ held (plain word) (counted p e)
plain_held long p e word suits ok =
    settled_first (rules long) plain_filled word (held p e) refl
    ∙ ap (λ (rows : List Row). record { rows = rows; pending = Some (codes "plain", word ∷ []); skip = 0 }) (counted_rows long p e suits ok)

plain_stepped : (long : Option Text) (b : Bool) (waiting : Waiting) (p : Pending) (e : Seen) (word : Text) → Suits long p → counts p e ≡ true
    → after_step (rules long) word (state b waiting p e) (held p e) a_value ≡ state b positional (plain word) (counted p e)
plain_stepped None true waiting p e word suits ok = ap (λ (h : Held). record { held = h; waiting = positional; position = 1; is_trailing = true; stopped = None }) (plain_held None p e word suits ok)
plain_stepped None false waiting p e word suits ok = ap (λ (h : Held). record { held = h; waiting = positional; position = 1; is_trailing = false; stopped = None }) (plain_held None p e word suits ok)
plain_stepped (Some long) true waiting p e word suits ok = ap (λ (h : Held). record { held = h; waiting = positional; position = 1; is_trailing = true; stopped = None }) (plain_held (Some long) p e word suits ok)
plain_stepped (Some long) false waiting p e word suits ok = ap (λ (h : Held). record { held = h; waiting = positional; position = 1; is_trailing = false; stopped = None }) (plain_held (Some long) p e word suits ok)

pub plain_walked : (long : Option Text) (b : Bool) (p : Pending) (e : Seen) (word : Text) → IsPlain word → Suits long p → counts p e ≡ true
    → walked (rules long) [] (state false (rests b) p e) word ≡ state false positional (plain word) (counted p e)
unfolding walked
plain_walked long true p e word is suits ok =
    ap (λ (m : Held × Step). after_step (rules long) word (state false positional p e) m.0 m.1) (met_plain (rules long) positional word (held p e) is) ∙ plain_stepped long false positional p e word suits ok
plain_walked long false p e word is suits ok =
    ap (λ (m : Held × Step). after_step (rules long) word (state false idle p e) m.0 m.1) (met_plain (rules long) idle word (held p e) is) ∙ plain_stepped long false idle p e word suits ok

-- what waits: nothing, or the option for its value
pub data Wait : Type 0 where
  at_rest : Bool → Wait
  for_value : Wait

abbrev pub waits : Wait → Waiting
waits (at_rest b) = rests b
waits for_value = option (codes "value")

abbrev pub turn_by : Shape → Wait → Held → Text → Kinds
turn_by s w h word =
    or_else (other_fault s None word h) (step_fault s 1 (subcommand_or_other s.rules None (waits w) 1 word h).0 (subcommand_or_other s.rules None (waits w) 1 word h).1)

pub turn_is : (s : Shape) (w : Wait) (p : Pending) (e : Seen) (word : Text) → turn_fault s [] (state false (waits w) p e) word ≡ turn_by s w (held p e) word
turn_is s (at_rest true) p e word = refl
turn_is s (at_rest false) p e word = refl
turn_is s for_value p e word = refl

pub walked_is : (s : Shape) (w : Wait) (p : Pending) (e : Seen) (word : Text)
    → walked s.rules [] (state false (waits w) p e) word
    ≡ after_step s.rules word (state false (waits w) p e) (subcommand_or_other s.rules None (waits w) 1 word (held p e)).0 (subcommand_or_other s.rules None (waits w) 1 word (held p e)).1
unfolding walked
walked_is s (at_rest true) p e word = refl
walked_is s (at_rest false) p e word = refl
walked_is s for_value p e word = refl

-- the end of the options
met_end : (c : List Rule) (waiting : Waiting) (word : Text) (h : Held) → bytes_eq word (codes "--") ≡ true → subcommand_or_other c None waiting 1 word h ≡ (h, trailing 1)
met_end c waiting word h is = ap (λ (b : Bool). if b then (h, trailing 1) else long_or_other c waiting word (long_of word) h) is

pub end_turn : (s : Shape) (w : Wait) (p : Pending) (e : Seen) (word : Text) → bytes_eq word (codes "--") ≡ true → turn_fault s [] (state false (waits w) p e) word ≡ []
end_turn s w p e word is =
    turn_is s w p e word
    ∙ ap₂ (λ (k : Kinds) (m : Held × Step). or_else k (step_fault s 1 m.0 m.1))
    (ap (λ (b : Bool). if b then [] else flag_word_fault s.rules s.args_override_self (long_of word) word (held p e)) is)
    (met_end s.rules (waits w) word (held p e) is)

pub end_walked : (s : Shape) (w : Wait) (p : Pending) (e : Seen) (word : Text) → bytes_eq word (codes "--") ≡ true → walked s.rules [] (state false (waits w) p e) word ≡ state true (waits w) p e
end_walked s w p e word is =
    walked_is s w p e word ∙ ap (λ (m : Held × Step). after_step s.rules word (state false (waits w) p e) m.0 m.1) (met_end s.rules (waits w) word (held p e) is)

-- behind it each word is plain
pub trailing_turn : (long : Option Text) (waiting : Waiting) (p : Pending) (e : Seen) (word : Text) → turn_fault (shape long) [] (state true waiting p e) word ≡ settle_fault (rules long) false (held p e)
trailing_turn None waiting p e word = one_by_one (rules None) plain_filled (held p e) refl
trailing_turn (Some long) waiting p e word = one_by_one (rules (Some long)) plain_filled (held p e) refl

pub trailing_walked : (long : Option Text) (waiting : Waiting) (p : Pending) (e : Seen) (word : Text) → Suits long p → counts p e ≡ true
    → walked (rules long) [] (state true waiting p e) word ≡ state true positional (plain word) (counted p e)
unfolding walked
trailing_walked long waiting p e word suits ok = plain_stepped long true waiting p e word suits ok

-- the value of an option in a word of its own
pub value_turn : (long : Text) (e : Seen) (word : Text) → IsPlain word → turn_fault (shape (Some long)) [] (state false (waits for_value) awaited e) word ≡ []
value_turn long e word is =
    turn_is (shape (Some long)) for_value awaited e word
    ∙ ap₂ (λ (k : Kinds) (m : Held × Step). or_else k (step_fault (shape (Some long)) 1 m.0 m.1)) (no_fault (shape (Some long)) word (held awaited e) is)
    (met_plain (rules (Some long)) (waits for_value) word (held awaited e) is)

pub value_walked : (long : Text) (e : Seen) (word : Text) → IsPlain word → walked (rules (Some long)) [] (state false (waits for_value) awaited e) word ≡ state false idle (value word) e
value_walked long e word is =
    walked_is (shape (Some long)) for_value awaited e word
    ∙ ap (λ (m : Held × Step). after_step (rules (Some long)) word (state false (waits for_value) awaited e) m.0 m.1) (met_plain (rules (Some long)) (waits for_value) word (held awaited e) is)

pub met_long : (c : List Rule) (waiting : Waiting) (word name : Text) (joined : Option Text) (h : Held) → IsLong word name joined
    → subcommand_or_other c None waiting 1 word h ≡ long_word c waiting word name joined h
met_long c waiting word name joined h is =
    ap (λ (b : Bool). if b then (h, trailing 1) else long_or_other c waiting word (long_of word) h) is.end
    ∙ ap (λ (l : Option (Text × Option Text)). long_or_other c waiting word l h) is.long

pub long_turn : (s : Shape) (w : Wait) (p : Pending) (e : Seen) (word name : Text) (joined : Option Text) → IsLong word name joined
    → turn_fault s [] (state false (waits w) p e) word
    ≡ or_else (long_fault s.rules s.args_override_self (arg_by_long s.rules name) joined (held p e))
    (step_fault s 1 (long_word s.rules (waits w) word name joined (held p e)).0 (long_word s.rules (waits w) word name joined (held p e)).1)
long_turn s w p e word name joined is =
    turn_is s w p e word
    ∙ ap₂ (λ (k : Kinds) (m : Held × Step). or_else k (step_fault s 1 m.0 m.1))
    (ap (λ (b : Bool). if b then [] else flag_word_fault s.rules s.args_override_self (long_of word) word (held p e)) is.end
    ∙ ap (λ (l : Option (Text × Option Text)). flag_word_fault s.rules s.args_override_self l word (held p e)) is.long)
    (met_long s.rules (waits w) word name joined (held p e) is)
