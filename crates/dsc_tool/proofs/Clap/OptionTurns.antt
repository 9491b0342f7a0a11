-- One option of clap's walk over the words.
use Rattle.std.proofs.Common.{◌≡◌, ℕ, suc, [], ◌∷◌, Bool, true, false, cond, ◌||◌, Option, Some, None, codes, refl, ap, sym, ◌∙◌}
use Rattle.std.specs.Prelude.{if◌then◌else◌, slice_get}
use Rattle.std.specs.Option.{option_map_or}
use Rattle.std.specs.Str.{bytes_eq, chars}
use Rattle.clap.specs.Kinds.{Kinds, or_else}
use Rattle.clap.specs.declared.error.kind.ErrorKind.{ErrorKind}
use Rattle.clap.specs.declared.error.kind.ErrorKind.TheVariants as kind
use Rattle.clap.specs.Lexer.{long_of}
use Rattle.clap.specs.Walk.{Held, Rule, Step, Text, Waiting, idle, option, used, settled, walked, arg_by_long, after_step, after_flag, long_met}
use Rattle.clap.specs.Faults.{settle_fault, turn_fault, use_fault, flags_fault, long_fault, step_fault, flag_word_fault, bundle_fault, bundle_step_fault}
use Rattle.dsc_tool.proofs.Clap.WordForms.{named, IsLong, IsShort}
use Rattle.dsc_tool.proofs.Clap.Held.{Seen, rules, value_filled}
use Rattle.dsc_tool.proofs.Clap.Walked.{Pending, Fails, held, state, shape}
use Rattle.dsc_tool.proofs.Clap.Turns.{Wait, waits, turn_is, walked_is, long_turn, met_long}

pub fails_one : (k : ErrorKind) (ks : Kinds) → Fails (k ∷ ks)
fails_one k ks is = absurd cc

pub fails_first : (a b : Kinds) → Fails a → Fails (or_else a b)
fails_first [] b fails is = absurd (fails refl)
fails_first (k ∷ ks) b fails is = fails is

pub fails_second : (a b : Kinds) → a ≡ [] → Fails b → Fails (or_else a b)
fails_second [] b none_first fails is = fails is
fails_second (k ∷ ks) b none_first fails is = absurd cc

pub fails_as : (a b : Kinds) → a ≡ b → Fails b → Fails a
fails_as a b same fails is = fails (sym same ∙ is)

-- the option of this name, if the words have one
abbrev pub found_by : Option Text → Bool → Option Rule
found_by None b = None
found_by (Some long) b = cond (b || false) (Some (value_filled long)) None

found_is : (long : Option Text) (name : Text) → arg_by_long (rules long) name ≡ found_by long (named long name)
found_is None name = refl
found_is (Some long) name = refl

unknown_fault : (long : Option Text) (joined : Option Text) (h : Held) (b : Bool) → b ≡ false → long_fault (rules long) false (found_by long b) joined h ≡ kind.UnknownArgument ∷ []
unknown_fault None joined h b is = refl
unknown_fault (Some long) joined h b is = ap (λ (a : Bool). long_fault (rules (Some long)) false (found_by (Some long) a) joined h) is

again_not : (long : Option Text) → (shape long).args_override_self ≡ false
again_not None = refl
again_not (Some long) = refl

-- an unknown option is refused
pub unknown_turn : (long : Option Text) (w : Wait) (p : Pending) (e : Seen) (word name : Text) (joined : Option Text) → IsLong word name joined → named long name ≡ false
    → Fails (turn_fault (shape long) [] (state false (waits w) p e) word)
unknown_turn long w p e word name joined is other =
    fails_as _ _ (long_turn (shape long) w p e word name joined is)
    (fails_first _ _ (fails_as _ _
    (ap (λ (b : Bool). long_fault (rules long) b (arg_by_long (rules long) name) joined (held p e)) (again_not long)
    ∙ (ap (λ (a : Option Rule). long_fault (rules long) false a joined (held p e)) (found_is long name) ∙ unknown_fault long joined (held p e) (named long name) other))
    (fails_one kind.UnknownArgument [])))

-- ---- the option of the command, with its value joined to it

-- what the word does, where its name is the option's or isn't
abbrev met_by : Text → Bool → Waiting → Text → Option Text → Held → Held × Step
met_by long b waiting word joined h =
    after_flag (rules (Some long)) waiting word (long_met (rules (Some long)) (found_by (Some long) b) joined h).0 (long_met (rules (Some long)) (found_by (Some long) b) joined h).1

pub known_joined : (long v : Text) (w : Wait) (p : Pending) (e : Seen) (word name : Text) → IsLong word name (Some v) → bytes_eq long name ≡ true
    → turn_fault (shape (Some long)) [] (state false (waits w) p e) word
    ≡ or_else (or_else (settle_fault (rules (Some long)) false (held p e)) (use_fault false (value_filled long) (v ∷ []) (settled (rules (Some long)) (held p e)).rows)) []
known_joined long v w p e word name is same =
    long_turn (shape (Some long)) w p e word name (Some v) is
    ∙ ap (λ (b : Bool). or_else (long_fault (rules (Some long)) false (found_by (Some long) b) (Some v) (held p e))
    (step_fault (shape (Some long)) 1 (met_by long b (waits w) word (Some v) (held p e)).0 (met_by long b (waits w) word (Some v) (held p e)).1)) same

pub known_apart : (long : Text) (w : Wait) (p : Pending) (e : Seen) (word name : Text) → IsLong word name None → bytes_eq long name ≡ true
    → turn_fault (shape (Some long)) [] (state false (waits w) p e) word ≡ or_else (settle_fault (rules (Some long)) false (held p e)) []
known_apart long w p e word name is same =
    long_turn (shape (Some long)) w p e word name None is
    ∙ ap (λ (b : Bool). or_else (long_fault (rules (Some long)) false (found_by (Some long) b) None (held p e))
    (step_fault (shape (Some long)) 1 (met_by long b (waits w) word None (held p e)).0 (met_by long b (waits w) word None (held p e)).1)) same

pub joined_walked : (long v : Text) (w : Wait) (p : Pending) (e : Seen) (word name : Text) → IsLong word name (Some v) → bytes_eq long name ≡ true
    → walked (rules (Some long)) [] (state false (waits w) p e) word
    ≡ record { held = record { rows = used (value_filled long) (v ∷ []) (settled (rules (Some long)) (held p e)).rows; pending = None; skip = 0 }; waiting = idle; position = 1; is_trailing = false; stopped = None }
joined_walked long v w p e word name is same =
    walked_is (shape (Some long)) w p e word
    ∙ (ap (λ (m : Held × Step). after_step (rules (Some long)) word (state false (waits w) p e) m.0 m.1) (met_long (rules (Some long)) (waits w) word name (Some v) (held p e) is)
    ∙ ap (λ (b : Bool). after_step (rules (Some long)) word (state false (waits w) p e) (met_by long b (waits w) word (Some v) (held p e)).0 (met_by long b (waits w) word (Some v) (held p e)).1) same)

pub apart_walked : (long : Text) (w : Wait) (p : Pending) (e : Seen) (word name : Text) → IsLong word name None → bytes_eq long name ≡ true
    → walked (rules (Some long)) [] (state false (waits w) p e) word
    ≡ record { held = record { rows = (settled (rules (Some long)) (held p e)).rows; pending = Some (codes "value", []); skip = 0 }; waiting = option (codes "value"); position = 1; is_trailing = false; stopped = None }
apart_walked long w p e word name is same =
    walked_is (shape (Some long)) w p e word
    ∙ (ap (λ (m : Held × Step). after_step (rules (Some long)) word (state false (waits w) p e) m.0 m.1) (met_long (rules (Some long)) (waits w) word name None (held p e) is)
    ∙ ap (λ (b : Bool). after_step (rules (Some long)) word (state false (waits w) p e) (met_by long b (waits w) word None (held p e)).0 (met_by long b (waits w) word None (held p e)).1) same)

-- ---- short options, which no command has

no_short : (long : Option Text) (flags : Text) (h : Held) (first k : ℕ) → slice_get (chars flags) 0 ≡ Some first
    → flags_fault (rules long) false (suc k) flags 0 h ≡ kind.UnknownArgument ∷ []
unfolding flags_fault
no_short None flags h first k char = ap (λ (x : Option ℕ). bundle_step_fault (rules None) false x flags 0 h (flags_fault (rules None) false k)) char
no_short (Some long) flags h first k char = ap (λ (x : Option ℕ). bundle_step_fault (rules (Some long)) false x flags 0 h (flags_fault (rules (Some long)) false k)) char

pub short_turn : (long : Option Text) (w : Wait) (p : Pending) (e : Seen) (word flags : Text) (first : ℕ) → IsShort word flags first
    → Fails (turn_fault (shape long) [] (state false (waits w) p e) word)
short_turn long w p e word flags first is =
    fails_as _ _ (turn_is (shape long) w p e word)
    (fails_first _ _ (fails_as _ _
    (ap (λ (b : Bool). if b then [] else flag_word_fault (rules long) (shape long).args_override_self (long_of word) word (held p e)) is.end
    ∙ (ap (λ (l : Option (Text × Option Text)). flag_word_fault (rules long) (shape long).args_override_self l word (held p e)) is.long
    ∙ (ap (λ (f : Option Text). option_map_or (λ (flags : Text). bundle_fault (rules long) (shape long).args_override_self flags (held p e)) f []) is.short
    ∙ (ap (λ (b : Bool). bundle_fault (rules long) b flags (held p e)) (again_not long)
    ∙ (ap (λ (n : ℕ). flags_fault (rules long) false n flags 0 (held p e)) is.some.1 ∙ no_short long flags (held p e) first is.some.0 is.char)))))
    (fails_one kind.UnknownArgument [])))
