-- What a parse of the words gives, by the definition of their parts.
use Rattle.std.proofs.Common.{◌≡◌, List, [], ◌∷◌, Bool, true, false, ◌||◌, Option, Some, None, codes, refl, ap, ap₂, sym, ◌∙◌, subst}
use Rattle.std.specs.Prelude.{if◌then◌else◌, unwrap_or, fold}
use Rattle.std.specs.Prelude.{String, string_bytes, map}
use Rattle.std.proofs.Common.{Global, inl, inr}
use Rattle.std.proofs.lemmas.Str.{IsUtf8-string_bytes}
use Rattle.clap.specs.Kinds.{HasKind, IsAmong, Kinds, or_else}
use Rattle.clap.specs.Values.{kind_of}
use Rattle.clap.specs.Walk.{rows_of as rows_found}
use Rattle.clap.specs.Simple.{HasMatchesOf}
use Rattle.clap.specs.Matches.{matched_of, raw_values}
use Rattle.clap.specs.declared.parser.matches.Found.{Found}
use Rattle.clap.specs.declared.parser.matches.ArgMatches.{ArgMatches}
use Rattle.clap.proofs.WalkLemmas.{raw_values-rows}
use Rattle.std.proofs.Common.{Bor, option_map}
use Rattle.dsc_tool.specs.declared.split.Split.{Split}
use Rattle.dsc_tool.specs.declared.command.WordsFault.{WordsFault}
use Rattle.dsc_tool.specs.declared.command.WordsFault.TheVariants.{BadWords, Memory}
use Rattle.clap.specs.declared.error.Error.{Error}
use Rattle.clap.specs.declared.error.kind.ErrorKind.{ErrorKind}
use Rattle.clap.specs.declared.error.kind.ErrorKind.TheVariants.{OutOfMemory}
use Rattle.clap.specs.Walk.{Held, Row, Text, all_of, first_of, finished, has_row, idle, nothing_held, settled, with_default}
use Rattle.clap.specs.Simple.{App, built, is_simple, matches_of}
use Rattle.clap.specs.Faults.{check_fault, defaults_fault, fault_of, is_simple_and_free, level_fault, settle_fault, walk_fault}
use Rattle.clap.proofs.FaultLemmas.{leaf_fault}
use Rattle.dsc_tool.specs.WordParts.{Parts, parts}
use Rattle.dsc_tool.specs.ClapCommand.{words_app, held_parts, HasParts, IsParseFault, IsMatched}
use Rattle.dsc_tool.specs.Words.{IsWordsFault}
use Rattle.dsc_tool.proofs.Clap.Held.{Seen, nothing, value, plain, value_plain, plain_value, value_filled, rules, rows_of}
use Rattle.dsc_tool.proofs.Clap.Walked.{Fails, none, shape, state}
use Rattle.dsc_tool.proofs.Clap.Fronts.{parts_of}
use Rattle.dsc_tool.proofs.Clap.WalkEnds.{faults_end, rows_end, walk_end, Comes}
use Rattle.dsc_tool.proofs.Clap.Reading.{Texts, read}

or_none : (k : Kinds) → or_else k [] ≡ k
or_none [] = refl
or_none (x ∷ xs) = refl

no_default : {X : Type 0} (b : Bool) (x y : X) → (if b || true then x else y) ≡ x
no_default true x y = refl
no_default false x y = refl

same_either : {X : Type 0} (b : Bool) (x : X) → (if b then x else x) ≡ x
same_either true x = refl
same_either false x = refl

unchanged : (long : Option Text) (rows : List Row) → fold with_default rows (rules long) ≡ rows
unchanged None rows = same_either (has_row (codes "plain") rows) rows
unchanged (Some l) rows =
    ap (λ (r : List Row). if has_row (codes "plain") r then r else r) (same_either (has_row (codes "value") rows) rows) ∙ same_either (has_row (codes "plain") rows) rows

no_defaults : (long : Option Text) (rows : List Row) → defaults_fault rows (rules long) ≡ []
unfolding defaults_fault
no_defaults None rows = ap (λ (k : Kinds). or_else k []) (no_default (has_row (codes "plain") rows) [] _)
no_defaults (Some l) rows =
    ap₂ (λ (j k : Kinds). or_else j (or_else k [])) (no_default (has_row (codes "value") rows) [] _)
    (no_default (has_row (codes "plain") (with_default rows (value_filled l))) [] _)

no_checks : (long : Option Text) (rows : List Row) → check_fault (shape long) rows false ≡ []
no_checks None rows = refl
no_checks (Some l) rows = refl

leafy : (long : Option Text) → (built (words_app long)).subs ≡ []
leafy None = refl
leafy (Some l) = refl

again_not : (long : Option Text) → (shape long).args_override_self ≡ false
again_not None = refl
again_not (Some l) = refl

-- the walk from the first word to the end
abbrev from_first : Option Text → List Text → Held
from_first long words = walk_end long (state false idle none nothing) words

rest_fault : (long : Option Text) (words : List Text) → Kinds
rest_fault long words =
    or_else (defaults_fault (settled (rules long) (from_first long words)).rows (rules long)) (check_fault (shape long) (finished (rules long) (from_first long words)) false)

no_rest : (long : Option Text) (words : List Text) → rest_fault long words ≡ []
unfolding rest_fault
no_rest long words =
    ap₂ or_else (no_defaults long (settled (rules long) (from_first long words)).rows) (no_checks long (finished (rules long) (from_first long words)))

level_is : (long : Option Text) (words : List Text)
    → level_fault (shape long) [] nothing_held words false []
    ≡ or_else (walk_fault (shape long) [] (state false idle none nothing) words) (or_else (settle_fault (rules long) (shape long).args_override_self (from_first long words)) (rest_fault long words))
unfolding rest_fault
level_is long words = refl

faults_are : (long : Option Text) (words : List Text) → fault_of (words_app long) words ≡ faults_end long (state false idle none nothing) words
unfolding faults_end
faults_are None words =
    leaf_fault (built (words_app None)) nothing_held words refl ∙ (level_is None words
    ∙ ap (λ (k : Kinds). or_else (walk_fault (shape None) [] (state false idle none nothing) words) k)
    (ap (λ (k : Kinds). or_else (settle_fault (rules None) false (from_first None words)) k) (no_rest None words) ∙ or_none (settle_fault (rules None) false (from_first None words))))
faults_are (Some l) words =
    leaf_fault (built (words_app (Some l))) nothing_held words refl ∙ (level_is (Some l) words
    ∙ ap (λ (k : Kinds). or_else (walk_fault (shape (Some l)) [] (state false idle none nothing) words) k)
    (ap (λ (k : Kinds). or_else (settle_fault (rules (Some l)) false (from_first (Some l) words)) k) (no_rest (Some l) words) ∙ or_none (settle_fault (rules (Some l)) false (from_first (Some l) words))))

rows_are : (long : Option Text) (words : List Text) → matches_of (words_app long) words ≡ rows_end long (state false idle none nothing) words
rows_are None words = unchanged None (rows_end None (state false idle none nothing) words)
rows_are (Some l) words = unchanged (Some l) (rows_end (Some l) (state false idle none nothing) words)

pub simple : (long : Option Text) → is_simple (words_app long) ≡ true
simple None = refl
simple (Some l) = refl

pub simple_and_free : (long : Option Text) → is_simple_and_free (words_app long) ≡ true
simple_and_free None = refl
simple_and_free (Some l) = refl

-- ---- by the definition

first_seen : (e : Seen) → first_of (codes "value") (rows_of e) ≡ (parts_of e).value
first_seen nothing = refl
first_seen (value v) = refl
first_seen (plain ws) = refl
first_seen (value_plain v ws) = refl
first_seen (plain_value ws v) = refl

all_seen : (e : Seen) → unwrap_or (all_of (codes "plain") (rows_of e)) [] ≡ (parts_of e).plain
all_seen nothing = refl
all_seen (value v) = refl
all_seen (plain ws) = refl
all_seen (value_plain v ws) = refl
all_seen (plain_value ws v) = refl

-- what a parse gives of words with parts
pub record Parsed (rows : List Row) (p : Parts) : Type 0 where
  pub value : first_of (codes "value") rows ≡ p.value
  pub plain : unwrap_or (all_of (codes "plain") rows) [] ≡ p.plain

taken_by : (long : Option Text) (words : List Text) (x : Option Parts) → Comes long (state false idle none nothing) words x → fault_of (words_app long) words ≡ []
    → (p : Parts) × (x ≡ Some p) × Parsed (matches_of (words_app long) words) p
taken_by long words None fails faultless = absurd (fails (sym (faults_are long words) ∙ faultless))
taken_by long words (Some p) taken faultless =
    let rows = rows_are long words ∙ taken.rows in (
      p,
      refl,
      record {
        value = ap (first_of (codes "value")) rows ∙ (first_seen taken.seen ∙ ap (λ (q : Parts). q.value) taken.parts);
        plain = ap (λ (r : List Row). unwrap_or (all_of (codes "plain") r) []) rows ∙ (all_seen taken.seen ∙ ap (λ (q : Parts). q.plain) taken.parts);
      },
    )

faulty_by : (long : Option Text) (words : List Text) (x : Option Parts) → Comes long (state false idle none nothing) words x → Fails (fault_of (words_app long) words) → x ≡ None
faulty_by long words None fails faulty = refl
faulty_by long words (Some p) taken faulty = absurd (faulty (faults_are long words ∙ taken.faultless))

pub faultless-parts : (long : Option Text) (words : List Text) → Texts words → fault_of (words_app long) words ≡ []
    → (p : Parts) × (parts long false words ≡ Some p) × Parsed (matches_of (words_app long) words) p
faultless-parts long words texts faultless = taken_by long words (parts long false words) (read long words texts) faultless

pub faulty-parts : (long : Option Text) (words : List Text) → Texts words → Fails (fault_of (words_app long) words) → parts long false words ≡ None
faulty-parts long words texts faulty = faulty_by long words (parts long false words) (read long words texts) faulty

-- ---- at a call

pub texts : (words : List (String Global)) → Texts (map (string_bytes {Z = Global}) words)
texts [] = tt
texts (word ∷ rest) = (IsUtf8-string_bytes word, texts rest)

kinds_there : (k : ErrorKind) (kinds : Kinds) → IsAmong k kinds → Fails kinds
kinds_there k [] among none_there = absurd among
kinds_there k (x ∷ xs) among none_there = absurd cc

same_parts : (p q : Parts) → p.value ≡ q.value → p.plain ≡ q.plain → p ≡ q
same_parts p q one_value same_words = λ i. record { value = one_value i; plain = same_words i }

abbrev words_behind : List (Bor Text) → List Text
words_behind = map (λ (w : Bor Text). w.now)

pub found_plain : (f : Found) (o : Option (Bor (List (Bor Text)))) (words : Bor (List (Bor Text))) (copied : List (Bor Text)) → o ≡ Some words → copied ≡ words.now
    → option_map (λ (s : Bor (List (Bor Text))). words_behind s.now) o ≡ option_map raw_values (matched_of f (codes "plain"))
    → words_behind copied ≡ unwrap_or (all_of (codes "plain") (rows_found f)) []
found_plain f o words copied some same is =
    ap words_behind same
    ∙ ap (λ (x : Option (List Text)). unwrap_or x []) (sym (ap (option_map (λ (s : Bor (List (Bor Text))). words_behind s.now)) some) ∙ (is ∙ raw_values-rows f (codes "plain")))

pub found_none : (f : Found) (o : Option (Bor (List (Bor Text)))) (copied : List (Bor Text)) → o ≡ None → copied ≡ []
    → option_map (λ (s : Bor (List (Bor Text))). words_behind s.now) o ≡ option_map raw_values (matched_of f (codes "plain"))
    → words_behind copied ≡ unwrap_or (all_of (codes "plain") (rows_found f)) []
found_none f o copied none_there same is =
    ap words_behind same
    ∙ ap (λ (x : Option (List Text)). unwrap_or x []) (sym (ap (option_map (λ (s : Bor (List (Bor Text))). words_behind s.now)) none_there) ∙ (is ∙ raw_values-rows f (codes "plain")))

pub matched : (long : Option Text) (words : List (String Global)) (m : ArgMatches) (p : Split) → fault_of (words_app long) (map (string_bytes {Z = Global}) words) ≡ []
    → HasMatchesOf (words_app long) (map (string_bytes {Z = Global}) words) m → IsMatched m p → HasParts (parts long false (map (string_bytes {Z = Global}) words)) p
matched long words m p faultless has is =
    let found = faultless-parts long (map (string_bytes {Z = Global}) words) (texts words) faultless in
    let rows = (has (simple long)).0 in
    found.1 ∙ ap (λ (q : Parts). Some q)
    (same_parts found.0 (held_parts p)
    (sym (found.2.value) ∙ (ap (first_of (codes "value")) (sym rows) ∙ sym is.value))
    (sym (found.2.plain) ∙ (ap (λ (r : List Row). unwrap_or (all_of (codes "plain") r) []) (sym rows) ∙ sym is.plain)))

pub bad_words : (long : Option Text) (words : List (String Global)) (e : Error) → HasKind (fault_of (words_app long) (map (string_bytes {Z = Global}) words)) e
    → (kind_of e ≡ OutOfMemory → ⊥) → parts long false (map (string_bytes {Z = Global}) words) ≡ None
bad_words long words e (inl memory) other = absurd (other memory)
bad_words long words e (inr among) other = faulty-parts long (map (string_bytes {Z = Global}) words) (texts words) (kinds_there (kind_of e) (fault_of (words_app long) (map (string_bytes {Z = Global}) words)) among)

-- ---- of a command that is this one

pub parsed : (a : App) (long : Option Text) (words : List (String Global)) (m : ArgMatches) (p : Split) → a ≡ words_app long
    → (is_simple_and_free a ≡ true → fault_of a (map (string_bytes {Z = Global}) words) ≡ []) → HasMatchesOf a (map (string_bytes {Z = Global}) words) m → IsMatched m p
    → HasParts (parts long false (map (string_bytes {Z = Global}) words)) p
parsed a long words m p is faultless has found =
    matched long words m p (ap (λ (b : App). fault_of b (map (string_bytes {Z = Global}) words)) (sym is) ∙ faultless (ap is_simple_and_free is ∙ simple_and_free long))
    (subst (λ (b : App). HasMatchesOf b (map (string_bytes {Z = Global}) words) m) is has) found

pub refused : (a : App) (long : Option Text) (words : List (String Global)) (e : Error) (fault : WordsFault) → a ≡ words_app long
    → (is_simple_and_free a ≡ true → HasKind (fault_of a (map (string_bytes {Z = Global}) words)) e) → IsParseFault (kind_of e) fault
    → IsWordsFault (parts long false (map (string_bytes {Z = Global}) words)) fault
refused a long words e BadWords is kinds other =
    bad_words long words e (subst (λ (b : App). HasKind (fault_of b (map (string_bytes {Z = Global}) words)) e) is (kinds (ap is_simple_and_free is ∙ simple_and_free long))) other
refused a long words e Memory is kinds any = tt
