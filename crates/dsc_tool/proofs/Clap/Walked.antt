-- One word of clap's walk over the words.
use Rattle.std.proofs.Common.{◌≡◌, List, [], ◌∷◌, Bool, true, false, not, Option, Some, None, codes, refl, ap, sym, ◌∙◌}
use Rattle.clap.specs.Kinds.{Kinds}
use Rattle.clap.specs.Walk.{Held, Text, Waiting, Walk, settled_rows}
use Rattle.clap.specs.Simple.{Shape, built}
use Rattle.clap.specs.Faults.{settle_fault}
use Rattle.dsc_tool.specs.ClapCommand.{words_app}
use Rattle.dsc_tool.proofs.Clap.Held.{Seen, rules, rows_of, seen_plain, seen_value, has_value, repeat_end, use_plain, value_fault, use_value}

abbrev pub shape : Option Text → Shape
shape long = (built (words_app long)).top

-- what is still to be counted
pub data Pending : Type 0 where
  none : Pending
  awaited : Pending
  value : Text → Pending
  plain : Text → Pending

abbrev pub pending_of : Pending → Option (Text × List Text)
pending_of none = None
pending_of awaited = Some (codes "value", [])
pending_of (value v) = Some (codes "value", v ∷ [])
pending_of (plain w) = Some (codes "plain", w ∷ [])

-- the words have an option where a value is pending
abbrev pub Suits : Option Text → Pending → Type 0
Suits None (value v) = ⊥
Suits None awaited = ⊥
Suits long p = Unit {0}

abbrev pub held : Pending → Seen → Held
held p e = record { rows = rows_of e; pending = pending_of p; skip = 0 }

abbrev pub state : Bool → Waiting → Pending → Seen → Walk
state trailing waiting p e = record { held = held p e; waiting = waiting; position = 1; is_trailing = trailing; stopped = None }

-- what is pending can be counted
abbrev pub counts : Pending → Seen → Bool
counts none e = true
counts awaited e = false
counts (value v) e = not (has_value e)
counts (plain w) e = true

abbrev pub counted : Pending → Seen → Seen
counted none e = e
counted awaited e = e
counted (value v) e = seen_value v e
counted (plain w) e = seen_plain w e

abbrev pub Fails : Kinds → Type 0
Fails kinds = kinds ≡ [] → ⊥

not_true : (b : Bool) → not b ≡ true → b ≡ false
not_true true is = sym is
not_true false is = refl

not_false : (b : Bool) → not b ≡ false → b ≡ true
not_false true is = refl
not_false false is = sym is

settles_value : (long v : Text) (e : Seen) → has_value e ≡ false → settle_fault (rules (Some long)) false (held (value v) e) ≡ []
settles_value long v e is = value_fault long v e ∙ ap repeat_end is

pub settles : (long : Option Text) (p : Pending) (e : Seen) → Suits long p → counts p e ≡ true → settle_fault (rules long) false (held p e) ≡ []
settles None none e suits ok = refl
settles None awaited e suits ok = absurd suits
settles None (value v) e suits ok = absurd suits
settles None (plain w) e suits ok = refl
settles (Some long) none e suits ok = refl
settles (Some long) awaited e suits ok = absurd cc
settles (Some long) (value v) e suits ok = settles_value long v e (not_true (has_value e) ok)
settles (Some long) (plain w) e suits ok = refl

pub unsettled : (long : Option Text) (p : Pending) (e : Seen) → Suits long p → counts p e ≡ false → Fails (settle_fault (rules long) false (held p e))
unsettled None none e suits ok none_left = absurd cc
unsettled None awaited e suits ok none_left = absurd suits
unsettled None (value v) e suits ok none_left = absurd suits
unsettled None (plain w) e suits ok none_left = absurd cc
unsettled (Some long) none e suits ok none_left = absurd cc
unsettled (Some long) awaited e suits ok none_left = absurd cc
unsettled (Some long) (value v) e suits ok none_left = absurd (let is = sym (value_fault long v e ∙ ap repeat_end (not_false (has_value e) ok)) ∙ none_left in cc)
unsettled (Some long) (plain w) e suits ok none_left = absurd cc

pub counted_rows : (long : Option Text) (p : Pending) (e : Seen) → Suits long p → counts p e ≡ true → settled_rows (rules long) (pending_of p) (rows_of e) ≡ rows_of (counted p e)
counted_rows None none e suits ok = refl
counted_rows None awaited e suits ok = absurd suits
counted_rows None (value v) e suits ok = absurd suits
counted_rows None (plain w) e suits ok = use_plain w e
counted_rows (Some long) none e suits ok = refl
counted_rows (Some long) awaited e suits ok = absurd cc
counted_rows (Some long) (value v) e suits ok = use_value long v e (not_true (has_value e) ok)
counted_rows (Some long) (plain w) e suits ok = use_plain w e
