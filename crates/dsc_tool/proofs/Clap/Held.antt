-- What clap holds between two words.
use Rattle.std.proofs.Common.{◌≡◌, ◌++◌, List, [], ◌∷◌, Bool, true, false, Option, Some, None, codes, refl}
use Rattle.clap.specs.declared.parser.matches.ValueSource.TheVariants.{CommandLine}
use Rattle.clap.specs.declared.builder.value_parser.ValueParser.TheVariants as vp
use Rattle.clap.specs.declared.error.kind.ErrorKind.TheVariants as kind
use Rattle.clap.specs.declared.builder.action.ArgAction.TheVariants.{Set, Append}
use Rattle.clap.specs.Kinds.{Kinds}
use Rattle.clap.specs.Walk.{Row, Rule, Text, reading_by, used}
use Rattle.clap.specs.Simple.{built}
use Rattle.clap.specs.Faults.{use_fault}
use Rattle.dsc_tool.specs.ClapCommand.{words_app}

-- the arguments as clap fills them in
abbrev pub rules : Option Text → List Rule
rules long = (built (words_app long)).top.rules

abbrev pub value_filled : Text → Rule
value_filled long = record {
  id = codes "value";
  long = Some long;
  aliases = [];
  short = None;
  short_aliases = [];
  index = None;
  action = Some Set;
  range = Some (record { start_inclusive = 1; end_inclusive = 1 });
  value_names = 0;
  defaults = [];
  missing = [];
  trailing_var_arg = false;
  parser = Some vp.String;
  ignore_case = false;
  required = false;
  is_simple = true;
  is_free = true;
}

abbrev pub plain_filled : Rule
plain_filled = record {
  id = codes "plain";
  long = None;
  aliases = [];
  short = None;
  short_aliases = [];
  index = Some 1;
  action = Some Append;
  range = Some (record { start_inclusive = 1; end_inclusive = 1 });
  value_names = 0;
  defaults = [];
  missing = [];
  trailing_var_arg = false;
  parser = Some vp.String;
  ignore_case = false;
  required = false;
  is_simple = true;
  is_free = true;
}

rules_with : (long : Text) → rules (Some long) ≡ value_filled long ∷ plain_filled ∷ []
rules_with long = refl

rules_without : rules None ≡ plain_filled ∷ []
rules_without = refl

-- what was seen so far: the option's value, the plain words, and which came first
pub data Seen : Type 0 where
  nothing : Seen
  value : Text → Seen
  plain : List Text → Seen
  value_plain : Text → List Text → Seen
  plain_value : List Text → Text → Seen

abbrev value_row : Text → Row
value_row v = record { id = codes "value"; values = v ∷ []; count = None; source = Some CommandLine; reading = reading_by plain_filled }

abbrev plain_row : List Text → Row
plain_row ws = record { id = codes "plain"; values = ws; count = None; source = Some CommandLine; reading = reading_by plain_filled }

abbrev pub rows_of : Seen → List Row
rows_of nothing = []
rows_of (value v) = value_row v ∷ []
rows_of (plain ws) = plain_row ws ∷ []
rows_of (value_plain v ws) = value_row v ∷ plain_row ws ∷ []
rows_of (plain_value ws v) = plain_row ws ∷ value_row v ∷ []

abbrev pub seen_plain : Text → Seen → Seen
seen_plain w nothing = plain (w ∷ [])
seen_plain w (value v) = value_plain v (w ∷ [])
seen_plain w (plain ws) = plain (ws ++ w ∷ [])
seen_plain w (value_plain v ws) = value_plain v (ws ++ w ∷ [])
seen_plain w (plain_value ws v) = plain_value (ws ++ w ∷ []) v

abbrev pub has_value : Seen → Bool
has_value nothing = false
has_value (value v) = true
has_value (plain ws) = false
has_value (value_plain v ws) = true
has_value (plain_value ws v) = true

-- where no value was seen
abbrev pub seen_value : Text → Seen → Seen
seen_value v nothing = value v
seen_value v (plain ws) = plain_value ws v
seen_value v e = e

abbrev pub repeat_end : Bool → Kinds
repeat_end true = kind.ArgumentConflict ∷ []
repeat_end false = []

pub use_plain : (w : Text) (e : Seen) → used plain_filled (w ∷ []) (rows_of e) ≡ rows_of (seen_plain w e)
use_plain w nothing = refl
use_plain w (value v) = refl
use_plain w (plain ws) = refl
use_plain w (value_plain v ws) = refl
use_plain w (plain_value ws v) = refl

pub value_fault : (long v : Text) (e : Seen) → use_fault false (value_filled long) (v ∷ []) (rows_of e) ≡ repeat_end (has_value e)
value_fault long v nothing = refl
value_fault long v (value u) = refl
value_fault long v (plain ws) = refl
value_fault long v (value_plain u ws) = refl
value_fault long v (plain_value ws u) = refl

pub use_value : (long v : Text) (e : Seen) → has_value e ≡ false → used (value_filled long) (v ∷ []) (rows_of e) ≡ rows_of (seen_value v e)
use_value long v nothing is = refl
use_value long v (value u) is = absurd cc
use_value long v (plain ws) is = refl
use_value long v (value_plain u ws) is = absurd cc
use_value long v (plain_value ws u) is = absurd cc
