-- The command of `clap` that tells the value of an option from plain words.
use Rattle.std.specs.Prelude.{◌≡◌, ℕ, List, [], true, Option, Some, None, codes, map, option_map, unwrap_or}
use Rattle.clap.specs.declared.builder.action.ArgAction.TheVariants.{Set, Append}
use Rattle.clap.specs.declared.error.kind.ErrorKind.{ErrorKind}
use Rattle.clap.specs.declared.error.kind.ErrorKind.TheVariants.{OutOfMemory}
use Rattle.clap.specs.declared.parser.matches.ArgMatches.{ArgMatches}
use Rattle.clap.specs.Matches.{found_of}
use Rattle.clap.specs.Simple.{on_top}
use Rattle.clap.specs.Walk.{all_of, first_of, rows_of}
use Rattle.clap.specs.Words.{App, Rule, new_app, new_rule, with_rule}
use Rattle.dsc_tool.specs.WordParts.{Parts}
use Rattle.dsc_tool.specs.declared.command.WordsFault.{WordsFault}
use Rattle.dsc_tool.specs.declared.command.WordsFault.TheVariants.{BadWords, Memory}
use Rattle.dsc_tool.specs.declared.split.Split.{Split}

abbrev pub value_rule : List ℕ → Rule
value_rule long = record (new_rule (codes "value")) { long = Some long; action = Some Set }

abbrev pub plain_rule : Rule
plain_rule = record (new_rule (codes "plain")) { action = Some Append }

abbrev pub bare_app : App
bare_app = on_top (λ s. record s { no_binary_name = true; disable_help_flag = true }) (new_app (codes "dsc"))

-- with this option, if there is one
abbrev pub option_app : Option (List ℕ) → App
option_app None = bare_app
option_app (Some long) = with_rule bare_app (value_rule long)

-- and with plain words
abbrev pub words_app : Option (List ℕ) → App
words_app long = with_rule (option_app long) plain_rule

-- the parts that the code holds
abbrev pub held_parts : Split → Parts
held_parts s = record { value = option_map (λ v. v.now) s.value; plain = map (λ w. w.now) s.plain.items }

-- these are the parts of the words
abbrev pub HasParts : Option Parts → Split → Type 0
HasParts found s = found ≡ Some (held_parts s)

-- the parts are what a parse found
pub record IsMatched (m : ArgMatches) (s : Split) : Type 0 where
  pub value : (held_parts s).value ≡ first_of (codes "value") (rows_of (found_of m))
  pub plain : (held_parts s).plain ≡ unwrap_or (all_of (codes "plain") (rows_of (found_of m))) []

-- a parse that fails for another cause than want of memory fails by its words
abbrev pub IsParseFault : ErrorKind → WordsFault → Type 0
IsParseFault kind BadWords = kind ≡ OutOfMemory → ⊥
IsParseFault kind Memory = Unit {0}
