-- The words behind a command's name: which one is the value of its option, and which are plain words.
use Rattle.std.specs.Prelude.{ℕ, List, [], ◌∷◌, Bool, true, false, not, nat_eq, if◌then◌else◌, Option, Some, None, is_some, option_map, codes}
use Rattle.std.specs.List.{list_any, before_first, after_first}
use Rattle.std.specs.Cmp.Lexicographic.{pointwise}

-- a word that begins with a dash, and isn't a dash alone
abbrev pub is_option : List ℕ → Bool
is_option [] = false
is_option (c ∷ []) = false
is_option (c ∷ d ∷ rest) = nat_eq c 45

-- two dashes, which end the options
abbrev pub is_end : List ℕ → Bool
is_end word = pointwise nat_eq word (codes "--")

abbrev pub is_equals : ℕ → Bool
is_equals c = nat_eq c 61

-- the name of an option's word, and the value that is joined to it: of `--jobs=8` these are `--jobs` and 8
abbrev pub option_name : List ℕ → List ℕ
option_name word = before_first is_equals word

abbrev pub joined_value : List ℕ → Option (List ℕ)
joined_value word = if list_any is_equals word then Some (after_first is_equals word) else None

-- the option that a command has, told without its dashes, has this name; a command without one has no option of any name
abbrev pub is_named : Option (List ℕ) → List ℕ → Bool
is_named None name = false
is_named (Some long) name = pointwise nat_eq (45 ∷ 45 ∷ long) name

-- what the words are: the option's value, where it is given, and the plain words in their order
pub record Parts : Type 0 where
  pub value : Option (List ℕ)
  pub plain : List (List ℕ)

abbrev pub with_plain : List ℕ → Parts → Parts
with_plain word p = record p { plain = word ∷ p.plain }

-- a value in front of what the other words are; an option is given at most once
abbrev pub with_value : List ℕ → Option Parts → Option Parts
with_value value None = None
with_value value (Some p) = if is_some p.value then None else Some (record p { value = Some value })

-- an option has its value joined to it, or else the next word is its value
abbrev pub option_value : Option (List ℕ) → Option Parts → Option Parts → Option Parts
option_value (Some value) behind next = with_value value behind
option_value None behind next = next

-- What the words are, for a command with this option; none where one of them is another option, where a value is missing or looks like an option, or where the option is given twice.
-- `true` stands behind an option whose value is the next word.
unfoldable pub parts : Option (List ℕ) → Bool → List (List ℕ) → Option Parts
parts long true [] = None
parts long true (word ∷ rest) = if is_option word then None else with_value word (parts long false rest)
parts long false [] = Some record { value = None; plain = [] }
parts long false (word ∷ rest) =
    if is_end word then Some record { value = None; plain = rest }
    else (if not (is_option word) then option_map (with_plain word) (parts long false rest)
    else (if is_named long (option_name word) then option_value (joined_value word) (parts long false rest) (parts long true rest)
    else None))
