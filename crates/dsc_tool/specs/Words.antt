-- The words behind the program's name, and the order that they spell.
use Rattle.std.specs.Prelude.{◌≡◌, ◌≤◌, ℕ, List, [], ◌∷◌, Bool, false, not, ◌&&◌, nat_eq, nat_lt, nat_le, if◌then◌else◌, Option, Some, None, option_map, option_and_then, length, codes}
use Rattle.std.specs.List.{list_any}
use Rattle.std.specs.Cmp.Lexicographic.{pointwise}
use Rattle.cache_build.specs.declared.builder.Options.{Options}
use Rattle.dsc_tool.specs.Options.{delta_bits}
use Rattle.dsc_tool.specs.declared.command.Command.{Command}
use Rattle.dsc_tool.specs.declared.command.Command.TheVariants.{Build, Check, Extract, List as ListImages, Info, Trial}
use Rattle.dsc_tool.specs.declared.command.WordsFault.{WordsFault}
use Rattle.dsc_tool.specs.declared.command.WordsFault.TheVariants.{BadWords, Memory}
use Rattle.dsc_tool.specs.WordNumbers.{most_inputs, jobs_of, seed_of, count_of}
use Rattle.dsc_tool.specs.WordParts.{Parts, parts}

-- what is asked for: that a cache is built as the options say and put at a name, from inputs in their order; that a cache is checked against files, in their order;
-- that the images of a cache, or the one with a path, are made files at a prefix; that the images of a cache are listed; that the head of a cache is told; that a cache of so many trial dylibs is built as the options say, from a seed
pub data Order : Type 0 where
  build : Options → List ℕ → List (List ℕ) → Order
  check : List ℕ → List (List ℕ) → Order
  extract : List ℕ → List ℕ → Option (List ℕ) → Order
  list : List ℕ → Order
  info : List ℕ → Order
  trial : Options → ℕ → ℕ → Order

-- ---- the commands

-- 1 to 4,096 inputs
abbrev pub are_few : List (List ℕ) → Bool
are_few names = nat_lt 0 (length names) && nat_le (length names) most_inputs

-- of which none is the name that the cache is put at
abbrev pub are_inputs : List ℕ → List (List ℕ) → Bool
are_inputs out names = are_few names && not (list_any (λ name. pointwise nat_eq name out) names)

abbrev pub with_jobs : ℕ → Options
with_jobs jobs = record { jobs = jobs; delta_bits = delta_bits }

abbrev pub build_of : Option ℕ → List (List ℕ) → Option Order
build_of (Some jobs) (out ∷ names) = if are_inputs out names then Some (build (with_jobs jobs) out names) else None
build_of _ _ = None

-- `build [--jobs N] OUT IN...`, without its first word
abbrev pub build_order : Parts → Option Order
build_order p = build_of (jobs_of p.value) p.plain

abbrev pub check_of : List (List ℕ) → Option Order
check_of [] = None
check_of (cache ∷ names) = if are_few names then Some (check cache names) else None

-- `check CACHE IN...`, without its first word
abbrev pub check_order : Parts → Option Order
check_order p = check_of p.plain

abbrev pub extract_with : Option (List ℕ) → List (List ℕ) → Option Order
extract_with image (cache ∷ prefix ∷ []) = Some (extract cache prefix image)
extract_with image _ = None

-- `extract [--image PATH] CACHE PREFIX`, without its first word
abbrev pub extract_order : Parts → Option Order
extract_order p = extract_with p.value p.plain

-- the one plain word
abbrev pub only_word : List (List ℕ) → Option (List ℕ)
only_word (word ∷ []) = Some word
only_word _ = None

-- `list CACHE` and `info CACHE`, without their first word
abbrev pub cache_word : Parts → Option (List ℕ)
cache_word p = only_word p.plain

abbrev pub trial_with : ℕ → Option ℕ → Option ℕ → Option Order
trial_with jobs (Some seed) (Some count) = Some (trial (with_jobs jobs) seed count)
trial_with jobs _ _ = None

abbrev pub trial_of : Option ℕ → List (List ℕ) → Option Order
trial_of (Some jobs) (seed ∷ count ∷ []) = trial_with jobs (seed_of seed) (count_of count)
trial_of _ _ = None

-- `trial [--jobs N] SEED COUNT`, without its first word
abbrev pub trial_order : Parts → Option Order
trial_order p = trial_of (jobs_of p.value) p.plain

abbrev pub is_word : List ℕ → List ℕ → Bool
is_word word name = pointwise nat_eq word name

unfoldable pub command_of : List (List ℕ) → Option Order
command_of [] = None
command_of (word ∷ rest) =
    if is_word word (codes "build") then option_and_then build_order (parts (Some (codes "jobs")) false rest)
    else (if is_word word (codes "check") then option_and_then check_order (parts None false rest)
    else (if is_word word (codes "extract") then option_and_then extract_order (parts (Some (codes "image")) false rest)
    else (if is_word word (codes "list") then option_map list (option_and_then cache_word (parts None false rest))
    else (if is_word word (codes "info") then option_map info (option_and_then cache_word (parts None false rest))
    else (if is_word word (codes "trial") then option_and_then trial_order (parts (Some (codes "jobs")) false rest) else None)))))

-- ---- a command of the program

-- what a command asks for
abbrev pub order_of : Command → Order
order_of (Build options out inputs) = build options out inputs.items
order_of (Check cache inputs) = check cache inputs.items
order_of (Extract cache prefix image) = extract cache prefix image
order_of (ListImages cache) = list cache
order_of (Info cache) = info cache
order_of (Trial options seed count) = trial options seed count

-- 1 to 4,096 inputs
abbrev pub AreFew : List (List ℕ) → Type 0
AreFew names = (1 ≤ length names) × (length names ≤ most_inputs)

-- a build has 1 to 64 jobs, and the number of bits that all builds have, and 1 to 4,096 inputs
pub record IsBuild (options : Options) (names : List (List ℕ)) : Type 0 where
  pub jobs : (1 ≤ options.jobs) × (options.jobs ≤ 64)
  pub bits : options.delta_bits ≡ delta_bits
  pub few : AreFew names

-- a trial likewise, of 1 to 4,096 dylibs
pub record IsTrial (options : Options) (count : ℕ) : Type 0 where
  pub jobs : (1 ≤ options.jobs) × (options.jobs ≤ 64)
  pub bits : options.delta_bits ≡ delta_bits
  pub few : (1 ≤ count) × (count ≤ most_inputs)

abbrev pub IsWithin : Command → Type 0
IsWithin (Build options out inputs) = IsBuild options inputs.items
IsWithin (Check cache inputs) = AreFew inputs.items
IsWithin (Extract cache prefix image) = Unit {0}
IsWithin (ListImages cache) = Unit {0}
IsWithin (Info cache) = Unit {0}
IsWithin (Trial options seed count) = IsTrial options count

-- words are bad exactly where they spell nothing; memory may be wanting at any time
abbrev pub IsWordsFault : {X : Type 0} → Option X → WordsFault → Type 0
IsWordsFault spelled BadWords = spelled ≡ None
IsWordsFault spelled Memory = Unit {0}
