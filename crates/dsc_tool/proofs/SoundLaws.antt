-- Over a store that never fails, whose count of failed gets stays 0, a fault of reading says that an input is absent.
use Rattle.std.proofs.Common.{◌≡◌, ◌<◌, ℕ, List, [], length, Option, Some, None, inl, inr, subst, arith, ◌⊎◌}
use Rattle.std.specs.Prelude.{slice_index_or}
use Rattle.std.specs.FinMap.{get}
use Rattle.dsc_base.specs.Outside.{Files, Rose}
use Rattle.dsc_tool.specs.declared.status.Status.TheVariants.{ReadFault}
use Rattle.dsc_tool.specs.declared.stop.Stop.TheVariants.{Unread}
use Rattle.dsc_tool.specs.Causes.{IsDue}
use Rattle.dsc_tool.specs.Inputs.{Names, ReadCause, inputs_of}
use Rattle.dsc_tool.specs.Ran.{Ends}
use Rattle.dsc_tool.specs.Streams.{World}
use Rattle.dsc_tool.specs.Words.{Order, command_of}

-- the files lack the cache, or a file
pub record LacksCache (names : Names) (files : Files) : Type 0 where
  pub name : List ℕ
  pub is : names.cache ≡ Some name
  pub lacks : get files name ≡ None

pub record LacksFile (names : Names) (files : Files) : Type 0 where
  pub file : ℕ
  pub inside : file < length names.files
  pub lacks : get files (slice_index_or names.files file []) ≡ None

-- the words name an input that the files lack
pub record LacksInput (words : List (List ℕ)) (files : Files) : Type 0 where
  pub order : Order
  pub spelled : command_of words ≡ Some order
  pub lacks : LacksCache (inputs_of order) files ⊎ LacksFile (inputs_of order) files

never_rose : Rose 0 0 → ⊥
never_rose (inl less) = absurd (omega (arith, less))
never_rose (inr ends) = absurd (let first = ends.0 in omega (arith, first))

lacks_read : (files : Files) (names : Names) (input : ℕ) → ReadCause (Some files) 0 0 names (Unread input) → LacksCache names files ⊎ LacksFile names files
lacks_read files names input (inl (name, is, (number, inl lacks))) = inl (record { name = name; is = is; lacks = lacks })
lacks_read files names input (inl (name, is, (number, inr rose))) = absurd (never_rose rose)
lacks_read files names input (inr (cache, read, cause)) = elim cause.cause.1 [
  | inl lacks ↦ inr (record { file = cause.file; inside = cause.inside; lacks = lacks })
  | inr rose ↦ absurd (never_rose rose)
]

lacks_due : (words : List (List ℕ)) (files : Files) (input : ℕ) → IsDue words (Some files) 0 0 (Unread input) → LacksInput words files
lacks_due words files input (order, spelled, reading) = record { order = order; spelled = spelled; lacks = lacks_read files (inputs_of order) input reading }

pub absent_alone : (words : List (List ℕ)) (files : Files) (before after : World) → before.files ≡ Some files → before.get_faults ≡ 0 → after.get_faults ≡ 0 → Ends words before after ReadFault → LacksInput words files
absent_alone words files before after told old new (input, is) =
    lacks_due words files input
    (subst (λ (n : ℕ). IsDue words (Some files) 0 n (Unread input)) new
    (subst (λ (n : ℕ). IsDue words (Some files) n after.get_faults (Unread input)) old
    (subst (λ (f : Option Files). IsDue words f before.get_faults after.get_faults (Unread input)) told is.cause)))
