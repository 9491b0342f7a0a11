-- What contracts see of the outside of a run: the store, standard output and standard error.
use Rattle.std.specs.Prelude.{◌++◌, ◌⊎◌, ℕ, List, [], ◌∷◌, Option}
use Rattle.std.specs.Option.{option_map}
use Rattle.std.specs.FinMap.{insert}
use Rattle.dsc_base.specs.Outside.{Files, Rose, with_file}

-- what a sink tells when these bytes have been appended
abbrev pub appended : Option (List ℕ) → List ℕ → Option (List ℕ)
appended told bytes = option_map (λ old. old ++ bytes) told

-- the told files, where these are put, each by its name and its bytes, in their order
abbrev pub with_files : Option Files → List (List ℕ × List ℕ) → Option Files
with_files told [] = told
with_files told (f ∷ fs) = with_files (with_file told f.0 f.1) fs

abbrev pub put_files : Files → List (List ℕ × List ℕ) → Files
put_files files [] = files
put_files files (f ∷ fs) = put_files (insert files f.0 f.1) fs

-- the files and the bytes of both streams, where they are told, and how often each of these has failed
pub record World : Type 0 where
  pub files : Option Files
  pub get_faults : ℕ
  pub put_faults : ℕ
  pub out : Option (List ℕ)
  pub out_faults : ℕ
  pub err : Option (List ℕ)
  pub err_faults : ℕ

abbrev pub world : Option Files → ℕ → ℕ → Option (List ℕ) → ℕ → Option (List ℕ) → ℕ → World
world files get_faults put_faults out out_faults err err_faults =
    record {
      files = files;
      get_faults = get_faults;
      put_faults = put_faults;
      out = out;
      out_faults = out_faults;
      err = err;
      err_faults = err_faults;
    }

-- something failed in this run
abbrev pub AnyRose : World → World → Type 0
AnyRose before after =
    (Rose before.get_faults after.get_faults ⊎ Rose before.put_faults after.put_faults) ⊎ (Rose before.out_faults after.out_faults ⊎ Rose before.err_faults after.err_faults)
