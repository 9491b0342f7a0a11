-- A set that was read of files and laid out, and how it stands to them.
use Rattle.std.specs.Prelude.{◌≡◌, ℕ, List}
use Rattle.nlist_table.specs.Symbols.{Tabs}
use Rattle.prebind.specs.declared.resolved.PlacedWord.{PlacedWord}
use Rattle.prebind.specs.Sets.{ImageSet}
use Rattle.cache_layout.specs.Layouts.{Laid}
use Rattle.cache_build.specs.Breaks.{behind_layout, set_break}
use Rattle.cache_build.specs.Built.{built}
use Rattle.cache_build.specs.Cache.{cache_from}
use Rattle.cache_build.specs.Filling.{IsPrepared, CanBuild}

-- it can be gathered; what it breaks behind its layout is what the files break, and its cache is theirs
pub record IsReady (bits : ℕ) (files : List (List ℕ)) (set : ImageSet) (tables : List Tabs) (placed : List (List PlacedWord)) (l : Laid) : Type 0 where
  pub prepared : IsPrepared set tables placed l
  pub can : CanBuild bits l set
  pub breaks : set_break bits files ≡ behind_layout bits l set
  pub cache : cache_from bits l set ≡ built bits files
