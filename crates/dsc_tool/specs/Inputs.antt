-- Reading the inputs of an order: when all are read, and why the reading ends before that.
use Rattle.std.specs.Prelude.{◌≡◌, ◌≤◌, ◌<◌, ◌+◌, ◌⊎◌, ℕ, List, [], take, length, Option, Some, None, MatchOption, All, sum_by, slice_index_or}
use Rattle.std.specs.List.{AllZip}
use Rattle.std.specs.FinMap.{get}
use Rattle.dsc_base.specs.Outside.{Files, HasFile, Rose, GetCause}
use Rattle.dsc_base.specs.declared.fault.Break.{Break}
use Rattle.dsc_base.specs.declared.outside.store.GetFault.TheVariants.{TooLarge}
use Rattle.dsc_tool.specs.declared.stop.Stop.{Stop}
use Rattle.dsc_tool.specs.declared.stop.Stop.TheVariants.{BadWords, Unread, Refused, Flawed, NoImage, Memory}
use Rattle.dsc_tool.specs.Stops.{file_limit, input_limit, cache_limit, too_large, input_too_large, cache_too_large}
use Rattle.dsc_tool.specs.Words.{Order, build, check, extract, list, info, trial}

-- what an order reads, by name: a cache, if it has one, and behind it files
pub record Names : Type 0 where
  pub cache : Option (List ℕ)
  pub files : List (List ℕ)

abbrev pub inputs_of : Order → Names
inputs_of (build options out names) = record { cache = None; files = names }
inputs_of (check cache names) = record { cache = Some cache; files = names }
inputs_of (extract cache prefix image) = record { cache = Some cache; files = [] }
inputs_of (list cache) = record { cache = Some cache; files = [] }
inputs_of (info cache) = record { cache = Some cache; files = [] }
inputs_of (trial options seed count) = record { cache = None; files = [] }

-- and the bytes of these
pub record Contents : Type 0 where
  pub cache : Option (List ℕ)
  pub files : List (List ℕ)

-- inputs count from 0, a cache among them
abbrev pub cache_count : Option (List ℕ) → ℕ
cache_count None = 0
cache_count (Some name) = 1

abbrev pub input_count : Names → ℕ
input_count names = cache_count names.cache + length names.files

-- ---- all are read

-- the cache of this name has these bytes, and isn't too large; where there is none there are no bytes
abbrev pub CacheIsRead : Option Files → Option (List ℕ) → Option (List ℕ) → Type 0
CacheIsRead files None None = Unit {0}
CacheIsRead files (Some name) (Some bytes) = HasFile files name bytes × (length bytes ≤ cache_limit)
CacheIsRead files None (Some bytes) = ⊥
CacheIsRead files (Some name) None = ⊥

-- how many bytes the files have together
abbrev pub total : List (List ℕ) → ℕ
total bytes = sum_by (λ (file : List ℕ). length file) bytes

-- The files of these names have these bytes, which are within both limits. A store that doesn't tell its files says nothing of a name.
pub record AreRead (files : Option Files) (names bytes : List (List ℕ)) : Type 0 where
  pub there : AllZip (HasFile files) names bytes
  pub within : All (λ (file : List ℕ). length file ≤ file_limit) bytes
  pub together : total bytes ≤ input_limit

pub record InputsAreRead (files : Option Files) (names : Names) (contents : Contents) : Type 0 where
  pub cache : CacheIsRead files names.cache contents.cache
  pub rest : AreRead files names.files contents.files

-- ---- one isn't taken

-- the told files lack the name
abbrev pub Lacks : Option Files → List ℕ → Type 0
Lacks files name = MatchOption files ⊥ (λ m. get m name ≡ None)

-- why the cache of this name isn't taken, by the store's count of faults before and after
abbrev pub CacheCause : Option Files → ℕ → ℕ → List ℕ → Stop → Type 0
CacheCause files old new name BadWords = ⊥
CacheCause files old new name (Unread input) = (input ≡ 0) × (Lacks files name ⊎ Rose old new)
CacheCause files old new name (Refused b) = ⊥
CacheCause files old new name (Flawed f) = (f ≡ cache_too_large) × GetCause files old new name cache_limit TooLarge
CacheCause files old new name NoImage = ⊥
CacheCause files old new name Memory = Unit {0}

-- the file of this name and number has too many bytes
abbrev pub IsTooLarge : Option Files → ℕ → ℕ → List ℕ → ℕ → Break → Type 0
IsTooLarge files old new name file b = (b ≡ too_large file) × GetCause files old new name file_limit TooLarge

-- it has so many that it and the earlier ones, of so many bytes, have too many together
abbrev pub AreTooLarge : Option Files → List ℕ → ℕ → ℕ → Break → Type 0
AreTooLarge files name file before b =
    (b ≡ input_too_large file) × ((bytes : List ℕ) × HasFile files name bytes × (length bytes ≤ file_limit) × (input_limit < before + length bytes))

-- why the file of this name and number isn't taken behind earlier ones of so many bytes, where so many inputs go before the files
abbrev pub FileCause : Option Files → ℕ → ℕ → ℕ → List ℕ → ℕ → ℕ → Stop → Type 0
FileCause files old new first name file before BadWords = ⊥
FileCause files old new first name file before (Unread input) = (input ≡ first + file) × (Lacks files name ⊎ Rose old new)
FileCause files old new first name file before (Refused b) = IsTooLarge files old new name file b ⊎ AreTooLarge files name file before b
FileCause files old new first name file before (Flawed f) = ⊥
FileCause files old new first name file before NoImage = ⊥
FileCause files old new first name file before Memory = Unit {0}

-- The reading ended so at one of the files, and those before it were read.
pub record IsReadingStop (files : Option Files) (old new first : ℕ) (names : List (List ℕ)) (stop : Stop) : Type 0 where
  pub file : ℕ
  pub inside : file < length names
  pub earlier : List (List ℕ)
  pub read : AreRead files (take file names) earlier
  pub cause : FileCause files old new first (slice_index_or names file []) file (total earlier) stop

-- why not all files of these names are read; memory may be wanting at any time
abbrev pub FilesCause : Option Files → ℕ → ℕ → ℕ → List (List ℕ) → Stop → Type 0
FilesCause files old new first names BadWords = ⊥
FilesCause files old new first names (Unread input) = IsReadingStop files old new first names (Unread input)
FilesCause files old new first names (Refused b) = IsReadingStop files old new first names (Refused b)
FilesCause files old new first names (Flawed f) = ⊥
FilesCause files old new first names NoImage = ⊥
FilesCause files old new first names Memory = Unit {0}

-- why not all inputs are read: the cache isn't taken, or it was and a file behind it isn't
abbrev pub ReadCause : Option Files → ℕ → ℕ → Names → Stop → Type 0
ReadCause files old new names stop =
    ((name : List ℕ) × (names.cache ≡ Some name) × CacheCause files old new name stop)
    ⊎ ((cache : Option (List ℕ)) × CacheIsRead files names.cache cache × FilesCause files old new (cache_count names.cache) names.files stop)
