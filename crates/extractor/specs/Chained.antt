-- What the code tries of chain words, with the addresses at which each image binds.
use Rattle.std.specs.Prelude.{◌≡◌, ◌≤◌, ◌<◌, ℕ, ◌+◌, ◌-◌, ◌%◌, ◌^◌, Bool, true, not, ◌&&◌, ◌||◌, nat_eq, nat_lt, is_some, if◌then◌else◌, List, length, Option, Some, None, slice_get, slice_index_or}
use Rattle.std.specs.List.{list_any}
use Rattle.dsc_base.specs.declared.fault.Finding.{Finding}
use Rattle.dsc_base.specs.declared.finding_kind.FindingKind.TheVariants.{ChainOutside, ForeignPointer}
use Rattle.macho_image.specs.Records.{Seg, Img}
use Rattle.macho_image.specs.Places.{place_fault}
use Rattle.bind_ops.specs.Records.{BoundWord}
use Rattle.rebase_ops.specs.Writing.{offset_in}
use Rattle.prebind.specs.Sets.{StreamLists}
use Rattle.prebind.specs.Words.{streams_in, is_bound}
use Rattle.slide_chain.specs.declared.words.ChainWord.{ChainWord}
use Rattle.cache_header.specs.Findings.{finding}
use Rattle.extractor.specs.declared.homes.Home.{Home}
use Rattle.extractor.specs.Placing.{home_of}
use Rattle.extractor.specs.Vetting.{reaches}

-- of each image the addresses of the words that it binds
abbrev pub binds_at : List StreamLists → ℕ → List BoundWord
binds_at streams k = (streams_in (slice_get streams k)).binds

abbrev pub has : List ℕ → ℕ → Bool
has bound address = list_any (nat_eq address) bound

abbrev pub AreAddresses : List BoundWord → List ℕ → Type 0
AreAddresses binds bound = (address : ℕ) → has bound address ≡ is_bound binds address

pub record AreBounds (streams : List StreamLists) (bounds : List (List ℕ)) : Type 0 where
  pub count : length bounds ≡ length streams
  pub each : (k : ℕ) (b : List ℕ) → slice_get bounds k ≡ Some b → AreAddresses (binds_at streams k) b

-- an address of a chain word: a multiple of four, and far from both ends of memory
pub record IsAddress (address : ℕ) : Type 0 where
  pub low : 4 ≤ address
  pub high : address < 2 ^ 63
  pub aligned : address % 4 ≡ 0

abbrev pub HaveAddresses : ℕ → List ChainWord → Type 0
HaveAddresses start words = (k : ℕ) (d : ChainWord) → k < length words → IsAddress (start + (slice_index_or words k d).offset)

-- a bind is half a word away
abbrev pub is_crossed : List ℕ → ℕ → Bool
is_crossed bound address = has bound (address - 4) || has bound (address + 4)

abbrev pub is_outside : Img → List ℕ → ℕ → ℕ → Bool
is_outside i bound g address = nat_lt 15 g || (not i.has_dyld_info || (is_some (place_fault i (Some g) (offset_in i g address) 0) || is_crossed bound address))

abbrev pub outside_in : Option Img → Option (List ℕ) → ℕ → ℕ → Bool
outside_in None bound g address = true
outside_in (Some i) None g address = true
outside_in (Some i) (Some bound) g address = is_outside i bound g address

abbrev pub outside_at : List Img → List (List ℕ) → ℕ → ℕ → Option Home → Option Finding
outside_at images bounds offset address None = Some (finding ChainOutside 0 offset)
outside_at images bounds offset address (Some h) =
    if outside_in (slice_get images h.image) (slice_get bounds h.image) h.segment address then Some (finding ChainOutside h.image offset) else None

abbrev pub outside_of : List Img → List (List ℕ) → ℕ → ChainWord → Option Finding
outside_of images bounds start w = outside_at images bounds w.offset (start + w.offset) (home_of images (start + w.offset))

abbrev pub is_foreign : List Seg → List ℕ → ℕ → ℕ → Bool
is_foreign segments bound address value = not (has bound address) && not (list_any (reaches value) segments)

abbrev pub foreign_in : Option Img → Option (List ℕ) → ℕ → ℕ → Bool
foreign_in None bound address value = true
foreign_in (Some i) None address value = true
foreign_in (Some i) (Some bound) address value = is_foreign i.segments bound address value

abbrev pub foreign_at : List Img → List (List ℕ) → ChainWord → ℕ → Option Home → Option Finding
foreign_at images bounds w address None = None
foreign_at images bounds w address (Some h) =
    if foreign_in (slice_get images h.image) (slice_get bounds h.image) address w.value then Some (finding ForeignPointer h.image w.offset) else None

abbrev pub foreign_of : List Img → List (List ℕ) → ℕ → ChainWord → Option Finding
foreign_of images bounds start w = foreign_at images bounds w (start + w.offset) (home_of images (start + w.offset))
