-- What the parts of a resolution promise each other.
use Rattle.std.specs.Prelude.{◌≡◌, ◌<◌, ℕ, List, length, Option, Some, None, slice_index_or}
use Rattle.macho_image.specs.Records.{Seg}
use Rattle.export_trie.specs.declared.export.Found.{Found}
use Rattle.export_trie.specs.declared.export.Target.{Target}
use Rattle.export_trie.specs.Finding.{target_found}
use Rattle.export_trie.specs.Order.{trie_break}
use Rattle.prebind.specs.declared.resolution.Step.{Step as HeldStep}
use Rattle.prebind.specs.declared.resolution.Step.TheVariants as held
use Rattle.prebind.specs.declared.resolved.Resolved.TheVariants.{Absent}
use Rattle.prebind.specs.declared.set.Set.{Set}
use Rattle.prebind.specs.Sets.{StreamLists, ImageSet}
use Rattle.prebind.specs.Resolves.{Step, Ends, Reexports, target_step}

abbrev pub set_of : Set → ImageSet
set_of s = record { images = s.images.now; streams = s.streams.now; links = s.links.now }

-- what was found in an image
abbrev pub found_in : ℕ → Option Target → Option (ℕ × Target)
found_in k None = None
found_in k (Some target) = Some (k, target)

abbrev pub found_seen : Option (ℕ × Found) → Option (ℕ × Target)
found_seen None = None
found_seen (Some (k, found)) = found_in k (target_found found)

abbrev pub step_seen : HeldStep → Step
step_seen (held.Ends outcome) = Ends outcome
step_seen (held.Reexports k ordinal name) = Reexports k ordinal name.now

abbrev pub some_step : List Seg → ℕ → Option Target → Step
some_step segments k None = Ends Absent
some_step segments k (Some target) = target_step segments k target

-- each image's trie is accepted
abbrev pub HaveTries : List StreamLists → Type 0
HaveTries streams = (k : ℕ) (d : StreamLists) → k < length streams → trie_break (slice_index_or streams k d).exports ≡ None
