-- An image of a sound set, once it is loaded: each word stands in a section and leads to its target, and each other byte of a section is its segment's.
use Rattle.std.proofs.Common.{◌≡◌, ◌<◌, ℕ, ◌+◌, Some, None, subst}
use Rattle.std.specs.Prelude.{slice_get}
use Rattle.macho_image.specs.Records.{Img}
use Rattle.macho_image.specs.Breaks.{IsSound}
use Rattle.macho_image.specs.declared.section.Section.{Section}
use Rattle.macho_image.specs.Segments.{header_address}
use Rattle.split_info.specs.References.{width_of}
use Rattle.prebind.specs.Sets.{ImageSet, IsSoundSet}
use Rattle.prebind.specs.Words.{Word, words_of}
use Rattle.prebind.specs.WordRules.{place_break}
use Rattle.load_model.specs.Corresponds.{InWord, IsWordOf, Leads, loaded_side}
use Rattle.load_model.proofs.LoadedReferences.{HaveBytes}
use Rattle.load_model.proofs.RuledWords.{HasStreams, read_image, word_leads}
use Rattle.load_model.proofs.WordPlaces.{StandsIn, word_stands}
use Rattle.load_model.proofs.LoadedBytes.{IsLoadedByte, other_byte}
use Rattle.load_model.proofs.SoundApart.{sound_apart}

pub record IsLoadedWord (set : ImageSet) (slides : ℕ → ℕ) (k : ℕ) (i : Img) (w : Word) : Type 0 where
  pub stands : StandsIn i w.at (width_of w.kind)
  pub loaded : Leads (loaded_side set slides k) (stands.section.addr + stands.offset) (header_address i.segments) w.kind w.target

pub record IsLoaded (set : ImageSet) (slides : ℕ → ℕ) (k : ℕ) (i : Img) : Type 0 where
  pub words : (w : Word) → IsWordOf (words_of set k) w → IsLoadedWord set slides k i w
  pub bytes : (j offset : ℕ) (u : Section) → slice_get i.sections j ≡ Some u → offset < u.size → (InWord (words_of set k) (j + 1) u offset → ⊥) → IsLoadedByte set slides k i u offset

pub image_loaded : (set : ImageSet) (slides : ℕ → ℕ) (k : ℕ) (i : Img) → IsSoundSet set → slice_get set.images k ≡ Some i → IsSound i → HaveBytes i.segments → place_break set k ≡ None → IsLoaded set slides k i
image_loaded set slides k i sets image sound bytes none =
    let own : HasStreams set k i = read_image set k i sets image (sound_apart i sound) in
    record {
      words = λ w is.
          let stands : StandsIn i w.at (width_of w.kind) = word_stands set k i own.streams w own.read sound is in
          record {
            stands = stands;
            loaded = subst (λ (a : ℕ). Leads (loaded_side set slides k) a (header_address i.segments) w.kind w.target) stands.place (word_leads set slides k i own.streams w own.read sound bytes none is);
          };
      bytes = λ j offset u got lt not_in. other_byte set slides k i own.streams j offset u own.read sound got lt not_in;
    }
