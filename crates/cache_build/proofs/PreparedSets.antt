-- Accepted images, their tables, their words in order and their layout are what a cache is gathered from.
use Rattle.std.proofs.Common.{◌≡◌, ℕ, Option, List, Vec, Global, length, map, get_or, refl, sym, ap, ◌∙◌, arith, inl, inr}
use Rattle.std.specs.Prelude.{option_map}
use Rattle.std.proofs.lemmas.Bool.{cases_lt}
use Rattle.std.proofs.lemmas.List.{get_or_default, length-map}
use Rattle.std.proofs.lemmas.Option.{same_Some, slice_get-map}
use Rattle.macho_image.specs.Records.{Img}
use Rattle.nlist_table.specs.Symbols.{tables_of}
use Rattle.nlist_table.proofs.KeptLaws.{image_tables}
use Rattle.prebind.specs.declared.resolved.PlacedWord.{PlacedWord}
use Rattle.prebind.specs.Sets.{ImageSet, lists_of, image_set}
use Rattle.prebind.specs.Places.{export_break}
use Rattle.prebind.specs.Agree.{HaveExportsInside}
use Rattle.cache_layout.specs.Layouts.{layout_of}
use Rattle.load_model.proofs.FirstLaws.{AreUnbroken}
use Rattle.ref_rewrite.proofs.ReadLaws.{set_read}
use Rattle.linkedit_merge.specs.Conditions.{HaveTables}
use Rattle.cache_build.specs.Filling.{IsPrepared}
use Rattle.cache_build.proofs.BuildableSets.{IsAccepted}
use Rattle.cache_build.proofs.FitsLaws.{image_fits}
use Rattle.cache_build.proofs.SoundIdentifiers.{identifier_long}
use Rattle.prebind.specs.Placed.{AreListsPlaced}
use Rattle.cache_build.proofs.AcceptedSets.{no_export}

-- ---- exports

inside_all : (set : ImageSet) (n : ℕ) → length set.streams ≡ n → AreUnbroken (export_break set) n → HaveExportsInside set
inside_all set n many none = λ k. elim (cases_lt k n) [
  | inl lt ↦ none k lt
  | inr past ↦ no_export set k (omega (arith, many, past))
]

exports_inside : (is : List Img) → AreUnbroken (export_break (image_set is)) (length is) → HaveExportsInside (image_set is)
unfolding image_set
exports_inside is none = inside_all (image_set is) (length is) (length-map is lists_of) none

-- ---- tables

tables_there : (is : List Img) → IsAccepted is → HaveTables is (map tables_of is)
tables_there is accepted = record {
  many = length-map is tables_of;
  each = λ k image t image_is table_is.
      let own : t ≡ tables_of image = same_Some t (tables_of image) (sym table_is ∙ (slice_get-map tables_of is k ∙ ap (λ (o : Option Img). option_map tables_of o) image_is)) in
      image_tables image t own (accepted.tables k image image_is);
}

-- ---- words, as they are held

abbrev pub lists_held : List (Vec PlacedWord Global) → List (List PlacedWord)
lists_held words = map (λ (v : Vec PlacedWord Global). v.items) words

-- ---- altogether

pub prepared : (is : List Img) (placed : List (List PlacedWord)) → IsAccepted is → AreListsPlaced (image_set is) placed → IsPrepared (image_set is) (map tables_of is) placed (layout_of is)
unfolding image_set
prepared is placed accepted placed_all = record {
  sound = accepted.set;
  split = set_read is accepted.streams;
  exports = exports_inside is accepted.exports;
  tables_are = refl;
  have_tables = tables_there is accepted;
  layout = record { is = refl; fits = accepted.layout };
  placed_all = placed_all;
  few = accepted.few;
  fits = λ k d lt. image_fits is k (get_or is k d) accepted.layout lt (get_or_default is k d (get_or is k d) lt) (accepted.sound k d lt);
  identified = λ k d lt. identifier_long (get_or is k d) (accepted.sound k d lt);
}
