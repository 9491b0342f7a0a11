-- Where each word of a set stands in its cache: as far behind its segment's place as in the image's own file, and pointers in the data.
use Rattle.std.proofs.Common.{◌≡◌, ◌≤◌, ◌<◌, ℕ, ◌+◌, ◌-◌, false, Some, List, length, get_or, sym, ap, ◌∙◌, subst, arith, inl, inr}
use Rattle.std.specs.Prelude.{slice_get}
use Rattle.std.proofs.lemmas.Bool.{false≢true}
use Rattle.std.proofs.lemmas.Option.{same_Some, slice_get_within, get_or_from_slice_get}
use Rattle.dsc_base.specs.Region.{region_start}
use Rattle.macho_image.specs.Records.{Seg, Img}
use Rattle.macho_image.specs.Breaks.{IsSound}
use Rattle.macho_image.specs.Rules.{is_linkedit_segment}
use Rattle.macho_image.specs.Places.{IsWord, above}
use Rattle.macho_image.specs.Segments.{start_of}
use Rattle.macho_image.proofs.AboveLaws.{above_plain}
use Rattle.split_info.specs.declared.reference.RefKind.TheVariants.{Pointer64}
use Rattle.split_info.specs.Overlap.{is_pointer}
use Rattle.split_info.specs.References.{width_of}
use Rattle.split_info.proofs.SoundSections.{IsInside, section_inside}
use Rattle.prebind.specs.Sets.{StreamLists, image_set}
use Rattle.prebind.specs.Words.{Word}
use Rattle.cache_layout.specs.declared.mapping.Mapping.{Mapping}
use Rattle.cache_layout.specs.declared.mapping.Mapping.TheVariants.{Writable}
use Rattle.cache_layout.specs.Places.{mapping_of}
use Rattle.cache_layout.specs.Layouts.{layout_of}
use Rattle.cache_layout.specs.Apart.{IsSegment, range_in, move_at}
use Rattle.cache_layout.proofs.PlaceLaws.{are_within}
use Rattle.cache_layout.proofs.RoomLaws.{paged-covers}
use Rattle.cache_layout.proofs.SpaceLaws.{sound_space}
use Rattle.load_model.proofs.WordCases.{IsIn, word_cases}
use Rattle.load_model.proofs.SoundApart.{sound_apart}
use Rattle.load_model.proofs.SpreadLaws.{bound_is_word, rebase_is_word}
use Rattle.load_model.proofs.LoadedWords.{IsReadImage}
use Rattle.load_model.proofs.RuledWords.{HasStreams, read_image}
use Rattle.load_model.proofs.WordPlaces.{StandsIn, word_stands}
use Rattle.ref_rewrite.specs.Moving.{new_address}
use Rattle.ref_rewrite.proofs.HomeLaws.{section_owned}
use Rattle.ref_rewrite.proofs.FitLaws.{segment_there, offset_is}
use Rattle.cache_build.proofs.BuildableSets.{IsAccepted}
use Rattle.cache_build.proofs.SetWords.{SetWord, set_words, edit_at, IsOfSet, of_set, images_are}
use Rattle.ref_rewrite.proofs.FollowingLaws.{writable_mapping}

-- a word in its section and its segment, and in the file
pub record Stands (is : List Img) (x : SetWord) : Type 0 where
  pub image_in : x.number < length is
  pub image_is : x.image ≡ get_or is x.number x.image
  pub sound : IsSound x.image
  pub streams : StreamLists
  pub read : IsReadImage (image_set is) x.number x.image streams
  pub in_section : StandsIn x.image x.word.at (width_of x.word.kind)
  pub segment : Seg
  pub segment_is : slice_get x.image.segments x.word.at.segment ≡ Some segment
  pub there : IsSegment is x.number x.word.at.segment x.image segment
  pub owned : is_linkedit_segment segment ≡ false
  pub from : segment.vmaddr ≤ in_section.section.addr
  pub to : in_section.section.addr + in_section.section.size ≤ segment.vmaddr + segment.vmsize
  pub place : (edit_at is x).at ≡ (move_at (layout_of is) x.number x.word.at.segment).file + (x.word.at.address - segment.vmaddr)

pub image_sound : (is : List Img) → IsAccepted is → (k : ℕ) (i : Img) → slice_get is k ≡ Some i → IsSound i
image_sound is accepted k i got = subst IsSound (get_or_from_slice_get is k i i got) (accepted.sound k i (slice_get_within is k i got))

pub word_stands_at : (is : List Img) → IsAccepted is → (x : SetWord) → IsIn (set_words is) x → Stands is x
word_stands_at is accepted x member =
    let own : IsOfSet is x = of_set is x member in
    let lt : x.number < length is = slice_get_within is x.number x.image own.image_is in
    let at : x.image ≡ get_or is x.number x.image = sym (get_or_from_slice_get is x.number x.image x.image own.image_is) in
    let sound : IsSound x.image = image_sound is accepted x.number x.image own.image_is in
    let has : HasStreams (image_set is) x.number x.image = read_image (image_set is) x.number x.image accepted.set (images_are is x.number x.image own.image_is) (sound_apart x.image sound) in
    let stands : StandsIn x.image x.word.at (width_of x.word.kind) = word_stands (image_set is) x.number x.image has.streams x.word has.read sound own.word in
    let home : IsInside x.image stands.section = section_inside x.image (x.word.at.section - 1) stands.section sound stands.found in
    let found : slice_get x.image.segments x.word.at.segment ≡ Some home.segment = ap (λ (n : ℕ). slice_get x.image.segments n) (sym stands.in_segment) ∙ home.segment_is in
    let other : is_linkedit_segment home.segment ≡ false = section_owned x.image sound (x.word.at.section - 1) stands.section home.segment stands.found home.segment_is in
    record {
      image_in = lt;
      image_is = at;
      sound = sound;
      streams = has.streams;
      read = has.read;
      in_section = stands;
      segment = home.segment;
      segment_is = found;
      there = segment_there is x.number x.word.at.segment x.image home.segment lt at found;
      owned = other;
      from = home.from;
      to = home.to;
      place = offset_is is x.number x.word.at.segment x.image home.segment x.word.at.address accepted.layout sound lt at found other (omega (arith, stands.place, home.from)) (omega (arith, stands.place, stands.within, home.to));
    }

-- the same as an address
pub address_is : (is : List Img) → IsAccepted is → (x : SetWord) → (stands : Stands is x)
    → (new_address (layout_of is) x.number x.image.segments x.word.at.segment x.word.at.address ≡ region_start + (edit_at is x).at) × ((move_at (layout_of is) x.number x.word.at.segment).address ≡ region_start + (move_at (layout_of is) x.number x.word.at.segment).file)
unfolding new_address
address_is is accepted x stands =
    let s : Seg = stands.segment in
    let address : ℕ = x.word.at.address in
    let within = are_within is accepted.layout x.number x.word.at.segment x.image s stands.there stands.owned in
    let space = sound_space x.image stands.sound x.word.at.segment s stands.there.segment_in stands.there.segment_is in
    let from : stands.segment.vmaddr ≤ x.word.at.address = omega (arith, stands.in_section.place, stands.from) in
    let to : x.word.at.address ≤ stands.segment.vmaddr + stands.segment.vmsize = omega (arith, stands.in_section.place, stands.in_section.within, stands.to) in
    let start : start_of (slice_get x.image.segments x.word.at.segment) ≡ stands.segment.vmaddr = ap start_of stands.segment_is in
    let far : above (start_of (slice_get x.image.segments x.word.at.segment)) x.word.at.address ≡ x.word.at.address - stands.segment.vmaddr =
    ap (λ (a : ℕ). above a address) start ∙ above_plain s.vmaddr address from (omega (arith, to, space.1)) in
    (omega (arith, far, within.2.address, within.2.end, within.2.span, to, from, paged-covers s.vmsize, stands.place), within.2.address)

-- a pointer is a word of its image
pointer_is_word : (is : List Img) (x : SetWord) → (stands : Stands is x) → IsOfSet is x → x.word.kind ≡ Pointer64 → IsWord x.image x.word.at
pointer_is_word is x stands own pointer =
    elim (word_cases (image_set is) x.number x.image stands.streams x.word stands.read.of own.word) [
      | inl bound ↦ subst (λ (w : Word). IsWord x.image w.at) (sym bound.is) (bound_is_word x.image stands.streams bound.bind stands.read.sound bound.there)
      | inr unbound ↦ elim unbound [
        | inl free ↦ subst (λ (w : Word). IsWord x.image w.at) (sym free.is) (rebase_is_word x.image stands.streams free.place stands.read.sound free.there)
        | inr other ↦
            let kind : other.reference.kind ≡ Pointer64 = sym (ap (λ (w : Word). w.kind) other.is) ∙ pointer in
            absurd (false≢true (sym other.other ∙ ap is_pointer kind))
      ]
    ]

-- and stands in the data
pub pointer_in_data : (is : List Img) → IsAccepted is → (x : SetWord) → IsIn (set_words is) x → x.word.kind ≡ Pointer64 → (layout_of is).writable.at ≤ (edit_at is x).at
pointer_in_data is accepted x member pointer =
    let stands : Stands is x = word_stands_at is accepted x member in
    let word : IsWord x.image x.word.at = pointer_is_word is x stands (of_set is x member) pointer in
    let same : word.segment ≡ stands.segment = same_Some word.segment stands.segment (sym word.segment_is ∙ stands.segment_is) in
    let prot : stands.segment.initprot ≡ 3 = sym (ap (λ (s : Seg). s.initprot) same) ∙ word.writable in
    let mapping : mapping_of stands.segment ≡ Some Writable = writable_mapping stands.segment prot stands.owned in
    let within = are_within is accepted.layout x.number x.word.at.segment x.image stands.segment stands.there stands.owned in
    let own : within.0 ≡ Writable = same_Some within.0 Writable (sym within.1 ∙ mapping) in
    let range : (range_in (layout_of is) within.0).at ≡ (layout_of is).writable.at = ap (λ (m : Mapping). (range_in (layout_of is) m).at) own in
    omega (arith, range, within.2.start, stands.place)
