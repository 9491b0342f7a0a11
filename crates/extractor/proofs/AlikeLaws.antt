-- The bind streams of two images whose writable segments and sections are the same: they spell the same binds, and break the same rules.
use Rattle.std.proofs.Common.{◌≡◌, ◌+◌, ℕ, Bool, true, false, not, ◌&&◌, nat_eq, nat_le, List, [], ◌∷◌, ◌++◌, length, map, refl, sym, ap, ap₂, ◌∙◌, if◌then◌else◌, Option, Some, None}
use Rattle.std.specs.Prelude.{option_map, slice_get}
use Rattle.std.specs.Option.{option_or, unwrap_or}
use Rattle.std.proofs.lemmas.Bool.{eqb-true}
use Rattle.dsc_base.specs.declared.fault.Site.{Site}
use Rattle.dsc_base.specs.declared.rule.Rule.{Rule}
use Rattle.dsc_base.specs.Refusals.{broken}
use Rattle.macho_image.specs.Records.{Seg, Img}
use Rattle.macho_image.specs.declared.section.Section.{Section}
use Rattle.macho_image.specs.declared.place.Location.{Location}
use Rattle.macho_image.specs.declared.places.record.PlaceFault.{PlaceFault}
use Rattle.macho_image.specs.declared.places.record.PlaceFault.TheVariants.{OutsideSegment, NotWritable}
use Rattle.macho_image.specs.Order.{addresses_of, in_address_order, first_close}
use Rattle.macho_image.specs.Places.{wrap, lies_in, section_at, segment_fault, section_fault, word_fault, address_in, place_fault, location, fault_in, location_in}
use Rattle.macho_image.specs.Runs.{first_fault}
use Rattle.macho_image.specs.Streams.{Opcodes, End, Refused, Next, opcodes_of, records, reading_break, site_in}
use Rattle.macho_image.proofs.Unbroken.{or_none}
use Rattle.bind_ops.specs.declared.kind.StreamKind.{StreamKind}
use Rattle.bind_ops.specs.Binds.{Settings, start, bound_at, is_set, symbol_of, record_fault, recorded, moved as set_after, meaning, binds_of, places_of, bind_break}
use Rattle.bind_ops.specs.Faults.{Reason, Place, BeforeSet, Twice, rule_in}
use Rattle.bind_ops.specs.Opcodes.{Opcode, spelling}
use Rattle.bind_ops.specs.Records.{BoundWord}

-- a segment that starts where another one does, with its size and protection
pub record IsLike (s t : Seg) : Type 0 where
  pub address : t.vmaddr ≡ s.vmaddr
  pub size : t.vmsize ≡ s.vmsize
  pub protection : t.initprot ≡ s.initprot

-- the sections are the same, and so is each writable segment
pub record AreLike (image own : Img) : Type 0 where
  pub sections : own.sections ≡ image.sections
  pub segments : (g : ℕ) (s : Seg) → slice_get image.segments g ≡ Some s → s.initprot ≡ 3 → (t : Seg) × ((slice_get own.segments g ≡ Some t) × IsLike s t)

no_site : (rule : Reason → Rule) (at : ℕ) (o : Option Reason) → option_map (site_in rule at) o ≡ None → o ≡ None
no_site rule at None none = refl
no_site rule at (Some fault) none = absurd (cc)

-- what is wrong with a word, by the numbers of its segment
abbrev fault_of : List Section → ℕ → ℕ → ℕ → ℕ → ℕ → ℕ → Option PlaceFault
fault_of xs g offset before start size protection =
    let address = wrap (start + offset) in
    option_or (if not (nat_le start address && nat_le (address + 8) (start + size)) then Some OutsideSegment else (if not (nat_eq protection 3) then Some NotWritable else None))
    (option_or (section_fault (section_at xs g address)) (word_fault address before))

abbrev location_of : List Section → ℕ → ℕ → ℕ → Location
location_of xs g offset start = record { segment = g; section = unwrap_or (section_at xs g (wrap (start + offset))) 0; address = wrap (start + offset) }

like_fault : (xs : List Section) (g offset before : ℕ) (s t : Seg) → IsLike s t → fault_in xs g (Some t) offset before ≡ fault_in xs g (Some s) offset before
like_fault xs g offset before s t like = λ i. fault_of xs g offset before (like.address i) (like.size i) (like.protection i)

like_location : (xs : List Section) (g offset : ℕ) (s t : Seg) → IsLike s t → location_in xs g (Some t) offset ≡ location_in xs g (Some s) offset
like_location xs g offset s t like = ap (location_of xs g offset) like.address

writable : (s : Seg) (a b : Bool) → nat_eq s.initprot 3 ≡ b → (if not a then Some OutsideSegment else (if not b then Some NotWritable else None)) ≡ None → s.initprot ≡ 3
writable s true true is none = eqb-true s.initprot 3 is
writable s true false is none = absurd (cc)
writable s false b is none = absurd (cc)

module _ (image own : Img) (alike : AreLike image own) where
  word_same : (g : Option ℕ) (offset before : ℕ) → place_fault image g offset before ≡ None → (place_fault own g offset before ≡ None) × (location own g offset ≡ location image g offset)
  unfolding place_fault location
  word_same None offset before none = absurd (cc)
  word_same (Some g) offset before none = go (slice_get image.segments g) refl none
    where
      go : (o : Option Seg) → slice_get image.segments g ≡ o → fault_in image.sections g o offset before ≡ None
          → (fault_in own.sections g (slice_get own.segments g) offset before ≡ None) × (location_in own.sections g (slice_get own.segments g) offset ≡ location_in image.sections g (slice_get image.segments g) offset)
      go None found none = absurd (cc)
      go (Some s) found none =
          let parts = or_none (segment_fault s (address_in s offset)) (option_or (section_fault (section_at image.sections g (address_in s offset))) (word_fault (address_in s offset) before)) none in
          let to = alike.segments g s found (writable s (lies_in s (address_in s offset)) (nat_eq s.initprot 3) refl parts.0) in (
            ap₂ (λ (xs : List Section) (o : Option Seg). fault_in xs g o offset before) alike.sections to.1.0 ∙ (like_fault image.sections g offset before s to.0 to.1.1 ∙ none),
            ap₂ (λ (xs : List Section) (o : Option Seg). location_in xs g o offset) alike.sections to.1.0
                ∙ (like_location image.sections g offset s to.0 to.1.1 ∙ sym (ap (λ (o : Option Seg). location_in image.sections g o offset) found)),
          )

  -- ---- records

  one_same : (s : Settings) (offset before : ℕ) → record_fault image s offset before ≡ None → (record_fault own s offset before ≡ None) × (bound_at own s offset ≡ bound_at image s offset)
  unfolding record_fault
  one_same s offset before none = go (is_set s) (place_fault image s.segment offset before) refl refl none
    where
      go : (b : Bool) (o : Option PlaceFault) → is_set s ≡ b → place_fault image s.segment offset before ≡ o → (if b then option_map Place o else Some BeforeSet) ≡ None
          → ((if is_set s then option_map Place (place_fault own s.segment offset before) else Some BeforeSet) ≡ None) × (bound_at own s offset ≡ bound_at image s offset)
      go true None set free none =
          let to = word_same s.segment offset before free in (
            (λ i. if set i then option_map Place (to.0 i) else Some BeforeSet),
            ap (λ (l : Location). let b : BoundWord = record { at = l; ordinal = unwrap_or s.ordinal 0; name = (symbol_of s.symbol).name; weak = (symbol_of s.symbol).weak; addend = s.addend } in b) to.1,
          )
      go true (Some fault) set free none = absurd (cc)
      go false o set free none = absurd (cc)

  run_same : (s : Settings) (before : ℕ) (offsets : List ℕ) → first_fault (record_fault image s) before offsets ≡ None
      → (first_fault (record_fault own s) before offsets ≡ None) × (map (bound_at own s) offsets ≡ map (bound_at image s) offsets)
  run_same s before [] none = (refl, refl)
  run_same s before (offset ∷ offsets) none =
      let two = or_none (record_fault image s offset before) (first_fault (record_fault image s) (before + 1) offsets) none in
      let one = one_same s offset before two.0 in
      let rest = run_same s (before + 1) offsets two.1 in
      (ap₂ (λ (a b : Option Reason). option_or a b) one.0 rest.0, ap₂ (λ (b : BoundWord) (bs : List BoundWord). b ∷ bs) one.1 rest.1)

  read_same : (stream : StreamKind) (s : Settings) (before : ℕ) (opcodes : Opcodes Opcode Reason) → reading_break (meaning stream image) s before opcodes ≡ None
      → (reading_break (meaning stream own) s before opcodes ≡ None) × (records (meaning stream own) s opcodes ≡ records (meaning stream image) s opcodes)
  unfolding reading_break records
  read_same stream s before End none = (refl, refl)
  read_same stream s before (Refused at fault) none = absurd (cc)
  read_same stream s before (Next at opcode more) none =
      let offsets = recorded s opcode in
      let two = or_none (option_map (site_in (rule_in stream) at) (first_fault (record_fault image s) before offsets)) (reading_break (meaning stream image) (set_after s opcode) (before + length offsets) more) none in
      let run = run_same s before offsets (no_site (rule_in stream) at (first_fault (record_fault image s) before offsets) two.0) in
      let rest = read_same stream (set_after s opcode) (before + length offsets) more two.1 in (
        ap₂ (λ (o : Option Reason) (r : Option Site). option_or (option_map (site_in (rule_in stream) at) o) r) run.0 rest.0,
        ap₂ (λ (bs cs : List BoundWord). bs ++ cs) run.1 rest.1,
      )

  pub binds_same : (stream : StreamKind) (bytes : List ℕ) → bind_break stream bytes image ≡ None → (bind_break stream bytes own ≡ None) × (binds_of stream bytes own ≡ binds_of stream bytes image)
  unfolding bind_break binds_of
  binds_same stream bytes none =
      let spelt = records (meaning stream image) start (opcodes_of (spelling stream) bytes) in
      let two = or_none (reading_break (meaning stream image) start 0 (opcodes_of (spelling stream) bytes)) (broken (rule_in stream Twice) (first_close (addresses_of (in_address_order (places_of spelt))))) none in
      let read = read_same stream start 0 (opcodes_of (spelling stream) bytes) two.0 in (
        ap₂ (λ (a : Option Site) (bs : List BoundWord). option_or a (broken (rule_in stream Twice) (first_close (addresses_of (in_address_order (places_of bs)))))) read.0 read.1 ∙ two.1,
        read.1,
      )
