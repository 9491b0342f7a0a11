-- The binds of a stream, and the first rule that it breaks, from what was read and from its places, sorted.
use Rattle.std.proofs.Common.{◌≡◌, ℕ, Bool, true, false, List, length, get_or, refl, sym, ap, ◌∙◌, subst, arith, if◌then◌else◌, Option, Some, None}
use Rattle.std.specs.Prelude.{option_map}
use Rattle.std.specs.List.{AllPairs}
use Rattle.std.specs.List.Sorted.{IsPermutation, IsNonDecreasingBy}
use Rattle.std.specs.Option.{option_or}
use Rattle.std.proofs.lemmas.List.{get_or-map, length-map}
use Rattle.dsc_base.specs.declared.fault.Site.{Site}
use Rattle.dsc_base.specs.declared.fault.Fault.{Fault}
use Rattle.dsc_base.specs.declared.fault.Fault.TheVariants.{Broken, Memory}
use Rattle.macho_image.specs.Records.{Img}
use Rattle.dsc_base.specs.Refusals.{broken, IsRefusal}
use Rattle.macho_image.specs.declared.place.Location.{Location}
use Rattle.macho_image.proofs.Unbroken.{or_none, broken_none}
use Rattle.macho_image.specs.declared.places.record.PlaceFault.{PlaceFault}
use Rattle.macho_image.specs.Order.{in_address_order, addresses_of, is_near, first_close}
use Rattle.macho_image.specs.Places.{place_fault, IsWord}
use Rattle.dsc_base.specs.Limits.{record_limit}
use Rattle.macho_image.specs.Streams.{opcodes_of, records, reading_break}
use Rattle.macho_image.proofs.CloseLaws.{close_sorted, close_apart}
use Rattle.macho_image.proofs.StreamLaws.{Accepts, HasRead, accepted_records}
use Rattle.macho_image.proofs.WordLaws.{accepted_one}
use Rattle.bind_ops.specs.declared.kind.StreamKind.{StreamKind}
use Rattle.bind_ops.specs.Binds.{start, bound_at, is_set, record_fault, meaning, binds_of, places_of, bind_break, AreBinds}
use Rattle.bind_ops.specs.Faults.{Place, BeforeSet, Twice, rule_in}
use Rattle.bind_ops.specs.Opcodes.{spelling}
use Rattle.bind_ops.specs.Records.{BoundWord}

-- a fault that is the one that was found
pub refused_as : (found : Option Site) (fault : Fault) (site : Site) → fault ≡ Broken site → found ≡ Some site → IsRefusal found fault
refused_as found fault site is found_is = subst (λ (f : Fault). IsRefusal found f) (sym is) found_is

accepts : (image : Img) → Accepts (bound_at image) (record_fault image) (λ (b : BoundWord). IsWord image b.at) record_limit
unfolding record_fault
accepts image s offset before none =
    let one = accepted_one image s.segment offset before (placed (is_set s) (place_fault image s.segment offset before) none) in
    (one.word, one.few)
  where
    placed : (b : Bool) (o : Option PlaceFault) → (if b then option_map Place o else Some BeforeSet) ≡ None → o ≡ None
    placed true None none = refl
    placed true (Some fault) none = absurd (cc)
    placed false o none = absurd (cc)

apart_places : (bs : List BoundWord) → AllPairs (λ (l m : Location). is_near l.address m.address ≡ false) (places_of bs) → AllPairs (λ (a b : BoundWord). is_near a.at.address b.at.address ≡ false) bs
apart_places bs apart i j d lt within =
    let long : length (places_of bs) ≡ length bs = length-map bs (λ b. b.at) in
    let first : get_or (places_of bs) i d.at ≡ (get_or bs i d).at = get_or-map (λ (b : BoundWord). b.at) bs i d d.at (omega arith) in
    let second : get_or (places_of bs) j d.at ≡ (get_or bs j d).at = get_or-map (λ (b : BoundWord). b.at) bs j d d.at within in
    subst (λ (l : Location). is_near l.address (get_or bs j d).at.address ≡ false) first
    (subst (λ (m : Location). is_near (get_or (places_of bs) i d.at).address m.address ≡ false) second (apart i j d.at lt (omega arith)))

-- what a stream that breaks no rule gives
pub accepted_binds : (stream : StreamKind) (image : Img) (bytes : List ℕ) → bind_break stream bytes image ≡ None → AreBinds image (binds_of stream bytes image)
unfolding bind_break binds_of
accepted_binds stream image bytes none =
    let read = records (meaning stream image) start (opcodes_of (spelling stream) bytes) in
    let close = first_close (addresses_of (in_address_order (places_of read))) in
    let two = or_none (reading_break (meaning stream image) start 0 (opcodes_of (spelling stream) bytes)) (broken (rule_in stream Twice) close) none in
    let accepted = accepted_records (meaning stream image) (λ (b : BoundWord). IsWord image b.at) record_limit start 0 (opcodes_of (spelling stream) bytes) (accepts image) (omega arith) two.0 in
    record {
      few = omega (arith, accepted.few);
      apart = apart_places read (close_apart (places_of read) (broken_none (rule_in stream Twice) close two.1));
      all = accepted.all;
    }

-- a rule that is tried last
pub last_break : (stream : StreamKind) (image : Img) (bytes : List ℕ) (out : List BoundWord) (sorted : List Location) (o : Option ℕ)
    → HasRead (spelling stream) (meaning stream image) start bytes out → IsPermutation (places_of out) sorted → IsNonDecreasingBy (λ (l : Location). l.address) sorted
    → o ≡ first_close (addresses_of sorted) → bind_break stream bytes image ≡ broken (rule_in stream Twice) o
unfolding bind_break binds_of
last_break stream image bytes out sorted o read moved rises is =
    let all = binds_of stream bytes image in
    let close : first_close (addresses_of (in_address_order (places_of out))) ≡ o = sym (is ∙ close_sorted (places_of out) sorted moved rises) in
    ap (λ (p : Option Site). option_or p (broken (rule_in stream Twice) (first_close (addresses_of (in_address_order (places_of all)))))) read.sound
    ∙ ap (λ (p : Option ℕ). broken (rule_in stream Twice) p) (ap (λ (bs : List BoundWord). first_close (addresses_of (in_address_order (places_of bs)))) (sym read.added) ∙ close)

pub read_found : (stream : StreamKind) (image : Img) (bytes : List ℕ) (out : List BoundWord) → HasRead (spelling stream) (meaning stream image) start bytes out → out ≡ binds_of stream bytes image
unfolding binds_of
read_found stream image bytes out read = read.added

pub read_sound : (stream : StreamKind) (image : Img) (bytes : List ℕ) (out : List BoundWord) → HasRead (spelling stream) (meaning stream image) start bytes out → bind_break stream bytes image ≡ None → AreBinds image out
read_sound stream image bytes out read none =
    subst (λ (bs : List BoundWord). AreBinds image bs) (sym (read_found stream image bytes out read)) (accepted_binds stream image bytes none)

-- a fault in reading goes before it
pub read_fault : (stream : StreamKind) (image : Img) (bytes : List ℕ) (fault : Fault) → IsRefusal (reading_break (meaning stream image) start 0 (opcodes_of (spelling stream) bytes)) fault → IsRefusal (bind_break stream bytes image) fault
unfolding bind_break
read_fault stream image bytes Memory refused = tt
read_fault stream image bytes (Broken site) refused =
    ap (λ (p : Option Site). option_or p (broken (rule_in stream Twice) (first_close (addresses_of (in_address_order (places_of (binds_of stream bytes image))))))) refused
