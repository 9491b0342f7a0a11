-- The rebases of a stream, and the first rule that it breaks, from what was read and sorted.
use Rattle.std.proofs.Common.{◌≡◌, ℕ, List, refl, sym, ap, ◌∙◌, subst, arith, Option, Some, None}
use Rattle.std.specs.Prelude.{option_map}
use Rattle.std.specs.List.{sum_by}
use Rattle.std.specs.List.Sorted.{IsPermutation, IsNonDecreasingBy}
use Rattle.std.specs.Option.{option_or}
use Rattle.std.proofs.lemmas.List.Sorted.{sum_by-IsPermutation}
use Rattle.dsc_base.specs.declared.fault.Site.{Site}
use Rattle.dsc_base.specs.declared.fault.Fault.{Fault}
use Rattle.dsc_base.specs.declared.fault.Fault.TheVariants.{Broken, Memory}
use Rattle.dsc_base.specs.declared.rule.Rule.TheVariants.{RebasedTwice}
use Rattle.macho_image.specs.Records.{Img}
use Rattle.dsc_base.specs.Refusals.{broken, IsRefusal}
use Rattle.macho_image.specs.declared.place.Location.{Location}
use Rattle.macho_image.proofs.Unbroken.{or_none, broken_none}
use Rattle.macho_image.specs.declared.places.record.PlaceFault.{PlaceFault}
use Rattle.macho_image.specs.Order.{in_address_order, addresses_of, first_close}
use Rattle.macho_image.specs.Places.{place_fault, location, IsWord}
use Rattle.dsc_base.specs.Limits.{record_limit}
use Rattle.macho_image.specs.Streams.{opcodes_of, records, reading_break}
use Rattle.macho_image.proofs.CloseLaws.{close_is, close_spaced, close_sorted, spaced_apart}
use Rattle.macho_image.proofs.OrderLaws.{order_moves, all_in_order, length_in_order, UpFrom, up_from, up_in_order, sum_in_order, same_list}
use Rattle.macho_image.proofs.StreamLaws.{Accepts, HasRead, accepted_records}
use Rattle.macho_image.proofs.WordLaws.{accepted_one}
use Rattle.rebase_ops.specs.Opcodes.{spelling}
use Rattle.rebase_ops.specs.Rebases.{State, start, rule_of, record_fault, meaning, rebases_of, rebase_break, AreRebases}

no_rule : (o : Option PlaceFault) → option_map rule_of o ≡ None → o ≡ None
no_rule None none = refl
no_rule (Some fault) none = absurd (cc)

accepts : (image : Img) → Accepts (λ (s : State) (offset : ℕ). location image s.segment offset) (λ (s : State). record_fault image s.segment) (IsWord image) record_limit
accepts image s offset before none =
    let one = accepted_one image s.segment offset before (no_rule (place_fault image s.segment offset before) none) in
    (one.word, one.few)

-- what a stream that breaks no rule gives
pub accepted_rebases : (image : Img) (bytes : List ℕ) → rebase_break bytes image ≡ None → AreRebases image (rebases_of bytes image)
unfolding rebase_break rebases_of
accepted_rebases image bytes none =
    let read = records (meaning image) start (opcodes_of spelling bytes) in
    let two = or_none (reading_break (meaning image) start 0 (opcodes_of spelling bytes)) (broken RebasedTwice (first_close (addresses_of (in_address_order read)))) none in
    let accepted = accepted_records (meaning image) (IsWord image) record_limit start 0 (opcodes_of spelling bytes) (accepts image) (omega arith) two.0 in
    let far = broken_none RebasedTwice (first_close (addresses_of (in_address_order read))) two.1 in
    let spaced = close_spaced 0 (in_address_order read) (up_in_order read) (sym (close_is (in_address_order read) (up_in_order read)) ∙ far) in
    record {
      few = omega (arith, accepted.few, length_in_order read);
      apart = spaced_apart 0 (in_address_order read) spaced;
      all = all_in_order (IsWord image) read accepted.all;
    }

-- what was read, sorted
pub record IsSortedRead (image : Img) (bytes : List ℕ) (sorted : List Location) : Type 0 where
  pub sound : reading_break (meaning image) start 0 (opcodes_of spelling bytes) ≡ None
  pub rises : UpFrom 0 sorted
  pub weights : (weight : Location → ℕ) → sum_by weight sorted ≡ sum_by weight (rebases_of bytes image)
  pub close : first_close (addresses_of sorted) ≡ first_close (addresses_of (rebases_of bytes image))

pub sorted_read : (image : Img) (bytes : List ℕ) (out sorted : List Location) → HasRead spelling (meaning image) start bytes out → IsPermutation out sorted → IsNonDecreasingBy (λ l. l.address) sorted → IsSortedRead image bytes sorted
unfolding rebases_of
sorted_read image bytes out sorted read moved rises = record {
  sound = read.sound;
  rises = up_from 0 sorted (λ d some. omega arith) rises;
  weights = λ weight. sum_by-IsPermutation weight out sorted moved ∙ (ap (sum_by weight) read.added ∙ sym (sum_in_order weight (records (meaning image) start (opcodes_of spelling bytes))));
  close =
      subst (λ (ls : List Location). first_close (addresses_of sorted) ≡ first_close (addresses_of (in_address_order ls))) read.added (close_sorted out sorted moved rises);
}

rises-rebases : (image : Img) (bytes : List ℕ) → UpFrom 0 (rebases_of bytes image)
unfolding rebases_of
rises-rebases image bytes = up_in_order (records (meaning image) start (opcodes_of spelling bytes))

-- a rule that is tried last
last_break : (image : Img) (bytes : List ℕ) (sorted : List Location) (o : Option ℕ) → IsSortedRead image bytes sorted → first_close (addresses_of sorted) ≡ o → rebase_break bytes image ≡ broken RebasedTwice o
unfolding rebase_break
last_break image bytes sorted o read is =
    ap (λ (p : Option Site). option_or p (broken RebasedTwice (first_close (addresses_of (rebases_of bytes image))))) read.sound
    ∙ ap (λ (p : Option ℕ). broken RebasedTwice p) (sym read.close ∙ is)

pub read_close : (image : Img) (bytes : List ℕ) (sorted : List Location) (at : ℕ) → IsSortedRead image bytes sorted → first_close (addresses_of sorted) ≡ Some at → rebase_break bytes image ≡ Some (record { rule = RebasedTwice; at = at })
read_close image bytes sorted at read is = last_break image bytes sorted (Some at) read is

pub read_apart : (image : Img) (bytes : List ℕ) (sorted : List Location) → IsSortedRead image bytes sorted → first_close (addresses_of sorted) ≡ None → rebase_break bytes image ≡ None
read_apart image bytes sorted read is = last_break image bytes sorted None read is

pub read_found : (image : Img) (bytes : List ℕ) (sorted : List Location) → IsSortedRead image bytes sorted → first_close (addresses_of sorted) ≡ None → sorted ≡ rebases_of bytes image
read_found image bytes sorted read is =
    same_list 0 0 sorted (rebases_of bytes image) (close_spaced 0 sorted read.rises (sym (close_is sorted read.rises) ∙ is)) (rises-rebases image bytes) read.weights

pub read_sound : (image : Img) (bytes : List ℕ) (sorted : List Location) → IsSortedRead image bytes sorted → first_close (addresses_of sorted) ≡ None → AreRebases image sorted
read_sound image bytes sorted read is =
    subst (λ (ls : List Location). AreRebases image ls) (sym (read_found image bytes sorted read is)) (accepted_rebases image bytes (read_apart image bytes sorted read is))

-- a fault in reading goes before it
pub read_fault : (image : Img) (bytes : List ℕ) (fault : Fault) → IsRefusal (reading_break (meaning image) start 0 (opcodes_of spelling bytes)) fault → IsRefusal (rebase_break bytes image) fault
unfolding rebase_break
read_fault image bytes Memory refused = tt
read_fault image bytes (Broken site) refused = ap (λ (p : Option Site). option_or p (broken RebasedTwice (first_close (addresses_of (rebases_of bytes image))))) refused

-- the rebases are the locations that were recorded, in another order
pub rebases_recorded : (image : Img) (bytes : List ℕ) → IsPermutation (records (meaning image) start (opcodes_of spelling bytes)) (rebases_of bytes image)
unfolding rebases_of
rebases_recorded image bytes = order_moves (records (meaning image) start (opcodes_of spelling bytes))
