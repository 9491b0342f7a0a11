use Rattle.std.proofs.Common.{rules, List, subst, sym, ap, ◌∙◌}
use Rattle.std.specs.List.Sorted.{IsNonDecreasingBy}
use Rattle.std.proofs.lemmas.List.Sorted.{IsNonDecreasingBy-from_sort_by_key}
use Rattle.macho_image.specs.declared.place.Location.{Location}
use Rattle.macho_image.specs.Order.{addresses_of, first_close}
use Rattle.rebase_ops.specs.Rebases.{rebase_break}
use Rattle.macho_image.proofs.StreamLaws.{refuses_on}
use Rattle.rebase_ops.proofs.RebaseLaws.{sorted_read, read_close, read_apart, read_found, read_sound, read_fault}
use Rattle.rebase_ops.proofs.read.read_rebases.Goals as goal

pub returns-in_err-locations-clause-cause : goal.returns-in_err-locations-clause-cause
returns-in_err-locations-clause-cause c =
    refuses_on (rebase_break c.args.stream.now c.args.image.now) c.from_residual.result c.in_err-locations.field-0.0 c.from_residual.ensures.1
    (read_fault c.args.image.now c.args.stream.now c.in_err-locations.field-0.0 c.in_err-locations.ensures.cause)

pub first_close-requires : goal.first_close-requires
first_close-requires c =
    subst (λ (ls : List Location). IsNonDecreasingBy (λ l. l.address) ls) (sym c.deref.ensures.value)
    (IsNonDecreasingBy-from_sort_by_key (λ (l : Location). l.address) c.sort_by_key.new.self.items c.in_ok-sort_by_key.ensures.sorted (λ a r f h. search rules))

pub returns-in-Some-clause-cause : goal.returns-in-Some-clause-cause
returns-in-Some-clause-cause c =
    let sorted = c.sort_by_key.new.self.items in
    let rises = IsNonDecreasingBy-from_sort_by_key (λ (l : Location). l.address) sorted c.in_ok-sort_by_key.ensures.sorted (λ a r f h. search rules) in
    let read = sorted_read c.args.image.now c.args.stream.now c.in_ok-locations.locations.items sorted
    (record { added = c.in_ok-locations.ensures.found; sound = c.in_ok-locations.ensures.cause }) c.in_ok-sort_by_key.ensures.permutation rises in
    read_close c.args.image.now c.args.stream.now sorted c.in-Some.at read (ap (λ (ls : List Location). first_close (addresses_of ls)) (sym c.deref.ensures.value) ∙ sym c.in-Some.ensures)

pub returns-in-None-clause-found : goal.returns-in-None-clause-found
returns-in-None-clause-found c =
    let sorted = c.sort_by_key.new.self.items in
    let rises = IsNonDecreasingBy-from_sort_by_key (λ (l : Location). l.address) sorted c.in_ok-sort_by_key.ensures.sorted (λ a r f h. search rules) in
    let read = sorted_read c.args.image.now c.args.stream.now c.in_ok-locations.locations.items sorted
    (record { added = c.in_ok-locations.ensures.found; sound = c.in_ok-locations.ensures.cause }) c.in_ok-sort_by_key.ensures.permutation rises in
    read_found c.args.image.now c.args.stream.now sorted read (ap (λ (ls : List Location). first_close (addresses_of ls)) (sym c.deref.ensures.value) ∙ sym c.in-None.ensures)

pub returns-in-None-clause-sound : goal.returns-in-None-clause-sound
returns-in-None-clause-sound c =
    let sorted = c.sort_by_key.new.self.items in
    let rises = IsNonDecreasingBy-from_sort_by_key (λ (l : Location). l.address) sorted c.in_ok-sort_by_key.ensures.sorted (λ a r f h. search rules) in
    let read = sorted_read c.args.image.now c.args.stream.now c.in_ok-locations.locations.items sorted
    (record { added = c.in_ok-locations.ensures.found; sound = c.in_ok-locations.ensures.cause }) c.in_ok-sort_by_key.ensures.permutation rises in
    read_sound c.args.image.now c.args.stream.now sorted read (ap (λ (ls : List Location). first_close (addresses_of ls)) (sym c.deref.ensures.value) ∙ sym c.in-None.ensures)

pub returns-in-None-clause-cause : goal.returns-in-None-clause-cause
returns-in-None-clause-cause c =
    let sorted = c.sort_by_key.new.self.items in
    let rises = IsNonDecreasingBy-from_sort_by_key (λ (l : Location). l.address) sorted c.in_ok-sort_by_key.ensures.sorted (λ a r f h. search rules) in
    let read = sorted_read c.args.image.now c.args.stream.now c.in_ok-locations.locations.items sorted
    (record { added = c.in_ok-locations.ensures.found; sound = c.in_ok-locations.ensures.cause }) c.in_ok-sort_by_key.ensures.permutation rises in
    read_apart c.args.image.now c.args.stream.now sorted read (ap (λ (ls : List Location). first_close (addresses_of ls)) (sym c.deref.ensures.value) ∙ sym c.in-None.ensures)
