-- The new number of a word leads to the word's target in the cache.
use Rattle.std.proofs.Common.{◌≡◌, ◌<◌, ℕ, ◌^◌, true, List, arith}
use Rattle.macho_image.specs.Records.{Seg}
use Rattle.split_info.specs.declared.reference.RefKind.{RefKind}
use Rattle.prebind.specs.declared.resolved.WordTarget.{WordTarget}
use Rattle.prebind.specs.declared.resolved.WordTarget.TheVariants.{Place, Constant}
use Rattle.prebind.specs.Numbers.{Starts, LeadsTo, CanLead}
use Rattle.prebind.specs.Words.{Word}
use Rattle.prebind.proofs.NumberLaws.{number_leads}
use Rattle.cache_layout.specs.Layouts.{Laid}
use Rattle.ref_rewrite.specs.Moving.{new_starts, header_move, new_address, new_number, has_bytes, can_lead}

can_be_led : (starts : Starts) (location header : ℕ) (kind : RefKind) (target : WordTarget) → has_bytes starts location header kind target ≡ true → CanLead starts location header kind target
can_be_led starts location header kind (Place k g distance) can = can
can_be_led starts location header kind (Constant c) can = tt

address_small : (l : Laid) (k : ℕ) (ss : List Seg) (g address : ℕ) → new_address l k ss g address < 2 ^ 64
unfolding new_address
address_small l k ss g address = omega arith

-- where the word has bytes for it, which rules 151 and 152 say of references
pub new_number_leads : (l : Laid) (k : ℕ) (ss : List Seg) (w : Word) → (header_move l k ss).address < 2 ^ 64 → can_lead l k ss w ≡ true
    → LeadsTo (new_starts l) (new_address l k ss w.at.segment w.at.address) (header_move l k ss).address w.kind (new_number l k ss w) w.target
unfolding new_number can_lead
new_number_leads l k ss w low can =
    let location : ℕ = new_address l k ss w.at.segment w.at.address in
    number_leads (new_starts l) location (header_move l k ss).address w.kind w.target (address_small l k ss w.at.segment w.at.address) low
    (can_be_led (new_starts l) location (header_move l k ss).address w.kind w.target can)
