-- Looking for the second command of a kind, one command after another, and for the least of several places.
use Rattle.std.proofs.Common.{◌≡◌, ◌<◌, ◌+◌, ℕ, Bool, true, List, drop, length, get_or, refl, sym, ap, ◌∙◌, arith, if◌then◌else◌, Option, Some, None, option_map, drop-cons, add-one}
use Rattle.std.specs.Prelude.{filter, slice_get}
use Rattle.macho_image.specs.Records.{Load}
use Rattle.macho_image.specs.Macho.{number_of}
use Rattle.macho_image.specs.Rules.{is_of_kind, second_of, second_of_any}
use Rattle.dsc_base.specs.Refusals.{least}

-- where the next command of the kind stands, or the one after it while none was seen
abbrev pub second_from : (ℕ × ℕ) → Bool → List Load → Option ℕ
second_from kind seen ls = option_map (λ l. l.at) (slice_get (filter (λ l. is_of_kind kind (number_of l.bytes)) ls) (if seen then 0 else 1))

pub second_here : (kind : ℕ × ℕ) (ls : List Load) (i : ℕ) (d : Load) → i < length ls → is_of_kind kind (number_of (get_or ls i d).bytes) ≡ true
    → second_from kind true (drop i ls) ≡ Some (get_or ls i d).at
second_here kind ls i d lt this = rw (drop-cons ls i d, this) refl

-- the least of three places, however they are joined
pub least_assoc : (a b c : Option ℕ) → least (least a b) c ≡ least a (least b c)
least_assoc None b c = refl
least_assoc (Some a) None c = refl
least_assoc (Some a) (Some b) None = refl
least_assoc (Some a) (Some b) (Some c) = ap Some (omega arith)

pub second_kinds_step : (ls : List Load) (kinds : List (ℕ × ℕ)) (i : ℕ) (d : ℕ × ℕ) (found found' : Option ℕ) → i < length kinds
    → found' ≡ least found (second_of ls (get_or kinds i d))
    → least found (second_of_any ls (drop i kinds)) ≡ least found' (second_of_any ls (drop (i + 1) kinds))
second_kinds_step ls kinds i d found found' lt is =
    let next : second_of_any ls (drop i kinds) ≡ least (second_of ls (get_or kinds i d)) (second_of_any ls (drop (i + 1) kinds)) = rw (add-one, drop-cons kinds i d) refl in
    ap (λ (o : Option ℕ). least found o) next
    ∙ (sym (least_assoc found (second_of ls (get_or kinds i d)) (second_of_any ls (drop (i + 1) kinds)))
    ∙ ap (λ (o : Option ℕ). least o (second_of_any ls (drop (i + 1) kinds))) (sym is))
