-- Images of a cache of which nothing is found are read, and make a sound set.
use Rattle.std.proofs.Common.{◌≡◌, ℕ, ◌+◌, Bool, true, false, nat_eq, Option, Some, None, List, [], ◌∷◌, length, refl, arith, if◌then◌else◌}
use Rattle.std.specs.Option.{option_or}
use Rattle.std.proofs.lemmas.Bool.{eqb-true}
use Rattle.std.proofs.lemmas.List.Elements.{All-cons, All-nil}
use Rattle.dsc_base.specs.RuleNames.{number_of}
use Rattle.dsc_base.specs.declared.fault.Site.{Site}
use Rattle.dsc_base.specs.declared.finding_kind.FindingKind.TheVariants.{StreamBroken}
use Rattle.dsc_base.specs.declared.rule.Rule.TheVariants.{RebaseBadUleb}
use Rattle.macho_image.specs.Records.{Img}
use Rattle.macho_image.specs.Order.{addresses_of}
use Rattle.macho_image.specs.TableRules.{table_break}
use Rattle.bind_ops.specs.declared.kind.StreamKind.TheVariants.{Bind, Lazy}
use Rattle.bind_ops.specs.Binds.{binds_of, bind_break, places_of}
use Rattle.bind_ops.specs.Clash.{clash_break}
use Rattle.bind_ops.specs.Weak.{weak_break}
use Rattle.export_trie.specs.Order.{trie_break}
use Rattle.cache_header.specs.Findings.{finding}
use Rattle.cache_check.specs.Images.{images_of, images_finding, each_of, rule_finding, linkedit_break, stream_finding, broken_finding, name_finding, segment_finding, twice_finding}
use Rattle.cache_check.specs.Views.{View}
use Rattle.extractor.specs.Reading.{IsRead, AreRead}

pub neither : {X : Type 0} (a b : Option X) → option_or a b ≡ None → (a ≡ None) × (b ≡ None)
neither None b none = (refl, none)
neither (Some x) b none = absurd (cc)

no_rule : (k : ℕ) (o : Option Site) → rule_finding StreamBroken k o ≡ None → o ≡ None
no_rule k None none = refl
no_rule k (Some s) none = absurd (cc)

empty : (xs : List ℕ) → nat_eq (length xs) 0 ≡ true → xs ≡ []
empty [] is = refl
empty (x ∷ xs) is = absurd (let none = eqb-true (length (x ∷ xs)) 0 is in omega (arith, none))

-- an image of which no stream is found
unfound : (k : ℕ) (i : Img) (b : Bool) → nat_eq (length i.streams.rebase) 0 ≡ b → (if b then rule_finding StreamBroken k (linkedit_break i) else Some (finding StreamBroken k (number_of RebaseBadUleb))) ≡ None → (i.streams.rebase ≡ []) × (linkedit_break i ≡ None)
unfound k i true is none = (empty i.streams.rebase is, no_rule k (linkedit_break i) none)
unfound k i false is none = absurd (cc)

read_parts : (i : Img) → i.streams.rebase ≡ [] → linkedit_break i ≡ None → IsRead i
unfolding linkedit_break
read_parts i rebases none =
    let binds = neither (bind_break Bind i.streams.bind i) _ none in
    let lazy = neither (bind_break Lazy i.streams.lazy i) _ binds.1 in
    let weak = neither (weak_break i.streams.weak) _ lazy.1 in
    let apart = neither (clash_break [] (addresses_of (places_of (binds_of Bind i.streams.bind i))) (addresses_of (places_of (binds_of Lazy i.streams.lazy i)))) _ weak.1 in
    let exports = neither (trie_break i.streams.exports) _ apart.1 in
    let tables = neither (table_break i) None exports.1 in
    record { rebases = rebases; binds = binds.0; lazy = lazy.0; weak = weak.0; apart = apart.0; exports = exports.0; tables = tables.0 }

is_read : (k : ℕ) (i : Img) → stream_finding k i ≡ None → IsRead i
unfolding stream_finding
is_read k i none = let parts = unfound k i (nat_eq (length i.streams.rebase) 0) refl none in read_parts i parts.0 parts.1

are_read : (k : ℕ) (images : List Img) → each_of stream_finding k images ≡ None → AreRead images
unfolding each_of
are_read k [] none = All-nil IsRead
are_read k (i ∷ is) none =
    let parts = neither (stream_finding k i) (each_of stream_finding (k + 1) is) none in
    All-cons IsRead i is (is_read k i parts.0) (are_read (k + 1) is parts.1)

-- ---- the five kinds of findings of images

pub record AreClean (v : View) : Type 0 where
  pub broken : each_of (broken_finding v.flat) 0 v.head.images ≡ None
  pub named : each_of (name_finding v.flat) 0 v.head.images ≡ None
  pub placed : each_of (segment_finding v.head.mappings (images_of v)) 0 (images_of v) ≡ None
  pub distinct : each_of (twice_finding v.head.images) 0 v.head.images ≡ None
  pub streams : each_of stream_finding 0 (images_of v) ≡ None

pub clean : (v : View) → images_finding v ≡ None → AreClean v
unfolding images_finding
clean v none =
    let broken = neither (each_of (broken_finding v.flat) 0 v.head.images) _ none in
    let named = neither (each_of (name_finding v.flat) 0 v.head.images) _ broken.1 in
    let placed = neither (each_of (segment_finding v.head.mappings (images_of v)) 0 (images_of v)) _ named.1 in
    let distinct = neither (each_of (twice_finding v.head.images) 0 v.head.images) _ placed.1 in
    let streams = neither (each_of stream_finding 0 (images_of v)) None distinct.1 in
    record { broken = broken.0; named = named.0; placed = placed.0; distinct = distinct.0; streams = streams.0 }

pub images_read : (v : View) → images_finding v ≡ None → AreRead (images_of v)
images_read v none = are_read 0 (images_of v) (clean v none).streams
