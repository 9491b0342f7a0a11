-- The export tries of images in which nothing is wrong.
use Rattle.std.proofs.Common.{◌≡◌, ◌≤◌, ℕ, zero, suc, ◌+◌, Bool, true, false, nat_eq, Option, Some, None, List, [], ◌∷◌, length, sym, ap, ap₂, ◌∙◌, subst, arith, if◌then◌else◌}
use Rattle.std.specs.Prelude.{slice_get, option_map}
use Rattle.std.specs.Option.{option_or}
use Rattle.dsc_base.specs.declared.fault.Finding.{Finding}
use Rattle.dsc_base.specs.RuleNames.{number_of}
use Rattle.dsc_base.specs.declared.finding_kind.FindingKind.TheVariants.{StreamBroken}
use Rattle.dsc_base.specs.declared.rule.Rule.TheVariants.{RebaseBadUleb}
use Rattle.macho_image.specs.Records.{Img}
use Rattle.macho_image.specs.TableRules.{table_break}
use Rattle.macho_image.specs.Order.{addresses_of}
use Rattle.bind_ops.specs.declared.kind.StreamKind.TheVariants.{Bind, Lazy}
use Rattle.bind_ops.specs.Binds.{binds_of, bind_break, places_of}
use Rattle.bind_ops.specs.Clash.{clash_break}
use Rattle.bind_ops.specs.Weak.{weak_break}
use Rattle.export_trie.specs.Order.{trie_break}
use Rattle.prebind.specs.Sets.{lists_of, image_set, IsSoundSet, AreStreamsOf}
use Rattle.prebind.proofs.SetLaws.{sound_set}
use Rattle.std.proofs.lemmas.Option.{slice_get-map}
use Rattle.load_model.specs.Phases.{images_of as file_images, files_break}
use Rattle.load_model.proofs.AcceptedFiles.{AreAccepted, accepted_files}
use Rattle.cache_header.specs.Findings.{finding}
use Rattle.cache_check.specs.Images.{images_of, each_of, rule_finding, broken_finding, name_finding, segment_finding, twice_finding, linkedit_break, stream_finding, images_finding}
use Rattle.cache_check.specs.Steps.Files.{HaveTries}
use Rattle.cache_check.specs.Views.{View}
use Rattle.cache_check.proofs.CachedLaws.{neither, no_rule}

pub each_none : {X : Type 0} (finds : ℕ → X → Option Finding) (n j : ℕ) (xs : List X) (x : X) → each_of finds n xs ≡ None → slice_get xs j ≡ Some x → finds (n + j) x ≡ None
unfolding each_of
each_none {X = X} finds n j [] x none got = absurd (cc)
each_none {X = X} finds n zero (y ∷ ys) x none got =
    let same : y ≡ x = cc in
    let here : n + 0 ≡ n = omega arith in
    ap₂ (λ (m : ℕ) (z : X). finds m z) here (sym same) ∙ (neither (finds n y) (each_of finds (n + 1) ys) none).0
each_none {X = X} finds n (suc j) (y ∷ ys) x none got =
    let next : n + suc j ≡ n + 1 + j = omega arith in
    ap (λ (m : ℕ). finds m x) next ∙ each_none finds (n + 1) j ys x (neither (finds n y) (each_of finds (n + 1) ys) none).1 got

unbroken_streams : (k : ℕ) (i : Img) → stream_finding k i ≡ None → linkedit_break i ≡ None
unfolding stream_finding
unbroken_streams k i none = at (nat_eq (length i.streams.rebase) 0) none
  where
    at : (b : Bool) → (if b then rule_finding StreamBroken k (linkedit_break i) else Some (finding StreamBroken k (number_of RebaseBadUleb))) ≡ None → linkedit_break i ≡ None
    at true none = no_rule StreamBroken k (linkedit_break i) none
    at false none = absurd (cc)

trie_none : (i : Img) → linkedit_break i ≡ None → trie_break i.streams.exports ≡ None
unfolding linkedit_break
trie_none i none =
    let one = neither (bind_break Bind i.streams.bind i) _ none in
    let two = neither (bind_break Lazy i.streams.lazy i) _ one.1 in
    let three = neither (weak_break i.streams.weak) _ two.1 in
    let four = neither (clash_break [] (addresses_of (places_of (binds_of Bind i.streams.bind i))) (addresses_of (places_of (binds_of Lazy i.streams.lazy i)))) _ three.1 in
    (neither (trie_break i.streams.exports) (option_or (table_break i) None) four.1).0

pub view_tries : (v : View) → images_finding v ≡ None → HaveTries (images_of v)
unfolding images_finding
view_tries v none k i got =
    let one = neither (each_of (broken_finding v.flat) 0 v.head.images) _ none in
    let two = neither (each_of (name_finding v.flat) 0 v.head.images) _ one.1 in
    let three = neither (each_of (segment_finding v.head.mappings (images_of v)) 0 (images_of v)) _ two.1 in
    let four = neither (each_of (twice_finding v.head.images) 0 v.head.images) _ three.1 in
    let five = neither (each_of stream_finding 0 (images_of v)) None four.1 in
    trie_none i (unbroken_streams (0 + k) i (each_none stream_finding 0 k (images_of v) i five.0 got))

pub file_tries : (files : List (List ℕ)) → length (file_images files) ≤ 4096 → files_break files ≡ None → HaveTries (file_images files)
unfolding image_set
file_tries files few none k i got =
    let accepted : AreAccepted files = accepted_files files none in
    let sound : IsSoundSet (image_set (file_images files)) = sound_set (file_images files) (omega (arith, few)) accepted.streams accepted.linked in
    let own : AreStreamsOf i (lists_of i) = sound.streams k i (lists_of i) got (slice_get-map lists_of (file_images files) k ∙ ap (λ (o : Option Img). option_map lists_of o) got) in
    subst (λ (l : List ℕ). trie_break l ≡ None) own.exports own.exports_accepted
