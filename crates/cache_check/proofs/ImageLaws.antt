-- What is found of one image.
use Rattle.std.proofs.Common.{◌≡◌, ◌<◌, ℕ, Bool, true, false, not, nat_eq, Some, None, List, map, length, get_or, refl, sym, ap, ◌∙◌}
use Rattle.std.proofs.lemmas.Bool.{cond-true, cond-false}
use Rattle.std.proofs.lemmas.List.{get_or-map}
use Rattle.dsc_base.specs.RuleNames.{number_of}
use Rattle.dsc_base.specs.declared.finding_kind.FindingKind.TheVariants.{NameDiffers, StreamBroken}
use Rattle.dsc_base.specs.declared.rule.Rule.TheVariants.{RebaseBadUleb}
use Rattle.macho_image.specs.Records.{Img}
use Rattle.macho_image.specs.Rules.{same_bytes}
use Rattle.cache_header.specs.Findings.{finding}
use Rattle.cache_header.specs.Records.{Entry}
use Rattle.cache_check.specs.Images.{header_place, image_in, rule_finding, name_finding, linkedit_break, stream_finding}

pub not_true : (b : Bool) → not b ≡ true → b ≡ false
not_true false is = refl
not_true true is = absurd (cc)

pub not_false : (b : Bool) → not b ≡ false → b ≡ true
not_false true is = refl
not_false false is = absurd (cc)

-- ---- streams

pub rebased_found : (k : ℕ) (i : Img) → not (nat_eq (length i.streams.rebase) 0) ≡ true → stream_finding k i ≡ Some (finding StreamBroken k (number_of RebaseBadUleb))
unfolding stream_finding
rebased_found k i is = cond-false (nat_eq (length i.streams.rebase) 0) (rule_finding StreamBroken k (linkedit_break i)) (Some (finding StreamBroken k (number_of RebaseBadUleb))) (not_true (nat_eq (length i.streams.rebase) 0) is)

pub unrebased : (k : ℕ) (i : Img) → not (nat_eq (length i.streams.rebase) 0) ≡ false → stream_finding k i ≡ rule_finding StreamBroken k (linkedit_break i)
unfolding stream_finding
unrebased k i is = cond-true (nat_eq (length i.streams.rebase) 0) (rule_finding StreamBroken k (linkedit_break i)) (Some (finding StreamBroken k (number_of RebaseBadUleb))) (not_false (nat_eq (length i.streams.rebase) 0) is)

-- ---- names

-- the image that was read at a number
image_at : (bytes : List ℕ) (entries : List Entry) (images : List Img) (n : ℕ) (e : Entry) (i : Img) → images ≡ map (image_in bytes) entries → n < length entries → e ≡ get_or entries n e → i ≡ get_or images n i → i ≡ image_in bytes e
image_at bytes entries images n e i are lt at is =
    is ∙ (ap (λ (l : List Img). get_or l n i) are ∙ (get_or-map (image_in bytes) entries n e i lt ∙ ap (λ (d : Entry). image_in bytes d) (sym at)))

pub differs : (bytes : List ℕ) (entries : List Entry) (images : List Img) (n : ℕ) (e : Entry) (i : Img) → images ≡ map (image_in bytes) entries → n < length entries → e ≡ get_or entries n e → i ≡ get_or images n i
    → same_bytes i.install_name e.path ≡ false → name_finding bytes n e ≡ Some (finding NameDiffers n (header_place e))
unfolding name_finding
differs bytes entries images n e i are lt at is other =
    cond-false (same_bytes (image_in bytes e).install_name e.path) None (Some (finding NameDiffers n (header_place e)))
    (ap (λ (j : Img). same_bytes j.install_name e.path) (sym (image_at bytes entries images n e i are lt at is)) ∙ other)

pub same_name : (bytes : List ℕ) (entries : List Entry) (images : List Img) (n : ℕ) (e : Entry) (i : Img) → images ≡ map (image_in bytes) entries → n < length entries → e ≡ get_or entries n e → i ≡ get_or images n i
    → same_bytes i.install_name e.path ≡ true → name_finding bytes n e ≡ None
unfolding name_finding
same_name bytes entries images n e i are lt at is same =
    cond-true (same_bytes (image_in bytes e).install_name e.path) None (Some (finding NameDiffers n (header_place e)))
    (ap (λ (j : Img). same_bytes j.install_name e.path) (sym (image_at bytes entries images n e i are lt at is)) ∙ same)
