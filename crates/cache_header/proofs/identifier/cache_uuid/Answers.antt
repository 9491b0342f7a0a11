use Rattle.std.proofs.Common.{◌≡◌, ◌∙◌, ◌++◌, ap, List, ℕ, take, arith}
use Rattle.std.specs.List.{concat}
use Rattle.std.proofs.lemmas.List.{take_all}
use Rattle.sha1.specs.Sha1.{sha1}
use Rattle.uuid.specs.Parts.{with_version, with_variant}
use Rattle.uuid.specs.Uuid.{namespace_oid}
use Rattle.uuid.specs.declared.Version.TheVariants.{Sha1}
use Rattle.uuid.specs.declared.Variant.TheVariants.{RFC4122}
use Rattle.cache_header.specs.Identifier.{identifier_of}
use Rattle.cache_header.proofs.TableLaws.{concat_take}
use Rattle.cache_header.proofs.identifier.cache_uuid.Goals as goal

pub loop-image-preserved : goal.loop-image-preserved
loop-image-preserved c =
    c.in_ok-extend_from_slice.ensures.items ∙ concat_take c.args.images.now c.loop-image.image-index _ c.loop-image.joined.items c.loop-image-test.true c.loop-image.invariant

pub returns : goal.returns
unfolding identifier_of
returns c =
    let joined : c.deref.result.now ≡ concat c.args.images.now =
    c.deref.ensures.value ∙ (c.loop-image.invariant ∙ ap concat (take_all c.loop-image.image-index c.args.images.now (omega arith))) in
    c.into_bytes.ensures ∙ (c.new_v5.ensures.value
    ∙ ap (λ (l : List ℕ). with_version (with_variant (take 16 (sha1 (namespace_oid ++ l))) RFC4122) Sha1) joined)
