-- An identifier has 16 bytes.
use Rattle.std.proofs.Common.{◌≡◌, ◌≤◌, ℕ, zero, suc, ◌+◌, ◌*◌, ◌/◌, ◌%◌, List, ◌++◌, take, length, refl, ◌∙◌, arith, length-append}
use Rattle.std.specs.Prelude.{slice_index}
use Rattle.std.specs.List.{concat}
use Rattle.std.specs.Int.{to_be_bytes, w32}
use Rattle.std.proofs.lemmas.List.{length-set, length-take-le}
use Rattle.sha1.specs.Sha1.{sha1, digest_bytes, hash_after, padded_message}
use Rattle.uuid.specs.Parts.{with_version, with_variant, variant_byte, version_number}
use Rattle.uuid.specs.Uuid.{namespace_oid}
use Rattle.uuid.specs.declared.Version.TheVariants.{Sha1}
use Rattle.uuid.specs.declared.Variant.TheVariants.{RFC4122}
use Rattle.cache_header.specs.Identifier.{identifier_of}

digest_length : (h : List ℕ) (n : ℕ) → length (digest_bytes h n) ≡ 4 * n
unfolding digest_bytes
digest_length h zero = refl
digest_length h (suc n) =
    let before : length (digest_bytes h n) ≡ 4 * n = digest_length h n in
    omega (arith, before, length-append (digest_bytes h n) (to_be_bytes w32 (slice_index h n)))

sha1_length : (m : List ℕ) → length (sha1 m) ≡ 20
unfolding sha1
sha1_length m = digest_length (hash_after (padded_message m) (length (padded_message m) / 64)) 5

named_length : (digest : List ℕ) → 16 ≤ length digest → length (with_version (with_variant (take 16 digest) RFC4122) Sha1) ≡ 16
named_length digest long =
    length-set (with_variant (take 16 digest) RFC4122) 6 (slice_index (with_variant (take 16 digest) RFC4122) 6 % 16 + version_number Sha1 * 16)
    ∙ (length-set (take 16 digest) 8 (variant_byte (slice_index (take 16 digest) 8) RFC4122)
    ∙ length-take-le 16 digest long)

pub identifier_length : (images : List (List ℕ)) → length (identifier_of images) ≡ 16
unfolding identifier_of
identifier_length images =
    named_length (sha1 (namespace_oid ++ concat images)) (omega (arith, sha1_length (namespace_oid ++ concat images)))
