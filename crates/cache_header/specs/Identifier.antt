-- The identifier of a cache: version 5 of RFC 9562, in the OID namespace, over the images' identifiers joined.
use Rattle.std.specs.Prelude.{List, ℕ, ◌++◌, take}
use Rattle.std.specs.List.{concat}
use Rattle.sha1.specs.Sha1.{sha1}
use Rattle.uuid.specs.Parts.{with_version, with_variant}
use Rattle.uuid.specs.Uuid.{namespace_oid}
use Rattle.uuid.specs.declared.Version.TheVariants.{Sha1}
use Rattle.uuid.specs.declared.Variant.TheVariants.{RFC4122}

unfoldable pub identifier_of : List (List ℕ) → List ℕ
identifier_of images = with_version (with_variant (take 16 (sha1 (namespace_oid ++ concat images))) RFC4122) Sha1
