-- The parts of a header, one behind the other.
use Rattle.std.proofs.Common.{◌≡◌, ◌++◌, ℕ, List}
use Rattle.dsc_base.specs.Fields.{spelled}
use Rattle.dsc_gen.specs.declared.spots.Spots.{Spots}
use Rattle.dsc_gen.specs.Commands.{header_fields, ncmds, sizeofcmds, segments_bytes, own_name, dyld_info_fields, uuid_command, needed, split_fields, header_bytes}
use Rattle.dsc_gen.proofs.ListingLaws.{seven}

pub header_put : (size k linkedit : ℕ) (identifier : List ℕ) (spots : Spots) (old one two three four five six new : List ℕ)
    → one ≡ old ++ spelled (header_fields (ncmds k) (sizeofcmds k)) → two ≡ one ++ segments_bytes size linkedit → three ≡ two ++ own_name k → four ≡ three ++ spelled (dyld_info_fields spots)
    → five ≡ four ++ uuid_command identifier → six ≡ five ++ needed k → new ≡ six ++ spelled (split_fields spots.split) → new ≡ old ++ header_bytes size k linkedit identifier spots
unfolding header_bytes
header_put size k linkedit identifier spots old one two three four five six new p q r s t u v =
    seven old one two three four five six new (spelled (header_fields (ncmds k) (sizeofcmds k))) (segments_bytes size linkedit) (own_name k) (spelled (dyld_info_fields spots)) (uuid_command identifier) (needed k)
    (spelled (split_fields spots.split)) p q r s t u v
