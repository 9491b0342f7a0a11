-- Which numbers and identifiers fit their fields, as those of the code's types do.
use Rattle.std.specs.Prelude.{◌≡◌, ◌<◌, ◌^◌, length, All}
use Rattle.cache_header.specs.declared.head.Mapping.{Mapping}
use Rattle.cache_header.specs.Records.{Entry, Head}

pub record FitsMapping (m : Mapping) : Type 0 where
  pub address : m.address < 2 ^ 64
  pub size : m.size < 2 ^ 64
  pub file : m.file < 2 ^ 64
  pub max_prot : m.max_prot < 2 ^ 32
  pub init_prot : m.init_prot < 2 ^ 32

pub record FitsEntry (e : Entry) : Type 0 where
  pub address : e.address < 2 ^ 64
  pub uuid : length e.uuid ≡ 16
  pub text_size : e.text_size < 2 ^ 32

pub record FitsHead (h : Head) : Type 0 where
  pub mappings : All FitsMapping h.mappings
  pub images : All FitsEntry h.images
  pub slide_at : h.slide_info.at < 2 ^ 64
  pub slide_len : h.slide_info.len < 2 ^ 64
  pub uuid : length h.uuid ≡ 16
  pub max_slide : h.max_slide < 2 ^ 64
