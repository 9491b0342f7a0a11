-- The values by which contracts see the head of a cache and the images of its tables.
use Rattle.std.specs.Prelude.{ℕ, List}
use Rattle.dsc_base.specs.declared.fault.Span.{Span}
use Rattle.cache_header.specs.declared.head.Mapping.{Mapping}

-- an image of the tables: the address of its header, its path, its identifier, and its text segment's size
pub record Entry : Type 0 where
  pub address : ℕ
  pub path : List ℕ
  pub uuid : List ℕ
  pub text_size : ℕ

-- a head
pub record Head : Type 0 where
  pub mappings : List Mapping
  pub images : List Entry
  pub slide_info : Span
  pub uuid : List ℕ
  pub max_slide : ℕ
