-- The values by which contracts see an image and its parts: the fields of its load commands, and parts of its file as lists of bytes.
use Rattle.std.specs.Prelude.{ℕ, List, Option, Bool}
use Rattle.macho_image.specs.declared.form.LinkKind.{LinkKind}
use Rattle.macho_image.specs.declared.section.Section.{Section}

-- a segment, with the part of the file that it maps
pub record Seg : Type 0 where
  pub name : List ℕ
  pub vmaddr : ℕ
  pub vmsize : ℕ
  pub fileoff : ℕ
  pub filesize : ℕ
  pub maxprot : ℕ
  pub initprot : ℕ
  pub flags : ℕ
  pub bytes : List ℕ

-- a dylib that is needed
pub record Dep : Type 0 where
  pub kind : LinkKind
  pub name : List ℕ

-- the parts of the linkedit
pub record StreamBytes : Type 0 where
  pub rebase : List ℕ
  pub bind : List ℕ
  pub weak : List ℕ
  pub lazy : List ℕ
  pub exports : List ℕ
  pub split : Option (List ℕ)
  pub function_starts : List ℕ
  pub data_in_code : List ℕ
  pub symbols : List ℕ
  pub strings : List ℕ
  pub indirect : List ℕ

-- an image
pub record Img : Type 0 where
  pub install_name : List ℕ
  pub segments : List Seg
  pub sections : List Section
  pub dependencies : List Dep
  pub streams : StreamBytes
  pub groups : List ℕ
  pub uuid : List ℕ
  pub has_dyld_info : Bool
  pub header : List ℕ

-- a load command, with its offset from the start of the header
pub record Load : Type 0 where
  pub at : ℕ
  pub bytes : List ℕ

-- the fields of a section_64 that are read
pub record SectionLoad : Type 0 where
  pub name : List ℕ
  pub segment_name : List ℕ
  pub addr : ℕ
  pub size : ℕ
  pub offset : ℕ
  pub nreloc : ℕ
  pub flags : ℕ

-- the fields of a segment command with its sections, its offset from the start of the header, and its length
pub record SegmentLoad : Type 0 where
  pub at : ℕ
  pub size : ℕ
  pub name : List ℕ
  pub vmaddr : ℕ
  pub vmsize : ℕ
  pub fileoff : ℕ
  pub filesize : ℕ
  pub maxprot : ℕ
  pub initprot : ℕ
  pub nsects : ℕ
  pub flags : ℕ
  pub sections : List SectionLoad
