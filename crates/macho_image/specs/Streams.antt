-- Streams of opcodes that record words at offsets: what they spell, and the first rule that they break.
use Rattle.std.specs.Prelude.{ℕ, zero, suc, ◌+◌, Bool, List, [], ◌++◌, length, map, Option, Some, None, option_map, Result, Ok, Err, nat_le, if◌then◌else◌}
use Rattle.std.specs.Option.{option_or}
use Rattle.dsc_base.specs.declared.fault.Site.{Site}
use Rattle.dsc_base.specs.declared.rule.Rule.{Rule}
use Rattle.macho_image.specs.Runs.{first_fault}

-- The opcodes of a stream, each with its offset. They end with the stream or at an opcode that ends it, or at the first one that is refused.
pub data Opcodes (Op F : Type 0) : Type 0 where
  End : Opcodes Op F
  Refused : ℕ → F → Opcodes Op F
  Next : ℕ → Op → Opcodes Op F → Opcodes Op F

-- how opcodes are spelled: the one at a place and the place behind it, or why it is refused; and which ones end a stream
pub record Spelling (Op F : Type 0) : Type 0 where
  pub read : List ℕ → ℕ → Result (Op × ℕ) F
  pub ends : Op → Bool

abbrev pub followed_by : {Op F : Type 0} → (Op → Bool) → ℕ → Result (Op × ℕ) F → (ℕ → Opcodes Op F) → Opcodes Op F
followed_by ends at (Err fault) rest = Refused at fault
followed_by ends at (Ok read) rest = if ends read.0 then End else Next at read.0 (rest read.1)

-- the opcodes from a place on, so many at most: there are no more than bytes
unfoldable pub opcodes_in : {Op F : Type 0} → Spelling Op F → ℕ → List ℕ → ℕ → Opcodes Op F
opcodes_in spelling zero bytes at = End
opcodes_in spelling (suc left) bytes at =
    if nat_le (length bytes) at then End else followed_by spelling.ends at (spelling.read bytes at) (opcodes_in spelling left bytes)

abbrev pub opcodes_of : {Op F : Type 0} → Spelling Op F → List ℕ → Opcodes Op F
opcodes_of spelling bytes = opcodes_in spelling (length bytes) bytes 0

-- what opcodes mean: the state behind one, the offsets at which it records, the record at an offset, what is wrong with one after so many of the stream, and the rule that a fault breaks
pub record Meaning (S Op X F : Type 0) : Type 0 where
  pub moved : S → Op → S
  pub recorded : S → Op → List ℕ
  pub made : S → ℕ → X
  pub refused : S → ℕ → ℕ → Option F
  pub rule : F → Rule

-- the records of opcodes, in reading order
unfoldable pub records : {S Op X F : Type 0} → Meaning S Op X F → S → Opcodes Op F → List X
records m s End = []
records m s (Refused at fault) = []
records m s (Next at opcode more) = map (m.made s) (m.recorded s opcode) ++ records m (m.moved s opcode) more

-- a fault breaks its rule at the offset of the opcode
abbrev pub site_in : {F : Type 0} → (F → Rule) → ℕ → F → Site
site_in rule at fault = record { rule = rule fault; at = at }

-- the first rule that opcodes break, after so many records
unfoldable pub reading_break : {S Op X F : Type 0} → Meaning S Op X F → S → ℕ → Opcodes Op F → Option Site
reading_break m s before End = None
reading_break m s before (Refused at fault) = Some (site_in m.rule at fault)
reading_break m s before (Next at opcode more) =
    option_or (option_map (site_in m.rule at) (first_fault (m.refused s) before (m.recorded s opcode)))
    (reading_break m (m.moved s opcode) (before + length (m.recorded s opcode)) more)
