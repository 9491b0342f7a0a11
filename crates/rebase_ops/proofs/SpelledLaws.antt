-- The opcodes that a written stream spells.
use Rattle.std.proofs.Common.{◌≡◌, ◌≤◌, ◌<◌, ◌+◌, ◌-◌, ◌/◌, ◌%◌, ◌^◌, ℕ, zero, suc, false, List, [], ◌∷◌, ◌++◌, length, get_or, refl, sym, ap, ap₂, ◌∙◌, arith, append_assoc, length-append, nat_le, if◌then◌else◌, inl, inr}
use Rattle.std.specs.Prelude.{slice_index, Result, Ok}
use Rattle.std.proofs.lemmas.Bool.{cond-true, cond-false, cases_lt, lt-leb, le-leb}
use Rattle.std.proofs.lemmas.List.{get_or-append_right}
use Rattle.dsc_base.specs.declared.rule.Rule.{Rule}
use Rattle.dsc_base.specs.Uleb.{uleb_at, uleb_bytes}
use Rattle.dsc_base.proofs.UlebLaws.{uleb_at-read}
use Rattle.macho_image.specs.Records.{Img}
use Rattle.macho_image.specs.Streams.{Opcodes, End, Next, followed_by, opcodes_in}
use Rattle.rebase_ops.specs.Opcodes.{Opcode, Done, SetSegmentAndOffsetUleb, DoRebaseImmTimes, DoRebaseUlebTimes, ◌>>=◌, operand_in, operand_at, opcode_with, opcode_at, ends, spelling}
use Rattle.rebase_ops.specs.Writing.{Run, offset_in, times_bytes, run_bytes, runs_bytes}

-- the byte behind other bytes
pub byte_there : (before rest : List ℕ) (byte at : ℕ) → length before ≡ at → slice_index (before ++ (byte ∷ rest)) at ≡ byte
byte_there before rest byte at is =
    let none : at - at ≡ 0 = omega arith in
    get_or-append_right before (byte ∷ rest) at at 0 is (omega arith) ∙ ap (λ (k : ℕ). get_or (byte ∷ rest) k 0) none

-- and an operand behind that
operand_there : (before tail : List ℕ) (byte value at : ℕ) → length before ≡ at → value < 2 ^ 64
    → operand_at (before ++ (byte ∷ (uleb_bytes value ++ tail))) (at + 1) ≡ Ok (value, at + 1 + length (uleb_bytes value))
unfolding operand_at
operand_there before tail byte value at is small =
    let front : length (before ++ byte ∷ []) ≡ at + 1 = omega (arith, length-append before (byte ∷ []), is) in
    ap (λ (bytes : List ℕ). operand_in (uleb_at bytes (at + 1))) (sym (append_assoc before (byte ∷ []) (uleb_bytes value ++ tail)))
    ∙ ap operand_in (uleb_at-read (before ++ byte ∷ []) tail value (at + 1) front small)

pub opcode_there : (bytes : List ℕ) (at number immediate byte : ℕ) → slice_index bytes at ≡ byte → byte / 16 ≡ number → byte % 16 ≡ immediate → opcode_at bytes at ≡ opcode_with number immediate bytes (at + 1)
unfolding opcode_at
opcode_there bytes at number immediate byte is high low =
    ap₂ (λ (n i : ℕ). opcode_with n i bytes (at + 1)) (ap (λ (b : ℕ). b / 16) is ∙ high) (ap (λ (b : ℕ). b % 16) is ∙ low)

abbrev Read : Type 0
Read = Result (Opcode × ℕ) Rule

set_there : (before tail : List ℕ) (g offset at : ℕ) → length before ≡ at → g < 16 → offset < 2 ^ 64
    → opcode_at (before ++ ((0x20 + g) ∷ (uleb_bytes offset ++ tail))) at ≡ Ok (SetSegmentAndOffsetUleb g offset, at + 1 + length (uleb_bytes offset))
unfolding opcode_with
set_there before tail g offset at is low small =
    opcode_there (before ++ ((0x20 + g) ∷ (uleb_bytes offset ++ tail))) at 2 g (0x20 + g) (byte_there before (uleb_bytes offset ++ tail) (0x20 + g) at is) (omega arith) (omega arith)
    ∙ ap (λ (r : Result (ℕ × ℕ) Rule). let q : Read = r >>= (λ o. Ok (SetSegmentAndOffsetUleb g o.0, o.1)) in q) (operand_there before tail (0x20 + g) offset at is small)

few_there : (before tail : List ℕ) (count at : ℕ) → length before ≡ at → count ≤ 15 → opcode_at (before ++ ((0x50 + count) ∷ tail)) at ≡ Ok (DoRebaseImmTimes count, at + 1)
unfolding opcode_with
few_there before tail count at is few =
    opcode_there (before ++ ((0x50 + count) ∷ tail)) at 5 count (0x50 + count) (byte_there before tail (0x50 + count) at is) (omega arith) (omega arith)

many_there : (before tail : List ℕ) (count at : ℕ) → length before ≡ at → count < 2 ^ 64
    → opcode_at (before ++ (0x60 ∷ (uleb_bytes count ++ tail))) at ≡ Ok (DoRebaseUlebTimes count, at + 1 + length (uleb_bytes count))
unfolding opcode_with
many_there before tail count at is small =
    opcode_there (before ++ (0x60 ∷ (uleb_bytes count ++ tail))) at 6 0 0x60 (byte_there before (uleb_bytes count ++ tail) 0x60 at is) refl refl
    ∙ ap (λ (r : Result (ℕ × ℕ) Rule). let q : Read = r >>= (λ c. Ok (DoRebaseUlebTimes c.0, c.1)) in q) (operand_there before tail 0x60 count at is small)

-- the opcode of so many records
abbrev pub times_opcode : ℕ → Opcode
times_opcode count = if nat_le count 15 then DoRebaseImmTimes count else DoRebaseUlebTimes count

pub times_few : (count : ℕ) → count ≤ 15 → times_opcode count ≡ DoRebaseImmTimes count
times_few count few = cond-true (nat_le count 15) (DoRebaseImmTimes count) (DoRebaseUlebTimes count) (le-leb count 15 few)

pub times_many : (count : ℕ) → 15 < count → times_opcode count ≡ DoRebaseUlebTimes count
times_many count many = cond-false (nat_le count 15) (DoRebaseImmTimes count) (DoRebaseUlebTimes count) (lt-leb count 15 many)

times_end : (count : ℕ) → ends (times_opcode count) ≡ false
times_end count = elim (cases_lt 15 count) [ inl many ↦ ap ends (times_many count many) | inr few ↦ ap ends (times_few count few) ]

times_there : (before tail : List ℕ) (count at : ℕ) → length before ≡ at → count < 2 ^ 64 → opcode_at (before ++ (times_bytes count ++ tail)) at ≡ Ok (times_opcode count, at + length (times_bytes count))
times_there before tail count at is small =
    elim (cases_lt 15 count) [
      | inl many ↦
          let e : times_bytes count ≡ 0x60 ∷ uleb_bytes count = cond-false (nat_le count 15) ((0x50 + count) ∷ []) (0x60 ∷ uleb_bytes count) (lt-leb count 15 many) in
          let long = ap length e in
          ap (λ (l : List ℕ). opcode_at (before ++ (l ++ tail)) at) e
          ∙ (many_there before tail count at is small ∙ ap₂ (λ (o : Opcode) (n : ℕ). let r : Read = Ok (o, n) in r) (sym (times_many count many)) (omega (arith, long)))
      | inr few ↦
          let e : times_bytes count ≡ (0x50 + count) ∷ [] = cond-true (nat_le count 15) ((0x50 + count) ∷ []) (0x60 ∷ uleb_bytes count) (le-leb count 15 few) in
          let long = ap length e in
          ap (λ (l : List ℕ). opcode_at (before ++ (l ++ tail)) at) e
          ∙ (few_there before tail count at is few ∙ ap₂ (λ (o : Opcode) (n : ℕ). let r : Read = Ok (o, n) in r) (sym (times_few count few)) (omega (arith, long)))
    ]

times_some : (count : ℕ) → 1 ≤ length (times_bytes count)
times_some count =
    elim (cases_lt 15 count) [
      | inl many ↦ omega (arith, ap length (cond-false (nat_le count 15) ((0x50 + count) ∷ []) (0x60 ∷ uleb_bytes count) (lt-leb count 15 many)))
      | inr few ↦ omega (arith, ap length (cond-true (nat_le count 15) ((0x50 + count) ∷ []) (0x60 ∷ uleb_bytes count) (le-leb count 15 few)))
    ]

-- one opcode more
pub spelled_next : (bytes : List ℕ) (at left : ℕ) (opcode : Opcode) (next : ℕ) → at < length bytes → length bytes ≤ at + left → opcode_at bytes at ≡ Ok (opcode, next) → ends opcode ≡ false
    → opcodes_in spelling left bytes at ≡ Next at opcode (opcodes_in spelling (left - 1) bytes next)
unfolding opcodes_in
spelled_next bytes at zero opcode next lt enough is goes_on = absurd (omega arith)
spelled_next bytes at (suc left) opcode next lt enough is goes_on =
    let less : left ≡ suc left - 1 = omega arith in
    cond-false (nat_le (length bytes) at) End (followed_by ends at (opcode_at bytes at) (opcodes_in spelling left bytes)) (lt-leb (length bytes) at lt)
    ∙ (ap (λ (r : Read). followed_by ends at r (opcodes_in spelling left bytes)) is
    ∙ (cond-false (ends opcode) End (Next at opcode (opcodes_in spelling left bytes next)) goes_on
    ∙ ap (λ (n : ℕ). let os : Opcodes Opcode Rule = Next at opcode (opcodes_in spelling n bytes next) in os) less))

spelled_done : (bytes : List ℕ) (at left next : ℕ) → at < length bytes → length bytes ≤ at + left → opcode_at bytes at ≡ Ok (Done, next) → opcodes_in spelling left bytes at ≡ End
unfolding opcodes_in
spelled_done bytes at zero next lt enough is = absurd (omega arith)
spelled_done bytes at (suc left) next lt enough is =
    cond-false (nat_le (length bytes) at) End (followed_by ends at (opcode_at bytes at) (opcodes_in spelling left bytes)) (lt-leb (length bytes) at lt)
    ∙ ap (λ (r : Read). followed_by ends at r (opcodes_in spelling left bytes)) is

-- what runs spell from a place on
unfoldable pub opcodes_from : Img → ℕ → List Run → Opcodes Opcode Rule
opcodes_from image at [] = End
opcodes_from image at (r ∷ rs) =
    let second = at + 1 + length (uleb_bytes (offset_in image r.segment r.address)) in
    Next at (SetSegmentAndOffsetUleb r.segment (offset_in image r.segment r.address)) (Next second (times_opcode r.count) (opcodes_from image (second + length (times_bytes r.count)) rs))

-- a run that its opcodes have room for
pub record IsSmall (image : Img) (r : Run) : Type 0 where
  pub segment : r.segment < 16
  pub offset : offset_in image r.segment r.address < 2 ^ 64
  pub count : r.count < 2 ^ 64

abbrev pub AreSmall : Img → List Run → Type 0
AreSmall image [] = Unit {0}
AreSmall image (r ∷ rs) = IsSmall image r × AreSmall image rs

-- the bytes of a run in front of others, as its parts follow one another
run_parts : (image : Img) (r : Run) (rest : List ℕ)
    → run_bytes image r ++ rest ≡ (0x20 + r.segment) ∷ (uleb_bytes (offset_in image r.segment r.address) ++ (times_bytes r.count ++ rest))
run_parts image r rest =
    ap (λ (l : List ℕ). (0x20 + r.segment) ∷ l) (append_assoc (uleb_bytes (offset_in image r.segment r.address)) (times_bytes r.count) rest)

-- the opcodes of runs and of DONE behind other bytes
pub spelled_runs : (image : Img) (before : List ℕ) (rs : List Run) (at left : ℕ) → length before ≡ at → AreSmall image rs → length (before ++ (runs_bytes image rs ++ 0 ∷ [])) ≤ at + left
    → opcodes_in spelling left (before ++ (runs_bytes image rs ++ 0 ∷ [])) at ≡ opcodes_from image at rs
unfolding runs_bytes opcode_with opcodes_from
spelled_runs image before [] at left is small enough =
    let long = length-append before (0 ∷ []) in
    spelled_done (before ++ (0 ∷ [])) at left (at + 1) (omega (arith, long, is)) enough
    (opcode_there (before ++ (0 ∷ [])) at 0 0 0 (byte_there before [] 0 at is) refl refl)
spelled_runs image before (r ∷ rs) at left is small enough =
    let offset = offset_in image r.segment r.address in
    let spelt = uleb_bytes (offset_in image r.segment r.address) in
    let times = times_bytes r.count in
    let done = runs_bytes image rs ++ 0 ∷ [] in
    let second = at + 1 + length (uleb_bytes (offset_in image r.segment r.address)) in
    let third = at + 1 + length (uleb_bytes (offset_in image r.segment r.address)) + length (times_bytes r.count) in
    let front = before ++ ((0x20 + r.segment) ∷ uleb_bytes (offset_in image r.segment r.address)) in
    let whole : before ++ ((run_bytes image r ++ runs_bytes image rs) ++ 0 ∷ []) ≡ before ++ ((0x20 + r.segment) ∷ (spelt ++ (times ++ done))) =
    ap (λ (l : List ℕ). before ++ l) (append_assoc (run_bytes image r) (runs_bytes image rs) (0 ∷ []) ∙ run_parts image r done) in
    let behind : before ++ ((0x20 + r.segment) ∷ (spelt ++ (times ++ done))) ≡ front ++ (times ++ done) = sym (append_assoc before ((0x20 + r.segment) ∷ spelt) (times ++ done)) in
    let last : front ++ (times ++ done) ≡ (front ++ times) ++ done = sym (append_assoc front times done) in
    let front_long : length front ≡ second = omega (arith, length-append before ((0x20 + r.segment) ∷ spelt), is) in
    let some = times_some r.count in
    let times_long : length (front ++ times) ≡ third = omega (arith, length-append front times, front_long) in
    let done_long = length-append (runs_bytes image rs) (0 ∷ []) in
    let all_long : length ((front ++ times) ++ done) ≡ third + length done = omega (arith, length-append (front ++ times) done, times_long) in
    let one : length (before ++ ((run_bytes image r ++ runs_bytes image rs) ++ 0 ∷ [])) ≡ third + length done = ap length whole ∙ (ap length behind ∙ (ap length last ∙ all_long)) in
    let two : length (before ++ ((0x20 + r.segment) ∷ (spelt ++ (times ++ done)))) ≡ third + length done = ap length behind ∙ (ap length last ∙ all_long) in
    let three : length (front ++ (times ++ done)) ≡ third + length done = ap length last ∙ all_long in
    ap (λ (l : List ℕ). opcodes_in spelling left l at) whole
    ∙ (spelled_next (before ++ ((0x20 + r.segment) ∷ (spelt ++ (times ++ done)))) at left (SetSegmentAndOffsetUleb r.segment offset) second (omega (arith, two)) (omega (arith, one, two, enough))
    (set_there before (times ++ done) r.segment offset at is small.0.segment small.0.offset) refl
    ∙ ap (λ (os : Opcodes Opcode Rule). let all : Opcodes Opcode Rule = Next at (SetSegmentAndOffsetUleb r.segment offset) os in all)
    (ap (λ (l : List ℕ). opcodes_in spelling (left - 1) l second) behind
    ∙ (spelled_next (front ++ (times ++ done)) second (left - 1) (times_opcode r.count) third (omega (arith, three, some)) (omega (arith, one, three, enough))
    (times_there front done r.count second front_long small.0.count) (times_end r.count)
    ∙ ap (λ (os : Opcodes Opcode Rule). let all : Opcodes Opcode Rule = Next second (times_opcode r.count) os in all)
    (ap (λ (l : List ℕ). opcodes_in spelling (left - 1 - 1) l third) last
    ∙ spelled_runs image (front ++ times) rs third (left - 1 - 1) times_long small.1 (omega (arith, one, all_long, enough, some))))))
