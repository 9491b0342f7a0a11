-- What the reader keeps of an opcode is what the opcode means.
use Rattle.std.proofs.Common.{◌≡◌, ◌+◌, ◌*◌, ℕ, map, true, false, refl, sym, ap, ◌∙◌, arith}
use Rattle.std.specs.Prelude.{Result, Ok, Err}
use Rattle.std.specs.List.{range_with_len}
use Rattle.dsc_base.proofs.NumberLaws.{times_wrapped}
use Rattle.dsc_base.specs.declared.rule.Rule.{Rule}
use Rattle.macho_image.specs.Places.{wrap}
use Rattle.macho_image.specs.Runs.{progression}
use Rattle.rebase_ops.specs.declared.opcode.Effect.{Effect}
use Rattle.rebase_ops.specs.declared.opcode.Effect.TheVariants.{Ends}
use Rattle.rebase_ops.specs.declared.run.Cursor.{Cursor}
use Rattle.rebase_ops.specs.Opcodes.{Opcode, Done, SetTypeImm, SetSegmentAndOffsetUleb, AddAddrUleb, AddAddrImmScaled, DoRebaseImmTimes, DoRebaseUlebTimes, DoRebaseAddAddrUleb, DoRebaseUlebTimesSkippingUleb, ends}
use Rattle.rebase_ops.specs.Rebases.{State, recorded, moved}
use Rattle.rebase_ops.specs.Steps.Effects.{effect, effect_read, state_of, offsets_of, cursor_after}

-- steps may be taken modulo 2^64
steps_wrapped : (a t n : ℕ) → progression a (wrap t) n ≡ progression a t n
steps_wrapped a t n = ap (λ (f : ℕ → ℕ). map f (range_with_len 0 n)) (λ i k. times_wrapped a k t i)

offsets_recorded : (c : Cursor) (opcode : Opcode) → offsets_of c (effect opcode) ≡ recorded (state_of c) opcode
offsets_recorded c Done = refl
offsets_recorded c (SetTypeImm type) = refl
offsets_recorded c (SetSegmentAndOffsetUleb g offset) = refl
offsets_recorded c (AddAddrUleb distance) = refl
offsets_recorded c (AddAddrImmScaled immediate) = refl
offsets_recorded c (DoRebaseImmTimes count) = refl
offsets_recorded c (DoRebaseUlebTimes count) = refl
offsets_recorded c (DoRebaseAddAddrUleb skip) = steps_wrapped c.offset (8 + skip) 1
offsets_recorded c (DoRebaseUlebTimesSkippingUleb count skip) = steps_wrapped c.offset (8 + skip) count

cursor_moved : (c : Cursor) (opcode : Opcode) → state_of (cursor_after c (effect opcode)) ≡ moved (state_of c) opcode
cursor_moved c Done = refl
cursor_moved c (SetTypeImm type) = refl
cursor_moved c (SetSegmentAndOffsetUleb g offset) = refl
cursor_moved c (AddAddrUleb distance) = refl
cursor_moved c (AddAddrImmScaled immediate) = refl
cursor_moved c (DoRebaseImmTimes count) = refl
cursor_moved c (DoRebaseUlebTimes count) = refl
cursor_moved c (DoRebaseAddAddrUleb skip) =
    ap (λ (n : ℕ). let s : State = record { segment = c.segment; offset = n } in s) (let e : wrap (c.offset + 1 * wrap (8 + skip)) ≡ wrap (c.offset + (8 + skip)) = omega arith in e)
cursor_moved c (DoRebaseUlebTimesSkippingUleb count skip) =
    ap (λ (n : ℕ). let s : State = record { segment = c.segment; offset = n } in s) (times_wrapped c.offset count (8 + skip))

-- the same of what was kept
pub offsets_done : (c : Cursor) (opcode : Opcode) (does : Effect) → effect opcode ≡ does → offsets_of c does ≡ recorded (state_of c) opcode
offsets_done c opcode does is = ap (offsets_of c) (sym is) ∙ offsets_recorded c opcode

pub cursor_done : (c : Cursor) (opcode : Opcode) (does : Effect) → effect opcode ≡ does → state_of (cursor_after c does) ≡ moved (state_of c) opcode
cursor_done c opcode does is = ap (λ (e : Effect). state_of (cursor_after c e)) (sym is) ∙ cursor_moved c opcode

pub goes_on : (opcode : Opcode) → (effect opcode ≡ Ends → ⊥) → ends opcode ≡ false
goes_on Done other = absurd (other refl)
goes_on (SetTypeImm type) other = refl
goes_on (SetSegmentAndOffsetUleb g offset) other = refl
goes_on (AddAddrUleb distance) other = refl
goes_on (AddAddrImmScaled immediate) other = refl
goes_on (DoRebaseImmTimes count) other = refl
goes_on (DoRebaseUlebTimes count) other = refl
goes_on (DoRebaseAddAddrUleb skip) other = refl
goes_on (DoRebaseUlebTimesSkippingUleb count skip) other = refl

pub ended : (opcode : Opcode) → effect opcode ≡ Ends → ends opcode ≡ true
ended Done is = refl
ended (SetTypeImm type) is = absurd (cc)
ended (SetSegmentAndOffsetUleb g offset) is = absurd (cc)
ended (AddAddrUleb distance) is = absurd (cc)
ended (AddAddrImmScaled immediate) is = absurd (cc)
ended (DoRebaseImmTimes count) is = absurd (cc)
ended (DoRebaseUlebTimes count) is = absurd (cc)
ended (DoRebaseAddAddrUleb skip) is = absurd (cc)
ended (DoRebaseUlebTimesSkippingUleb count skip) is = absurd (cc)

-- the opcode that was read
pub record HasOpcode (r : Result (Opcode × ℕ) Rule) (does : Effect) (next : ℕ) : Type 0 where
  pub opcode : Opcode
  pub read : Ok (opcode, next) ≡ r
  pub is : effect opcode ≡ does

pub opcode_read : (r : Result (Opcode × ℕ) Rule) (does : Effect) (next : ℕ) → Ok (does, next) ≡ effect_read r → HasOpcode r does next
opcode_read (Err rule) does next is = absurd (cc)
opcode_read (Ok p) does next is =
    let same : ◌≡◌ {A = Effect × ℕ} (does, next) (effect p.0, p.1) = cc in
    record {
      opcode = p.0;
      read = ap (λ (n : ℕ). let q : Result (Opcode × ℕ) Rule = Ok (p.0, n) in q) (ap (λ (q : Effect × ℕ). q.1) same);
      is = sym (ap (λ (q : Effect × ℕ). q.0) same);
    }

pub refused_read : (r : Result (Opcode × ℕ) Rule) (rule : Rule) → Err rule ≡ effect_read r → Err rule ≡ r
refused_read (Err other) rule is = cc
refused_read (Ok p) rule is = absurd (cc)
