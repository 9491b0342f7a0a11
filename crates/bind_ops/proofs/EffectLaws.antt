-- What the reader keeps of an opcode is what the opcode means.
use Rattle.std.proofs.Common.{◌≡◌, ◌+◌, ℕ, map, refl, sym, ap, ◌∙◌, arith}
use Rattle.std.specs.Prelude.{Result, Ok, Err}
use Rattle.std.specs.List.{range_with_len}
use Rattle.dsc_base.proofs.NumberLaws.{times_wrapped}
use Rattle.macho_image.specs.Places.{wrap}
use Rattle.macho_image.specs.Runs.{progression}
use Rattle.bind_ops.specs.declared.kind.StreamKind.{StreamKind}
use Rattle.bind_ops.specs.declared.kind.StreamKind.TheVariants.{Bind, Lazy}
use Rattle.bind_ops.specs.declared.opcode.Effect.{Effect}
use Rattle.bind_ops.specs.declared.run.State.{State}
use Rattle.bind_ops.specs.Faults.{Reason}
use Rattle.bind_ops.specs.Opcodes.{Opcode, Done, SetDylibOrdinalImm, SetDylibOrdinalUleb, SetDylibSpecialImm, SetSymbolTrailingFlagsImm, SetTypeImm, SetAddendSleb, SetSegmentAndOffsetUleb, AddAddrUleb, DoBind, DoBindAddAddrUleb, DoBindAddAddrImmScaled, DoBindUlebTimesSkippingUleb, ends}
use Rattle.bind_ops.specs.Binds.{Settings, recorded, moved}
use Rattle.bind_ops.specs.Steps.Effects.{effect, effect_read, effect_ends, settings_of, offsets_of, state_after}

-- steps may be taken modulo 2^64
steps_wrapped : (a t n : ℕ) → progression a (wrap t) n ≡ progression a t n
steps_wrapped a t n = ap (λ (f : ℕ → ℕ). map f (range_with_len 0 n)) (λ i k. times_wrapped a k t i)

at_offset : {m n : ℕ} (s : State) → m ≡ n → record (settings_of s) { offset = m } ≡ record (settings_of s) { offset = n }
at_offset s same = ap (λ (k : ℕ). let u : Settings = record (settings_of s) { offset = k } in u) same

offsets_recorded : (s : State) (opcode : Opcode) → offsets_of s (effect opcode) ≡ recorded (settings_of s) opcode
offsets_recorded s Done = refl
offsets_recorded s (SetDylibOrdinalImm ordinal) = refl
offsets_recorded s (SetDylibOrdinalUleb ordinal) = refl
offsets_recorded s (SetDylibSpecialImm ordinal) = refl
offsets_recorded s (SetSymbolTrailingFlagsImm symbol) = refl
offsets_recorded s (SetTypeImm type) = refl
offsets_recorded s (SetAddendSleb addend) = refl
offsets_recorded s (SetSegmentAndOffsetUleb g offset) = refl
offsets_recorded s (AddAddrUleb distance) = refl
offsets_recorded s DoBind = refl
offsets_recorded s (DoBindAddAddrUleb skip) = steps_wrapped s.offset (8 + skip) 1
offsets_recorded s (DoBindAddAddrImmScaled immediate) = refl
offsets_recorded s (DoBindUlebTimesSkippingUleb count skip) = steps_wrapped s.offset (8 + skip) count

state_moved : (s : State) (opcode : Opcode) → settings_of (state_after s (effect opcode)) ≡ moved (settings_of s) opcode
state_moved s Done = refl
state_moved s (SetDylibOrdinalImm ordinal) = refl
state_moved s (SetDylibOrdinalUleb ordinal) = refl
state_moved s (SetDylibSpecialImm ordinal) = refl
state_moved s (SetSymbolTrailingFlagsImm symbol) = refl
state_moved s (SetTypeImm type) = refl
state_moved s (SetAddendSleb addend) = refl
state_moved s (SetSegmentAndOffsetUleb g offset) = refl
state_moved s (AddAddrUleb distance) = refl
state_moved s DoBind = at_offset s (omega arith)
state_moved s (DoBindAddAddrUleb skip) = at_offset s (omega arith)
state_moved s (DoBindAddAddrImmScaled immediate) = at_offset s (omega arith)
state_moved s (DoBindUlebTimesSkippingUleb count skip) = at_offset s (times_wrapped s.offset count (8 + skip))

ends_read : (kind : StreamKind) (opcode : Opcode) → effect_ends kind (effect opcode) ≡ ends kind opcode
ends_read Bind Done = refl
ends_read Lazy Done = refl
ends_read Bind (SetDylibOrdinalImm ordinal) = refl
ends_read Lazy (SetDylibOrdinalImm ordinal) = refl
ends_read Bind (SetDylibOrdinalUleb ordinal) = refl
ends_read Lazy (SetDylibOrdinalUleb ordinal) = refl
ends_read Bind (SetDylibSpecialImm ordinal) = refl
ends_read Lazy (SetDylibSpecialImm ordinal) = refl
ends_read Bind (SetSymbolTrailingFlagsImm symbol) = refl
ends_read Lazy (SetSymbolTrailingFlagsImm symbol) = refl
ends_read Bind (SetTypeImm type) = refl
ends_read Lazy (SetTypeImm type) = refl
ends_read Bind (SetAddendSleb addend) = refl
ends_read Lazy (SetAddendSleb addend) = refl
ends_read Bind (SetSegmentAndOffsetUleb g offset) = refl
ends_read Lazy (SetSegmentAndOffsetUleb g offset) = refl
ends_read Bind (AddAddrUleb distance) = refl
ends_read Lazy (AddAddrUleb distance) = refl
ends_read Bind DoBind = refl
ends_read Lazy DoBind = refl
ends_read Bind (DoBindAddAddrUleb skip) = refl
ends_read Lazy (DoBindAddAddrUleb skip) = refl
ends_read Bind (DoBindAddAddrImmScaled immediate) = refl
ends_read Lazy (DoBindAddAddrImmScaled immediate) = refl
ends_read Bind (DoBindUlebTimesSkippingUleb count skip) = refl
ends_read Lazy (DoBindUlebTimesSkippingUleb count skip) = refl

-- the same of what was kept
pub offsets_done : (s : State) (opcode : Opcode) (does : Effect) → effect opcode ≡ does → offsets_of s does ≡ recorded (settings_of s) opcode
offsets_done s opcode does is = ap (offsets_of s) (sym is) ∙ offsets_recorded s opcode

pub state_done : (s : State) (opcode : Opcode) (does : Effect) → effect opcode ≡ does → settings_of (state_after s does) ≡ moved (settings_of s) opcode
state_done s opcode does is = ap (λ (e : Effect). settings_of (state_after s e)) (sym is) ∙ state_moved s opcode

pub ends_done : (kind : StreamKind) (opcode : Opcode) (does : Effect) → effect opcode ≡ does → ends kind opcode ≡ effect_ends kind does
ends_done kind opcode does is = sym (ends_read kind opcode) ∙ ap (effect_ends kind) is

-- the opcode that was read
pub record HasOpcode (r : Result (Opcode × ℕ) Reason) (does : Effect) (next : ℕ) : Type 0 where
  pub opcode : Opcode
  pub read : Ok (opcode, next) ≡ r
  pub is : effect opcode ≡ does

pub opcode_read : (r : Result (Opcode × ℕ) Reason) (does : Effect) (next : ℕ) → Ok (does, next) ≡ effect_read r → HasOpcode r does next
opcode_read (Err reason) does next is = absurd (cc)
opcode_read (Ok p) does next is =
    let same : ◌≡◌ {A = Effect × ℕ} (does, next) (effect p.0, p.1) = cc in
    record {
      opcode = p.0;
      read = ap (λ (n : ℕ). let q : Result (Opcode × ℕ) Reason = Ok (p.0, n) in q) (ap (λ (q : Effect × ℕ). q.1) same);
      is = sym (ap (λ (q : Effect × ℕ). q.0) same);
    }

pub refused_read : (r : Result (Opcode × ℕ) Reason) (reason : Reason) → Err reason ≡ effect_read r → Err reason ≡ r
refused_read (Err other) reason is = cc
refused_read (Ok p) reason is = absurd (cc)
