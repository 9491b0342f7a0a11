-- A stream, one opcode at a time: what was read and what is left make the whole.
use Rattle.std.proofs.Common.{◌≡◌, ◌≤◌, ◌<◌, ◌+◌, ◌-◌, ℕ, zero, suc, Bool, true, false, List, [], ◌∷◌, ◌++◌, length, map, refl, sym, ap, ap₂, ◌∙◌, subst, arith, append_assoc, append-nil, length-append, Option, Some, None, nat_le}
use Rattle.std.specs.Prelude.{option_map, Result, Ok, Err, IsErrAnd}
use Rattle.std.specs.List.{All}
use Rattle.std.specs.Option.{option_or}
use Rattle.std.proofs.lemmas.Bool.{cond-true, cond-false, lt-leb, le-leb}
use Rattle.std.proofs.lemmas.List.{length-map}
use Rattle.std.proofs.lemmas.List.Elements.{All-cons, All-nil, All-append}
use Rattle.dsc_base.specs.declared.fault.Site.{Site}
use Rattle.dsc_base.specs.declared.fault.Fault.{Fault}
use Rattle.dsc_base.specs.declared.fault.Fault.TheVariants.{Broken, Memory}
use Rattle.dsc_base.specs.declared.rule.Rule.{Rule}
use Rattle.dsc_base.specs.Refusals.{IsRefusal, Refuses}
use Rattle.macho_image.specs.Runs.{first_fault}
use Rattle.macho_image.specs.Streams.{Opcodes, End, Refused, Next, Spelling, followed_by, opcodes_in, opcodes_of, Meaning, records, site_in, reading_break}
use Rattle.macho_image.proofs.Unbroken.{or_none}

opcodes_next : {Op F : Type 0} (spelling : Spelling Op F) (bytes : List ℕ) (at left : ℕ) (r : Result (Op × ℕ) F) → at < length bytes → length bytes ≤ at + left → r ≡ spelling.read bytes at
    → opcodes_in spelling left bytes at ≡ followed_by spelling.ends at r (opcodes_in spelling (left - 1) bytes)
unfolding opcodes_in
opcodes_next {Op} {F} spelling bytes at zero r lt enough is = absurd (omega arith)
opcodes_next {Op} {F} spelling bytes at (suc left) r lt enough is =
    let less : left ≡ suc left - 1 = omega arith in
    cond-false (nat_le (length bytes) at) End (followed_by spelling.ends at (spelling.read bytes at) (opcodes_in spelling left bytes)) (lt-leb (length bytes) at lt)
    ∙ (ap (λ (x : Result (Op × ℕ) F). followed_by spelling.ends at x (opcodes_in spelling left bytes)) (sym is)
    ∙ ap (λ (n : ℕ). followed_by spelling.ends at r (opcodes_in spelling n bytes)) less)

opcodes_past : {Op F : Type 0} (spelling : Spelling Op F) (bytes : List ℕ) (at left : ℕ) → length bytes ≤ at → opcodes_in spelling left bytes at ≡ End
unfolding opcodes_in
opcodes_past spelling bytes at zero past = refl
opcodes_past spelling bytes at (suc left) past = cond-true (nat_le (length bytes) at) End (followed_by spelling.ends at (spelling.read bytes at) (opcodes_in spelling left bytes)) (le-leb (length bytes) at past)

-- what was recorded and what the opcodes that are left record is the whole, and so is the first rule that is broken
pub record Reading {S Op X F : Type 0} (spelling : Spelling Op F) (m : Meaning S Op X F) (start : S) (bytes : List ℕ) (at : ℕ) (s : S) (out : List X) : Type 0 where
  pub left : ℕ
  pub enough : length bytes ≤ at + left
  pub added : out ++ records m s (opcodes_in spelling left bytes at) ≡ records m start (opcodes_of spelling bytes)
  pub sound : reading_break m s (length out) (opcodes_in spelling left bytes at) ≡ reading_break m start 0 (opcodes_of spelling bytes)

pub reading_start : {S Op X F : Type 0} (spelling : Spelling Op F) (m : Meaning S Op X F) (start : S) (bytes : List ℕ) (out : List X) (s : S) → out ≡ [] → s ≡ start → Reading spelling m start bytes 0 s out
reading_start {S} {Op} {X} {F} spelling m start bytes out s none first = record {
  left = length bytes;
  enough = omega arith;
  added = ap₂ (λ (l : List X) (u : S). l ++ records m u (opcodes_in spelling (length bytes) bytes 0)) none first;
  sound = ap₂ (λ (l : List X) (u : S). reading_break m u (length l) (opcodes_in spelling (length bytes) bytes 0)) none first;
}

next_of : {Op F : Type 0} (ends : Op → Bool) (opcode : Op) (at next : ℕ) (rest : ℕ → Opcodes Op F) → ends opcode ≡ false → followed_by ends at (Ok (opcode, next)) rest ≡ Next at opcode (rest next)
next_of ends opcode at next rest goes_on = cond-false (ends opcode) End (Next at opcode (rest next)) goes_on

here : {S Op X F : Type 0} (spelling : Spelling Op F) (m : Meaning S Op X F) (start : S) (bytes : List ℕ) (at : ℕ) (s : S) (out : List X) (opcode : Op) (next : ℕ) (reading : Reading spelling m start bytes at s out)
    → at < length bytes → Ok (opcode, next) ≡ spelling.read bytes at → spelling.ends opcode ≡ false
    → opcodes_in spelling reading.left bytes at ≡ Next at opcode (opcodes_in spelling (reading.left - 1) bytes next)
here spelling m start bytes at s out opcode next reading lt is goes_on =
    opcodes_next spelling bytes at reading.left (Ok (opcode, next)) lt reading.enough is ∙ next_of spelling.ends opcode at next (opcodes_in spelling (reading.left - 1) bytes) goes_on

pub reading_step : {S Op X F : Type 0} (spelling : Spelling Op F) (m : Meaning S Op X F) (start : S) (bytes : List ℕ) (at : ℕ) (s : S) (out : List X) (opcode : Op) (next : ℕ) (u : S) (longer : List X)
    → Reading spelling m start bytes at s out → at < length bytes → at < next → Ok (opcode, next) ≡ spelling.read bytes at → spelling.ends opcode ≡ false
    → u ≡ m.moved s opcode → longer ≡ out ++ map (m.made s) (m.recorded s opcode)
    → option_map (site_in m.rule at) (first_fault (m.refused s) (length out) (m.recorded s opcode)) ≡ None → Reading spelling m start bytes next u longer
unfolding records reading_break
reading_step {S} {Op} {X} {F} spelling m start bytes at s out opcode next u longer reading lt rises is goes_on moves adds keeps =
    let more = opcodes_in spelling (reading.left - 1) bytes next in
    let offsets = m.recorded s opcode in
    let made = map (m.made s) offsets in
    let first = here spelling m start bytes at s out opcode next reading lt is goes_on in
    let long : length longer ≡ length out + length offsets = ap length adds ∙ (length-append out made ∙ ap (λ (n : ℕ). length out + n) (length-map offsets (m.made s))) in
    record {
      left = reading.left - 1;
      enough = let e = reading.enough in omega arith;
      added =
          ap₂ (λ (l : List X) (v : S). l ++ records m v more) adds moves
          ∙ (append_assoc out made (records m (m.moved s opcode) more) ∙ (ap (λ (os : Opcodes Op F). out ++ records m s os) (sym first) ∙ reading.added));
      sound =
          ap₂ (λ (n : ℕ) (v : S). reading_break m v n more) long moves
          ∙ (ap (λ (o : Option Site). option_or o (reading_break m (m.moved s opcode) (length out + length offsets) more)) (sym keeps)
          ∙ (ap (λ (os : Opcodes Op F). reading_break m s (length out) os) (sym first) ∙ reading.sound));
    }

-- a record of the opcode at this place is refused
pub reading_fault : {S Op X F : Type 0} (spelling : Spelling Op F) (m : Meaning S Op X F) (start : S) (bytes : List ℕ) (at : ℕ) (s : S) (out : List X) (opcode : Op) (next : ℕ) (fault : Fault)
    → Reading spelling m start bytes at s out → at < length bytes → Ok (opcode, next) ≡ spelling.read bytes at → spelling.ends opcode ≡ false
    → IsRefusal (option_map (site_in m.rule at) (first_fault (m.refused s) (length out) (m.recorded s opcode))) fault → IsRefusal (reading_break m start 0 (opcodes_of spelling bytes)) fault
unfolding reading_break
reading_fault spelling m start bytes at s out opcode next Memory reading lt is goes_on refused = tt
reading_fault {S} {Op} {X} {F} spelling m start bytes at s out opcode next (Broken site) reading lt is goes_on refused =
    let more = opcodes_in spelling (reading.left - 1) bytes next in
    sym reading.sound
    ∙ (ap (λ (os : Opcodes Op F). reading_break m s (length out) os) (here spelling m start bytes at s out opcode next reading lt is goes_on)
    ∙ ap (λ (o : Option Site). option_or o (reading_break m (m.moved s opcode) (length out + length (m.recorded s opcode)) more)) refused)

-- the opcode at this place is refused
pub reading_refused : {S Op X F : Type 0} (spelling : Spelling Op F) (m : Meaning S Op X F) (start : S) (bytes : List ℕ) (at : ℕ) (s : S) (out : List X) (fault : F)
    → Reading spelling m start bytes at s out → at < length bytes → Err fault ≡ spelling.read bytes at → reading_break m start 0 (opcodes_of spelling bytes) ≡ Some (site_in m.rule at fault)
unfolding reading_break
reading_refused {S} {Op} {X} {F} spelling m start bytes at s out fault reading lt is =
    sym reading.sound ∙ ap (λ (os : Opcodes Op F). reading_break m s (length out) os) (opcodes_next spelling bytes at reading.left (Err fault) lt reading.enough is)

-- all of the stream was read, and it breaks no rule
pub record HasRead {S Op X F : Type 0} (spelling : Spelling Op F) (m : Meaning S Op X F) (start : S) (bytes : List ℕ) (out : List X) : Type 0 where
  pub added : out ≡ records m start (opcodes_of spelling bytes)
  pub sound : reading_break m start 0 (opcodes_of spelling bytes) ≡ None

at_end : {S Op X F : Type 0} (spelling : Spelling Op F) (m : Meaning S Op X F) (start : S) (bytes : List ℕ) (at : ℕ) (s : S) (out : List X) (reading : Reading spelling m start bytes at s out)
    → opcodes_in spelling reading.left bytes at ≡ End → HasRead spelling m start bytes out
unfolding records reading_break
at_end {S} {Op} {X} {F} spelling m start bytes at s out reading end = record {
  added = sym (append-nil out) ∙ (ap (λ (os : Opcodes Op F). out ++ records m s os) (sym end) ∙ reading.added);
  sound = sym reading.sound ∙ ap (λ (os : Opcodes Op F). reading_break m s (length out) os) end;
}

pub reading_done : {S Op X F : Type 0} (spelling : Spelling Op F) (m : Meaning S Op X F) (start : S) (bytes : List ℕ) (at : ℕ) (s : S) (out : List X) (read : Op × ℕ)
    → Reading spelling m start bytes at s out → at < length bytes → Ok read ≡ spelling.read bytes at → spelling.ends read.0 ≡ true → HasRead spelling m start bytes out
reading_done spelling m start bytes at s out read reading lt is ended =
    at_end spelling m start bytes at s out reading
    (opcodes_next spelling bytes at reading.left (Ok read) lt reading.enough is
    ∙ cond-true (spelling.ends read.0) End (Next at read.0 (opcodes_in spelling (reading.left - 1) bytes read.1)) ended)

pub reading_end : {S Op X F : Type 0} (spelling : Spelling Op F) (m : Meaning S Op X F) (start : S) (bytes : List ℕ) (at : ℕ) (s : S) (out : List X)
    → Reading spelling m start bytes at s out → length bytes ≤ at → HasRead spelling m start bytes out
reading_end spelling m start bytes at s out reading past = at_end spelling m start bytes at s out reading (opcodes_past spelling bytes at reading.left past)

-- a fault that is handed on
pub refuses_on : {X : Type 0} (found : Option Site) (r : Result X Fault) (fault : Fault) → IsErrAnd r (λ other. other ≡ fault) → IsRefusal found fault → Refuses found r
refuses_on found (Ok x) fault is refused = absurd is
refuses_on found (Err other) fault is refused = subst (λ (f : Fault). IsRefusal found f) (sym is) refused

-- records that were accepted, after so many of the stream: what is true of each, and there are no more than a limit
pub record AreAccepted {X : Type 0} (P : X → Type 0) (limit before : ℕ) (xs : List X) : Type 0 where
  pub few : before + length xs ≤ limit
  pub all : All P xs

-- what a test of records accepts
abbrev pub Accepts : {S X F : Type 0} → (S → ℕ → X) → (S → ℕ → ℕ → Option F) → (X → Type 0) → ℕ → Type 0
Accepts {S} {X} {F} made refused P limit = (s : S) (offset before : ℕ) → refused s offset before ≡ None → P (made s offset) × (before < limit)

accepted_run : {S X F : Type 0} (made : S → ℕ → X) (refused : S → ℕ → ℕ → Option F) (P : X → Type 0) (limit : ℕ) (s : S) (before : ℕ) (offsets : List ℕ) → Accepts made refused P limit → before ≤ limit
    → first_fault (refused s) before offsets ≡ None → AreAccepted P limit before (map (made s) offsets)
accepted_run made refused P limit s before [] accepts le none = record { few = omega arith; all = All-nil P }
accepted_run made refused P limit s before (offset ∷ offsets) accepts le none =
    let two = or_none (refused s offset before) (first_fault (refused s) (before + 1) offsets) none in
    let one = accepts s offset before two.0 in
    let rest = accepted_run made refused P limit s (before + 1) offsets accepts (omega (arith, one.1)) two.1 in
    record { few = omega (arith, rest.few); all = All-cons P (made s offset) (map (made s) offsets) one.0 rest.all }

no_site : {F : Type 0} (rule : F → Rule) (at : ℕ) (o : Option F) → option_map (site_in rule at) o ≡ None → o ≡ None
no_site rule at None none = refl
no_site rule at (Some fault) none = absurd (cc)

pub accepted_records : {S Op X F : Type 0} (m : Meaning S Op X F) (P : X → Type 0) (limit : ℕ) (s : S) (before : ℕ) (opcodes : Opcodes Op F) → Accepts m.made m.refused P limit → before ≤ limit
    → reading_break m s before opcodes ≡ None → AreAccepted P limit before (records m s opcodes)
unfolding records reading_break
accepted_records m P limit s before End accepts le none = record { few = omega arith; all = All-nil P }
accepted_records m P limit s before (Refused at fault) accepts le none = absurd (cc)
accepted_records m P limit s before (Next at opcode more) accepts le none =
    let offsets = m.recorded s opcode in
    let two = or_none (option_map (site_in m.rule at) (first_fault (m.refused s) before offsets)) (reading_break m (m.moved s opcode) (before + length offsets) more) none in
    let one = accepted_run m.made m.refused P limit s before offsets accepts le (no_site m.rule at (first_fault (m.refused s) before offsets) two.0) in
    let long : length (map (m.made s) offsets) ≡ length offsets = length-map offsets (m.made s) in
    let rest = accepted_records m P limit (m.moved s opcode) (before + length offsets) more accepts (omega (arith, one.few, long)) two.1 in
    let both = length-append (map (m.made s) offsets) (records m (m.moved s opcode) more) in
    record { few = omega (arith, rest.few, both, long); all = All-append P (map (m.made s) offsets) (records m (m.moved s opcode) more) one.all rest.all }
