use Rattle.std.specs.Prelude.{◌≡◌, ◌≤◌, ◌+◌, ◌-◌, ◌++◌, ◌↔◌, ℕ, List, take, length, Result, Ok, Err, Some, IsOk, OnOk, OnErr, refl}
use Rattle.std.proofs.Common.{arith, ap, ◌∙◌}
use Rattle.std.proofs.lemmas.List.{take_all}
use Rattle.dsc_base.specs.Outside.{Rose, AppendsPrefix}
use Rattle.dsc_base.proofs.outside.mem_sink.MemSinkSink.TheImpl.Goals as goal

all_fits : {E : Type 0} (r : Result (Unit {0}) E) (old new bytes : List ℕ) (room : ℕ) → IsOk r ↔ (length old + length bytes ≤ room) → new ≡ old ++ take (room - length old) bytes → OnOk r (Some new ≡ Some (old ++ bytes))
all_fits (Ok u) old new bytes room fits is = let whole : take (room - length old) bytes ≡ bytes = take_all (room - length old) bytes (let h : length old + length bytes ≤ room = fits.0 refl in omega arith) in ap (λ (ws : List ℕ). Some ws) (is ∙ ap (λ (ws : List ℕ). old ++ ws) whole)
all_fits (Err e) old new bytes room fits is = tt

some_prefix : {E : Type 0} (r : Result (Unit {0}) E) (old new bytes : List ℕ) (n : ℕ) → new ≡ old ++ take n bytes → OnErr r (AppendsPrefix (Some old) bytes (Some new))
some_prefix (Ok u) old new bytes n is = tt
some_prefix (Err e) old new bytes n is = (n, ap (λ (ws : List ℕ). Some ws) is)

no_less : {E : Type 0} (r : Result (Unit {0}) E) (old new : ℕ) → OnOk r (new ≡ old) → OnErr r (Rose old new) → old ≤ new
no_less (Ok u) old new same rose = omega arith
no_less (Err e) old new same rose = omega arith

pub put-tells : goal.put-tells
put-tells c = record {
  all = all_fits c.result c.args.self.now.written c.new.self.now.written c.args.bytes.now c.args.self.now.room c.ensures.fits c.ensures.written;
  prefix = some_prefix c.result c.args.self.now.written c.new.self.now.written c.args.bytes.now (c.args.self.now.room - length c.args.self.now.written) c.ensures.written;
  cause = c.ensures.fault;
  count = no_less c.result c.args.self.now.faults c.new.self.now.faults c.ensures.sound c.ensures.fault;
}
