-- A write to a part of the bytes is a put of the number there.
use Rattle.std.proofs.Common.{◌-◌, ◌+◌, ◌∙◌, ℕ, List, ap, arith, rules}
use Rattle.std.proofs.lemmas.List.{drop_all, append-nil}
use Rattle.dsc_base.specs.Numbers.{number_at}
use Rattle.dsc_base.proofs.NumberLaws.{put_mid-put, number_at-put_same}
use Rattle.dsc_base.proofs.numbers.put_u32.Goals as goal

put : goal.returns-clause-put
put c =
    put_mid-put 4 c.args.bytes.now c.args.at (c.args.at + 4 - c.args.at) c.args.value c.write_u32.new.buf
    (search (rules, drop_all, append-nil)) (omega arith)

pub returns-clause-put : goal.returns-clause-put
returns-clause-put c = put c

pub returns-clause-reads_back : goal.returns-clause-reads_back
returns-clause-reads_back c =
    ap (λ (l : List ℕ). number_at 4 l c.args.at) (put c) ∙ number_at-put_same 4 c.args.bytes.now c.args.at c.args.value (omega arith) (omega arith)
