-- The laws of a put.
use Rattle.std.proofs.Common.{arith}
use Rattle.dsc_base.proofs.NumberLaws.{number_at-put_same, number_at-put_other}
use Rattle.dsc_base.proofs.numbers.puts_read_back.Goals as goal

pub returns : goal.returns
returns c = record {
  same = λ w bytes at v inside fits. number_at-put_same w bytes at v (omega arith) fits;
  others = λ w bytes at v u other inside apart. number_at-put_other w bytes at v u other (omega arith) apart;
}
