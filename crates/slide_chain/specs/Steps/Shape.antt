-- What the test of a shape tells.
use Rattle.std.specs.Prelude.{◌≡◌, ◌≤◌, ℕ, ◌+◌, ◌*◌, ◌/◌, List, length}
use Rattle.dsc_base.specs.Numbers.{number_at}

-- slide information of data of so many bytes has its head and both arrays
pub record HasShape (size : ℕ) (bytes : List ℕ) : Type 0 where
  pub head : 40 ≤ length bytes
  pub version : number_at 4 bytes 0 ≡ 2
  pub page : number_at 4 bytes 4 ≡ 4096
  pub pages : number_at 4 bytes 12 ≡ size / 4096
  pub starts : number_at 4 bytes 8 + 2 * number_at 4 bytes 12 ≤ length bytes
  pub extras : number_at 4 bytes 16 + 2 * number_at 4 bytes 20 ≤ length bytes
