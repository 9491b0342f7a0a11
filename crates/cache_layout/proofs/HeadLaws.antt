-- The paths of a head take at most 1,025 bytes each.
use Rattle.std.proofs.Common.{◌≡◌, ◌≤◌, ◌<◌, ℕ, ◌+◌, ◌*◌, List, length, take, get_or, ap, arith}
use Rattle.std.specs.Prelude.{All}
use Rattle.std.specs.List.{sum_by}
use Rattle.std.proofs.lemmas.List.Sums.{sum_by-le, sum_by_more_le, sum_by-take-le}
use Rattle.macho_image.specs.Records.{Img}
use Rattle.cache_layout.specs.Places.{path_size}

paths-all : (is : List Img) → All (λ (i : Img). length i.install_name ≤ 1024) is → sum_by path_size is ≤ length is * 1025
paths-all is short = sum_by-le path_size 1025 is (λ k d lt. omega (arith, short k d lt))

pub paths-most : (is : List Img) (n : ℕ) → All (λ (i : Img). length i.install_name ≤ 1024) is → sum_by path_size (take n is) ≤ length is * 1025
paths-most is n short = omega (arith, sum_by-take-le path_size is n, paths-all is short)

pub paths-fit : (is : List Img) (n : ℕ) (i : Img) → All (λ (i : Img). length i.install_name ≤ 1024) is → n < length is → i ≡ get_or is n i
    → sum_by path_size (take n is) + (length i.install_name + 1) ≤ length is * 1025
paths-fit is n i short lt at = omega (arith, sum_by_more_le path_size is n i lt, ap path_size at, paths-all is short)
