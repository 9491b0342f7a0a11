-- What a build is made with: the distance to the next word of a chain has so many bits.
use Rattle.std.specs.Prelude.{ℕ}

abbrev pub delta_bits : ℕ
delta_bits = 16
