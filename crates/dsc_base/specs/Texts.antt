-- Plain text, as the paths of images and the names of dylibs are.
use Rattle.std.specs.Prelude.{ℕ, Bool, ◌&&◌, List, length, nat_le}
use Rattle.std.specs.List.{list_all}

-- a byte from the space to the tilde
abbrev pub is_printable : ℕ → Bool
is_printable x = nat_le 0x20 x && nat_le x 0x7E

-- 1 to 1,024 bytes, all printable
unfoldable pub is_plain_text : List ℕ → Bool
is_plain_text text = nat_le 1 (length text) && (nat_le (length text) 1024 && list_all is_printable text)
