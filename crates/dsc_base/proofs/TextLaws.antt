-- What a plain text is.
use Rattle.std.proofs.Common.{◌≡◌, ◌≤◌, ℕ, Bool, true, false, ◌&&◌, nat_le, List, length, refl, arith}
use Rattle.std.specs.List.{list_all}
use Rattle.std.proofs.lemmas.Bool.Decides.{nat_tests}
use Rattle.dsc_base.specs.Texts.{is_printable, is_plain_text}

pub record IsPlain (text : List ℕ) : Type 0 where
  pub some : 1 ≤ length text
  pub short : length text ≤ 1024
  pub printable : list_all is_printable text ≡ true

plain_and : (a b c : Bool) → a && (b && c) ≡ true → (a ≡ true) × (b ≡ true) × (c ≡ true)
plain_and true true true all = (refl, refl, refl)
plain_and true true false all = absurd (cc)
plain_and true false c all = absurd (cc)
plain_and false b c all = absurd (cc)

pub plain_is : (text : List ℕ) → is_plain_text text ≡ true → IsPlain text
unfolding is_plain_text
plain_is text plain =
    let parts = plain_and (nat_le 1 (length text)) (nat_le (length text) 1024) (list_all is_printable text) plain in
    let some : nat_le 1 (length text) ≡ true = parts.0 in
    let short : nat_le (length text) 1024 ≡ true = parts.1 in
    record { some = grind (arith, nat_tests); short = grind (arith, nat_tests); printable = parts.2 }
