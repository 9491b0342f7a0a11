-- The last digit stands alone, or behind the others.
use Rattle.std.proofs.Common.{◌<◌, ◌-◌, ◌/◌, ◌%◌, ℕ, refl, ap, sym, ◌∙◌, subst, arith, string_bytes}
use Rattle.dsc_tool.proofs.HexLaws.{glyph_small, next_digit, only_digit}
use Rattle.dsc_tool.proofs.hex.+push_digits.Goals as goal
use Rattle.dsc_tool.proofs.hex.+push_digits.Goals.{then-rest-gt0+in_ok-push_digits, else-rest-gt0}

pub returns : goal.returns
returns t c =
    let small : c.hex_digit.result < 128 = subst (λ (x : ℕ). x < 128) (sym c.hex_digit.ensures) (glyph_small (c.args.number % 16) (omega arith)) in
    let one = c.push.ensures.ascii small in
    elim c.if-rest-gt0.branch [
      | then-rest-gt0+in_ok-push_digits w ↦
          next_digit c.args.room (c.args.room - 1) c.args.number (c.args.number / 16) c.hex_digit.result (string_bytes c.args.text.now) (string_bytes c.if-rest-gt0.text) (string_bytes c.push.new.self) _
          refl (omega arith) refl (omega (arith, w.if-rest-gt0.true)) c.hex_digit.ensures one (ap string_bytes w.text-is ∙ w.in_ok-push_digits.ensures) c.in_ok-push.ensures.bytes
      | else-rest-gt0 w ↦
          only_digit c.args.room c.args.number (c.args.number / 16) c.hex_digit.result (string_bytes c.args.text.now) (string_bytes c.if-rest-gt0.text) (string_bytes c.push.new.self) _
          (omega arith) refl (omega (arith, w.if-rest-gt0.false)) c.hex_digit.ensures one (ap string_bytes w.text-is) c.in_ok-push.ensures.bytes
    ]
