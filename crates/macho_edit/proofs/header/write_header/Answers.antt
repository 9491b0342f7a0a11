use Rattle.std.proofs.Common.{◌≡◌, ◌≤◌, ◌<◌, ◌^◌, ◌+◌, ◌∙◌, ◌-◌, ap, length, take, ℕ, arith, length-append}
use Rattle.std.specs.List.{concat}
use Rattle.std.proofs.lemmas.List.{length-take-le}
use Rattle.dsc_base.specs.Numbers.{number_at}
use Rattle.dsc_base.proofs.NumberLaws.{number_at-lt}
use Rattle.macho_image.specs.Macho.{header_size}
use Rattle.macho_edit.specs.Cached.{kept_commands, formed_front}
use Rattle.macho_edit.proofs.FrontLaws.{commands_fit, header_written}
use Rattle.macho_edit.proofs.header.write_header.Goals as goal

pub overflow_sub-size : goal.overflow_sub-size
overflow_sub-size c =
    let a : length c.extend_from_slice.new.self.items ≡ 32 =
    ap length c.in_ok-extend_from_slice.ensures.items
    ∙ (length-append c.in_ok-out.out.items (take 32 c.args.header.now) ∙ omega (arith, ap length c.in_ok-out.ensures.items, length-take-le 32 c.args.header.now c.requires.front)) in
    omega (arith, c.len.ensures, ap length c.in_ok-count.ensures.appended, length-append c.extend_from_slice.new.self.items (concat (kept_commands c.args.spots.now c.args.moves.now c.args.header.now)))

pub overflow_cast-size : goal.overflow_cast-size
overflow_cast-size c =
    let six : length c.args.spots.now.groups ≡ 6 = omega arith in
    let fits : 32 + length (concat (kept_commands c.args.spots.now c.args.moves.now c.args.header.now)) ≤ length c.args.header.now =
    commands_fit c.args.spots.now c.args.moves.now c.args.header.now six c.requires.front c.requires.shape in
    let room : number_at 4 c.args.header.now 20 < 2 ^ 32 = number_at-lt 4 c.args.header.now 20 (λ k. omega (arith, c.type_inv.header k)) in
    let whole : length c.args.header.now ≡ header_size c.args.header.now = c.requires.whole in
    let a : length c.extend_from_slice.new.self.items ≡ 32 =
    ap length c.in_ok-extend_from_slice.ensures.items
    ∙ (length-append c.in_ok-out.out.items (take 32 c.args.header.now) ∙ omega (arith, ap length c.in_ok-out.ensures.items, length-take-le 32 c.args.header.now c.requires.front)) in
    omega (arith, c.len.ensures, ap length c.in_ok-count.ensures.appended, length-append c.extend_from_slice.new.self.items (concat (kept_commands c.args.spots.now c.args.moves.now c.args.header.now)))

pub set_front-requires : goal.set_front-requires
set_front-requires c =
    let a : length c.extend_from_slice.new.self.items ≡ 32 =
    ap length c.in_ok-extend_from_slice.ensures.items
    ∙ (length-append c.in_ok-out.out.items (take 32 c.args.header.now) ∙ omega (arith, ap length c.in_ok-out.ensures.items, length-take-le 32 c.args.header.now c.requires.front)) in
    omega (arith, ap length c.deref_mut.ensures.value, ap length c.in_ok-count.ensures.appended, length-append c.extend_from_slice.new.self.items (concat (kept_commands c.args.spots.now c.args.moves.now c.args.header.now)))

pub returns-clause-bytes : goal.returns-clause-bytes
returns-clause-bytes c =
    let six : length c.args.spots.now.groups ≡ 6 = omega arith in
    let len : c.append_commands.new.out.len ≡ length c.append_commands.new.out.items = omega (arith, ap length c.deref_mut.ensures.value, c.deref_mut.ensures.len) in
    header_written c.args.form c.args.spots.now c.args.moves.now c.args.header.now c.in_ok-out.out.items c.extend_from_slice.new.self.items c.append_commands.new.out.items c.set_front.new.header
    c.resize.new.self.items c.in_ok-count.count (c.len.result - 32) c.append_commands.new.out.len six c.requires.front c.requires.shape
    c.in_ok-out.ensures.items c.in_ok-extend_from_slice.ensures.items c.in_ok-count.ensures.appended c.in_ok-count.ensures.counted len
    (ap (λ (n : ℕ). n - 32) c.len.ensures)
    (c.set_front.ensures ∙ ap (formed_front c.args.form c.in_ok-count.count (c.len.result - 32)) c.deref_mut.ensures.value)
    c.in_ok-resize.ensures.items
