use Rattle.std.proofs.Common.{◌≡◌, ◌∙◌, ◌++◌, ap, sym, refl, inl, inr, List, ℕ, [], arith}
use Rattle.std.proofs.lemmas.Bool.Decides.{nat_tests}
use Rattle.macho_image.specs.Macho.{number_of}
use Rattle.macho_edit.specs.declared.spots.LinkSpots.{LinkSpots}
use Rattle.macho_edit.specs.Tables.{words_for, with_words, info_words, symtab_words, dysymtab_words, data_words}
use Rattle.macho_edit.proofs.AppendLaws.{spotted_with, spotted_none}
use Rattle.macho_edit.proofs.tables.append_spotted.Goals as goal

number : (spots : LinkSpots) (n k : ℕ) (ns : List ℕ) (c : List ℕ) → n ≡ number_of c → n ≡ k → words_for spots k ≡ ns → words_for spots (number_of c) ≡ ns
number spots n k ns c read is known = ap (words_for spots) (sym read ∙ is) ∙ known

pub returns-in_ok-append_with-in-34 : goal.returns-in_ok-append_with-in-34
returns-in_ok-append_with-in-34 c =
    let spots : LinkSpots = c.args.spots.now in
    spotted_with spots c.args.command.now (info_words spots) c.args.out.now.items c.append_with.new.out.items
    (elim c.in-34.is [
      | inl is ↦ number spots c.get_u32.result 0x22 (info_words spots) c.args.command.now c.get_u32.ensures is refl
      | inr is ↦ number spots c.get_u32.result 0x80000022 (info_words spots) c.args.command.now c.get_u32.ensures is refl
    ])
    (c.in_ok-append_with-in-34.ensures ∙ ap (λ (l : List ℕ). c.args.out.now.items ++ with_words l c.args.command.now) c.info_words.ensures)

pub returns-in_ok-append_with-in-2 : goal.returns-in_ok-append_with-in-2
returns-in_ok-append_with-in-2 c =
    let spots : LinkSpots = c.args.spots.now in
    spotted_with spots c.args.command.now (symtab_words spots) c.args.out.now.items c.append_with-in-2.new.out.items
    (number spots c.get_u32.result 2 (symtab_words spots) c.args.command.now c.get_u32.ensures c.in-2.is refl)
    (c.in_ok-append_with-in-2.ensures ∙ ap (λ (l : List ℕ). c.args.out.now.items ++ with_words l c.args.command.now) c.symtab_words.ensures)

pub returns-in_ok-append_dysymtab-in-11 : goal.returns-in_ok-append_dysymtab-in-11
returns-in_ok-append_dysymtab-in-11 c =
    let spots : LinkSpots = c.args.spots.now in
    spotted_with spots c.args.command.now (dysymtab_words spots) c.args.out.now.items c.append_dysymtab.new.out.items
    (number spots c.get_u32.result 0xB (dysymtab_words spots) c.args.command.now c.get_u32.ensures c.in-11.is refl)
    c.in_ok-append_dysymtab-in-11.ensures

pub returns-in_ok-append_with-in-38 : goal.returns-in_ok-append_with-in-38
returns-in_ok-append_with-in-38 c =
    let spots : LinkSpots = c.args.spots.now in
    spotted_with spots c.args.command.now (data_words spots.function_starts) c.args.out.now.items c.append_with-in-38.new.out.items
    (number spots c.get_u32.result 0x26 (data_words spots.function_starts) c.args.command.now c.get_u32.ensures c.in-38.is refl)
    (c.in_ok-append_with-in-38.ensures ∙ ap (λ (l : List ℕ). c.args.out.now.items ++ with_words l c.args.command.now) c.data_words.ensures)

pub returns-in_ok-append_with-in-41 : goal.returns-in_ok-append_with-in-41
returns-in_ok-append_with-in-41 c =
    let spots : LinkSpots = c.args.spots.now in
    spotted_with spots c.args.command.now (data_words spots.data_in_code) c.args.out.now.items c.append_with-in-41.new.out.items
    (number spots c.get_u32.result 0x29 (data_words spots.data_in_code) c.args.command.now c.get_u32.ensures c.in-41.is refl)
    (c.in_ok-append_with-in-41.ensures ∙ ap (λ (l : List ℕ). c.args.out.now.items ++ with_words l c.args.command.now) c.data_words-in-41.ensures)

pub returns-in_ok-extend_from_slice-in_default : goal.returns-in_ok-extend_from_slice-in_default
returns-in_ok-extend_from_slice-in_default c = let none : words_for c.args.spots.now (number_of c.args.command.now) ≡ [] = grind (arith, nat_tests) in
    spotted_none c.args.spots.now c.args.command.now c.args.out.now.items c.extend_from_slice.new.self.items none c.in_ok-extend_from_slice-in_default.ensures.items
