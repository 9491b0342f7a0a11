-- An image of a vetted cache, and its words.
use Rattle.std.proofs.Common.{◌≡◌, ◌<◌, ◌∙◌, length, refl, ap, subst, arith}
use Rattle.std.specs.Prelude.{IfOk}
use Rattle.std.proofs.lemmas.Option.{slice_get_read}
use Rattle.extractor.specs.ExtractOf.{extract_of}
use Rattle.extractor.specs.Vets.{Parts, parts_of}
use Rattle.extractor.proofs.FreeLaws.{lists_long}
use Rattle.extractor.proofs.ReadyLaws.{can_extract, own_list, all_files}
use Rattle.extractor.proofs.extracting.extract.Goals as goal

pub write_file-requires-clause-ready : goal.write_file-requires-clause-ready
write_file-requires-clause-ready c =
    let p = parts_of c.vetted.inside in
    let k = c.args.image in
    let many = ap (λ (q : Parts). length q.images) c.vetted.view_is in
    let lt : c.args.image < length c.vetted.inside.images.items = omega (arith, c.requires, many) in
    let within : c.args.image < length c.vetted.inside.free.items = omega (arith, lt, c.vetted.invariant.free_are.count, lists_long c.vetted.inside.free.items) in
    let there = slice_get_read c.vetted.inside.images.items (length c.vetted.inside.images.items) k c.index-own.result.now refl lt c.index-own.ensures in
    can_extract p k c.index-own.result.now c.deref.result.now c.vetted.invariant there (c.deref.ensures.value ∙ own_list c.vetted.inside.free.items k c.index-words.result.now within c.index-words.ensures)

pub returns : goal.returns
returns c =
    let p = parts_of c.vetted.inside in
    let k = c.args.image in
    let many = ap (λ (q : Parts). length q.images) c.vetted.view_is in
    let lt : c.args.image < length c.vetted.inside.images.items = omega (arith, c.requires, many) in
    let within : c.args.image < length c.vetted.inside.free.items = omega (arith, lt, c.vetted.invariant.free_are.count, lists_long c.vetted.inside.free.items) in
    let there = slice_get_read c.vetted.inside.images.items (length c.vetted.inside.images.items) k c.index-own.result.now refl lt c.index-own.ensures in
    let made = all_files p k c.index-own.result.now c.deref.result.now c.write_file.result c.vetted.invariant there (c.deref.ensures.value ∙ own_list c.vetted.inside.free.items k c.index-words.result.now within c.index-words.ensures) c.write_file.ensures in
    subst (λ (q : Parts). IfOk c.write_file.result (λ v. v.items ≡ extract_of q.view c.args.image)) c.vetted.view_is made
