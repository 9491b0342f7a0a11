-- The three steps leave in each span what the plan says.
use Rattle.std.proofs.Common.{◌≡◌, ◌∙◌, replicate, sym, ap, subst}
use Rattle.ref_rewrite.specs.Plans.{Plan}
use Rattle.ref_rewrite.specs.Rewritten.{rewritten}
use Rattle.ref_rewrite.proofs.SpanLaws.{image_bytes}
use Rattle.ref_rewrite.proofs.rewrite.image.rewrite_image.Goals as goal

pub returns-clause-text : goal.returns-clause-text
returns-clause-text g c =
    let i = c.plan.inside in
    let p : Plan = record { copies = i.copies.items; edits = i.edits.items; header = i.header.items; header_at = i.header_at; text = i.text; writable = i.writable; fixed = i.fixed; words = i.words.items } in
    let is : p ≡ c.args.plan.now = c.plan.view_is in
    let blank : c.args.text.now ≡ replicate i.text.len 0 = c.requires.text ∙ ap (λ (q : Plan). replicate q.text.len 0) (sym is) in
    subst (λ (q : Plan). c.set_numbers.new.text ≡ rewritten q q.text) is
    (image_bytes p i.text c.as_slice-copies.result.now c.as_slice-header.result.now c.as_slice-edits.result.now c.args.text.now c.copy_pieces.new.text c.copy_bytes.new.text c.set_numbers.new.text
    c.as_slice-copies.ensures.value c.as_slice-header.ensures.value c.as_slice-edits.ensures.value blank c.copy_pieces.ensures.text c.copy_bytes.ensures.text c.set_numbers.ensures.text)

pub returns-clause-writable : goal.returns-clause-writable
returns-clause-writable g c =
    let i = c.plan.inside in
    let p : Plan = record { copies = i.copies.items; edits = i.edits.items; header = i.header.items; header_at = i.header_at; text = i.text; writable = i.writable; fixed = i.fixed; words = i.words.items } in
    let is : p ≡ c.args.plan.now = c.plan.view_is in
    let blank : c.args.writable.now ≡ replicate i.writable.len 0 = c.requires.writable ∙ ap (λ (q : Plan). replicate q.writable.len 0) (sym is) in
    subst (λ (q : Plan). c.set_numbers.new.writable ≡ rewritten q q.writable) is
    (image_bytes p i.writable c.as_slice-copies.result.now c.as_slice-header.result.now c.as_slice-edits.result.now c.args.writable.now c.copy_pieces.new.writable c.copy_bytes.new.writable c.set_numbers.new.writable
    c.as_slice-copies.ensures.value c.as_slice-header.ensures.value c.as_slice-edits.ensures.value blank c.copy_pieces.ensures.writable c.copy_bytes.ensures.writable c.set_numbers.ensures.writable)

pub returns-clause-fixed : goal.returns-clause-fixed
returns-clause-fixed g c =
    let i = c.plan.inside in
    let p : Plan = record { copies = i.copies.items; edits = i.edits.items; header = i.header.items; header_at = i.header_at; text = i.text; writable = i.writable; fixed = i.fixed; words = i.words.items } in
    let is : p ≡ c.args.plan.now = c.plan.view_is in
    let blank : c.args.fixed.now ≡ replicate i.fixed.len 0 = c.requires.fixed ∙ ap (λ (q : Plan). replicate q.fixed.len 0) (sym is) in
    subst (λ (q : Plan). c.set_numbers.new.fixed ≡ rewritten q q.fixed) is
    (image_bytes p i.fixed c.as_slice-copies.result.now c.as_slice-header.result.now c.as_slice-edits.result.now c.args.fixed.now c.copy_pieces.new.fixed c.copy_bytes.new.fixed c.set_numbers.new.fixed
    c.as_slice-copies.ensures.value c.as_slice-header.ensures.value c.as_slice-edits.ensures.value blank c.copy_pieces.ensures.fixed c.copy_bytes.ensures.fixed c.set_numbers.ensures.fixed)
