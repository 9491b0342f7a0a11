-- A visit is entering the node and reading it.
use Rattle.std.proofs.Common.{◌≡◌, ℕ, List, reverse, ap, ap₂, subst}
use Rattle.std.proofs.lemmas.Result.{err_from_is_err_and}
use Rattle.export_trie.specs.Order.{Visit}
use Rattle.export_trie.specs.Reading.{Pend, Opens}
use Rattle.export_trie.proofs.ReadLaws.{enter_broken, open_stands, open_broken}
use Rattle.export_trie.proofs.reading.Walk.visit.Goals as goal

pub returns-in_err-enter-clause-fault : goal.returns-in_err-enter-clause-fault
returns-in_err-enter-clause-fault c =
    let p = err_from_is_err_and c.from_residual.result c.from_residual.ensures.1 in
    rw (p.1, p.2)
    (enter_broken c.args.self.now.bytes.now c.args.self.now.marks.items c.enter.new.marks.items c.args.self.now.name.items c.enter.new.name.items c.args.next.now
    (reverse c.args.self.now.pending.items) c.args.self.now.exports.items c.args.self.now.size c.in_err-enter.field-0.0 c.requires.stands c.in_err-enter.ensures)

pub returns-clause-stands : goal.returns-clause-stands
returns-clause-stands c =
    open_stands c.args.self.now.bytes.now c.args.self.now.marks.items c.enter.new.marks.items c.args.self.now.name.items c.enter.new.name.items c.args.next.now
    (reverse c.args.self.now.pending.items) (reverse c.open_node.new.pending.items) c.args.self.now.exports.items c.open_node.new.exports.items c.args.self.now.size c.open_node.new.size c.open_node.result
    c.requires.stands c.in_ok-enter.ensures
    (let at : c.next.inside.offset ≡ c.args.next.now.offset = ap (λ (p : Pend). p.offset) c.next.view_is in
    subst
    (λ (v : Visit). Opens c.args.self.now.bytes.now v c.args.self.now.exports.items c.open_node.new.exports.items c.open_node.new.size (reverse c.args.self.now.pending.items) (reverse c.open_node.new.pending.items) c.open_node.result)
    (ap₂ (λ (name : List ℕ) (offset : ℕ). let v : Visit = (name, offset) in v) c.deref.ensures.value at) c.open_node.ensures.opens)

pub returns-clause-fault : goal.returns-clause-fault
returns-clause-fault c =
    open_broken c.args.self.now.bytes.now c.args.self.now.marks.items c.enter.new.marks.items c.args.self.now.name.items c.enter.new.name.items c.args.next.now
    (reverse c.args.self.now.pending.items) (reverse c.open_node.new.pending.items) c.args.self.now.exports.items c.open_node.new.exports.items c.args.self.now.size c.open_node.new.size c.open_node.result
    c.requires.stands c.in_ok-enter.ensures
    (let at : c.next.inside.offset ≡ c.args.next.now.offset = ap (λ (p : Pend). p.offset) c.next.view_is in
    subst
    (λ (v : Visit). Opens c.args.self.now.bytes.now v c.args.self.now.exports.items c.open_node.new.exports.items c.open_node.new.size (reverse c.args.self.now.pending.items) (reverse c.open_node.new.pending.items) c.open_node.result)
    (ap₂ (λ (name : List ℕ) (offset : ℕ). let v : Visit = (name, offset) in v) c.deref.ensures.value at) c.open_node.ensures.opens)
