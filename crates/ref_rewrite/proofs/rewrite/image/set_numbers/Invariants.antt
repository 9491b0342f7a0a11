use Rattle.std.proofs.Common.{◌≡◌, drop}
use Rattle.dsc_base.specs.Edits.{put_all}
use Rattle.ref_rewrite.specs.Rewritten.{edits_in}
use Rattle.ref_rewrite.proofs.rewrite.image.set_numbers.Given as goal

-- what the edits behind leave in each span is what all of them leave
abbrev pub invariant-loop-edit : goal.invariant-loop-edit
invariant-loop-edit l = record {
  text : put_all (edits_in l.spans.text (drop l.edit-index l.edits)) l.text ≡ put_all (edits_in l.spans.text l.edits) l.initial.text;
  writable : put_all (edits_in l.spans.writable (drop l.edit-index l.edits)) l.writable ≡ put_all (edits_in l.spans.writable l.edits) l.initial.writable;
  fixed : put_all (edits_in l.spans.fixed (drop l.edit-index l.edits)) l.fixed ≡ put_all (edits_in l.spans.fixed l.edits) l.initial.fixed;
}
