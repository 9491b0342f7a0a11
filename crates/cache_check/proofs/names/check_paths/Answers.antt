use Rattle.std.proofs.Common.{◌≡◌, ℕ, List, Bor, Option, None, Some, ap, sym, ◌∙◌}
use Rattle.std.specs.Map.{lookup}
use Rattle.dsc_base.specs.declared.finding_kind.FindingKind.TheVariants.{NameTwice}
use Rattle.cache_header.specs.Records.{Entry}
use Rattle.macho_image.specs.Rules.{same_bytes}
use Rattle.cache_check.specs.Images.{twice_finding}
use Rattle.cache_check.proofs.EachLaws.{clear_start, clear_more, clear_refused, clear_none, found_at}
use Rattle.cache_check.proofs.PathLaws.{numbered_new, twice_is}
use Rattle.cache_check.proofs.names.check_paths.Goals as goal

abbrev found_in : List (Bor (List ℕ) × ℕ) → List ℕ → Option ℕ
found_in entries name = lookup (λ (k : Bor (List ℕ)). same_bytes name k.now) entries

pub loop-number-init : goal.loop-number-init
loop-number-init c = record { clear = clear_start (twice_finding c.args.entries.now) c.args.entries.now; numbered = λ path. ap (λ (es : List (Bor (List ℕ) × ℕ)). found_in es path) c.new-numbers.ensures.empty }

pub loop-number-preserved : goal.loop-number-preserved
loop-number-preserved c =
    let key = c.as_slice-path.result.now in
    let is_path = c.as_slice-path.ensures ∙ ap (λ (e : Entry). e.path) c.entry.view_is in
    let old = found_in c.loop-number.numbers.entries in
    let absent : old key ≡ None = sym c.number_of.ensures ∙ c.in_default.is in
    record {
      clear = clear_more (twice_finding c.args.entries.now) c.args.entries.now c.loop-number.number c.index-entries-number.result c.loop-number.invariant.clear c.loop-number-test.true c.index-entries-number.is
          (twice_is c.args.entries.now old c.loop-number.number c.index-entries-number.result key None c.loop-number.invariant.numbered is_path absent);
      numbered = numbered_new c.args.entries.now old (found_in c.insert.new.self.entries) c.loop-number.number c.index-entries-number.result key c.loop-number.invariant.numbered c.loop-number-test.true c.index-entries-number.is is_path absent
          (λ other. c.in-Ok.ensures.updates.0 record { ref_ptr = (0, 0); now = other });
    }

pub returns-in-Some : goal.returns-in-Some
returns-in-Some c =
    let key = c.as_slice-path.result.now in
    let is_path = c.as_slice-path.ensures ∙ ap (λ (e : Entry). e.path) c.entry.view_is in
    let old = found_in c.loop-number.numbers.entries in
    clear_refused (twice_finding c.args.entries.now) c.args.entries.now c.loop-number.number c.index-entries-number.result c.found.result c.loop-number.invariant.clear c.loop-number-test.true c.index-entries-number.is
    (found_at (twice_finding c.args.entries.now c.loop-number.number c.index-entries-number.result) NameTwice c.loop-number.number c.in-Some.earlier c.from.result c.found.result
    (twice_is c.args.entries.now old c.loop-number.number c.index-entries-number.result key (Some c.in-Some.earlier) c.loop-number.invariant.numbered is_path (sym c.number_of.ensures ∙ c.in-Some.is)) c.from.ensures c.found.ensures)

pub returns : goal.returns
returns c = clear_none (twice_finding c.args.entries.now) c.args.entries.now c.loop-number.number c.loop-number.invariant.clear c.loop-number-test.false
