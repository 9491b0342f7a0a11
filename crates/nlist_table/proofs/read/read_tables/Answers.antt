use Rattle.std.proofs.Common.{sym, ◌∙◌}
use Rattle.macho_image.specs.Nlists.{nlists_of, indirect_of}
use Rattle.macho_image.specs.TableRules.{tables_break, table_break}
use Rattle.nlist_table.proofs.BreakLaws.{refuses_on}
use Rattle.nlist_table.proofs.KeptLaws.{parts_are, parts_tables, parts_break, image_tables, image_leads}
use Rattle.nlist_table.proofs.read.read_tables.Goals as goal

pub returns-in_err-tables-clause-cause : goal.returns-in_err-tables-clause-cause
returns-in_err-tables-clause-cause c =
    let i = c.image.inside in
    let s = c.streams.inside in
    let parts = parts_are c.args.image.now _ _ c.len.result c.streams.view_is c.image.view_is (c.len.ensures ∙ i.sections.ok.0) in
    let same = parts_break c.args.image.now s.strings.now s.symbols.now i.groups s.indirect.now c.len.result parts in
    refuses_on (table_break c.args.image.now) (tables_break s.strings.now c.len.result (nlists_of s.symbols.now) i.groups (indirect_of s.indirect.now)) c.from_residual.result c.in_err-tables.field-0.0
    same c.from_residual.ensures.1 c.in_err-tables.ensures.cause

pub returns : goal.returns
returns c =
    let i = c.image.inside in
    let s = c.streams.inside in
    let parts = parts_are c.args.image.now _ _ c.len.result c.streams.view_is c.image.view_is (c.len.ensures ∙ i.sections.ok.0) in
    let is = c.in_ok-tables.ensures.tables ∙ parts_tables c.args.image.now s.strings.now s.symbols.now i.groups s.indirect.now c.len.result parts in
    let sound = sym (parts_break c.args.image.now s.strings.now s.symbols.now i.groups s.indirect.now c.len.result parts) ∙ c.in_ok-tables.ensures.cause in
    record {
      tables = is;
      sound = image_tables c.args.image.now c.in_ok-tables.tables is sound;
      same = image_leads c.args.image.now c.in_ok-tables.tables is sound;
      cause = sound;
    }
