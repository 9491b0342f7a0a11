use Rattle.std.proofs.Common.{◌≡◌, ◌∙◌, sym, ap, ap₂, subst, arith, List, ℕ, ◌++◌, length, All}
use Rattle.std.specs.List.{flat_map}
use Rattle.dsc_base.specs.Fields.{spelled}
use Rattle.patch_table.specs.contracts.patches.Patches.{the_view}
use Rattle.patch_table.specs.declared.patches.Record.{Record}
use Rattle.patch_table.specs.Records.{Table}
use Rattle.patch_table.specs.Spelling.{IsTable, FitsRecord, head_fields, record_bytes, Spells}
use Rattle.patch_table.proofs.TableLaws.{table_same, table_spells}
use Rattle.patch_table.proofs.writing.write_patches.Goals as goal

-- the parts are those of the table
spelled_whole : goal.returns-clause-bytes
spelled_whole c =
    let cached : c.len.result ≡ length c.patches.inside.cached.items = omega (arith, c.len.ensures, c.patches.inside.cached.ok.0) in
    let own : c.len-2.result ≡ length c.patches.inside.own.items = omega (arith, c.len-2.ensures, c.patches.inside.own.ok.0) in
    subst (λ (t : Table). Spells t c.append_records-2.new.out.items) c.patches.view_is
    (table_spells (the_view c.patches.inside) c.in_ok-bytes.bytes.items c.append_records.new.out.items c.append_records-2.new.out.items
    (subst IsTable (sym c.patches.view_is) c.requires)
    (record {
      uuid = c.head.ensures.uuid_fits;
      image = c.head.ensures.image_fits;
      cached = subst (All FitsRecord) c.deref.ensures.value c.in_ok-append_records.ensures.fit;
      own = subst (All FitsRecord) c.deref-2.ensures.value c.in_ok-append_records-2.ensures.fit;
    })
    (c.in_ok-bytes.ensures.bytes ∙ ap₂ (λ (m n : ℕ). spelled (head_fields c.patches.inside.cache_uuid c.patches.inside.program c.patches.inside.image m n)) cached own)
    (c.in_ok-append_records.ensures.bytes ∙ ap (λ (l : List Record). c.in_ok-bytes.bytes.items ++ flat_map record_bytes l) c.deref.ensures.value)
    (c.in_ok-append_records-2.ensures.bytes ∙ ap (λ (l : List Record). c.append_records.new.out.items ++ flat_map record_bytes l) c.deref-2.ensures.value))

pub returns-clause-bytes : goal.returns-clause-bytes
returns-clause-bytes c = spelled_whole c

pub returns-clause-read_back : goal.returns-clause-read_back
returns-clause-read_back c = λ t spells. table_same t c.args.patches.now c.append_records-2.new.out.items spells (spelled_whole c)
