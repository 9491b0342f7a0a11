-- Each part that is appended is the next part of the head.
use Rattle.std.proofs.Common.{◌≡◌, ◌∙◌, ap, ℕ, List, length, arith}
use Rattle.std.specs.List.{flat_map}
use Rattle.dsc_base.specs.Fields.{spelled}
use Rattle.cache_header.specs.declared.head.Mapping.{Mapping}
use Rattle.cache_header.specs.contracts.head.CacheHead.{the_view}
use Rattle.cache_header.specs.Records.{Entry}
use Rattle.cache_header.specs.Spelling.{header_fields, mapping_fields, image_table, text_table, path_bytes, head_bytes}
use Rattle.cache_header.proofs.HeadLaws.{head_appended}
use Rattle.cache_header.proofs.writing.spell_head.Goals as goal

pub returns-clause-bytes : goal.returns-clause-bytes
returns-clause-bytes c =
    let count : c.len-count.result ≡ length c.head.inside.images.items = omega (arith, c.len-count.ensures, c.head.inside.images.ok.0) in
    head_appended (the_view c.head.inside) c.in_ok-bytes.bytes.items c.deref-2.result.now c.deref-4.result.now c.deref-6.result.now c.deref-8.result.now _ _ _ _
    (c.in_ok-bytes.ensures.bytes ∙ ap (λ (n : ℕ). spelled (header_fields n c.head.inside.slide_info c.head.inside.uuid c.head.inside.max_slide)) count)
    (c.deref-2.ensures.value ∙ (c.in_ok-mappings.ensures.bytes ∙ ap (λ (l : List Mapping). spelled (flat_map mapping_fields l)) c.deref.ensures.value))
    (c.deref-4.ensures.value ∙ (c.in_ok-images.ensures ∙ ap (λ (l : List Entry). spelled (image_table l)) c.deref-3.ensures.value))
    (c.deref-6.ensures.value ∙ (c.in_ok-texts.ensures.bytes ∙ ap (λ (l : List Entry). spelled (text_table l)) c.deref-5.ensures.value))
    (c.deref-8.ensures.value ∙ (c.in_ok-paths.ensures ∙ ap (λ (l : List Entry). flat_map path_bytes l) c.deref-7.ensures.value))
    c.in_ok-extend_from_slice.ensures.items c.in_ok-extend_from_slice-2.ensures.items c.in_ok-extend_from_slice-3.ensures.items c.in_ok-extend_from_slice-4.ensures.items
    ∙ ap head_bytes c.head.view_is
