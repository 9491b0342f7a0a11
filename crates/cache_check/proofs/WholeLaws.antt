-- A cache of three mappings of whole pages, which are the whole file, with nothing wrong in its head, its slide information and its chains, has no finding.
use Rattle.std.proofs.Common.{◌≡◌, ◌≤◌, ℕ, ◌+◌, ◌-◌, ◌%◌, true, None, List, [], ◌∷◌, length, take, drop, refl, ap, ◌∙◌, arith}
use Rattle.std.proofs.lemmas.Bool.{and_from, eq-eqb, le-leb}
use Rattle.dsc_base.specs.Refusals.{first_break}
use Rattle.dsc_base.specs.Region.{region_start, region_size}
use Rattle.dsc_base.specs.Limits.{span_limit}
use Rattle.slide_chain.specs.Chains.{chain_finding}
use Rattle.slide_chain.specs.Info.{info_read, info_finding}
use Rattle.cache_header.specs.declared.head.Mapping.{Mapping}
use Rattle.cache_header.specs.Findings.{head_finding}
use Rattle.cache_header.specs.Reading.{mappings_of, slide_info_bytes, slide_place, max_slide, head_read}
use Rattle.load_model.specs.Mapped.{three_mappings}
use Rattle.cache_check.specs.Shape.{is_mapping, are_three, is_mapped_whole, linkedit_mapping, is_in_mapping, data_mapping, shape_finding}
use Rattle.cache_check.specs.Views.{slide_finding, view_finding}
use Rattle.cache_check.proofs.ShapeLaws.{found_none}
use Rattle.cache_check.proofs.ViewLaws.{nothing_found}

-- ---- tests that are passed

mapping_passes : (place size protection : ℕ) → size % 4096 ≡ 0 → is_mapping place protection (record { address = region_start + place; size = size; file = place; max_prot = protection; init_prot = protection }) ≡ true
unfolding is_mapping
mapping_passes place size protection pages =
    and_from _ _ (eq-eqb (region_start + place) (region_start + place) refl)
    (and_from _ _ (eq-eqb place place refl)
    (and_from _ _ (eq-eqb protection protection refl)
    (and_from _ _ (eq-eqb protection protection refl) (eq-eqb (size % 4096) 0 pages))))

three_pass : (a b c size : ℕ) → a % 4096 ≡ 0 → b % 4096 ≡ 0 → c % 4096 ≡ 0 → a + (b + c) ≡ size → are_three size (three_mappings a b c) ≡ true
unfolding are_three
three_pass a b c size text writable linkedit long =
    and_from _ _ (eq-eqb (a + b + c) size (omega (arith, long)))
    (and_from _ _ (mapping_passes 0 a 5 text)
    (and_from _ _ (mapping_passes a b 3 writable) (mapping_passes (a + b) c 1 linkedit)))

-- ---- the cache

module _ (cache : List ℕ) (a b c : ℕ) (are : mappings_of cache ≡ three_mappings a b c) where
  shape_none : a % 4096 ≡ 0 → b % 4096 ≡ 0 → c % 4096 ≡ 0 → a + (b + c) ≡ length cache → length cache ≤ span_limit → max_slide cache ≤ region_size - length cache
      → a + b ≤ (slide_place cache).at → (slide_place cache).at + (slide_place cache).len ≤ length cache → shape_finding (length cache) (head_read cache) ≡ None
  unfolding head_read is_mapped_whole
  shape_none text writable linkedit long low slides behind within =
      found_none (length cache) (head_read cache)
      (and_from _ _ (le-leb (length cache) span_limit low)
      (and_from _ _ (ap (are_three (length cache)) are ∙ three_pass a b c (length cache) text writable linkedit long) (le-leb (max_slide cache) (region_size - length cache) slides)))
      (ap (λ (ms : List Mapping). is_in_mapping (linkedit_mapping ms) (slide_place cache)) are
      ∙ and_from _ _ (le-leb (a + b) (slide_place cache).at behind) (le-leb ((slide_place cache).at + (slide_place cache).len) (a + b + c) (omega (arith, long, within))))

  slides_none : info_finding b (slide_info_bytes cache) ≡ None → chain_finding (info_read (slide_info_bytes cache)) (take b (drop a cache)) ≡ None → slide_finding (head_read cache) cache ≡ None
  unfolding head_read slide_finding
  slides_none info chains =
      let info_is : info_finding (data_mapping (mappings_of cache)).size (slide_info_bytes cache) ≡ None = ap (λ (ms : List Mapping). info_finding (data_mapping ms).size (slide_info_bytes cache)) are ∙ info in
      let chains_is : chain_finding (info_read (slide_info_bytes cache)) (take (data_mapping (mappings_of cache)).size (drop (data_mapping (mappings_of cache)).file cache)) ≡ None =
      ap (λ (ms : List Mapping). chain_finding (info_read (slide_info_bytes cache)) (take (data_mapping ms).size (drop (data_mapping ms).file cache))) are ∙ chains in
      λ i. first_break (info_is i ∷ chains_is i ∷ [])

  pub nothing_wrong : head_finding cache ≡ None → a % 4096 ≡ 0 → b % 4096 ≡ 0 → c % 4096 ≡ 0 → a + (b + c) ≡ length cache → length cache ≤ span_limit → max_slide cache ≤ region_size - length cache
      → a + b ≤ (slide_place cache).at → (slide_place cache).at + (slide_place cache).len ≤ length cache → info_finding b (slide_info_bytes cache) ≡ None
      → chain_finding (info_read (slide_info_bytes cache)) (take b (drop a cache)) ≡ None → view_finding cache ≡ None
  nothing_wrong head text writable linkedit long low slides behind within info chains =
      nothing_found cache (head_read cache) refl head (shape_none text writable linkedit long low slides behind within) (slides_none info chains)
