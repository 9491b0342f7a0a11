-- A cache whose shape is whole and with which nothing is wrong.
use Rattle.std.specs.Prelude.{◌≡◌, ◌≤◌, ℕ, ◌+◌, ◌-◌, ◌%◌, None, List, length, take, drop}
use Rattle.dsc_base.specs.Limits.{span_limit}
use Rattle.dsc_base.specs.Region.{region_size}
use Rattle.slide_chain.specs.Chains.{chain_finding}
use Rattle.slide_chain.specs.Info.{info_read, info_finding}
use Rattle.cache_header.specs.Findings.{head_finding}
use Rattle.cache_header.specs.Reading.{mappings_of, slide_info_bytes, slide_place, max_slide}
use Rattle.load_model.specs.Mapped.{three_mappings}

-- Nothing is wrong with its head. Its mappings are text, data and linkedit of whole pages, one behind the other, which are the whole file and have room in the region at each slide that the head permits.
-- The linkedit has slide information with which nothing is wrong, nor with the chains of the data that it tells.
pub record IsSoundCache (cache : List ℕ) : Type 0 where
  pub head : head_finding cache ≡ None
  pub text : ℕ
  pub writable : ℕ
  pub linkedit : ℕ
  pub mappings : mappings_of cache ≡ three_mappings text writable linkedit
  pub text_pages : text % 4096 ≡ 0
  pub writable_pages : writable % 4096 ≡ 0
  pub linkedit_pages : linkedit % 4096 ≡ 0
  pub whole : text + (writable + linkedit) ≡ length cache
  pub low : length cache ≤ span_limit
  pub slides : max_slide cache ≤ region_size - length cache
  pub behind : text + writable ≤ (slide_place cache).at
  pub within : (slide_place cache).at + (slide_place cache).len ≤ length cache
  pub info : info_finding writable (slide_info_bytes cache) ≡ None
  pub chains : chain_finding (info_read (slide_info_bytes cache)) (take writable (drop text cache)) ≡ None
