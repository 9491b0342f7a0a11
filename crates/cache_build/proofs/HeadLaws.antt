-- The head of a set of images can be written.
use Rattle.std.proofs.Common.{◌≡◌, ◌≤◌, ◌<◌, ℕ, None, List, [], length, get_or, All, true, false, sym, ap, ◌∙◌, subst, arith}
use Rattle.std.proofs.lemmas.List.{get_or_default}
use Rattle.macho_image.specs.Records.{Img}
use Rattle.cache_header.specs.Records.{Entry, Head}
use Rattle.cache_header.specs.declared.head.Mapping.{Mapping}
use Rattle.dsc_base.specs.Texts.{is_plain_text}
use Rattle.cache_header.specs.Spelling.{IsWritable}
use Rattle.cache_layout.specs.Places.{numbered}
use Rattle.cache_layout.specs.Layouts.{Laid}
use Rattle.cache_layout.proofs.NumberedLaws.{numbered-get, length-numbered}
use Rattle.load_model.specs.Mapped.{three_mappings}
use Rattle.cache_build.specs.Head.{entry_of}
use Rattle.cache_build.specs.Fits.{Fits}

pub no_image : Img
no_image = record { install_name = []; segments = []; sections = []; dependencies = []; streams = record { rebase = []; bind = []; weak = []; lazy = []; exports = []; split = None; function_starts = []; data_in_code = []; symbols = []; strings = []; indirect = [] }; groups = []; uuid = []; has_dyld_info = false; header = [] }

pub plain_entries : (l : Laid) (images : List Img) → All Fits images → All (λ (e : Entry). is_plain_text e.path ≡ true) (numbered (entry_of l) images)
plain_entries l images fits k d lt =
    let within : k < length images = omega (arith, lt, length-numbered (entry_of l) images) in
    let i : Img = get_or images k no_image in
    subst (λ (e : Entry). is_plain_text e.path ≡ true) (sym (numbered-get (entry_of l) images k i d within (get_or_default images k no_image i within)))
    (fits k no_image within).path

pub writable_head : (l : Laid) (images : List Img) (h : Head) (a b c : ℕ) → length images ≤ 4096 → All Fits images → h.mappings ≡ three_mappings a b c → h.images ≡ numbered (entry_of l) images → IsWritable h
writable_head l images h a b c few fits mappings entries = record {
  three = ap (λ (ms : List Mapping). length ms) mappings;
  few = let long : length h.images ≡ length images = ap (λ (es : List Entry). length es) entries ∙ length-numbered (entry_of l) images in omega (arith, long, few);
  plain = subst (λ (es : List Entry). All (λ (e : Entry). is_plain_text e.path ≡ true) es) (sym entries) (plain_entries l images fits);
}
