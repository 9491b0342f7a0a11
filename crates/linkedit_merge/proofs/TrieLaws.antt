-- The trie of moved exports breaks no rule and reads back as them, if they are those of an accepted trie.
use Rattle.std.proofs.Common.{◌≡◌, ◌<◌, ℕ, ◌^◌, List, length, get_or, refl, sym, subst, arith, Option, Some, None, All}
use Rattle.std.proofs.lemmas.List.{length-map, get_or-map}
use Rattle.macho_image.specs.Records.{Seg}
use Rattle.macho_image.specs.declared.place.Moved.{Moved}
use Rattle.macho_image.specs.declared.places.segment_index.Inside.{Inside}
use Rattle.macho_image.specs.Segments.{inside}
use Rattle.prebind.specs.Places.{address_of_export}
use Rattle.export_trie.specs.declared.export.Export.{Export}
use Rattle.export_trie.specs.declared.export.Target.{Target}
use Rattle.export_trie.specs.declared.export.Target.TheVariants.{Offset, Absolute, Reexport}
use Rattle.export_trie.specs.Exports.{exports_of}
use Rattle.export_trie.specs.Order.{trie_break}
use Rattle.export_trie.specs.Planning.{HasNumber}
use Rattle.export_trie.specs.Writing.{trie_bytes}
use Rattle.export_trie.proofs.AcceptedTries.{exports_writable, exports_numbers}
use Rattle.export_trie.proofs.ExportLaws.{read_back}
use Rattle.linkedit_merge.specs.Exports.{new_header, offset_from, moved_offset, moved_target, moved_export, moved_exports}
use Rattle.linkedit_merge.specs.ReadBack.{IsTrie}
use Rattle.linkedit_merge.proofs.ExportLaws.{moved_writable}
use Rattle.macho_image.proofs.AboveLaws.{above_small}

-- ---- moved offsets have 64 bits

offset-fits : (segments : List Seg) (moves : List Moved) (offset : ℕ) (place : Option Inside) → offset < 2 ^ 64 → offset_from segments moves offset place < 2 ^ 64
offset-fits segments moves offset None fits = fits
offset-fits segments moves offset (Some p) fits = above_small (new_header segments moves) _

moved-fits : (segments : List Seg) (moves : List Moved) (offset : ℕ) → offset < 2 ^ 64 → moved_offset segments moves offset < 2 ^ 64
unfolding moved_offset
moved-fits segments moves offset fits = offset-fits segments moves offset (inside segments (address_of_export segments offset)) fits

moved_number : (segments : List Seg) (moves : List Moved) (target : Target) → HasNumber target → HasNumber (moved_target segments moves target)
moved_number segments moves (Offset offset) fits = moved-fits segments moves offset fits
moved_number segments moves (Absolute value) fits = fits
moved_number segments moves (Reexport ordinal name) fits = fits

moved_numbers : (segments : List Seg) (moves : List Moved) (exports : List Export) → All (λ (e : Export). HasNumber e.target) exports → All (λ (e : Export). HasNumber e.target) (moved_exports segments moves exports)
moved_numbers segments moves exports fit k d lt =
    let less : k < length exports = omega (arith, lt, length-map exports (moved_export segments moves)) in
    let e : Export = get_or exports k d in
    subst (λ (x : Export). HasNumber x.target) (sym (get_or-map (moved_export segments moves) exports k d d less)) (moved_number segments moves e.target (fit k d less))

-- ---- the trie

pub moved_is_trie : (segments : List Seg) (moves : List Moved) (trie : List ℕ) → trie_break trie ≡ None → IsTrie (moved_exports segments moves (exports_of trie))
moved_is_trie segments moves trie none =
    let exports = moved_exports segments moves (exports_of trie) in
    let back = read_back exports (trie_bytes exports) refl (moved_writable segments moves (exports_of trie) (exports_writable trie none)) (moved_numbers segments moves (exports_of trie) (exports_numbers trie none)) in
    record { accepted = back.0; back = back.1 }
