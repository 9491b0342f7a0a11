-- Moved exports can be written: names, flags and the names that re-exports have are kept.
use Rattle.std.proofs.Common.{◌≡◌, ◌<◌, inl, inr, ℕ, ◌+◌, List, [], ◌∷◌, length, get_or, refl, sym, ap, ap₂, subst, ◌∙◌, arith}
use Rattle.std.specs.Prelude.{nat_lt, ◌||◌}
use Rattle.std.specs.List.{sum_by}
use Rattle.std.specs.Ordering.{nat_cmp}
use Rattle.std.specs.Cmp.Lexicographic.{slice_cmp}
use Rattle.std.proofs.lemmas.List.{length-map, get_or-map}
use Rattle.std.proofs.lemmas.List.Sums.{sum_by-cons}
use Rattle.dsc_base.specs.Limits.{record_limit, export_names_limit}
use Rattle.macho_image.specs.Records.{Seg}
use Rattle.macho_image.specs.declared.place.Moved.{Moved}
use Rattle.export_trie.specs.declared.export.Export.{Export}
use Rattle.export_trie.specs.declared.export.Target.{Target}
use Rattle.export_trie.specs.declared.export.Target.TheVariants.{Offset, Absolute, Reexport}
use Rattle.export_trie.specs.Order.{renamed_len, names_len, too_many}
use Rattle.export_trie.specs.Paths.{Member}
use Rattle.export_trie.specs.Writing.{FitsFlags, IsWritableExport, IsWritable}
use Rattle.linkedit_merge.specs.Exports.{moved_target, moved_export, moved_exports}

module _ (segments : List Seg) (moves : List Moved) where
  move : Export → Export
  move export = moved_export segments moves export

  fits : (flags : ℕ) (target : Target) → FitsFlags flags target → FitsFlags flags (moved_target segments moves target)
  fits flags (Offset offset) h = h
  fits flags (Absolute value) h = h
  fits flags (Reexport ordinal name) h = h

  renamed : (target : Target) → renamed_len (moved_target segments moves target) ≡ renamed_len target
  renamed (Offset offset) = refl
  renamed (Absolute value) = refl
  renamed (Reexport ordinal name) = refl

  writable_one : (export : Export) → IsWritableExport export → IsWritableExport (moved_export segments moves export)
  writable_one export h = record {
    short = h.short;
    plain = h.plain;
    known = h.known;
    no_resolver = h.no_resolver;
    fits = fits export.flags export.target h.fits;
  }

  named : (exports : List Export) → sum_by names_len (moved_exports segments moves exports) ≡ sum_by names_len exports
  named [] = refl
  named (export ∷ exports) =
      sum_by-cons names_len (moved_export segments moves export) (moved_exports segments moves exports)
      ∙ (ap₂ (λ (m n : ℕ). length export.name + m + n) (renamed export.target) (named exports)
      ∙ sym (sum_by-cons names_len export exports))

  many : (exports : List Export) → too_many (moved_exports segments moves exports) ≡ too_many exports
  unfolding too_many
  many exports = ap₂ (λ (n m : ℕ). nat_lt record_limit n || nat_lt export_names_limit m) (length-map exports (moved_export segments moves)) (named exports)

  -- a member of the moved ones is a moved member
  member : (P : Export → Type 0) (exports : List Export) → ((export : Export) → Member export exports → P (moved_export segments moves export)) → (export : Export) → Member export (moved_exports segments moves exports) → P export
  member P [] all export none = absurd none
  member P (first ∷ exports) all export (inl is) = subst P (sym is) (all first (inl refl))
  member P (first ∷ exports) all export (inr later) = member P exports (λ e m. all e (inr m)) export later

  pub moved_writable : (exports : List Export) → IsWritable exports → IsWritable (moved_exports segments moves exports)
  moved_writable exports h = record {
    rises = λ k d within.
        let long : length (moved_exports segments moves exports) ≡ length exports = length-map exports (moved_export segments moves) in
        let at : (i : ℕ) → i < length exports → (get_or (moved_exports segments moves exports) i d).name ≡ (get_or exports i d).name =
        λ i lt. ap (λ (e : Export). e.name) (get_or-map (moved_export segments moves) exports i d d lt) in
        ap₂ (λ (m n : List ℕ). slice_cmp nat_cmp m n) (at k (omega arith)) (at (k + 1) (omega arith)) ∙ h.rises k d (omega arith);
    each = member IsWritableExport exports (λ e m. writable_one e (h.each e m));
    few = many exports ∙ h.few;
  }
