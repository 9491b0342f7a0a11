-- Exports that differ nowhere lead to the same.
use Rattle.std.proofs.Common.{◌≡◌, ◌≤◌, ◌<◌, ℕ, suc, ◌+◌, ◌-◌, ◌^◌, Bool, true, false, ◌&&◌, nat_eq, Option, Some, None, List, [], ◌∷◌, length, map, refl, sym, ap, ap₂, ◌∙◌, arith, inl, inr, if◌then◌else◌}
use Rattle.std.specs.Prelude.{slice_get, option_map, max, position}
use Rattle.std.specs.Cmp.Lexicographic.{same_text}
use Rattle.std.proofs.lemmas.Bool.{cases_lt, and_parts, eqb-true}
use Rattle.std.proofs.lemmas.Option.{slice_get_past}
use Rattle.macho_image.specs.Records.{Img}
use Rattle.macho_image.specs.Rules.{is_linkedit_segment, same_bytes}
use Rattle.macho_image.specs.Breaks.{IsSound}
use Rattle.macho_image.specs.declared.places.segment_index.Inside.{Inside}
use Rattle.macho_image.specs.Places.{wrap, above}
use Rattle.macho_image.specs.Segments.{header_address, inside}
use Rattle.macho_image.proofs.AboveLaws.{added_above}
use Rattle.macho_image.proofs.HeaderLaws.{header_first}
use Rattle.macho_image.proofs.SegmentLaws.{inside_some, inside_here}
use Rattle.macho_image.proofs.SoundSegments.{segments_keep_apart}
use Rattle.export_trie.specs.declared.export.Export.{Export}
use Rattle.export_trie.specs.declared.export.Target.{Target}
use Rattle.export_trie.specs.declared.export.Target.TheVariants.{Offset, Absolute, Reexport}
use Rattle.export_trie.specs.Exports.{exports_of}
use Rattle.prebind.specs.Places.{is_linkedit_at, is_stray, strays}
use Rattle.load_model.specs.Corresponds.{SameTarget, SameExports}
use Rattle.load_model.proofs.LoadedWords.{start_low}
use Rattle.load_model.proofs.LoadingLaws.{IsLow, low_at}
use Rattle.load_model.proofs.RuledWords.{position_none}
use Rattle.load_model.proofs.SoundApart.{sound_apart}
use Rattle.load_model.proofs.WordCases.{IsIn, in_first, in_rest}
use Rattle.cache_check.specs.declared.verdict.Difference.{Difference}
use Rattle.cache_check.specs.Differences.{start_besides, own_start, moved_place, moved_offset, moved_target, moved_export, same_target, same_export, other_at, first_other, export_at, exports_difference}
use Rattle.cache_check.proofs.AlikeLaws.{AreAlike, IsAlike}
use Rattle.cache_check.proofs.FirstLaws.{none_each}

-- ---- one by one

abbrev ArePairs : List Export → List Export → Type 0
ArePairs [] [] = Unit {0}
ArePairs (f ∷ fs) (e ∷ es) = (same_export (Some f) (Some e) ≡ true) × ArePairs fs es
ArePairs _ _ = ⊥

pairs_by : (fs es : List Export) → ((n : ℕ) → same_export (slice_get fs n) (slice_get es n) ≡ true) → ArePairs fs es
pairs_by [] [] same = tt
pairs_by [] (e ∷ es) same = absurd (let none : same_export None (Some e) ≡ true = same 0 in cc)
pairs_by (f ∷ fs) [] same = absurd (let none : same_export (Some f) None ≡ true = same 0 in cc)
pairs_by (f ∷ fs) (e ∷ es) same = (same 0, pairs_by fs es (λ n. same (suc n)))

alike_at : (fs es : List Export) (n : ℕ) → other_at fs es n ≡ None → same_export (slice_get fs n) (slice_get es n) ≡ true
unfolding other_at
alike_at fs es n none = at (same_export (slice_get fs n) (slice_get es n)) none
  where
    at : (b : Bool) → (if b then None else Some n) ≡ None → b ≡ true
    at true none = refl
    at false none = absurd (cc)

none_other : (o : Option ℕ) (f : ℕ → Difference) → option_map f o ≡ None → o ≡ None
none_other None f none = refl
none_other (Some n) f none = absurd (cc)

all_alike : (k : ℕ) (file cached : Img) → exports_difference k file cached ≡ None → ArePairs (exports_of cached.streams.exports) (map (moved_export (moved_offset file cached)) (exports_of file.streams.exports))
unfolding exports_difference
all_alike k file cached none =
    let fs : List Export = exports_of cached.streams.exports in
    let es : List Export = map (moved_export (moved_offset file cached)) (exports_of file.streams.exports) in
    let nowhere : first_other fs es ≡ None = none_other (first_other fs es) (export_at k fs es) none in
    pairs_by fs es (λ n. elim (cases_lt n (max (length fs) (length es))) [
      | inl inside ↦ alike_at fs es n (none_each (other_at fs es) (max (length fs) (length es)) n nowhere inside)
      | inr past ↦
          let first : slice_get fs n ≡ None = slice_get_past fs n (omega (arith, past)) in
          let second : slice_get es n ≡ None = slice_get_past es n (omega (arith, past)) in
          ap₂ (λ (a b : Option Export). same_export a b) first second
    ])

-- ---- where they lead

-- a place of a file, and the same of the cached image
place_there : (file image : Img) → IsSound file → IsSound image → AreAlike file image → (x : ℕ) (p : Inside) → inside file.segments x ≡ Some p → is_linkedit_at (slice_get file.segments p.segment) ≡ false
    → inside image.segments (wrap (own_start image.segments p.segment + p.distance)) ≡ Some p
unfolding own_start
place_there file image sound cached_sound alike x p found other =
    let own = inside_some file.segments x p found in
    let besides : is_linkedit_segment own.0 ≡ false = sym (ap is_linkedit_at own.1) ∙ other in
    let same : IsAlike file image 0 own.0 image.segments p.segment = alike.segments p.segment own.0 own.1 besides in
    let start : start_besides (slice_get image.segments p.segment) ≡ same.segment.vmaddr = ap start_besides same.segment_is ∙ ap (λ (b : Bool). if b then 0 else same.segment.vmaddr) same.other in
    let low : IsLow same.segment = low_at p.segment same.segment image.segments (sound_apart image cached_sound) same.segment_is in
    let end : same.segment.vmaddr + same.segment.vmsize ≤ 0x800000000000 = low.low in
    let far : p.distance < own.0.vmsize = own.4 in
    let at : wrap (start_besides (slice_get image.segments p.segment) + p.distance) ≡ same.segment.vmaddr + p.distance = omega (arith, start, end, far, same.size) in
    let distance : same.segment.vmaddr + p.distance - same.segment.vmaddr ≡ p.distance = omega arith in
    ap (inside image.segments) at
    ∙ (inside_here image.segments p.segment same.segment (same.segment.vmaddr + p.distance) (segments_keep_apart image cached_sound) same.segment_is (omega arith) (omega (arith, far, same.size))
    ∙ ap (λ (d : ℕ). Some (let q : Inside = record { segment = p.segment; distance = d } in q)) distance)

offset_there : (file image : Img) → IsSound file → IsSound image → AreAlike file image → (o : ℕ) (p : Inside) → inside file.segments (wrap (header_address file.segments + o)) ≡ Some p → is_linkedit_at (slice_get file.segments p.segment) ≡ false
    → inside image.segments (wrap (header_address image.segments + moved_offset file image o)) ≡ Some p
unfolding moved_offset
offset_there file image sound cached_sound alike o p found other =
    let header : ℕ = header_address image.segments in
    let x : ℕ = wrap (own_start image.segments p.segment + p.distance) in
    let start = start_low image.segments 0 (sound_apart image cached_sound) in
    let low : header_address image.segments ≤ 2 ^ 47 = omega (arith, header_first image cached_sound, start) in
    let moved : moved_place (own_start image.segments) (header_address image.segments) o (inside file.segments (wrap (header_address file.segments + o))) ≡ above (header_address image.segments) x =
    ap (λ (q : Option Inside). moved_place (own_start image.segments) (header_address image.segments) o q) found in
    let back : wrap (header_address image.segments + moved_place (own_start image.segments) (header_address image.segments) o (inside file.segments (wrap (header_address file.segments + o)))) ≡ x =
    ap (λ (n : ℕ). wrap (header_address image.segments + n)) moved ∙ added_above header x (omega (arith, low)) (omega arith) in
    ap (inside image.segments) back ∙ place_there file image sound cached_sound alike (wrap (header_address file.segments + o)) p found other

module _ (file image : Img) (sound : IsSound file) (cached_sound : IsSound image) (alike : AreAlike file image) where
  target_same : (e f : Target) → same_target f (moved_target (moved_offset file image) e) ≡ true → strays file.segments e ≡ false → SameTarget file image e f
  target_same (Offset o) (Offset q) same stays = at (inside file.segments (wrap (header_address file.segments + o))) refl stays
    where
      at : (place : Option Inside) → inside file.segments (wrap (header_address file.segments + o)) ≡ place → is_stray file.segments place ≡ false → SameTarget file image (Offset o) (Offset q)
      at None is stays = absurd (cc)
      at (Some p) is stays =
          let number : q ≡ moved_offset file image o = eqb-true q (moved_offset file image o) same in
          (p, is, ap (λ (n : ℕ). inside image.segments (wrap (header_address image.segments + n))) number ∙ offset_there file image sound cached_sound alike o p is stays)
  target_same (Absolute v) (Absolute w) same stays = sym (eqb-true w v same)
  target_same (Reexport ordinal name) (Reexport other text) same stays =
      let parts = and_parts (nat_eq other ordinal) (same_bytes text name) same in
      (sym (eqb-true other ordinal parts.0), sym (same_text text name (sym parts.1)))
  target_same (Offset o) (Absolute w) same stays = absurd (cc)
  target_same (Offset o) (Reexport other text) same stays = absurd (cc)
  target_same (Absolute v) (Offset q) same stays = absurd (cc)
  target_same (Absolute v) (Reexport other text) same stays = absurd (cc)
  target_same (Reexport ordinal name) (Offset q) same stays = absurd (cc)
  target_same (Reexport ordinal name) (Absolute w) same stays = absurd (cc)

  exports_same : (es fs : List Export) → ArePairs fs (map (moved_export (moved_offset file image)) es) → ((e : Export) → IsIn es e → strays file.segments e.target ≡ false) → SameExports file image es fs
  exports_same [] [] pairs stay = tt
  exports_same [] (f ∷ fs) pairs stay = absurd pairs
  exports_same (e ∷ es) [] pairs stay = absurd pairs
  exports_same (e ∷ es) (f ∷ fs) pairs stay =
      let moved : Export = moved_export (moved_offset file image) e in
      let one = and_parts (same_bytes f.name e.name) (nat_eq f.flags e.flags && same_target f.target (moved_target (moved_offset file image) e.target)) pairs.0 in
      let two = and_parts (nat_eq f.flags e.flags) (same_target f.target (moved_target (moved_offset file image) e.target)) one.1 in
      (same_text f.name e.name (sym one.0), eqb-true f.flags e.flags two.0, target_same e.target f.target two.1 (stay e (in_first e es)), exports_same es fs pairs.1 (λ x there. stay x (in_rest e es x there)))

pub same_exports : (k : ℕ) (file image : Img) → IsSound file → IsSound image → AreAlike file image → exports_difference k file image ≡ None
    → position (λ (e : Export). strays file.segments e.target) (exports_of file.streams.exports) ≡ None → SameExports file image (exports_of file.streams.exports) (exports_of image.streams.exports)
same_exports k file image sound cached_sound alike none stay =
    exports_same file image sound cached_sound alike (exports_of file.streams.exports) (exports_of image.streams.exports) (all_alike k file image none)
    (λ e there. position_none (λ (x : Export). strays file.segments x.target) (exports_of file.streams.exports) e stay there)
