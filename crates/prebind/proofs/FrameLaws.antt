-- By frames a resolution takes the steps that it takes by segments.
use Rattle.std.proofs.Common.{◌≡◌, ◌+◌, ◌-◌, ℕ, List, [], ◌∷◌, map, refl, ap, ◌∙◌, if◌then◌else◌, Option, Some, None, option_map}
use Rattle.std.specs.Prelude.{slice_get}
use Rattle.std.proofs.lemmas.Option.{slice_get-map}
use Rattle.macho_image.specs.Records.{Seg, Img}
use Rattle.macho_image.specs.declared.places.segment_index.Inside.{Inside}
use Rattle.macho_image.specs.Segments.{contains, inside_from, inside, header_address, segments_in}
use Rattle.export_trie.specs.declared.export.Target.{Target}
use Rattle.export_trie.specs.declared.export.Target.TheVariants.{Offset, Absolute, Reexport}
use Rattle.prebind.specs.Places.{address_of_export}
use Rattle.prebind.specs.Resolves.{Ends, place_of, target_step, found_step}
use Rattle.prebind.specs.Indexed.{span_of, bare_segment, FrameOf, frame_of}
use Rattle.prebind.specs.Framed.{framed_step, frame_in, framed_found}

-- by addresses alone the same segment contains an address
inside_from_is : (g : ℕ) (ss : List Seg) (x : ℕ) → inside_from g (map bare_segment (map span_of ss)) x ≡ inside_from g ss x
inside_from_is g [] x = refl
inside_from_is g (s ∷ ss) x =
    ap (λ (o : Option Inside). if contains s x then Some (record { segment = g; distance = x - s.vmaddr }) else o) (inside_from_is (g + 1) ss x)

pub inside_is : (ss : List Seg) (x : ℕ) → inside (map bare_segment (map span_of ss)) x ≡ inside ss x
unfolding inside
inside_is ss x = inside_from_is 0 ss x

framed_target : (image : Img) (k : ℕ) (t : Target) → framed_step (frame_of image) k t ≡ target_step image.segments k t
framed_target image k (Offset offset) =
    let x : ℕ = address_of_export image.segments offset in
    ap (λ (o : Option Inside). Ends (place_of k x o)) (inside_is image.segments x)
framed_target image k (Absolute value) = refl
framed_target image k (Reexport ordinal name) = refl

framed_nowhere : (k : ℕ) (t : Target) → framed_step (frame_in None) k t ≡ target_step [] k t
unfolding inside header_address
framed_nowhere k (Offset offset) = refl
framed_nowhere k (Absolute value) = refl
framed_nowhere k (Reexport ordinal name) = refl

framed_image : (o : Option Img) (k : ℕ) (t : Target) → framed_step (frame_in (option_map frame_of o)) k t ≡ target_step (segments_in o) k t
framed_image None k t = framed_nowhere k t
framed_image (Some image) k t = framed_target image k t

pub framed_is : (images : List Img) (found : Option (ℕ × Target)) → framed_found (map frame_of images) found ≡ found_step images found
framed_is images None = refl
framed_is images (Some (k, t)) =
    ap (λ (o : Option FrameOf). framed_step (frame_in o) k t) (slice_get-map frame_of images k) ∙ framed_image (slice_get images k) k t
