use Rattle.std.proofs.Common.{◌≡◌, ◌≤◌, true, Some, map, List, ℕ, length, sym, ap, subst, ◌∙◌}
use Rattle.cache_header.specs.declared.head.Mapping.{Mapping}
use Rattle.cache_header.specs.Records.{Head}
use Rattle.cache_check.specs.Shape.{are_three}
use Rattle.cache_check.specs.Images.{cached_images}
use Rattle.cache_check.specs.Inside.{view_fields}
use Rattle.cache_check.specs.Views.{View}
use Rattle.cache_check.proofs.ShapeLaws.{whole_tests}
use Rattle.cache_check.proofs.CachedLaws.{parts_cached}
use Rattle.cache_check.proofs.view.CacheView.images.Goals as goal

pub check_segments-requires-clause-low : goal.check_segments-requires-clause-low
check_segments-requires-clause-low c =
    subst (λ (l : List ℕ). length l ≤ 0x20000000) (sym c.as_slice-flat.ensures.value) (whole_tests (length c.self.inside.flat.items) c.self.inside.head c.self.invariant.mapped).0

pub check_segments-requires-clause-mapped : goal.check_segments-requires-clause-mapped
check_segments-requires-clause-mapped c =
    let mappings = c.deref-4.ensures.value ∙ ap (λ (h : Head). h.mappings) c.head.view_is in
    subst (λ (l : List ℕ). are_three (length l) c.deref-4.result.now ≡ true) (sym c.as_slice-flat.ensures.value)
    (subst (λ (ms : List Mapping). are_three (length c.self.inside.flat.items) ms ≡ true) (sym mappings) (whole_tests (length c.self.inside.flat.items) c.self.inside.head c.self.invariant.mapped).1)

pub returns-clause-cached : goal.returns-clause-cached
returns-clause-cached c =
    subst (λ (v : View). map Some c.in_ok-images.images.items ≡ cached_images v) c.self.view_is
    (parts_cached (view_fields c.self.inside) c.in_ok-images.images.items c.as_slice-flat.result.now c.deref.result.now c.as_slice-flat.ensures.value (c.deref.ensures.value ∙ ap (λ (h : Head). h.images) c.head.view_is)
    c.in_ok-images.ensures.images c.in_ok-images.ensures.cause)
