-- The places of `__TEXT` and `__LINKEDIT` among the segments.
use Rattle.std.proofs.Common.{◌≡◌, ℕ, Bool, true, false, cond, List, [], ◌∷◌, ◌++◌, refl, ap, ◌∙◌, if◌then◌else◌, Option, Some, None, option_map}
use Rattle.std.specs.Prelude.{find}
use Rattle.std.specs.Option.{option_or}
use Rattle.macho_image.specs.Records.{SegmentLoad}
use Rattle.macho_image.specs.Rules.{first_segment, has_reserved_name, is_good_linkedit, misplaced_behind}

first_or : (b : Bool) (s : SegmentLoad) (rest : Option SegmentLoad) (last : Option ℕ)
    → (if b then Some s.at else option_or (option_map (λ (t : SegmentLoad). t.at) rest) last) ≡ option_or (option_map (λ (t : SegmentLoad). t.at) (cond b (Some s) rest)) last
first_or true s rest last = refl
first_or false s rest last = refl

pub misplaced_behind-last : (between : List SegmentLoad) (last : SegmentLoad)
    → misplaced_behind (between ++ last ∷ []) ≡ option_or (first_segment has_reserved_name between) (if is_good_linkedit last then None else Some last.at)
misplaced_behind-last [] last = refl
misplaced_behind-last (s ∷ []) last = first_or (has_reserved_name s) s None (if is_good_linkedit last then None else Some last.at)
misplaced_behind-last (s ∷ t ∷ ss) last =
    ap (λ (o : Option ℕ). if has_reserved_name s then Some s.at else o) (misplaced_behind-last (t ∷ ss) last)
    ∙ first_or (has_reserved_name s) s (find has_reserved_name (t ∷ ss)) (if is_good_linkedit last then None else Some last.at)
