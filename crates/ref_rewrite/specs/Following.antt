-- Words of 8 bytes that follow one another.
use Rattle.std.specs.Prelude.{◌≡◌, ◌≤◌, ℕ, ◌+◌, ◌%◌, List, [], ◌∷◌}

-- The words lie between two offsets and none begins before the one in front of it ends; each begins at a multiple of 4, and none crosses a page.
abbrev pub FollowIn : ℕ → ℕ → List ℕ → Type 0
FollowIn from to [] = from ≤ to
FollowIn from to (w ∷ ws) = (from ≤ w) × (w % 4 ≡ 0) × (w % 4096 ≤ 0xFF8) × FollowIn (w + 8) to ws
