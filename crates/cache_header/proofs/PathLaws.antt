-- The paths of the images: what a plain one is, and where each stands.
use Rattle.std.proofs.Common.{◌≡◌, ◌≤◌, ◌<◌, ℕ, ◌+◌, ◌*◌, ◌^◌, true, List, [], ◌∷◌, take, length, get_or, All, ap, arith, length-append}
use Rattle.std.specs.List.{sum_by}
use Rattle.std.proofs.lemmas.List.Elements.{All-weaker}
use Rattle.std.proofs.lemmas.List.Sums.{sum_by_more, sum_by-le, sum_by-take-le, sum_by-le-sum_by}
use Rattle.cache_header.specs.Records.{Entry}
use Rattle.dsc_base.specs.Texts.{is_plain_text}
use Rattle.dsc_base.proofs.TextLaws.{IsPlain, plain_is}
use Rattle.cache_header.specs.Spelling.{path_bytes, path_room, path_place}

pub length-path_bytes : (e : Entry) → length (path_bytes e) ≡ path_room e
length-path_bytes e = length-append e.path (0 ∷ [])

pub length-paths : (images : List Entry) → sum_by (λ e. length (path_bytes e)) images ≡ sum_by path_room images
length-paths images =
    let up : sum_by (λ e. length (path_bytes e)) images ≤ sum_by path_room images =
    sum_by-le-sum_by (λ e. length (path_bytes e)) path_room images (λ e. omega (arith, length-path_bytes e)) in
    let down : sum_by path_room images ≤ sum_by (λ e. length (path_bytes e)) images =
    sum_by-le-sum_by path_room (λ e. length (path_bytes e)) images (λ e. omega (arith, length-path_bytes e)) in
    omega (arith, up, down)

pub path_room-le : (e : Entry) → is_plain_text e.path ≡ true → path_room e ≤ 1025
path_room-le e plain = let is : IsPlain e.path = plain_is e.path plain in omega (arith, is.short)

pub path_place-first : (images : List Entry) → path_place images 0 ≡ 0x158 + 64 * length images
unfolding path_place
path_place-first images = omega arith

pub path_place-next : (images : List Entry) (i : ℕ) (d : Entry) → i < length images
    → path_place images (i + 1) ≡ path_place images i + path_room (get_or images i d)
unfolding path_place
path_place-next images i d lt =
    let more : sum_by path_room (take (i + 1) images) ≡ sum_by path_room (take i images) + path_room (get_or images i d) =
    sum_by_more path_room images i d lt in
    omega (arith, more)

-- the place of a path fits a field of 32 bits
pub path_place-fits : (images : List Entry) (i : ℕ) → length images ≤ 4096 → All (λ e. is_plain_text e.path ≡ true) images → path_place images i < 2 ^ 32
unfolding path_place
path_place-fits images i few plain =
    let rooms : All (λ (e : Entry). path_room e ≤ 1025) images =
    All-weaker (λ (e : Entry). is_plain_text e.path ≡ true) (λ (e : Entry). path_room e ≤ 1025) path_room-le images plain in
    let all : sum_by path_room images ≤ length images * 1025 = sum_by-le path_room 1025 images rooms in
    let part : sum_by path_room (take i images) ≤ sum_by path_room images = sum_by-take-le path_room images i in
    omega (arith, all, part)

-- the place of the next path, in a loop over the images
pub place_more : (images : List Entry) (i : ℕ) (e : Entry) (at room : ℕ) → i < length images → e ≡ get_or images i e → at ≡ path_place images i → room ≡ path_room e
    → at + room ≡ path_place images (i + 1)
place_more images i e at room lt is at_is room_is =
    let here : path_room e ≡ path_room (get_or images i e) = ap path_room is in
    let next : path_place images (i + 1) ≡ path_place images i + path_room (get_or images i e) = path_place-next images i e lt in
    omega (arith, at_is, room_is, here, next)
