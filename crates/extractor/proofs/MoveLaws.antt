-- Where segments go, one after the other, and where the last of them goes.
use Rattle.std.proofs.Common.{◌≡◌, ◌≤◌, ◌<◌, ℕ, suc, ◌+◌, ◌-◌, ◌%◌, List, [], ◌∷◌, ◌++◌, drop, length, get_or, refl, sym, ap, ap₂, ◌∙◌, arith, append_assoc, length-append}
use Rattle.std.proofs.lemmas.List.{drop_more, drop_all, append-nil}
use Rattle.dsc_base.specs.Region.{paged}
use Rattle.macho_image.specs.Records.{Seg, Img}
use Rattle.macho_image.specs.Breaks.{IsSound}
use Rattle.macho_image.specs.declared.place.Moved.{Moved}
use Rattle.prebind.proofs.LinkeditLaws.{ends_in_linkedit}
use Rattle.extractor.specs.ExtractOf.{moves_from, bodies_of, body_bytes}
use Rattle.extractor.specs.Files.{IsPlaced, all_pages, last_file}
use Rattle.std.specs.List.{All}
use Rattle.extractor.proofs.BodyLaws.{paged_whole, paged_behind, paged_covers, length-moves, bodies_long}

next : (ss : List Seg) (n : ℕ) (s : Seg) → n < length ss → s ≡ get_or ss n s → drop n ss ≡ s ∷ drop (n + 1) ss
next ss n s lt is = drop_more ss n s lt ∙ ap (λ (t : Seg). t ∷ drop (n + 1) ss) (sym is)

-- the next segment has room
pub move_room : (file n : ℕ) (ss : List Seg) (s : Seg) → n < length ss → s ≡ get_or ss n s → file + all_pages (drop n ss) ≤ 0x8000_0000_0000 → file + s.vmsize ≤ 0x8000_0000_0000
unfolding all_pages
move_room file n ss s lt is low =
    let more : all_pages (drop n ss) ≡ paged s.vmsize + all_pages (drop (n + 1) ss) = ap (λ (l : List Seg). all_pages l) (next ss n s lt is) in
    omega (arith, more, low, paged_covers s.vmsize)

pub record IsMoved (file after n : ℕ) (ss : List Seg) (old new : List Moved) : Type 0 where
  pub moves : moves_from 0 ss ≡ new ++ moves_from after (drop (n + 1) ss)
  pub whole : after % 4096 ≡ 0
  pub low : after + all_pages (drop (n + 1) ss) ≤ 0x8000_0000_0000

pub move_next : (file after n : ℕ) (ss : List Seg) (s : Seg) (m : Moved) (old new : List Moved) → n < length ss → s ≡ get_or ss n s → moves_from 0 ss ≡ old ++ moves_from file (drop n ss) → file % 4096 ≡ 0
    → file + all_pages (drop n ss) ≤ 0x8000_0000_0000 → m ≡ record { address = s.vmaddr; file = file } → new ≡ old ++ m ∷ [] → after ≡ paged (file + s.vmsize) → IsMoved file after n ss old new
unfolding moves_from all_pages
move_next file after n ss s m old new lt is moves whole low move put then =
    let first : Moved = record { address = s.vmaddr; file = file } in
    let more : all_pages (drop n ss) ≡ paged s.vmsize + all_pages (drop (n + 1) ss) = ap (λ (l : List Seg). all_pages l) (next ss n s lt is) in
    let left : moves_from file (drop n ss) ≡ first ∷ moves_from (paged (file + s.vmsize)) (drop (n + 1) ss) = ap (λ (l : List Seg). moves_from file l) (next ss n s lt is) in
    let end = paged_behind file s.vmsize whole in
    let here : new ≡ old ++ first ∷ [] = put ∙ ap (λ (k : Moved). old ++ k ∷ []) move in
    record {
      moves = moves
          ∙ (ap (λ (l : List Moved). old ++ l) left
          ∙ (sym (append_assoc old (first ∷ []) (moves_from (paged (file + s.vmsize)) (drop (n + 1) ss)))
          ∙ ap₂ (λ (l : List Moved) (k : ℕ). l ++ moves_from k (drop (n + 1) ss)) (sym here) (sym then)));
      whole = ap (λ (k : ℕ). k % 4096) then ∙ paged_whole (file + s.vmsize);
      low = omega (arith, more, low, end, then);
    }

pub moves_all : (file n : ℕ) (ss : List Seg) (moves : List Moved) → length ss ≤ n → moves_from 0 ss ≡ moves ++ moves_from file (drop n ss) → moves ≡ moves_from 0 ss
unfolding moves_from
moves_all file n ss moves past is = sym (is ∙ (ap (λ (l : List Seg). moves ++ moves_from file l) (drop_all n ss past) ∙ append-nil moves))

-- ---- the last one

last_from : (at : ℕ) (bodies : List Seg) (l : Seg) → at % 4096 ≡ 0 → last_file (moves_from at (bodies ++ l ∷ [])) ≡ at + all_pages bodies
unfolding moves_from all_pages
last_from at [] l whole = omega arith
last_from at (b ∷ bs) l whole =
    let rest = moves_from (paged (at + b.vmsize)) (bs ++ l ∷ []) in
    let many : length (moves_from (paged (at + b.vmsize)) (bs ++ l ∷ [])) ≡ length bs + 1 = length-moves (paged (at + b.vmsize)) (bs ++ l ∷ []) ∙ length-append bs (l ∷ []) in
    let first : Moved = record { address = b.vmaddr; file = at } in
    let one : length (first ∷ moves_from (paged (at + b.vmsize)) (bs ++ l ∷ [])) - 1 ≡ suc (length (moves_from (paged (at + b.vmsize)) (bs ++ l ∷ [])) - 1) = omega (arith, many) in
    ap (λ (n : ℕ). (get_or (first ∷ rest) n (record { address = 0; file = 0 })).file) one
    ∙ (last_from (paged (at + b.vmsize)) bs l (paged_whole (at + b.vmsize)) ∙ omega (arith, paged_behind at b.vmsize whole))

-- the linkedit goes where the other segments end
pub last_body : (i : Img) → IsSound i → All IsPlaced (bodies_of i) → last_file (moves_from 0 i.segments) ≡ length (body_bytes i)
last_body i sound placed =
    let ends = ends_in_linkedit i sound in
    ap (λ (ss : List Seg). last_file (moves_from 0 ss)) ends.split ∙ (last_from 0 (bodies_of i) ends.linkedit refl ∙ omega (arith, bodies_long i sound placed))

pub some_moves : (i : Img) → IsSound i → 1 ≤ length (moves_from 0 i.segments)
some_moves i sound =
    let ends = ends_in_linkedit i sound in
    let long = ap (λ (ss : List Seg). length ss) ends.split in
    omega (arith, length-moves 0 i.segments, long, length-append (bodies_of i) (ends.linkedit ∷ []))
