-- Plans that get their headers one after another.
use Rattle.std.proofs.Common.{◌≡◌, ◌≤◌, ◌<◌, inl, inr, ℕ, zero, suc, ◌+◌, ◌-◌, List, [], ◌∷◌, ◌++◌, length, take, drop, get_or, refl, sym, ap, ap₂, ◌∙◌, arith, slice_set, append_assoc}
use Rattle.std.proofs.lemmas.List.{drop_more, get_or_default, length-take-le, get_or-append_right}
use Rattle.std.proofs.lemmas.Bool.{cases_lt}
use Rattle.std.proofs.lemmas.Option.{slice_get_within, get_or_from_slice_get}
use Rattle.macho_image.specs.Records.{Img}
use Rattle.macho_edit.specs.declared.spots.LinkSpots.{LinkSpots}
use Rattle.cache_layout.specs.Layouts.{Laid}
use Rattle.cache_layout.proofs.NumberedLaws.{numbered-get, numbered-step, length-numbered}
use Rattle.ref_rewrite.specs.Plans.{Plan}
use Rattle.ref_rewrite.specs.Planned.{AreSized, with_header, with_headers}
use Rattle.cache_build.specs.Cache.{header_of, headers_of}

set_behind : {X : Type 0} (xs ys : List X) (y z : X) (n : ℕ) → length xs ≡ n → slice_set (xs ++ y ∷ ys) n z ≡ xs ++ z ∷ ys
set_behind [] ys y z zero long = refl
set_behind [] ys y z (suc n) long = absurd (omega (arith, long))
set_behind (x ∷ xs) ys y z zero long = absurd (omega (arith, long))
set_behind {X} (x ∷ xs) ys y z (suc n) long = ap (λ (l : List X). x ∷ l) (set_behind xs ys y z n (omega (arith, long)))

-- the header of the next plan is set
pub header_set : (plans now : List Plan) (headers : List (List ℕ)) (n : ℕ) (p q : Plan) (h : List ℕ) → n < length plans → now ≡ with_headers headers (take n plans) ++ drop n plans → p ≡ get_or now n p → h ≡ get_or headers n []
    → q ≡ record p { header = h } → slice_set now n q ≡ with_headers headers (take (n + 1) plans) ++ drop (n + 1) plans
header_set plans now headers n p q h lt is at own new =
    let front : List Plan = with_headers headers (take n plans) in
    let rest : List Plan = drop (n + 1) plans in
    let x : Plan = get_or plans n p in
    let long : length (with_headers headers (take n plans)) ≡ n = length-numbered (with_header headers) (take n plans) ∙ length-take-le n plans (omega (arith, lt)) in
    let cut : now ≡ front ++ x ∷ rest = is ∙ ap (λ (l : List Plan). front ++ l) (drop_more plans n p lt) in
    let same : p ≡ get_or plans n p =
    at ∙ (ap (λ (l : List Plan). get_or l n p) cut
    ∙ (get_or-append_right front (x ∷ rest) n n p long (omega arith) ∙ (let none : n - n ≡ 0 = omega arith in ap (λ (k : ℕ). get_or (x ∷ rest) k p) none))) in
    let step : with_headers headers (take (n + 1) plans) ≡ front ++ with_header headers n x ∷ [] = numbered-step (with_header headers) plans n x lt (get_or_default plans n p x lt) in
    let put : q ≡ with_header headers n x = new ∙ ap₂ (λ (y : Plan) (b : List ℕ). record y { header = b }) same own in
    ap (λ (l : List Plan). slice_set l n q) cut
    ∙ (set_behind front rest x q n long
    ∙ (ap (λ (y : Plan). front ++ y ∷ rest) put
    ∙ (sym (append_assoc front (with_header headers n x ∷ []) rest) ∙ ap (λ (l : List Plan). l ++ rest) (sym step))))

-- ---- their sizes

-- the headers of the first images are as long as their own
abbrev pub AreSizedUpTo : Laid → List LinkSpots → List Img → ℕ → Type 0
AreSizedUpTo l spots images n = (k : ℕ) (i : Img) → k < n → i ≡ get_or images k i → length (header_of l spots k i) ≡ length i.header

pub sized_none : (l : Laid) (spots : List LinkSpots) (images : List Img) → AreSizedUpTo l spots images 0
sized_none l spots images k i lt at = absurd (omega (arith, lt))

pub sized_more : (l : Laid) (spots : List LinkSpots) (images : List Img) (n : ℕ) (i : Img) (h : List ℕ) → n < length images → i ≡ get_or images n i → h ≡ header_of l spots n i → length h ≡ length i.header → AreSizedUpTo l spots images n → AreSizedUpTo l spots images (n + 1)
sized_more l spots images n i h inside at is long before k j lt own = elim (cases_lt k n) [
  | inl less ↦ before k j less own
  | inr past ↦
      let number : n ≡ k = omega (arith, lt, past) in
      let same : i ≡ j = at ∙ (get_or_default images n i j inside ∙ (ap (λ (m : ℕ). get_or images m j) number ∙ sym own)) in
      ap₂ (λ (m : ℕ) (x : Img). length (header_of l spots m x)) (sym number) (sym same) ∙ (ap (λ (b : List ℕ). length b) (sym is) ∙ (long ∙ ap (λ (x : Img). length x.header) same))
]

pub all_sized : (l : Laid) (spots : List LinkSpots) (images : List Img) (n : ℕ) → length images ≤ n → AreSizedUpTo l spots images n → AreSized (headers_of l spots images) images
all_sized l spots images n all before k i got =
    let lt : k < length images = slice_get_within images k i got in
    let at : i ≡ get_or images k i = sym (get_or_from_slice_get images k i i got) in
    ap (λ (b : List ℕ). length b) (numbered-get (header_of l spots) images k i [] lt at) ∙ before k i (omega (arith, lt, all)) at
