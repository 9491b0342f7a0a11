-- The segments of an image with `__LINKEDIT` by its addresses alone, looked up.
use Rattle.std.proofs.Common.{◌≡◌, ◌+◌, ◌-◌, ◌≤◌, ◌<◌, ℕ, zero, suc, Bool, true, false, not, nat_le, List, [], ◌∷◌, ◌++◌, length, refl, sym, ap, ◌∙◌, arith, if◌then◌else◌, Option, Some, None}
use Rattle.std.specs.Prelude.{slice_get, All}
use Rattle.std.specs.Option.{option_or}
use Rattle.dsc_base.specs.declared.fault.Span.{Span}
use Rattle.std.proofs.lemmas.Bool.Decides.{nat_tests}
use Rattle.std.proofs.lemmas.List.Elements.{All-head, All-tail}
use Rattle.macho_image.specs.Records.{Seg}
use Rattle.macho_image.specs.Rules.{is_linkedit_segment}
use Rattle.macho_image.specs.declared.places.segment_index.Inside.{Inside}
use Rattle.macho_image.specs.declared.place.Location.{Location}
use Rattle.macho_image.specs.Segments.{contains, inside_from, inside, number_of, number_within, value_of}
use Rattle.macho_image.proofs.NumberLaws.{number_past}
use Rattle.prebind.specs.Indexed.{bare_segment}
use Rattle.prebind.specs.Bodies.{linkedit_at, whole_of, is_body}
use Rattle.prebind.specs.Places.{is_linkedit_at}

-- an address is in the segments before `__LINKEDIT`, or in that
abbrev behind : ℕ → Seg → ℕ → Option Inside
behind g s x = if contains s x then Some (record { segment = g; distance = x - s.vmaddr }) else None

or_else : (b : Bool) (i : Inside) (o p : Option Inside) → (if b then Some i else option_or o p) ≡ option_or (if b then Some i else o) p
or_else true i o p = refl
or_else false i o p = refl

inside_from-last : (g : ℕ) (ss : List Seg) (s : Seg) (x : ℕ) → inside_from g (ss ++ s ∷ []) x ≡ option_or (inside_from g ss x) (behind (g + length ss) s x)
inside_from-last g [] s x = ap (λ (n : ℕ). behind n s x) (let e : g ≡ g + 0 = omega arith in e)
inside_from-last g (t ∷ ts) s x =
    ap (λ (o : Option Inside). if contains t x then Some (record { segment = g; distance = x - t.vmaddr }) else o) (inside_from-last (g + 1) ts s x)
    ∙ (or_else (contains t x) (record { segment = g; distance = x - t.vmaddr }) (inside_from (g + 1) ts x) (behind ((g + 1) + length ts) s x)
    ∙ ap (λ (n : ℕ). option_or (if contains t x then Some (record { segment = g; distance = x - t.vmaddr }) else inside_from (g + 1) ts x) (behind n s x)) (let e : (g + 1) + length ts ≡ g + suc (length ts) = omega arith in e))

inside-last : (ss : List Seg) (s : Seg) (x : ℕ) → inside (ss ++ s ∷ []) x ≡ option_or (inside ss x) (behind (length ss) s x)
unfolding inside
inside-last ss s x = inside_from-last 0 ss s x ∙ ap (λ (n : ℕ). option_or (inside_from 0 ss x) (behind n s x)) (let e : 0 + length ss ≡ length ss = omega arith in e)

pub inside_body : (ss : List Seg) (linkedit : Span) (x : ℕ) (p : Inside) → Some p ≡ inside ss x → Some p ≡ inside (whole_of ss linkedit) x
inside_body ss linkedit x p is = sym (inside-last ss (linkedit_at linkedit) x ∙ ap (λ (o : Option Inside). option_or o (behind (length ss) (linkedit_at linkedit) x)) (sym is))

pub inside_linkedit : (ss : List Seg) (linkedit : Span) (x : ℕ) → None ≡ inside ss x → contains (bare_segment linkedit) x ≡ true → Some (record { segment = length ss; distance = x - linkedit.at }) ≡ inside (whole_of ss linkedit) x
inside_linkedit ss linkedit x none has =
    sym (inside-last ss (linkedit_at linkedit) x
    ∙ (ap (λ (o : Option Inside). option_or o (behind (length ss) (linkedit_at linkedit) x)) (sym none)
    ∙ ap (λ (b : Bool). if b then Some (record { segment = length ss; distance = x - linkedit.at }) else None) has))

pub inside_neither : (ss : List Seg) (linkedit : Span) (x : ℕ) → None ≡ inside ss x → contains (bare_segment linkedit) x ≡ false → None ≡ inside (whole_of ss linkedit) x
inside_neither ss linkedit x none lacks =
    sym (inside-last ss (linkedit_at linkedit) x
    ∙ (ap (λ (o : Option Inside). option_or o (behind (length ss) (linkedit_at linkedit) x)) (sym none)
    ∙ ap (λ (b : Bool). if b then Some (record { segment = length ss; distance = x - linkedit.at }) else None) lacks))

-- a segment by its number
pub get_last : {X : Type 0} (ss : List X) (s : X) (g : ℕ) → g ≡ length ss → slice_get (ss ++ s ∷ []) g ≡ Some s
get_last [] s zero is = refl
get_last [] s (suc g) is = absurd (omega (arith, is))
get_last (t ∷ ts) s zero is = absurd (omega (arith, is))
get_last (t ∷ ts) s (suc g) is = get_last ts s g (omega (arith, is))

pub get_other : {X : Type 0} (ss : List X) (s : X) (g : ℕ) → (g ≡ length ss → ⊥) → slice_get (ss ++ s ∷ []) g ≡ slice_get ss g
get_other [] s zero other = absurd (other refl)
get_other [] s (suc g) other = refl
get_other (t ∷ ts) s zero other = refl
get_other (t ∷ ts) s (suc g) other = get_other ts s g (λ is. other (ap suc is))

number_in_body : (ss : List Seg) (linkedit : Span) (g address : ℕ) → number_within 8 (slice_get (whole_of ss linkedit) g) address ≡ number_within 8 (slice_get ss g) address
unfolding number_of
number_in_body [] linkedit zero address = number_past [] (address - linkedit.at) (omega arith)
number_in_body [] linkedit (suc g) address = refl
number_in_body (s ∷ ss) linkedit zero address = refl
number_in_body (s ∷ ss) linkedit (suc g) address = number_in_body ss linkedit g address

pub value_in_body : (ss : List Seg) (linkedit : Span) (l : Location) → value_of (whole_of ss linkedit) l ≡ value_of ss l
unfolding value_of
value_in_body ss linkedit l = number_in_body ss linkedit l.segment l.address

-- `__LINKEDIT` is told by its number
not_is : (b : Bool) → not b ≡ true → b ≡ false
not_is false is = refl
not_is true is = absurd (cc)

numbered_before : (ss : List Seg) (linkedit : Span) (g : ℕ) → All (λ (s : Seg). is_body s ≡ true) ss → g < length ss → is_linkedit_at (slice_get (whole_of ss linkedit) g) ≡ false
numbered_before [] linkedit g others lt = absurd (omega (arith, lt))
numbered_before (s ∷ ss) linkedit zero others lt = not_is (is_linkedit_segment s) (All-head (λ (s : Seg). is_body s ≡ true) s ss others)
numbered_before (s ∷ ss) linkedit (suc g) others lt = numbered_before ss linkedit g (All-tail (λ (s : Seg). is_body s ≡ true) s ss others) (omega (arith, lt))

numbered_behind : (ss : List Seg) (linkedit : Span) (g : ℕ) → length ss ≤ g → is_linkedit_at (slice_get (whole_of ss linkedit) g) ≡ true
numbered_behind [] linkedit zero le = refl
numbered_behind [] linkedit (suc g) le = refl
numbered_behind (s ∷ ss) linkedit zero le = absurd (omega (arith, le))
numbered_behind (s ∷ ss) linkedit (suc g) le = numbered_behind ss linkedit g (omega (arith, le))

pub linkedit_by_number : (ss : List Seg) (linkedit : Span) (g : ℕ) → All (λ (s : Seg). is_body s ≡ true) ss → nat_le (length ss) g ≡ is_linkedit_at (slice_get (whole_of ss linkedit) g)
linkedit_by_number ss linkedit g others = by_test (nat_le (length ss) g) refl
  where
    by_test : (b : Bool) → nat_le (length ss) g ≡ b → b ≡ is_linkedit_at (slice_get (whole_of ss linkedit) g)
    by_test true is = sym (numbered_behind ss linkedit g (grind (arith, nat_tests, is)))
    by_test false is = sym (numbered_before ss linkedit g others (grind (arith, nat_tests, is)))
