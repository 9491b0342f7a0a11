-- The images of a set, one at a time: those before one are linked, and break no rule.
use Rattle.std.proofs.Common.{◌≡◌, ◌≤◌, ◌<◌, ℕ, ◌+◌, List, [], ◌∷◌, ◌++◌, Vec, Global, take, drop, length, get_or, map, refl, sym, ap, ap₂, ◌∙◌, subst, Option, None}
use Rattle.std.specs.Prelude.{option_map, Err}
use Rattle.std.specs.Option.{option_or}
use Rattle.std.proofs.lemmas.List.{take_more, take_all, drop_more, drop_all, map-append}
use Rattle.dsc_base.specs.declared.fault.Site.{Site}
use Rattle.dsc_base.specs.declared.fault.Fault.{Fault}
use Rattle.dsc_base.specs.declared.fault.Fault.TheVariants.{Broken, Memory}
use Rattle.dsc_base.specs.declared.fault.SetFault.{SetFault}
use Rattle.macho_image.specs.Records.{Img}
use Rattle.dsc_base.specs.Refusals.{IsRefusal, in_image, in_set, IsSetRefusal}
use Rattle.dep_closure.specs.Breaks.{image_break, break_from, link_break}

-- lists as they are in their vectors
abbrev pub items_of : {X : Type 0} → Vec X Global → List X
items_of v = v.items

-- what was made of each image before one
abbrev pub AreMade : {X : Type 0} → (Img → List X) → List Img → List (Vec X Global) → ℕ → Type 0
AreMade make images made number = map items_of made ≡ map make (take number images)

pub made_more : {X : Type 0} (make : Img → List X) (images : List Img) (made longer : List (Vec X Global)) (number : ℕ) (i : Img) (one : Vec X Global)
    → AreMade make images made number → number < length images → i ≡ get_or images number i → one.items ≡ make i → longer ≡ made ++ one ∷ [] → AreMade make images longer (number + 1)
made_more make images made longer number i one kept more is one_is pushed =
    ap (λ vs. map items_of vs) pushed
    ∙ (map-append items_of made (one ∷ [])
    ∙ (ap₂ (λ xs x. xs ++ x ∷ []) kept (one_is ∙ ap make is)
    ∙ (sym (map-append make (take number images) (get_or images number i ∷ [])) ∙ sym (ap (λ (is : List Img). map make is) (take_more images number i more)))))

pub made_all : {X : Type 0} (make : Img → List X) (images : List Img) (made : List (Vec X Global)) (number : ℕ) → AreMade make images made number → length images ≤ number → map items_of made ≡ map make images
made_all make images made number kept all = kept ∙ ap (λ (is : List Img). map make is) (take_all number images all)

-- the rules of the images from one on decide
abbrev pub IsUnbroken : List Img → ℕ → Type 0
IsUnbroken images number = break_from images number (drop number images) ≡ link_break images

pub unbroken_start : (images : List Img) → IsUnbroken images 0
unfolding link_break
unbroken_start images = refl

break_next : (images : List Img) (number : ℕ) (i : Img) → IsUnbroken images number → number < length images → i ≡ get_or images number i
    → option_or (option_map (in_image number) (image_break images number i)) (break_from images (number + 1) (drop (number + 1) images)) ≡ link_break images
break_next images number i kept more is =
    ap (λ (j : Img). option_or (option_map (in_image number) (image_break images number j)) (break_from images (number + 1) (drop (number + 1) images))) is
    ∙ (sym (ap (λ (is : List Img). break_from images number is) (drop_more images number i more)) ∙ kept)

pub unbroken_more : (images : List Img) (number : ℕ) (i : Img) → IsUnbroken images number → number < length images → i ≡ get_or images number i → image_break images number i ≡ None → IsUnbroken images (number + 1)
unbroken_more images number i kept more is keeps =
    sym (ap (λ (o : Option Site). option_or (option_map (in_image number) o) (break_from images (number + 1) (drop (number + 1) images))) keeps) ∙ break_next images number i kept more is

pub unbroken_refused : (images : List Img) (number : ℕ) (i : Img) (fault : Fault) → IsUnbroken images number → number < length images → i ≡ get_or images number i → IsRefusal (image_break images number i) fault
    → (answer : SetFault) → answer ≡ in_set number fault → IsSetRefusal (link_break images) answer
unbroken_refused images number i (Broken s) kept more is refused answer answer_is =
    subst (λ (f : SetFault). IsSetRefusal (link_break images) f) (sym answer_is)
    (sym (break_next images number i kept more is) ∙ ap (λ (o : Option Site). option_or (option_map (in_image number) o) (break_from images (number + 1) (drop (number + 1) images))) refused)
unbroken_refused images number i Memory kept more is refused answer answer_is = subst (λ (f : SetFault). IsSetRefusal (link_break images) f) (sym answer_is) tt

pub unbroken_all : (images : List Img) (number : ℕ) → IsUnbroken images number → length images ≤ number → link_break images ≡ None
unbroken_all images number kept all = sym kept ∙ ap (λ (is : List Img). break_from images number is) (drop_all number images all)
