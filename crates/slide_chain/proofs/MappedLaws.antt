-- What was linked is at any slide what was given, raised by the slide.
use Rattle.std.proofs.Common.{◌≡◌, ◌≤◌, ◌<◌, ℕ, ◌+◌, ◌-◌, ◌/◌, ◌%◌, ◌^◌, List, [], ◌∷◌, map, length, sym, ap, ap₂, subst, refl, ◌∙◌, arith}
use Rattle.std.specs.Prelude.{nat_eq, if◌then◌else◌}
use Rattle.dsc_base.specs.declared.edits.Edit.{Edit}
use Rattle.dsc_base.specs.Numbers.{number_at}
use Rattle.dsc_base.specs.Edits.{change_all, settled, put_all, AllInside, AllApart, ApartFrom, RisesFrom}
use Rattle.dsc_base.proofs.EditLaws.{change_all-settled, rising_apart, put_all-covered, length-put_all}
use Rattle.slide_chain.specs.Chains.{Slide, kept, unslid, moved, sliding, slid_area}
use Rattle.slide_chain.specs.Making.{linking, info_of, page_firsts, extras_of, raising, AreWords, AllBelow}
use Rattle.slide_chain.proofs.LinkLaws.{IsLinkable, KeepsValues, linking-inside, linking-rises, linking-keeps, linkable-holds, reached-made}

-- a number that keeps its value is moved as the value is raised
raised : (mask slide raw v : ℕ) → kept mask raw ≡ v → v < 2 ^ 64 → moved mask 0 slide raw ≡ (if nat_eq v 0 then 0 else (v + slide) % 2 ^ 64)
unfolding moved unslid
raised mask slide raw v is small =
    let whole : (kept mask raw + 0) % 2 ^ 64 ≡ v = omega (arith, is, small) in
    ap₂ (λ (k w : ℕ). if nat_eq k 0 then 0 else (w + slide) % 2 ^ 64) is whole

raised-all : (s : Slide) (slide : ℕ) (area after ws : List ℕ) → s.value_add ≡ 0 → KeepsValues s.mask area after ws → map (settled after) (map (sliding s slide) ws) ≡ map (settled area) (map (raising slide) ws)
raised-all s slide area after [] plain keeps = refl
raised-all s slide area after (a ∷ ws) plain keeps =
    let here : moved s.mask s.value_add slide (number_at 8 after a) ≡ (if nat_eq (number_at 8 area a) 0 then 0 else (number_at 8 area a + slide) % 2 ^ 64) =
    ap (λ (x : ℕ). moved s.mask x slide (number_at 8 after a)) plain ∙ raised s.mask slide (number_at 8 after a) (number_at 8 area a) keeps.0.0 keeps.0.1 in
    ap₂ (λ (v : ℕ) (es : List Edit). record { at = a; width = 8; value = v } ∷ es) here (raised-all s slide area after ws plain keeps.1)

pub raising-inside : (slide size from : ℕ) (area ws : List ℕ) → size % 4096 ≡ 0 → AreWords from ws → AllBelow size ws → AllInside size (map (settled area) (map (raising slide) ws))
raising-inside slide size from area [] even words under = tt
raising-inside slide size from area (a ∷ ws) even words under =
    (omega (arith, even, words.2, under.0), raising-inside slide size (a + 8) area ws even words.3 under.1)

pub raising-rises : (slide from : ℕ) (area ws : List ℕ) → AreWords from ws → RisesFrom from (map (settled area) (map (raising slide) ws))
raising-rises slide from area [] words = tt
raising-rises slide from area (a ∷ ws) words = (words.0, raising-rises slide (a + 8) area ws words.3)

-- both change the same words
covers : (limit slide i : ℕ) (area ws : List ℕ) → ApartFrom i 1 (map (settled area) (map (raising slide) ws)) → ApartFrom i 1 (map (settled area) (linking limit ws))
unfolding linking
covers limit slide i area [] apart = tt
covers limit slide i area (a ∷ ws) apart = (apart.0, covers limit slide i area ws apart.1)

pub slid-linked : (n size slide : ℕ) (area ws : List ℕ) → IsLinkable n size area ws → length (extras_of (page_firsts (2 ^ n - 1) 0 (size / 4096) ws)) ≤ 0x4000
    → slid_area (info_of n size ws) slide (change_all (linking (2 ^ n - 1) ws) area) ≡ change_all (map (raising slide) ws) area
unfolding slid_area info_of
slid-linked n size slide area ws fit few =
    let s : Slide = info_of n size ws in
    let after : List ℕ = change_all (linking (2 ^ n - 1) ws) area in
    let links : List Edit = map (settled area) (linking (2 ^ n - 1) ws) in
    let edits : List Edit = map (settled area) (map (raising slide) ws) in
    let same : map (settled (change_all (linking (2 ^ n - 1) ws) area)) (map (sliding (info_of n size ws) slide) ws) ≡ map (settled area) (map (raising slide) ws) =
    raised-all s slide area after ws refl (linking-keeps n area after ws fit.some fit.most fit.bytes fit.outside (linkable-holds n size area ws fit)) in
    let in_links : AllInside (length area) (map (settled area) (linking (2 ^ n - 1) ws)) =
    subst (λ (k : ℕ). AllInside k links) (sym fit.long) (linking-inside (2 ^ n - 1) size 0 area ws fit.even fit.words fit.under) in
    let in_edits : AllInside (length area) (map (settled area) (map (raising slide) ws)) =
    subst (λ (k : ℕ). AllInside k edits) (sym fit.long) (raising-inside slide size 0 area ws fit.even fit.words fit.under) in
    let apart_edits : AllApart (map (settled area) (map (raising slide) ws)) = rising_apart 0 edits (raising-rises slide 0 area ws fit.words) in
    let linked : change_all (linking (2 ^ n - 1) ws) area ≡ put_all (map (settled area) (linking (2 ^ n - 1) ws)) area =
    change_all-settled (linking (2 ^ n - 1) ws) area in_links (rising_apart 0 links (linking-rises (2 ^ n - 1) 0 area ws fit.words)) in
    let long : length (change_all (linking (2 ^ n - 1) ws) area) ≡ length area = ap (λ (l : List ℕ). length l) linked ∙ length-put_all links area in_links in
    let in_after : AllInside (length (change_all (linking (2 ^ n - 1) ws) area)) (map (settled area) (map (raising slide) ws)) = subst (λ (k : ℕ). AllInside k edits) (sym long) in_edits in
    ap (λ (places : List ℕ). change_all (map (sliding s slide) places) after) (reached-made n size area ws fit few)
    ∙ (change_all-settled (map (sliding s slide) ws) after (subst (AllInside (length after)) (sym same) in_after) (subst AllApart (sym same) apart_edits)
    ∙ (ap (λ (es : List Edit). put_all es after) same
    ∙ (ap (put_all edits) linked
    ∙ (put_all-covered links edits area in_links in_edits apart_edits (λ i. covers (2 ^ n - 1) slide i area ws)
    ∙ sym (change_all-settled (map (raising slide) ws) area in_edits apart_edits)))))
