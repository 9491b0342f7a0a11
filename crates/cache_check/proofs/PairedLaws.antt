-- A section of a file and the same one of its cached image, where both have the same shape.
use Rattle.std.proofs.Common.{◌≡◌, ◌≤◌, ℕ, ◌+◌, ◌-◌, ◌^◌, false, nat_eq, Option, Some, None, List, sym, ap, ap₂, ◌∙◌, arith}
use Rattle.std.specs.Prelude.{slice_get}
use Rattle.std.proofs.lemmas.Bool.{cond-false, ne_eqb}
use Rattle.std.proofs.lemmas.Option.{same_Some}
use Rattle.macho_image.specs.Records.{Seg, Img}
use Rattle.macho_image.specs.Rules.{is_linkedit_segment}
use Rattle.macho_image.specs.Breaks.{IsSound}
use Rattle.macho_image.specs.declared.section.Section.{Section}
use Rattle.macho_image.specs.Places.{above, numbered_section}
use Rattle.macho_image.proofs.AboveLaws.{above_plain}
use Rattle.split_info.proofs.SoundSections.{IsInside, section_inside}
use Rattle.cache_check.specs.Bytes.{pair_in, pair_with, pair_of}
use Rattle.cache_check.proofs.AlikeLaws.{AreAlike, IsAlike, HasSame}
use Rattle.cache_check.proofs.LinkeditLaws.{section_besides}

-- section j of a file, with its segment and the same of the cached image
pub record HasPair (file image : Img) (j : ℕ) (u : Section) : Type 0 where
  pub own : Seg
  pub own_is : slice_get file.segments u.segment ≡ Some own
  pub there : Section
  pub there_is : slice_get image.sections j ≡ Some there
  pub cached : Seg
  pub cached_is : slice_get image.segments there.segment ≡ Some cached
  pub other : is_linkedit_segment cached ≡ false
  pub wide : cached.vmsize ≡ own.vmsize
  pub size : there.size ≡ u.size
  pub own_from : own.vmaddr ≤ u.addr
  pub own_to : u.addr + u.size ≤ own.vmaddr + own.vmsize
  pub own_low : own.vmaddr + own.vmsize ≤ 2 ^ 47
  pub from : cached.vmaddr ≤ there.addr
  pub to : there.addr + there.size ≤ cached.vmaddr + cached.vmsize
  pub low : cached.vmaddr + cached.vmsize ≤ 2 ^ 47
  pub far : there.addr - cached.vmaddr ≡ u.addr - own.vmaddr
  pub pair : pair_of file image (j + 1) ≡ Some (record { own = own; here = u; cached = cached; there = there })

pub numbered : (xs : List Section) (j : ℕ) (x : Section) → slice_get xs j ≡ Some x → numbered_section xs (j + 1) ≡ Some x
numbered xs j x got =
    let back : j + 1 - 1 ≡ j = omega arith in
    cond-false (nat_eq (j + 1) 0) None (slice_get xs (j + 1 - 1)) (ne_eqb (j + 1) 0 (λ none. omega (arith, none))) ∙ (ap (λ (n : ℕ). slice_get xs n) back ∙ got)

pairs : (file image : Img) (j : ℕ) (u t : Section) (own cached : Seg) → slice_get file.sections j ≡ Some u → slice_get image.sections j ≡ Some t → slice_get file.segments u.segment ≡ Some own → slice_get image.segments t.segment ≡ Some cached
    → pair_of file image (j + 1) ≡ Some (record { own = own; here = u; cached = cached; there = t })
unfolding pair_of
pairs file image j u t own cached first second own_is cached_is =
    ap₂ (λ (a b : Option Section). pair_with file.segments image.segments a b) (numbered file.sections j u first) (numbered image.sections j t second)
    ∙ ap₂ (λ (a b : Option Seg). pair_in u t a b) own_is cached_is

pub has_pair : (file image : Img) → IsSound file → IsSound image → AreAlike file image → (j : ℕ) (u : Section) → slice_get file.sections j ≡ Some u → HasPair file image j u
has_pair file image sound cached_sound alike j u got =
    let same : HasSame file image j u = alike.sections j u got in
    let t : Section = same.section in
    let here : IsInside file u = section_inside file j u sound got in
    let there : IsInside image same.section = section_inside image j same.section cached_sound same.found in
    let besides : is_linkedit_segment here.segment ≡ false = section_besides file sound j u here.segment got here.segment_is in
    let segment : IsAlike file image 0 here.segment image.segments u.segment = alike.segments u.segment here.segment here.segment_is besides in
    let at : slice_get image.segments u.segment ≡ Some there.segment = ap (λ (g : ℕ). slice_get image.segments g) (sym same.segment) ∙ there.segment_is in
    let one : segment.segment ≡ there.segment = same_Some segment.segment there.segment (sym segment.segment_is ∙ at) in
    let wide : there.segment.vmsize ≡ here.segment.vmsize = ap (λ (s : Seg). s.vmsize) (sym one) ∙ segment.size in
    let distance : above there.segment.vmaddr same.section.addr ≡ above here.segment.vmaddr u.addr = same.distance here.segment there.segment here.segment_is at in
    record {
      own = here.segment;
      own_is = here.segment_is;
      there = same.section;
      there_is = same.found;
      cached = there.segment;
      cached_is = there.segment_is;
      other = ap is_linkedit_segment (sym one) ∙ segment.other;
      wide = wide;
      size = same.size;
      own_from = here.from;
      own_to = here.to;
      own_low = omega (arith, here.low);
      from = there.from;
      to = there.to;
      low = omega (arith, there.low);
      far = sym (above_plain there.segment.vmaddr same.section.addr there.from (omega (arith, there.to, there.low)))
          ∙ (distance ∙ above_plain here.segment.vmaddr u.addr here.from (omega (arith, here.to, here.low)));
      pair = pairs file image j u same.section here.segment there.segment got same.found here.segment_is there.segment_is;
    }
