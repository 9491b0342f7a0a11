-- The rules that a sound image's header keeps, one by one, and what those on its segments say of each.
use Rattle.std.proofs.Common.{◌≡◌, ◌≤◌, ◌+◌, ◌*◌, ◌%◌, ℕ, Bool, true, false, not, ◌&&◌, ◌++◌, nat_le, nat_lt, nat_eq, None, List, [], ◌∷◌, length, sym, ap}
use Rattle.std.specs.Prelude.{find, codes}
use Rattle.std.specs.Cmp.Lexicographic.{same_text}
use Rattle.std.specs.List.{AllByRecursion}
use Rattle.std.proofs.lemmas.Bool.{and_parts, not-false, leb-true, eqb-true}
use Rattle.dsc_base.specs.Refusals.{least}
use Rattle.dsc_base.specs.declared.rule.Rule.TheVariants.{UnknownCommand, CommandTwice, NoInstallName, SegmentShape, SegmentProt, SectionShape, Interposing, HasRelocations, NameText, UnsafeName}
use Rattle.macho_image.specs.declared.form.Form.{Form}
use Rattle.macho_image.specs.Records.{Load, SegmentLoad, Img}
use Rattle.macho_image.specs.Macho.{header_size, loads_of, segment_loads}
use Rattle.macho_image.specs.Rules.{first_segment, is_well_shaped, first_crossing, misplaced, is_text, is_good_text, is_linkedit, is_linkedit_name, breaks_not_mach_o, breaks_wrong_kind, breaks_command_shape, breaks_unknown_command, breaks_command_twice, breaks_no_install_name, breaks_segment_shape, breaks_segment_prot, breaks_section_shape, breaks_interposing, breaks_has_relocations, breaks_name_text, breaks_unsafe_name}
use Rattle.macho_image.specs.Breaks.{header_break, command_break, section_break, name_break, form_of, IsSound}
use Rattle.macho_image.proofs.Unbroken.{or_none, broken_none, least_none_both, when_false, find_none, kind_unbroken}

pub record KeepsRules (form : Form) (header : List ℕ) (ls : List Load) (ss : List SegmentLoad) : Type 0 where
  pub magic : breaks_not_mach_o header ≡ None
  pub kind : breaks_wrong_kind form header ≡ None
  pub shape : breaks_command_shape header ≡ None
  pub known : breaks_unknown_command ls ≡ None
  pub once : breaks_command_twice ls ≡ None
  pub named : breaks_no_install_name ls ≡ None
  pub segments : breaks_segment_shape (header_size header) ss ≡ None
  pub prot : breaks_segment_prot ss ≡ None
  pub sections : breaks_section_shape (header_size header) ss ≡ None
  pub interposing : breaks_interposing ss ≡ None
  pub relocations : breaks_has_relocations ss ls ≡ None
  pub names : breaks_name_text ls ≡ None
  pub safe : breaks_unsafe_name ls ≡ None

pub rules_kept : (form : Form) (header : List ℕ) → header_break form header ≡ None → KeepsRules form header (loads_of header) (segment_loads (loads_of header))
unfolding header_break command_break section_break name_break
rules_kept form header none =
    let one = or_none _ _ none in
    let two = or_none _ _ one.1 in
    let three = or_none _ _ two.1 in
    let four = or_none _ _ three.1 in
    let five = or_none _ _ four.1 in
    let kinds = kind_unbroken form header one.0 in
    let a = or_none _ _ two.0 in
    let b = or_none _ _ a.1 in
    let c = or_none _ _ b.1 in
    let d = or_none _ _ four.0 in
    let e = or_none _ _ d.1 in
    let f = or_none _ _ e.1 in
    let g = or_none _ _ f.1 in
    let h = or_none _ _ five.0 in
    let i = or_none _ _ h.1 in
    record {
      magic = kinds.magic;
      kind = kinds.kind;
      shape = kinds.shape;
      known = broken_none UnknownCommand _ a.0;
      once = broken_none CommandTwice _ b.0;
      named = broken_none NoInstallName _ c.0;
      segments = broken_none SegmentShape _ three.0;
      prot = broken_none SegmentProt _ d.0;
      sections = broken_none SectionShape _ e.0;
      interposing = broken_none Interposing _ f.0;
      relocations = broken_none HasRelocations _ g.0;
      names = broken_none NameText _ h.0;
      safe = broken_none UnsafeName _ i.0;
    }

pub sound_rules : (image : Img) → IsSound image → KeepsRules (form_of image.header) image.header (loads_of image.header) (segment_loads (loads_of image.header))
sound_rules image sound = rules_kept (form_of image.header) image.header sound.unbroken

-- the rule on the segments' shape, one by one
pub shape_parts : (size : ℕ) (ls : List SegmentLoad) → breaks_segment_shape size ls ≡ None
    → (nat_lt (length ls) 2 ≡ false) × (first_segment (λ l. not (is_well_shaped l)) ls ≡ None) × (first_crossing [] ls ≡ None) × (misplaced size ls ≡ None)
shape_parts size ls none =
    let one = when_false (nat_lt (length ls) 2) 0 (least (first_segment (λ l. not (is_well_shaped l)) ls) (least (first_crossing [] ls) (misplaced size ls))) none in
    let two = least_none_both (first_segment (λ l. not (is_well_shaped l)) ls) (least (first_crossing [] ls) (misplaced size ls)) one.1 in
    let three = least_none_both (first_crossing [] ls) (misplaced size ls) two.1 in
    (one.0, two.0, three.0, three.1)

-- what a test of segments says of each, where it finds none
pub all_fail : (q : SegmentLoad → Bool) (ss : List SegmentLoad) → first_segment q ss ≡ None → AllByRecursion (λ s. q s ≡ false) ss
all_fail q [] none = tt
all_fail q (s ∷ ss) none =
    let parts = find_none (q s) s (find q ss) none in
    (parts.0, all_fail q ss parts.1)

-- what the shape of a segment says
pub record IsShaped (s : SegmentLoad) : Type 0 where
  pub size : s.size ≡ 72 + 80 * s.nsects
  pub aligned : s.vmaddr % 4096 ≡ 0
  pub filled : s.filesize ≤ s.vmsize
  pub low : s.vmaddr + s.vmsize ≤ 0x8000_0000_0000

pub shaped_from : (s : SegmentLoad) → is_well_shaped s ≡ true → IsShaped s
shaped_from s is =
    let one = and_parts (nat_eq s.size (72 + 80 * s.nsects)) _ is in
    let two = and_parts (nat_eq (s.vmaddr % 4096) 0) _ one.1 in
    let three = and_parts (nat_le s.filesize s.vmsize) _ two.1 in
    record {
      size = eqb-true s.size (72 + 80 * s.nsects) one.0;
      aligned = eqb-true (s.vmaddr % 4096) 0 two.0;
      filled = leb-true s.filesize s.vmsize three.0;
      low = leb-true (s.vmaddr + s.vmsize) 0x8000_0000_0000 three.1;
    }

pub all_shaped : (ss : List SegmentLoad) → AllByRecursion (λ s. not (is_well_shaped s) ≡ false) ss → AllByRecursion IsShaped ss
all_shaped [] well = tt
all_shaped (s ∷ ss) well = (shaped_from s (not-false (is_well_shaped s) well.0), all_shaped ss well.1)

-- the segment in front isn't `__LINKEDIT`
pub text_no_linkedit : (size : ℕ) (l : SegmentLoad) → is_good_text size l ≡ true → is_linkedit l ≡ false
text_no_linkedit size l good =
    let named = and_parts (is_text l) (nat_eq l.initprot 5 && nat_le size l.filesize) good in
    ap is_linkedit_name (same_text l.name (codes "__TEXT" ++ (0 ∷ 0 ∷ 0 ∷ 0 ∷ 0 ∷ 0 ∷ 0 ∷ 0 ∷ 0 ∷ 0 ∷ [])) (sym named.0))
