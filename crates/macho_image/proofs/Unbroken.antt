-- What follows where an image breaks no rule.
use Rattle.std.proofs.Common.{◌≡◌, ◌≤◌, ◌<◌, ◌+◌, ◌^◌, ℕ, zero, suc, Bool, true, false, not, List, [], ◌∷◌, take, drop, length, map, refl, sym, ap, ap₂, ◌∙◌, subst, arith, cond, nat_lt, nat_eq, if◌then◌else◌, Option, Some, None, option_map, length-drop, get_or}
use Rattle.std.specs.Prelude.{find, filter}
use Rattle.std.specs.Option.{option_or}
use Rattle.std.proofs.lemmas.List.{length-take-le, length-take}
use Rattle.std.proofs.lemmas.Bool.{not-true, not-false, and_parts}
use Rattle.std.proofs.lemmas.Bool.Decides.{nat_tests}
use Rattle.dsc_base.specs.Numbers.{number_at}
use Rattle.dsc_base.proofs.NumberLaws.{number_at-lt, number_at-take}
use Rattle.dsc_base.specs.declared.fault.Site.{Site}
use Rattle.dsc_base.specs.declared.fault.Fault.{Fault}
use Rattle.dsc_base.specs.declared.fault.Fault.TheVariants.{Broken, Memory}
use Rattle.dsc_base.specs.declared.rule.Rule.{Rule}
use Rattle.dsc_base.specs.declared.rule.Rule.TheVariants.{NotMachO, WrongKind, CommandShape, SegmentShape, LinkeditRange}
use Rattle.macho_image.specs.declared.form.Form.{Form}
use Rattle.macho_image.specs.declared.form.Form.TheVariants.{Standalone, Cached}
use Rattle.macho_image.specs.Records.{Seg, Img, Load, SegmentLoad}
use Rattle.macho_image.specs.Macho.{number_of, size_of, is_segment, commands_in, commands_of, loads_from, segment_load, header_size, header_in, loads_of, segment_loads, segment_of, segment_with, image_from, image_of}
use Rattle.macho_image.specs.Rules.{first_segment, says_cached, flags_fit, breaks_not_mach_o, breaks_wrong_kind, breaks_command_shape, breaks_segment_shape, breaks_segment_place, breaks_linkedit_range, starts_elsewhere, misshapen}
use Rattle.dsc_base.specs.Refusals.{least, IsRefusal, broken, first_break}
use Rattle.macho_image.specs.Breaks.{kind_break, command_break, section_break, name_break, header_break, load_break, image_break, form_of, unread, image_unless, image_at, IsSound}

-- neither of two, where the first of them is none
pub or_none : {X : Type 0} (a b : Option X) → option_or a b ≡ None → (a ≡ None) × (b ≡ None)
or_none None b e = (refl, e)
or_none (Some s) b e = absurd (cc)

-- a test that refuses where it holds, and one that refuses where it doesn't
pub when_false : (b : Bool) (at : ℕ) (o : Option ℕ) → (if b then Some at else o) ≡ None → (b ≡ false) × (o ≡ None)
when_false true at o e = absurd (cc)
when_false false at o e = (refl, e)

pub when_true : (b : Bool) (at : ℕ) (o : Option ℕ) → (if b then o else Some at) ≡ None → (b ≡ true) × (o ≡ None)
when_true true at o e = (refl, e)
when_true false at o e = absurd (cc)

pub broken_none : (rule : Rule) (place : Option ℕ) → broken rule place ≡ None → place ≡ None
broken_none rule None e = refl
broken_none rule (Some n) e = absurd (cc)

pub least_none_both : (a b : Option ℕ) → least a b ≡ None → (a ≡ None) × (b ≡ None)
least_none_both None b e = (refl, e)
least_none_both (Some a) None e = absurd (cc)
least_none_both (Some a) (Some b) e = absurd (cc)

-- the rules of an image, one by one
pub record IsUnbroken (form : Form) (b : List ℕ) (h : ℕ) : Type 0 where
  pub kind : kind_break form (header_in b h) ≡ None
  pub commands : command_break (loads_of (header_in b h)) ≡ None
  pub shape : breaks_segment_shape (header_size (header_in b h)) (segment_loads (loads_of (header_in b h))) ≡ None
  pub place : breaks_segment_place (length b) h (segment_loads (loads_of (header_in b h))) ≡ None
  pub sections : section_break (header_size (header_in b h)) (segment_loads (loads_of (header_in b h))) (loads_of (header_in b h)) ≡ None
  pub names : name_break (loads_of (header_in b h)) ≡ None
  pub ranges : breaks_linkedit_range (segment_loads (loads_of (header_in b h))) (loads_of (header_in b h)) ≡ None

pub image_unbroken : (form : Form) (b : List ℕ) (h : ℕ) → image_break form b h ≡ None → IsUnbroken form b h
unfolding image_break load_break
image_unbroken form b h none =
    let one = or_none _ _ none in
    let two = or_none _ _ one.1 in
    let three = or_none _ _ (or_none _ _ two.1).0 in
    let four = or_none _ _ three.1 in
    let five = or_none _ _ four.1 in
    let six = or_none _ _ five.1 in
    let shapes = least_none_both _ _ (broken_none SegmentShape _ three.0) in
    record { kind = one.0; commands = two.0; shape = shapes.0; place = shapes.1; sections = four.0; names = five.0; ranges = broken_none LinkeditRange _ six.0 }

-- a header that breaks none of rules 3 to 6
pub record IsWholeHeader (form : Form) (header : List ℕ) : Type 0 where
  pub magic : breaks_not_mach_o header ≡ None
  pub kind : breaks_wrong_kind form header ≡ None
  pub shape : breaks_command_shape header ≡ None

pub kind_unbroken : (form : Form) (header : List ℕ) → kind_break form header ≡ None → IsWholeHeader form header
unfolding kind_break
kind_unbroken form header none =
    let one = or_none _ _ none in
    let two = or_none _ _ one.1 in
    let three = or_none _ _ two.1 in
    record { magic = broken_none NotMachO _ one.0; kind = broken_none WrongKind _ two.0; shape = broken_none CommandShape _ three.0 }

third_not : (a b c : Bool) (k l m : ℕ) → (if a then Some k else (if b then Some l else (if c then Some m else None))) ≡ None → c ≡ false
third_not true b c k l m e = absurd (cc)
third_not false true c k l m e = absurd (cc)
third_not false false true k l m e = absurd (cc)
third_not false false false k l m e = refl

-- the flags of such a header tell its form
form_fits : (form : Form) (flags : ℕ) → flags_fit form flags ≡ true → (if says_cached flags then Cached else Standalone) ≡ form
form_fits Standalone flags fits = ap (λ (b : Bool). if b then Cached else Standalone) (not-true (says_cached flags) (and_parts _ (not (says_cached flags)) fits).1)
form_fits Cached flags fits = ap (λ (b : Bool). if b then Cached else Standalone) (and_parts _ (says_cached flags) fits).1

pub form_is : (form : Form) (header : List ℕ) → breaks_wrong_kind form header ≡ None → form_of header ≡ form
form_is form header none =
    form_fits form (number_at 4 header 24) (not-false (flags_fit form (number_at 4 header 24)) (third_not (not (nat_eq (number_at 4 header 4) 0x0100_0007)) (not (nat_eq (number_at 4 header 12) 6)) (not (flags_fit form (number_at 4 header 24))) 4 12 24 none))

pub header_unbroken : (form : Form) (b : List ℕ) (h : ℕ) → IsUnbroken form b h → header_break form (header_in b h) ≡ None
unfolding header_break
header_unbroken form b h whole =
    let shape : broken SegmentShape (breaks_segment_shape (header_size (header_in b h)) (segment_loads (loads_of (header_in b h)))) ≡ None = ap (λ (o : Option ℕ). broken SegmentShape o) whole.shape in
    λ j. first_break (whole.kind j ∷ whole.commands j ∷ shape j ∷ whole.sections j ∷ whole.names j ∷ [])

-- a segment whose file range lies in the bytes has as many bytes as its filesize
pub find_none : (b : Bool) (s : SegmentLoad) (o : Option SegmentLoad) → option_map (λ (t : SegmentLoad). t.at) (cond b (Some s) o) ≡ None → (b ≡ false) × (option_map (λ (t : SegmentLoad). t.at) o ≡ None)
find_none true s o e = absurd (cc)
find_none false s o e = (refl, e)

pub segments_sized : (b : List ℕ) (ss : List SegmentLoad) → first_segment (λ s. nat_lt (length b) (s.fileoff + s.filesize)) ss ≡ None
    → map (λ (s : Seg). length s.bytes) (map (segment_of b) ss) ≡ map (λ (s : Seg). s.filesize) (map (segment_of b) ss)
unfolding segment_of
segments_sized b [] none = refl
segments_sized b (s ∷ ss) none =
    let parts = find_none (nat_lt (length b) (s.fileoff + s.filesize)) s (find (λ (t : SegmentLoad). nat_lt (length b) (t.fileoff + t.filesize)) ss) none in
    let outside : nat_lt (length b) (s.fileoff + s.filesize) ≡ false = parts.0 in
    let inside : s.fileoff + s.filesize ≤ length b = grind (arith, nat_tests) in
    let len : length (take s.filesize (drop s.fileoff b)) ≡ s.filesize = length-take-le s.filesize (drop s.fileoff b) (omega (arith, length-drop s.fileoff b)) in
    ap₂ (λ (n : ℕ) (l : List ℕ). n ∷ l) len (segments_sized b ss parts.1)

pub segments_unread : (b : List ℕ) (ss : List SegmentLoad) → map unread (map (segment_of b) ss) ≡ map (segment_with []) ss
unfolding segment_of
segments_unread b [] = refl
segments_unread b (s ∷ ss) = ap (λ (l : List Seg). segment_with [] s ∷ l) (segments_unread b ss)

-- a header whose commands don't end past the bytes is as long as it says
header_ends : (b : List ℕ) (h : ℕ) → header_size (header_in b h) ≡ header_size (drop h b)
unfolding header_in
header_ends b h = ap (λ (n : ℕ). 32 + n) (number_at-take 4 (header_size (drop h b)) (drop h b) 20 (omega arith))

header_short : (b : List ℕ) (h : ℕ) → length (header_in b h) ≤ header_size (drop h b)
unfolding header_in
header_short b h = omega (arith, length-take (header_size (drop h b)) (drop h b))

pub header_whole : (b : List ℕ) (h : ℕ) → breaks_command_shape (header_in b h) ≡ None → length (header_in b h) ≡ header_size (header_in b h)
header_whole b h none =
    let inside : nat_lt (length (header_in b h)) (header_size (header_in b h)) ≡ false =
    (when_false (nat_lt (length (header_in b h)) (header_size (header_in b h))) 20 (misshapen (number_at 4 (header_in b h) 16) 32 (drop 32 (header_in b h))) none).0 in
    let long : header_size (header_in b h) ≤ length (header_in b h) = grind (arith, nat_tests) in
    omega (arith, long, header_short b h, header_ends b h)

-- the image that is read where no rule is broken is sound
pub image_sound : (form : Form) (b : List ℕ) (h : ℕ) → (form ≡ Standalone → h ≡ 0) → image_break form b h ≡ None → IsSound (image_from b (header_in b h))
unfolding image_from
image_sound form b h front none =
    let whole = image_unbroken form b h none in
    let kinds = kind_unbroken form (header_in b h) whole.kind in
    let told : form_of (header_in b h) ≡ form = form_is form (header_in b h) kinds.kind in
    let placed = least_none_both (first_segment (λ s. nat_lt (length b) (s.fileoff + s.filesize)) (segment_loads (loads_of (header_in b h)))) (starts_elsewhere h (segment_loads (loads_of (header_in b h)))) whole.place in
    record {
      unbroken = ap (λ (f : Form). header_break f (header_in b h)) told ∙ header_unbroken form b h whole;
      whole = header_whole b h kinds.shape;
      begins = λ is. ap (λ (k : ℕ). starts_elsewhere k (segment_loads (loads_of (header_in b h)))) (sym (front (sym told ∙ is))) ∙ placed.1;
      segments = segments_unread b (segment_loads (loads_of (header_in b h)));
      sizes = segments_sized b (segment_loads (loads_of (header_in b h))) placed.0;
      sections = refl;
      dependencies = refl;
      install_name = refl;
      groups = refl;
      uuid = refl;
      has_dyld_info = refl;
    }

refused_front : (found rest : Option Site) (fault : Fault) → IsRefusal found fault → IsRefusal (option_or found rest) fault
refused_front found rest (Broken site) refused = ap (λ (o : Option Site). option_or o rest) refused
refused_front found rest Memory refused = tt

refused_behind : (found rest : Option Site) (fault : Fault) → found ≡ None → IsRefusal rest fault → IsRefusal (option_or found rest) fault
refused_behind found rest fault none refused = subst (λ (o : Option Site). IsRefusal (option_or o rest) fault) (sym none) refused

-- a fault of one group is the image's where the groups before it have none
pub refused_kind : (form : Form) (b : List ℕ) (h : ℕ) (header : List ℕ) (fault : Fault) → header ≡ header_in b h → IsRefusal (kind_break form header) fault → IsRefusal (image_break form b h) fault
unfolding image_break
refused_kind form b h header fault is refused =
    refused_front (kind_break form (header_in b h)) _ fault (subst (λ (l : List ℕ). IsRefusal (kind_break form l) fault) is refused)

pub refused_commands : (form : Form) (b : List ℕ) (h : ℕ) (header : List ℕ) (ls : List Load) (fault : Fault) → header ≡ header_in b h → ls ≡ loads_of header → kind_break form header ≡ None
    → IsRefusal (command_break ls) fault → IsRefusal (image_break form b h) fault
unfolding image_break
refused_commands form b h header ls fault is loads kind refused =
    let all : ls ≡ loads_of (header_in b h) = loads ∙ ap loads_of is in
    refused_behind (kind_break form (header_in b h)) _ fault (ap (λ (l : List ℕ). kind_break form l) (sym is) ∙ kind)
    (refused_front (command_break (loads_of (header_in b h))) _ fault (subst (λ (l : List Load). IsRefusal (command_break l) fault) all refused))

pub refused_loads : (form : Form) (b : List ℕ) (h : ℕ) (header : List ℕ) (ls : List Load) (ss : List SegmentLoad) (size : ℕ) (fault : Fault) → header ≡ header_in b h → ls ≡ loads_of header
    → ss ≡ segment_loads ls → size ≡ header_size header → kind_break form header ≡ None → command_break ls ≡ None
    → IsRefusal (load_break size (length b) h ss ls) fault → IsRefusal (image_break form b h) fault
unfolding image_break
refused_loads form b h header ls ss size fault is loads segments sized kind commands refused =
    let all : ls ≡ loads_of (header_in b h) = loads ∙ ap loads_of is in
    let whole : load_break size (length b) h ss ls ≡ load_break (header_size (header_in b h)) (length b) h (segment_loads (loads_of (header_in b h))) (loads_of (header_in b h)) =
    λ j. load_break ((sized ∙ ap header_size is) j) (length b) h ((segments ∙ ap segment_loads all) j) (all j) in
    refused_behind (kind_break form (header_in b h)) _ fault (ap (λ (l : List ℕ). kind_break form l) (sym is) ∙ kind)
    (refused_behind (command_break (loads_of (header_in b h))) _ fault (ap command_break (sym all) ∙ commands)
    (refused_front (load_break (header_size (header_in b h)) (length b) h (segment_loads (loads_of (header_in b h))) (loads_of (header_in b h))) None fault
    (subst (λ (o : Option Site). IsRefusal o fault) whole refused)))

pub none_broken : (form : Form) (b : List ℕ) (h : ℕ) (header : List ℕ) (ls : List Load) (ss : List SegmentLoad) (size : ℕ) → header ≡ header_in b h → ls ≡ loads_of header
    → ss ≡ segment_loads ls → size ≡ header_size header → kind_break form header ≡ None → command_break ls ≡ None
    → load_break size (length b) h ss ls ≡ None → image_break form b h ≡ None
unfolding image_break
none_broken form b h header ls ss size is loads segments sized kind commands unbroken =
    let all : ls ≡ loads_of (header_in b h) = loads ∙ ap loads_of is in
    let whole : load_break size (length b) h ss ls ≡ load_break (header_size (header_in b h)) (length b) h (segment_loads (loads_of (header_in b h))) (loads_of (header_in b h)) =
    λ j. load_break ((sized ∙ ap header_size is) j) (length b) h ((segments ∙ ap segment_loads all) j) (all j) in
    let kind_none : kind_break form (header_in b h) ≡ None = ap (λ (l : List ℕ). kind_break form l) (sym is) ∙ kind in
    let commands_none : command_break (loads_of (header_in b h)) ≡ None = ap command_break (sym all) ∙ commands in
    let loads_none = sym whole ∙ unbroken in
    λ j. first_break (kind_none j ∷ commands_none j ∷ loads_none j ∷ [])

-- a header has fewer segment commands than 2 ^ 32
pub length-commands_in : (n : ℕ) (bytes : List ℕ) → length (commands_in n bytes) ≡ n
length-commands_in zero bytes = refl
length-commands_in (suc n) bytes = omega (arith, length-commands_in n (drop (size_of bytes) bytes))

pub length-loads_from : (at : ℕ) (cs : List (List ℕ)) → length (loads_from at cs) ≡ length cs
length-loads_from at [] = refl
length-loads_from at (c ∷ cs) = omega (arith, length-loads_from (at + length c) cs)

length-segment_loads : (ls : List Load) → length (segment_loads ls) ≤ length ls
length-segment_loads [] = omega arith
length-segment_loads (l ∷ ls) = counted (is_segment (number_of l.bytes)) l ls (length-segment_loads ls)
  where
    counted : (b : Bool) (l : Load) (ls : List Load) → length (segment_loads ls) ≤ length ls
        → length (map segment_load (cond b (l ∷ filter (λ (k : Load). is_segment (number_of k.bytes)) ls) (filter (λ (k : Load). is_segment (number_of k.bytes)) ls))) ≤ length (l ∷ ls)
    counted true l ls h = omega arith
    counted false l ls h = omega arith

pub few_loads : (header : List ℕ) → ((k : ℕ) → get_or header k 0 < 256) → length (segment_loads (loads_of header)) < 2 ^ 32
few_loads header bytes =
    let count : number_at 4 header 16 < 256 ^ 4 = number_at-lt 4 header 16 bytes in
    omega (arith, count, length-segment_loads (loads_of header), length-loads_from 32 (commands_of header), length-commands_in (number_at 4 header 16) (drop 32 header))

-- an image that is spelled breaks no rule and is the one that its commands spell
unless_some : (found : Option Site) (image i : Img) → image_unless found image ≡ Some i → (found ≡ None) × (i ≡ image)
unless_some None image i e = (refl, cc)
unless_some (Some site) image i e = absurd (cc)

pub image_at-some : (form : Form) (b : List ℕ) (h : ℕ) (i : Img) → image_at form b h ≡ Some i → (image_break form b h ≡ None) × (i ≡ image_of b h)
image_at-some form b h i e = unless_some (image_break form b h) (image_of b h) i e
