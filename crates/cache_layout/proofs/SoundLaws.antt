-- What the rules on an image's header say of its name and its segments: the name is short, each segment has one of three protections, and `__LINKEDIT` is the last segment.
use Rattle.std.proofs.Common.{◌≡◌, ◌≤◌, ◌<◌, ◌⊎◌, ℕ, zero, suc, ◌+◌, ◌%◌, ◌/◌, Bool, true, false, not, ◌&&◌, ◌||◌, cond, List, [], ◌∷◌, length, map, get_or, refl, sym, ap, ◌∙◌, subst, arith, if◌then◌else◌, nat_lt, nat_le, nat_eq, inl, inr, Option, Some, None, option_map}
use Rattle.std.specs.Prelude.{find}
use Rattle.std.proofs.lemmas.List.{get_or_default, length-map}
use Rattle.std.proofs.Math.ListN.{get_or-map}
use Rattle.std.proofs.lemmas.Bool.{false≢true, and_parts, or_parts}
use Rattle.std.proofs.lemmas.Bool.Decides.{nat_tests}
use Rattle.dsc_base.specs.Numbers.{number_at}
use Rattle.macho_image.specs.Records.{Seg, Img, Load, SegmentLoad}
use Rattle.macho_image.specs.Macho.{header_size, commands_of, loads_of, pieces_of, number_of, segment_loads, segment_with, command_where, install_name_of, is_install_name, is_dylib, dylib_name}
use Rattle.macho_image.specs.Rules.{is_linkedit_segment, is_linkedit, is_text, is_good_text, is_good_linkedit, has_reserved_name, misplaced_behind, misplaced, breaks_segment_prot, breaks_name_text, is_plain_name, breaks_no_install_name}
use Rattle.dsc_base.proofs.TextLaws.{IsPlain, plain_is}
use Rattle.macho_image.specs.Breaks.{unread, IsSound}
use Rattle.macho_image.proofs.Images.{pieces_of-loads_from}
use Rattle.macho_image.proofs.Unbroken.{when_true, when_false, find_none}
use Rattle.cache_layout.specs.declared.mapping.Mapping.{Mapping}
use Rattle.cache_layout.specs.declared.mapping.Mapping.TheVariants.{Text, Writable, Fixed}
use Rattle.cache_layout.specs.Places.{mapping_of}
use Rattle.macho_image.proofs.HeaderRules.{sound_rules, shape_parts, text_no_linkedit}
use Rattle.macho_image.proofs.SoundSegments.{loads_length}
use Rattle.std.specs.List.{list_any}
use Rattle.dsc_base.specs.Texts.{is_plain_text}

-- the install name

found_none : (b : Bool) (l : Load) (o : Option Load) → option_map (λ (k : Load). k.at) (cond b (Some l) o) ≡ None → (b ≡ false) × (option_map (λ (k : Load). k.at) o ≡ None)
found_none true l o e = absurd (cc)
found_none false l o e = (refl, e)

plain_of : (a b p : Bool) → ((a || b) && not p) ≡ false → a ≡ true → p ≡ true
plain_of true b true e is = refl
plain_of true b false e is = absurd (cc)
plain_of false b p e is = absurd (cc)

plain_path : (c : List ℕ) → is_plain_name c ≡ true → is_plain_text (dylib_name c) ≡ true
plain_path c plain =
    let one = and_parts (nat_le 24 (number_at 4 c 8)) _ plain in
    (and_parts (nat_lt (number_at 4 c 8 + length (dylib_name c)) (length c)) _ one.1).1

name_found : (b : Bool) (c : List ℕ) (o : Option (List ℕ)) → (b ≡ true → is_plain_text (dylib_name c) ≡ true) → (b ≡ false → is_plain_text (install_name_of o) ≡ true) → is_plain_text (install_name_of (cond b (Some c) o)) ≡ true
name_found true c o here later = here refl
name_found false c o here later = later refl

rest_has : (a b : Bool) → (a || b) ≡ true → a ≡ false → b ≡ true
rest_has true b has isnt = absurd (cc)
rest_has false b has isnt = has

names_plain : (ls : List Load) → breaks_name_text ls ≡ None → list_any (λ (l : Load). is_install_name (number_of l.bytes)) ls ≡ true → is_plain_text (install_name_of (command_where is_install_name (pieces_of ls))) ≡ true
names_plain [] none some = absurd (cc)
names_plain (l ∷ ls) none some =
    let parts = found_none (is_dylib (number_of l.bytes) && not (is_plain_name l.bytes)) l (find (λ (k : Load). is_dylib (number_of k.bytes) && not (is_plain_name k.bytes)) ls) none in
    name_found (is_install_name (number_of l.bytes)) l.bytes (command_where is_install_name (pieces_of ls))
    (λ is. plain_path l.bytes (plain_of (is_install_name (number_of l.bytes)) _ (is_plain_name l.bytes) parts.0 is))
    (λ isnt. names_plain ls parts.1 (rest_has (is_install_name (number_of l.bytes)) (list_any (λ (k : Load). is_install_name (number_of k.bytes)) ls) some isnt))

has_name : (ls : List Load) → breaks_no_install_name ls ≡ None → list_any (λ (l : Load). is_install_name (number_of l.bytes)) ls ≡ true
has_name ls none = (when_true (list_any (λ (l : Load). is_install_name (number_of l.bytes)) ls) 0 None none).0

-- an image's name is plain text
pub sound_path : (image : Img) → IsSound image → is_plain_text image.install_name ≡ true
sound_path image sound =
    let rules = sound_rules image sound in
    ap is_plain_text (sound.install_name ∙ ap (λ (cs : List (List ℕ)). install_name_of (command_where is_install_name cs)) (sym (pieces_of-loads_from 32 (commands_of image.header))))
    ∙ names_plain (loads_of image.header) rules.names (has_name (loads_of image.header) rules.named)

-- of at most 1,024 bytes
pub sound_name : (image : Img) → IsSound image → length image.install_name ≤ 1024
sound_name image sound =
    let is : IsPlain image.install_name = plain_is image.install_name (sound_path image sound) in
    is.short

-- the segments are those of the header

no_load : SegmentLoad
no_load = record { at = 0; size = 0; name = []; vmaddr = 0; vmsize = 0; fileoff = 0; filesize = 0; maxprot = 0; initprot = 0; nsects = 0; flags = 0; sections = [] }

-- a segment and its command
pub load-of : (ss : List Seg) (ls : List SegmentLoad) → map unread ss ≡ map (segment_with []) ls → (g : ℕ) (s : Seg) → g < length ss → s ≡ get_or ss g s
    → (l : SegmentLoad) × (g < length ls) × (l ≡ get_or ls g l) × (unread s ≡ segment_with [] l)
load-of ss ls same g s lt is =
    let l : SegmentLoad = get_or ls g no_load in
    let long : length ss ≡ length ls = loads_length ss ls same in
    let within : g < length (map (segment_with []) ls) = omega (arith, long, length-map ls (segment_with [])) in (
      l,
      omega (arith, long),
      get_or_default ls g no_load l (omega (arith, long)),
      ap unread is ∙ (sym (get_or-map unread ss g s) ∙ (ap (λ (ts : List Seg). get_or ts g (unread s)) same
          ∙ (get_or_default (map (segment_with []) ls) g (unread s) (segment_with [] no_load) within ∙ get_or-map (segment_with []) ls g no_load))),
    )

-- a segment's protection

abbrev IsProtection : ℕ → Type 0
IsProtection p = (p ≡ 5) ⊎ ((p ≡ 3) ⊎ (p ≡ 1))

protection_of : (p : ℕ) (b : Bool) → (not (nat_eq p 5 || (nat_eq p 3 || nat_eq p 1)) || b) ≡ false → IsProtection p
protection_of p b e = picked (nat_eq p 5) (nat_eq p 3) (nat_eq p 1) b e (λ t. grind (arith, nat_tests)) (λ t. grind (arith, nat_tests)) (λ t. grind (arith, nat_tests))
  where
    picked : (x y z b : Bool) → (not (x || (y || z)) || b) ≡ false → (x ≡ true → p ≡ 5) → (y ≡ true → p ≡ 3) → (z ≡ true → p ≡ 1) → IsProtection p
    picked true y z b e five three one = inl (five refl)
    picked false true z b e five three one = inr (inl (three refl))
    picked false false true b e five three one = inr (inr (one refl))
    picked false false false b e five three one = absurd (cc)

protections_of : (ls : List SegmentLoad) → breaks_segment_prot ls ≡ None → (g : ℕ) (l : SegmentLoad) → g < length ls → l ≡ get_or ls g l → IsProtection l.initprot
protections_of [] none g l lt is = absurd (omega arith)
protections_of (t ∷ ts) none zero l lt is =
    let parts = find_none (not (nat_eq t.initprot 5 || (nat_eq t.initprot 3 || nat_eq t.initprot 1)) || nat_eq (t.flags / 8 % 2) 1) t (find (λ (s : SegmentLoad). not (nat_eq s.initprot 5 || (nat_eq s.initprot 3 || nat_eq s.initprot 1)) || nat_eq (s.flags / 8 % 2) 1) ts) none in
    subst (λ (s : SegmentLoad). IsProtection s.initprot) (sym is) (protection_of t.initprot (nat_eq (t.flags / 8 % 2) 1) parts.0)
protections_of (t ∷ ts) none (suc g) l lt is =
    let parts = find_none (not (nat_eq t.initprot 5 || (nat_eq t.initprot 3 || nat_eq t.initprot 1)) || nat_eq (t.flags / 8 % 2) 1) t (find (λ (s : SegmentLoad). not (nat_eq s.initprot 5 || (nat_eq s.initprot 3 || nat_eq s.initprot 1)) || nat_eq (s.flags / 8 % 2) 1) ts) none in
    protections_of ts parts.1 g l (omega arith) is

-- a segment's protection is 5, 3 or 1
pub sound_protection : (image : Img) → IsSound image → (g : ℕ) (s : Seg) → g < length image.segments → s ≡ get_or image.segments g s → (s.initprot ≡ 5) ⊎ ((s.initprot ≡ 3) ⊎ (s.initprot ≡ 1))
sound_protection image sound g s lt is =
    let command = load-of image.segments (segment_loads (loads_of image.header)) sound.segments g s lt is in
    subst (λ (n : ℕ). IsProtection n) (sym (ap (λ (t : Seg). t.initprot) command.3))
    (protections_of (segment_loads (loads_of image.header)) (sound_rules image sound).prot g command.0 command.1 command.2)

-- the protection of each mapping's segments
abbrev pub protection : Mapping → ℕ
protection Text = 5
protection Writable = 3
protection Fixed = 1

pub mapped_protection : (s : Seg) (m : Mapping) → (s.initprot ≡ 5) ⊎ ((s.initprot ≡ 3) ⊎ (s.initprot ≡ 1)) → mapping_of s ≡ Some m → s.initprot ≡ protection m
unfolding mapping_of
mapped_protection s m one own =
    let p = s.initprot in
    picked (is_linkedit_segment s) (nat_eq p 5) (nat_eq p 3) p m own (λ t. grind (arith, nat_tests)) (λ t. grind (arith, nat_tests)) (λ t u. neither p one t u)
  where
    same : (p : ℕ) (m n : Mapping) → p ≡ protection n → (let o : Option Mapping = Some n in o ≡ Some m) → p ≡ protection m
    same p m n is own = let e : n ≡ m = cc in is ∙ ap protection e

    picked : (l x y : Bool) (p : ℕ) (m : Mapping) → (if l then None else (if x then Some Text else (if y then Some Writable else Some Fixed))) ≡ Some m
        → (x ≡ true → p ≡ 5) → (y ≡ true → p ≡ 3) → (x ≡ false → y ≡ false → p ≡ 1) → p ≡ protection m
    picked true x y p m own five three one = absurd (cc)
    picked false true y p m own five three one = same p m Text (five refl) own
    picked false false true p m own five three one = same p m Writable (three refl) own
    picked false false false p m own five three one = same p m Fixed (one refl refl) own

    neither : (p : ℕ) → (p ≡ 5) ⊎ ((p ≡ 3) ⊎ (p ≡ 1)) → nat_eq p 5 ≡ false → nat_eq p 3 ≡ false → p ≡ 1
    neither p (inl five) t u = absurd (false≢true (sym t ∙ ap (λ (n : ℕ). nat_eq n 5) five))
    neither p (inr (inl three)) t u = absurd (false≢true (sym u ∙ ap (λ (n : ℕ). nat_eq n 3) three))
    neither p (inr (inr one)) t u = one

-- `__LINKEDIT` is the last segment

good_linkedit : (l : SegmentLoad) → is_good_linkedit l ≡ true → is_linkedit l ≡ true
good_linkedit l good = (and_parts (is_linkedit l) (nat_eq l.initprot 1 && nat_eq l.nsects 0) good).0

abbrev IsLastAlone : ℕ → ℕ → SegmentLoad → Type 0
IsLastAlone g n l = (g + 1 < n → is_linkedit l ≡ false) × (g + 1 ≡ n → is_linkedit l ≡ true)

last_behind : (ls : List SegmentLoad) → misplaced_behind ls ≡ None → (g : ℕ) (l : SegmentLoad) → g < length ls → l ≡ get_or ls g l → IsLastAlone g (length ls) l
last_behind [] none g l lt is = absurd (omega arith)
last_behind (s ∷ []) none zero l lt is =
    (λ less. absurd (omega (arith, less)), λ last. ap is_linkedit is ∙ good_linkedit s (when_true (is_good_linkedit s) s.at None none).0)
last_behind (s ∷ []) none (suc g) l lt is = absurd (omega arith)
last_behind (s ∷ t ∷ ss) none zero l lt is =
    (λ less. ap is_linkedit is ∙ (or_parts (is_text s) (is_linkedit s) (when_false (has_reserved_name s) s.at (misplaced_behind (t ∷ ss)) none).0).1, λ last. absurd (omega (arith, last)))
last_behind (s ∷ t ∷ ss) none (suc g) l lt is =
    let rest = last_behind (t ∷ ss) (when_false (has_reserved_name s) s.at (misplaced_behind (t ∷ ss)) none).1 g l (omega arith) is in
    (λ less. rest.0 (omega (arith, less)), λ last. rest.1 (omega (arith, last)))

last_alone : (size : ℕ) (ls : List SegmentLoad) → 2 ≤ length ls → misplaced size ls ≡ None → (g : ℕ) (l : SegmentLoad) → g < length ls → l ≡ get_or ls g l → IsLastAlone g (length ls) l
last_alone size [] some none g l lt is = absurd (omega arith)
last_alone size (s ∷ ss) some none zero l lt is =
    (λ less. ap is_linkedit is ∙ text_no_linkedit size s (when_true (is_good_text size s) s.at (misplaced_behind ss) none).0, λ last. absurd (omega (arith, last, some)))
last_alone size (s ∷ ss) some none (suc g) l lt is =
    let rest = last_behind ss (when_true (is_good_text size s) s.at (misplaced_behind ss) none).1 g l (omega arith) is in
    (λ less. rest.0 (omega (arith, less)), λ last. rest.1 (omega (arith, last)))

pub sound_linkedit : (image : Img) → IsSound image → (g : ℕ) (s : Seg) → g < length image.segments → s ≡ get_or image.segments g s
    → (g + 1 < length image.segments → is_linkedit_segment s ≡ false) × (g + 1 ≡ length image.segments → is_linkedit_segment s ≡ true)
sound_linkedit image sound g s lt is =
    let ls : List SegmentLoad = segment_loads (loads_of image.header) in
    let size : ℕ = header_size image.header in
    let command = load-of image.segments ls sound.segments g s lt is in
    let parts = shape_parts size ls (sound_rules image sound).segments in
    let few : nat_lt (length ls) 2 ≡ false = parts.0 in
    let some : 2 ≤ length ls = grind (arith, nat_tests) in
    let long : length image.segments ≡ length ls = loads_length image.segments ls sound.segments in
    let last = last_alone size ls some parts.3 g command.0 command.1 command.2 in
    let named : is_linkedit_segment s ≡ is_linkedit command.0 = ap (λ (t : Seg). is_linkedit_segment t) command.3 in
    (λ less. named ∙ last.0 (omega (arith, less, long)), λ at_end. named ∙ last.1 (omega (arith, at_end, long)))
