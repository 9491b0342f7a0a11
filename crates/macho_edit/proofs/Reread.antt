-- Where a header that was moved stands in a file, the file has the moved image there, which breaks no rule.
use Rattle.std.proofs.Common.{◌≡◌, ◌≤◌, ◌<◌, inl, inr, ℕ, ◌+◌, ◌-◌, ◌/◌, ◌%◌, ◌^◌, Bool, true, false, not, ◌||◌, nat_eq, nat_le, nat_lt, if◌then◌else◌, Option, Some, None, List, [], ◌∷◌, take, drop, length, get_or, refl, sym, ap, ap₂, ◌∙◌, subst, arith, All}
use Rattle.std.specs.Prelude.{filter}
use Rattle.std.specs.List.{AllByRecursion}
use Rattle.std.proofs.lemmas.Bool.{cond-true, cond-false, eq-eqb, eqb-true, not-false, or_parts, and_parts, and_from, le-leb, le-ltb, leb-true}
use Rattle.std.proofs.lemmas.Bool.Decides.{nat_tests}
use Rattle.std.proofs.lemmas.List.Elements.{recursion_from_All}
use Rattle.dsc_base.specs.Numbers.{number_at}
use Rattle.dsc_base.specs.declared.fault.Site.{Site}
use Rattle.dsc_base.specs.declared.rule.Rule.TheVariants.{NotMachO, WrongKind, CommandShape, UnknownCommand, CommandTwice, NoInstallName, SegmentShape, SegmentProt, SectionShape, Interposing, HasRelocations, NameText, UnsafeName, LinkeditRange}
use Rattle.macho_image.specs.declared.form.Form.{Form}
use Rattle.macho_image.specs.declared.form.Form.TheVariants.{Standalone, Cached}
use Rattle.macho_image.specs.declared.place.Moved.{Moved}
use Rattle.macho_image.specs.Records.{Img, Seg, Load, SegmentLoad}
use Rattle.macho_image.specs.Macho.{header_size, header_in, commands_of, loads_from, loads_of, segment_loads, command_where, is_dysymtab, image_from, image_of}
use Rattle.macho_image.specs.Rules.{says_cached, flags_fit, breaks_not_mach_o, breaks_wrong_kind, breaks_segment_shape, breaks_segment_place, breaks_has_relocations, breaks_linkedit_range}
use Rattle.dsc_base.specs.Refusals.{least, broken, first_break}
use Rattle.macho_image.specs.Breaks.{kind_break, command_break, section_break, name_break, load_break, image_break, image_unless, image_at, form_of, IsSound}
use Rattle.macho_image.proofs.Unbroken.{least_none_both, none_broken, image_sound, when_false}
use Rattle.macho_edit.specs.declared.segment.SegmentPlace.{SegmentPlace}
use Rattle.macho_edit.specs.declared.spots.LinkSpots.{LinkSpots}
use Rattle.macho_edit.specs.Conditions.{CanMove, FitFields}
use Rattle.macho_edit.specs.Segments.{place_for}
use Rattle.macho_edit.specs.Cached.{is_kept, in_cache, out_of_cache, flags_in, kept_commands, formed_header, formed_bytes, unrebased, cached_bytes}
use Rattle.macho_edit.specs.Placed.{places_of, IsSeated, AreApart, IsLinked, IsPlaced}
use Rattle.macho_edit.specs.MovedImage.{spotted_streams, spotted_groups, placed_image, moved_image, standalone_image, Rereads, RereadsAlone}
use Rattle.macho_edit.proofs.BoolLaws.{bool_cases}
use Rattle.macho_edit.proofs.FrontLaws.{cached_is, kept_is}
use Rattle.macho_edit.proofs.MovedCommands.{load_places}
use Rattle.macho_edit.proofs.KeptRules.{KeepCommandRules, command_rules_kept}
use Rattle.macho_edit.proofs.KeptTables.{AllLinked}
use Rattle.macho_edit.proofs.KeptRanges.{relocations_none, ranges_none}
use Rattle.macho_edit.proofs.KeptSegments.{AreSeated, AllApart, StartsAt, shapes_kept, places_kept, prot_kept, section_shapes_kept, interposing_kept, relocated_kept, outside_kept}
use Rattle.macho_edit.proofs.Grounds.{places_from, all_fit, all_apart, linkedit_at, first_text, flags_set}
use Rattle.macho_edit.proofs.Spelt.{IsSpelt, AreSoundLoads, sound_loads, spelt, seats_are, header_here, image_there, spelled_image}

-- what is known of an image whose header is placed
pub record IsReady (form : Form) (image : Img) (moves : List Moved) (spots : LinkSpots) (b : List ℕ) (h : ℕ) : Type 0 where
  pub spelt : IsSpelt form image moves spots
  pub linked : AllLinked spots
  pub seats : AreSeated (length b) (load_places spots moves (segment_loads (loads_of image.header))) (segment_loads (loads_of image.header))
  pub apart : AllApart (load_places spots moves (segment_loads (loads_of image.header)))
  pub starts : StartsAt h (load_places spots moves (segment_loads (loads_of image.header)))

pub ready : (form : Form) (image : Img) (moves : List Moved) (spots : LinkSpots) (b : List ℕ) (h : ℕ) → IsSound image → CanMove image moves spots → FitFields spots.linkedit.file spots.groups → number_at 4 image.header 24 < 2 ^ 32 → IsPlaced image moves spots b h → IsLinked spots spots.rebase → IsReady form image moves spots b h
ready form image moves spots b h sound can fields narrow placed rebased =
    let ss : List SegmentLoad = segment_loads (loads_of image.header) in
    let ps : List SegmentPlace = load_places spots moves ss in
    let loads : AreSoundLoads image moves = sound_loads image moves spots sound can in
    let places : places_of spots moves image.segments ≡ ps = places_from spots moves image.segments ss sound.segments in
    let seated : AllByRecursion (IsSeated (length b)) ps = subst (λ (qs : List SegmentPlace). AllByRecursion (IsSeated (length b)) qs) places (recursion_from_All (IsSeated (length b)) (places_of spots moves image.segments) placed.seated) in
    let first = first_text (header_size image.header) h spots moves ss loads.few loads.two loads.well_placed loads.shaped loads.low placed.first in
    record {
      spelt = spelt form image moves spots sound can fields narrow loads (omega (arith, sound.whole, first.1)) (all_fit (length b) spots moves ss fields.offset loads.low seated);
      linked = record { rebase = rebased; others = placed.linked };
      seats = seats_are (length b) image moves spots loads seated;
      apart = all_apart ps (subst (λ (qs : List SegmentPlace). (i j : ℕ) (d : SegmentPlace) → i < j → j < length qs → AreApart (get_or qs i d) (get_or qs j d)) places placed.apart);
      starts = first.0;
    }

-- rules 3 and 5 of the header of a form
magic_kept : (form : Form) (image : Img) (moves : List Moved) (spots : LinkSpots) → IsSpelt form image moves spots → breaks_not_mach_o (formed_header form spots moves image.header) ≡ None
magic_kept form image moves spots is =
    let k : List ℕ = formed_header form spots moves image.header in
    let old = when_some (nat_lt (length image.header) 32 || not (nat_eq (number_at 4 image.header 0) 0xFEED_FACF)) is.rules.magic in
    let both = or_parts (nat_lt (length image.header) 32) (not (nat_eq (number_at 4 image.header 0) 0xFEED_FACF)) old in
    cond-false (nat_lt (length k) 32 || not (nat_eq (number_at 4 k 0) 0xFEED_FACF)) (Some 0) None
    (ap₂ (λ (a c : Bool). a || c) (le-ltb (length k) 32 is.kept.long) (ap (λ (n : ℕ). not (nat_eq n 0xFEED_FACF)) (is.kept.low 4 0 (omega arith)) ∙ both.1))
  where
    when_some : (c : Bool) → if◌then◌else◌ {A = Option ℕ} c (Some 0) None ≡ None → c ≡ false
    when_some true e = absurd (cc)
    when_some false e = refl

cached_flags : (flags : ℕ) → flags_fit (if◌then◌else◌ {A = Form} (says_cached flags) Cached Standalone) flags ≡ true → flags_fit Cached (in_cache flags) ≡ true
cached_flags flags fit = elim (bool_cases (says_cached flags)) [
  | inl clear ↦
      let own : flags_fit Standalone flags ≡ true = subst (λ (f : Form). flags_fit f flags ≡ true) (cond-false (says_cached flags) Cached Standalone clear) fit in
      let parts = and_parts (nat_eq (flags / 0x80 % 2) 1) (not (says_cached flags)) own in
      let bit : flags / 0x80 % 2 ≡ 1 = eqb-true (flags / 0x80 % 2) 1 parts.0 in
      let set = flags_set flags clear in
      ap (flags_fit Cached) set.0
      ∙ and_from (nat_eq ((flags + 0x8000_0000) / 0x80 % 2) 1) (says_cached (flags + 0x8000_0000))
      (eq-eqb ((flags + 0x8000_0000) / 0x80 % 2) 1 (omega arith)) (le-leb 0x8000_0000 (flags + 0x8000_0000) (omega arith))
  | inr set ↦
      ap (flags_fit Cached) (cond-true (says_cached flags) flags (flags + 0x8000_0000) set)
      ∙ subst (λ (f : Form). flags_fit f flags ≡ true) (cond-true (says_cached flags) Cached Standalone set) fit
]

own_flags : (flags : ℕ) → flags < 2 ^ 32 → flags_fit (if◌then◌else◌ {A = Form} (says_cached flags) Cached Standalone) flags ≡ true → flags_fit Standalone (out_of_cache flags) ≡ true
own_flags flags narrow fit = elim (bool_cases (says_cached flags)) [
  | inl clear ↦
      ap (flags_fit Standalone) (cond-false (says_cached flags) (flags - 0x8000_0000) flags clear)
      ∙ subst (λ (f : Form). flags_fit f flags ≡ true) (cond-false (says_cached flags) Cached Standalone clear) fit
  | inr set ↦
      let own : flags_fit Cached flags ≡ true = subst (λ (f : Form). flags_fit f flags ≡ true) (cond-true (says_cached flags) Cached Standalone set) fit in
      let parts = and_parts (nat_eq (flags / 0x80 % 2) 1) (says_cached flags) own in
      let bit : flags / 0x80 % 2 ≡ 1 = eqb-true (flags / 0x80 % 2) 1 parts.0 in
      let up : 0x8000_0000 ≤ flags = leb-true 0x8000_0000 flags set in
      let down : nat_le 0x8000_0000 (flags - 0x8000_0000) ≡ false = grind (arith, nat_tests) in
      ap (flags_fit Standalone) (cond-true (says_cached flags) (flags - 0x8000_0000) flags set)
      ∙ and_from (nat_eq ((flags - 0x8000_0000) / 0x80 % 2) 1) (not (says_cached (flags - 0x8000_0000)))
      (eq-eqb ((flags - 0x8000_0000) / 0x80 % 2) 1 (omega arith)) (ap not down)
]

flags_kept : (form : Form) (flags : ℕ) → flags < 2 ^ 32 → flags_fit (if◌then◌else◌ {A = Form} (says_cached flags) Cached Standalone) flags ≡ true → flags_fit form (flags_in form flags) ≡ true
flags_kept Cached flags narrow fit = cached_flags flags fit
flags_kept Standalone flags narrow fit = own_flags flags narrow fit

kind_parts : (form : Form) (cpu kind flags : ℕ) → if◌then◌else◌ {A = Option ℕ} (not (nat_eq cpu 0x0100_0007)) (Some 4) (if not (nat_eq kind 6) then Some 12 else (if not (flags_fit form flags) then Some 24 else None)) ≡ None
    → (not (nat_eq cpu 0x0100_0007) ≡ false) × (not (nat_eq kind 6) ≡ false) × (flags_fit form flags ≡ true)
kind_parts form cpu kind flags none =
    let one = when_false (not (nat_eq cpu 0x0100_0007)) 4 (if not (nat_eq kind 6) then Some 12 else (if not (flags_fit form flags) then Some 24 else None)) none in
    let two = when_false (not (nat_eq kind 6)) 12 (if not (flags_fit form flags) then Some 24 else None) one.1 in
    let three = when_false (not (flags_fit form flags)) 24 None two.1 in
    (one.0, two.0, not-false (flags_fit form flags) three.0)

kind_none : (form : Form) (cpu kind flags : ℕ) → not (nat_eq cpu 0x0100_0007) ≡ false → not (nat_eq kind 6) ≡ false → flags_fit form flags ≡ true
    → if◌then◌else◌ {A = Option ℕ} (not (nat_eq cpu 0x0100_0007)) (Some 4) (if not (nat_eq kind 6) then Some 12 else (if not (flags_fit form flags) then Some 24 else None)) ≡ None
kind_none form cpu kind flags a b c =
    cond-false (not (nat_eq cpu 0x0100_0007)) (Some 4) _ a ∙ (cond-false (not (nat_eq kind 6)) (Some 12) _ b ∙ cond-false (not (flags_fit form flags)) (Some 24) None (ap not c))

kind_kept : (form : Form) (image : Img) (moves : List Moved) (spots : LinkSpots) → IsSpelt form image moves spots → breaks_wrong_kind form (formed_header form spots moves image.header) ≡ None
kind_kept form image moves spots is =
    let header : List ℕ = image.header in
    let k : List ℕ = formed_header form spots moves header in
    let old = kind_parts (form_of header) (number_at 4 header 4) (number_at 4 header 12) (number_at 4 header 24) is.rules.kind in
    kind_none form (number_at 4 k 4) (number_at 4 k 12) (number_at 4 k 24)
    (ap (λ (n : ℕ). not (nat_eq n 0x0100_0007)) (is.kept.low 4 4 (omega arith)) ∙ old.0)
    (ap (λ (n : ℕ). not (nat_eq n 6)) (is.kept.low 4 12 (omega arith)) ∙ old.1)
    (ap (flags_fit form) is.kept.flags ∙ flags_kept form (number_at 4 header 24) is.narrow old.2)

-- no rule is broken
pub none_broken_here : (form : Form) (image : Img) (moves : List Moved) (spots : LinkSpots) (b : List ℕ) (h : ℕ) → IsReady form image moves spots b h → header_in b h ≡ formed_header form spots moves image.header → image_break form b h ≡ None
unfolding kind_break command_break section_break name_break load_break
none_broken_here form image moves spots b h is here =
    let header : List ℕ = image.header in
    let k : List ℕ = formed_header form spots moves header in
    let cs : List (List ℕ) = kept_commands spots moves header in
    let ls : List Load = loads_from 32 cs in
    let ss : List SegmentLoad = segment_loads (loads_of header) in
    let ps : List SegmentPlace = load_places spots moves ss in
    let ts : List SegmentLoad = segment_loads ls in
    let n : ℕ = length b in
    let size : ℕ = header_size header in
    let size' : ℕ = header_size k in
    let le : header_size k ≤ header_size header = omega (arith, is.spelt.kept.exact, is.spelt.kept.fits, is.spelt.whole) in
    let commands : KeepCommandRules 32 cs = command_rules_kept spots 32 32 (commands_of header) cs is.spelt.are.six is.spelt.commands
    (record { known = is.spelt.rules.known; once = is.spelt.rules.once; named = is.spelt.rules.named; names = is.spelt.rules.names; safe = is.spelt.rules.safe }) in
    let magic = magic_kept form image moves spots is.spelt in
    let kind = kind_kept form image moves spots is.spelt in
    let shape : least (breaks_segment_shape size' ts) (breaks_segment_place n h ts) ≡ None =
    ap₂ least (shapes_kept n size size' ps ss ts le is.spelt.follow is.seats is.apart is.spelt.rules.segments) (places_kept n h ps ss ts is.spelt.follow is.seats is.starts) in
    let prot = prot_kept n ps ss ts is.spelt.follow is.seats is.spelt.rules.prot in
    let sections = section_shapes_kept n size size' ps ss ts le is.spelt.follow is.seats is.spelt.rules.sections in
    let interposing = interposing_kept n ps ss ts is.spelt.follow is.seats is.spelt.rules.interposing in
    let old = least_none_both _ _ is.spelt.rules.relocations in
    let relocations : breaks_has_relocations ts ls ≡ None =
    ap₂ least (relocated_kept n ps ss ts is.spelt.follow is.seats old.0) (relocations_none spots 32 (filter is_kept (commands_of header)) cs is.spelt.are is.spelt.commands) in
    let range : breaks_linkedit_range ts ls ≡ None =
    outside_kept spots.linkedit.file spots.filesize ls ps ss ts is.spelt.follow (linkedit_at spots moves ss) (ranges_none spots 32 (filter is_kept (commands_of header)) cs is.spelt.are is.linked is.spelt.commands) in
    none_broken form b h k ls ts size' (sym here) (sym is.spelt.kept.loads) refl refl
    (λ j. first_break (broken NotMachO (magic j) ∷ broken WrongKind (kind j) ∷ broken CommandShape (is.spelt.kept.shape j) ∷ []))
    (λ j. first_break (broken UnknownCommand (commands.known j) ∷ broken CommandTwice (commands.once j) ∷ broken NoInstallName (commands.named j) ∷ []))
    (λ j. first_break (broken SegmentShape (shape j)
    ∷ first_break (broken SegmentProt (prot j) ∷ broken SectionShape (sections j) ∷ broken Interposing (interposing j) ∷ broken HasRelocations (relocations j) ∷ [])
    ∷ first_break (broken NameText (commands.names j) ∷ broken UnsafeName (commands.safe j) ∷ [])
    ∷ broken LinkeditRange (range j) ∷ []))

-- a header that was moved is read back as the image whose places and spots it says
reread_in : (form : Form) (image : Img) (moves : List Moved) (spots : LinkSpots) (b : List ℕ) (h : ℕ) → IsSound image → CanMove image moves spots → FitFields spots.linkedit.file spots.groups → number_at 4 image.header 24 < 2 ^ 32
    → take (length (formed_bytes form image moves spots)) (drop h b) ≡ formed_bytes form image moves spots → IsPlaced image moves spots b h → IsLinked spots spots.rebase → image_at form b h ≡ Some (image_there form image moves spots b)
reread_in form image moves spots b h sound can fields narrow stands placed rebased =
    let is : IsReady form image moves spots b h = ready form image moves spots b h sound can fields narrow placed rebased in
    let here : header_in b h ≡ formed_header form spots moves image.header = header_here form image moves spots b h is.spelt stands in
    ap (λ (o : Option Site). image_unless o (image_of b h)) (none_broken_here form image moves spots b h is here)
    ∙ ap Some (ap (image_from b) here ∙ spelled_image form image moves spots b (length b) sound is.spelt is.seats)

-- ---- in the cache

-- what is asked of the spots is asked of those that the header names
pub unrebased_can : (image : Img) (moves : List Moved) (spots : LinkSpots) → CanMove image moves spots → CanMove image moves (unrebased spots)
unrebased_can image moves spots can =
    let low = can.spans in
    record {
      one_each = can.one_each;
      low = can.low;
      spans = record {
        rebase = omega arith;
        bind = low.bind;
        lazy = low.lazy;
        exports = low.exports;
        function_starts = low.function_starts;
        data_in_code = low.data_in_code;
        symbols = low.symbols;
        indirect = low.indirect;
        strings = low.strings;
      };
      whole_symbols = can.whole_symbols;
      whole_indirect = can.whole_indirect;
    }

place_unrebased : (spots : LinkSpots) (m : Moved) (name : List ℕ) (size : ℕ) → place_for (unrebased spots) m name size ≡ place_for spots m name size
unfolding place_for
place_unrebased spots m name size = refl

places_unrebased : (spots : LinkSpots) (moves : List Moved) (ss : List Seg) → places_of (unrebased spots) moves ss ≡ places_of spots moves ss
places_unrebased spots [] ss = refl
places_unrebased spots (m ∷ ms) [] = refl
places_unrebased spots (m ∷ ms) (s ∷ ss) =
    ap₂ (λ (p : SegmentPlace) (ps : List SegmentPlace). p ∷ ps) (place_unrebased spots m s.name s.vmsize) (places_unrebased spots ms ss)

unrebased_placed : (image : Img) (moves : List Moved) (spots : LinkSpots) (b : List ℕ) (h : ℕ) → IsPlaced image moves spots b h → IsPlaced image moves (unrebased spots) b h
unrebased_placed image moves spots b h placed =
    let same : places_of spots moves image.segments ≡ places_of (unrebased spots) moves image.segments = sym (places_unrebased spots moves image.segments) in
    let linked = placed.linked in
    record {
      first = placed.first;
      seated = subst (λ (ps : List SegmentPlace). All (IsSeated (length b)) ps) same placed.seated;
      apart = subst (λ (ps : List SegmentPlace). (i j : ℕ) (p : SegmentPlace) → i < j → j < length ps → AreApart (get_or ps i p) (get_or ps j p)) same placed.apart;
      linked = record {
        bind = linked.bind;
        lazy = linked.lazy;
        exports = linked.exports;
        function_starts = linked.function_starts;
        data_in_code = linked.data_in_code;
        symbols = linked.symbols;
        indirect = linked.indirect;
        strings = linked.strings;
      };
    }

none_rebased : (spots : LinkSpots) → IsLinked (unrebased spots) (unrebased spots).rebase
none_rebased spots some = absurd (omega (arith, some))

pub cached_there : (image : Img) (moves : List Moved) (spots : LinkSpots) (b : List ℕ) → image_there Cached image moves (unrebased spots) b ≡ moved_image image moves spots b
unfolding moved_image
cached_there image moves spots b =
    let cs : List (List ℕ) = commands_of image.header in
    ap₂ (λ (ps : List SegmentPlace) (header : List ℕ).
    placed_image image ps (spotted_streams (unrebased spots) b cs) (spotted_groups spots (command_where is_dysymtab cs)) header b) (places_unrebased spots moves image.segments) (kept_is spots moves image.header)

-- a header that was moved is read back as the moved image
pub reread : (image : Img) (moves : List Moved) (spots : LinkSpots) (b : List ℕ) (h : ℕ) → IsSound image → CanMove image moves spots → FitFields spots.linkedit.file spots.groups → number_at 4 image.header 24 < 2 ^ 32
    → take (length (cached_bytes image moves spots)) (drop h b) ≡ cached_bytes image moves spots → IsPlaced image moves spots b h → image_at Cached b h ≡ Some (moved_image image moves spots b)
reread image moves spots b h sound can fields narrow stands placed =
    reread_in Cached image moves (unrebased spots) b h sound (unrebased_can image moves spots can) fields narrow
    (subst (λ (l : List ℕ). take (length l) (drop h b) ≡ l) (sym (cached_is image moves spots)) stands) (unrebased_placed image moves spots b h placed) (none_rebased spots)
    ∙ ap Some (cached_there image moves spots b)

-- the moved image is sound
pub moved_sound : (image : Img) (moves : List Moved) (spots : LinkSpots) (b : List ℕ) (h : ℕ) → IsSound image → CanMove image moves spots → FitFields spots.linkedit.file spots.groups → number_at 4 image.header 24 < 2 ^ 32
    → take (length (cached_bytes image moves spots)) (drop h b) ≡ cached_bytes image moves spots → IsPlaced image moves spots b h → IsSound (moved_image image moves spots b)
moved_sound image moves spots b h sound can fields narrow stands placed =
    let named : LinkSpots = unrebased spots in
    let is : IsReady Cached image moves (unrebased spots) b h = ready Cached image moves (unrebased spots) b h sound (unrebased_can image moves spots can) fields narrow (unrebased_placed image moves spots b h placed) (none_rebased spots) in
    let here : header_in b h ≡ formed_header Cached (unrebased spots) moves image.header =
    header_here Cached image moves (unrebased spots) b h is.spelt (subst (λ (l : List ℕ). take (length l) (drop h b) ≡ l) (sym (cached_is image moves spots)) stands) in
    subst IsSound (ap (image_from b) here ∙ (spelled_image Cached image moves (unrebased spots) b (length b) sound is.spelt is.seats ∙ cached_there image moves spots b))
    (image_sound Cached b h (λ (e : Cached ≡ Standalone). cc) (none_broken_here Cached image moves (unrebased spots) b h is here))

-- the same of an image seen from inside
pub reread_from : (image inside : Img) (moves left : List Moved) (spots : LinkSpots) (out : List ℕ) → inside ≡ image → left ≡ moves
    → out ≡ cached_bytes image moves spots → IsSound inside → CanMove image moves spots → FitFields spots.linkedit.file spots.groups → number_at 4 inside.header 24 < 2 ^ 32 → Rereads image moves spots out
reread_from image inside moves left spots out image_is moves_is bytes sound can fields narrow =
    λ b h stands placed.
    reread image moves spots b h (subst IsSound image_is sound) can fields (subst (λ (i : Img). number_at 4 i.header 24 < 2 ^ 32) image_is narrow) (subst (λ (l : List ℕ). take (length l) (drop h b) ≡ l) bytes stands) placed

-- ---- in a file of its own

pub standalone_there : (image : Img) (moves : List Moved) (spots : LinkSpots) (b : List ℕ) → image_there Standalone image moves spots b ≡ standalone_image image moves spots b
unfolding standalone_image
standalone_there image moves spots b = refl

pub reread_alone : (image inside : Img) (moves : List Moved) (spots : LinkSpots) (out : List ℕ) → inside ≡ image
    → out ≡ formed_bytes Standalone image moves spots → IsSound inside → CanMove image moves spots → FitFields spots.linkedit.file spots.groups → number_at 4 inside.header 24 < 2 ^ 32 → RereadsAlone image moves spots out
reread_alone image inside moves spots out image_is bytes sound can fields narrow =
    λ b h stands placed rebased.
    reread_in Standalone image moves spots b h (subst IsSound image_is sound) can fields (subst (λ (i : Img). number_at 4 i.header 24 < 2 ^ 32) image_is narrow)
    (subst (λ (l : List ℕ). take (length l) (drop h b) ≡ l) bytes stands) placed rebased
    ∙ ap Some (standalone_there image moves spots b)
