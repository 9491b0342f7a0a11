-- What bytes spell that have a header that was moved.
use Rattle.std.proofs.Common.{◌≡◌, ◌≤◌, ◌<◌, ℕ, ◌+◌, ◌-◌, ◌^◌, not, nat_lt, None, List, [], ◌++◌, take, drop, map, length, get_or, sym, ap, ap₂, ◌∙◌, arith, append_assoc}
use Rattle.std.specs.Prelude.{filter, replicate, is_some}
use Rattle.std.specs.List.{AllByRecursion, filter_map}
use Rattle.std.proofs.lemmas.List.{take-append-drop, take_at}
use Rattle.dsc_base.specs.Numbers.{number_at}
use Rattle.dsc_base.proofs.NumberLaws.{number_at-append_left}
use Rattle.macho_image.specs.declared.form.Form.{Form}
use Rattle.macho_image.specs.declared.place.Moved.{Moved}
use Rattle.macho_image.specs.Records.{Img, SegmentLoad}
use Rattle.macho_image.specs.Macho.{header_size, header_in, commands_of, loads_from, loads_of, segment_loads, segment_of, sections_from, dependency_of, command_where, is_install_name, install_name_of, is_dysymtab, groups_of, is_uuid, uuid_of, is_dyld_info, streams_of, image_from}
use Rattle.macho_image.specs.Rules.{first_segment, first_crowded, first_crossing, misplaced, is_well_shaped, sections_stand, sections_start}
use Rattle.dsc_base.specs.Refusals.{least}
use Rattle.macho_image.specs.Breaks.{form_of, IsSound}
use Rattle.macho_image.proofs.CommandLaws.{shape_joins}
use Rattle.macho_image.proofs.Unbroken.{least_none_both, when_false}
use Rattle.macho_edit.specs.declared.segment.SegmentPlace.{SegmentPlace}
use Rattle.macho_edit.specs.declared.spots.LinkSpots.{LinkSpots}
use Rattle.macho_edit.specs.Conditions.{CanMove, FitFields}
use Rattle.macho_edit.specs.Cached.{is_kept, flags_in, kept_commands, formed_header, formed_bytes}
use Rattle.macho_edit.specs.Placed.{places_of, IsSeated}
use Rattle.macho_edit.specs.MovedImage.{seated_all, followed, spotted_streams, spotted_groups, placed_image}
use Rattle.macho_edit.proofs.CopyLaws.{command_shape}
use Rattle.macho_edit.proofs.MovedSegments.{FitsPlace}
use Rattle.macho_edit.proofs.MovedCommands.{AreMoved, AreFollowed, all_followed, load_places, Follow}
use Rattle.macho_edit.proofs.KeptHeader.{IsKeptHeader, kept_header_is, all_moved_whole}
use Rattle.macho_edit.proofs.KeptTables.{AreSpots}
use Rattle.macho_edit.proofs.KeptStreams.{streams_are, groups_are, has_info, dependencies_are, same_uuid, same_name}
use Rattle.macho_edit.proofs.KeptSegments.{AreSeated}
use Rattle.macho_edit.proofs.KeptImage.{segments_seated, same_starts, sections_followed, addresses_of}
use Rattle.macho_edit.proofs.Grounds.{LowLoads, places_from, commands_good, all_room, all_bare, low_loads, are_seated, form_flags_fit}
use Rattle.std.proofs.lemmas.Bool.{ltb-false}
use Rattle.macho_image.proofs.SoundSegments.{loads_length}
use Rattle.macho_image.proofs.HeaderRules.{all_fail, KeepsRules, sound_rules, IsShaped, all_shaped}
use Rattle.macho_image.proofs.WalkLaws.{sound_front}

-- what is known of a header that was moved, wherever it stands
pub record IsSpelt (form : Form) (image : Img) (moves : List Moved) (spots : LinkSpots) : Type 0 where
  pub are : AreSpots spots
  pub narrow : number_at 4 image.header 24 < 2 ^ 32
  pub rules : KeepsRules (form_of image.header) image.header (loads_of image.header) (segment_loads (loads_of image.header))
  pub places : places_of spots moves image.segments ≡ load_places spots moves (segment_loads (loads_of image.header))
  pub commands : AreMoved spots (filter is_kept (commands_of image.header)) (kept_commands spots moves image.header)
  pub follow : Follow (load_places spots moves (segment_loads (loads_of image.header))) (segment_loads (loads_of image.header)) (segment_loads (loads_from 32 (kept_commands spots moves image.header)))
  pub kept : IsKeptHeader form spots moves image.header
  pub whole : length image.header ≡ header_size image.header

-- what is known of the segments of a sound image
pub record AreSoundLoads (image : Img) (moves : List Moved) : Type 0 where
  pub few : length moves ≡ length (segment_loads (loads_of image.header))
  pub two : 2 ≤ length (segment_loads (loads_of image.header))
  pub well_placed : misplaced (header_size image.header) (segment_loads (loads_of image.header)) ≡ None
  pub shaped : AllByRecursion IsShaped (segment_loads (loads_of image.header))
  pub low : LowLoads moves (segment_loads (loads_of image.header))

pub sound_loads : (image : Img) (moves : List Moved) (spots : LinkSpots) → IsSound image → CanMove image moves spots → AreSoundLoads image moves
sound_loads image moves spots sound can =
    let header : List ℕ = image.header in
    let ss : List SegmentLoad = segment_loads (loads_of header) in
    let rules = sound_rules image sound in
    let many = when_false (nat_lt (length ss) 2) 0 (least (first_segment (λ s. not (is_well_shaped s)) ss) (least (first_crossing [] ss) (misplaced (header_size header) ss))) rules.segments in
    let parts = least_none_both (first_segment (λ s. not (is_well_shaped s)) ss) (least (first_crossing [] ss) (misplaced (header_size header) ss)) many.1 in
    let rest = least_none_both (first_crossing [] ss) (misplaced (header_size header) ss) parts.1 in
    record {
      few = can.one_each ∙ loads_length image.segments ss sound.segments;
      two = ltb-false (length ss) 2 many.0;
      well_placed = rest.1;
      shaped = all_shaped ss (all_fail (λ s. not (is_well_shaped s)) ss parts.0);
      low = low_loads moves image.segments ss sound.segments can.low;
    }

pub spelt : (form : Form) (image : Img) (moves : List Moved) (spots : LinkSpots) → IsSound image → CanMove image moves spots → FitFields spots.linkedit.file spots.groups → number_at 4 image.header 24 < 2 ^ 32
    → AreSoundLoads image moves → length image.header < 2 ^ 32 → AllByRecursion FitsPlace (load_places spots moves (segment_loads (loads_of image.header))) → IsSpelt form image moves spots
spelt form image moves spots sound can fields narrow loads short fit =
    let header : List ℕ = image.header in
    let ss : List SegmentLoad = segment_loads (loads_of header) in
    let rules = sound_rules image sound in
    let front : 32 ≤ length header = sound_front image sound in
    let whole = shape_joins (number_at 4 header 16) 32 (drop 32 header) (command_shape header front rules.shape) in
    let followed : AreFollowed spots moves ss 32 (filter is_kept (commands_of header)) =
    all_followed spots moves 32 32 (commands_of header) loads.few (commands_good 32 (commands_of header) whole.whole loads.shaped) fit in
    let flags : flags_in form (number_at 4 header 24) < 2 ^ 32 = form_flags_fit form (number_at 4 header 24) narrow in
    record {
      are = record { low = can.spans; six = fields.six; narrow = fields.narrow; whole_symbols = can.whole_symbols; whole_indirect = can.whole_indirect };
      narrow = narrow;
      rules = rules;
      places = places_from spots moves image.segments ss sound.segments;
      commands = followed.commands;
      follow = followed.segments;
      kept = kept_header_is form spots moves header fields.six front rules.shape short flags (all_moved_whole spots (filter is_kept (commands_of header)) (kept_commands spots moves header) fields.six followed.commands);
      whole = sound.whole;
    }

-- the segments of an image seated at their places
pub seats_are : (n : ℕ) (image : Img) (moves : List Moved) (spots : LinkSpots) → AreSoundLoads image moves → AllByRecursion (IsSeated n) (load_places spots moves (segment_loads (loads_of image.header)))
    → AreSeated n (load_places spots moves (segment_loads (loads_of image.header))) (segment_loads (loads_of image.header))
seats_are n image moves spots loads seated =
    let ss : List SegmentLoad = segment_loads (loads_of image.header) in
    are_seated n spots moves ss seated loads.shaped (all_room (loads_of image.header)) (all_bare (header_size image.header) ss loads.well_placed) loads.low

-- the header is found where it stands
pub header_here : (form : Form) (image : Img) (moves : List Moved) (spots : LinkSpots) (b : List ℕ) (h : ℕ) → IsSpelt form image moves spots
    → take (length (formed_bytes form image moves spots)) (drop h b) ≡ formed_bytes form image moves spots → header_in b h ≡ formed_header form spots moves image.header
unfolding header_in formed_bytes
header_here form image moves spots b h is stands =
    let k : List ℕ = formed_header form spots moves image.header in
    let zeros : List ℕ = replicate (length image.header - length k) 0 in
    let d : List ℕ = drop h b in
    let rest : List ℕ = zeros ++ drop (length (k ++ zeros)) d in
    let split : d ≡ k ++ rest =
    sym (take-append-drop (length (k ++ zeros)) d) ∙ (ap (λ (l : List ℕ). l ++ drop (length (k ++ zeros)) d) stands ∙ append_assoc k zeros (drop (length (k ++ zeros)) d)) in
    let long : 32 ≤ length k = is.kept.long in
    let size : header_size (k ++ rest) ≡ length k = ap (λ (n : ℕ). 32 + n) (number_at-append_left 4 k rest 20 (omega arith)) ∙ is.kept.exact in
    ap (λ (l : List ℕ). take (header_size l) l) split ∙ take_at k rest (header_size (k ++ rest)) (sym size)

-- the image where its places and spots say
abbrev pub image_there : Form → Img → List Moved → LinkSpots → List ℕ → Img
image_there form image moves spots b =
    let cs = commands_of image.header in
    placed_image image (places_of spots moves image.segments) (spotted_streams spots b cs) (spotted_groups spots (command_where is_dysymtab cs))
    (formed_header form spots moves image.header) b

-- the image that the bytes spell with that header
pub spelled_image : (form : Form) (image : Img) (moves : List Moved) (spots : LinkSpots) (b : List ℕ) (n : ℕ) → IsSound image → IsSpelt form image moves spots → AreSeated n (load_places spots moves (segment_loads (loads_of image.header))) (segment_loads (loads_of image.header)) → image_from b (formed_header form spots moves image.header) ≡ image_there form image moves spots b
unfolding image_from
spelled_image form image moves spots b n sound is seats =
    let header : List ℕ = image.header in
    let k : List ℕ = formed_header form spots moves header in
    let cs : List (List ℕ) = commands_of header in
    let ds : List (List ℕ) = kept_commands spots moves header in
    let ss : List SegmentLoad = segment_loads (loads_of header) in
    let ps : List SegmentPlace = load_places spots moves ss in
    let ts : List SegmentLoad = segment_loads (loads_from 32 ds) in
    let places : List SegmentPlace = places_of spots moves image.segments in
    let loads : segment_loads (loads_of k) ≡ ts = ap segment_loads is.kept.loads in
    let commands : commands_of k ≡ ds = is.kept.commands in
    let stand = all_fail (λ s. not (sections_stand s (sections_start (header_size header) s) 0 s.sections)) ss (least_none_both _ (first_crowded 0 ss) is.rules.sections).0 in
    let name : install_name_of (command_where is_install_name (commands_of k)) ≡ image.install_name =
    ap (λ (xs : List (List ℕ)). install_name_of (command_where is_install_name xs)) commands ∙ (ap install_name_of (same_name spots cs ds is.are.six is.commands) ∙ sym sound.install_name) in
    let segments : map (segment_of b) (segment_loads (loads_of k)) ≡ seated_all b places image.segments =
    ap (map (segment_of b)) loads ∙ (segments_seated b ps ss ts image.segments is.follow sound.segments ∙ ap (λ (qs : List SegmentPlace). seated_all b qs image.segments) (sym is.places)) in
    let sections : sections_from 0 (segment_loads (loads_of k)) ≡ map (followed image.segments places) image.sections =
    ap (sections_from 0) loads
    ∙ (sections_followed image.segments places n (header_size header) 0 ps ss ts is.follow seats stand
    (λ j. ap₂ (λ (ns : List ℕ) (m : ℕ). get_or ns m 0) (same_starts image.segments ss sound.segments) (none j))
    (λ j. ap₂ (λ (qs : List SegmentPlace) (m : ℕ). get_or (addresses_of qs) m 0) is.places (none j))
    ∙ ap (map (followed image.segments places)) (sym sound.sections)) in
    let dependencies : filter_map dependency_of (commands_of k) ≡ image.dependencies =
    ap (filter_map dependency_of) commands ∙ (dependencies_are spots cs ds is.are.six is.commands ∙ sym sound.dependencies) in
    let streams : streams_of b (commands_of k) ≡ spotted_streams spots b cs = ap (streams_of b) commands ∙ streams_are spots b cs ds is.are is.commands in
    let groups : groups_of (command_where is_dysymtab (commands_of k)) ≡ spotted_groups spots (command_where is_dysymtab cs) =
    ap (λ (xs : List (List ℕ)). groups_of (command_where is_dysymtab xs)) commands ∙ groups_are spots cs ds is.are is.commands in
    let uuid : uuid_of (command_where is_uuid (commands_of k)) ≡ image.uuid =
    ap (λ (xs : List (List ℕ)). uuid_of (command_where is_uuid xs)) commands ∙ (ap uuid_of (same_uuid spots cs ds is.are.six is.commands) ∙ sym sound.uuid) in
    let info : is_some (command_where is_dyld_info (commands_of k)) ≡ image.has_dyld_info =
    ap (λ (xs : List (List ℕ)). is_some (command_where is_dyld_info xs)) commands ∙ (has_info spots cs ds is.are is.commands ∙ sym sound.has_dyld_info) in
    λ i. record {
      install_name = name i;
      segments = segments i;
      sections = sections i;
      dependencies = dependencies i;
      streams = streams i;
      groups = groups i;
      uuid = uuid i;
      has_dyld_info = info i;
      header = k;
    }
  where
    none : (j : ℕ) → 0 + j ≡ j
    none j = omega arith
