-- An image is what its commands spell, and it is sound where it breaks no rule.
use Rattle.std.proofs.Common.{◌≡◌, ◌+◌, ℕ, List, [], ◌∷◌, length, map, refl, ap, ◌∙◌, Option, Some, None, Bor}
use Rattle.std.specs.Prelude.{is_some, option_copied}
use Rattle.std.specs.List.{filter_map}
use Rattle.macho_image.specs.Records.{Img, Load, SegmentLoad}
use Rattle.macho_image.specs.Macho.{commands_of, loads_from, loads_of, pieces_of, segment_loads, segment_of, sections_from, dependency_of, command_where, is_install_name, install_name_of, is_dysymtab, groups_of, is_uuid, uuid_of, is_dyld_info, streams_of, image_from}

pub pieces_of-loads_from : (at : ℕ) (cs : List (List ℕ)) → pieces_of (loads_from at cs) ≡ cs
pieces_of-loads_from at [] = refl
pieces_of-loads_from at (c ∷ cs) = ap (λ (l : List (List ℕ)). c ∷ l) (pieces_of-loads_from (at + length c) cs)

pub record IsMade (b whole : List ℕ) (ls : List Load) (ss : List SegmentLoad) (i : Img) : Type 0 where
  pub install_name : i.install_name ≡ install_name_of (command_where is_install_name (pieces_of ls))
  pub segments : i.segments ≡ map (segment_of b) ss
  pub sections : i.sections ≡ sections_from 0 ss
  pub dependencies : i.dependencies ≡ filter_map dependency_of (pieces_of ls)
  pub streams : i.streams ≡ streams_of b (pieces_of ls)
  pub groups : i.groups ≡ groups_of (command_where is_dysymtab (pieces_of ls))
  pub uuid : i.uuid ≡ uuid_of (command_where is_uuid (pieces_of ls))
  pub has_dyld_info : i.has_dyld_info ≡ is_some (command_where is_dyld_info (pieces_of ls))
  pub header : i.header ≡ whole

pub made_image : (b header : List ℕ) (ls : List Load) (ss : List SegmentLoad) (i : Img) → ls ≡ loads_of header → ss ≡ segment_loads ls → IsMade b header ls ss i → i ≡ image_from b header
unfolding image_from
made_image b header ls ss i loads segments made =
    let pieces : pieces_of ls ≡ commands_of header = ap pieces_of loads ∙ pieces_of-loads_from 32 (commands_of header) in
    let all : ss ≡ segment_loads (loads_of header) = segments ∙ ap segment_loads loads in
    let name = made.install_name ∙ ap (λ (cs : List (List ℕ)). install_name_of (command_where is_install_name cs)) pieces in
    let segs = made.segments ∙ ap (λ (l : List SegmentLoad). map (segment_of b) l) all in
    let sects = made.sections ∙ ap (λ (l : List SegmentLoad). sections_from 0 l) all in
    let deps = made.dependencies ∙ ap (λ (cs : List (List ℕ)). filter_map dependency_of cs) pieces in
    let parts = made.streams ∙ ap (λ (cs : List (List ℕ)). streams_of b cs) pieces in
    let groups = made.groups ∙ ap (λ (cs : List (List ℕ)). groups_of (command_where is_dysymtab cs)) pieces in
    let uuid = made.uuid ∙ ap (λ (cs : List (List ℕ)). uuid_of (command_where is_uuid cs)) pieces in
    let info = made.has_dyld_info ∙ ap (λ (cs : List (List ℕ)). is_some (command_where is_dyld_info cs)) pieces in
    λ j. record { install_name = name j; segments = segs j; sections = sects j; dependencies = deps j; streams = parts j; groups = groups j; uuid = uuid j; has_dyld_info = info j; header = made.header j }

pub is_some-copied : {X : Type 0} (o : Option (Bor X)) → is_some o ≡ is_some (option_copied o)
is_some-copied None = refl
is_some-copied (Some x) = refl
