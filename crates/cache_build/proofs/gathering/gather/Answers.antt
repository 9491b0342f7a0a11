use Rattle.std.proofs.Common.{◌≡◌, ℕ, List, Vec, Global, map, length, ap, ap₂, sym, subst, ◌∙◌, rules, arith}
use Rattle.std.specs.List.{flat_map}
use Rattle.dsc_base.specs.declared.fault.Span.{Span}
use Rattle.macho_edit.specs.declared.spots.LinkSpots.{LinkSpots}
use Rattle.nlist_table.specs.Symbols.{Tabs}
use Rattle.slide_chain.specs.Info.{info_bytes}
use Rattle.slide_chain.specs.Making.{info_of, IsMade}
use Rattle.prebind.specs.declared.resolved.PlacedWord.{PlacedWord}
use Rattle.prebind.specs.Steps.{set_of}
use Rattle.ref_rewrite.specs.Plans.{Plan}
use Rattle.ref_rewrite.specs.Planned.{with_headers}
use Rattle.linkedit_merge.specs.Shares.{Share, shares_of}
use Rattle.linkedit_merge.specs.Linkedit.{linkedit_start, spots_of}
use Rattle.cache_build.specs.Breaks.{behind_layout}
use Rattle.cache_build.specs.Cache.{headers_of}
use Rattle.cache_build.specs.Filling.{segments_of, filled, CanFill, CanMoveEach}
use Rattle.cache_build.proofs.GatherFills.{ArePlans, can_fill, written_back}
use Rattle.cache_build.proofs.GatherLaws.{words_rise, words_below, words_chained, data_pages, data_room, segments_low, refused_by, first_refused, second_refused, third_refused, none_refused, merge_same}
use Rattle.cache_build.proofs.GatherRooms.{is_framed, many_plans, many_spots, many_moves, linkedit_low, span_low, data_within, have_rooms, can_tell}
use Rattle.cache_build.proofs.GatheredSets.{AreTaken, gathered}
use Rattle.cache_build.proofs.WholeCaches.{IsGathered, cache_is}
use Rattle.cache_build.proofs.gathering.gather.Goals as goal

pub returns-in_err-plans-clause-cause : goal.returns-in_err-plans-clause-cause
returns-in_err-plans-clause-cause c =
    refused_by (behind_layout c.args.bits c.args.layout.now (set_of c.args.set.now)) c.from_residual.result c.in_err-plans.field-0.0 c.from_residual.ensures.1
    (first_refused c.args.bits c.args.layout.now (set_of c.args.set.now) c.in_err-plans.field-0.0 c.in_err-plans.ensures.cause)

pub slide_info_of-requires-clause-pages : goal.slide_info_of-requires-clause-pages
slide_info_of-requires-clause-pages c = data_pages c.args.layout.now c.args.set.now.images.now c.writable.result.len c.requires.prepared.layout (ap (λ (s : Span). s.len) c.writable.ensures)

pub slide_info_of-requires-clause-room : goal.slide_info_of-requires-clause-room
slide_info_of-requires-clause-room c = data_room c.args.layout.now c.args.set.now.images.now c.writable.result.len c.requires.prepared.layout (ap (λ (s : Span). s.len) c.writable.ensures)

pub slide_info_of-requires-clause-words : goal.slide_info_of-requires-clause-words
slide_info_of-requires-clause-words c =
    words_rise c.in_ok-plans.plans.items c.deref.result.now c.args.layout.now.writable.len c.in_ok-words.words.items c.deref-2.result.now c.in_ok-plans.ensures.words c.deref.ensures.value c.in_ok-words.ensures c.deref-2.ensures.value

pub slide_info_of-requires-clause-inside : goal.slide_info_of-requires-clause-inside
slide_info_of-requires-clause-inside c =
    words_below c.in_ok-plans.plans.items c.deref.result.now c.args.layout.now.writable.len c.writable.result.len c.in_ok-words.words.items c.deref-2.result.now c.in_ok-plans.ensures.words c.deref.ensures.value c.in_ok-words.ensures c.deref-2.ensures.value
    (ap (λ (s : Span). s.len) c.writable.ensures)

pub of_sizes-frame-requires-clause-low : goal.of_sizes-frame-requires-clause-low
of_sizes-frame-requires-clause-low c = segments_low c.args.layout.now c.args.set.now.images.now c.requires.prepared.layout

pub returns-in_err-info-clause-cause : goal.returns-in_err-info-clause-cause
returns-in_err-info-clause-cause c =
    let l = c.args.layout.now in
    let set = set_of c.args.set.now in
    let placed = map (λ (v : Vec PlacedWord Global). v.items) c.args.placed.now in
    let own = c.deref-2.ensures.value ∙ words_chained l set placed c.in_ok-plans.plans.items c.deref.result.now c.in_ok-words.words.items c.requires.prepared.placed_all c.in_ok-plans.ensures.plans c.deref.ensures.value c.in_ok-words.ensures in
    refused_by (behind_layout c.args.bits l set) c.from_residual-in_err-info.result c.in_err-info.field-0.0 c.from_residual-in_err-info.ensures.1
    (second_refused c.args.bits l set c.writable.result.len c.deref-2.result.now c.in_err-info.field-0.0 c.in_ok-plans.ensures.cause (ap (λ (s : Span). s.len) c.writable.ensures) own c.in_err-info.ensures.cause)

pub returns-in_err-linkedit-clause-cause : goal.returns-in_err-linkedit-clause-cause
returns-in_err-linkedit-clause-cause c =
    let bits = c.args.bits in
    let l = c.args.layout.now in
    let set = set_of c.args.set.now in
    let placed = map (λ (v : Vec PlacedWord Global). v.items) c.args.placed.now in
    let size : c.writable.result.len ≡ c.args.layout.now.writable.len = ap (λ (s : Span). s.len) c.writable.ensures in
    let own = c.deref-2.ensures.value ∙ words_chained l set placed c.in_ok-plans.plans.items c.deref.result.now c.in_ok-words.words.items c.requires.prepared.placed_all c.in_ok-plans.ensures.plans c.deref.ensures.value c.in_ok-words.ensures in
    let long : c.len-slide_size.result ≡ length c.in_ok-info.slide_info.items = search rules in
    let told = long ∙ ap (λ (b : List ℕ). length b) (c.in_ok-info.ensures.bytes ∙ ap₂ (λ (n : ℕ) (ws : List ℕ). info_bytes (info_of bits n ws)) size own) in
    refused_by (behind_layout bits l set) c.from_residual-in_err-linkedit.result c.in_err-linkedit.field-0.0 c.from_residual-in_err-linkedit.ensures.1
    (third_refused bits l set c.args.tables.now c.writable.result.len c.len-slide_size.result c.deref-2.result.now c.in_err-linkedit.field-0.0 c.in_ok-plans.ensures.cause size own c.in_ok-info.ensures.cause
    c.requires.prepared.tables_are told c.in_err-linkedit.ensures.cause)

pub of_sizes-frame-requires-clause-linkedit : goal.of_sizes-frame-requires-clause-linkedit
of_sizes-frame-requires-clause-linkedit c =
    let l = c.args.layout.now in
    let shares = shares_of c.args.set.now.images.now c.args.tables.now l.moves in
    let long : c.len.result ≡ length c.in_ok-linkedit.linkedit.items = search rules in
    omega (arith, long, linkedit_low l c.len-slide_size.result shares c.in_ok-linkedit.linkedit.items c.in_ok-linkedit.ensures.cause c.in_ok-linkedit.ensures.bytes)

pub put_headers-requires-clause-one_each : goal.put_headers-requires-clause-one_each
put_headers-requires-clause-one_each c =
    let l = c.args.layout.now in
    let set = set_of c.args.set.now in
    let placed = map (λ (v : Vec PlacedWord Global). v.items) c.args.placed.now in
    ap (λ (ps : List Plan). length ps) (c.deref_mut.ensures.value ∙ c.in_ok-plans.ensures.plans) ∙ many_plans l set placed

pub put_headers-requires-clause-moves : goal.put_headers-requires-clause-moves
put_headers-requires-clause-moves c = many_moves c.args.layout.now c.args.set.now.images.now c.requires.prepared.layout

pub put_headers-requires-clause-places : goal.put_headers-requires-clause-places
put_headers-requires-clause-places c =
    let l = c.args.layout.now in
    ap (λ (ss : List LinkSpots). length ss) (c.deref-3.ensures.value ∙ c.in_ok-linkedit.ensures.spots)
    ∙ many_spots (linkedit_start l c.len-slide_size.result) c.args.set.now.images.now c.args.tables.now l

pub put_headers-requires-clause-can : goal.put_headers-requires-clause-can
put_headers-requires-clause-can c =
    let bits = c.args.bits in
    let l = c.args.layout.now in
    let set = set_of c.args.set.now in
    let images = c.args.set.now.images.now in
    let placed = map (λ (v : Vec PlacedWord Global). v.items) c.args.placed.now in
    let size : c.writable.result.len ≡ c.args.layout.now.writable.len = ap (λ (s : Span). s.len) c.writable.ensures in
    let own = c.deref-2.ensures.value ∙ words_chained l set placed c.in_ok-plans.plans.items c.deref.result.now c.in_ok-words.words.items c.requires.prepared.placed_all c.in_ok-plans.ensures.plans c.deref.ensures.value c.in_ok-words.ensures in
    let long : c.len-slide_size.result ≡ length c.in_ok-info.slide_info.items = search rules in
    let told = long ∙ ap (λ (b : List ℕ). length b) (c.in_ok-info.ensures.bytes ∙ ap₂ (λ (n : ℕ) (ws : List ℕ). info_bytes (info_of bits n ws)) size own) in
    let shares = ap (λ (ts : List Tabs). shares_of images ts l.moves) c.requires.prepared.tables_are in
    let spots = c.deref-3.ensures.value ∙ (c.in_ok-linkedit.ensures.spots ∙ ap₂ (λ (n : ℕ) (ss : List Share). spots_of (linkedit_start l n) ss) told shares) in
    let none = sym (merge_same bits l set c.args.tables.now c.len-slide_size.result c.requires.prepared.tables_are told) ∙ c.in_ok-linkedit.ensures.cause in
    subst (λ (ss : List LinkSpots). CanMoveEach l ss images) (sym spots) (c.requires.can.moves none)

pub cache_head-requires-clause-one_each : goal.cache_head-requires-clause-one_each
cache_head-requires-clause-one_each c = many_moves c.args.layout.now c.args.set.now.images.now c.requires.prepared.layout

pub cache_head-requires-clause-within : goal.cache_head-requires-clause-within
cache_head-requires-clause-within c =
    let l = c.args.layout.now in
    let images = c.args.set.now.images.now in
    let slide = c.len-slide_size.result in
    let shares = shares_of images c.args.tables.now l.moves in
    let linkedit = c.in_ok-linkedit.linkedit.items in
    let long : c.len.result ≡ length c.in_ok-linkedit.linkedit.items = search rules in
    let framed = is_framed l images slide shares linkedit c.of_sizes-frame.result c.len.result c.requires.prepared.layout c.in_ok-linkedit.ensures.bytes c.in_ok-linkedit.ensures.cause long c.of_sizes-frame.ensures in
    data_within l images slide shares linkedit c.of_sizes-frame.result framed

pub cache_head-requires-clause-small : goal.cache_head-requires-clause-small
cache_head-requires-clause-small c =
    let l = c.args.layout.now in
    let images = c.args.set.now.images.now in
    let slide = c.len-slide_size.result in
    let shares = shares_of images c.args.tables.now l.moves in
    let linkedit = c.in_ok-linkedit.linkedit.items in
    let long : c.len.result ≡ length c.in_ok-linkedit.linkedit.items = search rules in
    let framed = is_framed l images slide shares linkedit c.of_sizes-frame.result c.len.result c.requires.prepared.layout c.in_ok-linkedit.ensures.bytes c.in_ok-linkedit.ensures.cause long c.of_sizes-frame.ensures in
    span_low l images slide shares linkedit c.of_sizes-frame.result framed

pub returns-clause-cause : goal.returns-clause-cause
returns-clause-cause c =
    let bits = c.args.bits in
    let l = c.args.layout.now in
    let set = set_of c.args.set.now in
    let placed = map (λ (v : Vec PlacedWord Global). v.items) c.args.placed.now in
    let size : c.writable.result.len ≡ c.args.layout.now.writable.len = ap (λ (s : Span). s.len) c.writable.ensures in
    let own = c.deref-2.ensures.value ∙ words_chained l set placed c.in_ok-plans.plans.items c.deref.result.now c.in_ok-words.words.items c.requires.prepared.placed_all c.in_ok-plans.ensures.plans c.deref.ensures.value c.in_ok-words.ensures in
    let long : c.len-slide_size.result ≡ length c.in_ok-info.slide_info.items = search rules in
    let told = long ∙ ap (λ (b : List ℕ). length b) (c.in_ok-info.ensures.bytes ∙ ap₂ (λ (n : ℕ) (ws : List ℕ). info_bytes (info_of bits n ws)) size own) in
    none_refused bits l set c.args.tables.now c.writable.result.len c.len-slide_size.result c.deref-2.result.now c.in_ok-plans.ensures.cause size own c.in_ok-info.ensures.cause c.requires.prepared.tables_are told c.in_ok-linkedit.ensures.cause

pub returns-clause-parts : goal.returns-clause-parts
returns-clause-parts c =
    let bits = c.args.bits in
    let l = c.args.layout.now in
    let set = set_of c.args.set.now in
    let images = c.args.set.now.images.now in
    let tables = c.args.tables.now in
    let placed = map (λ (v : Vec PlacedWord Global). v.items) c.args.placed.now in
    let plans = c.in_ok-plans.plans.items in
    let words = c.in_ok-words.words.items in
    let given = c.deref-2.result.now in
    let info = c.in_ok-info.info in
    let slide_info = c.in_ok-info.slide_info.items in
    let linkedit = c.in_ok-linkedit.linkedit.items in
    let spots = c.deref-3.result.now in
    let slide = c.len-slide_size.result in
    let frame = c.of_sizes-frame.result in
    let head = c.in_ok-head.head.items in
    let headers = headers_of l spots images in
    let size : c.writable.result.len ≡ c.args.layout.now.writable.len = ap (λ (s : Span). s.len) c.writable.ensures in
    let slide_long : c.len-slide_size.result ≡ length c.in_ok-info.slide_info.items = search rules in
    let long : c.len.result ≡ length c.in_ok-linkedit.linkedit.items = search rules in
    let shares = shares_of images tables l.moves in
    let framed = is_framed l images slide shares linkedit frame c.len.result c.requires.prepared.layout c.in_ok-linkedit.ensures.bytes c.in_ok-linkedit.ensures.cause long c.of_sizes-frame.ensures in
    let taken : AreTaken bits l set tables placed plans c.deref.result.now words given c.writable.result.len info slide_info c.len-slide_size.result linkedit spots frame head = record {
      placed_all = c.requires.prepared.placed_all;
      tables_are = c.requires.prepared.tables_are;
      planned = c.in_ok-plans.ensures.plans;
      plans_passed = c.deref.ensures.value;
      words_are = c.in_ok-words.ensures;
      words_given = c.deref-2.ensures.value;
      size_is = size;
      made = c.in_ok-info.ensures.info;
      told = c.in_ok-info.ensures.bytes;
      slide_is = slide_long;
      merged = c.in_ok-linkedit.ensures.bytes;
      spotted = c.deref-3.ensures.value ∙ c.in_ok-linkedit.ensures.spots;
      framed = framed.framed;
      head_is = c.in_ok-head.ensures;
      ranges = c.in_ok-plans.ensures.ranges headers c.in_ok-put_headers.ensures.sized;
    } in
    let is : IsGathered bits l set plans headers frame head info words slide_info linkedit = gathered bits l set tables placed plans c.deref.result.now words given c.writable.result.len info slide_info c.len-slide_size.result linkedit spots frame head taken in
    let back = written_back plans c.deref_mut.result.now c.put_headers.new.plans c.in_ok-plans.plans.len c.deref_mut.ensures.value c.deref_mut.ensures.len c.put_headers.auto.plans in
    let headed = back ∙ (c.in_ok-put_headers.ensures.headers ∙ ap (λ (ps : List Plan). with_headers headers ps) c.deref_mut.ensures.value) in
    let are : ArePlans l headers plans info words = record {
      fit = c.in_ok-plans.ensures.fit headers c.in_ok-put_headers.ensures.sized;
      follow = c.in_ok-plans.ensures.words;
      words_are = c.in_ok-words.ensures ∙ ap (λ (ps : List Plan). flat_map (λ (p : Plan). p.words) ps) c.deref.ensures.value;
      made = subst (λ (n : ℕ). IsMade info n words) size (subst (λ (ws : List ℕ). IsMade info c.writable.result.len ws) c.deref-2.ensures.value c.in_ok-info.ensures.made);
    } in
    record {
      rooms = have_rooms l images slide shares linkedit head slide_info frame framed (can_tell set tables placed l c.requires.prepared) c.in_ok-head.ensures slide_long;
      fills = subst (λ (ps : List Plan). CanFill l ps info words) (sym headed)
          (can_fill bits l set plans headers frame head info words slide_info linkedit is are c.requires.prepared.layout c.requires.can c.in_ok-plans.ensures.cause c.in_ok-put_headers.ensures.sized);
      is = ap (λ (ps : List Plan). filled l frame head (segments_of ps info words) slide_info linkedit) headed ∙ cache_is bits l set plans headers frame head info words slide_info linkedit is;
    }
