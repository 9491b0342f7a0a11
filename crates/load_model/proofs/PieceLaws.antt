-- Segments in memory that are handed out, and words that are set one by one.
use Rattle.std.proofs.Common.{Vec, Global, append-nil, append_assoc, ◌≡◌, ◌≤◌, ◌<◌, ℕ, zero, suc, ◌+◌, ◌-◌, Bool, true, false, not, if◌then◌else◌, Option, Some, List, [], ◌∷◌, ◌++◌, map, take, length, get_or, refl, sym, ap, ap₂, ◌∙◌, subst, arith}
use Rattle.std.specs.Prelude.{slice_get, slice_set, option_map}
use Rattle.std.proofs.lemmas.List.{take_more, map-append}
use Rattle.std.proofs.lemmas.Option.{same_Some, slice_get-map, slice_get-get_or, slice_get_within, get_or_from_slice_get}
use Rattle.dsc_base.specs.Numbers.{number_at, put_number}
use Rattle.macho_image.specs.Records.{Seg, Img}
use Rattle.macho_image.specs.Breaks.{IsSound}
use Rattle.macho_image.specs.Order.{addresses_of}
use Rattle.macho_image.specs.Segments.{start_of, segments_in, segments_at}
use Rattle.macho_image.specs.declared.place.Location.{Location}
use Rattle.macho_image.specs.Rules.{is_linkedit_segment}
use Rattle.macho_image.specs.Places.{wrap, IsWord}
use Rattle.bind_ops.specs.Records.{BoundWord}
use Rattle.split_info.specs.declared.reference.RefKind.TheVariants.{Pointer64}
use Rattle.prebind.specs.declared.resolved.PlacedWord.{PlacedWord}
use Rattle.prebind.specs.declared.resolved.WordTarget.{WordTarget}
use Rattle.prebind.specs.declared.resolved.WordTarget.TheVariants.{Place, Constant}
use Rattle.prebind.specs.Sets.{StreamLists, ImageSet}
use Rattle.prebind.specs.Words.{placed_bind, streams_in}
use Rattle.prebind.specs.WordRules.{bind_fault_from, symbol_break}
use Rattle.prebind.specs.Numbers.{Starts, counted_to, cut_to, number_to}
use Rattle.load_model.specs.Memory.{Cells, with_number, number_from}
use Rattle.load_model.specs.Mapped.{Piece}
use Rattle.load_model.specs.Loading.{loaded, loaded_starts, segment_cells, rebased, bound_to}
use Rattle.load_model.specs.Phases.{contents}
use Rattle.load_model.specs.Areas.{AreAreas, body_piece, pieces_from, IsLoadedSegment, AreLoadedSegments, bodies_of}
use Rattle.load_model.proofs.LoadingLaws.{AreApart}
use Rattle.load_model.proofs.WordCases.{IsImageOf}
use Rattle.load_model.proofs.LoadedWords.{loaded_is}
use Rattle.load_model.proofs.SoundApart.{sound_apart}
use Rattle.load_model.proofs.AreaLaws.{area_number, areas_put}

-- ---- one word more

pub rebased_none : (slide : ℕ) (cells : Cells) → rebased slide [] cells ≡ cells
unfolding rebased
rebased_none slide cells = refl

pub bound_none : (starts : Starts) (slide : ℕ) (cells : Cells) → bound_to starts slide [] cells ≡ cells
unfolding bound_to
bound_none starts slide cells = refl

pub rebased_more : (slide a : ℕ) (xs : List ℕ) (cells : Cells)
    → rebased slide (xs ++ a ∷ []) cells ≡ with_number 8 (wrap (a + slide)) (wrap (number_from 8 (rebased slide xs cells) (wrap (a + slide)) + slide)) (rebased slide xs cells)
unfolding rebased
rebased_more slide a [] cells = refl
rebased_more slide a (x ∷ xs) cells = rebased_more slide a xs (with_number 8 (wrap (x + slide)) (wrap (number_from 8 cells (wrap (x + slide)) + slide)) cells)

pub bound_more : (starts : Starts) (slide : ℕ) (w : PlacedWord) (ws : List PlacedWord) (cells : Cells)
    → bound_to starts slide (ws ++ w ∷ []) cells ≡ with_number 8 (wrap (w.at.address + slide)) (number_to starts (wrap (w.at.address + slide)) 0 Pointer64 w.target) (bound_to starts slide ws cells)
unfolding bound_to
bound_more starts slide w [] cells = refl
bound_more starts slide w (v ∷ vs) cells =
    bound_more starts slide w vs (with_number 8 (wrap (v.at.address + slide)) (number_to starts (wrap (v.at.address + slide)) 0 Pointer64 v.target) cells)

-- a pointer has one number wherever it stands
pub any_location : (starts : Starts) (location : ℕ) (target : WordTarget) → number_to starts location 0 Pointer64 target ≡ number_to starts 0 0 Pointer64 target
unfolding number_to counted_to cut_to
any_location starts location (Place k g distance) = refl
any_location starts location (Constant c) = refl

-- ---- what is answered

rest_areas : (cells : Cells) (slide : ℕ) (s : Seg) (ss : List Seg) (b : List ℕ) (bs : List (List ℕ)) → AreAreas cells slide (s ∷ ss) (b ∷ bs) → AreAreas cells slide ss bs
rest_areas cells slide s ss b bs are = record { count = omega (arith, are.count); each = λ g t got. are.each (suc g) t got }

pub pieces_loaded : (cells : Cells) (slide : ℕ) (ss : List Seg) (areas : List (List ℕ)) → AreAreas cells slide ss areas → AreLoadedSegments cells slide (bodies_of ss) (pieces_from slide ss areas)
pieces_loaded cells slide [] areas are = tt
pieces_loaded cells slide (s ∷ ss) [] are = absurd (omega (arith, are.count))
pieces_loaded cells slide (s ∷ ss) (b ∷ bs) are =
    let rest : AreLoadedSegments cells slide (bodies_of ss) (pieces_from slide ss bs) = pieces_loaded cells slide ss bs (rest_areas cells slide s ss b bs are) in
    let here : Piece = record { address = wrap (s.vmaddr + slide); bytes = b } in
    at (is_linkedit_segment s) rest (record { address = refl; area = are.each 0 s refl })
  where
    at : (c : Bool) → AreLoadedSegments cells slide (bodies_of ss) (pieces_from slide ss bs) → IsLoadedSegment cells slide s (record { address = wrap (s.vmaddr + slide); bytes = b })
        → AreLoadedSegments cells slide (if not c then s ∷ bodies_of ss else bodies_of ss) ((if c then [] else record { address = wrap (s.vmaddr + slide); bytes = b } ∷ []) ++ pieces_from slide ss bs)
    at true rest one = rest
    at false rest one = (one, rest)

-- ---- words that are set in the bytes of their segments

pub area_of_word : (cells : Cells) (slide : ℕ) (i : Img) (areas : List (List ℕ)) (l : Location) → AreAreas cells slide i.segments areas → IsWord i l
    → (l.segment < length areas) × (l.address - start_of (slice_get i.segments l.segment) + 8 ≤ length (get_or areas l.segment []))
area_of_word cells slide i areas l are word =
    let size : length (get_or areas l.segment []) ≡ word.segment.vmsize = (are.each l.segment word.segment word.segment_is).size in
    let start : start_of (slice_get i.segments l.segment) ≡ word.segment.vmaddr = ap start_of word.segment_is in
    (omega (arith, slice_get_within i.segments l.segment word.segment word.segment_is, are.count), omega (arith, size, start, word.from, word.to))

word_put : (cells : Cells) (slide v : ℕ) (i : Img) (areas : List (List ℕ)) (l : Location) → AreApart i.segments → AreAreas cells slide i.segments areas → IsWord i l
    → AreAreas (with_number 8 (wrap (l.address + slide)) v cells) slide i.segments (slice_set areas l.segment (put_number 8 (get_or areas l.segment []) (l.address - start_of (slice_get i.segments l.segment)) v))
word_put cells slide v i areas l apart are word =
    subst (λ (a : ℕ). AreAreas (with_number 8 (wrap (l.address + slide)) v cells) slide i.segments (slice_set areas l.segment (put_number 8 (get_or areas l.segment []) (l.address - a) v)))
    (sym (ap start_of word.segment_is))
    (areas_put cells slide l.address v l.segment word.segment i.segments areas apart are word.segment_is word.from word.to)

pub raised_step : (slide n : ℕ) (i : Img) (ls : List Location) (l : Location) (start : Cells) (areas areas' : List (List ℕ)) → IsSound i → AreAreas (rebased slide (addresses_of (take n ls)) start) slide i.segments areas → n < length ls → slice_get ls n ≡ Some l → IsWord i l → (d : ℕ) → d ≡ l.address - start_of (slice_get i.segments l.segment)
    → areas' ≡ slice_set areas l.segment (put_number 8 (get_or areas l.segment []) d (wrap (number_at 8 (get_or areas l.segment []) d + slide)))
    → AreAreas (rebased slide (addresses_of (take (n + 1) ls)) start) slide i.segments areas'
raised_step slide n i ls l start areas areas' sound are lt at word d d_is is =
    let cells : Cells = rebased slide (addresses_of (take n ls)) start in
    let number : number_from 8 cells (wrap (l.address + slide)) ≡ number_at 8 (get_or areas l.segment []) (l.address - start_of (slice_get i.segments l.segment)) =
    area_number cells slide l.address word.segment (get_or areas l.segment []) (are.each l.segment word.segment word.segment_is) word.from word.to
    ∙ ap (λ (a : ℕ). number_at 8 (get_or areas l.segment []) (l.address - a)) (sym (ap start_of word.segment_is)) in
    let more : addresses_of (take (n + 1) ls) ≡ addresses_of (take n ls) ++ l.address ∷ [] =
    ap addresses_of (take_more ls n l lt ∙ ap (λ (m : Location). take n ls ++ m ∷ []) (get_or_from_slice_get ls n l l at)) ∙ map-append (λ (m : Location). m.address) (take n ls) (l ∷ []) in
    subst (λ (c : Cells). AreAreas c slide i.segments areas')
    (sym (ap (λ (xs : List ℕ). rebased slide xs start) more ∙ (rebased_more slide l.address (addresses_of (take n ls)) start
    ∙ ap (λ (m : ℕ). with_number 8 (wrap (l.address + slide)) (wrap (m + slide)) cells) number)))
    (subst (λ (bs : List (List ℕ)). AreAreas (with_number 8 (wrap (l.address + slide)) (wrap (number_at 8 (get_or areas l.segment []) (l.address - start_of (slice_get i.segments l.segment)) + slide)) cells) slide i.segments bs) (sym (is ∙ ap (λ (e : ℕ). slice_set areas l.segment (put_number 8 (get_or areas l.segment []) e (wrap (number_at 8 (get_or areas l.segment []) e + slide)))) d_is))
    (word_put cells slide (wrap (number_at 8 (get_or areas l.segment []) (l.address - start_of (slice_get i.segments l.segment)) + slide)) i areas l (sound_apart i sound) are word))

pub bound_step : (set : ImageSet) (k : ℕ) (starts : Starts) (slide n : ℕ) (i : Img) (bs : List BoundWord) (b : BoundWord) (start : Cells) (areas areas' : List (List ℕ)) (v : ℕ) → IsSound i
    → AreAreas (bound_to starts slide (map (placed_bind set k) (take n bs)) start) slide i.segments areas → n < length bs → slice_get bs n ≡ Some b → IsWord i b.at → (d : ℕ) → d ≡ b.at.address - start_of (slice_get i.segments b.at.segment) → v ≡ number_to starts 0 0 Pointer64 (placed_bind set k b).target
    → areas' ≡ slice_set areas b.at.segment (put_number 8 (get_or areas b.at.segment []) d v)
    → AreAreas (bound_to starts slide (map (placed_bind set k) (take (n + 1) bs)) start) slide i.segments areas'
bound_step set k starts slide n i bs b start areas areas' v sound are lt at word d d_is number is =
    let cells : Cells = bound_to starts slide (map (placed_bind set k) (take n bs)) start in
    let more : map (placed_bind set k) (take (n + 1) bs) ≡ map (placed_bind set k) (take n bs) ++ placed_bind set k b ∷ [] =
    ap (λ (cs : List BoundWord). map (placed_bind set k) cs) (take_more bs n b lt ∙ ap (λ (c : BoundWord). take n bs ++ c ∷ []) (get_or_from_slice_get bs n b b at)) ∙ map-append (placed_bind set k) (take n bs) (b ∷ []) in
    subst (λ (c : Cells). AreAreas c slide i.segments areas')
    (sym (ap (λ (ws : List PlacedWord). bound_to starts slide ws start) more ∙ (bound_more starts slide (placed_bind set k b) (map (placed_bind set k) (take n bs)) start
    ∙ ap (λ (m : ℕ). with_number 8 (wrap (b.at.address + slide)) m cells) (any_location starts (wrap (b.at.address + slide)) (placed_bind set k b).target ∙ sym number))))
    (subst (λ (xs : List (List ℕ)). AreAreas (with_number 8 (wrap (b.at.address + slide)) v cells) slide i.segments xs) (sym (is ∙ ap (λ (e : ℕ). slice_set areas b.at.segment (put_number 8 (get_or areas b.at.segment []) e v)) d_is))
    (word_put cells slide v i areas b.at (sound_apart i sound) are word))

-- ---- and handed out

pub pieces_more : (slide n : ℕ) (ss : List Seg) (bs : List (List ℕ)) (s : Seg) (b : List ℕ) → slice_get ss n ≡ Some s → slice_get bs n ≡ Some b
    → pieces_from slide (take (n + 1) ss) (take (n + 1) bs) ≡ pieces_from slide (take n ss) (take n bs) ++ body_piece slide s b
pieces_more slide n [] bs s b first second = absurd (cc)
pieces_more slide n (t ∷ ts) [] s b first second = absurd (cc)
pieces_more slide zero (t ∷ ts) (c ∷ cs) s b first second =
    append-nil (body_piece slide t c) ∙ ap₂ (λ (u : Seg) (d : List ℕ). body_piece slide u d) (same_Some t s first) (same_Some c b second)
pieces_more slide (suc n) (t ∷ ts) (c ∷ cs) s b first second =
    ap (λ (m : ℕ). pieces_from slide (take m (t ∷ ts)) (take m (c ∷ cs))) next
    ∙ ap (λ (l : List Piece). body_piece slide t c ++ l) (pieces_more slide n ts cs s b first second)
    ∙ sym (append_assoc (body_piece slide t c) (pieces_from slide (take n ts) (take n cs)) (body_piece slide s b))
  where
    next : suc n + 1 ≡ suc (n + 1)
    next = omega arith

-- the bytes of a segment that weren't taken yet
pub area_kept : (vs first : List (Vec ℕ Global)) (n : ℕ) (v : Vec ℕ Global) → n < length first → ((d : Vec ℕ Global) → get_or vs n d ≡ get_or first n d) → get_or vs n v ≡ v → slice_get (contents first) n ≡ Some v.items
area_kept vs first n v lt same got =
    slice_get-map (λ (f : Vec ℕ Global). f.items) first n
    ∙ ap (λ (o : Option (Vec ℕ Global)). option_map (λ (f : Vec ℕ Global). f.items) o) (slice_get-get_or first n v lt ∙ ap (λ (f : Vec ℕ Global). Some f) (sym (same v) ∙ got))

pub file_loaded : (set : ImageSet) (slides : ℕ → ℕ) (k : ℕ) (i : Img) (s : StreamLists) (ps : List Piece) → IsImageOf set k i s
    → AreLoadedSegments (bound_to (loaded_starts set slides) (slides k) (map (placed_bind set k) s.binds) (rebased (slides k) (addresses_of s.rebases) (segment_cells (slides k) i.segments))) (slides k) (bodies_of i.segments) ps
    → AreLoadedSegments (loaded set slides k) (slides k) (bodies_of (segments_at set.images k)) ps
file_loaded set slides k i s ps of are =
    subst (λ (ss : List Seg). AreLoadedSegments (loaded set slides k) (slides k) (bodies_of ss) ps) (sym (ap segments_in of.image_is))
    (subst (λ (cells : Cells). AreLoadedSegments cells (slides k) (bodies_of i.segments) ps) (sym (loaded_is set slides k i s of)) are)

pub file_break : (set : ImageSet) (k : ℕ) (i : Img) (s : StreamLists) → IsImageOf set k i s → symbol_break set k ≡ bind_fault_from set k 0 s.binds
unfolding symbol_break
file_break set k i s of = ap (λ (o : Option StreamLists). bind_fault_from set k 0 (streams_in o).binds) of.streams_are
