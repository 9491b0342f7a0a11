-- A stream that was written for locations records them, and breaks no rule where there are few enough.
use Rattle.std.proofs.Common.{◌≡◌, ◌≤◌, ◌<◌, ◌+◌, ◌-◌, ◌*◌, ◌^◌, ℕ, zero, suc, List, [], ◌∷◌, ◌++◌, map, length, get_or, drop, refl, sym, ap, ap₂, subst, ◌∙◌, arith, append_assoc, append-nil, length-append, nat_lt, inl, inr, Option, Some, None}
use Rattle.std.specs.Prelude.{option_map}
use Rattle.std.specs.List.{All, AllPairs, range_with_len}
use Rattle.std.specs.Option.{option_or}
use Rattle.std.proofs.lemmas.Bool.{cond-true, cond-false, cases_Bool, le-ltb, cases_lt}
use Rattle.std.proofs.lemmas.Bool.Decides.{nat_tests}
use Rattle.std.proofs.lemmas.List.{drop_all, drop-drop, length-map}
use Rattle.std.proofs.lemmas.List.Elements.{All-from_recursion}
use Rattle.std.proofs.lemmas.Option.{slice_get_within, get_or_from_slice_get}
use Rattle.dsc_base.specs.declared.rule.Rule.{Rule}
use Rattle.dsc_base.specs.declared.rule.Rule.TheVariants.{RebasedTwice}
use Rattle.dsc_base.specs.declared.fault.Site.{Site}
use Rattle.dsc_base.specs.Refusals.{broken}
use Rattle.dsc_base.specs.Limits.{record_limit}
use Rattle.dsc_base.specs.Uleb.{uleb_bytes}
use Rattle.macho_image.specs.Records.{Img, Seg}
use Rattle.macho_image.specs.Breaks.{IsSound}
use Rattle.macho_image.specs.declared.place.Location.{Location}
use Rattle.macho_image.specs.declared.places.record.PlaceFault.{PlaceFault}
use Rattle.macho_image.specs.Order.{in_address_order, addresses_of, first_close}
use Rattle.macho_image.specs.Places.{wrap, location, Precedes, IsWord}
use Rattle.macho_image.specs.Runs.{progression, first_fault}
use Rattle.macho_image.specs.Streams.{Opcodes, Next, opcodes_of, records, site_in, reading_break}
use Rattle.macho_image.proofs.SectionLaws.{sections_in_order}
use Rattle.macho_image.proofs.SoundSegments.{segments_low}
use Rattle.macho_image.proofs.OrderLaws.{SpacedFrom, spaced_up, in_order_same}
use Rattle.macho_image.proofs.CloseLaws.{close_pair, close_is}
use Rattle.rebase_ops.specs.Opcodes.{Opcode, SetTypeImm, opcode_with, spelling}
use Rattle.rebase_ops.specs.Rebases.{State, start, recorded, further, moved, rule_of, record_fault, meaning, rebases_of, rebase_break}
use Rattle.rebase_ops.specs.Writing.{Run, run_from, is_next, in_front, runs_of, offset_in, times_bytes, run_bytes, runs_bytes, rebase_bytes, CanBeWritten}
use Rattle.rebase_ops.proofs.PlaceLaws.{located, placed_fine, offset_next, offset_small}
use Rattle.rebase_ops.proofs.RunLaws.{from_place}
use Rattle.rebase_ops.proofs.SpelledLaws.{AreSmall, times_opcode, times_few, times_many, opcodes_from, spelled_runs, spelled_next, opcode_there}

-- ---- runs and their locations

-- what is needed of each location
pub record IsPlain (image : Img) (l : Location) : Type 0 where
  pub word : IsWord image l
  pub low : l.segment < 16
  pub small : l.address < 2 ^ 64

abbrev pub AllPlain : Img → List Location → Type 0
AllPlain image [] = Unit {0}
AllPlain image (l ∷ ls) = IsPlain image l × AllPlain image ls

abbrev AllIn : ℕ → List Location → Type 0
AllIn g [] = Unit {0}
AllIn g (l ∷ ls) = (l.segment ≡ g) × AllIn g ls

abbrev offset_of : Img → Location → ℕ
offset_of image l = offset_in image l.segment l.address

-- the locations of a run
pub record IsRunOf (image : Img) (r : Run) (ls : List Location) : Type 0 where
  pub offsets : progression (offset_in image r.segment r.address) 8 r.count ≡ map (offset_of image) ls
  pub count : r.count ≡ length ls
  pub segment : AllIn r.segment ls
  pub plain : AllPlain image ls
  pub small : r.segment < 16
  pub offset : offset_in image r.segment r.address < 2 ^ 64

-- locations are those of runs, one after the other
abbrev pub AreRunsOf : Img → List Run → List Location → Type 0
AreRunsOf image [] ls = ls ≡ []
AreRunsOf image (r ∷ rs) ls = (xs : List Location) × ((ys : List Location) × ((ls ≡ xs ++ ys) × IsRunOf image r xs × AreRunsOf image rs ys))

-- a progression begins with its first number
shifted : (a s n : ℕ) → map (λ (k : ℕ). wrap (a + k * 8)) (range_with_len (s + 1) n) ≡ map (λ (k : ℕ). wrap (a + 8 + k * 8)) (range_with_len s n)
shifted a s zero = refl
shifted a s (suc n) =
    ap₂ (λ (x : ℕ) (xs : List ℕ). x ∷ xs) (ap wrap (let e : a + (s + 1) * 8 ≡ a + 8 + s * 8 = omega arith in e)) (shifted a (s + 1) n)

progression-more : (a n : ℕ) → a < 2 ^ 64 → progression a 8 (n + 1) ≡ a ∷ progression (a + 8) 8 n
progression-more a n small =
    let e : n + 1 ≡ suc n = omega arith in
    ap (progression a 8) e ∙ ap₂ (λ (x : ℕ) (xs : List ℕ). x ∷ xs) (let f : wrap (a + 0 * 8) ≡ a = omega arith in f) (shifted a 0 n)

progression-one : (a : ℕ) → a < 2 ^ 64 → progression a 8 1 ≡ a ∷ []
progression-one a small = ap (λ (x : ℕ). x ∷ []) (let f : wrap (a + 0 * 8) ≡ a = omega arith in f)

run_one : (image : Img) (l : Location) → IsPlain image l → IsRunOf image (run_from l 1) (l ∷ [])
run_one image l plain =
    let small = offset_small image l plain.word plain.small in
    record {
      offsets = progression-one (offset_of image l) small;
      count = refl;
      segment = (refl, tt);
      plain = (plain, tt);
      small = plain.low;
      offset = small;
    }

run_more : (image : Img) (l : Location) (r : Run) (xs : List Location) → IsPlain image l → r.segment ≡ l.segment → r.address ≡ l.address + 8 → IsRunOf image r xs → IsRunOf image (run_from l (r.count + 1)) (l ∷ xs)
run_more image l r xs plain same next run =
    let small = offset_small image l plain.word plain.small in
    let there : offset_in image r.segment r.address ≡ offset_in image l.segment l.address + 8 =
    (let m : Location = record { segment = r.segment; section = 0; address = r.address } in offset_next image l m plain.word same next) in
    record {
      offsets =
          progression-more (offset_of image l) r.count small
          ∙ ap (λ (os : List ℕ). offset_of image l ∷ os) (ap (λ (o : ℕ). progression o 8 r.count) (sym there) ∙ run.offsets);
      count = omega (arith, run.count);
      segment = (refl, subst (λ (g : ℕ). AllIn g xs) same run.segment);
      plain = (plain, run.plain);
      small = plain.low;
      offset = small;
    }

in_front_of : (image : Img) (l : Location) (rs : List Run) (ls : List Location) → IsPlain image l → AreRunsOf image rs ls → AreRunsOf image (in_front l rs) (l ∷ ls)
in_front_of image l [] ls plain runs = (l ∷ [], ([], (ap (λ (xs : List Location). l ∷ xs) runs, run_one image l plain, refl)))
in_front_of image l (r ∷ rs) ls plain runs = elim (cases_Bool (is_next l r.segment r.address)) as (λ _. AreRunsOf image (in_front l (r ∷ rs)) (l ∷ ls)) [
  | inl goes_on ↦
      let same : r.segment ≡ l.segment = grind (arith, nat_tests) in
      let next : r.address ≡ l.address + 8 = grind (arith, nat_tests) in
      let xs = runs.0 in
      let ys = runs.1.0 in
      subst (λ (qs : List Run). AreRunsOf image qs (l ∷ ls)) (sym (cond-true (is_next l r.segment r.address) (run_from l (r.count + 1) ∷ rs) (run_from l 1 ∷ (r ∷ rs)) goes_on))
      (l ∷ xs, (ys, (ap (λ (zs : List Location). l ∷ zs) runs.1.1.0, run_more image l r xs plain same next runs.1.1.1, runs.1.1.2)))
  | inr stops ↦
      subst (λ (qs : List Run). AreRunsOf image qs (l ∷ ls)) (sym (cond-false (is_next l r.segment r.address) (run_from l (r.count + 1) ∷ rs) (run_from l 1 ∷ (r ∷ rs)) stops))
      (l ∷ [], (ls, (refl, run_one image l plain, runs)))
]

pub are_runs : (image : Img) (ls : List Location) → AllPlain image ls → AreRunsOf image (runs_of ls) ls
are_runs image [] plain = refl
are_runs image (l ∷ ls) plain = in_front_of image l (runs_of ls) ls plain.0 (are_runs image ls plain.1)

pub are_small : (image : Img) (rs : List Run) (ls : List Location) → length ls < 2 ^ 64 → AreRunsOf image rs ls → AreSmall image rs
are_small image [] ls few runs = tt
are_small image (r ∷ rs) ls few runs =
    let long = ap length runs.1.1.0 ∙ length-append runs.0 runs.1.0 in
    let run = runs.1.1.1 in
    (record { segment = run.small; offset = run.offset; count = omega (arith, run.count, long) }, are_small image rs runs.1.0 (omega (arith, long)) runs.1.1.2)

-- ---- what the opcodes record

made_back : (image : Img) (g : ℕ) (ls : List Location) → AllPairs Precedes image.sections → AllIn g ls → AllPlain image ls → map (location image (Some g)) (map (offset_of image) ls) ≡ ls
made_back image g [] order inside plain = refl
made_back image g (l ∷ ls) order inside plain =
    ap₂ (λ (m : Location) (ms : List Location). m ∷ ms)
    (ap (λ (h : ℕ). location image (Some h) (offset_of image l)) (sym inside.0) ∙ located image l order plain.0.word plain.0.small)
    (made_back image g ls order inside.1 plain.1)

times_recorded : (s : State) (count : ℕ) → recorded s (times_opcode count) ≡ progression s.offset 8 count
times_recorded s count = elim (cases_lt 15 count) [ inl many ↦ ap (recorded s) (times_many count many) | inr few ↦ ap (recorded s) (times_few count few) ]

times_moved : (s : State) (count : ℕ) → moved s (times_opcode count) ≡ further s (count * 8)
times_moved s count = elim (cases_lt 15 count) [ inl many ↦ ap (moved s) (times_many count many) | inr few ↦ ap (moved s) (times_few count few) ]

pub runs_recorded : (image : Img) (s : State) (at : ℕ) (rs : List Run) (ls : List Location) → AllPairs Precedes image.sections → AreRunsOf image rs ls → records (meaning image) s (opcodes_from image at rs) ≡ ls
unfolding records opcodes_from
runs_recorded image s at [] ls order runs = sym runs
runs_recorded image s at (r ∷ rs) ls order runs =
    let xs = runs.0 in
    let ys = runs.1.0 in
    let run = runs.1.1.1 in
    let second = at + 1 + length (uleb_bytes (offset_in image r.segment r.address)) in
    let placed : State = record { segment = Some r.segment; offset = offset_in image r.segment r.address } in
    let more = opcodes_from image (second + length (times_bytes r.count)) rs in
    ap₂ (λ (front back : List Location). front ++ back)
    (ap (λ (os : List ℕ). map (location image (Some r.segment)) os) (times_recorded placed r.count ∙ run.offsets) ∙ made_back image r.segment xs order run.segment run.plain)
    (ap (λ (t : State). records (meaning image) t more) (times_moved placed r.count)
    ∙ runs_recorded image (further placed (r.count * 8)) (second + length (times_bytes r.count)) rs ys order runs.1.1.2)
    ∙ sym runs.1.1.0

-- none of them is refused
none_refused : (image : Img) (g before : ℕ) (ls : List Location) → AllPairs Precedes image.sections → AllIn g ls → AllPlain image ls → before + length ls ≤ record_limit
    → first_fault (record_fault image (Some g)) before (map (offset_of image) ls) ≡ None
none_refused image g before [] order inside plain few = refl
none_refused image g before (l ∷ ls) order inside plain few =
    let here : record_fault image (Some g) (offset_of image l) before ≡ None =
    ap (λ (h : ℕ). record_fault image (Some h) (offset_of image l) before) (sym inside.0)
    ∙ ap (λ (o : Option PlaceFault). option_map rule_of o) (placed_fine image l before order plain.0.word plain.0.small (omega arith)) in
    ap (λ (o : Option Rule). option_or o (first_fault (record_fault image (Some g)) (before + 1) (map (offset_of image) ls))) here
    ∙ none_refused image g (before + 1) ls order inside.1 plain.1 (omega arith)

pub runs_sound : (image : Img) (s : State) (at before : ℕ) (rs : List Run) (ls : List Location) → AllPairs Precedes image.sections → AreRunsOf image rs ls → before + length ls ≤ record_limit
    → reading_break (meaning image) s before (opcodes_from image at rs) ≡ None
unfolding reading_break opcodes_from
runs_sound image s at before [] ls order runs few = refl
runs_sound image s at before (r ∷ rs) ls order runs few =
    let xs = runs.0 in
    let ys = runs.1.0 in
    let run = runs.1.1.1 in
    let long = ap length runs.1.1.0 ∙ length-append runs.0 runs.1.0 in
    let second = at + 1 + length (uleb_bytes (offset_in image r.segment r.address)) in
    let third = second + length (times_bytes r.count) in
    let placed : State = record { segment = Some r.segment; offset = offset_in image r.segment r.address } in
    let offsets : recorded placed (times_opcode r.count) ≡ map (offset_of image) xs = times_recorded placed r.count ∙ run.offsets in
    let none : first_fault (record_fault image (Some r.segment)) (before + 0) (recorded placed (times_opcode r.count)) ≡ None =
    ap₂ (λ (n : ℕ) (os : List ℕ). first_fault (record_fault image (Some r.segment)) n os) (let e : before + 0 ≡ before = omega arith in e) offsets
    ∙ none_refused image r.segment before xs order run.segment run.plain (omega (arith, long)) in
    let counted : before + 0 + length (recorded placed (times_opcode r.count)) ≡ before + length xs = omega (arith, ap length offsets, length-map xs (offset_of image)) in
    ap (λ (o : Option Rule). option_or (option_map (site_in (λ q. q) second) o) (reading_break (meaning image) (moved placed (times_opcode r.count)) (before + 0 + length (recorded placed (times_opcode r.count))) (opcodes_from image third rs))) none
    ∙ (ap₂ (λ (t : State) (n : ℕ). reading_break (meaning image) t n (opcodes_from image third rs)) (times_moved placed r.count) counted
    ∙ runs_sound image (further placed (r.count * 8)) third (before + length xs) rs ys order runs.1.1.2 (omega (arith, long)))

-- ---- the stream

-- an image's segments lie below 2 ^ 47
word_low : (image : Img) (l : Location) → IsSound image → IsWord image l → l.address + 8 ≤ 0x8000_0000_0000
word_low image l sound word =
    let inside = slice_get_within image.segments l.segment word.segment word.segment_is in
    let all : All (λ (s : Seg). s.vmaddr + s.vmsize ≤ 0x8000_0000_0000) image.segments = All-from_recursion (λ (s : Seg). s.vmaddr + s.vmsize ≤ 0x8000_0000_0000) image.segments (segments_low image sound) in
    let low = subst (λ (s : Seg). s.vmaddr + s.vmsize ≤ 0x8000_0000_0000) (get_or_from_slice_get image.segments l.segment word.segment word.segment word.segment_is) (all l.segment word.segment inside) in
    omega (arith, low, word.to)

plain_from : (image : Img) (ls : List Location) → IsSound image → All (IsWord image) ls → All (λ (l : Location). l.segment < 16) ls → AllPlain image ls
plain_from image [] sound words low = tt
plain_from image (l ∷ ls) sound words low =
    let word = words 0 l (omega arith) in (
      record { word = word; low = low 0 l (omega arith); small = omega (arith, word_low image l sound word) },
      plain_from image ls sound (λ i d lt. words (suc i) d (omega arith)) (λ i d lt. low (suc i) d (omega arith)),
    )

spaced_from : (floor : ℕ) (ls : List Location) → ((d : Location) → 0 < length ls → floor ≤ (get_or ls 0 d).address) → ((k : ℕ) (d : Location) → k + 1 < length ls → (get_or ls k d).address + 8 ≤ (get_or ls (k + 1) d).address) → SpacedFrom floor ls
spaced_from floor [] low apart = tt
spaced_from floor (l ∷ ls) low apart = (
  low l (omega arith),
  spaced_from (l.address + 8) ls (λ d some. next 0 d (omega arith))
      (λ k d lt. let e : suc k ≡ k + 1 = omega arith in subst (λ (n : ℕ). (get_or ls k d).address + 8 ≤ (get_or ls n d).address) e (next (suc k) d (omega arith))),
)
  where
    next : (k : ℕ) (d : Location) → suc k < length (l ∷ ls) → (get_or (l ∷ ls) k d).address + 8 ≤ (get_or ls k d).address
    next k d lt = let e : k + 1 ≡ suc k = omega arith in subst (λ (n : ℕ). (get_or (l ∷ ls) k d).address + 8 ≤ (get_or (l ∷ ls) n d).address) e (apart k d (omega arith))

none_close : (floor : ℕ) (ls : List Location) → SpacedFrom floor ls → close_pair ls ≡ None
none_close floor [] spaced = refl
none_close floor (l ∷ []) spaced = refl
none_close floor (l ∷ m ∷ ms) spaced =
    cond-false (nat_lt m.address (l.address + 8)) (Some l.address) (close_pair (m ∷ ms)) (le-ltb m.address (l.address + 8) (omega (arith, spaced.1.0)))
    ∙ none_close (l.address + 8) (m ∷ ms) spaced.1

-- words that are 8 apart below 2 ^ 47 are few
few_words : (image : Img) (floor : ℕ) (ls : List Location) → IsSound image → All (IsWord image) ls → SpacedFrom floor ls → floor ≤ 0x8000_0000_0000 → floor + 8 * length ls ≤ 0x8000_0000_0000
few_words image floor [] sound words spaced low = omega arith
few_words image floor (l ∷ ls) sound words spaced low =
    let here = word_low image l sound (words 0 l (omega arith)) in
    let rest = few_words image (l.address + 8) ls sound (λ i d lt. words (suc i) d (omega arith)) spaced.1 here in
    omega (arith, rest, spaced.0)

-- what is known of locations that can be written
pub record IsReady (image : Img) (ls : List Location) : Type 0 where
  pub order : AllPairs Precedes image.sections
  pub plain : AllPlain image ls
  pub spaced : SpacedFrom 0 ls
  pub few : length ls < 2 ^ 64

pub ready : (image : Img) (ls : List Location) → IsSound image → CanBeWritten image ls → IsReady image ls
ready image ls sound can =
    let spaced = spaced_from 0 ls (λ d some. omega arith) can.apart in
    record {
      order = sections_in_order image sound;
      plain = plain_from image ls sound can.all can.low;
      spaced = spaced;
      few = omega (arith, few_words image 0 ls sound can.all spaced (omega arith));
    }

-- the opcodes of the stream
stream_opcodes : (image : Img) (ls : List Location) → IsReady image ls → opcodes_of spelling (rebase_bytes image ls) ≡ Next 0 (SetTypeImm 1) (opcodes_from image 1 (runs_of ls))
unfolding rebase_bytes opcode_with
stream_opcodes image ls is =
    let rest = runs_bytes image (runs_of ls) ++ 0 ∷ [] in
    let size = length (0x11 ∷ rest) in
    spelled_next (0x11 ∷ rest) 0 size (SetTypeImm 1) 1 (omega arith) (omega arith) (opcode_there (0x11 ∷ rest) 0 1 1 0x11 refl refl refl) refl
    ∙ ap (λ (os : Opcodes Opcode Rule). let all : Opcodes Opcode Rule = Next 0 (SetTypeImm 1) os in all)
    (spelled_runs image (0x11 ∷ []) (runs_of ls) 1 (size - 1) refl (are_small image (runs_of ls) ls is.few (are_runs image ls is.plain)) (omega arith))

stream_records : (image : Img) (ls : List Location) → IsReady image ls → records (meaning image) start (opcodes_of spelling (rebase_bytes image ls)) ≡ ls
unfolding records
stream_records image ls is =
    ap (λ (os : Opcodes Opcode Rule). records (meaning image) start os) (stream_opcodes image ls is)
    ∙ runs_recorded image start 1 (runs_of ls) ls is.order (are_runs image ls is.plain)

pub words_back : (image : Img) (ls : List Location) → IsReady image ls → rebases_of (rebase_bytes image ls) image ≡ ls
unfolding rebases_of
words_back image ls is = ap in_address_order (stream_records image ls is) ∙ in_order_same 0 ls is.spaced

stream_sound : (image : Img) (ls : List Location) → IsReady image ls → length ls ≤ record_limit → reading_break (meaning image) start 0 (opcodes_of spelling (rebase_bytes image ls)) ≡ None
unfolding reading_break
stream_sound image ls is few =
    ap (λ (os : Opcodes Opcode Rule). reading_break (meaning image) start 0 os) (stream_opcodes image ls is)
    ∙ runs_sound image start 1 (0 + 0) (runs_of ls) ls is.order (are_runs image ls is.plain) (omega arith)

pub none_broken : (image : Img) (ls : List Location) → IsReady image ls → length ls ≤ record_limit → rebase_break (rebase_bytes image ls) image ≡ None
unfolding rebase_break
none_broken image ls is few =
    ap (λ (o : Option Site). option_or o (broken RebasedTwice (first_close (addresses_of (rebases_of (rebase_bytes image ls) image))))) (stream_sound image ls is few)
    ∙ (ap (λ (ms : List Location). broken RebasedTwice (first_close (addresses_of ms))) (words_back image ls is)
    ∙ ap (broken RebasedTwice) (close_is ls (spaced_up 0 ls is.spaced) ∙ none_close 0 ls is.spaced))

-- ---- the loop that writes it

pub added-next : (image : Img) (ls tail : List Location) (at n : ℕ) (d : Location) (old new : List ℕ) → at < length ls → tail ≡ drop (at + 1) ls
    → runs_of (get_or ls at d ∷ tail) ≡ run_from (get_or ls at d) (1 + n) ∷ runs_of (drop n tail) → new ≡ old ++ run_bytes image (run_from (get_or ls at d) (1 + n))
    → new ++ runs_bytes image (runs_of (drop (at + (1 + n)) ls)) ≡ old ++ runs_bytes image (runs_of (drop at ls))
unfolding runs_bytes
added-next image ls tail at n d old new lt behind first adds =
    let run = run_from (get_or ls at d) (1 + n) in
    let further : at + (1 + n) ≡ at + 1 + n = omega arith in
    let rest : drop (at + (1 + n)) ls ≡ drop n tail = ap (λ (k : ℕ). drop k ls) further ∙ (sym (drop-drop n (at + 1) ls) ∙ ap (λ (ms : List Location). drop n ms) (sym behind)) in
    let here : get_or ls at d ∷ tail ≡ drop at ls = ap (λ (ms : List Location). get_or ls at d ∷ ms) behind ∙ sym (from_place ls at d lt) in
    ap₂ (λ (l : List ℕ) (ms : List Location). l ++ runs_bytes image (runs_of ms)) adds rest
    ∙ (append_assoc old (run_bytes image run) (runs_bytes image (runs_of (drop n tail)))
    ∙ ap (λ (rs : List Run). old ++ runs_bytes image rs) (sym first ∙ ap runs_of here))

pub added-end : (image : Img) (ls : List Location) (at : ℕ) (old new : List ℕ) → length ls ≤ at → old ++ runs_bytes image (runs_of (drop at ls)) ≡ 0x11 ∷ runs_bytes image (runs_of ls) → new ≡ old ++ 0 ∷ [] → new ≡ rebase_bytes image ls
unfolding runs_bytes rebase_bytes
added-end image ls at old new past added adds =
    let all : old ≡ 0x11 ∷ runs_bytes image (runs_of ls) =
    sym (append-nil old) ∙ (ap (λ (ms : List Location). old ++ runs_bytes image (runs_of ms)) (sym (drop_all at ls past)) ∙ added) in
    adds ∙ ap (λ (l : List ℕ). l ++ 0 ∷ []) all
