-- What is gathered of a set that was read and laid out: the words that it chains, the rules that it breaks behind its layout, and the room of its parts.
use Rattle.std.proofs.Common.{◌≡◌, ◌≤◌, ℕ, ◌+◌, ◌%◌, Option, Some, None, List, [], ◌∷◌, map, length, refl, sym, ap, ap₂, ◌∙◌, subst, arith}
use Rattle.std.specs.Prelude.{Result, Ok, Err, IsErrAnd}
use Rattle.std.specs.List.{flat_map}
use Rattle.std.specs.Option.{option_or}
use Rattle.dsc_base.specs.declared.fault.Break.{Break}
use Rattle.dsc_base.specs.declared.fault.SetFault.{SetFault}
use Rattle.dsc_base.specs.declared.fault.SetFault.TheVariants.{Broken, Memory}
use Rattle.dsc_base.specs.Refusals.{IsSetRefusal, RefusesSet}
use Rattle.macho_image.specs.Records.{Img}
use Rattle.cache_layout.specs.declared.mapping.Mapping.TheVariants.{Writable}
use Rattle.cache_layout.specs.Layouts.{Laid}
use Rattle.cache_layout.specs.Apart.{AreInTurn}
use Rattle.cache_layout.proofs.PlaceLaws.{are_in_turn}
use Rattle.nlist_table.specs.Symbols.{Tabs, tables_of}
use Rattle.slide_chain.specs.Making.{AreWords, AllBelow, chains_break}
use Rattle.prebind.specs.declared.resolved.PlacedWord.{PlacedWord}
use Rattle.prebind.specs.Sets.{ImageSet}
use Rattle.ref_rewrite.specs.Breaks.{rewrite_break}
use Rattle.ref_rewrite.specs.Following.{FollowIn}
use Rattle.ref_rewrite.specs.Plans.{Plan}
use Rattle.ref_rewrite.specs.Planned.{IsLayout, plans_of}
use Rattle.linkedit_merge.specs.Shares.{shares_of}
use Rattle.linkedit_merge.specs.Linkedit.{merge_break}
use Rattle.cache_build.specs.Edits.{chained_of}
use Rattle.cache_build.specs.Places.{slide_bytes, shares_in}
use Rattle.cache_build.specs.Breaks.{behind_layout}
use Rattle.cache_build.proofs.WholeCaches.{chained_are}
use Rattle.prebind.specs.Placed.{AreListsPlaced}

-- ---- the words

rising : (from to : ℕ) (ws : List ℕ) → FollowIn from to ws → AreWords from ws
rising from to [] follow = tt
rising from to (w ∷ ws) follow = (follow.0, follow.1, follow.2, rising (w + 8) to ws follow.3)

reach : (from to : ℕ) (ws : List ℕ) → FollowIn from to ws → from ≤ to
reach from to [] follow = follow
reach from to (w ∷ ws) follow = omega (arith, follow.0, reach (w + 8) to ws follow.3)

below : (from to : ℕ) (ws : List ℕ) → FollowIn from to ws → AllBelow to ws
below from to [] follow = tt
below from to (w ∷ ws) follow = (omega (arith, reach (w + 8) to ws follow.3), below (w + 8) to ws follow.3)

abbrev words_in : List Plan → List ℕ
words_in plans = flat_map (λ (p : Plan). p.words) plans

pub words_rise : (plans passed : List Plan) (n : ℕ) (words given : List ℕ) → FollowIn 0 n (words_in plans) → passed ≡ plans → words ≡ words_in passed → given ≡ words → AreWords 0 given
words_rise plans passed n words given follow same are own = subst (λ (ws : List ℕ). AreWords 0 ws) (sym (own ∙ (are ∙ ap words_in same))) (rising 0 n (words_in plans) follow)

pub words_below : (plans passed : List Plan) (n m : ℕ) (words given : List ℕ) → FollowIn 0 n (words_in plans) → passed ≡ plans → words ≡ words_in passed → given ≡ words → m ≡ n → AllBelow m given
words_below plans passed n m words given follow same are own size =
    subst (λ (k : ℕ). AllBelow k given) (sym size) (subst (λ (ws : List ℕ). AllBelow n ws) (sym (own ∙ (are ∙ ap words_in same))) (below 0 n (words_in plans) follow))

pub words_chained : (l : Laid) (set : ImageSet) (placed : List (List PlacedWord)) (plans passed : List Plan) (words : List ℕ) → AreListsPlaced set placed → plans ≡ plans_of l set placed → passed ≡ plans → words ≡ words_in passed → words ≡ chained_of l set
words_chained l set placed plans passed words placed_all made same are = are ∙ (ap words_in (same ∙ made) ∙ chained_are l set placed placed_all)

-- ---- the layout

pub in_turn : (l : Laid) (is : List Img) → IsLayout l is → AreInTurn is l
in_turn l is layout = subst (λ (m : Laid). AreInTurn is m) (sym layout.is) (are_in_turn is layout.fits)

pub data_pages : (l : Laid) (is : List Img) (n : ℕ) → IsLayout l is → n ≡ l.writable.len → n % 4096 ≡ 0
data_pages l is n layout size = ap (λ (k : ℕ). k % 4096) size ∙ ((in_turn l is layout).pages Writable).1

pub data_room : (l : Laid) (is : List Img) (n : ℕ) → IsLayout l is → n ≡ l.writable.len → n ≤ 0x20000000
data_room l is n layout size = let turn : AreInTurn is l = in_turn l is layout in omega (arith, size, turn.fixed, turn.span)

pub segments_low : (l : Laid) (is : List Img) → IsLayout l is → l.fixed.at + l.fixed.len ≤ 0x20000000
segments_low l is layout = (in_turn l is layout).span

-- ---- what is refused

pub refused_by : {X : Type 0} (found : Option Break) (r : Result X SetFault) (fault : SetFault) → IsErrAnd r (λ g. g ≡ fault) → IsSetRefusal found fault → RefusesSet found r
refused_by found (Ok x) fault is refused = absurd is
refused_by found (Err g) fault is refused = subst (λ (f : SetFault). IsSetRefusal found f) (sym is) refused

pub first_refused : (bits : ℕ) (l : Laid) (set : ImageSet) (fault : SetFault) → IsSetRefusal (rewrite_break l set) fault → IsSetRefusal (behind_layout bits l set) fault
unfolding behind_layout
first_refused bits l set (Broken b) found =
    ap (λ (o : Option Break). option_or o (option_or (chains_break bits l.writable.len (chained_of l set)) (option_or (merge_break l (length (slide_bytes bits l set)) (shares_in l set.images)) None))) found
first_refused bits l set Memory found = tt

pub second_refused : (bits : ℕ) (l : Laid) (set : ImageSet) (n : ℕ) (words : List ℕ) (fault : SetFault) → rewrite_break l set ≡ None → n ≡ l.writable.len → words ≡ chained_of l set → IsSetRefusal (chains_break bits n words) fault → IsSetRefusal (behind_layout bits l set) fault
unfolding behind_layout
second_refused bits l set n words (Broken b) none size are found =
    let rest : Option Break = option_or (merge_break l (length (slide_bytes bits l set)) (shares_in l set.images)) None in
    ap (λ (o : Option Break). option_or o (option_or (chains_break bits l.writable.len (chained_of l set)) rest)) none
    ∙ ap (λ (o : Option Break). option_or o rest) (sym (ap₂ (λ (k : ℕ) (ws : List ℕ). chains_break bits k ws) size are) ∙ found)
second_refused bits l set n words Memory none size are found = tt

pub merge_same : (bits : ℕ) (l : Laid) (set : ImageSet) (tables : List Tabs) (slide : ℕ) → tables ≡ map tables_of set.images → slide ≡ length (slide_bytes bits l set)
    → merge_break l slide (shares_of set.images tables l.moves) ≡ merge_break l (length (slide_bytes bits l set)) (shares_in l set.images)
merge_same bits l set tables slide are size = ap₂ (λ (s : ℕ) (ts : List Tabs). merge_break l s (shares_of set.images ts l.moves)) size are

third_is : (bits : ℕ) (l : Laid) (set : ImageSet) → rewrite_break l set ≡ None → chains_break bits l.writable.len (chained_of l set) ≡ None → behind_layout bits l set ≡ merge_break l (length (slide_bytes bits l set)) (shares_in l set.images)
unfolding behind_layout
third_is bits l set none chains =
    let last : Option Break = merge_break l (length (slide_bytes bits l set)) (shares_in l set.images) in
    ap₂ (λ (a b : Option Break). option_or a (option_or b (option_or last None))) none chains ∙ alone last
  where
    alone : (o : Option Break) → option_or o None ≡ o
    alone None = refl
    alone (Some b) = refl

pub third_refused : (bits : ℕ) (l : Laid) (set : ImageSet) (tables : List Tabs) (n slide : ℕ) (words : List ℕ) (fault : SetFault) → rewrite_break l set ≡ None → n ≡ l.writable.len → words ≡ chained_of l set → chains_break bits n words ≡ None
    → tables ≡ map tables_of set.images → slide ≡ length (slide_bytes bits l set) → IsSetRefusal (merge_break l slide (shares_of set.images tables l.moves)) fault → IsSetRefusal (behind_layout bits l set) fault
third_refused bits l set tables n slide words fault none size are chains tables_are long found =
    subst (λ (o : Option Break). IsSetRefusal o fault) (merge_same bits l set tables slide tables_are long ∙ sym (third_is bits l set none (sym (ap₂ (λ (k : ℕ) (ws : List ℕ). chains_break bits k ws) size are) ∙ chains))) found

pub none_refused : (bits : ℕ) (l : Laid) (set : ImageSet) (tables : List Tabs) (n slide : ℕ) (words : List ℕ) → rewrite_break l set ≡ None → n ≡ l.writable.len → words ≡ chained_of l set → chains_break bits n words ≡ None
    → tables ≡ map tables_of set.images → slide ≡ length (slide_bytes bits l set) → merge_break l slide (shares_of set.images tables l.moves) ≡ None → behind_layout bits l set ≡ None
none_refused bits l set tables n slide words none size are chains tables_are long last =
    third_is bits l set none (sym (ap₂ (λ (k : ℕ) (ws : List ℕ). chains_break bits k ws) size are) ∙ chains) ∙ (sym (merge_same bits l set tables slide tables_are long) ∙ last)
