-- The bind streams of an image, read of the image with its segments elsewhere: the same words are bound to the same symbols, where their segments go.
use Rattle.std.proofs.Common.{◌≡◌, ◌<◌, ◌+◌, ℕ, zero, suc, Bool, ◌||◌, true, false, List, [], ◌∷◌, ◌++◌, length, map, get_or, refl, sym, ap, ap₂, ◌∙◌, subst, arith, if◌then◌else◌, Option, Some, None}
use Rattle.std.specs.Prelude.{option_map}
use Rattle.std.specs.List.{AllPairs, list_any}
use Rattle.std.specs.Option.{option_or, unwrap_or}
use Rattle.std.proofs.lemmas.Bool.{cond-false}
use Rattle.std.proofs.lemmas.Bool.Decides.{nat_tests}
use Rattle.std.proofs.lemmas.List.{length-map, get_or-map, map-append}
use Rattle.dsc_base.specs.declared.fault.Site.{Site}
use Rattle.dsc_base.specs.declared.rule.Rule.{Rule}
use Rattle.dsc_base.specs.declared.rule.Rule.TheVariants.{WordsOverlap}
use Rattle.dsc_base.specs.Refusals.{broken}
use Rattle.macho_image.specs.Records.{Img}
use Rattle.macho_image.specs.declared.place.Location.{Location}
use Rattle.macho_image.specs.declared.places.record.PlaceFault.{PlaceFault}
use Rattle.macho_image.specs.Index.{AreApart}
use Rattle.macho_image.specs.Order.{addresses_of, in_address_order, is_near, first_close}
use Rattle.macho_image.specs.Places.{place_fault}
use Rattle.macho_image.specs.Runs.{first_fault}
use Rattle.macho_image.specs.Streams.{Opcodes, End, Refused, Next, opcodes_of, records, reading_break, site_in}
use Rattle.macho_image.proofs.Unbroken.{or_none}
use Rattle.bind_ops.specs.declared.kind.StreamKind.{StreamKind}
use Rattle.bind_ops.specs.Binds.{Settings, start, bound_at, is_set, symbol_of, record_fault, recorded, moved as set_after, meaning, binds_of, places_of, bind_break, AreBinds}
use Rattle.bind_ops.specs.Clash.{in_pairs, is_skew, clashing, least_of, clash_break}
use Rattle.bind_ops.specs.Faults.{Reason, Place, BeforeSet, Twice, rule_in}
use Rattle.bind_ops.specs.Opcodes.{Opcode, spelling}
use Rattle.bind_ops.specs.Records.{BoundWord}
use Rattle.bind_ops.proofs.BindLaws.{accepted_binds}
use Rattle.bind_ops.proofs.ClashLaws.{never_near}
use Rattle.cache_build.proofs.FarWords.{AreFar, pairs_far, none_near}
use Rattle.cache_build.proofs.MovedWords.{HaveGone, gone, word_goes, far_gone}

-- a bind where its word goes
abbrev pub gone_bind : Img → Img → BoundWord → BoundWord
gone_bind image moved b = record { at = gone image moved b.at; ordinal = b.ordinal; name = b.name; weak = b.weak; addend = b.addend }

no_site : (rule : Reason → Rule) (at : ℕ) (o : Option Reason) → option_map (site_in rule at) o ≡ None → o ≡ None
no_site rule at None none = refl
no_site rule at (Some fault) none = absurd (cc)

module _ (image moved : Img) (all : HaveGone image moved) (apart : AreApart moved.segments) where
  -- ---- records

  one_goes : (s : Settings) (offset before : ℕ) → record_fault image s offset before ≡ None → (record_fault moved s offset before ≡ None) × (bound_at moved s offset ≡ gone_bind image moved (bound_at image s offset))
  unfolding record_fault
  one_goes s offset before none = go (is_set s) (place_fault image s.segment offset before) refl refl none
    where
      go : (b : Bool) (o : Option PlaceFault) → is_set s ≡ b → place_fault image s.segment offset before ≡ o → (if b then option_map Place o else Some BeforeSet) ≡ None
          → ((if is_set s then option_map Place (place_fault moved s.segment offset before) else Some BeforeSet) ≡ None) × (bound_at moved s offset ≡ gone_bind image moved (bound_at image s offset))
      go true None set free none =
          let to = word_goes image moved all s.segment offset before free in (
            (λ i. if set i then option_map Place (to.0 i) else Some BeforeSet),
            ap (λ (l : Location). let b : BoundWord = record { at = l; ordinal = unwrap_or s.ordinal 0; name = (symbol_of s.symbol).name; weak = (symbol_of s.symbol).weak; addend = s.addend } in b) to.1,
          )
      go true (Some fault) set free none = absurd (cc)
      go false o set free none = absurd (cc)

  run_goes : (s : Settings) (before : ℕ) (offsets : List ℕ) → first_fault (record_fault image s) before offsets ≡ None
      → (first_fault (record_fault moved s) before offsets ≡ None) × (map (bound_at moved s) offsets ≡ map (gone_bind image moved) (map (bound_at image s) offsets))
  run_goes s before [] none = (refl, refl)
  run_goes s before (offset ∷ offsets) none =
      let two = or_none (record_fault image s offset before) (first_fault (record_fault image s) (before + 1) offsets) none in
      let one = one_goes s offset before two.0 in
      let rest = run_goes s (before + 1) offsets two.1 in
      (ap₂ (λ (a b : Option Reason). option_or a b) one.0 rest.0, ap₂ (λ (b : BoundWord) (bs : List BoundWord). b ∷ bs) one.1 rest.1)

  read_goes : (stream : StreamKind) (s : Settings) (before : ℕ) (opcodes : Opcodes Opcode Reason) → reading_break (meaning stream image) s before opcodes ≡ None
      → (reading_break (meaning stream moved) s before opcodes ≡ None) × (records (meaning stream moved) s opcodes ≡ map (gone_bind image moved) (records (meaning stream image) s opcodes))
  unfolding reading_break records
  read_goes stream s before End none = (refl, refl)
  read_goes stream s before (Refused at fault) none = absurd (cc)
  read_goes stream s before (Next at opcode more) none =
      let offsets = recorded s opcode in
      let two = or_none (option_map (site_in (rule_in stream) at) (first_fault (record_fault image s) before offsets)) (reading_break (meaning stream image) (set_after s opcode) (before + length offsets) more) none in
      let run = run_goes s before offsets (no_site (rule_in stream) at (first_fault (record_fault image s) before offsets) two.0) in
      let rest = read_goes stream (set_after s opcode) (before + length offsets) more two.1 in (
        ap₂ (λ (o : Option Reason) (r : Option Site). option_or (option_map (site_in (rule_in stream) at) o) r) run.0 rest.0,
        ap₂ (λ (bs cs : List BoundWord). bs ++ cs) run.1 rest.1 ∙ sym (map-append (gone_bind image moved) (map (bound_at image s) offsets) (records (meaning stream image) (set_after s opcode) more)),
      )

  -- ---- no two of a stream share a byte

  place_gone : (bs : List BoundWord) → places_of (map (gone_bind image moved) bs) ≡ map (gone image moved) (places_of bs)
  place_gone [] = refl
  place_gone (b ∷ bs) = ap (λ (ls : List Location). gone image moved b.at ∷ ls) (place_gone bs)

  pairs_gone : (bs : List BoundWord) → AreBinds image bs → AllPairs AreFar (places_of (map (gone_bind image moved) bs))
  pairs_gone bs are i j d lt within =
      let long : length (places_of (map (gone_bind image moved) bs)) ≡ length bs = ap (λ (ls : List Location). length ls) (place_gone bs) ∙ (length-map (places_of bs) (gone image moved) ∙ length-map bs (λ (b : BoundWord). b.at)) in
      let second : j < length bs = omega (arith, within, long) in
      let first : i < length bs = omega (arith, lt, second) in
      let at : (k : ℕ) → k < length bs → get_or (places_of (map (gone_bind image moved) bs)) k d ≡ gone image moved (get_or bs k (spare d)).at = λ k less.
      ap (λ (ls : List Location). get_or ls k d) (place_gone bs)
      ∙ (get_or-map (gone image moved) (places_of bs) k d d (omega (arith, less, length-map bs (λ (b : BoundWord). b.at)))
      ∙ ap (gone image moved) (get_or-map (λ (b : BoundWord). b.at) bs k (spare d) d less)) in
      let far : AreFar (get_or bs i (spare d)).at (get_or bs j (spare d)).at = are.apart i j (spare d) lt second in
      let kept = far_gone image moved all apart (get_or bs i (spare d)).at (get_or bs j (spare d)).at (are.all i (spare d) first) (are.all j (spare d) second) far in
      subst (λ (l : Location). AreFar l (get_or (places_of (map (gone_bind image moved) bs)) j d)) (sym (at i first)) (subst (λ (m : Location). AreFar (gone image moved (get_or bs i (spare d)).at) m) (sym (at j second)) kept)
    where
      spare : Location → BoundWord
      spare l = record { at = l; ordinal = 0; name = []; weak = false; addend = start.addend }

  -- a stream that breaks no rule of the image breaks none of the moved one, where it spells the same binds
  pub binds_go : (stream : StreamKind) (bytes : List ℕ) → bind_break stream bytes image ≡ None → (bind_break stream bytes moved ≡ None) × (binds_of stream bytes moved ≡ map (gone_bind image moved) (binds_of stream bytes image))
  unfolding bind_break binds_of
  binds_go stream bytes none =
      let own = records (meaning stream image) start (opcodes_of (spelling stream) bytes) in
      let two = or_none (reading_break (meaning stream image) start 0 (opcodes_of (spelling stream) bytes)) (broken (rule_in stream Twice) (first_close (addresses_of (in_address_order (places_of own))))) none in
      let read = read_goes stream start 0 (opcodes_of (spelling stream) bytes) two.0 in
      let far = none_near (places_of (map (gone_bind image moved) own)) (pairs_far (places_of (map (gone_bind image moved) own)) (pairs_gone own (accepted_binds stream image bytes none))) in
      let close : first_close (addresses_of (in_address_order (places_of (records (meaning stream moved) start (opcodes_of (spelling stream) bytes))))) ≡ None =
      ap (λ (bs : List BoundWord). first_close (addresses_of (in_address_order (places_of bs)))) read.1 ∙ far in
      (ap₂ (λ (a : Option Site) (o : Option ℕ). option_or a (broken (rule_in stream Twice) o)) read.0 close, read.1)

  -- ---- and none of one stream shares a byte with one of the other

  none_shared : (share : ℕ → ℕ → Bool) (x : ℕ) (ys : List ℕ) → ((j d : ℕ) → j < length ys → share x (get_or ys j d) ≡ false) → list_any (share x) ys ≡ false
  none_shared share x [] none = refl
  none_shared share x (y ∷ ys) none = ap₂ (λ (a b : Bool). a || b) (none 0 y (omega arith)) (none_shared share x ys (λ j d lt. none (suc j) d (omega arith)))

  no_pairs : (share : ℕ → ℕ → Bool) (xs ys : List ℕ) → ((i j d : ℕ) → i < length xs → j < length ys → share (get_or xs i d) (get_or ys j d) ≡ false) → in_pairs share xs ys ≡ []
  no_pairs share [] ys none = refl
  no_pairs share (x ∷ xs) ys none =
      cond-false (list_any (share x) ys) (x ∷ in_pairs share xs ys) (in_pairs share xs ys) (none_shared share x ys (λ j d lt. none 0 j d (omega arith) lt))
      ∙ no_pairs share xs ys (λ i j d first second. none (suc i) j d (omega arith) second)

  address_at : (bs : List BoundWord) (k d : ℕ) (b : BoundWord) → k < length bs → get_or (addresses_of (places_of bs)) k d ≡ (get_or bs k b).at.address
  address_at [] k d b lt = absurd (omega arith)
  address_at (c ∷ cs) zero d b lt = refl
  address_at (c ∷ cs) (suc k) d b lt = address_at cs k d b (omega arith)

  gone_at : (bs : List BoundWord) (k d : ℕ) (b : BoundWord) → k < length bs → get_or (addresses_of (places_of (map (gone_bind image moved) bs))) k d ≡ (gone image moved (get_or bs k b).at).address
  gone_at [] k d b lt = absurd (omega arith)
  gone_at (c ∷ cs) zero d b lt = refl
  gone_at (c ∷ cs) (suc k) d b lt = gone_at cs k d b (omega arith)

  many_gone : (bs : List BoundWord) → length (addresses_of (places_of (map (gone_bind image moved) bs))) ≡ length bs
  many_gone [] = refl
  many_gone (b ∷ bs) = ap suc (many_gone bs)

  many_places : (bs : List BoundWord) → length (addresses_of (places_of bs)) ≡ length bs
  many_places [] = refl
  many_places (b ∷ bs) = ap suc (many_places bs)

  some_bind : BoundWord
  some_bind = record { at = record { segment = 0; section = 0; address = 0 }; ordinal = 0; name = []; weak = false; addend = start.addend }

  -- words of two streams that are apart from each other stay so
  near_none : (rebases : List ℕ) (bs cs : List BoundWord) → clash_break rebases (addresses_of (places_of bs)) (addresses_of (places_of cs)) ≡ None → AreBinds image bs → AreBinds image cs
      → (i j d : ℕ) → i < length (addresses_of (places_of (map (gone_bind image moved) bs))) → j < length (addresses_of (places_of (map (gone_bind image moved) cs)))
      → is_near (get_or (addresses_of (places_of (map (gone_bind image moved) bs))) i d) (get_or (addresses_of (places_of (map (gone_bind image moved) cs))) j d) ≡ false
  near_none rebases bs cs none are others i j d first second =
      let one : i < length bs = omega (arith, first, many_gone bs) in
      let two : j < length cs = omega (arith, second, many_gone cs) in
      let l : Location = (get_or bs i some_bind).at in
      let m : Location = (get_or cs j some_bind).at in
      let far : AreFar l m = never_near rebases (addresses_of (places_of bs)) (addresses_of (places_of cs)) none l.address m.address
      (i, omega (arith, one, many_places bs), address_at bs i l.address some_bind one) (j, omega (arith, two, many_places cs), address_at cs j m.address some_bind two) in
      let kept = far_gone image moved all apart l m (are.all i some_bind one) (others.all j some_bind two) far in
      ap₂ (λ (x y : ℕ). is_near x y) (gone_at bs i d some_bind one) (gone_at cs j d some_bind two) ∙ kept

  flipped : (x y : ℕ) → is_near y x ≡ false → is_near x y ≡ false
  flipped x y far = grind (arith, nat_tests)

  pub clash_goes : (rebases : List ℕ) (bs cs : List BoundWord) → clash_break rebases (addresses_of (places_of bs)) (addresses_of (places_of cs)) ≡ None → AreBinds image bs → AreBinds image cs
      → clash_break [] (addresses_of (places_of (map (gone_bind image moved) bs))) (addresses_of (places_of (map (gone_bind image moved) cs))) ≡ None
  unfolding clash_break clashing
  clash_goes rebases bs cs none are others =
      let xs = addresses_of (places_of (map (gone_bind image moved) bs)) in
      let ys = addresses_of (places_of (map (gone_bind image moved) cs)) in
      let near = near_none rebases bs cs none are others in
      let skew : in_pairs is_skew (xs ++ ys) [] ≡ [] = no_pairs is_skew (xs ++ ys) [] (λ i j d first second. absurd (omega (arith, second))) in
      let one : in_pairs is_near xs ys ≡ [] = no_pairs is_near xs ys near in
      let two : in_pairs is_near ys xs ≡ [] = no_pairs is_near ys xs (λ i j d first second. flipped (get_or ys i d) (get_or xs j d) (near j i d second first)) in
      λ i. broken WordsOverlap (least_of ([] ++ (skew i ++ (one i ++ two i))))
