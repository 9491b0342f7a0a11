-- The bytes of a mapped cache: each chain word is its value and the slide, and every other byte is the same at all slides.
use Rattle.std.proofs.Common.{◌≡◌, ◌≤◌, ◌<◌, ◌⊎◌, ℕ, zero, suc, ◌+◌, ◌-◌, Bool, true, false, ◌||◌, nat_eq, Some, None, List, [], ◌∷◌, ◌++◌, length, take, drop, get_or, refl, sym, ap, ◌∙◌, subst, arith, inl, inr}
use Rattle.std.specs.List.{list_any}
use Rattle.std.specs.Int.{byte_at, bytes_low_first}
use Rattle.std.proofs.lemmas.Bool.{cases_Bool, cases_eq, cases_lt, eqb-true, eq-eqb, ne_eqb, false≢true}
use Rattle.std.proofs.lemmas.List.{length-take-le, get_or-append_right}
use Rattle.std.proofs.Math.ListN.{get_or-append}
use Rattle.dsc_base.specs.Region.{region_start}
use Rattle.dsc_base.specs.Numbers.{number_at, little_bytes}
use Rattle.dsc_base.specs.Edits.{settled, ApartFrom, IsAmong}
use Rattle.dsc_base.specs.declared.edits.Edit.{Edit}
use Rattle.dsc_base.proofs.EditLaws.{get_or-put_all, get_or-put_all_apart, in_one_or_apart}
use Rattle.macho_image.specs.Places.{wrap}
use Rattle.slide_chain.specs.Chains.{Slide, Suits, kept, unslid, slid, sliding, reached, chain_words, chain_finding, slid_area}
use Rattle.slide_chain.specs.Info.{info_read}
use Rattle.slide_chain.specs.declared.words.ChainWord.{ChainWord}
use Rattle.slide_chain.proofs.WordLaws.{slid_none, slid_some}
use Rattle.cache_header.specs.declared.head.Mapping.{Mapping}
use Rattle.cache_header.specs.Reading.{head_read, mappings_of, slide_info_bytes}
use Rattle.load_model.specs.Mapped.{flat, mapped}
use Rattle.load_model.proofs.MappedLaws.{IsThree, slid_data, slid_cache, flat_three, mapped_cell}
use Rattle.load_model.proofs.WordCases.{IsIn}
use Rattle.cache_check.specs.Shape.{data_mapping}
use Rattle.cache_check.specs.Views.{view_of, slide_bytes, data_bytes}
use Rattle.cache_check.proofs.ShapeLaws.{AreThree, data_is}
use Rattle.cache_check.proofs.ViewLaws.{IsReadable, three_of, is_three, data_part, length-data}
use Rattle.cache_check.proofs.ReadableLaws.{AreBytes, taken, dropped}
use Rattle.cache_check.proofs.ReachedLaws.{InPages, all-any, reached-in, reached-apart}
use Rattle.cache_check.proofs.SlidLaws.{edits, edits-inside, edits-apart, put-slid}
use Rattle.cache_check.proofs.ChainedLaws.{IsReached, reached_word, word_reached}

-- ---- the edits that slide the data

among_place : (s : Slide) (slide : ℕ) (area places : List ℕ) (x : Edit) → IsAmong x (edits s slide area places) → (a : ℕ) × (list_any (nat_eq a) places ≡ true) × (x ≡ settled area (sliding s slide a))
among_place s slide area [] x among = absurd among
among_place s slide area (p ∷ places) x (inl is) = (p, ap (λ (b : Bool). b || list_any (nat_eq p) places) (eq-eqb p p refl), is)
among_place s slide area (p ∷ places) x (inr later) =
    let rest = among_place s slide area places x later in
    (rest.0, elim (nat_eq rest.0 p) as (λ b. b || list_any (nat_eq rest.0) places ≡ true) [ true ↦ refl | false ↦ rest.1 ], rest.2)

place_among : (s : Slide) (slide : ℕ) (area places : List ℕ) (a : ℕ) → list_any (nat_eq a) places ≡ true → IsAmong (settled area (sliding s slide a)) (edits s slide area places)
place_among s slide area [] a there = absurd (false≢true there)
place_among s slide area (p ∷ places) a there = elim (cases_eq a p) [
  | inl same ↦ inl (ap (λ (x : ℕ). settled area (sliding s slide x)) same)
  | inr other ↦ inr (place_among s slide area places a (ap (λ (b : Bool). b || list_any (nat_eq a) places) (sym (ne_eqb a p other)) ∙ there))
]

-- they stand at the same places at all slides
apart_alike : (s : Slide) (slide other at : ℕ) (area places : List ℕ) → ApartFrom at 1 (edits s slide area places) → ApartFrom at 1 (edits s other area places)
apart_alike s slide other at area [] apart = tt
apart_alike s slide other at area (p ∷ places) apart = (apart.0, apart_alike s slide other at area places apart.1)

module _ (s : Slide) (area : List ℕ) (suits : Suits s area) (none : chain_finding s area ≡ None) where
  slid_word : (slide a k : ℕ) → list_any (nat_eq a) (reached s area) ≡ true → k < 8 → get_or (slid_area s slide area) (a + k) 0 ≡ get_or (little_bytes 8 (slid s slide (number_at 8 area a))) k 0
  slid_word slide a k there lt =
      ap (λ (l : List ℕ). get_or l (a + k) 0) (put-slid s slide area suits none)
      ∙ get_or-put_all (settled area (sliding s slide a)) (edits s slide area (reached s area)) area k (edits-inside s slide (length area) area (reached s area) (reached-in s area suits))
      (edits-apart s slide area (reached s area) (reached-apart s area none)) (place_among s slide area (reached s area) a there) lt

  slid_apart : (slide q : ℕ) → ApartFrom q 1 (edits s slide area (reached s area)) → get_or (slid_area s slide area) q 0 ≡ get_or area q 0
  slid_apart slide q apart =
      ap (λ (l : List ℕ). get_or l q 0) (put-slid s slide area suits none)
      ∙ get_or-put_all_apart (edits s slide area (reached s area)) area q (edits-inside s slide (length area) area (reached s area) (reached-in s area suits)) apart

  -- a chain word at a slide
  chain_byte : (slide k : ℕ) (w : ChainWord) → IsIn (chain_words s area) w → k < 8 → get_or (slid_area s slide area) (w.offset + k) 0 ≡ get_or (little_bytes 8 (wrap (w.value + slide))) k 0
  chain_byte slide k w there lt =
      let own : IsReached s area w = word_reached s area w there in
      slid_word slide w.offset k own.there lt
      ∙ ap (λ (n : ℕ). get_or (little_bytes 8 n) k 0)
      (slid_some s slide (number_at 8 area w.offset) (λ zero_is. false≢true (sym own.some ∙ eq-eqb (kept s.mask (number_at 8 area w.offset)) 0 zero_is)) ∙ ap (λ (v : ℕ). wrap (v + slide)) (sym own.value))

  -- a byte that no chain word has
  other_byte : (slide q : ℕ) → ((w : ChainWord) → IsIn (chain_words s area) w → (q < w.offset) ⊎ (w.offset + 8 ≤ q)) → get_or (slid_area s slide area) q 0 ≡ get_or (slid_area s 0 area) q 0
  other_byte slide q free = elim (in_one_or_apart (edits s slide area (reached s area)) q) [
    | inl one ↦
        let place = among_place s slide area (reached s area) one.0 one.1.0 in
        let from : place.0 ≤ q = subst (λ (e : Edit). e.at ≤ q) place.2 one.1.1 in
        let to : q < place.0 + 8 = subst (λ (e : Edit). q < e.at + e.width) place.2 one.1.2 in
        let at : q ≡ place.0 + (q - place.0) = omega (arith, from) in
        elim (cases_Bool (nat_eq (kept s.mask (number_at 8 area place.0)) 0)) [
          | inl nothing ↦
              let zero_is : kept s.mask (number_at 8 area place.0) ≡ 0 = eqb-true (kept s.mask (number_at 8 area place.0)) 0 nothing in
              let value : (n : ℕ) → get_or (slid_area s n area) q 0 ≡ get_or (little_bytes 8 0) (q - place.0) 0 = λ n.
              ap (λ (x : ℕ). get_or (slid_area s n area) x 0) at
              ∙ (slid_word n place.0 (q - place.0) place.1 (omega (arith, to))
              ∙ ap (λ (v : ℕ). get_or (little_bytes 8 v) (q - place.0) 0) (slid_none s n (number_at 8 area place.0) zero_is)) in
              value slide ∙ sym (value 0)
          | inr some ↦
              elim (free (record { offset = place.0; value = unslid s.mask s.value_add (number_at 8 area place.0) }) (reached_word s area place.0 suits place.1 some)) [
                | inl before ↦ absurd (omega (arith, before, from))
                | inr behind ↦ absurd (omega (arith, behind, to))
              ]
        ]
    | inr apart ↦ slid_apart slide q apart ∙ sym (slid_apart 0 q (apart_alike s slide 0 q area (reached s area) apart))
  ]

-- ---- where chain words lie

pub word_inside : (cache : List ℕ) → IsReadable cache → (w : ChainWord) → IsIn (view_of cache).words w → w.offset + 8 ≤ (data_mapping (head_read cache).mappings).size
unfolding view_of
word_inside cache readable w there =
    let info : Slide = info_read (slide_bytes (head_read cache) cache) in
    let area : List ℕ = data_bytes (head_read cache) cache in
    let own : IsReached info area w = word_reached info area w there in
    let inside : InPages (length (data_bytes (head_read cache) cache)) w.offset = all-any (InPages (length (data_bytes (head_read cache) cache))) w.offset (reached info area) (reached-in info area readable.suits) own.there in
    omega (arith, inside.1, length-data (head_read cache) cache readable.shape)

-- ---- bytes

low_bytes : (i w v k : ℕ) → get_or (bytes_low_first i w v) k 0 < 256
low_bytes i zero v k = omega arith
low_bytes i (suc w) v zero = byte_small i v
  where
    byte_small : (i v : ℕ) → byte_at i v < 256
    byte_small zero v = omega arith
    byte_small (suc i) v = omega arith
low_bytes i (suc w) v (suc k) = low_bytes (suc i) w v k

slid_bytes : (s : Slide) (slide : ℕ) (area : List ℕ) → Suits s area → chain_finding s area ≡ None → AreBytes area → AreBytes (slid_area s slide area)
slid_bytes s slide area suits none bytes q = elim (in_one_or_apart (edits s slide area (reached s area)) q) [
  | inl one ↦
      let place = among_place s slide area (reached s area) one.0 one.1.0 in
      let from : place.0 ≤ q = subst (λ (e : Edit). e.at ≤ q) place.2 one.1.1 in
      let to : q < place.0 + 8 = subst (λ (e : Edit). q < e.at + e.width) place.2 one.1.2 in
      let at : q ≡ place.0 + (q - place.0) = omega (arith, from) in
      subst (λ (b : ℕ). b < 256)
      (sym (ap (λ (x : ℕ). get_or (slid_area s slide area) x 0) at ∙ slid_word s area suits none slide place.0 (q - place.0) place.1 (omega (arith, from, to))))
      (low_bytes 0 8 (slid s slide (number_at 8 area place.0)) (q - place.0))
  | inr apart ↦ subst (λ (b : ℕ). b < 256) (sym (slid_apart s area suits none slide q apart)) (bytes q)
]

-- ---- the cache

-- no chain word has the byte at a place of the file
abbrev pub IsSteady : List ℕ → ℕ → Type 0
IsSteady cache f = (w : ChainWord) → IsIn (view_of cache).words w → (f < (data_mapping (head_read cache).mappings).file + w.offset) ⊎ ((data_mapping (head_read cache).mappings).file + w.offset + 8 ≤ f)

data_slid : (cache : List ℕ) (slide : ℕ) (three : AreThree (length cache) (mappings_of cache)) → slid_data cache three.text three.writable slide ≡ slid_area (info_read (slide_bytes (head_read cache) cache)) slide (data_bytes (head_read cache) cache)
unfolding head_read
data_slid cache slide three = ap (λ (area : List ℕ). slid_area (info_read (slide_info_bytes cache)) slide area) (sym (data_part cache three))

data_file : (cache : List ℕ) (three : AreThree (length cache) (mappings_of cache)) → (data_mapping (head_read cache).mappings).file ≡ three.text
unfolding head_read
data_file cache three = ap (λ (m : Mapping). m.file) (data_is (length cache) (mappings_of cache) three)

data_size : (cache : List ℕ) (three : AreThree (length cache) (mappings_of cache)) → (data_mapping (head_read cache).mappings).size ≡ three.writable
unfolding head_read
data_size cache three = ap (λ (m : Mapping). m.size) (data_is (length cache) (mappings_of cache) three)

words_are : (cache : List ℕ) → (view_of cache).words ≡ chain_words (info_read (slide_bytes (head_read cache) cache)) (data_bytes (head_read cache) cache)
unfolding view_of
words_are cache = refl

module _ (cache : List ℕ) (readable : IsReadable cache) where
  three : AreThree (length cache) (mappings_of cache)
  three = three_of cache readable

  parts : IsThree cache three.text three.writable three.linkedit
  unfolding three
  parts = is_three cache readable (three_of cache readable)

  text_long : length (take three.text cache) ≡ three.text
  unfolding three
  text_long = length-take-le (three_of cache readable).text cache (omega (arith, (three_of cache readable).long))

  -- a byte of the data
  slid_byte : (slide q : ℕ) → q < three.writable → get_or (slid_cache cache three.text three.writable three.linkedit slide) (three.text + q) 0
      ≡ get_or (slid_area (info_read (slide_bytes (head_read cache) cache)) slide (data_bytes (head_read cache) cache)) q 0
  slid_byte slide q lt =
      let long : length (slid_data cache three.text three.writable slide) ≡ three.writable = parts.slid slide in
      let back : three.text + q - three.text ≡ q = omega arith in
      get_or-append_right (take three.text cache) (slid_data cache three.text three.writable slide ++ take three.linkedit (drop (three.text + three.writable) cache)) three.text (three.text + q) 0 text_long (omega arith)
      ∙ (ap (λ (n : ℕ). get_or (slid_data cache three.text three.writable slide ++ take three.linkedit (drop (three.text + three.writable) cache)) n 0) back
      ∙ (get_or-append (slid_data cache three.text three.writable slide) (take three.linkedit (drop (three.text + three.writable) cache)) 0 q (omega (arith, long, lt))
      ∙ ap (λ (l : List ℕ). get_or l q 0) (data_slid cache slide three)))

  -- and one that isn't
  text_byte : (slide f : ℕ) → f < three.text → get_or (slid_cache cache three.text three.writable three.linkedit slide) f 0 ≡ get_or (take three.text cache) f 0
  text_byte slide f lt = get_or-append (take three.text cache) (slid_data cache three.text three.writable slide ++ take three.linkedit (drop (three.text + three.writable) cache)) 0 f (omega (arith, text_long, lt))

  last_byte : (slide f : ℕ) → three.text + three.writable ≤ f → get_or (slid_cache cache three.text three.writable three.linkedit slide) f 0
      ≡ get_or (take three.linkedit (drop (three.text + three.writable) cache)) (f - three.text - three.writable) 0
  last_byte slide f le =
      get_or-append_right (take three.text cache) (slid_data cache three.text three.writable slide ++ take three.linkedit (drop (three.text + three.writable) cache)) three.text f 0 text_long (omega (arith, le))
      ∙ get_or-append_right (slid_data cache three.text three.writable slide) (take three.linkedit (drop (three.text + three.writable) cache)) three.writable (f - three.text) 0 (parts.slid slide) (omega (arith, le))

  steady_byte : (slide f : ℕ) → IsSteady cache f → get_or (slid_cache cache three.text three.writable three.linkedit slide) f 0 ≡ get_or (slid_cache cache three.text three.writable three.linkedit 0) f 0
  steady_byte slide f steady = elim (cases_lt f three.text) [
    | inl before ↦ text_byte slide f before ∙ sym (text_byte 0 f before)
    | inr from ↦ elim (cases_lt f (three.text + three.writable)) [
      | inl inside ↦
          let q : ℕ = f - three.text in
          let at : f ≡ three.text + (f - three.text) = omega (arith, from) in
          let lt : f - three.text < three.writable = omega (arith, from, inside) in
          let free : (w : ChainWord) → IsIn (chain_words (info_read (slide_bytes (head_read cache) cache)) (data_bytes (head_read cache) cache)) w → (f - three.text < w.offset) ⊎ (w.offset + 8 ≤ f - three.text) = λ w there.
          elim (steady w (subst (λ (ws : List ChainWord). IsIn ws w) (sym (words_are cache)) there)) [
            | inl below ↦ inl (omega (arith, below, data_file cache three, from))
            | inr behind ↦ inr (omega (arith, behind, data_file cache three, from))
          ] in
          ap (λ (n : ℕ). get_or (slid_cache cache three.text three.writable three.linkedit slide) n 0) at
          ∙ (slid_byte slide (f - three.text) lt
          ∙ (other_byte (info_read (slide_bytes (head_read cache) cache)) (data_bytes (head_read cache) cache) readable.suits readable.chains slide (f - three.text) free
          ∙ (sym (slid_byte 0 (f - three.text) lt)
          ∙ ap (λ (n : ℕ). get_or (slid_cache cache three.text three.writable three.linkedit 0) n 0) (sym at))))
      | inr behind ↦ last_byte slide f behind ∙ sym (last_byte 0 f behind)
    ]
  ]

  -- a byte that no chain word has is mapped as it is at slide 0
  pub steady_cell : (slide f : ℕ) → f < length cache → IsSteady cache f → mapped cache slide (wrap (region_start + f + slide)) ≡ Some (get_or (flat cache) f 0)
  steady_cell slide f lt steady =
      mapped_cell cache three.text three.writable three.linkedit slide f parts (omega (arith, lt, three.long))
      ∙ ap (λ (b : ℕ). Some b) (steady_byte slide f steady ∙ ap (λ (l : List ℕ). get_or l f 0) (sym (flat_three cache three.text three.writable three.linkedit parts)))

  -- and a chain word is its value and the slide
  pub chain_cell : (slide k : ℕ) (w : ChainWord) → IsIn (view_of cache).words w → w.offset + 8 ≤ (data_mapping (head_read cache).mappings).size → k < 8
      → mapped cache slide (wrap (region_start + ((data_mapping (head_read cache).mappings).file + w.offset + k) + slide)) ≡ Some (get_or (little_bytes 8 (wrap (w.value + slide))) k 0)
  chain_cell slide k w there inside lt =
      let at : (data_mapping (head_read cache).mappings).file + w.offset + k ≡ three.text + (w.offset + k) = omega (arith, data_file cache three) in
      ap (λ (n : ℕ). mapped cache slide (wrap (region_start + n + slide))) at
      ∙ (mapped_cell cache three.text three.writable three.linkedit slide (three.text + (w.offset + k)) parts (omega (arith, inside, lt, data_size cache three))
      ∙ ap (λ (b : ℕ). Some b)
      (slid_byte slide (w.offset + k) (omega (arith, inside, lt, data_size cache three))
      ∙ chain_byte (info_read (slide_bytes (head_read cache) cache)) (data_bytes (head_read cache) cache) readable.suits readable.chains slide k w (subst (λ (ws : List ChainWord). IsIn ws w) (words_are cache) there) lt))

  -- at slide 0 too they are bytes
  pub flat_bytes : AreBytes cache → AreBytes (flat cache)
  flat_bytes bytes f = subst (λ (b : ℕ). b < 256) (sym (ap (λ (l : List ℕ). get_or l f 0) (flat_three cache three.text three.writable three.linkedit parts))) (at (cases_lt f three.text) (cases_lt f (three.text + three.writable)))
    where
      at : (f < three.text) ⊎ (three.text ≤ f) → (f < three.text + three.writable) ⊎ (three.text + three.writable ≤ f) → get_or (slid_cache cache three.text three.writable three.linkedit 0) f 0 < 256
      at (inl before) others = subst (λ (b : ℕ). b < 256) (sym (text_byte 0 f before)) (taken three.text cache bytes f)
      at (inr from) (inl inside) =
          let same : f ≡ three.text + (f - three.text) = omega (arith, from) in
          subst (λ (b : ℕ). b < 256) (sym (ap (λ (n : ℕ). get_or (slid_cache cache three.text three.writable three.linkedit 0) n 0) same ∙ slid_byte 0 (f - three.text) (omega (arith, from, inside))))
          (slid_bytes (info_read (slide_bytes (head_read cache) cache)) 0 (data_bytes (head_read cache) cache) readable.suits readable.chains
          (taken (data_mapping (head_read cache).mappings).size (drop (data_mapping (head_read cache).mappings).file cache) (dropped (data_mapping (head_read cache).mappings).file cache bytes)) (f - three.text))
      at (inr from) (inr behind) =
          subst (λ (b : ℕ). b < 256) (sym (last_byte 0 f behind)) (taken three.linkedit (drop (three.text + three.writable) cache) (dropped (three.text + three.writable) cache bytes) (f - three.text - three.writable))
