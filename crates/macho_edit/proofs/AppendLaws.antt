-- Appending sections and numbers one by one.
use Rattle.std.proofs.Common.{◌≡◌, ◌≤◌, ◌<◌, ℕ, suc, ◌+◌, ◌*◌, ◌-◌, ◌/◌, List, [], ◌∷◌, ◌++◌, take, drop, length, get_or, refl, sym, ap, ap₂, ◌∙◌, arith, append_assoc, length-drop, length-append, drop-cons}
use Rattle.std.proofs.lemmas.List.{append-nil, drop-drop, nil_from_length, take-append-drop, take_rest}
use Rattle.dsc_base.specs.Numbers.{little_bytes, number_at}
use Rattle.dsc_base.proofs.NumberLaws.{length-little_bytes}
use Rattle.macho_edit.specs.declared.segment.SegmentPlace.{SegmentPlace}
use Rattle.macho_edit.specs.Segments.{moved_section, moved_sections, moved_fields, placed_segment}
use Rattle.macho_image.specs.Macho.{number_of}
use Rattle.macho_edit.specs.declared.spots.LinkSpots.{LinkSpots}
use Rattle.macho_edit.specs.Tables.{words, with_words, indirect_words, dysymtab_words, words_for, spotted}

pub moved_sections_more : (p : SegmentPlace) (start n k : ℕ) (sections done whole : List ℕ) → k < n → done ++ moved_sections p start (n - k) (drop (80 * k) sections) ≡ whole
    → (done ++ moved_section p start (take 80 (drop (80 * k) sections))) ++ moved_sections p start (n - (k + 1)) (drop (80 * (k + 1)) sections) ≡ whole
unfolding moved_sections
moved_sections_more p start n k sections done whole lt so_far =
    let step : n - k ≡ suc (n - (k + 1)) = omega arith in
    let rest : drop 80 (drop (80 * k) sections) ≡ drop (80 * (k + 1)) sections = drop-drop 80 (80 * k) sections ∙ ap (λ (m : ℕ). drop m sections) (omega arith) in
    append_assoc done (moved_section p start (take 80 (drop (80 * k) sections))) (moved_sections p start (n - (k + 1)) (drop (80 * (k + 1)) sections))
    ∙ (ap (λ (l : List ℕ). done ++ (moved_section p start (take 80 (drop (80 * k) sections)) ++ moved_sections p start (n - (k + 1)) l)) (sym rest)
    ∙ (sym (ap (λ (m : ℕ). done ++ moved_sections p start m (drop (80 * k) sections)) step) ∙ so_far))

pub moved_sections_end : (p : SegmentPlace) (start n k : ℕ) (sections done whole : List ℕ) → n ≤ k → done ++ moved_sections p start (n - k) (drop (80 * k) sections) ≡ whole → done ≡ whole
unfolding moved_sections
moved_sections_end p start n k sections done whole le so_far =
    let none : n - k ≡ 0 = omega arith in
    sym (append-nil done) ∙ (sym (ap (λ (m : ℕ). done ++ moved_sections p start m (drop (80 * k) sections)) none) ∙ so_far)

pub segment_joined : (p : SegmentPlace) (c out : List ℕ) → (out ++ moved_fields p (take 72 c)) ++ moved_sections p (number_at 8 c 24) (length (drop 72 c) / 80) (drop 72 c) ≡ out ++ placed_segment p c
unfolding placed_segment
segment_joined p c out =
    append_assoc out (moved_fields p (take 72 c)) (moved_sections p (number_at 8 c 24) (length (drop 72 c) / 80) (drop 72 c))
    ∙ ap (λ (n : ℕ). out ++ (moved_fields p (take 72 c) ++ moved_sections p (number_at 8 c 24) (n / 80) (drop 72 c))) (length-drop 72 c)

-- a number appended is the first of those that were left
pub words_more : (ns done whole : List ℕ) (i : ℕ) → i < length ns → done ++ words (drop i ns) ≡ whole → (done ++ little_bytes 4 (get_or ns i 0)) ++ words (drop (i + 1) ns) ≡ whole
unfolding words
words_more ns done whole i lt so_far =
    let one : suc i ≡ i + 1 = omega arith in
    append_assoc done (little_bytes 4 (get_or ns i 0)) (words (drop (i + 1) ns))
    ∙ (ap (λ (n : ℕ). done ++ (little_bytes 4 (get_or ns i 0) ++ words (drop n ns))) (sym one)
    ∙ (ap (λ (l : List ℕ). done ++ words l) (sym (drop-cons ns i 0 lt)) ∙ so_far))

pub words-append : (ns ms : List ℕ) → words (ns ++ ms) ≡ words ns ++ words ms
unfolding words
words-append [] ms = refl
words-append (n ∷ ns) ms = ap (λ (l : List ℕ). little_bytes 4 n ++ l) (words-append ns ms) ∙ sym (append_assoc (little_bytes 4 n) (words ns) (words ms))

pub length-words : (ns : List ℕ) → length (words ns) ≡ 4 * length ns
unfolding words
length-words [] = refl
length-words (n ∷ ns) = length-append (little_bytes 4 n) (words ns) ∙ omega (arith, length-little_bytes 4 n, length-words ns)

pub words_end : (ns done whole : List ℕ) (i : ℕ) → length ns ≤ i → done ++ words (drop i ns) ≡ whole → done ≡ whole
unfolding words
words_end ns done whole i le so_far =
    sym (append-nil done) ∙ (ap (λ (l : List ℕ). done ++ words l) (sym (nil_from_length (drop i ns) (omega (arith, length-drop i ns)))) ∙ so_far)

-- the parts of LC_DYSYMTAB, one after another
pub dysymtab_joined : (spots : LinkSpots) (c out : List ℕ) → length spots.groups ≡ 6
    → (((out ++ take 8 c) ++ words spots.groups) ++ words (indirect_words spots.indirect)) ++ drop 80 c ≡ out ++ with_words (dysymtab_words spots) c
unfolding with_words
dysymtab_joined spots c out six =
    let g : List ℕ = words spots.groups in
    let n : List ℕ = words (indirect_words spots.indirect) in
    let size : 8 + 4 * length (spots.groups ++ indirect_words spots.indirect) ≡ 80 = omega (arith, length-append spots.groups (indirect_words spots.indirect)) in
    append_assoc ((out ++ take 8 c) ++ g) n (drop 80 c)
    ∙ (append_assoc (out ++ take 8 c) g (n ++ drop 80 c)
    ∙ (append_assoc out (take 8 c) (g ++ (n ++ drop 80 c))
    ∙ (ap (λ (l : List ℕ). out ++ (take 8 c ++ l)) (sym (append_assoc g n (drop 80 c)))
    ∙ (ap (λ (l : List ℕ). out ++ (take 8 c ++ (l ++ drop 80 c))) (sym (words-append spots.groups (indirect_words spots.indirect)))
    ∙ ap (λ (k : ℕ). out ++ (take 8 c ++ (words (dysymtab_words spots) ++ drop k c))) (sym size)))))

pub dysymtab_written : (spots : LinkSpots) (c out a b d e ns : List ℕ) → length spots.groups ≡ 6 → a ≡ out ++ take 8 c → b ≡ a ++ words spots.groups → ns ≡ indirect_words spots.indirect
    → d ≡ b ++ words ns → e ≡ d ++ take (length c - 80) (drop 80 c) → e ≡ out ++ with_words (dysymtab_words spots) c
dysymtab_written spots c out a b d e ns six first second is third fourth =
    let all : b ≡ (out ++ take 8 c) ++ words spots.groups = second ∙ ap (λ (l : List ℕ). l ++ words spots.groups) first in
    let more : d ≡ ((out ++ take 8 c) ++ words spots.groups) ++ words (indirect_words spots.indirect) = third ∙ ap₂ (λ (l m : List ℕ). l ++ words m) all is in
    fourth ∙ (ap₂ (λ (l m : List ℕ). l ++ m) more (take_rest c 80) ∙ dysymtab_joined spots c out six)

-- a command without numbers of its own is kept
pub with_words-none : (c : List ℕ) → with_words [] c ≡ c
unfolding with_words words
with_words-none c = take-append-drop 8 c

-- what a command gets, by its number
pub spotted_with : (spots : LinkSpots) (c ns out out' : List ℕ) → words_for spots (number_of c) ≡ ns → out' ≡ out ++ with_words ns c → out' ≡ out ++ spotted spots c
unfolding spotted
spotted_with spots c ns out out' is appended = appended ∙ ap (λ (l : List ℕ). out ++ with_words l c) (sym is)

pub spotted_none : (spots : LinkSpots) (c out out' : List ℕ) → words_for spots (number_of c) ≡ [] → out' ≡ out ++ c → out' ≡ out ++ spotted spots c
spotted_none spots c out out' is appended = spotted_with spots c [] out out' is (appended ∙ ap (λ (l : List ℕ). out ++ l) (sym (with_words-none c)))
