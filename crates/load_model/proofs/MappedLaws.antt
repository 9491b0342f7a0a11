-- A cache of three mappings that follow one another, as it is mapped.
use Rattle.std.proofs.Common.{◌≡◌, ◌≤◌, ◌<◌, ℕ, ◌+◌, ◌-◌, Some, List, [], ◌∷◌, ◌++◌, take, drop, map, length, get_or, sym, ap, ◌∙◌, arith, inl, inr, length-append, length-drop}
use Rattle.std.specs.List.{flat_map}
use Rattle.std.proofs.lemmas.Bool.{cases_lt}
use Rattle.std.proofs.lemmas.List.{append-nil, length-take-le, get_or-append_right}
use Rattle.std.proofs.Math.ListN.{get_or-append}
use Rattle.slide_chain.specs.Chains.{slid_area}
use Rattle.slide_chain.specs.Info.{info_read}
use Rattle.dsc_base.specs.Region.{region_start}
use Rattle.macho_image.specs.Places.{wrap, above}
use Rattle.load_model.specs.Memory.{Cells}
use Rattle.cache_header.specs.declared.head.Mapping.{Mapping}
use Rattle.cache_header.specs.Reading.{mappings_of, slide_info_bytes}
use Rattle.load_model.specs.Mapped.{three_mappings, Piece, piece_of, with_slid_data, pieces_of, cells_of, mapped, flat}
use Rattle.load_model.proofs.CellLaws.{cell_at, cell_behind, distance_is}

-- the data of a cache, slid
abbrev pub slid_data : List ℕ → ℕ → ℕ → ℕ → List ℕ
slid_data cache a b slide = slid_area (info_read (slide_info_bytes cache)) slide (take b (drop a cache))

-- the bytes of a cache with its data slid
abbrev pub slid_cache : List ℕ → ℕ → ℕ → ℕ → ℕ → List ℕ
slid_cache cache a b c slide = take a cache ++ (slid_data cache a b slide ++ take c (drop (a + b) cache))

pub record IsThree (cache : List ℕ) (a b c : ℕ) : Type 0 where
  pub mappings : mappings_of cache ≡ three_mappings a b c
  pub long : length cache ≡ a + (b + c)
  pub low : a + (b + c) ≤ 0x20000000
  pub slid : (slide : ℕ) → length (slid_data cache a b slide) ≡ b

pieces_three : (cache : List ℕ) (a b c slide : ℕ) → IsThree cache a b c → pieces_of cache slide
    ≡ record { address = region_start; bytes = take a cache } ∷ record { address = region_start + a; bytes = slid_data cache a b slide }
    ∷ record { address = region_start + (a + b); bytes = take c (drop (a + b) cache) } ∷ []
unfolding pieces_of
pieces_three cache a b c slide three =
    ap (λ (ms : List Mapping). with_slid_data (info_read (slide_info_bytes cache)) slide (map (piece_of cache) ms)) three.mappings

-- in file order the mapped bytes are those of the cache
pub flat_three : (cache : List ℕ) (a b c : ℕ) → IsThree cache a b c → flat cache ≡ slid_cache cache a b c 0
unfolding flat
flat_three cache a b c three =
    ap (λ (ps : List Piece). flat_map (λ (p : Piece). p.bytes) ps) (pieces_three cache a b c 0 three)
    ∙ ap (λ (l : List ℕ). take a cache ++ (slid_data cache a b 0 ++ l)) (append-nil (take c (drop (a + b) cache)))

pub length-slid_cache : (cache : List ℕ) (a b c slide : ℕ) → IsThree cache a b c → length (slid_cache cache a b c slide) ≡ a + (b + c)
length-slid_cache cache a b c slide three =
    let one : length (take a cache) ≡ a = length-take-le a cache (omega (arith, three.long)) in
    let last : length (take c (drop (a + b) cache)) ≡ c = length-take-le c (drop (a + b) cache) (omega (arith, three.long, length-drop (a + b) cache)) in
    length-append (take a cache) (slid_data cache a b slide ++ take c (drop (a + b) cache))
    ∙ omega (arith, one, last, three.slid slide, length-append (slid_data cache a b slide) (take c (drop (a + b) cache)))

-- the byte that was at a place of the file
pub mapped_cell : (cache : List ℕ) (a b c slide f : ℕ) → IsThree cache a b c → f < a + (b + c)
    → mapped cache slide (wrap (region_start + f + slide)) ≡ Some (get_or (slid_cache cache a b c slide) f 0)
unfolding cells_of
mapped_cell cache a b c slide f three lt =
    let text : List ℕ = take a cache in
    let middle : List ℕ = slid_data cache a b slide in
    let end : List ℕ = take c (drop (a + b) cache) in
    let one : length (take a cache) ≡ a = length-take-le a cache (omega (arith, three.long)) in
    let two : length (slid_data cache a b slide) ≡ b = three.slid slide in
    let last : length (take c (drop (a + b) cache)) ≡ c = length-take-le c (drop (a + b) cache) (omega (arith, three.long, length-drop (a + b) cache)) in
    let small : a + (b + c) ≤ 0x20000000 = three.low in
    let y : ℕ = wrap (region_start + f + slide) in
    let c1 : Cells = cells_of slide (record { address = region_start + a; bytes = middle } ∷ record { address = region_start + (a + b); bytes = end } ∷ []) in
    let c2 : Cells = cells_of slide (record { address = region_start + (a + b); bytes = end } ∷ []) in
    let c3 : Cells = cells_of slide [] in
    ap (λ (ps : List Piece). cells_of slide ps (wrap (region_start + f + slide))) (pieces_three cache a b c slide three)
    ∙ elim (cases_lt f a) [
      | inl first ↦
          cell_at (wrap (region_start + slide)) (wrap (region_start + f + slide)) f text c1 (distance_is region_start f slide (omega (arith, small))) (omega (arith, one))
          ∙ ap (λ (n : ℕ). Some n) (sym (get_or-append text (middle ++ end) 0 f (omega (arith, one))))
      | inr over ↦
          cell_behind (wrap (region_start + slide)) (wrap (region_start + f + slide)) f text c1 (distance_is region_start f slide (omega (arith, small))) (omega (arith, one))
          ∙ (elim (cases_lt f (a + b)) [
            | inl second ↦
                cell_at (wrap (region_start + a + slide)) (wrap (region_start + f + slide)) (f - a) middle c2 (further a over) (omega (arith, two))
                ∙ ap (λ (n : ℕ). Some n) (sym (get_or-append middle end 0 (f - a) (omega (arith, two))))
            | inr behind ↦
                cell_behind (wrap (region_start + a + slide)) (wrap (region_start + f + slide)) (f - a) middle c2 (further a over) (omega (arith, two))
                ∙ (cell_at (wrap (region_start + (a + b) + slide)) (wrap (region_start + f + slide)) (f - (a + b)) end c3 (further (a + b) behind) (omega (arith, last))
                ∙ (ap (λ (n : ℕ). Some (get_or end n 0)) (omega arith)
                ∙ ap (λ (n : ℕ). Some n) (sym (get_or-append_right middle end b (f - a) 0 two (omega arith)))))
          ]
          ∙ ap (λ (n : ℕ). Some n) (sym (get_or-append_right text (middle ++ end) a f 0 one over)))
    ]
  where
    further : (n : ℕ) → n ≤ f → above (wrap (region_start + n + slide)) (wrap (region_start + f + slide)) ≡ f - n
    further n le =
        ap (λ (x : ℕ). above (wrap (region_start + n + slide)) (wrap (x + slide))) (omega (arith, le)) ∙ distance_is (region_start + n) (f - n) slide (omega (arith, lt, three.low))
