-- The parts of a linkedit of its own, and their sizes.
use Rattle.std.proofs.Common.{◌≡◌, ◌≤◌, ℕ, suc, ◌+◌, ◌*◌, List, [], ◌∷◌, length, refl, sym, ap, ap₂, ◌∙◌, arith, length-append}
use Rattle.std.specs.List.{flat_map}
use Rattle.std.proofs.lemmas.List.{append-nil}
use Rattle.dsc_base.specs.Numbers.{little_bytes}
use Rattle.macho_image.specs.Records.{Img}
use Rattle.macho_image.specs.declared.place.Location.{Location}
use Rattle.nlist_table.specs.Symbols.{Sym, Tabs, tables_of}
use Rattle.linkedit_merge.specs.Linkedit.{symbol_bytes, parts_of, pool_of, all_symbols, all_indirect}
use Rattle.linkedit_merge.specs.Parts.{end_with, end_behind, lens_of}
use Rattle.linkedit_merge.specs.Pool.{pooled_behind, pool_bytes, symbol_names}
use Rattle.linkedit_merge.specs.Indices.{pool_len}
use Rattle.linkedit_merge.proofs.PartLaws.{length-joined, end-rises}
use Rattle.linkedit_merge.proofs.SizeLaws.{end_with-covers}
use Rattle.extractor.specs.ExtractOf.{rebase_stream, share_of, linkedit_parts, linkedit_of}
use Rattle.extractor.specs.Prepared.{names_in, own_parts, own_lens, own_size, table_size}

-- ---- the parts of an image

pub parts_are : (i : Img) (words : List Location) → linkedit_parts i words ≡ own_parts i (rebase_stream i words) (tables_of i) (names_in (tables_of i))
unfolding linkedit_parts parts_of share_of
parts_are i words =
    let symbols : all_symbols (share_of i ∷ []) ≡ (tables_of i).symbols = append-nil (tables_of i).symbols in
    let indirect : all_indirect (share_of i ∷ []) ≡ (tables_of i).indirect = append-nil (tables_of i).indirect in
    let names : pool_of (share_of i ∷ []) ≡ names_in (tables_of i) = ap (λ (ss : List Sym). pooled_behind [] (flat_map symbol_names ss)) symbols in
    ap (λ (b : List (List ℕ)). rebase_stream i words ∷ i.streams.bind ∷ i.streams.lazy ∷ i.streams.exports ∷ i.streams.function_starts ∷ i.streams.data_in_code ∷ b)
    (ap₂ (λ (ss : List Sym) (ns : List (List ℕ)). flat_map (symbol_bytes ns) ss ∷ flat_map (little_bytes 4) (all_indirect (share_of i ∷ [])) ∷ pool_bytes ns ∷ []) symbols names
    ∙ ap (λ (xs : List ℕ). flat_map (symbol_bytes (names_in (tables_of i))) (tables_of i).symbols ∷ flat_map (little_bytes 4) xs ∷ pool_bytes (names_in (tables_of i)) ∷ []) indirect)

-- ---- their lengths

pub long_each : {X : Type 0} (f : X → List ℕ) (m : ℕ) (xs : List X) → ((x : X) → length (f x) ≡ m) → length (flat_map f xs) ≡ m * length xs
long_each {X} f m [] each = omega arith
long_each {X} f m (x ∷ xs) each =
    let rest = long_each f m xs each in
    let one = each x in
    let next : m * suc (length xs) ≡ m + m * length xs = times_next m (length xs) in
    length-append (f x) (flat_map f xs) ∙ omega (arith, one, rest, next)
  where
    times_next : (m n : ℕ) → m * suc n ≡ m + m * n
    times_next m n = search (arith)

pub lens_are : (i : Img) (rebase : List ℕ) (t : Tabs) (names : List (List ℕ)) → lens_of (own_parts i rebase t names) ≡ own_lens i (length rebase) (length t.symbols) (length t.indirect) (pool_len names)
lens_are i rebase t names =
    ap₂ (λ (a b : ℕ). length rebase ∷ length i.streams.bind ∷ length i.streams.lazy ∷ length i.streams.exports ∷ length i.streams.function_starts ∷ length i.streams.data_in_code ∷ a ∷ b ∷ pool_len names ∷ [])
    (long_each (symbol_bytes names) 16 t.symbols (λ s. refl)) (long_each (little_bytes 4) 4 t.indirect (λ n. refl))

pub size_is : (i : Img) (words : List Location) → length (linkedit_of i words) ≡ table_size i (length (rebase_stream i words)) (tables_of i)
unfolding linkedit_of
size_is i words =
    length-joined [] (linkedit_parts i words)
    ∙ (ap (λ (ps : List (List ℕ)). end_behind 0 (lens_of ps)) (parts_are i words)
    ∙ ap (λ (ls : List ℕ). end_behind 0 ls) (lens_are i (rebase_stream i words) (tables_of i) (names_in (tables_of i))))

-- ---- each is below the whole

behind-covers : (before len : ℕ) (lens : List ℕ) → len ≤ end_behind before (len ∷ lens)
unfolding end_behind
behind-covers before len lens = omega (arith, end_with-covers before len, end-rises (end_with before len) lens)

pub record AreBelow (i : Img) (rebase symbols indirect pool : ℕ) : Type 0 where
  pub symbols_below : 16 * symbols ≤ own_size i rebase symbols indirect pool
  pub indirect_below : 4 * indirect ≤ own_size i rebase symbols indirect pool
  pub pool_below : pool ≤ own_size i rebase symbols indirect pool

pub all_below : (i : Img) (rebase symbols indirect pool : ℕ) → AreBelow i rebase symbols indirect pool
unfolding end_behind
all_below i rebase symbols indirect pool =
    let a = end_with 0 rebase in
    let b = end_with a (length i.streams.bind) in
    let c = end_with b (length i.streams.lazy) in
    let d = end_with c (length i.streams.exports) in
    let e = end_with d (length i.streams.function_starts) in
    let f = end_with e (length i.streams.data_in_code) in
    let g = end_with f (16 * symbols) in
    let h = end_with g (4 * indirect) in
    record {
      symbols_below = behind-covers f (16 * symbols) (4 * indirect ∷ pool ∷ []);
      indirect_below = behind-covers g (4 * indirect) (pool ∷ []);
      pool_below = behind-covers h pool [];
    }

pub whole_size : (i : Img) (words : List Location) (rebase : ℕ) (t : Tabs) → rebase ≡ length (rebase_stream i words) → t ≡ tables_of i → table_size i rebase t ≡ length (linkedit_of i words)
whole_size i words rebase t rebase_is t_is = ap₂ (λ (r : ℕ) (u : Tabs). table_size i r u) rebase_is t_is ∙ sym (size_is i words)

pub sized : (i : Img) (rebase symbols indirect pool : ℕ) (t : Tabs) → symbols ≡ length t.symbols → indirect ≡ length t.indirect → pool ≡ pool_len (names_in t) → own_size i rebase symbols indirect pool ≡ table_size i rebase t
sized i rebase symbols indirect pool t a b c =
    ap₂ (λ (s n : ℕ). own_size i rebase s n pool) a b ∙ ap (λ (p : ℕ). own_size i rebase (length t.symbols) (length t.indirect) p) c
