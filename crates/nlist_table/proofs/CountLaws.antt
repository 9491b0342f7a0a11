-- How many entries are kept before each of them.
use Rattle.std.proofs.Common.{◌≡◌, ◌≤◌, ◌<◌, ◌+◌, ℕ, true, false, not, Bool, cond, List, [], ◌∷◌, ◌++◌, take, drop, length, map, get_or, refl, sym, ap, ◌∙◌, arith}
use Rattle.std.specs.List.{count_by, range_with_len}
use Rattle.std.proofs.Math.Seq.{take-add}
use Rattle.std.proofs.lemmas.List.Sums.{sum_by-append, sum_by-take-le, count_by_more_yes, count_by_more_no}
use Rattle.std.proofs.lemmas.List.FromFn.{length-map-range_with_len, get_or-map-range_with_len, map-range_with_len_more}
use Rattle.macho_image.specs.Nlists.{Nlist, is_stab, is_kept}
use Rattle.nlist_table.specs.Symbols.{kept_before, indices_of}
use Rattle.nlist_table.proofs.ListLaws.{count_front}

pub kept_before-le : (es : List Nlist) (k : ℕ) → kept_before es k ≤ k
kept_before-le es k = count_front is_kept es k

pub kept_before-all : (es : List Nlist) (k : ℕ) → kept_before es k ≤ count_by is_kept es
kept_before-all es k = sum_by-take-le (λ (e : Nlist). cond (is_kept e) 1 0) es k

pub kept_before-add : (es : List Nlist) (i n : ℕ) → kept_before es (i + n) ≡ kept_before es i + count_by is_kept (take n (drop i es))
kept_before-add es i n =
    ap (λ (l : List Nlist). count_by is_kept l) (take-add i n es) ∙ sum_by-append (λ (e : Nlist). cond (is_kept e) 1 0) (take i es) (take n (drop i es))

pub count_part : (es : List Nlist) (i n : ℕ) → count_by is_kept (take n (drop i es)) ≤ n
count_part es i n = count_front is_kept (drop i es) n

pub length-indices : (es : List Nlist) (before : List ℕ) → before ≡ indices_of es → length before ≡ length es + 1
length-indices es before is = ap length is ∙ length-map-range_with_len (kept_before es) 0 (length es + 1)

pub index_at : (es : List Nlist) (before : List ℕ) (k d : ℕ) → before ≡ indices_of es → k ≤ length es → get_or before k d ≡ kept_before es k
index_at es before k d is le =
    ap (λ (l : List ℕ). get_or l k d) is ∙ get_or-map-range_with_len (kept_before es) 0 (length es + 1) k k d (omega arith) (omega arith)

pub index_read : (es : List Nlist) (before : List ℕ) (k x : ℕ) → before ≡ indices_of es → k ≤ length es → x ≡ get_or before k x → x ≡ kept_before es k
index_read es before k x is le read = read ∙ index_at es before k x is le

-- the counts up to a place
pub record Counted (es : List Nlist) (i : ℕ) (before : List ℕ) (kept : ℕ) : Type 0 where
  pub counts : before ≡ map (kept_before es) (range_with_len 0 (i + 1))
  pub last : kept ≡ kept_before es i

pub kept_more : (es : List Nlist) (i : ℕ) (e : Nlist) (kind : ℕ) (stab : Bool) (kept now : ℕ) → e ≡ get_or es i e → kind ≡ e.kind → stab ≡ is_stab kind → now ≡ kept + cond (not stab) 1 0 → now ≡ kept + cond (is_kept (get_or es i e)) 1 0
kept_more es i e kind stab kept now item same test more =
    more ∙ ap (λ (b : Bool). kept + cond (not b) 1 0) (test ∙ (ap is_stab same ∙ ap (λ (x : Nlist). is_stab x.kind) item))

pub counted_more : (es : List Nlist) (i : ℕ) (d : Nlist) (before longer : List ℕ) (kept now : ℕ) → Counted es i before kept → i < length es → now ≡ kept + cond (is_kept (get_or es i d)) 1 0 → longer ≡ before ++ now ∷ []
    → Counted es (i + 1) longer now
counted_more es i d before longer kept now so_far inside more pushed =
    let is : now ≡ kept_before es (i + 1) = more ∙ (ap (λ (n : ℕ). n + cond (is_kept (get_or es i d)) 1 0) so_far.last ∙ step (is_kept (get_or es i d)) refl) in
    record {
      counts =
          pushed ∙ (ap (λ (l : List ℕ). l ++ now ∷ []) so_far.counts
          ∙ (ap (λ (n : ℕ). map (kept_before es) (range_with_len 0 (i + 1)) ++ n ∷ []) is ∙ sym (map-range_with_len_more (kept_before es) 0 (i + 1) (i + 1) (omega arith))));
      last = is;
    }
  where
    step : (b : Bool) → is_kept (get_or es i d) ≡ b → kept_before es i + cond b 1 0 ≡ kept_before es (i + 1)
    step true is = sym (count_by_more_yes is_kept es i d inside is)
    step false is = let e = count_by_more_no is_kept es i d inside is in omega (arith, e)
