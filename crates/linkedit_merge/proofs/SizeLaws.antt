-- Sizes that are added up: one that exceeds the limit does so with all that follows.
use Rattle.std.proofs.Common.{◌≡◌, ◌≤◌, ◌<◌, ℕ, ◌+◌, List, length, drop, get_or, Bool, true, false, cond, refl, sym, subst, ap₂, arith, [], ◌∷◌}
use Rattle.std.proofs.lemmas.List.{at_drop_more, at_drop_all}
use Rattle.std.proofs.lemmas.Bool.{eqb-true}
use Rattle.std.specs.Prelude.{nat_eq, Result, Ok, Err, IfErr}
use Rattle.std.specs.Result.{IsErrAnd}
use Rattle.linkedit_merge.specs.declared.sizes.SizeFault.{SizeFault}
use Rattle.linkedit_merge.specs.declared.sizes.SizeFault.TheVariants.{TooLarge, Memory}
use Rattle.linkedit_merge.specs.Parts.{eight_up, end_with, end_behind, lens_of}
use Rattle.macho_image.specs.Records.{Img}
use Rattle.export_trie.specs.declared.export.Export.{Export}
use Rattle.nlist_table.specs.Symbols.{Tabs}
use Rattle.linkedit_merge.specs.Sizes.{Exceeds, all_streams, symbols_size, indirect_size, whole_size}
use Rattle.linkedit_merge.proofs.PartLaws.{end_with-rises}

exceeds_more : (limit less more : ℕ) (fault : SizeFault) → less ≤ more → Exceeds limit less fault → Exceeds limit more fault
exceeds_more limit less more TooLarge below h = omega (arith, below, h)
exceeds_more limit less more Memory below h = tt

-- the exit of a `?` at a part of the sum
pub exceeds_exit : {X : Type 0} (limit less more : ℕ) (r : Result X SizeFault) (fault : SizeFault) → less ≤ more → IsErrAnd r (λ g. g ≡ fault) → Exceeds limit less fault → IfErr r (Exceeds limit more)
exceeds_exit limit less more (Ok x) fault below is h = tt
exceeds_exit limit less more (Err g) fault below is h = exceeds_more limit less more g below (subst (λ (f : SizeFault). Exceeds limit less f) (sym is) h)

-- sizes one further on
pub end_more : (before : ℕ) (lens : List ℕ) (n : ℕ) → n < length lens → end_behind before (drop n lens) ≡ end_behind (end_with before (get_or lens n 0)) (drop (n + 1) lens)
unfolding end_behind
end_more before lens n within = at_drop_more (end_behind before) lens n 0 within

pub end_all : (before : ℕ) (lens : List ℕ) (n : ℕ) → length lens ≤ n → end_behind before (drop n lens) ≡ before
unfolding end_behind
end_all before lens n past = at_drop_all (end_behind before) lens n past

-- ---- each size is below the whole

long_with : (b : Bool) (before len : ℕ) → nat_eq len 0 ≡ b → len ≤ cond b before (eight_up before + len)
long_with true before len none = let e : len ≡ 0 = eqb-true len 0 none in omega arith
long_with false before len some = omega arith

pub end_with-covers : (before len : ℕ) → len ≤ end_with before len
unfolding end_with
end_with-covers before len = long_with (nat_eq len 0) before len refl

pub record AreBelow (a b c whole : ℕ) : Type 0 where
  pub streams : a ≤ whole
  pub symbols : b ≤ whole
  pub indirect : c ≤ whole

below_end : (streams symbols indirect pool : ℕ) → AreBelow streams symbols indirect (end_behind streams (symbols ∷ indirect ∷ pool ∷ []))
unfolding end_behind
below_end streams symbols indirect pool =
    let first = end_with streams symbols in
    let second = end_with first indirect in
    record {
      streams = omega (arith, end_with-rises streams symbols, end_with-rises first indirect, end_with-rises second pool);
      symbols = omega (arith, end_with-covers streams symbols, end_with-rises first indirect, end_with-rises second pool);
      indirect = omega (arith, end_with-covers first indirect, end_with-rises second pool);
    }

pub below_whole : (exports : List (List Export)) (images : List Img) (tables : List Tabs) (pool : ℕ)
    → AreBelow (end_behind 0 (lens_of (all_streams exports images))) (symbols_size tables) (indirect_size tables) (whole_size exports images tables pool)
unfolding whole_size
below_whole exports images tables pool = below_end (end_behind 0 (lens_of (all_streams exports images))) (symbols_size tables) (indirect_size tables) pool

pub whole_is : (exports : List (List Export)) (images : List Img) (tables : List Tabs) (pool streams symbols indirect : ℕ)
    → streams ≡ end_behind 0 (lens_of (all_streams exports images)) → symbols ≡ symbols_size tables → indirect ≡ indirect_size tables
    → end_behind streams (symbols ∷ indirect ∷ pool ∷ []) ≡ whole_size exports images tables pool
unfolding whole_size
whole_is exports images tables pool streams symbols indirect s_is y_is i_is =
    ap₂ (λ (s : ℕ) (l : List ℕ). end_behind s l) s_is (ap₂ (λ (y i : ℕ). y ∷ i ∷ pool ∷ []) y_is i_is)
