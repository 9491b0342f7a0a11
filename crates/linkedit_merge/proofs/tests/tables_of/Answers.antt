-- The tables of one image more.
use Rattle.std.proofs.Common.{◌≡◌, ◌<◌, ℕ, ◌+◌, List, [], ◌∷◌, ◌++◌, length, get_or, sym, ap, ◌∙◌, subst, arith, below_more}
use Rattle.std.proofs.lemmas.List.{get_or_append_left, get_or_push, length_push, get_or_read}
use Rattle.std.proofs.lemmas.Option.{slice_get_within, get_or_from_slice_get}
use Rattle.macho_image.specs.Records.{Img}
use Rattle.nlist_table.specs.Symbols.{Tabs}
use Rattle.nlist_table.specs.Kept.{AreTables}
use Rattle.linkedit_merge.proofs.tests.tables_of.Goals as goal

kept : (tables : List Tabs) (t : Tabs) (n k : ℕ) (d : Tabs) → length tables ≡ n → k < n → get_or tables k d ≡ get_or (tables ++ t ∷ []) k d
kept tables t n k d long lt = sym (get_or_append_left tables (t ∷ []) d k (omega arith))

each_more : (images : List Img) (tables tables' : List Tabs) (n : ℕ) (image : Img) (t : Tabs) → length tables ≡ n → n < length images → image ≡ get_or images n image → tables' ≡ tables ++ t ∷ []
    → AreTables (length image.sections) t → ((k : ℕ) → k < n → (i : Img) (d : Tabs) → AreTables (length (get_or images k i).sections) (get_or tables k d))
    → (k : ℕ) → k < n + 1 → (i : Img) (d : Tabs) → AreTables (length (get_or images k i).sections) (get_or tables' k d)
each_more images tables tables' n image t long within is grown sound before =
    let P : ℕ → Type 0 = λ k. (i : Img) (d : Tabs) → AreTables (length (get_or images k i).sections) (get_or tables' k d) in
    below_more P n
    (λ k lt i d. subst (AreTables (length (get_or images k i).sections)) (kept tables t n k d long lt ∙ ap (λ (l : List Tabs). get_or l k d) (sym grown)) (before k lt i d))
    (λ i d. subst (AreTables (length (get_or images n i).sections)) (sym (ap (λ (l : List Tabs). get_or l n d) grown ∙ get_or_push tables t d n long))
    (subst (λ (x : Img). AreTables (length x.sections) t) (get_or_read images n image within is i) sound))

pub loop-image-preserved : goal.loop-image-preserved
loop-image-preserved c = record {
  many = ap (λ (l : List Tabs). length l) c.in_ok-push.ensures.items ∙ (length_push c.loop-image.tables.items c.in_ok-read.read ∙ ap (λ (n : ℕ). n + 1) c.loop-image.invariant.many);
  each = each_more c.args.images.now c.loop-image.tables.items c.push.new.self.items c.loop-image.image-index c.image-item.result c.in_ok-read.read c.loop-image.invariant.many c.loop-image-test.true c.image-item.is
      c.in_ok-push.ensures.items c.in_ok-read.ensures c.loop-image.invariant.each;
}

pub returns : goal.returns
returns c = record {
  many = omega (arith, c.loop-image.invariant.many, c.loop-image-test.false);
  each = λ k image t image_is table_is.
      let lt = slice_get_within c.loop-image.tables.items k t table_is in
      let own = c.loop-image.invariant.each k (omega (arith, c.loop-image.invariant.many)) image t in
      subst (λ (x : Img). AreTables (length x.sections) t) (get_or_from_slice_get c.args.images.now k image image image_is)
      (subst (AreTables (length (get_or c.args.images.now k image).sections)) (get_or_from_slice_get c.loop-image.tables.items k t t table_is) own);
}
