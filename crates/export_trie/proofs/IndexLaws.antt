-- Exports by their names: a name that is new, and one that is looked up.
use Rattle.std.proofs.Common.{◌≡◌, ℕ, List, [], ◌∷◌, ◌++◌, refl, ap, ◌∙◌, inl, Bool, true, false, cond, sym, subst, append_assoc}
use Rattle.std.specs.Prelude.{Option, Some, None, option_map, nat_eq, Vec}
use Rattle.std.specs.Map.{lookup}
use Rattle.std.specs.declared.alloc.Global.{Global}
use Rattle.std.specs.declared.cmp.Ordering.TheVariants.{Less}
use Rattle.std.specs.Ordering.{nat_cmp, is_eq, ordering_reverse}
use Rattle.std.specs.Cmp.Lexicographic.{slice_cmp, pointwise, texts_ties, nat_list_cmp_total}
use Rattle.std.proofs.lemmas.Bool.{cond-false}
use Rattle.export_trie.specs.declared.export.Export.{Export}
use Rattle.export_trie.specs.declared.export.Target.{Target}
use Rattle.export_trie.specs.declared.index.Meaning.{Meaning}
use Rattle.export_trie.specs.Finding.{target_named}
use Rattle.export_trie.specs.Index.{export_named, exports_in}
use Rattle.export_trie.specs.Planning.{Rising}
use Rattle.export_trie.proofs.PathLaws.{Member-right}

-- a name that stands behind another one is not that one
apart : (a b : List ℕ) → slice_cmp nat_cmp a b ≡ Less → pointwise nat_eq b a ≡ false
apart a b less = texts_ties b a ∙ ap is_eq (nat_list_cmp_total.antisymm b a ∙ ap ordering_reverse less)

-- each name is new after those before it
pub new_name : (done : List Export) (export : Export) (rest : List Export) → Rising (done ++ export ∷ rest) → target_named done export.name ≡ None
unfolding target_named
new_name [] export rest rising = refl
new_name (first ∷ done) export rest rising =
    cond-false (pointwise nat_eq export.name first.name) (Some first.target) (target_named done export.name)
    (apart first.name export.name (rising.0 export (Member-right export done (export ∷ rest) (inl refl))))
    ∙ new_name done export rest rising.1

-- what a name leads to
abbrev pub target_meant : Meaning → Target
target_meant meaning = meaning.target

pub looked_up : (entries : List (Vec ℕ Global × Meaning)) (name : List ℕ) → option_map target_meant (lookup (λ (key : Vec ℕ Global). pointwise nat_eq name key.items) entries) ≡ target_named (exports_in entries) name
unfolding target_named
looked_up [] name = refl
looked_up (entry ∷ entries) name = go (pointwise nat_eq name entry.0.items) (looked_up entries name)
  where
    go : (b : Bool) → option_map target_meant (lookup (λ (key : Vec ℕ Global). pointwise nat_eq name key.items) entries) ≡ target_named (exports_in entries) name → option_map target_meant (cond b (Some entry.1) (lookup (λ (key : Vec ℕ Global). pointwise nat_eq name key.items) entries)) ≡ cond b (Some entry.1.target) (target_named (exports_in entries) name)
    go true later = refl
    go false later = later

none_meant : (found : Option Meaning) → option_map target_meant found ≡ None → found ≡ None
none_meant None none = refl
none_meant (Some meaning) none = absurd (let e : ◌≡◌ {A = Option Target} (Some meaning.target) None = none in cc)

-- a name that isn't there, by its key
pub not_there : (entries : List (Vec ℕ Global × Meaning)) (key : Vec ℕ Global) (name : List ℕ) → key.items ≡ name → target_named (exports_in entries) name ≡ None → lookup (λ (k : Vec ℕ Global). pointwise nat_eq key.items k.items) entries ≡ None
not_there entries key name is new =
    none_meant (lookup (λ (k : Vec ℕ Global). pointwise nat_eq key.items k.items) entries) (looked_up entries key.items ∙ (ap (target_named (exports_in entries)) is ∙ new))

-- one more export
pub one_more : (entries : List (Vec ℕ Global × Meaning)) (key : Vec ℕ Global) (export : Export) → key.items ≡ export.name → exports_in (entries ++ (key, record { flags = export.flags; target = export.target }) ∷ []) ≡ exports_in entries ++ export ∷ []
one_more [] key export is = ap (λ (l : List ℕ). let e : Export = record { name = l; flags = export.flags; target = export.target } in e ∷ []) is
one_more (entry ∷ entries) key export is = ap (λ (es : List Export). export_named entry ∷ es) (one_more entries key export is)

-- one export after the other
pub next_new : (done before rest whole : List Export) (export : Export) → Rising whole → done ++ before ≡ whole → before ≡ export ∷ rest → target_named done export.name ≡ None
next_new done before rest whole export rising all next =
    new_name done export rest (subst Rising (sym all ∙ ap (λ (l : List Export). done ++ l) next) rising)

pub next_kept : (done done' before rest whole : List Export) (export : Export) → done' ≡ done ++ export ∷ [] → done ++ before ≡ whole → before ≡ export ∷ rest → done' ++ rest ≡ whole
next_kept done done' before rest whole export more all next =
    ap (λ (l : List Export). l ++ rest) more
    ∙ (append_assoc done (export ∷ []) rest
    ∙ (ap (λ (l : List Export). done ++ l) (sym next) ∙ all))
