-- Tables as they are read, entry after entry.
use Rattle.std.proofs.Common.{◌≡◌, ℕ, suc, ◌+◌, List, [], ◌∷◌, ◌++◌, map, sym, ap, ap₂, ◌∙◌, arith, append_assoc}
use Rattle.std.specs.List.{range_with_len}
use Rattle.std.proofs.lemmas.List.{append-nil}
use Rattle.std.proofs.lemmas.List.FromFn.{map-range_with_len_more}
use Rattle.cache_header.specs.declared.head.Mapping.{Mapping}
use Rattle.cache_header.specs.Records.{Entry}
use Rattle.cache_header.specs.Reading.{mapping_at, mappings_from, image_at}

pub mappings_more : (done new whole : List Mapping) (c : List ℕ) (n m at next : ℕ) (x : Mapping) → n ≡ suc m → next ≡ at + 32 → x ≡ mapping_at c at → new ≡ done ++ x ∷ []
    → done ++ mappings_from n c at ≡ whole → new ++ mappings_from m c next ≡ whole
mappings_more done new whole c n m at next x n_is next_is x_is pushed so_far =
    let split : mappings_from n c at ≡ x ∷ mappings_from m c next =
    ap (λ (k : ℕ). mappings_from k c at) n_is ∙ ap₂ (λ (y : Mapping) (k : ℕ). y ∷ mappings_from m c k) (sym x_is) (sym next_is) in
    ap (λ (l : List Mapping). l ++ mappings_from m c next) pushed
    ∙ (append_assoc done (x ∷ []) (mappings_from m c next) ∙ (ap (λ (l : List Mapping). done ++ l) (sym split) ∙ so_far))

pub mappings_end : (done whole : List Mapping) (c : List ℕ) (n at : ℕ) → n ≡ 0 → done ++ mappings_from n c at ≡ whole → done ≡ whole
mappings_end done whole c n at n_is so_far =
    sym (append-nil done) ∙ (ap (λ (k : ℕ). done ++ mappings_from k c at) (sym n_is) ∙ so_far)

pub images_more : (c : List ℕ) (k : ℕ) (old new : List Entry) (e : Entry) → old ≡ map (image_at c) (range_with_len 0 k) → e ≡ image_at c k → new ≡ old ++ e ∷ []
    → new ≡ map (image_at c) (range_with_len 0 (k + 1))
images_more c k old new e old_is e_is pushed =
    let first : 0 + k ≡ k = omega arith in
    pushed ∙ (ap₂ (λ (l : List Entry) (x : Entry). l ++ x ∷ []) old_is e_is ∙ sym (map-range_with_len_more (image_at c) 0 k k first))
