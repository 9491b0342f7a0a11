-- The bytes of a head, part by part.
use Rattle.std.proofs.Common.{◌≡◌, ℕ, List, [], ◌++◌, length, sym, ap, ◌∙◌, append_assoc}
use Rattle.std.proofs.lemmas.List.{append-nil}
use Rattle.std.specs.List.{flat_map}
use Rattle.dsc_base.specs.Fields.{spelled}
use Rattle.dsc_base.specs.declared.fields.Field.{Field}
use Rattle.dsc_base.proofs.FieldLaws.{spelled-append}
use Rattle.cache_header.specs.Records.{Head}
use Rattle.cache_header.specs.Spelling.{header_fields, mapping_fields, image_table, text_table, path_bytes, head_bytes}

-- the fields of the header
abbrev pub told : Head → List Field
told h = header_fields (length h.images) h.slide_info h.uuid h.max_slide

-- four tables of fields and what follows them
spelled_parts : (a b c d : List Field) (paths rest : List ℕ)
    → (spelled (a ++ (b ++ (c ++ d))) ++ paths) ++ rest ≡ spelled a ++ (spelled b ++ (spelled c ++ (spelled d ++ (paths ++ rest))))
spelled_parts a b c d paths rest =
    let fields : spelled (a ++ (b ++ (c ++ d))) ≡ spelled a ++ (spelled b ++ (spelled c ++ spelled d)) =
    spelled-append a (b ++ (c ++ d))
    ∙ ap (λ (l : List ℕ). spelled a ++ l) (spelled-append b (c ++ d) ∙ ap (λ (l : List ℕ). spelled b ++ l) (spelled-append c d)) in
    ap (λ (l : List ℕ). (l ++ paths) ++ rest) fields ∙ simp append_assoc

pub head_parts : (h : Head) (rest : List ℕ) → head_bytes h ++ rest
    ≡ spelled (told h) ++ (spelled (flat_map mapping_fields h.mappings) ++ (spelled (image_table h.images) ++ (spelled (text_table h.images) ++ (flat_map path_bytes h.images ++ rest))))
unfolding head_bytes
head_parts h rest = spelled_parts (told h) (flat_map mapping_fields h.mappings) (image_table h.images) (text_table h.images) (flat_map path_bytes h.images) rest

joined : (a b c d paths : List ℕ) → (((a ++ b) ++ c) ++ d) ++ paths ≡ a ++ (b ++ (c ++ (d ++ (paths ++ []))))
joined a b c d paths = simp (append_assoc, append-nil)

-- the parts, appended one by one
pub head_joined : (h : Head) → (((spelled (told h) ++ spelled (flat_map mapping_fields h.mappings)) ++ spelled (image_table h.images)) ++ spelled (text_table h.images)) ++ flat_map path_bytes h.images
    ≡ head_bytes h
head_joined h =
    joined (spelled (told h)) (spelled (flat_map mapping_fields h.mappings)) (spelled (image_table h.images)) (spelled (text_table h.images)) (flat_map path_bytes h.images)
    ∙ (sym (head_parts h []) ∙ append-nil (head_bytes h))

pub head_appended : (h : Head) (a b c d e s t u v : List ℕ) → a ≡ spelled (told h) → b ≡ spelled (flat_map mapping_fields h.mappings) → c ≡ spelled (image_table h.images)
    → d ≡ spelled (text_table h.images) → e ≡ flat_map path_bytes h.images → s ≡ a ++ b → t ≡ s ++ c → u ≡ t ++ d → v ≡ u ++ e → v ≡ head_bytes h
head_appended h a b c d e s t u v a_is b_is c_is d_is e_is s_is t_is u_is v_is = let joined_is = head_joined h in cc
