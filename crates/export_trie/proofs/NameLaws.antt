-- Each name leads to one node, so exports have different names.
use Rattle.std.proofs.Common.{◌≡◌, ◌<◌, ℕ, List, [], ◌∷◌, ◌++◌, drop, length, refl, sym, ap, subst, ◌∙◌, arith, append_assoc}
use Rattle.std.proofs.lemmas.List.{append-nil, drop_at}
use Rattle.export_trie.specs.Nodes.{Child, first_of, children_of}
use Rattle.export_trie.specs.Paths.{Member, Spells, Root, Edge}
use Rattle.export_trie.proofs.PathLaws.{children_of-apart}

-- a path that grows at its front
pub data Leads (trie : List ℕ) : ℕ → List ℕ → ℕ → Type 0 where
  Here : {offset : ℕ} {name : List ℕ} {end : ℕ} → name ≡ [] → offset ≡ end → Leads trie offset name end
  Along : {offset : ℕ} {name : List ℕ} {end : ℕ} (edge rest : List ℕ) (next : ℕ) → name ≡ edge ++ rest → Member (edge, next) (children_of trie offset) → Leads trie next rest end → Leads trie offset name end

pub Leads-more : (trie : List ℕ) {offset : ℕ} {name : List ℕ} {middle : ℕ} (edge : List ℕ) (end : ℕ) → Leads trie offset name middle → Member (edge, end) (children_of trie middle) → Leads trie offset (name ++ edge) end
Leads-more trie edge end (Here {offset = offset} {name = name} {end = middle} empty same) member =
    Along edge [] end (ap (λ (l : List ℕ). l ++ edge) empty ∙ sym (append-nil edge))
    (subst (λ (o : ℕ). Member (edge, end) (children_of trie o)) (sym same) member) (Here refl refl)
Leads-more trie edge end (Along {offset = offset} {name = name} {end = middle} first rest next is step path) member =
    Along first (rest ++ edge) next (ap (λ (l : List ℕ). l ++ edge) is ∙ append_assoc first rest edge) step (Leads-more trie edge end path member)

pub leads : (trie : List ℕ) {name : List ℕ} {offset : ℕ} → Spells trie name offset → Leads trie 0 name offset
leads trie Root = Here refl refl
leads trie (Edge {name = name} {offset = offset} edge end path member) = Leads-more trie edge end (leads trie path) member

pub Leads-spelled : (trie : List ℕ) {offset : ℕ} {name : List ℕ} {end : ℕ} (front : List ℕ) → Leads trie offset name end → Spells trie front offset → Spells trie (front ++ name) end
Leads-spelled trie front (Here {offset = offset} {name = name} {end = end} empty same) path =
    subst (λ (l : List ℕ). Spells trie (front ++ l) end) (sym empty)
    (subst (λ (l : List ℕ). Spells trie l end) (sym (append-nil front)) (subst (λ (o : ℕ). Spells trie front o) same path))
Leads-spelled trie front (Along {offset = offset} {name = name} {end = end} edge rest next is step more) path =
    subst (λ (l : List ℕ). Spells trie l end) (append_assoc front edge rest ∙ ap (λ (l : List ℕ). front ++ l) (sym is))
    (Leads-spelled trie (front ++ edge) more (Edge edge next path step))

-- an edge of a node that begins the name is the only one
pub no_empty : (edge rest : List ℕ) → 0 < length edge → [] ≡ edge ++ rest → ⊥
no_empty [] rest some is = omega arith
no_empty (x ∷ edge) rest some is = cc

first_of-append : (edge rest : List ℕ) → 0 < length edge → first_of (edge ++ rest) ≡ first_of edge
first_of-append [] rest some = absurd (omega arith)
first_of-append (x ∷ edge) rest some = refl

pub same_child : (trie : List ℕ) (offset : ℕ) (a b : Child) (rest_a rest_b : List ℕ) → Member a (children_of trie offset) → Member b (children_of trie offset) → a.0 ++ rest_a ≡ b.0 ++ rest_b → (a ≡ b) × (rest_a ≡ rest_b)
same_child trie offset a b rest_a rest_b in_a in_b same =
    let apart = children_of-apart trie offset in
    let firsts : first_of a.0 ≡ first_of b.0 =
    sym (first_of-append a.0 rest_a (apart.some a in_a)) ∙ (ap first_of same ∙ first_of-append b.0 rest_b (apart.some b in_b)) in
    let one : a ≡ b = apart.one a b in_a in_b firsts in
    let edges : a.0 ≡ b.0 = ap (λ (c : Child). c.0) one in
    (one, sym (drop_at a.0 rest_a (length a.0) refl) ∙ (ap (λ (l : List ℕ). drop (length a.0) l) same ∙ drop_at b.0 rest_b (length a.0) (ap length (sym edges))))

pub one_end : (trie : List ℕ) {offset : ℕ} {name : List ℕ} {end : ℕ} → Leads trie offset name end → (other : ℕ) → Leads trie offset name other → end ≡ other
one_end trie (Here {offset = offset} {name = name} {end = end} empty same) other (Here empty' same') = sym same ∙ same'
one_end trie (Here {offset = offset} {name = name} {end = end} empty same) other (Along edge rest next is step more) =
    absurd (no_empty edge rest ((children_of-apart trie offset).some (edge, next) step) (sym empty ∙ is))
one_end trie (Along {offset = offset} {name = name} {end = end} edge rest next is step more) other (Here empty same) =
    absurd (no_empty edge rest ((children_of-apart trie offset).some (edge, next) step) (sym empty ∙ is))
one_end trie (Along {offset = offset} {name = name} {end = end} edge rest next is step more) other (Along edge' rest' next' is' step' more') =
    let same = same_child trie offset (edge, next) (edge', next') rest rest' step step' (sym is ∙ is') in
    one_end trie more other
    (subst (λ (l : List ℕ). Leads trie next l other) (sym same.1)
    (subst (λ (o : ℕ). Leads trie o rest' other) (ap (λ (c : Child). c.1) (sym same.0)) more'))

pub one_node : (trie : List ℕ) (name : List ℕ) (a b : ℕ) → Spells trie name a → Spells trie name b → a ≡ b
one_node trie name a b to_a to_b = one_end trie (leads trie to_a) b (leads trie to_b)
