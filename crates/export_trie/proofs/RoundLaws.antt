-- A trie that was written is read back.
use Rattle.std.proofs.Common.{◌≡◌, ◌≤◌, ◌<◌, ℕ, ◌+◌, ◌-◌, ◌^◌, List, [], ◌∷◌, ◌++◌, drop, length, get_or, map, refl, sym, ap, ap₂, subst, ◌∙◌, arith, inl, inr, false, append_assoc, length-append}
use Rattle.std.specs.Prelude.{nat_eq, nat_lt, Option, None, Ok, sum_by}
use Rattle.std.proofs.lemmas.Bool.{cond-true, cond-false, cases_Bool, ne_eqb, or_from, or_parts, ltb-false, le-ltb}
use Rattle.std.proofs.lemmas.List.{append-nil, drop_at, take_all}
use Rattle.std.proofs.lemmas.List.Sums.{sum_by-append}
use Rattle.dsc_base.specs.Limits.{name_limit, record_limit, export_names_limit}
use Rattle.export_trie.specs.declared.export.Export.{Export}
use Rattle.export_trie.specs.Nodes.{Terminal, Child, among, first_of, head_at, terminal_of}
use Rattle.export_trie.specs.Order.{Visit, visited, exported, export_of, names_len, too_many, entered, below, starts, trie_break}
use Rattle.export_trie.specs.Writing.{Forest, Bare, Branch, forest, own_terminal, going_on, trie_bytes, IsWritable, children_count, node_len, nodes_len, edges_bytes, node_bytes, nodes_bytes, rooted_bytes, terminal_bytes}
use Rattle.std.specs.declared.cmp.Ordering.TheVariants.{Less}
use Rattle.std.specs.Ordering.{nat_cmp, is_lt, ordering_reverse}
use Rattle.std.specs.Cmp.Lexicographic.{slice_cmp, nat_list_cmp_total}
use Rattle.std.specs.List.Sorted.{IsSortedBy}
use Rattle.std.proofs.lemmas.List.Sorted.{IsPermutation-refl}
use Rattle.export_trie.specs.Paths.{Member, AreExports}
use Rattle.export_trie.specs.Planning.{Rising, bytes_of_names, grown, HaveNumbers}
use Rattle.export_trie.proofs.PrefixLaws.{front_first}
use Rattle.export_trie.proofs.ListLaws.{comes_before, sorted_exports}
use Rattle.export_trie.proofs.PlanLaws.{left}
use Rattle.export_trie.proofs.EdgeLaws.{no_zero}
use Rattle.export_trie.proofs.WriteLaws.{writable-held, root-grown, rising_from}
use Rattle.export_trie.specs.Reading.{Reaches, Start, Next, IsWalked}
use Rattle.export_trie.proofs.ReadLaws.{opened-head, entered-new, node_at-parts, terminal_of-node}
use Rattle.export_trie.proofs.BreakLaws.{trie_break-none}
use Rattle.export_trie.proofs.SizeLaws.{length-node, length-nodes, length-rooted, trie_small}
use Rattle.export_trie.proofs.SpellLaws.{IsSpellable, IsSound, listed, head_back, edges_back}
use Rattle.export_trie.proofs.ListingLaws.{listing, listing-grown, own_first, own-spellable, IsSpelledExport, sound-grown}

-- a node at its place, among other bytes
pub record IsPlaced (whole : List ℕ) (at : ℕ) (piece : List ℕ) : Type 0 where
  pub before : List ℕ
  pub after : List ℕ
  pub is : whole ≡ before ++ (piece ++ after)
  pub place : length before ≡ at

placed-left : (whole : List ℕ) (at : ℕ) (a b : List ℕ) → IsPlaced whole at (a ++ b) → IsPlaced whole at a
placed-left whole at a b placed = record {
  before = placed.before;
  after = b ++ placed.after;
  is = placed.is ∙ ap (λ (l : List ℕ). placed.before ++ l) (append_assoc a b placed.after);
  place = placed.place;
}

placed-right : (whole : List ℕ) (at len : ℕ) (a b : List ℕ) → length a ≡ len → IsPlaced whole at (a ++ b) → IsPlaced whole (at + len) b
placed-right whole at len a b is placed = record {
  before = placed.before ++ a;
  after = placed.after;
  is =
      placed.is
      ∙ (ap (λ (l : List ℕ). placed.before ++ l) (append_assoc a b placed.after) ∙ sym (append_assoc placed.before a (b ++ placed.after)));
  place = omega (arith, length-append placed.before a, placed.place, is);
}

placed-drop : (whole : List ℕ) (at : ℕ) (piece : List ℕ) → (placed : IsPlaced whole at piece) → drop at whole ≡ piece ++ placed.after
placed-drop whole at piece placed = ap (drop at) placed.is ∙ drop_at placed.before (piece ++ placed.after) at placed.place

placed-within : (whole : List ℕ) (at : ℕ) (piece : List ℕ) → IsPlaced whole at piece → at + length piece ≤ length whole
placed-within whole at piece placed =
    omega (arith, ap length placed.is, length-append placed.before (piece ++ placed.after), length-append piece placed.after, placed.place)

-- limits of a whole list hold of its fronts
few-front : (front rest : List Export) → too_many (front ++ rest) ≡ false → too_many front ≡ false
unfolding too_many
few-front front rest few =
    let parts = or_parts (nat_lt record_limit (length (front ++ rest))) (nat_lt export_names_limit (sum_by names_len (front ++ rest))) few in
    or_from (nat_lt record_limit (length front)) (nat_lt export_names_limit (sum_by names_len front))
    (le-ltb record_limit (length front) (omega (arith, ltb-false record_limit (length (front ++ rest)) parts.0, length-append front rest)))
    (le-ltb export_names_limit (sum_by names_len front) (omega (arith, ltb-false export_names_limit (sum_by names_len (front ++ rest)) parts.1, sum_by-append names_len front rest)))

-- all nodes so far stand before this place
abbrev pub AreBefore : ℕ → List Visit → Type 0
AreBefore at [] = Unit {0}
AreBefore at (visit ∷ made) = (visit.1 < at) × AreBefore at made

AreBefore-more : (m n : ℕ) (made : List Visit) → m ≤ n → AreBefore m made → AreBefore n made
AreBefore-more m n [] le are = tt
AreBefore-more m n (visit ∷ made) le are = (omega (arith, are.0), AreBefore-more m n made le are.1)

AreBefore-not : (at : ℕ) (made : List Visit) → AreBefore at made → among at (visited made) ≡ false
AreBefore-not at [] are = refl
AreBefore-not at (visit ∷ made) are =
    or_from (nat_eq at visit.1) (among at (visited made)) (ne_eqb at visit.1 (omega (arith, are.0))) (AreBefore-not at made are.1)

-- one node
pub record IsVisited (whole : List ℕ) (made : List Visit) (visit : Visit) (terminal : Option Terminal) (children : List Child) : Type 0 where
  pub ok : entered whole made visit ≡ Ok children
  pub ends : terminal_of whole visit.1 ≡ terminal

node-visited : (whole : List ℕ) (made : List Visit) (name : List ℕ) (at depth : ℕ) (terminal : Option Terminal) (f : Forest) → IsPlaced whole at (node_bytes (at + node_len terminal f) terminal f) → at + node_len terminal f + nodes_len f ≤ length whole → length whole < 2 ^ 28 → IsSpellable terminal → IsSound 0 depth f → AreBefore at made → length name ≤ name_limit → too_many (exported whole made ++ export_of name terminal) ≡ false → IsVisited whole made (name, at) terminal (listed (at + node_len terminal f) f)
node-visited whole made name at depth terminal f placed inside small fits sound before short few =
    let edges : List ℕ = children_count f ∷ edges_bytes (at + node_len terminal f) f in
    let head : head_at (drop at whole) ≡ Ok (terminal, edges ++ placed.after) =
    ap head_at (placed-drop whole at (node_bytes (at + node_len terminal f) terminal f) placed ∙ append_assoc (terminal_bytes terminal) edges placed.after)
    ∙ head_back terminal (edges ++ placed.after) fits (omega (arith, inside, small)) in
    let children = edges_back (length whole) (at + node_len terminal f) depth f placed.after sound inside small in
    record {
      ok =
          entered-new whole made (name, at) (AreBefore-not at made before) short
          ∙ (opened-head whole (exported whole made) (name, at) terminal (edges ++ placed.after) head few ∙ children);
      ends = terminal_of-node whole at (terminal, listed (at + node_len terminal f) f) (node_at-parts whole at terminal (edges ++ placed.after) (listed (at + node_len terminal f) f) head children);
    }

-- a whole forest
pub record IsForestVisited (whole : List ℕ) (made : List Visit) (coming : List Visit) (found : List Export) (end len : ℕ) : Type 0 where
  pub made' : List Visit
  pub reached : Reaches whole made' coming
  pub exports : exported whole made' ≡ exported whole made ++ found
  pub before : AreBefore end made'
  pub count : length made' ≤ length made + len

-- the exports of a node, of what is below it and of its siblings, one after the other
list-own : (made own first next more all : List Export) → (made ++ (own ++ (first ++ next))) ++ more ≡ all → (made ++ own) ++ ((first ++ next) ++ more) ≡ all
list-own made own first next more all list =
    sym (append_assoc (made ++ own) (first ++ next) more) ∙ (ap (λ (l : List Export). l ++ more) (append_assoc made own (first ++ next)) ∙ list)

list-first : (made own here first next more all : List Export) → here ≡ made ++ own → (made ++ own) ++ ((first ++ next) ++ more) ≡ all → (here ++ first) ++ (next ++ more) ≡ all
list-first made own here first next more all is list =
    ap (λ (l : List Export). (l ++ first) ++ (next ++ more)) is
    ∙ (append_assoc (made ++ own) first (next ++ more)
    ∙ (ap (λ (l : List Export). (made ++ own) ++ l) (sym (append_assoc first next more)) ∙ list))

list-next : (here first below next more all : List Export) → below ≡ here ++ first → (here ++ first) ++ (next ++ more) ≡ all → (below ++ next) ++ more ≡ all
list-next here first below next more all is list = append_assoc below next more ∙ (ap (λ (l : List Export). l ++ (next ++ more)) is ∙ list)

list-all : (made own here first below next end : List Export) → here ≡ made ++ own → below ≡ here ++ first → end ≡ below ++ next → end ≡ made ++ (own ++ (first ++ next))
list-all made own here first below next end here_is below_is end_is =
    end_is
    ∙ (ap (λ (l : List Export). l ++ next) (below_is ∙ ap (λ (l : List Export). l ++ first) here_is)
    ∙ (append_assoc (made ++ own) first next ∙ append_assoc made own (first ++ next)))

forest-visited : (whole : List ℕ) (made coming : List Visit) (name : List ℕ) (at low depth : ℕ) (f : Forest) (more all : List Export) → Reaches whole made (map (below name) (listed at f) ++ coming) → IsPlaced whole at (nodes_bytes at f) → length whole < 2 ^ 28 → IsSound low depth f → AreBefore at made → length name ≡ depth → (exported whole made ++ listing name f) ++ more ≡ all → too_many all ≡ false → IsForestVisited whole made coming (listing name f) (at + nodes_len f) (nodes_len f)
unfolding exported
forest-visited whole made coming name at low depth Bare more all reached placed small sound before deep list few = record {
  made' = made;
  reached = reached;
  exports = sym (append-nil (exported whole made));
  before = AreBefore-more at (at + 0) made (omega arith) before;
  count = omega arith;
}
forest-visited whole made coming name at low depth (Branch edge t f next) more all reached placed small sound before deep list few =
    let here : Visit = (name ++ edge, at) in
    let size = node_len t f in
    let at' = at + (size + nodes_len f) in
    let node = node_bytes (at + size) t f in
    let inner = nodes_bytes (at + size) f in
    let outer = nodes_bytes at' next in
    let own = export_of (name ++ edge) t in
    let first_list = listing (name ++ edge) f in
    let next_list = listing name next in
    let whole_len = length-nodes at (Branch edge t f next) in
    let within = placed-within whole at (node ++ (inner ++ outer)) placed in
    let deep' : length (name ++ edge) ≡ depth + length edge = length-append name edge ∙ ap (λ (n : ℕ). n + length edge) deep in
    let list1 = list-own (exported whole made) own first_list next_list more all list in
    let visited = node-visited whole made (name ++ edge) at (depth + length edge) t f (placed-left whole at node (inner ++ outer) placed) (omega (arith, within, whole_len)) small sound.3 sound.5 before
    (omega (arith, deep', sound.4)) (few-front (exported whole made ++ own) ((first_list ++ next_list) ++ more) (ap too_many list1 ∙ few)) in
    let exported_is : exported whole (here ∷ made) ≡ exported whole made ++ own = ap (λ (o : Option Terminal). exported whole made ++ export_of (name ++ edge) o) visited.ends in
    let list2 = list-first (exported whole made) own (exported whole (here ∷ made)) first_list next_list more all exported_is list1 in
    let below_placed = placed-left whole (at + size) inner outer (placed-right whole at size node (inner ++ outer) (length-node (at + size) t f) placed) in
    let first = forest-visited whole (here ∷ made) (map (below name) (listed at' next) ++ coming) (name ++ edge) (at + size) 0 (depth + length edge) f (next_list ++ more) all
    (Next (listed (at + size) f) reached visited.ok) below_placed small sound.5 (omega arith, AreBefore-more at (at + size) made (omega arith) before) deep' list2 few in
    let next_placed : IsPlaced whole at' outer =
    subst (λ (n : ℕ). IsPlaced whole n outer) (let e : at + size + nodes_len f ≡ at' = omega arith in e)
    (placed-right whole (at + size) (nodes_len f) inner outer (length-nodes (at + size) f) (placed-right whole at size node (inner ++ outer) (length-node (at + size) t f) placed)) in
    let list3 = list-next (exported whole (here ∷ made)) first_list (exported whole first.made') next_list more all first.exports list2 in
    let second = forest-visited whole first.made' coming name at' (first_of edge) depth next more all first.reached next_placed small sound.6
    (subst (λ (n : ℕ). AreBefore n first.made') (let e : at + size + nodes_len f ≡ at' = omega arith in e) first.before) deep list3 few in
    record {
      made' = second.made';
      reached = second.reached;
      exports = list-all (exported whole made) own (exported whole (here ∷ made)) first_list (exported whole first.made') next_list (exported whole second.made') exported_is first.exports second.exports;
      before = subst (λ (n : ℕ). AreBefore n second.made') (let e : at' + nodes_len next ≡ at + (size + nodes_len f + nodes_len next) = omega arith in e) second.before;
      count = omega (arith, second.count, first.count);
    }

starts-some : (whole : List ℕ) → 0 < length whole → ([], 0) ∷ [] ≡ starts whole
starts-some [] some = absurd (omega arith)
starts-some (byte ∷ bytes) some = refl

-- and the whole trie
pub record IsReadBack (whole : List ℕ) (exports : List Export) : Type 0 where
  pub walked : IsWalked whole exports
  pub accepted : trie_break whole ≡ None

rooted-back : (exports : List Export) (t : Option Terminal) (f : Forest) → length (rooted_bytes t f) < 2 ^ 28 → IsSpellable t → IsSound 0 0 f → export_of [] t ++ listing [] f ≡ exports → too_many exports ≡ false → IsReadBack (rooted_bytes t f) exports
unfolding exported
rooted-back exports t f small fits sound list few = record {
  walked = record {
    made = visited.made';
    reached = visited.reached;
    listed = sym (visited.exports ∙ (ap (λ (l : List Export). l ++ listing [] f) exported_is ∙ list));
    few = few;
  };
  accepted = trie_break-none whole visited.made' (length whole - length visited.made') visited.reached (omega (arith, visited.count, whole_len));
}
  where
    whole : List ℕ
    whole = rooted_bytes t f

    root : Visit
    root = ([], 0)

    whole_len : length whole ≡ node_len t f + nodes_len f
    whole_len = length-rooted t f

    placed : IsPlaced whole 0 (node_bytes (node_len t f) t f ++ nodes_bytes (node_len t f) f)
    placed = record { before = []; after = []; is = sym (append-nil (node_bytes (node_len t f) t f ++ nodes_bytes (node_len t f) f)); place = refl }

    own_few : too_many ([] ++ export_of [] t) ≡ false
    own_few = few-front (export_of [] t) (listing [] f) (ap too_many list ∙ few)

    node_at_root : IsPlaced whole 0 (node_bytes (0 + node_len t f) t f)
    node_at_root = subst (λ (n : ℕ). IsPlaced whole 0 (node_bytes n t f)) (let e : node_len t f ≡ 0 + node_len t f = omega arith in e) (placed-left whole 0 (node_bytes (node_len t f) t f) (nodes_bytes (node_len t f) f) placed)

    root_visited : IsVisited whole [] root t (listed (0 + node_len t f) f)
    root_visited = node-visited whole [] [] 0 0 t f node_at_root (omega (arith, whole_len)) small fits sound tt (omega arith) own_few

    exported_is : exported whole (root ∷ []) ≡ export_of [] t
    exported_is = ap (λ (o : Option Terminal). export_of [] o) root_visited.ends

    nodes_placed : IsPlaced whole (0 + node_len t f) (nodes_bytes (0 + node_len t f) f)
    nodes_placed =
        subst (λ (n : ℕ). IsPlaced whole (0 + node_len t f) (nodes_bytes n f)) (let e : node_len t f ≡ 0 + node_len t f = omega arith in e)
        (placed-right whole 0 (node_len t f) (node_bytes (node_len t f) t f) (nodes_bytes (node_len t f) f) (length-node (node_len t f) t f) placed)

    begun : Reaches whole (root ∷ []) (map (below []) (listed (0 + node_len t f) f) ++ [])
    begun = Next (listed (0 + node_len t f) f) (subst (λ (vs : List Visit). Reaches whole [] vs) (sym (starts-some whole (omega (arith, whole_len)))) Start) root_visited.ok

    all : (exported whole (root ∷ []) ++ listing [] f) ++ [] ≡ exports
    all = append-nil (exported whole (root ∷ []) ++ listing [] f) ∙ (ap (λ (l : List Export). l ++ listing [] f) exported_is ∙ list)

    visited : IsForestVisited whole (root ∷ []) [] (listing [] f) (0 + node_len t f + nodes_len f) (nodes_len f)
    visited = forest-visited whole (root ∷ []) [] [] (0 + node_len t f) 0 0 f [] exports begun nodes_placed small sound (omega arith, tt) refl all few

going_root-Member : (first : Export) (exports : List Export) (e : Export) → Member e (going_on 0 first exports) → Member e (first ∷ exports)
going_root-Member first exports e member =
    elim (cases_Bool (nat_eq (length first.name) 0)) [
      | inl own ↦ inr (subst (λ (l : List Export). Member e l) (cond-true (nat_eq (length first.name) 0) exports (first ∷ exports) own) member)
      | inr other ↦ subst (λ (l : List Export). Member e l) (cond-false (nat_eq (length first.name) 0) exports (first ∷ exports) other) member
    ]

pub written-back : (exports : List Export) → IsWritable exports → HaveNumbers exports → IsReadBack (trie_bytes exports) exports
unfolding trie_bytes exported trie_break
written-back [] writable numbers = record { walked = record { made = []; reached = Start; listed = refl; few = writable.few }; accepted = refl }
written-back (first ∷ exports) writable numbers =
    let held = writable-held first exports writable in
    let ready = (held.ready first exports refl).0 in
    let list = going_on 0 first exports in
    let each : (e : Export) → Member e (first ∷ exports) → IsSpelledExport e = λ e member. record { writable = writable.each e member; number = numbers e member } in
    let grown_is = root-grown first exports ready in
    let sound = sound-grown (left 0 list) 0 0 list ready (λ e member. each e (going_root-Member first exports e member))
    (λ e member. no_zero e.name 0 (ready.plain e member) (ready.longer e member)) (omega arith) in
    let listing_is = listing-grown (left 0 list) 0 [] list ready (λ e member. refl) (omega arith) in
    let all : export_of [] (own_terminal 0 first) ++ listing [] (grown 0 list) ≡ first ∷ exports =
    ap (λ (l : List Export). export_of [] (own_terminal 0 first) ++ l) listing_is ∙ own_first 0 first exports (omega arith) in
    let small : length (rooted_bytes (own_terminal 0 first) (grown 0 list)) < 2 ^ 28 =
    subst (λ (f : Forest). length (rooted_bytes (own_terminal 0 first) f) < 2 ^ 28) grown_is (trie_small' first exports writable) in
    subst (λ (f : Forest). IsReadBack (rooted_bytes (own_terminal 0 first) f) (first ∷ exports)) (sym grown_is)
    (rooted-back (first ∷ exports) (own_terminal 0 first) (grown 0 list) small (own-spellable 0 first (each first (inl refl))) sound all writable.few)
  where
    trie_small' : (first : Export) (exports : List Export) → IsWritable (first ∷ exports) → length (rooted_bytes (own_terminal 0 first) (forest (bytes_of_names (first ∷ exports)) 0 (going_on 0 first exports))) < 2 ^ 28
    trie_small' first exports writable = trie_small (first ∷ exports) writable

-- names that rise are sorted
rises-sorted : (exports : List Export) → ((k : ℕ) (d : Export) → k + 1 < length exports → slice_cmp nat_cmp (get_or exports k d).name (get_or exports (k + 1) d).name ≡ Less) → IsSortedBy comes_before exports
rises-sorted exports rises k d low inside =
    ap is_lt (nat_list_cmp_total.antisymm (get_or exports (k + 1) d).name (get_or exports k d).name ∙ ap ordering_reverse (rises k d inside))

pub round_trip : (exports : List Export) (bytes : List ℕ) → bytes ≡ trie_bytes exports → IsWritable exports → HaveNumbers exports → (trie_break bytes ≡ None) × AreExports bytes exports
round_trip exports bytes is writable numbers =
    let back = written-back exports writable numbers in
    subst (λ (b : List ℕ). (trie_break b ≡ None) × AreExports b exports) (sym is)
    (back.accepted, sorted_exports (trie_bytes exports) exports exports back.walked (IsPermutation-refl exports) (rises-sorted exports writable.rises))

-- a list with these names in order is the only one
same_members : (l m : List Export) → Rising l → Rising m → ((e : Export) → Member e l → Member e m) → ((e : Export) → Member e m → Member e l) → l ≡ m
same_members [] [] up up' to from = refl
same_members [] (y ∷ m) up up' to from = absurd (from y (inl refl))
same_members (x ∷ l) [] up up' to from = absurd (to x (inl refl))
same_members (x ∷ l) (y ∷ m) up up' to from =
    let heads = same_heads (to x (inl refl)) (from y (inl refl)) in
    ap₂ (λ (e : Export) (r : List Export). e ∷ r) heads
    (same_members l m up.1 up'.1
    (λ e member. tail_of y m e (not_first x l up.0 e y (sym heads) member) (to e (inr member)))
    (λ e member. tail_of x l e (not_first y m up'.0 e x heads member) (from e (inr member))))
  where
    irreflexive : (a : List ℕ) → slice_cmp nat_cmp a a ≡ Less → ⊥
    irreflexive a less = front_first a (length a) (ap (slice_cmp nat_cmp a) (take_all (length a) a (omega arith)) ∙ less)

    same_heads : Member x (y ∷ m) → Member y (x ∷ l) → x ≡ y
    same_heads (inl is) in_l = is
    same_heads (inr in_m) (inl is) = sym is
    same_heads (inr in_m) (inr in_l) = absurd (irreflexive x.name (nat_list_cmp_total.trans x.name y.name x.name (up.0 y in_l) (up'.0 x in_m)))

    not_first : (x : Export) (l : List Export) → ((e : Export) → Member e l → slice_cmp nat_cmp x.name e.name ≡ Less) → (e y : Export) → y ≡ x → Member e l → e ≡ y → ⊥
    not_first x l above e y same member is =
        irreflexive x.name (ap (λ (z : Export). slice_cmp nat_cmp x.name z.name) (sym (is ∙ same)) ∙ above e member)

    tail_of : (y : Export) (m : List Export) (e : Export) → (e ≡ y → ⊥) → Member e (y ∷ m) → Member e m
    tail_of y m e other (inl is) = absurd (other is)
    tail_of y m e other (inr member) = member

pub one_list : (trie : List ℕ) (l m : List Export) → AreExports trie l → AreExports trie m → l ≡ m
one_list trie l m one other =
    same_members l m (rising_from l one.rises) (rising_from m other.rises) (λ e member. other.all e (one.only e member)) (λ e member. one.all e (other.only e member))
