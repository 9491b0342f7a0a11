-- Groups of sorted deltas.
use Rattle.std.proofs.Common.{◌≡◌, ◌≤◌, ◌<◌, ◌+◌, ◌-◌, ℕ, suc, true, false, List, [], ◌∷◌, ◌++◌, take, drop, length, get_or, refl, sym, ap, ap₂, ◌∙◌, arith, inl, inr, nat_eq}
use Rattle.std.proofs.lemmas.Bool.{cond-true, cond-false, cases_Bool}
use Rattle.std.proofs.lemmas.Bool.Decides.{nat_tests}
use Rattle.std.proofs.lemmas.List.{at_drop_more, at_drop_all}
use Rattle.dsc_base.specs.Uleb.{uleb_bytes}
use Rattle.dsc_gen.specs.declared.split.Delta.{Delta}
use Rattle.dsc_gen.specs.Split.{Group, alone, in_front, groups_of, same_len, rises_from, groups_bytes, stream_of}
use Rattle.dsc_gen.proofs.ListingLaws.{made_more, made_all}

abbrev first_group : Delta → List Delta → Group
first_group d ds = record { to = d.to; deltas = d ∷ take (same_len d.to ds) ds }

one_more : (n : ℕ) → 1 + n ≡ suc n
one_more n = omega arith

-- the first group takes the deltas to one place, and the others go on behind them
pub groups_first : (d : Delta) (ds : List Delta) → groups_of (d ∷ ds) ≡ first_group d ds ∷ groups_of (drop (same_len d.to ds) ds)
groups_first d [] = refl
groups_first d (e ∷ es) =
    ap (in_front d) (groups_first e es)
    ∙ elim (cases_Bool (nat_eq e.to d.to)) as (λ _. in_front d (first_group e es ∷ groups_of (drop (same_len e.to es) es)) ≡ first_group d (e ∷ es) ∷ groups_of (drop (same_len d.to (e ∷ es)) (e ∷ es))) [
      | inl same ↦
          let is : e.to ≡ d.to = grind (arith, nat_tests) in
          let back : nat_eq d.to e.to ≡ true = grind (arith, nat_tests) in
          let len : same_len d.to (e ∷ es) ≡ suc (same_len e.to es) =
          cond-true (nat_eq e.to d.to) (1 + same_len d.to es) 0 same ∙ (ap (λ (t : ℕ). 1 + same_len t es) (sym is) ∙ one_more (same_len e.to es)) in
          cond-true (nat_eq d.to e.to) (record { to = d.to; deltas = d ∷ (e ∷ take (same_len e.to es) es) } ∷ groups_of (drop (same_len e.to es) es)) (alone d ∷ (first_group e es ∷ groups_of (drop (same_len e.to es) es))) back
          ∙ ap (λ (n : ℕ). (let g : Group = record { to = d.to; deltas = d ∷ take n (e ∷ es) } in g) ∷ groups_of (drop n (e ∷ es))) (sym len)
      | inr other ↦
          let back : nat_eq d.to e.to ≡ false = grind (arith, nat_tests) in
          let len : same_len d.to (e ∷ es) ≡ 0 = cond-false (nat_eq e.to d.to) (1 + same_len d.to es) 0 other in
          cond-false (nat_eq d.to e.to) (record { to = d.to; deltas = d ∷ (e ∷ take (same_len e.to es) es) } ∷ groups_of (drop (same_len e.to es) es)) (alone d ∷ (first_group e es ∷ groups_of (drop (same_len e.to es) es))) back
          ∙ (ap (λ (gs : List Group). alone d ∷ gs) (sym (groups_first e es))
          ∙ ap (λ (n : ℕ). (let g : Group = record { to = d.to; deltas = d ∷ take n (e ∷ es) } in g) ∷ groups_of (drop n (e ∷ es))) (sym len))
    ]

-- where there is no delta
abbrev pub no_delta : Delta
no_delta = record { to = 0; from = 0 }

leads_itself : (n : ℕ) → nat_eq n n ≡ true
leads_itself n = grind (arith, nat_tests)

-- the first delta goes with itself
len_first : (d : Delta) (ds : List Delta) → same_len d.to (d ∷ ds) ≡ suc (same_len d.to ds)
len_first d ds = cond-true (nat_eq d.to d.to) (1 + same_len d.to ds) 0 (leads_itself d.to) ∙ one_more (same_len d.to ds)

pub len_some : (rest : List Delta) (d : Delta) → 1 ≤ length rest → 1 ≤ same_len (get_or rest 0 d).to rest
len_some [] d some = absurd (omega (arith, some))
len_some (e ∷ es) d some = omega (arith, len_first e es)

abbrev group_of : ℕ → ℕ → List Delta → Group
group_of to n rest = record { to = to; deltas = take n rest }

groups_split : (rest : List Delta) (d : Delta) → 1 ≤ length rest
    → groups_of rest ≡ group_of (get_or rest 0 d).to (same_len (get_or rest 0 d).to rest) rest ∷ groups_of (drop (same_len (get_or rest 0 d).to rest) rest)
groups_split [] d some = absurd (omega (arith, some))
groups_split (e ∷ es) d some =
    groups_first e es ∙ ap (λ (n : ℕ). group_of e.to n (e ∷ es) ∷ groups_of (drop n (e ∷ es))) (sym (len_first e es))

pub counted_more : (rest : List Delta) (d : Delta) (n count whole : ℕ) (behind : List Delta) → 1 ≤ length rest → n ≡ same_len (get_or rest 0 d).to rest → behind ≡ drop n rest
    → count + length (groups_of rest) ≡ whole → (count + 1) + length (groups_of behind) ≡ whole
counted_more rest d n count whole behind some n_is behind_is so_far =
    let all : length (groups_of rest) ≡ suc (length (groups_of behind)) =
    ap (λ (gs : List Group). length gs) (groups_split rest d some) ∙ ap (λ (l : List Delta). suc (length (groups_of l))) (sym (behind_is ∙ ap (λ (k : ℕ). drop k rest) n_is)) in
    omega (arith, all, so_far)

pub none_counted : (rest : List Delta) → length rest < 1 → length (groups_of rest) ≡ 0
none_counted [] none = refl
none_counted (d ∷ ds) none = absurd (omega (arith, none))

pub groups_more : (rest : List Delta) (d : Delta) (n last step : ℕ) (group behind : List Delta) (done new whole : List ℕ) → 1 ≤ length rest → n ≡ same_len (get_or rest 0 d).to rest
    → group ≡ take n rest → behind ≡ drop n rest → step ≡ (get_or rest 0 d).to - last → done ++ groups_bytes last (groups_of rest) ≡ whole
    → new ≡ done ++ (uleb_bytes step ++ (1 ∷ 3 ∷ (uleb_bytes (length group) ++ rises_from 0 group))) → new ++ groups_bytes (get_or rest 0 d).to (groups_of behind) ≡ whole
unfolding groups_bytes
groups_more rest d n last step group behind done new whole some n_is group_is behind_is step_is so_far is =
    let to : ℕ = (get_or rest 0 d).to in
    let piece : ℕ → List Delta → List ℕ = λ s g. uleb_bytes s ++ (1 ∷ 3 ∷ (uleb_bytes (length g) ++ rises_from 0 g)) in
    made_more done new (piece step group) (groups_bytes last (groups_of rest)) (groups_bytes to (groups_of behind)) whole so_far
    (ap (groups_bytes last) (groups_split rest d some)
    ∙ (ap₂ (λ (s : ℕ) (g : List Delta). piece s g ++ groups_bytes to (groups_of (drop (same_len to rest) rest))) (sym step_is) (sym (group_is ∙ ap (λ (k : ℕ). take k rest) n_is))
    ∙ ap (λ (l : List Delta). piece step group ++ groups_bytes to (groups_of l)) (sym (behind_is ∙ ap (λ (k : ℕ). drop k rest) n_is))))
    is

pub groups_all : (rest : List Delta) (last : ℕ) (done whole : List ℕ) → length rest < 1 → done ++ groups_bytes last (groups_of rest) ≡ whole → done ≡ whole
unfolding groups_bytes
groups_all [] last done whole none so_far = made_all done [] whole so_far refl
groups_all (d ∷ ds) last done whole none so_far = absurd (omega (arith, none))

pub rises_more : (ds : List Delta) (d : Delta) (i last step : ℕ) (done new whole : List ℕ) → i < length ds → step ≡ (get_or ds i d).from - last → done ++ rises_from last (drop i ds) ≡ whole
    → new ≡ done ++ uleb_bytes step → new ++ rises_from (get_or ds i d).from (drop (i + 1) ds) ≡ whole
unfolding rises_from
rises_more ds d i last step done new whole lt step_is so_far is =
    made_more done new (uleb_bytes step) (rises_from last (drop i ds)) (rises_from (get_or ds i d).from (drop (i + 1) ds)) whole so_far
    (at_drop_more (rises_from last) ds i d lt ∙ ap (λ (s : ℕ). uleb_bytes s ++ rises_from (get_or ds i d).from (drop (i + 1) ds)) (sym step_is)) is

pub rises_all : (ds : List Delta) (i last : ℕ) (done whole : List ℕ) → length ds ≤ i → done ++ rises_from last (drop i ds) ≡ whole → done ≡ whole
unfolding rises_from
rises_all ds i last done whole le so_far = made_all done (rises_from last (drop i ds)) whole so_far (at_drop_all (rises_from last) ds i le)

pub stream_none : (ds : List Delta) → length ds ≡ 0 → stream_of (groups_of ds) ≡ 0x7F ∷ 0 ∷ []
unfolding stream_of
stream_none [] none = refl
stream_none (d ∷ ds) none = absurd (omega (arith, none))

pub stream_some : (ds : List Delta) → 1 ≤ length ds → stream_of (groups_of ds) ≡ 0x7F ∷ 1 ∷ 1 ∷ 2 ∷ (uleb_bytes (length (groups_of ds)) ++ groups_bytes 0 (groups_of ds))
unfolding stream_of
stream_some [] some = absurd (omega (arith, some))
stream_some (d ∷ ds) some =
    let first = groups_first d ds in
    ap stream_of first ∙ ap (λ (gs : List Group). 0x7F ∷ 1 ∷ 1 ∷ 2 ∷ (uleb_bytes (length gs) ++ groups_bytes 0 gs)) (sym first)
