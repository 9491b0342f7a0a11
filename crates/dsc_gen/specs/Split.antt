-- Split-segment information, version 2, of deltas from the text's section to the data's.
use Rattle.std.specs.Prelude.{ℕ, suc, ◌-◌, Bool, ◌&&◌, ◌||◌, nat_eq, nat_lt, nat_le, if◌then◌else◌, List, [], ◌∷◌, ◌++◌, length}
use Rattle.std.specs.List.{prefix_len}
use Rattle.dsc_base.specs.Uleb.{uleb_bytes}
use Rattle.dsc_gen.specs.declared.split.Delta.{Delta}
use Rattle.dsc_gen.specs.Contents.{delta_place, target}

-- the deltas from number i on, by the words of their targets
abbrev pub deltas_from : ℕ → ℕ → List ℕ → List Delta
deltas_from size i [] = []
deltas_from size i (word ∷ more) = record { to = target size word; from = delta_place i } ∷ deltas_from size (suc i) more

-- sorted by where they lead to, and then by where they stand
abbrev pub is_before : Delta → Delta → Bool
is_before a b = nat_lt a.to b.to || (nat_eq a.to b.to && nat_le a.from b.from)

abbrev pub put_in_order : Delta → List Delta → List Delta
put_in_order d [] = d ∷ []
put_in_order d (e ∷ es) = if is_before d e then d ∷ (e ∷ es) else e ∷ put_in_order d es

abbrev pub in_order : List Delta → List Delta
in_order [] = []
in_order (d ∷ ds) = put_in_order d (in_order ds)

-- the deltas to one place, by where they stand
pub record Group : Type 0 where
  pub to : ℕ
  pub deltas : List Delta

abbrev pub alone : Delta → Group
alone d = record { to = d.to; deltas = d ∷ [] }

abbrev pub in_front : Delta → List Group → List Group
in_front d [] = alone d ∷ []
in_front d (g ∷ gs) = if nat_eq d.to g.to then record { to = d.to; deltas = d ∷ g.deltas } ∷ gs else alone d ∷ (g ∷ gs)

abbrev pub groups_of : List Delta → List Group
groups_of [] = []
groups_of (d ∷ ds) = in_front d (groups_of ds)

-- how many deltas at the front lead to a place
abbrev pub same_len : ℕ → List Delta → ℕ
same_len to ds = prefix_len (λ d. nat_eq d.to to) ds

-- where deltas stand, each by how much it is more than the one before it
unfoldable pub rises_from : ℕ → List Delta → List ℕ
rises_from last [] = []
rises_from last (d ∷ ds) = uleb_bytes (d.from - last) ++ rises_from d.from ds

-- a place by how far it lies behind the one before it, with one group, which is of kind 3, DELTA_32
abbrev pub group_bytes : ℕ → Group → List ℕ
group_bytes last g = uleb_bytes (g.to - last) ++ (1 ∷ 3 ∷ (uleb_bytes (length g.deltas) ++ rises_from 0 g.deltas))

unfoldable pub groups_bytes : ℕ → List Group → List ℕ
groups_bytes last [] = []
groups_bytes last (g ∷ gs) = group_bytes last g ++ groups_bytes g.to gs

-- the first byte, and one list from section 1 to section 2, or none
unfoldable pub stream_of : List Group → List ℕ
stream_of [] = 0x7F ∷ 0 ∷ []
stream_of (g ∷ gs) = 0x7F ∷ 1 ∷ 1 ∷ 2 ∷ (uleb_bytes (length (g ∷ gs)) ++ groups_bytes 0 (g ∷ gs))

unfoldable pub split_stream : ℕ → List ℕ → List ℕ
split_stream size targets = stream_of (groups_of (in_order (deltas_from size 0 targets)))
