-- What clap's walk over the words comes to.
use Rattle.std.proofs.Common.{◌≡◌, List, [], ◌∷◌, Bool, true, false, Option, Some, None, refl, ap, sym, ◌∙◌, subst}
use Rattle.std.specs.Prelude.{fold}
use Rattle.clap.specs.Kinds.{Kinds, or_else}
use Rattle.clap.specs.Walk.{Held, Row, Text, Waiting, Walk, settled_rows, walked}
use Rattle.clap.specs.Faults.{settle_fault, turn_fault, walk_fault}
use Rattle.dsc_tool.specs.WordParts.{Parts}
use Rattle.dsc_tool.proofs.Clap.Held.{Seen, rules, rows_of}
use Rattle.dsc_tool.proofs.Clap.Walked.{Pending, Suits, Fails, state, counts, counted, shape, settles, unsettled, counted_rows}
use Rattle.dsc_tool.proofs.Clap.OptionTurns.{fails_first, fails_as}
use Rattle.dsc_tool.proofs.Clap.Fronts.{parts_of}

abbrev pub walk_end : Option Text → Walk → List Text → Held
walk_end long w words = (fold (walked (rules long) []) w words).held

-- the faults of the walk, and of what is pending at its end
unfoldable pub faults_end : Option Text → Walk → List Text → Kinds
faults_end long w words = or_else (walk_fault (shape long) [] w words) (settle_fault (rules long) false (walk_end long w words))

-- the rows at its end
abbrev pub rows_end : Option Text → Walk → List Text → List Row
rows_end long w words = settled_rows (rules long) (walk_end long w words).pending (walk_end long w words).rows

-- the words are taken, and these are their parts
pub record Taken (long : Option Text) (w : Walk) (words : List Text) (p : Parts) : Type 0 where
  pub faultless : faults_end long w words ≡ []
  pub seen : Seen
  pub rows : rows_end long w words ≡ rows_of seen
  pub parts : parts_of seen ≡ p

abbrev pub Comes : Option Text → Walk → List Text → Option Parts → Type 0
Comes long w words None = Fails (faults_end long w words)
Comes long w words (Some p) = Taken long w words p

pub comes_as : (long : Option Text) (w : Walk) (words : List Text) (x y : Option Parts) → x ≡ y → Comes long w words y → Comes long w words x
comes_as long w words x y same comes = subst (λ (z : Option Parts). Comes long w words z) (sym same) comes

-- a word that is taken
pub same_faults : (long : Option Text) (w after : Walk) (word : Text) (rest : List Text) → turn_fault (shape long) [] w word ≡ [] → walked (rules long) [] w word ≡ after
    → faults_end long w (word ∷ rest) ≡ faults_end long after rest
unfolding faults_end walk_fault
same_faults long w after word rest none_here is =
    ap (λ (k : Kinds). or_else (or_else k (walk_fault (shape long) [] (walked (rules long) [] w word) rest)) (settle_fault (rules long) false (walk_end long (walked (rules long) [] w word) rest))) none_here
    ∙ ap (λ (v : Walk). or_else (walk_fault (shape long) [] v rest) (settle_fault (rules long) false (walk_end long v rest))) is

pub stepped : (long : Option Text) (w after : Walk) (word : Text) (rest : List Text) (x : Option Parts) → turn_fault (shape long) [] w word ≡ [] → walked (rules long) [] w word ≡ after
    → Comes long after rest x → Comes long w (word ∷ rest) x
stepped long w after word rest None none_here is fails = fails_as _ _ (same_faults long w after word rest none_here is) fails
stepped long w after word rest (Some p) none_here is taken =
    record {
      faultless = same_faults long w after word rest none_here is ∙ taken.faultless;
      seen = taken.seen;
      rows = ap (λ (v : Walk). rows_end long v rest) is ∙ taken.rows;
      parts = taken.parts;
    }

-- a word that is refused
pub halted : (long : Option Text) (w : Walk) (word : Text) (rest : List Text) → Fails (turn_fault (shape long) [] w word) → Fails (faults_end long w (word ∷ rest))
unfolding faults_end walk_fault
halted long w word rest fails = fails_first _ _ (fails_first _ _ fails)

-- ---- what is pending at the end

pub ends : (long : Option Text) (b : Bool) (waiting : Waiting) (p : Pending) (e : Seen) → Suits long p → counts p e ≡ true → Taken long (state b waiting p e) [] (parts_of (counted p e))
unfolding faults_end walk_fault
ends long b waiting p e suits ok = record { faultless = settles long p e suits ok; seen = counted p e; rows = counted_rows long p e suits ok; parts = refl }

pub ends_unsettled : (long : Option Text) (b : Bool) (waiting : Waiting) (p : Pending) (e : Seen) → Suits long p → counts p e ≡ false → Fails (faults_end long (state b waiting p e) [])
unfolding faults_end walk_fault
ends_unsettled long b waiting p e suits open_still = unsettled long p e suits open_still
