-- Taking commands from the front, one at a time, against the list of all of them.
use Rattle.std.proofs.Common.{◌≡◌, ◌≤◌, ◌+◌, ◌%◌, ℕ, suc, Bool, true, false, List, [], ◌∷◌, ◌++◌, take, drop, length, refl, sym, ap, ap₂, ◌∙◌, arith, append_assoc, if◌then◌else◌, nat_lt, Some, None}
use Rattle.std.proofs.lemmas.List.{length-take-le}
use Rattle.std.proofs.lemmas.Bool.Decides.{nat_tests}
use Rattle.dsc_base.proofs.NumberLaws.{number_at-take}
use Rattle.macho_image.specs.Records.{Load}
use Rattle.macho_image.specs.Whole.{IsWhole}
use Rattle.dsc_base.specs.Numbers.{number_at}
use Rattle.macho_image.specs.Macho.{header_size, size_of, number_of, commands_in, loads_from}
use Rattle.macho_image.specs.Rules.{begins_whole, misshapen, least_size, breaks_command_shape}

-- what a whole command at the front says
pub record IsWholeFront (bytes : List ℕ) : Type 0 where
  pub head : 8 ≤ length bytes
  pub some : 8 ≤ size_of bytes
  pub aligned : size_of bytes % 8 ≡ 0
  pub within : size_of bytes ≤ length bytes
  pub least : least_size (number_of bytes) ≤ size_of bytes

pub begins_whole-front : (bytes : List ℕ) → begins_whole bytes ≡ true → IsWholeFront bytes
begins_whole-front bytes is = record {
  head = grind (arith, nat_tests);
  some = grind (arith, nat_tests);
  aligned = grind (arith, nat_tests);
  within = grind (arith, nat_tests);
  least = grind (arith, nat_tests);
}

-- after some commands: they are done, and so many are left in the rest
pub record IsSplit (n : ℕ) (area : List ℕ) (done : List Load) (left at : ℕ) (rest : List ℕ) : Type 0 where
  pub shape : misshapen n 32 area ≡ misshapen left at rest
  pub loads : loads_from 32 (commands_in n area) ≡ done ++ loads_from at (commands_in left rest)

pub split_start : (n left : ℕ) (area rest : List ℕ) (done : List Load) → done ≡ [] → left ≡ n → rest ≡ area → IsSplit n area done left 32 rest
split_start n left area rest done none all whole =
    record {
      shape = ap₂ (λ (k : ℕ) (r : List ℕ). misshapen k 32 r) (sym all) (sym whole);
      loads = ap₂ (λ (k : ℕ) (r : List ℕ). loads_from 32 (commands_in k r)) (sym all) (sym whole) ∙ ap (λ (ls : List Load). ls ++ loads_from 32 (commands_in left rest)) (sym none);
    }

pub split_more : (n : ℕ) (area : List ℕ) (done done' : List Load) (left left' at size : ℕ) (rest rest' piece : List ℕ) → IsSplit n area done left at rest
    → left ≡ suc left' → begins_whole rest ≡ true → size ≡ size_of rest → piece ≡ take size rest → rest' ≡ drop size rest
    → done' ≡ done ++ record { at = at; bytes = piece } ∷ [] → IsSplit n area done' left' (at + size) rest'
split_more n area done done' left left' at size rest rest' piece split more whole is piece_is rest_is done_is =
    let front = begins_whole-front rest whole in
    let same : take (size_of rest) rest ≡ piece = ap (λ (k : ℕ). take k rest) (sym is) ∙ sym piece_is in
    let later : drop (size_of rest) rest ≡ rest' = ap (λ (k : ℕ). drop k rest) (sym is) ∙ sym rest_is in
    let len : at + length piece ≡ at + size = ap (λ (k : ℕ). at + k) (ap length (sym same) ∙ length-take-le (size_of rest) rest front.within ∙ sym is) in
    let shape : misshapen left at rest ≡ misshapen left' (at + size) rest' =
    ap (λ (k : ℕ). misshapen k at rest) more
    ∙ ap (λ (b : Bool). if b then misshapen left' (at + size_of rest) (drop (size_of rest) rest) else Some at) whole
    ∙ ap₂ (λ (k : ℕ) (r : List ℕ). misshapen left' (at + k) r) (sym is) later in
    let loads : loads_from at (commands_in left rest) ≡ record { at = at; bytes = piece } ∷ loads_from (at + size) (commands_in left' rest') =
    ap (λ (k : ℕ). loads_from at (commands_in k rest)) more
    ∙ ap₂ (λ (c r : List ℕ). record { at = at; bytes = c } ∷ loads_from (at + length c) (commands_in left' r)) same later
    ∙ ap (λ (k : ℕ). record { at = at; bytes = piece } ∷ loads_from k (commands_in left' rest')) len in
    record {
      shape = split.shape ∙ shape;
      loads = split.loads ∙ (ap (λ (ls : List Load). done ++ ls) loads
          ∙ (sym (append_assoc done (record { at = at; bytes = piece } ∷ []) (loads_from (at + size) (commands_in left' rest')))
          ∙ ap (λ (ls : List Load). ls ++ loads_from (at + size) (commands_in left' rest')) (sym done_is)));
    }

-- a size that was answered, and one that was not
pub size_answered : (b : Bool) (n m : ℕ) → Some n ≡ (if b then Some m else None) → (b ≡ true) × (n ≡ m)
size_answered true n m e = (refl, cc)
size_answered false n m e = absurd (cc)

pub size_refused : (b : Bool) (m : ℕ) → None ≡ (if b then Some m else None) → b ≡ false
size_refused true m e = absurd (cc)
size_refused false m e = refl

-- the piece that is taken is a whole command
pub whole_piece : (bytes piece : List ℕ) (size n : ℕ) → begins_whole bytes ≡ true → size ≡ size_of bytes → piece ≡ take size bytes → n ≡ number_of piece → IsWhole n piece
whole_piece bytes piece size n whole is cut number =
    let front = begins_whole-front bytes whole in
    let len : length piece ≡ size = ap length cut ∙ length-take-le size bytes (omega arith) in
    let same : number_of piece ≡ number_of bytes = ap number_of cut ∙ number_at-take 4 size bytes 0 (omega arith) in
    let least : least_size n ≡ least_size (number_of bytes) = ap least_size (number ∙ same) in
    record { number = number; size = omega arith }

-- where no command begins, that is the first fault
pub misshapen_here : (left left' at : ℕ) (rest : List ℕ) → left ≡ suc left' → begins_whole rest ≡ false → misshapen left at rest ≡ Some at
misshapen_here left left' at rest more not_whole =
    ap (λ (k : ℕ). misshapen k at rest) more
    ∙ ap (λ (b : Bool). if b then misshapen left' (at + size_of rest) (drop (size_of rest) rest) else Some at) not_whole

-- commands that don't end past the header break the rule where they are misshapen
pub shape_inside : (header : List ℕ) → header_size header ≤ length header → breaks_command_shape header ≡ misshapen (number_at 4 header 16) 32 (drop 32 header)
shape_inside header inside =
    let not_past : nat_lt (length header) (header_size header) ≡ false = grind (arith, nat_tests) in
    ap (λ (b : Bool). if b then Some 20 else misshapen (number_at 4 header 16) 32 (drop 32 header)) not_past

-- what the loop knows of the rule at a piece where no command begins
pub shape_at : (header : List ℕ) (done : List Load) (n left left' at : ℕ) (rest : List ℕ) → header_size header ≤ length header → n ≡ number_at 4 header 16
    → IsSplit n (drop 32 header) done left at rest → left ≡ suc left' → begins_whole rest ≡ false → breaks_command_shape header ≡ Some at
shape_at header done n left left' at rest inside count split more not_whole =
    shape_inside header inside ∙ (ap (λ (k : ℕ). misshapen k 32 (drop 32 header)) (sym count) ∙ (split.shape ∙ misshapen_here left left' at rest more not_whole))
