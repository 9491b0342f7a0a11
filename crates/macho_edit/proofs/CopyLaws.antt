-- Copying the commands of a header one by one, each moved or left out.
use Rattle.std.proofs.Common.{◌≡◌, ◌≤◌, ◌<◌, ◌^◌, ℕ, zero, suc, ◌+◌, Bool, true, false, not, if◌then◌else◌, nat_lt, Option, Some, None, List, [], ◌∷◌, ◌++◌, take, drop, length, refl, sym, ap, ap₂, ◌∙◌, arith, append_assoc, get_or}
use Rattle.std.specs.Prelude.{filter}
use Rattle.std.specs.List.{concat}
use Rattle.std.proofs.lemmas.List.{append-nil}
use Rattle.std.proofs.lemmas.Bool.{cond-true, cond-false}
use Rattle.dsc_base.specs.Numbers.{number_at}
use Rattle.dsc_base.proofs.NumberLaws.{number_at-lt}
use Rattle.macho_image.specs.declared.place.Moved.{Moved}
use Rattle.macho_image.specs.Records.{Load}
use Rattle.macho_image.specs.Macho.{number_of, size_of, commands_in, commands_of, loads_of, pieces_of, header_size}
use Rattle.macho_image.specs.Rules.{misshapen, breaks_command_shape}
use Rattle.macho_image.proofs.Images.{pieces_of-loads_from}
use Rattle.macho_edit.specs.declared.spots.LinkSpots.{LinkSpots}
use Rattle.macho_edit.specs.Cached.{is_dropped, is_kept, moved_command, moves_behind, moved_commands, kept_commands}

-- the commands that are not left out, of those that remain
abbrev pub kept_of : List Load → List (List ℕ)
kept_of rest = filter is_kept (pieces_of rest)

-- all but the commands that remain are copied or left out, and so many moves are left
pub record IsCopied (spots : LinkSpots) (header : List ℕ) (moves : List Moved) (before out : List ℕ) (left : List Moved) (count : ℕ) (rest : List Load) : Type 0 where
  pub written : out ++ concat (moved_commands spots left (kept_of rest)) ≡ before ++ concat (kept_commands spots moves header)
  pub counted : count + length (moved_commands spots left (kept_of rest)) ≡ length (kept_commands spots moves header)

pub copied_start : (spots : LinkSpots) (header : List ℕ) (moves : List Moved) (before : List ℕ) (rest : List Load) → rest ≡ loads_of header → IsCopied spots header moves before before moves 0 rest
copied_start spots header moves before rest all =
    let same : pieces_of rest ≡ commands_of header = ap pieces_of all ∙ pieces_of-loads_from 32 (commands_of header) in
    record {
      written = ap (λ (cs : List (List ℕ)). before ++ concat (moved_commands spots moves (filter is_kept cs))) same;
      counted = none (length (moved_commands spots moves (kept_of rest))) ∙ ap (λ (cs : List (List ℕ)). length (moved_commands spots moves (filter is_kept cs))) same;
    }
  where
    none : (n : ℕ) → 0 + n ≡ n
    none n = omega arith

-- whether a command is kept, as its number tells
pub kept_by_number : (number : ℕ) (inside l : Load) (answer b : Bool) → number ≡ number_of inside.bytes → inside ≡ l → answer ≡ not (is_dropped number) → answer ≡ b → is_kept l.bytes ≡ b
kept_by_number number inside l answer b number_is view tells is = sym (tells ∙ ap (λ (n : ℕ). not (is_dropped n)) (number_is ∙ ap (λ (k : Load). number_of k.bytes) view)) ∙ is

-- a command at the front is left out, or is the first of those that are kept
rest_dropped : (rest rest' : List Load) (l : Load) → rest ≡ l ∷ rest' → is_kept l.bytes ≡ false → kept_of rest ≡ kept_of rest'
rest_dropped rest rest' l front dropped = ap kept_of front ∙ cond-false (is_kept l.bytes) (l.bytes ∷ kept_of rest') (kept_of rest') dropped

rest_kept : (rest rest' : List Load) (l : Load) → rest ≡ l ∷ rest' → is_kept l.bytes ≡ true → kept_of rest ≡ l.bytes ∷ kept_of rest'
rest_kept rest rest' l front kept = ap kept_of front ∙ cond-true (is_kept l.bytes) (l.bytes ∷ kept_of rest') (kept_of rest') kept

pub copied_dropped : (spots : LinkSpots) (header : List ℕ) (moves : List Moved) (before out : List ℕ) (left : List Moved) (count : ℕ) (rest rest' : List Load) (l : Load)
    → IsCopied spots header moves before out left count rest → rest ≡ l ∷ rest' → is_kept l.bytes ≡ false → IsCopied spots header moves before out left count rest'
copied_dropped spots header moves before out left count rest rest' l copied front dropped =
    let same = sym (rest_dropped rest rest' l front dropped) in
    record {
      written = ap (λ (cs : List (List ℕ)). out ++ concat (moved_commands spots left cs)) same ∙ copied.written;
      counted = ap (λ (cs : List (List ℕ)). count + length (moved_commands spots left cs)) same ∙ copied.counted;
    }

pub copied_kept : (spots : LinkSpots) (header : List ℕ) (moves : List Moved) (before out out' : List ℕ) (left left' : List Moved) (count : ℕ) (rest rest' : List Load) (l : Load)
    → IsCopied spots header moves before out left count rest → rest ≡ l ∷ rest' → is_kept l.bytes ≡ true
    → out' ≡ out ++ moved_command spots left l.bytes → left' ≡ moves_behind left l.bytes → IsCopied spots header moves before out' left' (count + 1) rest'
unfolding moved_commands
copied_kept spots header moves before out out' left left' count rest rest' l copied front kept appended behind =
    let same = sym (rest_kept rest rest' l front kept) in
    let after : List (List ℕ) = moved_commands spots (moves_behind left l.bytes) (kept_of rest') in
    let one : count + 1 + length after ≡ count + suc (length after) = omega arith in
    record {
      written =
          ap₂ (λ (o : List ℕ) (p : List Moved). o ++ concat (moved_commands spots p (kept_of rest'))) appended behind
          ∙ (append_assoc out (moved_command spots left l.bytes) (concat after)
          ∙ (ap (λ (cs : List (List ℕ)). out ++ concat (moved_commands spots left cs)) same ∙ copied.written));
      counted =
          ap (λ (p : List Moved). count + 1 + length (moved_commands spots p (kept_of rest'))) behind
          ∙ (one ∙ (ap (λ (cs : List (List ℕ)). count + length (moved_commands spots left cs)) same ∙ copied.counted));
    }

-- all commands are copied or left out
pub copied_end : (spots : LinkSpots) (header : List ℕ) (moves : List Moved) (before out : List ℕ) (left : List Moved) (count : ℕ) (rest : List Load) → IsCopied spots header moves before out left count rest
    → rest ≡ [] → (out ≡ before ++ concat (kept_commands spots moves header)) × (count ≡ length (kept_commands spots moves header))
unfolding moved_commands
copied_end spots header moves before out left count rest copied none =
    let empty : count + 0 ≡ count = omega arith in (
      sym (append-nil out) ∙ (sym (ap (λ (ls : List Load). out ++ concat (moved_commands spots left (kept_of ls))) none) ∙ copied.written),
      sym empty ∙ (sym (ap (λ (ls : List Load). count + length (moved_commands spots left (kept_of ls))) none) ∙ copied.counted),
    )

-- no more commands are kept than a header has
kept_few : (n : ℕ) (bytes : List ℕ) → length (filter is_kept (commands_in n bytes)) ≤ n
kept_few zero bytes = omega arith
kept_few (suc n) bytes = one_more (is_kept (take (size_of bytes) bytes)) (take (size_of bytes) bytes) (filter is_kept (commands_in n (drop (size_of bytes) bytes))) (kept_few n (drop (size_of bytes) bytes))
  where
    one_more : (b : Bool) (c : List ℕ) (cs : List (List ℕ)) → length cs ≤ n → length (if◌then◌else◌ {A = List (List ℕ)} b (c ∷ cs) cs) ≤ suc n
    one_more true c cs few = omega arith
    one_more false c cs few = omega arith

length-moved_commands : (spots : LinkSpots) (moves : List Moved) (cs : List (List ℕ)) → length (moved_commands spots moves cs) ≡ length cs
unfolding moved_commands
length-moved_commands spots moves [] = refl
length-moved_commands spots moves (c ∷ cs) = ap suc (length-moved_commands spots (moves_behind moves c) cs)

-- one more fits the count, since a header tells how many commands it has in four bytes
pub count_fits : (spots : LinkSpots) (header : List ℕ) (moves : List Moved) (before out : List ℕ) (left : List Moved) (count : ℕ) (rest rest' : List Load) (l : Load)
    → IsCopied spots header moves before out left count rest → rest ≡ l ∷ rest' → is_kept l.bytes ≡ true → ((k : ℕ) → get_or header k 0 < 256) → count + 1 < 2 ^ 32
count_fits spots header moves before out left count rest rest' l copied front kept bytes =
    let told : number_at 4 header 16 < 256 ^ 4 = number_at-lt 4 header 16 bytes in
    let some : length (kept_of rest) ≡ suc (length (kept_of rest')) = ap length (rest_kept rest rest' l front kept) in
    omega (arith, told, some, copied.counted, length-moved_commands spots left (kept_of rest), length-moved_commands spots moves (filter is_kept (commands_of header)), kept_few (number_at 4 header 16) (drop 32 header))

-- commands that keep their rule are well shaped one by one
pub command_shape : (header : List ℕ) → 32 ≤ length header → breaks_command_shape header ≡ None → misshapen (number_at 4 header 16) 32 (drop 32 header) ≡ None
command_shape header front shape = inside (nat_lt (length header) (header_size header)) (misshapen (number_at 4 header 16) 32 (drop 32 header)) shape
  where
    inside : (b : Bool) (o : Option ℕ) → (if b then Some 20 else o) ≡ None → o ≡ None
    inside true o none = absurd (cc)
    inside false o none = none
