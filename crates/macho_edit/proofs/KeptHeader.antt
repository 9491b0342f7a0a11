-- The header of a form is its front with the commands behind it, which are whole.
use Rattle.std.proofs.Common.{◌≡◌, ◌≤◌, ◌<◌, inl, inr, ℕ, ◌+◌, ◌*◌, ◌%◌, ◌^◌, Bool, true, ◌&&◌, nat_eq, nat_le, nat_lt, Some, None, List, [], ◌∷◌, ◌++◌, take, drop, length, refl, sym, ap, ap₂, ◌∙◌, subst, arith, length-append}
use Rattle.std.specs.List.{concat, AllByRecursion}
use Rattle.std.proofs.lemmas.Bool.{cond-true, cond-false, le-ltb}
use Rattle.std.proofs.lemmas.Bool.Decides.{nat_tests}
use Rattle.std.proofs.lemmas.List.{length-take-le, drop_at, append-nil}
use Rattle.dsc_base.specs.Numbers.{number_at, put_number}
use Rattle.dsc_base.proofs.NumberLaws.{number_at-append_left, number_at-put_same, number_at-put_other, number_at-take, length-put_number}
use Rattle.macho_image.specs.declared.form.Form.{Form}
use Rattle.macho_image.specs.declared.place.Moved.{Moved}
use Rattle.macho_image.specs.Macho.{header_size, number_of, size_of, commands_in, commands_of, loads_from, loads_of}
use Rattle.macho_image.specs.Rules.{misshapen, begins_whole, least_size, breaks_command_shape}
use Rattle.macho_image.proofs.CommandLaws.{IsSized, IsWholeCommand, commands_in-joined}
use Rattle.macho_edit.specs.declared.spots.LinkSpots.{LinkSpots}
use Rattle.macho_edit.specs.Cached.{flags_in, formed_front, kept_commands, formed_header}
use Rattle.macho_edit.proofs.LengthLaws.{length-spotted}
use Rattle.macho_edit.proofs.TableLaws.{spotted_front}
use Rattle.macho_edit.proofs.FrontLaws.{length-formed_front, commands_fit}
use Rattle.macho_edit.proofs.MovedSegments.{SameCommand, segment_same}
use Rattle.macho_edit.proofs.MovedCommands.{IsMoved, AreMoved}

-- a command that is moved is as long as before, of the same kind and says so
pub moved_same : (spots : LinkSpots) (c d : List ℕ) → length spots.groups ≡ 6 → IsMoved spots c d → SameCommand c d
moved_same spots c d six is = elim is.moved [
  | inl segment ↦ subst (λ (x : List ℕ). SameCommand c x) (sym segment.moved) (segment_same segment.place c segment.fits (is.good.segment segment.segment))
  | inr other ↦ subst (λ (x : List ℕ). SameCommand c x) (sym other.moved) (record {
    sized = length-spotted spots c six is.good.whole.sized.some is.good.whole.least;
    number = spotted_front spots c 4 0 is.good.whole.sized.some (omega arith);
    size = spotted_front spots c 4 4 is.good.whole.sized.some (omega arith);
  })
]

pub moved_whole : (spots : LinkSpots) (c d : List ℕ) → length spots.groups ≡ 6 → IsMoved spots c d → IsWholeCommand d
moved_whole spots c d six is =
    let same : SameCommand c d = moved_same spots c d six is in
    let whole : IsWholeCommand c = is.good.whole in
    record {
      sized = record { some = omega (arith, same.sized, whole.sized.some); own = same.size ∙ (whole.sized.own ∙ sym same.sized) };
      aligned = ap (λ (n : ℕ). n % 8) same.sized ∙ whole.aligned;
      least = omega (arith, ap least_size same.number, whole.least, same.sized);
    }

pub all_moved_whole : (spots : LinkSpots) (cs ds : List (List ℕ)) → length spots.groups ≡ 6 → AreMoved spots cs ds → AllByRecursion IsWholeCommand ds
all_moved_whole spots [] [] six are = tt
all_moved_whole spots [] (d ∷ ds) six are = absurd are
all_moved_whole spots (c ∷ cs) [] six are = absurd are
all_moved_whole spots (c ∷ cs) (d ∷ ds) six are = (moved_whole spots c d six are.0, all_moved_whole spots cs ds six are.1)

-- what begins_whole tests
abbrev whole_test : ℕ → ℕ → ℕ → Bool
whole_test len size number =
    nat_le 8 len && (nat_le 8 size && (nat_eq (size % 8) 0 && (nat_le size len && nat_le (least_size number) size)))

whole_true : (len size number : ℕ) → 8 ≤ len → 8 ≤ size → size % 8 ≡ 0 → size ≤ len → least_size number ≤ size → whole_test len size number ≡ true
whole_true len size number a b c d e = grind (arith, nat_tests)

-- whole commands joined are well shaped
pub misshapen-joined : (at : ℕ) (cs : List (List ℕ)) → AllByRecursion IsWholeCommand cs → misshapen (length cs) at (concat cs) ≡ None
misshapen-joined at [] are = refl
misshapen-joined at (c ∷ cs) are =
    let rest : List ℕ = concat cs in
    let front : IsWholeCommand c = are.0 in
    let head : 8 ≤ length c = front.sized.some in
    let size : size_of (c ++ rest) ≡ length c = number_at-append_left 4 c rest 4 (omega arith) ∙ front.sized.own in
    let number : number_of (c ++ rest) ≡ number_of c = number_at-append_left 4 c rest 0 (omega arith) in
    let tested : whole_test (length (c ++ rest)) (length c) (number_of c) ≡ true = whole_true (length (c ++ rest)) (length c) (number_of c) (omega (arith, length-append c rest)) head front.aligned (omega (arith, length-append c rest)) front.least in
    let whole : begins_whole (c ++ rest) ≡ true = ap₂ (λ (k n : ℕ). whole_test (length (c ++ rest)) k n) size number ∙ tested in
    cond-true (begins_whole (c ++ rest)) (misshapen (length cs) (at + size_of (c ++ rest)) (drop (size_of (c ++ rest)) (c ++ rest))) (Some at) whole
    ∙ (ap (λ (k : ℕ). misshapen (length cs) (at + k) (drop k (c ++ rest))) size
    ∙ (ap (λ (b : List ℕ). misshapen (length cs) (at + length c) b) (drop_at c rest (length c) refl) ∙ misshapen-joined (at + length c) cs are.1))

-- whole commands have eight bytes each, at least
pub many_bytes : (cs : List (List ℕ)) → AllByRecursion IsWholeCommand cs → 8 * length cs ≤ length (concat cs)
many_bytes [] are = omega arith
many_bytes (c ∷ cs) are = omega (arith, length-append c (concat cs), are.0.sized.some, many_bytes cs are.1)

sized_all : (cs : List (List ℕ)) → AllByRecursion IsWholeCommand cs → AllByRecursion IsSized cs
sized_all [] are = tt
sized_all (c ∷ cs) are = (are.0.sized, sized_all cs are.1)

-- what the three puts leave, at 16, 20 and 24
record Puts (form : Form) (count size : ℕ) (front : List ℕ) : Type 0 where
  low : (w at : ℕ) → at + w ≤ 16 → number_at w (formed_front form count size front) at ≡ number_at w front at
  counted : number_at 4 (formed_front form count size front) 16 ≡ count
  sizes : number_at 4 (formed_front form count size front) 20 ≡ size
  flags : number_at 4 (formed_front form count size front) 24 ≡ flags_in form (number_at 4 front 24)

puts_leave : (form : Form) (count size : ℕ) (front : List ℕ) → 32 ≤ length front → count < 2 ^ 32 → size < 2 ^ 32 → flags_in form (number_at 4 front 24) < 2 ^ 32 → Puts form count size front
unfolding formed_front
puts_leave form count size front len few small fits =
    let flags : ℕ = flags_in form (number_at 4 front 24) in
    let a : List ℕ = put_number 4 front 16 count in
    let b : List ℕ = put_number 4 a 20 size in
    let la : length a ≡ length front = length-put_number 4 front 16 count (omega arith) in
    let lb : length b ≡ length front = length-put_number 4 a 20 size (omega arith) ∙ la in
    record {
      low = λ w at near. number_at-put_other 4 b 24 flags w at (omega arith) (inl (omega arith)) ∙ (number_at-put_other 4 a 20 size w at (omega arith) (inl (omega arith)) ∙ number_at-put_other 4 front 16 count w at (omega arith) (inl near));
      counted = number_at-put_other 4 b 24 flags 4 16 (omega arith) (inl (omega arith)) ∙ (number_at-put_other 4 a 20 size 4 16 (omega arith) (inl (omega arith)) ∙ number_at-put_same 4 front 16 count (omega arith) few);
      sizes = number_at-put_other 4 b 24 flags 4 20 (omega arith) (inl (omega arith)) ∙ number_at-put_same 4 a 20 size (omega arith) small;
      flags = number_at-put_same 4 b 24 flags (omega arith) fits;
    }

-- what is known of a header of a form
pub record IsKeptHeader (form : Form) (spots : LinkSpots) (moves : List Moved) (header : List ℕ) : Type 0 where
  pub long : 32 ≤ length (formed_header form spots moves header)
  pub fits : length (formed_header form spots moves header) ≤ length header
  pub exact : header_size (formed_header form spots moves header) ≡ length (formed_header form spots moves header)
  pub low : (w at : ℕ) → at + w ≤ 16 → number_at w (formed_header form spots moves header) at ≡ number_at w header at
  pub flags : number_at 4 (formed_header form spots moves header) 24 ≡ flags_in form (number_at 4 header 24)
  pub commands : commands_of (formed_header form spots moves header) ≡ kept_commands spots moves header
  pub loads : loads_of (formed_header form spots moves header) ≡ loads_from 32 (kept_commands spots moves header)
  pub shape : breaks_command_shape (formed_header form spots moves header) ≡ None

pub kept_header_is : (form : Form) (spots : LinkSpots) (moves : List Moved) (header : List ℕ) → length spots.groups ≡ 6 → 32 ≤ length header → breaks_command_shape header ≡ None → length header < 2 ^ 32
    → flags_in form (number_at 4 header 24) < 2 ^ 32 → AllByRecursion IsWholeCommand (kept_commands spots moves header) → IsKeptHeader form spots moves header
unfolding formed_header
kept_header_is form spots moves header six front shape small flags whole =
    let h : List ℕ = take 32 header in
    let cs : List (List ℕ) = kept_commands spots moves header in
    let short : length h ≡ 32 = length-take-le 32 header front in
    let fits : 32 + length (concat cs) ≤ length header = commands_fit spots moves header six front shape in
    let many : 8 * length cs ≤ length (concat cs) = many_bytes cs whole in
    let told : number_at 4 h 24 ≡ number_at 4 header 24 = number_at-take 4 32 header 24 (omega arith) in
    let told_fits : flags_in form (number_at 4 h 24) < 2 ^ 32 = subst (λ (n : ℕ). flags_in form n < 2 ^ 32) (sym told) flags in
    let puts : Puts form (length cs) (length (concat cs)) h = puts_leave form (length cs) (length (concat cs)) h (omega arith) (omega arith) (omega arith) told_fits in
    let f : List ℕ = formed_front form (length cs) (length (concat cs)) h in
    let len : length f ≡ 32 = length-formed_front form (length cs) (length (concat cs)) h (omega arith) ∙ short in
    let all : length (f ++ concat cs) ≡ 32 + length (concat cs) = length-append f (concat cs) ∙ omega arith in
    let size : number_at 4 (f ++ concat cs) 20 ≡ length (concat cs) = number_at-append_left 4 f (concat cs) 20 (omega arith) ∙ puts.sizes in
    let exact : header_size (f ++ concat cs) ≡ length (f ++ concat cs) = omega arith in
    let count : number_at 4 (f ++ concat cs) 16 ≡ length cs = number_at-append_left 4 f (concat cs) 16 (omega arith) ∙ puts.counted in
    let tail : drop 32 (f ++ concat cs) ≡ concat cs = drop_at f (concat cs) 32 len in
    let commands : commands_of (f ++ concat cs) ≡ cs =
    ap₂ (λ (n : ℕ) (b : List ℕ). commands_in n b) count (tail ∙ sym (append-nil (concat cs))) ∙ commands_in-joined cs [] (sized_all cs whole) in
    record {
      long = omega arith;
      fits = omega arith;
      exact = exact;
      low = λ w at near. number_at-append_left w f (concat cs) at (omega arith) ∙ (puts.low w at near ∙ number_at-take w 32 header at (omega arith));
      flags = number_at-append_left 4 f (concat cs) 24 (omega arith) ∙ (puts.flags ∙ ap (flags_in form) told);
      commands = commands;
      loads = ap (λ (ds : List (List ℕ)). loads_from 32 ds) commands;
      shape = cond-false (nat_lt (length (f ++ concat cs)) (header_size (f ++ concat cs))) (Some 20) (misshapen (number_at 4 (f ++ concat cs) 16) 32 (drop 32 (f ++ concat cs))) (le-ltb (length (f ++ concat cs)) (header_size (f ++ concat cs)) (omega arith))
          ∙ (ap₂ (λ (n : ℕ) (b : List ℕ). misshapen n 32 b) count tail ∙ misshapen-joined 32 cs whole);
    }
