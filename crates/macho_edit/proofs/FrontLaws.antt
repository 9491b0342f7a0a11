-- The front of a header, with the commands behind it and zeros up to its size.
use Rattle.std.proofs.Common.{◌≡◌, ◌≤◌, ◌<◌, inl, inr, ℕ, ◌+◌, ◌-◌, ◌*◌, ◌/◌, ◌%◌, ◌^◌, None, List, [], ◌++◌, take, drop, length, refl, sym, ap, ap₂, ◌∙◌, arith, append_assoc, length-append, length-drop}
use Rattle.std.specs.Prelude.{replicate, filter}
use Rattle.std.specs.List.{concat}
use Rattle.std.proofs.lemmas.List.{length-take-le, take-append-le, drop-append-le, take_at, take_all}
use Rattle.std.specs.Int.Bits.{bit_or, bit_and, or_add_and}
use Rattle.std.proofs.lemmas.Nat.Bits.{and_high}
use Rattle.std.proofs.lemmas.Nat.{and_mask}
use Rattle.std.proofs.lemmas.Bool.{cond-true, cond-false, leb-true}
use Rattle.std.proofs.lemmas.Bool.Decides.{nat_tests}
use Rattle.dsc_base.specs.Numbers.{number_at, put_number, little_bytes}
use Rattle.dsc_base.specs.Region.{padded}
use Rattle.dsc_base.proofs.NumberLaws.{length-put_number, number_at-append_left}
use Rattle.macho_image.specs.declared.form.Form.{Form}
use Rattle.macho_image.specs.declared.form.Form.TheVariants.{Standalone, Cached}
use Rattle.macho_image.specs.declared.place.Moved.{Moved}
use Rattle.macho_image.specs.Records.{Img}
use Rattle.macho_image.specs.Macho.{commands_of}
use Rattle.macho_image.specs.Rules.{breaks_command_shape, says_cached}
use Rattle.macho_image.proofs.CommandLaws.{AreCommands, shape_joins}
use Rattle.macho_edit.specs.declared.spots.LinkSpots.{LinkSpots}
use Rattle.macho_edit.specs.Cached.{is_kept, in_cache, out_of_cache, flags_in, formed_front, kept_commands, formed_header, formed_bytes, unrebased, cached_front, cached_commands, kept_header, cached_bytes, standalone_bytes}
use Rattle.macho_edit.proofs.BoolLaws.{bool_cases}
use Rattle.macho_edit.proofs.CopyLaws.{command_shape}
use Rattle.macho_edit.proofs.LengthLaws.{moved_commands_fit, kept_whole, kept_fit}

pub put_number-append : (w : ℕ) (xs ys : List ℕ) (i v : ℕ) → i + w ≤ length xs → put_number w (xs ++ ys) i v ≡ put_number w xs i v ++ ys
unfolding put_number
put_number-append w xs ys i v within =
    ap₂ (λ (a b : List ℕ). a ++ (little_bytes w v ++ b)) (take-append-le i xs ys (omega arith)) (drop-append-le (i + w) xs ys within)
    ∙ (ap (λ (l : List ℕ). take i xs ++ l) (sym (append_assoc (little_bytes w v) (drop (i + w) xs) ys))
    ∙ sym (append_assoc (take i xs) (little_bytes w v ++ drop (i + w) xs) ys))

pub length-formed_front : (form : Form) (count size : ℕ) (front : List ℕ) → 32 ≤ length front → length (formed_front form count size front) ≡ length front
unfolding formed_front
length-formed_front form count size front len =
    let a : List ℕ = put_number 4 front 16 count in
    let b : List ℕ = put_number 4 a 20 size in
    let la : length a ≡ length front = length-put_number 4 front 16 count (omega arith) in
    let lb : length b ≡ length front = length-put_number 4 a 20 size (omega arith) ∙ la in
    length-put_number 4 b 24 (flags_in form (number_at 4 front 24)) (omega arith) ∙ lb

pub formed_front-append : (form : Form) (count size : ℕ) (front rest : List ℕ) → 32 ≤ length front → formed_front form count size (front ++ rest) ≡ formed_front form count size front ++ rest
unfolding formed_front
formed_front-append form count size front rest len =
    let flags : ℕ = flags_in form (number_at 4 front 24) in
    let a : List ℕ = put_number 4 front 16 count in
    let b : List ℕ = put_number 4 a 20 size in
    let la : length a ≡ length front = length-put_number 4 front 16 count (omega arith) in
    let lb : length b ≡ length front = length-put_number 4 a 20 size (omega arith) ∙ la in
    ap (λ (n : ℕ). put_number 4 (put_number 4 (put_number 4 (front ++ rest) 16 count) 20 size) 24 (flags_in form n)) (number_at-append_left 4 front rest 24 (omega arith))
    ∙ (ap (λ (l : List ℕ). put_number 4 (put_number 4 l 20 size) 24 flags) (put_number-append 4 front rest 16 count (omega arith))
    ∙ (ap (λ (l : List ℕ). put_number 4 l 24 flags) (put_number-append 4 a rest 20 size (omega arith)) ∙ put_number-append 4 b rest 24 flags (omega arith)))

-- the commands that are not left out are no longer than those of the header
pub commands_fit : (spots : LinkSpots) (moves : List Moved) (header : List ℕ) → length spots.groups ≡ 6 → 32 ≤ length header → breaks_command_shape header ≡ None
    → 32 + length (concat (kept_commands spots moves header)) ≤ length header
commands_fit spots moves header six front shape =
    let are : AreCommands (number_at 4 header 16) (drop 32 header) = shape_joins (number_at 4 header 16) 32 (drop 32 header) (command_shape header front shape) in
    let a = moved_commands_fit spots moves (filter is_kept (commands_of header)) six (kept_whole (commands_of header) are.whole) in
    let b = kept_fit (commands_of header) in
    omega (arith, a, b, ap length are.joined, length-drop 32 header)

-- what is copied, with its front set and zeros behind it, is the form of the header
pub header_written : (form : Form) (spots : LinkSpots) (moves : List Moved) (header none a o front o' : List ℕ) (count size len : ℕ) → length spots.groups ≡ 6 → 32 ≤ length header → breaks_command_shape header ≡ None
    → none ≡ [] → a ≡ none ++ take 32 header → o ≡ a ++ concat (kept_commands spots moves header) → count ≡ length (kept_commands spots moves header)
    → len ≡ length o → size ≡ len - 32 → front ≡ formed_front form count size o
    → o' ≡ take (length header) (take len (front ++ drop (length front) o)) ++ replicate (length header - len) 0
    → o' ≡ padded (length header) (formed_header form spots moves header)
unfolding formed_header
header_written form spots moves header none a o front o' count size len six long shape none_is a_is o_is count_is len_is size_is front_is o'_is =
    let h : List ℕ = take 32 header in
    let cs : List (List ℕ) = kept_commands spots moves header in
    let short : length h ≡ 32 = length-take-le 32 header long in
    let whole : o ≡ h ++ concat cs = o_is ∙ ap (λ (l : List ℕ). l ++ concat cs) (a_is ∙ ap (λ (l : List ℕ). l ++ h) none_is) in
    let fits : 32 + length (concat cs) ≤ length header = commands_fit spots moves header six long shape in
    let o_len : length o ≡ 32 + length (concat cs) = ap length whole ∙ (length-append h (concat cs) ∙ omega arith) in
    let sized : size ≡ length (concat cs) = omega arith in
    let kept : List ℕ = formed_front form (length cs) (length (concat cs)) h ++ concat cs in
    let new : front ≡ kept =
    front_is ∙ (ap₂ (λ (n m : ℕ). formed_front form n m o) count_is sized
    ∙ (ap (formed_front form (length cs) (length (concat cs))) whole ∙ formed_front-append form (length cs) (length (concat cs)) h (concat cs) (omega arith))) in
    let front_len : length front ≡ len =
    ap length new ∙ (length-append (formed_front form (length cs) (length (concat cs)) h) (concat cs) ∙ omega (arith, length-formed_front form (length cs) (length (concat cs)) h (omega arith))) in
    let inner : take len (front ++ drop (length front) o) ≡ front = take_at front (drop (length front) o) len front_len in
    let outer : take (length header) front ≡ front = take_all (length header) front (omega arith) in
    o'_is ∙ (ap (λ (l : List ℕ). take (length header) l ++ replicate (length header - len) 0) inner
    ∙ (ap₂ (λ (l : List ℕ) (n : ℕ). l ++ replicate (length header - n) 0) outer (sym front_len)
    ∙ ap (λ (l : List ℕ). l ++ replicate (length header - length l) 0) new))

-- the same of an image seen from inside
pub formed_from : (form : Form) (image inside : Img) (moves left : List Moved) (spots : LinkSpots) (out : List ℕ) → inside ≡ image → left ≡ moves
    → out ≡ padded (length inside.header) (formed_header form spots left inside.header) → out ≡ formed_bytes form image moves spots
unfolding formed_bytes
formed_from form image inside moves left spots out image_is moves_is out_is =
    out_is ∙ ap₂ (λ (i : Img) (ms : List Moved). padded (length i.header) (formed_header form spots ms i.header)) image_is moves_is

-- the two forms
pub cached_is : (image : Img) (moves : List Moved) (spots : LinkSpots) → formed_bytes Cached image moves (unrebased spots) ≡ cached_bytes image moves spots
unfolding formed_bytes cached_bytes kept_header
cached_is image moves spots = refl

pub standalone_is : (image : Img) (moves : List Moved) (spots : LinkSpots) → formed_bytes Standalone image moves spots ≡ standalone_bytes image moves spots
unfolding standalone_bytes
standalone_is image moves spots = refl

pub kept_is : (spots : LinkSpots) (moves : List Moved) (header : List ℕ) → formed_header Cached (unrebased spots) moves header ≡ kept_header spots moves header
unfolding kept_header
kept_is spots moves header = refl

-- what is known of the cached form
pub length-cached_front : (count size : ℕ) (front : List ℕ) → 32 ≤ length front → length (cached_front count size front) ≡ length front
length-cached_front count size front len = length-formed_front Cached count size front len

pub cached_fit : (spots : LinkSpots) (moves : List Moved) (header : List ℕ) → length spots.groups ≡ 6 → 32 ≤ length header → breaks_command_shape header ≡ None
    → 32 + length (concat (cached_commands spots moves header)) ≤ length header
cached_fit spots moves header six front shape = commands_fit (unrebased spots) moves header six front shape

-- the flag of the cache, set
pub flag_set : (flags : ℕ) → flags < 2 ^ 32 → bit_or flags 0x8000_0000 ≡ in_cache flags
flag_set flags fits =
    let high : bit_and flags 0x8000_0000 ≡ flags / 0x8000_0000 % 2 * 0x8000_0000 = and_high flags 1 31 in
    let both : bit_or flags 0x8000_0000 + bit_and flags 0x8000_0000 ≡ flags + 0x8000_0000 = or_add_and flags 0x8000_0000 in
    elim (bool_cases (says_cached flags)) [
      | inl clear ↦
          let low : flags < 0x8000_0000 = grind (arith, nat_tests) in
          omega (arith, high, both, low) ∙ sym (cond-false (says_cached flags) flags (flags + 0x8000_0000) clear)
      | inr set ↦
          let up : 0x8000_0000 ≤ flags = leb-true 0x8000_0000 flags set in
          omega (arith, high, both, up) ∙ sym (cond-true (says_cached flags) flags (flags + 0x8000_0000) set)
    ]

-- and cleared
pub flag_clear : (flags : ℕ) → flags < 2 ^ 32 → bit_and flags 0x7FFF_FFFF ≡ out_of_cache flags
flag_clear flags fits =
    let low : bit_and flags 0x7FFF_FFFF ≡ flags % 2 ^ 31 = and_mask flags 31 in
    elim (bool_cases (says_cached flags)) [
      | inl clear ↦
          let below : flags < 0x8000_0000 = grind (arith, nat_tests) in
          omega (arith, low, below) ∙ sym (cond-false (says_cached flags) (flags - 0x8000_0000) flags clear)
      | inr set ↦
          let up : 0x8000_0000 ≤ flags = leb-true 0x8000_0000 flags set in
          omega (arith, low, up) ∙ sym (cond-true (says_cached flags) (flags - 0x8000_0000) flags set)
    ]
