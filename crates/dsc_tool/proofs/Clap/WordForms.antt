-- What a word looks like, to clap and to the program.
use Rattle.std.proofs.Common.{◌≡◌, ◌+◌, ◌⊎◌, inl, inr, ℕ, zero, suc, List, [], ◌∷◌, length, Bool, true, false, Option, Some, None, codes, nat_eq, refl, ap, sym, ◌∙◌, subst, arith}
use Rattle.std.specs.Prelude.{if◌then◌else◌, option_and_then, IsUtf8, slice_get, drop, take, ◌&&◌, encode_utf8_all}
use Rattle.std.specs.Char.{encode_utf8}
use Rattle.std.specs.List.{list_any, before_first, after_first, position_or_len}
use Rattle.std.specs.Str.{bytes_eq, chars}
use Rattle.std.proofs.lemmas.Bool.{eqb-true, eq-eqb}
use Rattle.std.proofs.lemmas.Str.{encodes-chars}
use Rattle.clap.specs.Lexer.{long_of, long_of_rest, short_of, short_of_rest, strip_byte}
use Rattle.clap.specs.Walk.{Text}
use Rattle.dsc_tool.specs.WordParts.{is_option, is_end, is_equals, option_name, joined_value, is_named}

abbrev long_by : Bool → Text → Option (Text × Option Text)
long_by b rest = option_and_then long_of_rest (option_and_then (strip_byte 45) (if b then Some rest else None))

abbrev short_by : Bool → Text → Option Text
short_by b rest = option_and_then short_of_rest (if b then Some rest else None)

no_long : (b : Bool) → long_by b [] ≡ None
no_long true = refl
no_long false = refl

no_short : (b : Bool) → short_by b [] ≡ None
no_short true = refl
no_short false = refl

-- a word that is no option has neither form for clap
pub plain_long : (word : Text) → is_option word ≡ false → long_of word ≡ None
plain_long [] is = refl
plain_long (c ∷ []) is = no_long (nat_eq c 45)
plain_long (c ∷ d ∷ rest) is = ap (λ (b : Bool). long_by b (d ∷ rest)) is

pub plain_short : (word : Text) → is_option word ≡ false → short_of word ≡ None
plain_short [] is = refl
plain_short (c ∷ []) is = no_short (nat_eq c 45)
plain_short (c ∷ d ∷ rest) is = ap (λ (b : Bool). short_by b (d ∷ rest)) is

-- ---- options

-- the command's option has this name
abbrev pub named : Option Text → Text → Bool
named None name = false
named (Some long) name = bytes_eq long name

-- `--name` or `--name=value`
pub record IsLong (word name : Text) (joined : Option Text) : Type 0 where
  pub end : bytes_eq word (codes "--") ≡ false
  pub long : long_of word ≡ Some (name, joined)

-- `-abc`, with its first character
pub record IsShort (word flags : Text) (first : ℕ) : Type 0 where
  pub end : bytes_eq word (codes "--") ≡ false
  pub long : long_of word ≡ None
  pub short : short_of word ≡ Some flags
  pub some : (k : ℕ) × (length flags ≡ suc k)
  pub char : slice_get (chars flags) 0 ≡ Some first

pub record LongForm (long : Option Text) (word : Text) : Type 0 where
  pub name : Text
  pub joined : Option Text
  pub is : IsLong word name joined
  pub same_name : is_named long (option_name word) ≡ named long name
  pub same_value : joined_value word ≡ joined

pub record ShortForm (long : Option Text) (word : Text) : Type 0 where
  pub flags : Text
  pub first : ℕ
  pub is : IsShort word flags first
  pub other_name : is_named long (option_name word) ≡ false

far : (n : ℕ) → 1 + (1 + n) + 1 ≡ suc (suc (n + 1))
far n = omega arith

near : (n : ℕ) → 1 + (1 + n) ≡ suc (suc n)
near n = omega arith

long_value : (b : Bool) (text : Text) → (if b then Some (after_first is_equals (45 ∷ 45 ∷ text)) else None) ≡ (if b then Some (after_first is_equals text) else None)
long_value true text = ap (λ (n : ℕ). Some (drop n (45 ∷ 45 ∷ text))) (far (position_or_len is_equals text))
long_value false text = refl

long_name : (long : Option Text) (text : Text) → is_named long (option_name (45 ∷ 45 ∷ text)) ≡ named long (before_first is_equals text)
long_name None text = refl
long_name (Some l) text = ap (λ (n : ℕ). is_named (Some l) (take n (45 ∷ 45 ∷ text))) (near (position_or_len is_equals text))

long_form : (long : Option Text) (tail : Text) → is_end (45 ∷ 45 ∷ tail) ≡ false → LongForm long (45 ∷ 45 ∷ tail)
long_form long [] end = absurd cc
long_form long (m ∷ ms) end = record {
  name = before_first is_equals (m ∷ ms);
  joined = if list_any is_equals (m ∷ ms) then Some (after_first is_equals (m ∷ ms)) else None;
  is = record { end = end; long = refl };
  same_name = long_name long (m ∷ ms);
  same_value = long_value (list_any is_equals (m ∷ ms)) (m ∷ ms);
}

first_by : (d : ℕ) (tail : Text) (cs : List ℕ) → encode_utf8_all (45 ∷ cs) ≡ 45 ∷ d ∷ tail → (x : ℕ) × (slice_get cs 0 ≡ Some x)
unfolding encode_utf8
first_by d tail [] is = absurd (let e : 45 ∷ [] ≡ 45 ∷ d ∷ tail = is in cc)
first_by d tail (x ∷ xs) is = (x, refl)

first_char : (d : ℕ) (tail : Text) → IsUtf8 (45 ∷ d ∷ tail) → (x : ℕ) × (slice_get (chars (d ∷ tail)) 0 ≡ Some x)
unfolding chars
first_char d tail text = first_by d tail (chars (d ∷ tail)) (encodes-chars (45 ∷ d ∷ tail) text)

turned : (a b : ℕ) (x y : Bool) → nat_eq a b ≡ x → nat_eq b a ≡ y → x ≡ y
turned a b true true p q = refl
turned a b false false p q = refl
turned a b true false p q = sym (eq-eqb b a (sym (eqb-true a b p))) ∙ q
turned a b false true p q = sym p ∙ eq-eqb a b (sym (eqb-true b a q))

flipped : (a b : ℕ) → nat_eq a b ≡ false → nat_eq b a ≡ false
flipped a b is = sym (turned a b false (nat_eq b a) is refl)

one_dash : (l : Text) (n d : ℕ) (tail : Text) → nat_eq 45 d ≡ false → bytes_eq (45 ∷ l) (take n (d ∷ tail)) ≡ false
one_dash l zero d tail other = refl
one_dash l (suc n) d tail other = ap (λ (b : Bool). b && bytes_eq l (take n tail)) other

next : (n : ℕ) → 1 + n ≡ suc n
next n = omega arith

short_name : (long : Option Text) (d : ℕ) (tail : Text) → nat_eq 45 d ≡ false → is_named long (option_name (45 ∷ d ∷ tail)) ≡ false
short_name None d tail other = refl
short_name (Some l) d tail other =
    ap (λ (n : ℕ). is_named (Some l) (take n (45 ∷ d ∷ tail))) (next (position_or_len is_equals (d ∷ tail))) ∙ one_dash l (position_or_len is_equals (d ∷ tail)) d tail other

short_form : (long : Option Text) (d : ℕ) (tail : Text) → nat_eq d 45 ≡ false → IsUtf8 (45 ∷ d ∷ tail) → ShortForm long (45 ∷ d ∷ tail)
short_form long d tail other text =
    let first = first_char d tail text in
    record {
      flags = d ∷ tail;
      first = first.0;
      is = record {
        end = ap (λ (b : Bool). b && bytes_eq tail []) other;
        long = ap (λ (b : Bool). option_and_then long_of_rest (if b then Some tail else None)) other;
        short = ap (λ (b : Bool). if b then None else Some (d ∷ tail)) other;
        some = (length tail, refl);
        char = first.1;
      };
      other_name = short_name long d tail (flipped d 45 other);
    }

option_by : (long : Option Text) (d : ℕ) (tail : Text) (b : Bool) → nat_eq d 45 ≡ b → IsUtf8 (45 ∷ d ∷ tail) → is_end (45 ∷ d ∷ tail) ≡ false
    → LongForm long (45 ∷ d ∷ tail) ⊎ ShortForm long (45 ∷ d ∷ tail)
option_by long d tail true is text end =
    let dash : d ≡ 45 = eqb-true d 45 is in
    inl (subst (λ (x : ℕ). LongForm long (45 ∷ x ∷ tail)) (sym dash) (long_form long tail (subst (λ (x : ℕ). is_end (45 ∷ x ∷ tail) ≡ false) dash end)))
option_by long d tail false is text end = inr (short_form long d tail is text)

-- a word that looks like an option has one of both forms for clap
pub option_form : (long : Option Text) (word : Text) → IsUtf8 word → is_end word ≡ false → is_option word ≡ true → LongForm long word ⊎ ShortForm long word
option_form long [] text end is = absurd cc
option_form long (c ∷ []) text end is = absurd cc
option_form long (c ∷ d ∷ tail) text end is =
    let dash : c ≡ 45 = eqb-true c 45 is in
    subst (λ (x : ℕ). LongForm long (x ∷ d ∷ tail) ⊎ ShortForm long (x ∷ d ∷ tail)) (sym dash)
    (option_by long d tail (nat_eq d 45) refl (subst (λ (x : ℕ). IsUtf8 (x ∷ d ∷ tail)) dash text) (subst (λ (x : ℕ). is_end (x ∷ d ∷ tail) ≡ false) dash end))

and_false : (b : Bool) → (b && false) ≡ false
and_false true = refl
and_false false = refl

-- the end of the options looks like an option
pub plain_end : (word : Text) → is_option word ≡ false → is_end word ≡ false
plain_end [] is = refl
plain_end (c ∷ []) is = and_false (nat_eq c 45)
plain_end (c ∷ d ∷ tail) is = ap (λ (b : Bool). b && bytes_eq (d ∷ tail) (45 ∷ [])) is
