-- Lists that grow by one item.
use Rattle.std.proofs.Common.{◌≡◌, ◌<◌, ◌≤◌, ◌+◌, ◌++◌, ℕ, List, [], ◌∷◌, length, map, take, get_or, Option, refl, ap, sym, ◌∙◌, subst, arith}
use Rattle.std.specs.List.{flat_map}
use Rattle.std.proofs.lemmas.Grind.{flat_map-append}
use Rattle.std.proofs.lemmas.List.{append-nil, get_or-map, take_more, length-map}
use Rattle.std.proofs.lemmas.List.Concat.{flat_map-cons}
use Rattle.dsc_base.specs.Outside.{Files, LeavesPrefix, PutCause, with_file}
use Rattle.dsc_base.specs.declared.outside.store.PutFault.{PutFault}
use Rattle.dsc_base.specs.declared.outside.store.PutFault.TheVariants.{Failed, Memory}
use Rattle.dsc_tool.specs.declared.product.NewFile.{NewFile}
use Rattle.dsc_tool.specs.Steps.{PutsShort, file_at, new_files}
use Rattle.dsc_tool.proofs.InputLaws.{rose_since}
use Rattle.dsc_tool.specs.Streams.{with_files}

-- a text of one more item
pub flat_more : {X : Type 0} (text : X → List ℕ) (items : List X) (i : ℕ) (d : X) (before after line : List ℕ) → i < length items
    → before ≡ flat_map text (take i items) → line ≡ text (get_or items i d) → after ≡ before ++ line → after ≡ flat_map text (take (i + 1) items)
flat_more {X} text items i d before after line inside so_far same pushed =
    pushed ∙ (ap (λ (l : List ℕ). l ++ line) so_far ∙ (ap (λ (l : List ℕ). flat_map text (take i items) ++ l) same
    ∙ (ap (λ (l : List ℕ). flat_map text (take i items) ++ l) (sym (flat_map-cons text (get_or items i d) [] ∙ append-nil (text (get_or items i d))))
    ∙ (sym (flat_map-append text (take i items) (get_or items i d ∷ [])) ∙ ap (flat_map text) (sym (take_more items i d inside))))))

-- one more name
pub one_more : {X : Type 0} (text : X → List ℕ) (names : List X) (i : ℕ) (d : X) (bytes : List ℕ) (before after : List (List ℕ)) → i < length names
    → bytes ≡ text (get_or names i d) → before ≡ take i (map text names) → after ≡ before ++ (bytes ∷ []) → after ≡ take (i + 1) (map text names)
one_more {X} text names i d bytes before after inside same so_far pushed =
    let longer : i < length (map text names) = omega (arith, length-map names text) in
    let here : get_or (map text names) i [] ≡ bytes = get_or-map text names i d [] inside ∙ sym same in
    pushed ∙ (ap (λ (l : List (List ℕ)). l ++ (bytes ∷ [])) so_far
    ∙ (ap (λ (b : List ℕ). take i (map text names) ++ (b ∷ [])) (sym here)
    ∙ sym (take_more (map text names) i [] longer)))

-- one more file
files_then : (told : Option Files) (files : List (List ℕ × List ℕ)) (f : List ℕ × List ℕ) → with_files told (files ++ (f ∷ [])) ≡ with_file (with_files told files) f.0 f.1
files_then told [] f = refl
files_then told (g ∷ files) f = files_then (with_file told g.0 g.1) files f

pub files_more : (told : Option Files) (files : List (List ℕ × List ℕ)) (i : ℕ) (f : List ℕ × List ℕ) → i < length files → get_or files i ([], []) ≡ f
    → with_files told (take (i + 1) files) ≡ with_file (with_files told (take i files)) f.0 f.1
files_more told files i f inside is =
    ap (with_files told) (take_more files i ([], []) inside) ∙ (files_then told (take i files) (get_or files i ([], []))
    ∙ ap (λ (g : List ℕ × List ℕ). with_file (with_files told (take i files)) g.0 g.1) is)

as_many : (files : List NewFile) → length (new_files files) ≡ length files
as_many files =
    let pair : NewFile → List ℕ × List ℕ = λ (f : NewFile). (f.name, f.bytes.items) in length-map files pair

-- the file with a number, as it is put
listed : (files : List NewFile) (i : ℕ) (file : NewFile) (name bytes : List ℕ) → i < length files → file ≡ get_or files i file → name ≡ file.name → bytes ≡ file.bytes.items
    → file_at (new_files files) i ≡ (name, bytes)
listed files i file name bytes inside is same_name same_bytes =
    get_or-map (λ (f : NewFile). (f.name, f.bytes.items)) files i file ([], []) inside
    ∙ (ap (λ (f : NewFile). (f.name, f.bytes.items)) (sym is) ∙ (ap (λ (n : List ℕ). (n, file.bytes.items)) (sym same_name) ∙ ap (λ (b : List ℕ). (name, b)) (sym same_bytes)))

pub files_step : (before since after : Option Files) (files : List NewFile) (i : ℕ) (file : NewFile) (name bytes : List ℕ) → i < length files → file ≡ get_or files i file → name ≡ file.name
    → bytes ≡ file.bytes.items → since ≡ with_files before (take i (new_files files)) → after ≡ with_file since name bytes → after ≡ with_files before (take (i + 1) (new_files files))
files_step before since after files i file name bytes inside is same_name same_bytes so_far put =
    let longer : i < length (new_files files) = omega (arith, as_many files, inside) in
    put ∙ (ap (λ (f : Option Files). with_file f name bytes) so_far
    ∙ sym (files_more before (new_files files) i (name, bytes) longer (listed files i file name bytes inside is same_name same_bytes)))

-- a file that isn't put, where those before it are
pub short_at : (before since after : Option Files) (old mid new : ℕ) (files : List NewFile) (i : ℕ) (file : NewFile) (name bytes : List ℕ) (fault : PutFault) → i < length files
    → file ≡ get_or files i file → name ≡ file.name → bytes ≡ file.bytes.items → since ≡ with_files before (take i (new_files files)) → old ≤ mid
    → PutCause since after mid new name bytes fault → PutsShort before after old new (new_files files) fault
short_at before since after old mid new files i file name bytes Failed inside is same_name same_bytes so_far le (rose, left) =
    let longer : i < length (new_files files) = omega (arith, as_many files, inside) in (
      rose_since old mid new le rose,
      record {
        count = i;
        inside = longer;
        left = subst (λ (f : List ℕ × List ℕ). LeavesPrefix (with_files before (take i (new_files files))) after f.0 f.1) (sym (listed files i file name bytes inside is same_name same_bytes))
            (subst (λ (s : Option Files). LeavesPrefix s after name bytes) so_far left);
      },
    )
short_at before since after old mid new files i file name bytes Memory inside is same_name same_bytes so_far le (left, same) =
    record { count = i; inside = omega (arith, as_many files, inside); left = left ∙ so_far }
