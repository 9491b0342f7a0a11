-- What the parts of an extraction leave, as what the words come to.
use Rattle.std.proofs.Common.{◌≡◌, ◌≤◌, ◌<◌, ◌+◌, ◌++◌, ◌&&◌, ◌⊎◌, ℕ, zero, suc, List, [], ◌∷◌, length, map, get_or, Option, Some, None, Result, Ok, Err, Bool, true, false, nat_le, refl, ap, sym, ◌∙◌, subst, inl, inr, arith, IfOk}
use Rattle.std.specs.Prelude.{option_map, position, slice_get}
use Rattle.std.specs.List.{list_all, range_with_len}
use Rattle.std.specs.Option.{option_or}
use Rattle.std.specs.Str.{IsUtf8}
use Rattle.std.proofs.lemmas.Bool.Decides.{nat_tests}
use Rattle.std.proofs.lemmas.List.{map-append}
use Rattle.std.proofs.lemmas.List.FromFn.{map-range_with_len_more}
use Rattle.std.proofs.lemmas.Option.{slice_get-get_or}
use Rattle.std.proofs.lemmas.Str.{IsUtf8-from_ascii}
use Rattle.dsc_base.proofs.TextLaws.{plain_is}
use Rattle.dsc_base.specs.Outside.{Files, HasFile}
use Rattle.dsc_base.specs.Refusals.{first_break}
use Rattle.dsc_base.specs.Texts.{is_printable, is_plain_text}
use Rattle.dsc_base.specs.declared.fault.Finding.{Finding}
use Rattle.macho_image.specs.Rules.{same_bytes}
use Rattle.cache_header.proofs.SoundLaws.{sound_head}
use Rattle.cache_header.proofs.ToldLaws.{image_count_told, image_path_told}
use Rattle.cache_header.specs.Findings.{head_finding}
use Rattle.cache_header.specs.Reading.{head_read, image_count, image_path}
use Rattle.cache_header.specs.Records.{Entry}
use Rattle.cache_check.proofs.CachedLaws.{neither}
use Rattle.cache_check.specs.Views.{View, view_finding, view_of}
use Rattle.extractor.specs.Vetting.{vet_finding}
use Rattle.dsc_tool.specs.declared.product.NewFile.{NewFile}
use Rattle.dsc_tool.specs.declared.product.Product.{Product}
use Rattle.dsc_tool.specs.declared.stop.Stop.{Stop}
use Rattle.dsc_tool.specs.declared.stop.Stop.TheVariants.{BadWords, Unread, Refused, Flawed, NoImage, Memory}
use Rattle.dsc_tool.specs.Causes.{IsRead, WorkCause, IsDue}
use Rattle.dsc_tool.specs.Extraction.{ArePlain, asked_files, cache_finding, image_file, path_in}
use Rattle.dsc_tool.specs.Inputs.{Contents}
use Rattle.dsc_tool.specs.Made.{Made, extract_made, images_made, vetted_made}
use Rattle.dsc_tool.specs.Steps.{ExtractStop, ExtractWorks, FlawStop, HasView, PromisesOf, made_of, new_files}
use Rattle.dsc_tool.specs.Stops.{cache_limit}
use Rattle.dsc_tool.specs.Words.{Order, extract, command_of}
use Rattle.dsc_tool.proofs.ProductLaws.{no_files, only_cache}

-- ---- the first finding

alone : (found : Option Finding) → option_or found None ≡ found
alone None = refl
alone (Some f) = refl

vetted_finding : (cache : List ℕ) → view_finding cache ≡ None → cache_finding cache ≡ vet_finding (view_of cache)
unfolding cache_finding
vetted_finding cache none =
    ap (λ (found : Option Finding). first_break (found ∷ vet_finding (view_of cache) ∷ [])) none ∙ alone (vet_finding (view_of cache))

whole_finding : (cache : List ℕ) (f : Finding) → view_finding cache ≡ Some f → cache_finding cache ≡ Some f
unfolding cache_finding
whole_finding cache f is = ap (λ (found : Option Finding). first_break (found ∷ vet_finding (view_of cache) ∷ [])) is

-- ---- paths that are plain

head_none : (cache : List ℕ) → view_finding cache ≡ None → head_finding cache ≡ None
unfolding view_finding
head_none cache none = (neither (head_finding cache) _ none).0

plain_of : (cache : List ℕ) → view_finding cache ≡ None → ArePlain (view_of cache).head.images
unfolding view_of
plain_of cache none k inside =
    let sound = sound_head cache (head_none cache none) in
    let images : List Entry = (head_read cache).images in
    let d : Entry = record { address = 0; path = []; uuid = []; text_size = 0 } in
    let within : k < image_count cache = omega (arith, inside, image_count_told cache (head_read cache) refl) in
    ap (λ (e : Option Entry). is_plain_text (path_in e)) (slice_get-get_or images k d inside)
    ∙ (ap is_plain_text (sym (image_path_told cache (head_read cache) k d refl inside)) ∙ sound.plain k within)

pub plain_paths : (files : Option Files) (name : List ℕ) (v : View) → HasView files name v → ArePlain v.head.images
plain_paths files name v has = subst (λ (w : View). ArePlain w.head.images) (sym has.is) (plain_of has.bytes has.sound)

printable_first : (x : ℕ) (others : Bool) → (nat_le 0x20 x && nat_le x 0x7E) && others ≡ true → (x < 128) × (others ≡ true)
printable_first x true plain =
    let low : x < 128 = grind (arith, nat_tests) in
    (low, refl)
printable_first x false plain = absurd (grind (arith, nat_tests))

printable_low : (text : List ℕ) → list_all is_printable text ≡ true → (k : ℕ) → get_or text k 0 < 128
printable_low [] plain k = omega arith
printable_low (x ∷ xs) plain zero = (printable_first x (list_all is_printable xs) plain).0
printable_low (x ∷ xs) plain (suc k) = printable_low xs (printable_first x (list_all is_printable xs) plain).1 k

-- what is plain is text
pub plain_utf8 : (text : List ℕ) → is_plain_text text ≡ true → IsUtf8 text
plain_utf8 text plain = IsUtf8-from_ascii text (printable_low text (plain_is text plain).printable)

-- ---- files

pub one_file_more : (file_of : ℕ → List ℕ × List ℕ) (first index : ℕ) (before after : List NewFile) (file : NewFile) → new_files before ≡ map file_of (range_with_len first index)
    → (file.name, file.bytes.items) ≡ file_of (first + index) → after ≡ before ++ (file ∷ []) → new_files after ≡ map file_of (range_with_len first (index + 1))
one_file_more file_of first index before after file so_far same pushed =
    ap new_files pushed ∙ (map-append (λ (f : NewFile). (f.name, f.bytes.items)) before (file ∷ [])
    ∙ (ap (λ (l : List (List ℕ × List ℕ)). l ++ ((file.name, file.bytes.items) ∷ [])) so_far
    ∙ (ap (λ (f : List ℕ × List ℕ). map file_of (range_with_len first index) ++ (f ∷ [])) same
    ∙ sym (map-range_with_len_more file_of first index (first + index) refl))))

-- what is asked for with a path, of which these are the bytes, by the number that is found
abbrev one_asked : List ℕ → View → Option ℕ → Option (List (List ℕ × List ℕ))
one_asked prefix v found = option_map (λ (numbers : List ℕ). map (image_file prefix v) numbers) (option_map (λ (k : ℕ). range_with_len k 1) found)

with_path : (prefix : List ℕ) (v : View) (image : Option (List ℕ)) (path word bytes : List ℕ) (found : Option ℕ) → image ≡ Some path → word ≡ path → bytes ≡ word
    → found ≡ position (λ (e : Entry). same_bytes bytes e.path) v.head.images → asked_files prefix image v ≡ one_asked prefix v found
with_path prefix v image path word bytes found is same again finds =
    ap (λ (i : Option (List ℕ)). asked_files prefix i v) (is ∙ ap (λ (p : List ℕ). Some p) (sym (again ∙ same))) ∙ ap (λ (o : Option ℕ). one_asked prefix v o) (sym finds)

pub missing_image : (prefix : List ℕ) (v : View) (image : Option (List ℕ)) (path word bytes : List ℕ) (found : Option ℕ) → image ≡ Some path → word ≡ path → bytes ≡ word
    → found ≡ position (λ (e : Entry). same_bytes bytes e.path) v.head.images → found ≡ None → asked_files prefix image v ≡ None
missing_image prefix v image path word bytes found is same again finds none =
    with_path prefix v image path word bytes found is same again finds ∙ ap (λ (o : Option ℕ). one_asked prefix v o) none

pub one_image : (prefix : List ℕ) (v : View) (image : Option (List ℕ)) (path word bytes : List ℕ) (found : Option ℕ) (k : ℕ) (files : List NewFile) → image ≡ Some path → word ≡ path → bytes ≡ word
    → found ≡ position (λ (e : Entry). same_bytes bytes e.path) v.head.images → found ≡ Some k → new_files files ≡ map (image_file prefix v) (range_with_len k 1)
    → asked_files prefix image v ≡ Some (new_files files)
one_image prefix v image path word bytes found k files is same again finds there made =
    with_path prefix v image path word bytes found is same again finds
    ∙ (ap (λ (o : Option ℕ). one_asked prefix v o) there ∙ ap (λ (fs : List (List ℕ × List ℕ)). Some fs) (sym made))

-- ---- what is made

pub extract_works : (files : Option Files) (name prefix : List ℕ) (image : Option (List ℕ)) (v : View) (m : Made) → HasView files name v
    → vetted_made prefix image v (vet_finding v) ≡ Ok m → PromisesOf v → ExtractWorks files name prefix image m
extract_works files name prefix image v m has made extracted = record {
  cache = has.bytes;
  there = has.there;
  within = has.within;
  is = ap (vetted_made prefix image (view_of has.bytes)) (vetted_finding has.bytes has.sound)
      ∙ (ap (λ (w : View). vetted_made prefix image w (vet_finding w)) (sym has.is) ∙ made);
  extracted = extracted has.bytes has.small has.sound (sym has.is);
}

pub extract_if : (made : Result Product Stop) (files : Option Files) (name prefix : List ℕ) (image : Option (List ℕ)) (v : View) → HasView files name v
    → IfOk made (λ p. vetted_made prefix image v (vet_finding v) ≡ Ok (made_of p)) → IfOk made (λ p. PromisesOf v) → IfOk made (λ p. ExtractWorks files name prefix image (made_of p))
extract_if (Ok p) files name prefix image v has is extracted = extract_works files name prefix image v (made_of p) has is extracted
extract_if (Err stop) files name prefix image v has is extracted = tt

pub extract_stops : (files : Option Files) (old new : ℕ) (name prefix : List ℕ) (image : Option (List ℕ)) (v : View) (stop : Stop) → HasView files name v
    → (stop ≡ Memory) ⊎ (vetted_made prefix image v (vet_finding v) ≡ Err stop) → ExtractStop files old new name prefix image stop
extract_stops files old new name prefix image v stop has (inl memory) = subst (λ (s : Stop). ExtractStop files old new name prefix image s) (sym memory) (inl tt)
extract_stops files old new name prefix image v stop has (inr made) =
    inr (
      has.bytes,
      has.there,
      has.within,
      ap (vetted_made prefix image (view_of has.bytes)) (vetted_finding has.bytes has.sound)
          ∙ (ap (λ (w : View). vetted_made prefix image w (vet_finding w)) (sym has.is) ∙ made),
    )

pub view_stops : (files : Option Files) (old new : ℕ) (name prefix : List ℕ) (image : Option (List ℕ)) (stop : Stop) → FlawStop view_finding files old new name stop
    → ExtractStop files old new name prefix image stop
view_stops files old new name prefix image stop (inl cause) = inl cause
view_stops files old new name prefix image stop (inr (bytes, there, within, (f, is, found))) =
    inr (bytes, there, within, ap (vetted_made prefix image (view_of bytes)) (whole_finding bytes f found) ∙ ap (λ (s : Stop). Err s) (sym is))

-- ---- the whole

extract_read : (words : List (List ℕ)) (files : Option Files) (name prefix : List ℕ) (image : Option (List ℕ)) (cache : List ℕ) → command_of words ≡ Some (extract name prefix image)
    → HasFile files name cache → length cache ≤ cache_limit → IsRead words files (extract name prefix image) (only_cache cache)
extract_read words files name prefix image cache spelled there within =
    record { spelled = spelled; inputs = record { cache = (there, within); rest = no_files files } }

pub extract_product : (words : List (List ℕ)) (files : Option Files) (old new : ℕ) (name prefix : List ℕ) (image : Option (List ℕ)) (m : Made)
    → command_of words ≡ Some (extract name prefix image) → ExtractWorks files name prefix image m → (order : Order) × WorkCause words files old new order m
extract_product words files old new name prefix image m spelled works = (
  extract name prefix image,
  inl (
    only_cache works.cache,
    record { read = extract_read words files name prefix image works.cache spelled works.there works.within; made = works.is },
    works.extracted,
  ),
)

abbrev stop_or : Stop → Result Made Stop → Stop
stop_or d (Ok m) = d
stop_or d (Err stop) = stop

-- a cache that was read stops it by a finding, or by an image that it lacks
by_image : (found : Option (List (List ℕ × List ℕ))) (stop : Stop) → images_made found ≡ Err stop → stop ≡ NoImage
by_image None stop is = sym (ap (stop_or stop) is)
by_image (Some files) stop is = absurd cc

by_cache : (prefix : List ℕ) (image : Option (List ℕ)) (v : View) (found : Option Finding) (stop : Stop) → vetted_made prefix image v found ≡ Err stop
    → ((f : Finding) × (stop ≡ Flawed f)) ⊎ (stop ≡ NoImage)
by_cache prefix image v (Some f) stop is = inl (f, sym (ap (stop_or stop) is))
by_cache prefix image v None stop is = inr (by_image (asked_files prefix image v) stop is)

-- by no other stop
neither_stop : (stop : Stop) → ((f : Finding) → stop ≡ Flawed f → ⊥) → (stop ≡ NoImage → ⊥) → ((f : Finding) × (stop ≡ Flawed f)) ⊎ (stop ≡ NoImage) → ⊥
neither_stop stop flawed missing (inl (f, is)) = flawed f is
neither_stop stop flawed missing (inr is) = missing is

pub extract_due : (words : List (List ℕ)) (files : Option Files) (old new : ℕ) (name prefix : List ℕ) (image : Option (List ℕ)) (stop : Stop)
    → command_of words ≡ Some (extract name prefix image) → ExtractStop files old new name prefix image stop → IsDue words files old new stop
extract_due words files old new name prefix image BadWords spelled (inl never) = absurd never
extract_due words files old new name prefix image BadWords spelled (inr (cache, there, within, is)) =
    absurd (neither_stop BadWords (λ f same. cc) (λ same. cc) (by_cache prefix image (view_of cache) (cache_finding cache) BadWords is))
extract_due words files old new name prefix image (Unread input) spelled (inl cause) = (extract name prefix image, spelled, inl (name, refl, cause))
extract_due words files old new name prefix image (Unread input) spelled (inr (cache, there, within, is)) =
    absurd (neither_stop (Unread input) (λ f same. cc) (λ same. cc) (by_cache prefix image (view_of cache) (cache_finding cache) (Unread input) is))
extract_due words files old new name prefix image (Refused b) spelled (inl never) = absurd never
extract_due words files old new name prefix image (Refused b) spelled (inr (cache, there, within, is)) =
    absurd (neither_stop (Refused b) (λ f same. cc) (λ same. cc) (by_cache prefix image (view_of cache) (cache_finding cache) (Refused b) is))
extract_due words files old new name prefix image (Flawed f) spelled (inl cause) = (extract name prefix image, spelled, inl (inl (name, refl, cause), refl))
extract_due words files old new name prefix image (Flawed f) spelled (inr (cache, there, within, is)) =
    (extract name prefix image, spelled, inr (only_cache cache, extract_read words files name prefix image cache spelled there within, is))
extract_due words files old new name prefix image NoImage spelled (inl never) = absurd never
extract_due words files old new name prefix image NoImage spelled (inr (cache, there, within, is)) =
    (extract name prefix image, spelled, inr (only_cache cache, extract_read words files name prefix image cache spelled there within, is))
extract_due words files old new name prefix image Memory spelled cause = tt
