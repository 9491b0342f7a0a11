-- What a cache tells, word by word, of the head that is read from it.
use Rattle.std.proofs.Common.{◌≡◌, ◌<◌, ℕ, List, length, get_or, sym, ap, ◌∙◌, arith}
use Rattle.std.proofs.lemmas.List.FromFn.{length-map-range_with_len, get_or-map-range_with_len}
use Rattle.cache_header.specs.Records.{Entry, Head}
use Rattle.cache_header.specs.Reading.{mappings_of, image_count, image_address, image_path, image_uuid, image_text_size, image_at, images_of, slide_place, max_slide, head_read}

pub mappings_told : (c : List ℕ) (h : Head) → head_read c ≡ h → mappings_of c ≡ h.mappings
unfolding head_read
mappings_told c h is = ap (λ (x : Head). x.mappings) is

pub max_slide_told : (c : List ℕ) (h : Head) → head_read c ≡ h → max_slide c ≡ h.max_slide
unfolding head_read
max_slide_told c h is = ap (λ (x : Head). x.max_slide) is

pub slide_place_told : (c : List ℕ) (h : Head) → head_read c ≡ h → slide_place c ≡ h.slide_info
unfolding head_read
slide_place_told c h is = ap (λ (x : Head). x.slide_info) is

images_told : (c : List ℕ) (h : Head) → head_read c ≡ h → images_of c ≡ h.images
unfolding head_read
images_told c h is = ap (λ (x : Head). x.images) is

pub image_count_told : (c : List ℕ) (h : Head) → head_read c ≡ h → image_count c ≡ length h.images
unfolding images_of
image_count_told c h is = sym (length-map-range_with_len (image_at c) 0 (image_count c)) ∙ ap (λ (l : List Entry). length l) (images_told c h is)

image_told : (c : List ℕ) (h : Head) (k : ℕ) (d : Entry) → head_read c ≡ h → k < length h.images → image_at c k ≡ get_or h.images k d
unfolding images_of
image_told c h k d is lt =
    let inside : k < image_count c = omega (arith, image_count_told c h is) in
    sym (get_or-map-range_with_len (image_at c) 0 (image_count c) k k d inside (omega arith)) ∙ ap (λ (l : List Entry). get_or l k d) (images_told c h is)

pub image_address_told : (c : List ℕ) (h : Head) (k : ℕ) (d : Entry) → head_read c ≡ h → k < length h.images → image_address c k ≡ (get_or h.images k d).address
unfolding image_at
image_address_told c h k d is lt = ap (λ (e : Entry). e.address) (image_told c h k d is lt)

pub image_path_told : (c : List ℕ) (h : Head) (k : ℕ) (d : Entry) → head_read c ≡ h → k < length h.images → image_path c k ≡ (get_or h.images k d).path
unfolding image_at
image_path_told c h k d is lt = ap (λ (e : Entry). e.path) (image_told c h k d is lt)

pub image_uuid_told : (c : List ℕ) (h : Head) (k : ℕ) (d : Entry) → head_read c ≡ h → k < length h.images → image_uuid c k ≡ (get_or h.images k d).uuid
unfolding image_at
image_uuid_told c h k d is lt = ap (λ (e : Entry). e.uuid) (image_told c h k d is lt)

pub image_text_size_told : (c : List ℕ) (h : Head) (k : ℕ) (d : Entry) → head_read c ≡ h → k < length h.images → image_text_size c k ≡ (get_or h.images k d).text_size
unfolding image_at
image_text_size_told c h k d is lt = ap (λ (e : Entry). e.text_size) (image_told c h k d is lt)
