use Rattle.std.proofs.Common.{◌<◌, ◌∙◌, ℕ, List, Vec, Global, map, get_or, ap, sym, subst}
use Rattle.std.proofs.lemmas.Result.{err_from_is_err_and}
use Rattle.macho_image.specs.Records.{Img}
use Rattle.macho_image.specs.declared.place.Location.{Location}
use Rattle.slide_chain.specs.declared.words.ChainWord.{ChainWord}
use Rattle.dep_closure.specs.Breaks.{link_break}
use Rattle.dep_closure.specs.Linked.{links_of}
use Rattle.extractor.specs.Chained.{HaveAddresses}
use Rattle.extractor.specs.Free.{AreFree, AllWritable, lists}
use Rattle.extractor.specs.Homes.{Rise}
use Rattle.extractor.specs.Vetting.{cached_lists, cached_set, link_finding, words_finding}
use Rattle.extractor.proofs.PlaceLaws.{words_rise, addresses}
use Rattle.extractor.proofs.SetLaws.{cached_sound}
use Rattle.extractor.proofs.VetLaws.{AreHeld, images_refused, link_refused, words_refused, sizes_refused, vet_none, read_images, all_writable, few_images}
use Rattle.extractor.proofs.vetted.vet.Goals as goal

pub returns-in_err-images-clause-cause : goal.returns-in_err-images-clause-cause
returns-in_err-images-clause-cause c =
    let p = err_from_is_err_and c.from_residual.result c.from_residual.ensures.1 in
    rw (p.1, p.2) (images_refused c.args.view.now c.in_err-images.field-0.0 c.in_err-images.ensures.cause)

pub link_cached-requires-clause-read : goal.link_cached-requires-clause-read
link_cached-requires-clause-read c = read_images c.args.view.now c.deref.result.now (c.deref.ensures.value ∙ c.in_ok-images.ensures.images) c.in_ok-images.ensures.cause

pub returns-in_err-linked-clause-cause : goal.returns-in_err-linked-clause-cause
returns-in_err-linked-clause-cause c =
    let p = err_from_is_err_and c.from_residual-in_err-linked.result c.from_residual-in_err-linked.ensures.1 in
    rw (p.1, p.2) (link_refused c.args.view.now c.deref.result.now c.in_err-linked.field-0.0 (c.deref.ensures.value ∙ c.in_ok-images.ensures.images) c.in_ok-images.ensures.cause c.in_err-linked.ensures.cause)

pub place_words-requires-clause-read : goal.place_words-requires-clause-read
place_words-requires-clause-read c = read_images c.args.view.now c.deref-2.result.now (c.deref-2.ensures.value ∙ c.in_ok-images.ensures.images) c.in_ok-images.ensures.cause

pub place_words-requires-clause-rise : goal.place_words-requires-clause-rise
place_words-requires-clause-rise c = subst (λ (ws : List ChainWord). Rise ws) (sym c.words_of-words.ensures) (words_rise c.args.view.now c.facts.ensures)

pub place_words-requires-clause-addresses : goal.place_words-requires-clause-addresses
place_words-requires-clause-addresses c =
    subst (λ (ws : List ChainWord). HaveAddresses c.data_start-start.result ws) (sym c.words_of-words.ensures) (subst (λ (s : ℕ). HaveAddresses s c.args.view.now.words) (sym c.data_start-start.ensures) (addresses c.args.view.now c.facts.ensures))

pub returns-in_err-placed-clause-cause : goal.returns-in_err-placed-clause-cause
returns-in_err-placed-clause-cause c =
    let p = err_from_is_err_and c.from_residual-in_err-placed.result c.from_residual-in_err-placed.ensures.1 in
    let held : AreHeld c.args.view.now c.deref-2.result.now c.data_start-start.result c.words_of-words.result.now = (record { images_are = c.deref-2.ensures.value ∙ c.in_ok-images.ensures.images; start_is = c.data_start-start.ensures; words_are = c.words_of-words.ensures }) in
    rw (p.1, p.2) (words_refused c.args.view.now c.deref-2.result.now c.data_start-start.result c.words_of-words.result.now c.in_err-placed.field-0.0 held c.in_ok-images.ensures.cause (ap link_finding (c.deref-2.ensures.value ∙ sym c.deref.ensures.value) ∙ c.in_ok-linked.ensures.cause) c.in_err-placed.ensures.cause)

pub free_words-requires-clause-addresses : goal.free_words-requires-clause-addresses
free_words-requires-clause-addresses c =
    subst (λ (ws : List ChainWord). HaveAddresses c.data_start-start.result ws) (sym c.words_of-words.ensures) (subst (λ (s : ℕ). HaveAddresses s c.args.view.now.words) (sym c.data_start-start.ensures) (addresses c.args.view.now c.facts.ensures))

pub check_sizes-requires-clause-read : goal.check_sizes-requires-clause-read
check_sizes-requires-clause-read c = read_images c.args.view.now c.deref-6.result.now (c.deref-6.ensures.value ∙ c.in_ok-images.ensures.images) c.in_ok-images.ensures.cause

pub check_sizes-requires-clause-writable : goal.check_sizes-requires-clause-writable
check_sizes-requires-clause-writable c =
    let held : AreHeld c.args.view.now c.deref-6.result.now c.data_start-start.result c.words_of-words.result.now = (record { images_are = c.deref-6.ensures.value ∙ c.in_ok-images.ensures.images; start_is = c.data_start-start.ensures; words_are = c.words_of-words.ensures }) in
    all_writable c.args.view.now c.deref-6.result.now c.data_start-start.result c.words_of-words.result.now (lists c.deref-7.result.now) c.facts.ensures held (ap (λ (is : List Img). words_finding c.data_start-start.result c.words_of-words.result.now (cached_set is)) (c.deref-6.ensures.value ∙ sym c.deref-2.ensures.value) ∙ c.in_ok-placed.ensures.cause)
    (subst (λ (fs : List (Vec Location Global)). AreFree c.data_start-start.result c.words_of-words.result.now c.deref-6.result.now (lists fs)) (sym c.deref-7.ensures.value) (subst (λ (is : List Img). AreFree c.data_start-start.result c.words_of-words.result.now is (lists c.in_ok-free.free.items)) (c.deref-3.ensures.value ∙ sym c.deref-6.ensures.value) c.in_ok-free.ensures))

pub returns-in_err-check_sizes-clause-cause : goal.returns-in_err-check_sizes-clause-cause
returns-in_err-check_sizes-clause-cause c =
    let p = err_from_is_err_and c.from_residual-in_err-check_sizes.result c.from_residual-in_err-check_sizes.ensures.1 in
    let held : AreHeld c.args.view.now c.deref-6.result.now c.data_start-start.result c.words_of-words.result.now = (record { images_are = c.deref-6.ensures.value ∙ c.in_ok-images.ensures.images; start_is = c.data_start-start.ensures; words_are = c.words_of-words.ensures }) in
    rw (p.1, p.2) (sizes_refused c.args.view.now c.deref-6.result.now c.data_start-start.result c.words_of-words.result.now c.entries_of.result.now c.in_err-check_sizes.field-0.0 held c.entries_of.ensures c.in_ok-images.ensures.cause (ap link_finding (c.deref-6.ensures.value ∙ sym c.deref.ensures.value) ∙ c.in_ok-linked.ensures.cause)
    (ap (λ (is : List Img). words_finding c.data_start-start.result c.words_of-words.result.now (cached_set is)) (c.deref-6.ensures.value ∙ sym c.deref-2.ensures.value) ∙ c.in_ok-placed.ensures.cause) c.in_err-check_sizes.ensures)

pub invariant_of-result : goal.invariant_of-result
invariant_of-result c =
    let own : AreHeld c.args.view.now c.deref-6.result.now c.data_start-start.result c.words_of-words.result.now = (record { images_are = c.deref-6.ensures.value ∙ c.in_ok-images.ensures.images; start_is = c.data_start-start.ensures; words_are = c.words_of-words.ensures }) in
    let images = c.in_ok-images.images.items in
    let read = read_images c.args.view.now c.in_ok-images.images.items c.in_ok-images.ensures.images c.in_ok-images.ensures.cause in
    let streams = c.in_ok-linked.ensures.streams ∙ ap (λ (is : List Img). map cached_lists is) c.deref.ensures.value in
    let links = c.in_ok-linked.ensures.links ∙ ap links_of c.deref.ensures.value in
    let writable = all_writable c.args.view.now c.deref-6.result.now c.data_start-start.result c.words_of-words.result.now (lists c.deref-7.result.now) c.facts.ensures own (ap (λ (is : List Img). words_finding c.data_start-start.result c.words_of-words.result.now (cached_set is)) (c.deref-6.ensures.value ∙ sym c.deref-2.ensures.value) ∙ c.in_ok-placed.ensures.cause) (subst (λ (fs : List (Vec Location Global)). AreFree c.data_start-start.result c.words_of-words.result.now c.deref-6.result.now (lists fs)) (sym c.deref-7.ensures.value) (subst (λ (is : List Img). AreFree c.data_start-start.result c.words_of-words.result.now is (lists c.in_ok-free.free.items)) (c.deref-3.ensures.value ∙ sym c.deref-6.ensures.value) c.in_ok-free.ensures)) in
    record {
      none = vet_none c.args.view.now c.deref-6.result.now c.data_start-start.result c.words_of-words.result.now c.entries_of.result.now own c.entries_of.ensures c.in_ok-images.ensures.cause (ap link_finding (c.deref-6.ensures.value ∙ sym c.deref.ensures.value) ∙ c.in_ok-linked.ensures.cause) (ap (λ (is : List Img). words_finding c.data_start-start.result c.words_of-words.result.now (cached_set is)) (c.deref-6.ensures.value ∙ sym c.deref-2.ensures.value) ∙ c.in_ok-placed.ensures.cause) c.in_ok-check_sizes.ensures;
      view = c.facts.ensures;
      bytes = subst (λ (l : List ℕ). (n : ℕ) → get_or l n 0 < 256) c.flat_of.ensures c.are_bytes.ensures;
      images_are = c.in_ok-images.ensures.images;
      streams_are = streams;
      links_are = links;
      sound = cached_sound c.in_ok-images.images.items c.in_ok-linked.linked.streams.items c.in_ok-linked.linked.links (few_images c.args.view.now c.in_ok-images.images.items c.facts.ensures c.in_ok-images.ensures.images) read streams links
          (ap link_break (sym c.deref.ensures.value) ∙ c.in_ok-linked.ensures.sound);
      free_are = subst (λ (s : ℕ). AreFree s c.args.view.now.words c.in_ok-images.images.items (lists c.in_ok-free.free.items)) c.data_start-start.ensures
          (subst (λ (ws : List ChainWord). AreFree c.data_start-start.result ws c.in_ok-images.images.items (lists c.in_ok-free.free.items)) c.words_of-words.ensures
          (subst (λ (is : List Img). AreFree c.data_start-start.result c.words_of-words.result.now is (lists c.in_ok-free.free.items)) c.deref-3.ensures.value c.in_ok-free.ensures));
      writable = subst (λ (is : List Img). AllWritable is (lists c.in_ok-free.free.items)) c.deref-6.ensures.value
          (subst (λ (fs : List (Vec Location Global)). AllWritable c.deref-6.result.now (lists fs)) c.deref-7.ensures.value writable);
    }

pub returns-clause-cause : goal.returns-clause-cause
returns-clause-cause c =
    let held : AreHeld c.args.view.now c.deref-6.result.now c.data_start-start.result c.words_of-words.result.now = (record { images_are = c.deref-6.ensures.value ∙ c.in_ok-images.ensures.images; start_is = c.data_start-start.ensures; words_are = c.words_of-words.ensures }) in
    vet_none c.args.view.now c.deref-6.result.now c.data_start-start.result c.words_of-words.result.now c.entries_of.result.now held c.entries_of.ensures c.in_ok-images.ensures.cause (ap link_finding (c.deref-6.ensures.value ∙ sym c.deref.ensures.value) ∙ c.in_ok-linked.ensures.cause) (ap (λ (is : List Img). words_finding c.data_start-start.result c.words_of-words.result.now (cached_set is)) (c.deref-6.ensures.value ∙ sym c.deref-2.ensures.value) ∙ c.in_ok-placed.ensures.cause) c.in_ok-check_sizes.ensures
