use Rattle.std.proofs.Common.{◌≡◌, ◌∙◌, ◌++◌, ◌∷◌, [], List, length, true, ap, All, arith}
use Rattle.std.proofs.lemmas.List.Elements.{All-nil, All-cons, All-same}
use Rattle.cache_header.specs.Records.{Entry}
use Rattle.dsc_base.specs.Texts.{is_plain_text}
use Rattle.cache_header.proofs.tests.one_image.Goals as goal

one_plain : (old images : List Entry) (e : Entry) → old ≡ [] → images ≡ old ++ e ∷ [] → is_plain_text e.path ≡ true → All (λ x. is_plain_text x.path ≡ true) images
one_plain old images e none pushed plain =
    let one : images ≡ e ∷ [] = pushed ∙ ap (λ (l : List Entry). l ++ e ∷ []) none in
    All-same (λ (x : Entry). is_plain_text x.path ≡ true) images (e ∷ []) one
    (All-cons (λ (x : Entry). is_plain_text x.path ≡ true) e [] plain (All-nil (λ (x : Entry). is_plain_text x.path ≡ true)))

few : (old images : List Entry) (e : Entry) → old ≡ [] → images ≡ old ++ e ∷ [] → length images ≡ 1
few old images e none pushed = ap (λ (l : List Entry). length l) (pushed ∙ ap (λ (l : List Entry). l ++ e ∷ []) none)

pub returns : goal.returns
unfolding is_plain_text
returns c =
    let one : length c.push.new.self.items ≡ 1 = few c.new-images.result.items c.push.new.self.items _ c.new-images.ensures.items c.in_ok-push.ensures.items in
    record {
      three = ap length c.in_ok-mappings.ensures.items;
      few = omega (arith, one);
      plain = one_plain c.new-images.result.items c.push.new.self.items _ c.new-images.ensures.items c.in_ok-push.ensures.items (ap is_plain_text (c.in_ok-from_slice.ensures {u = tt}));
    }
