-- What the writer's callers owe says of its loop and of what it leaves.
use Rattle.std.proofs.Common.{◌≡◌, ◌<◌, ◌≤◌, ℕ, ◌-◌, ◌*◌, ◌/◌, ◌%◌, ◌^◌, List, length, get_or, sym, ap, ap₂, map, subst, refl, ◌∙◌}
use Rattle.std.specs.Prelude.{None}
use Rattle.dsc_base.specs.Edits.{change_all, settled, AllFit}
use Rattle.slide_chain.specs.Chains.{Slide, chain_words, chain_finding, slid_area}
use Rattle.slide_chain.specs.Making.{linking, info_of, AreWords, AllBelow, AreOutside, IsMade, given, raising}
use Rattle.slide_chain.proofs.LinkLaws.{AreBytes, IsLinkable, linking-fits, limit_back, chain_words-made}
use Rattle.slide_chain.proofs.MappedLaws.{slid-linked}
use Rattle.slide_chain.proofs.SoundLaws.{chains-sound}

pub made-mask : (s : Slide) (size : ℕ) (ws : List ℕ) (made : IsMade s size ws) → s.mask ≡ (2 ^ made.bits - 1) * 2 ^ 48
unfolding info_of
made-mask s size ws made = ap (λ (t : Slide). t.mask) made.made

pub made-limit : (s : Slide) (size : ℕ) (ws : List ℕ) (made : IsMade s size ws) → s.mask / 2 ^ 48 ≡ 2 ^ made.bits - 1
made-limit s size ws made = ap (λ (m : ℕ). m / 2 ^ 48) (made-mask s size ws made) ∙ limit_back made.bits

-- each word and its step fit
pub all-fit : (s : Slide) (size : ℕ) (area ws : List ℕ) → IsMade s size ws → AreBytes area → AreOutside s.mask area ws → AllFit (map (settled area) (linking (s.mask / 2 ^ 48) ws))
all-fit s size area ws made bytes outside =
    subst (λ (l : ℕ). AllFit (map (settled area) (linking l ws))) (sym (made-limit s size ws made))
    (linking-fits made.bits area ws made.some made.most bytes (subst (λ (m : ℕ). AreOutside m area ws) (made-mask s size ws made) outside))

-- what the writer leaves is what was given, and nothing is wrong with it
pub record WritesBack (s : Slide) (area after ws : List ℕ) : Type 0 where
  pub back : chain_words s after ≡ given area ws
  pub sound : chain_finding s after ≡ None
  pub slid : (slide : ℕ) → slid_area s slide after ≡ change_all (map (raising slide) ws) area

pub writes-back : (s : Slide) (area after ws : List ℕ) → IsMade s (length area) ws → ((k : ℕ) → get_or area k 0 < 256) → length area % 4096 ≡ 0 → AreWords 0 ws → AllBelow (length area) ws
    → AreOutside s.mask area ws → length after ≡ length area → after ≡ change_all (linking (s.mask / 2 ^ 48) ws) area → WritesBack s area after ws
unfolding info_of
writes-back s area after ws made bytes even words below outside long is =
    let fit : IsLinkable made.bits (length area) area ws = record {
      some = made.some;
      most = made.most;
      even = even;
      long = refl;
      bytes = bytes;
      words = words;
      under = below;
      outside = subst (λ (m : ℕ). AreOutside m area ws) (made-mask s (length area) ws made) outside;
    } in
    let is_linked : after ≡ change_all (linking (2 ^ made.bits - 1) ws) area = is ∙ ap (λ (l : ℕ). change_all (linking l ws) area) (made-limit s (length area) ws made) in
    let few : length (info_of made.bits (length area) ws).extras ≤ 0x4000 = subst (λ (t : Slide). length t.extras ≤ 0x4000) made.made made.few in
    record {
      back = ap (λ (t : Slide). chain_words t after) made.made ∙ chain_words-made made.bits (length area) area after ws fit few is_linked long;
      sound = ap (λ (t : Slide). chain_finding t after) made.made ∙ chains-sound made.bits (length area) area after ws fit few is_linked;
      slid = λ slide. ap₂ (λ (t : Slide) (l : List ℕ). slid_area t slide l) made.made is_linked ∙ slid-linked made.bits (length area) slide area ws fit few;
    }
