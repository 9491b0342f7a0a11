use Rattle.std.proofs.Common.{◌≡◌, None, sym, ap, subst, ◌∙◌}
use Rattle.slide_chain.specs.Chains.{Slide, chain_finding}
use Rattle.cache_check.specs.Images.{cached_images}
use Rattle.cache_check.specs.Views.{View, data_bytes}
use Rattle.cache_check.proofs.CachedLaws.{view_images}
use Rattle.cache_check.proofs.ViewLaws.{parts_are, parts_sound, chains_none, nothing_found}
use Rattle.cache_check.proofs.read.read_cache.Goals as goal

pub flatten-requires-clause-sound : goal.flatten-requires-clause-sound
flatten-requires-clause-sound c =
    subst (λ (s : Slide). chain_finding s (data_bytes c.in_ok-head.head c.args.cache.now) ≡ None) (sym c.in_ok-info.ensures.info) (chains_none c.in_ok-head.head c.args.cache.now c.in_ok-info.ensures.cause)

pub invariant_of-result : goal.invariant_of-result
invariant_of-result c =
    parts_sound c.args.cache.now c.in_ok-head.head c.in_ok-info.info c.in_ok-info.words.items c.in_ok-flat.flat.items (record {
      head_is = c.in_ok-head.ensures.head;
      heads = c.in_ok-head.ensures.sound;
      shape = c.in_ok-check_shape.ensures;
      info_is = c.in_ok-info.ensures.info;
      suits = c.in_ok-info.ensures.suits;
      slides = c.in_ok-info.ensures.cause;
      words_is = c.in_ok-info.ensures.words;
      bytes_is = c.in_ok-flat.ensures;
    })

pub returns-clause-view : goal.returns-clause-view
returns-clause-view c =
    parts_are c.args.cache.now c.in_ok-head.head c.in_ok-info.info c.in_ok-info.words.items c.in_ok-flat.flat.items (record {
      head_is = c.in_ok-head.ensures.head;
      heads = c.in_ok-head.ensures.sound;
      shape = c.in_ok-check_shape.ensures;
      info_is = c.in_ok-info.ensures.info;
      suits = c.in_ok-info.ensures.suits;
      slides = c.in_ok-info.ensures.cause;
      words_is = c.in_ok-info.ensures.words;
      bytes_is = c.in_ok-flat.ensures;
    })

pub returns-clause-images : goal.returns-clause-images
returns-clause-images c =
    ap (λ (v : View). cached_images v) (parts_are c.args.cache.now c.in_ok-head.head c.in_ok-info.info c.in_ok-info.words.items c.in_ok-flat.flat.items (record {
      head_is = c.in_ok-head.ensures.head;
      heads = c.in_ok-head.ensures.sound;
      shape = c.in_ok-check_shape.ensures;
      info_is = c.in_ok-info.ensures.info;
      suits = c.in_ok-info.ensures.suits;
      slides = c.in_ok-info.ensures.cause;
      words_is = c.in_ok-info.ensures.words;
      bytes_is = c.in_ok-flat.ensures;
    }))
    ∙ view_images c.args.cache.now

pub returns-clause-cause : goal.returns-clause-cause
returns-clause-cause c = nothing_found c.args.cache.now c.in_ok-head.head c.in_ok-head.ensures.head c.in_ok-head.ensures.sound c.in_ok-check_shape.ensures c.in_ok-info.ensures.cause
