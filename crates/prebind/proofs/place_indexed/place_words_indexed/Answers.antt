use Rattle.std.proofs.Common.{Option, sym, ap, subst, ◌∙◌}
use Rattle.std.specs.Prelude.{option_map}
use Rattle.dsc_base.specs.declared.fault.Site.{Site}
use Rattle.dsc_base.specs.declared.fault.Break.{Break}
use Rattle.dsc_base.specs.declared.fault.SetFault.{SetFault}
use Rattle.dsc_base.specs.Refusals.{in_image, in_set, IsSetRefusal}
use Rattle.macho_image.specs.Segments.{segments_at}
use Rattle.prebind.specs.Words.{streams_at}
use Rattle.prebind.specs.WordRules.{word_fault, place_break}
use Rattle.prebind.proofs.PlaceLaws.{refused_in}
use Rattle.prebind.proofs.IndexLaws.{within_each}
use Rattle.prebind.proofs.BoundLaws.{placed_all, break_is}
use Rattle.prebind.proofs.place_indexed.place_words_indexed.Goals as goal

pub returns-in-Ok-clause-found : goal.returns-in-Ok-clause-found
returns-in-Ok-clause-found g c = λ set are own.
    let within = within_each set c.requires.set c.args.links.now c.args.indexed.now c.args.image are c.requires.are c.requires.within in
    placed_all set c.args.image c.in-Ok.words.items are.index.sound within (c.in-Ok.ensures.found set are own)

pub returns-in-Ok-clause-cause : goal.returns-in-Ok-clause-cause
returns-in-Ok-clause-cause g c = λ set are own. break_is set c.args.image ∙ ap (λ (o : Option Site). option_map (in_image c.args.image) o) (c.in-Ok.ensures.cause set are own)

pub returns-in-Err-clause-cause : goal.returns-in-Err-clause-cause
returns-in-Err-clause-cause g c = λ set are own.
    subst (λ (f : SetFault). IsSetRefusal (place_break set c.args.image) f) (sym c.in_image.ensures)
    (subst (λ (o : Option Break). IsSetRefusal o (in_set c.args.image c.in-Err.fault)) (sym (break_is set c.args.image))
    (refused_in c.args.image (word_fault set c.args.image (segments_at set.images c.args.image) (streams_at set c.args.image)) c.in-Err.fault (c.in-Err.ensures.cause set are own)))
