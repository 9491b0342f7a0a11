use Rattle.std.proofs.Common.{◌≡◌, List, refl, sym, ap, subst, ◌∙◌}
use Rattle.dsc_base.specs.declared.fault.SetFault.{SetFault}
use Rattle.dsc_base.specs.Refusals.{in_image, IsRefusal, IsSetRefusal}
use Rattle.std.specs.Prelude.{option_map}
use Rattle.bind_ops.specs.Records.{BoundWord}
use Rattle.prebind.specs.Sets.{StreamLists}
use Rattle.prebind.specs.Steps.{set_of}
use Rattle.prebind.specs.Words.{streams_at}
use Rattle.prebind.specs.WordRules.{bind_fault_from, symbol_break}
use Rattle.prebind.proofs.PlaceLaws.{streams_here, refused_in}
use Rattle.prebind.proofs.place.place_binds_counted.Goals as goal

pub returns-clause-cause : goal.returns-clause-cause
unfolding symbol_break
returns-clause-cause g c =
    let set = set_of c.args.set.now in
    let own : streams_at set c.args.image ≡ c.index-set-image.result = streams_here set c.args.image c.index-set-image.result c.requires.index.sound c.requires.image c.index-set-image.is in
    let binds = c.deref.ensures.value ∙ (ap (λ (s : StreamLists). s.binds) c.streams.view_is ∙ (sym (ap (λ (s : StreamLists). s.binds) c.index-set-image.is) ∙ sym (ap (λ (s : StreamLists). s.binds) own))) in
    subst (λ (f : SetFault). IsSetRefusal (option_map (in_image c.args.image) (symbol_break set c.args.image)) f) (sym c.in_image.ensures)
    (refused_in c.args.image (symbol_break set c.args.image) c.in-Err.fault
    (subst (λ (bs : List BoundWord). IsRefusal (bind_fault_from set c.args.image 0 bs) c.in-Err.fault) binds (c.in-Err.ensures.cause set (record { linked = refl; index = c.requires.index }))))
