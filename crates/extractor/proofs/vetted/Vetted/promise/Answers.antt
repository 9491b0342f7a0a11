-- What is true of every vetted cache.
use Rattle.std.proofs.Common.{◌∙◌, subst, sym, ap}
use Rattle.cache_check.proofs.AgreeLaws.{plain_bytes}
use Rattle.extractor.specs.Extracted.{AreExtracted}
use Rattle.extractor.specs.Vets.{Parts, parts_of}
use Rattle.extractor.specs.Vetting.{vet_finding}
use Rattle.extractor.proofs.ExtractedLaws.{extracted}
use Rattle.extractor.proofs.LoadLaws.{extraction}
use Rattle.extractor.proofs.vetted.Vetted.promise.Goals as goal

pub returns-clause-files : goal.returns-clause-files
returns-clause-files c = subst (λ (p : Parts). AreExtracted p.view) c.self.view_is (extracted (parts_of c.self.inside) c.self.invariant)

pub returns-clause-loads : goal.returns-clause-loads
returns-clause-loads c = λ cache bytes read view.
    let vetted = ap vet_finding view ∙ (sym (ap (λ (p : Parts). vet_finding p.view) c.self.view_is) ∙ c.self.invariant.none) in
    extraction cache (record { bytes = plain_bytes cache bytes; read = read; vetted = vetted })
