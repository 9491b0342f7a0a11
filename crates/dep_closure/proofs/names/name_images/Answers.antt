use Rattle.std.proofs.Common.{◌≡◌, ℕ, List, Bor, Option, ap, sym, ◌∙◌, true, false}
use Rattle.std.specs.Prelude.{is_some}
use Rattle.std.specs.Map.{lookup}
use Rattle.macho_image.specs.Records.{Img}
use Rattle.macho_image.specs.Rules.{same_bytes}
use Rattle.dep_closure.proofs.NameLaws.{numbered_new, numbered_old}
use Rattle.dep_closure.proofs.names.name_images.Goals as goal
use Rattle.dep_closure.proofs.names.name_images.Goals.{then-not-contains_key+in-Ok, else-not-contains_key}

abbrev found_in : List (Bor (List ℕ) × ℕ) → List ℕ → Option ℕ
found_in entries name = lookup (λ (k : Bor (List ℕ)). same_bytes name k.now) entries

pub loop-number-preserved : goal.loop-number-preserved
loop-number-preserved c =
    let images = c.args.images.now in
    let key = c.image.inside.install_name.now in
    let named = ap (λ (i : Img). i.install_name) c.image.view_is in
    let old = found_in c.loop-number.numbers.entries in
    elim c.if-not-contains_key.branch [
      | then-not-contains_key+in-Ok w ↦
          let absent : is_some (old key) ≡ false = sym c.contains_key.ensures ∙ w.if-not-contains_key.true in
          λ name. ap (λ m. found_in m.entries name) w.numbers-is
          ∙ numbered_new images old (found_in w.insert.new.self.entries) c.loop-number.number c.index-images-number.result key c.loop-number.invariant c.loop-number-test.true c.index-images-number.is named
          absent (λ other. w.in-Ok.ensures.updates.0 record { ref_ptr = (0, 0); now = other }) name
      | else-not-contains_key w ↦
          let there : is_some (old key) ≡ true = sym c.contains_key.ensures ∙ w.if-not-contains_key.false in
          λ name. ap (λ m. found_in m.entries name) w.numbers-is
          ∙ numbered_old images old c.loop-number.number c.index-images-number.result key c.loop-number.invariant c.loop-number-test.true c.index-images-number.is named there name
    ]
