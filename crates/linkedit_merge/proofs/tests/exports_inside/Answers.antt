-- An image that isn't there has no exports.
use Rattle.std.proofs.Common.{◌≡◌, ◌≤◌, ◌<◌, ℕ, Bool, true, false, List, [], length, refl, ap, arith, None, option_map}
use Rattle.std.specs.Prelude.{nat_lt, position}
use Rattle.std.proofs.lemmas.Bool.{ltb-true, ltb-false}
use Rattle.std.proofs.lemmas.List.{get_or_past, length-map}
use Rattle.dsc_base.specs.Refusals.{broken, in_image}
use Rattle.dsc_base.specs.declared.rule.Rule.TheVariants.{ExportOutside}
use Rattle.export_trie.specs.declared.export.Export.{Export}
use Rattle.export_trie.specs.Exports.{exports_of}
use Rattle.macho_image.specs.Segments.{segments_at}
use Rattle.prebind.specs.Places.{exports_in, strays, export_break}
use Rattle.prebind.specs.Sets.{StreamLists, ImageSet}
use Rattle.prebind.specs.Agree.{HaveExportsInside}
use Rattle.prebind.specs.Steps.{set_of}
use Rattle.linkedit_merge.proofs.tests.exports_inside.Goals as goal

past_none : (set : ImageSet) (k : ℕ) → length set.streams ≤ k → export_break set k ≡ None
unfolding export_break
past_none set k past =
    ap (λ (l : List Export). option_map (in_image k) (broken ExportOutside (position (λ (e : Export). strays (segments_at set.images k) e.target) l)))
    (get_or_past (exports_in set.streams) k [] (omega (arith, length-map set.streams (λ (s : StreamLists). exports_of s.exports))))

all_inside : (set : ImageSet) (n : ℕ) → length set.streams ≤ n → ((k : ℕ) → k < n → export_break set k ≡ None) → HaveExportsInside set
all_inside set n whole below = λ k. go k (nat_lt k n) refl
  where
    go : (k : ℕ) (b : Bool) → nat_lt k n ≡ b → export_break set k ≡ None
    go k true lt = below k (ltb-true k n lt)
    go k false ge = past_none set k (let past = ltb-false k n ge in omega arith)

pub returns : goal.returns
returns c = all_inside (set_of c.args.set.now) c.loop-image.image (omega (arith, c.requires.many, c.loop-image-test.false)) c.loop-image.invariant
