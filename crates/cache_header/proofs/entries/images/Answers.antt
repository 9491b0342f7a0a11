use Rattle.std.proofs.Common.{◌≡◌, ◌∙◌, ap, ℕ, List, Option, map, false, true, arith, below_more}
use Rattle.std.specs.Prelude.{option_map}
use Rattle.std.specs.List.{before_first, range_with_len}
use Rattle.dsc_base.specs.declared.finding_kind.FindingKind.TheVariants.{NameNotPlain}
use Rattle.cache_header.specs.Paths.{is_nul}
use Rattle.cache_header.specs.Reading.{image_at, images_of, path_offset}
use Rattle.cache_header.specs.Findings.{begins_plain, finding}
use Rattle.cache_header.proofs.EntryLaws.{images_more}
use Rattle.cache_header.proofs.NameLaws.{all_named, plain_answered, plain_refused, path_begins, cause_ill_named}
use Rattle.cache_header.proofs.entries.images.Goals as goal

pub returns-in_default-clause-cause : goal.returns-in_default-clause-cause
returns-in_default-clause-cause c =
    let rest : List ℕ = c.behind.result.now in
    let fails : begins_plain rest ≡ false = plain_refused (begins_plain rest) (before_first is_nul rest) (c.in_default.ensures {u = tt}) in
    cause_ill_named c.args.bytes.now c.loop-k.k c.path_offset-at.result c.ill_named.result (omega (arith, c.field32-count.ensures)) c.loop-k.invariant.1 c.path_offset-at.ensures
    (path_begins c.args.bytes.now rest c.loop-k.k c.path_offset-at.result false c.behind.ensures c.path_offset-at.ensures fails)
    c.ill_named.ensures

pub loop-k-preserved : goal.loop-k-preserved
loop-k-preserved c =
    let rest : List ℕ = c.behind.result.now in
    let holds : begins_plain rest ≡ true = plain_answered (begins_plain rest) c.in-Some.path.now (before_first is_nul rest) (c.in-Some.ensures {u = tt}) in (
      images_more c.args.bytes.now c.loop-k.k c.loop-k.images.items c.push.new.self.items c.image.result c.loop-k.invariant.0 c.image.ensures c.in_ok-push.ensures.items,
      below_more _ _ c.loop-k.invariant.1
          (path_begins c.args.bytes.now rest c.loop-k.k c.path_offset-at.result true c.behind.ensures c.path_offset-at.ensures holds),
    )

pub returns-clause-images : goal.returns-clause-images
unfolding images_of
returns-clause-images c =
    let count : c.loop-k.k ≡ c.field32-count.result = omega arith in
    c.loop-k.invariant.0 ∙ ap (λ (n : ℕ). map (image_at c.args.bytes.now) (range_with_len 0 n)) (count ∙ c.field32-count.ensures)

pub returns-clause-named : goal.returns-clause-named
returns-clause-named c =
    ap (λ (o : Option ℕ). option_map (λ k. finding NameNotPlain k (path_offset c.args.bytes.now k)) o)
    (all_named c.args.bytes.now c.loop-k.k (omega (arith, c.field32-count.ensures)) c.loop-k.invariant.1)
