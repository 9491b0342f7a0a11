-- The bytes are appended one part after the other.
use Rattle.std.proofs.Common.{◌∙◌, ◌*◌, length, ap, rules, arith}
use Rattle.slide_chain.specs.Chains.{Slide}
use Rattle.slide_chain.specs.Info.{info_read, info_finding}
use Rattle.slide_chain.proofs.InfoLaws.{spelled, IsSpellable, info-back, info-sound}
use Rattle.slide_chain.proofs.info_bytes.spell.Goals as goal

pub returns-clause-bytes : goal.returns-clause-bytes
returns-clause-bytes c =
    let s : Slide = record { mask = c.args.mask; value_add = c.args.value_add; starts = c.args.starts.now; extras = c.args.extras.now } in
    spelled s c.in_ok-bytes.bytes.items c.push_u32.new.bytes.items c.push_u32-2.new.bytes.items c.push_u32-3.new.bytes.items c.push_u32-4.new.bytes.items c.push_u32-5.new.bytes.items
    c.push_u32-6.new.bytes.items c.push_u64.new.bytes.items c.push_u64-2.new.bytes.items c.push_halves.new.bytes.items c.push_halves-2.new.bytes.items
    c.in_ok-bytes.ensures.items (c.in_ok-push_u32.ensures {u = tt}) (c.in_ok-push_u32-2.ensures {u = tt}) (c.in_ok-push_u32-3.ensures {u = tt}) (c.in_ok-push_u32-4.ensures {u = tt})
    (c.in_ok-push_u32-5.ensures {u = tt}) (c.in_ok-push_u32-6.ensures {u = tt}) (c.in_ok-push_u64.ensures {u = tt}) (c.in_ok-push_u64-2.ensures {u = tt})
    (c.in_ok-push_halves.ensures {u = tt}) (c.in_ok-push_halves-2.ensures {u = tt})

pub returns-clause-back : goal.returns-clause-back
returns-clause-back c =
    let s : Slide = record { mask = c.args.mask; value_add = c.args.value_add; starts = c.args.starts.now; extras = c.args.extras.now } in
    let fit : IsSpellable record { mask = c.args.mask; value_add = c.args.value_add; starts = c.args.starts.now; extras = c.args.extras.now } = record {
      few_starts = c.requires.starts;
      few_extras = c.requires.extras;
      mask_fits = omega arith;
      value_add_fits = omega arith;
      starts_fit = search rules;
      extras_fit = search rules;
    } in
    ap info_read (returns-clause-bytes c) ∙ info-back record { mask = c.args.mask; value_add = c.args.value_add; starts = c.args.starts.now; extras = c.args.extras.now } fit

pub returns-clause-sound : goal.returns-clause-sound
returns-clause-sound c = λ run.
    let fit : IsSpellable record { mask = c.args.mask; value_add = c.args.value_add; starts = c.args.starts.now; extras = c.args.extras.now } = record {
      few_starts = c.requires.starts;
      few_extras = c.requires.extras;
      mask_fits = omega arith;
      value_add_fits = omega arith;
      starts_fit = search rules;
      extras_fit = search rules;
    } in
    ap (info_finding (length c.args.starts.now * 4096)) (returns-clause-bytes c)
    ∙ info-sound record { mask = c.args.mask; value_add = c.args.value_add; starts = c.args.starts.now; extras = c.args.extras.now } fit run
