-- Each thread links the words of its piece, and the pieces are all of the data.
use Rattle.std.proofs.Common.{◌≡◌, ◌<◌, ◌/◌, ◌^◌, ℕ, List, rules, length, ◌∙◌, sym, ap, map, subst, get_or, take, drop, arith}
use Rattle.dsc_base.specs.Edits.{settled, AllFit, change_all}
use Rattle.slide_chain.specs.Chains.{Slide}
use Rattle.slide_chain.specs.Making.{linking}
use Rattle.slide_chain.proofs.PieceLaws.{AreData, own_changes, chunk-piece, piece-fits, chunks-all}
use Rattle.slide_chain.proofs.WriteLaws.{all-fit, writes-back}
use Rattle.slide_chain.proofs.writing.write_chains.Goals as goal

pub for_each_chunk_mut-requires-clause-accepts : goal.for_each_chunk_mut-requires-clause-accepts
for_each_chunk_mut-requires-clause-accepts g c κs within = λ start p chunk κs' r r' ghost_name v ranges sizes fit u n limit lifetimes.
    let bytes : (k : ℕ) → get_or c.args.area.now k 0 < 256 = search rules in
    let mask : c.info.inside.mask ≡ c.args.info.now.mask = ap (λ (s : Slide). s.mask) c.info.view_is in
    let are : AreData c.args.area.now c.args.words.now = record { whole = c.requires.pages; words = c.requires.words; under = c.requires.inside } in
    let piece = chunk-piece c.piece_size-size.result start c.args.area.now c.args.words.now p.now c.piece_size-size.ensures.pages are chunk in
    let all : AllFit (map (settled c.args.area.now) (linking (c.info.inside.mask / 2 ^ 48) c.args.words.now)) =
    subst (λ (m : ℕ). AllFit (map (settled c.args.area.now) (linking (m / 2 ^ 48) c.args.words.now))) (sym mask)
    (all-fit c.args.info.now (length c.args.area.now) c.args.area.now c.args.words.now c.requires.made bytes c.requires.outside) in (
      c.requires.words,
      (
        piece.even,
        (
          piece.pages,
          (
            omega (arith, chunk.in_bounds),
            piece-fits (c.info.inside.mask / 2 ^ 48) start c.args.area.now c.args.words.now (take start c.args.area.now) p.now (drop c.piece_size-size.result (drop start c.args.area.now)) piece all,
          ),
        ),
      ),
    )

pub returns-clause-links : goal.returns-clause-links
returns-clause-links g c =
    let mask : c.info.inside.mask ≡ c.args.info.now.mask = ap (λ (s : Slide). s.mask) c.info.view_is in
    let are : AreData c.args.area.now c.args.words.now = record { whole = c.requires.pages; words = c.requires.words; under = c.requires.inside } in
    chunks-all (c.info.inside.mask / 2 ^ 48) c.piece_size-size.result c.args.area.now c.for_each_chunk_mut.new.s c.args.words.now c.piece_size-size.ensures.pages are c.for_each_chunk_mut.auto.s
    (λ i lt.
    let at = (c.for_each_chunk_mut.ensures.by_index i 0 lt).1 in
    record {
      start = at.start;
      offset = at.offset;
      place = at.start_plus_offset;
      piece = at.argument.now;
      chunk = at.argument_is;
      inside = at.offset_in_chunk;
      left = let left : at.after_call.now ≡ change_all (own_changes (c.info.inside.mask / 2 ^ 48) at.start (length at.argument.now) c.args.words.now) at.argument.now = search rules in
          ap (λ (l : List ℕ). get_or l at.offset 0) (sym left) ∙ at.new_element;
    })
    ∙ ap (λ (m : ℕ). change_all (linking (m / 2 ^ 48) c.args.words.now) c.args.area.now) mask

pub returns-clause-back : goal.returns-clause-back
returns-clause-back g c =
    let bytes : (k : ℕ) → get_or c.args.area.now k 0 < 256 = search rules in
    (writes-back c.args.info.now c.args.area.now c.for_each_chunk_mut.new.s c.args.words.now c.requires.made bytes c.requires.pages c.requires.words c.requires.inside c.requires.outside
    c.for_each_chunk_mut.auto.s (returns-clause-links g c)).back

pub returns-clause-sound : goal.returns-clause-sound
returns-clause-sound g c =
    let bytes : (k : ℕ) → get_or c.args.area.now k 0 < 256 = search rules in
    (writes-back c.args.info.now c.args.area.now c.for_each_chunk_mut.new.s c.args.words.now c.requires.made bytes c.requires.pages c.requires.words c.requires.inside c.requires.outside
    c.for_each_chunk_mut.auto.s (returns-clause-links g c)).sound

pub returns-clause-slid : goal.returns-clause-slid
returns-clause-slid g c =
    let bytes : (k : ℕ) → get_or c.args.area.now k 0 < 256 = search rules in
    (writes-back c.args.info.now c.args.area.now c.for_each_chunk_mut.new.s c.args.words.now c.requires.made bytes c.requires.pages c.requires.words c.requires.inside c.requires.outside
    c.for_each_chunk_mut.auto.s (returns-clause-links g c)).slid
