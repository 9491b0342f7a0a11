use Rattle.std.proofs.Common.{◌≡◌, ◌≤◌, ℕ, Vec, Global, map, take, length, get_or}
use Rattle.load_model.specs.Phases.{contents}
use Rattle.load_model.specs.Areas.{pieces_from}
use Rattle.load_model.specs.Handed.{piece_of}
use Rattle.load_model.proofs.loading.handed_out.Given as goal

abbrev pub invariant-loop-number : goal.invariant-loop-number
invariant-loop-number l = record {
  count : length l.areas.items ≡ length l.initial.areas.items;
  rest : (k : ℕ) (d : Vec ℕ Global) → l.number ≤ k → get_or l.areas.items k d ≡ get_or l.initial.areas.items k d;
  made : map piece_of l.segments.items ≡ pieces_from l.slide (take l.number l.image.segments) (take l.number (contents l.initial.areas.items));
}
