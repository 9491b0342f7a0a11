use Rattle.std.proofs.Common.{ap, sym, ◌∙◌, map}
use Rattle.std.specs.Ordering.{nat_cmp}
use Rattle.std.specs.Cmp.Lexicographic.{slice_cmp, nat_list_cmp_total}
use Rattle.std.specs.FinMap.{get, find, get-from_entries}
use Rattle.dsc_base.proofs.outside.file_map.FileMap.get.Goals as goal

pub loop-key-init : goal.loop-key-init
loop-key-init c =
    ap (λ m. get m c.args.name.now) (sym c.self.view_is)
    ∙ get-from_entries nat_list_cmp_total _ _
    ∙ ap (λ es. find (slice_cmp nat_cmp) c.args.name.now (map (λ e. (e.0, e.1.items)) es)) (sym c.into_iter-key-iterator.ensures.into_iter_gives.0)
