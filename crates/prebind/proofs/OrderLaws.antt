-- The first image of a search order that exports a name, image by image.
use Rattle.std.proofs.Common.{◌≡◌, ◌<◌, ℕ, List, [], length, get_or, sym, ap, ◌∙◌}
use Rattle.std.proofs.lemmas.List.{get_or-map}
use Rattle.prebind.specs.Sets.{StreamLists}
use Rattle.export_trie.specs.Exports.{exports_of}
use Rattle.prebind.specs.Places.{exports_in}

pub exports_at : (streams : List StreamLists) (k : ℕ) (s : StreamLists) → k < length streams → s ≡ get_or streams k s → get_or (exports_in streams) k [] ≡ exports_of s.exports
exports_at streams k s lt is =
    get_or-map (λ (t : StreamLists). exports_of t.exports) streams k s [] lt ∙ ap (λ (t : StreamLists). exports_of t.exports) (sym is)
