-- The addresses at which images bind, gathered image by image.
use Rattle.std.proofs.Common.{◌≡◌, ◌<◌, ℕ, ◌+◌, List, [], ◌∷◌, ◌++◌, length, get_or, refl, sym, ap, ◌∙◌, subst}
use Rattle.std.specs.Prelude.{slice_get}
use Rattle.std.proofs.lemmas.Option.{slice_get_read}
use Rattle.prebind.specs.Sets.{StreamLists}
use Rattle.prebind.specs.Words.{streams_in}
use Rattle.load_model.proofs.EachLaws.{AreEach, each_none, each_more}
use Rattle.extractor.specs.Chained.{binds_at, AreAddresses, AreBounds}

abbrev pub AreBoundAt : List StreamLists → ℕ → List ℕ → Type 0
AreBoundAt streams k bounds = AreAddresses (binds_at streams k) bounds

abbrev pub AreBoundsUpTo : List StreamLists → List (List ℕ) → ℕ → Type 0
AreBoundsUpTo streams bounds n = AreEach (AreBoundAt streams) n bounds

pub bounds_none : (streams : List StreamLists) (bounds : List (List ℕ)) → bounds ≡ [] → AreBoundsUpTo streams bounds 0
bounds_none streams bounds none = each_none (AreBoundAt streams) bounds none

pub bounds_more : (streams : List StreamLists) (bounds bounds' : List (List ℕ)) (n : ℕ) (s : StreamLists) (own : List ℕ) → AreBoundsUpTo streams bounds n → n < length streams → s ≡ get_or streams n s → AreAddresses s.binds own → bounds' ≡ bounds ++ own ∷ []
    → AreBoundsUpTo streams bounds' (n + 1)
bounds_more streams bounds bounds' n s own done lt at is grown =
    let read : streams_in (slice_get streams n) ≡ s = ap streams_in (slice_get_read streams (length streams) n s refl lt at) in
    each_more (AreBoundAt streams) n bounds bounds' own done (subst (λ (t : StreamLists). AreAddresses t.binds own) (sym read) is) grown

pub bounds_all : (streams : List StreamLists) (bounds : List (List ℕ)) (n : ℕ) → AreBoundsUpTo streams bounds n → n ≡ length streams → AreBounds streams bounds
bounds_all streams bounds n done all = record { count = done.count ∙ all; each = done.each }
