-- What is known of a linkedit that is written.
use Rattle.std.specs.Prelude.{◌≡◌, ℕ, List, [], ◌∷◌, ◌++◌, length}
use Rattle.std.specs.List.{flat_map}
use Rattle.linkedit_merge.specs.declared.merging.Written.{Written}
use Rattle.linkedit_merge.specs.Parts.{joined, lens_of, spans_behind}
use Rattle.linkedit_merge.specs.Sizes.{spans_of}

-- the parts of the images, and then those that all images share, stand one behind the other, and it is known where
pub record IsWritten (start size count : ℕ) (own shared : List (List ℕ)) (w : Written) : Type 0 where
  pub bytes : w.bytes.items ≡ joined (own ++ shared)
  pub spans : flat_map spans_of w.streams.items ++ (w.frame.symbols ∷ w.frame.indirect ∷ w.frame.strings ∷ []) ≡ spans_behind start 0 (lens_of (own ++ shared))
  pub many : length w.streams.items ≡ count
  pub start_is : w.frame.start ≡ start
  pub size_is : w.frame.size ≡ size
