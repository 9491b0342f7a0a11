-- Prefixes of none and of all of some bytes.
use Rattle.std.proofs.Common.{◌≡◌, ℕ, List, [], take, length, Option, Some, None, refl, ap, sym, ◌∙◌}
use Rattle.std.proofs.Math.Seq.{take-length}
use Rattle.std.proofs.lemmas.List.{append-nil}
use Rattle.dsc_base.specs.Outside.{Files, AppendsPrefix, with_file}
use Rattle.dsc_tool.specs.Streams.{appended}

append_none : (told : Option (List ℕ)) → told ≡ appended told []
append_none None = refl
append_none (Some old) = ap (λ (l : List ℕ). Some l) (sym (append-nil old))

pub appended-none : (before after : Option (List ℕ)) → after ≡ before → after ≡ appended before []
appended-none before after same = same ∙ append_none before

pub prefix-none : (before after : Option (List ℕ)) (bytes : List ℕ) → after ≡ before → AppendsPrefix before bytes after
prefix-none before after bytes same = (0, appended-none before after same)

pub prefix-whole : (before after : Option (List ℕ)) (bytes : List ℕ) → after ≡ appended before bytes → AppendsPrefix before bytes after
prefix-whole before after bytes whole =
    (length bytes, whole ∙ ap (λ (b : List ℕ). appended before b) (sym (take-length bytes)))

pub file-whole : (files : Option Files) (name bytes : List ℕ) → with_file files name bytes ≡ with_file files name (take (length bytes) bytes)
file-whole files name bytes = ap (λ (b : List ℕ). with_file files name b) (sym (take-length bytes))
