-- The cache of trial dylibs.
use Rattle.std.proofs.Common.{◌≡◌, ℕ, List, length, None, refl, sym, ap, ap₂, ◌∙◌, subst}
use Rattle.std.specs.List.{sum}
use Rattle.dsc_base.specs.declared.fault.ViewFault.{ViewFault}
use Rattle.dsc_base.specs.declared.fault.ViewFault.TheVariants.{Broken, Memory as NoMemory}
use Rattle.dsc_base.specs.Refusals.{IsViewRefusal}
use Rattle.cache_header.specs.Reading.{span}
use Rattle.cache_build.specs.Always.{CorrespondsAlways}
use Rattle.cache_build.specs.Breaks.{set_break}
use Rattle.cache_build.specs.Built.{built}
use Rattle.cache_build.specs.Sound.{IsSoundCache}
use Rattle.cache_check.specs.Views.{view_finding, view_of}
use Rattle.cache_check.proofs.WholeLaws.{nothing_wrong}
use Rattle.dsc_gen.proofs.FileLaws.{length-generated}
use Rattle.dsc_tool.specs.Made.{Made, text_made, trial_files, trial_text}
use Rattle.dsc_tool.specs.Options.{delta_bits}
use Rattle.dsc_tool.specs.Steps.{IsTrialCache, TrialWorks}
use Rattle.dsc_tool.specs.Stops.{view_stop}
use Rattle.dsc_tool.specs.Texts.{trial_line}
use Rattle.dsc_tool.specs.declared.stop.Stop.TheVariants.{Memory}

-- what is built of these files, as they are generated, is their cache
pub trial_cache_is : (seed count bits : ℕ) (files : List (List ℕ)) (cache : List ℕ) → bits ≡ delta_bits → files ≡ trial_files seed count → cache ≡ built bits files → set_break bits files ≡ None
    → CorrespondsAlways files (built bits files) → span (built bits files) ≡ length (built bits files) → IsSoundCache (built bits files) → IsTrialCache seed count cache
trial_cache_is seed count bits files cache fit are is none corresponds long sound = record {
  unbroken = sym (ap₂ (λ (n : ℕ) (fs : List (List ℕ)). set_break n fs) fit are) ∙ none;
  is = is ∙ ap₂ (λ (n : ℕ) (fs : List (List ℕ)). built n fs) fit are;
  sound = subst (λ (c : List ℕ). IsSoundCache c) (sym is) sound;
  span_is = ap (λ (c : List ℕ). span c) is ∙ (long ∙ ap (λ (c : List ℕ). length c) (sym is));
  corresponds = subst (λ (fs : List (List ℕ)). CorrespondsAlways fs cache) are (subst (λ (c : List ℕ). CorrespondsAlways files c) (sym is) corresponds);
}

-- a line on it, as it was read, is what a trial comes to
text_is : (seed count : ℕ) (cache : List ℕ) → IsTrialCache seed count cache → trial_line count (length (view_of cache).words) (length cache) (sum cache) ≡ trial_text (trial_files seed count) cache
text_is seed count cache trial =
    ap₂ (λ (images long : ℕ). trial_line images (length (view_of cache).words) long (sum cache)) (sym (length-generated seed count (record { pages = 4; pointers = 100; links = 20 }))) (sym trial.span_is)

pub trial_told : (seed count : ℕ) (cache read line : List ℕ) (m : Made) → IsTrialCache seed count cache → read ≡ cache → line ≡ trial_line count (length (view_of read).words) (length read) (sum read)
    → m ≡ text_made line → TrialWorks seed count m
trial_told seed count cache read line m trial is told made =
    let line_is : line ≡ trial_text (trial_files seed count) cache =
    told ∙ (ap (λ (c : List ℕ). trial_line count (length (view_of c).words) (length c) (sum c)) is ∙ text_is seed count cache trial) in
    (cache, trial, subst (λ (text : List ℕ). m ≡ text_made text) line_is made)

-- nothing is found in a cache that is sound
sound_view : (cache : List ℕ) → IsSoundCache cache → view_finding cache ≡ None
sound_view cache sound =
    nothing_wrong cache sound.text sound.writable sound.linkedit sound.mappings sound.head sound.text_pages sound.writable_pages sound.linkedit_pages sound.whole sound.low sound.slides sound.behind sound.within sound.info
    sound.chains

-- so it is read back where memory suffices
pub only_memory : (cache : List ℕ) → IsSoundCache cache → (fault : ViewFault) → IsViewRefusal (view_finding cache) fault → view_stop fault ≡ Memory
only_memory cache sound (Broken f) found = let none = sound_view cache sound in absurd (cc)
only_memory cache sound NoMemory found = refl
