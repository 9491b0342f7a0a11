-- What the parts of a preparation leave, as what the words come to.
use Rattle.std.proofs.Common.{◌≡◌, ◌≤◌, ℕ, List, [], length, Option, Some, None, Result, Ok, Err, refl, ap, sym, ◌∙◌, subst, inl, inr, arith}
use Rattle.dsc_base.specs.Outside.{Files, HasFile}
use Rattle.dsc_base.specs.declared.fault.Break.{Break}
use Rattle.cache_header.specs.Records.{Head}
use Rattle.cache_build.specs.Always.{CorrespondsAlways}
use Rattle.cache_build.specs.Breaks.{set_break}
use Rattle.cache_build.specs.declared.builder.Options.{Options}
use Rattle.dsc_tool.specs.Options.{delta_bits}
use Rattle.dsc_tool.specs.declared.stop.Stop.{Stop}
use Rattle.dsc_tool.specs.declared.stop.Stop.TheVariants.{BadWords, Unread, Refused, Flawed, NoImage, Memory}
use Rattle.dsc_tool.specs.Causes.{IsRead, WorkCause, IsDue}
use Rattle.dsc_tool.specs.Inputs.{AreRead, Contents, CacheCause, InputsAreRead, Names, inputs_of}
use Rattle.dsc_tool.specs.Made.{Made, Promised, build_made, halted, head_made, made, text_made, told_of, trial_files, trial_made, trial_text}
use Rattle.dsc_tool.specs.Steps.{BuildStop, BuildWorks, HeadStop, TextWorks, TrialStop, TrialWorks}
use Rattle.dsc_tool.specs.Stops.{cache_limit}
use Rattle.dsc_tool.specs.Words.{Order, build, trial, command_of}

-- ---- a build

abbrev only_files : List (List ℕ) → Contents
only_files bytes = record { cache = None; files = bytes }

build_read : (words : List (List ℕ)) (files : Option Files) (options : Options) (out : List ℕ) (names bytes : List (List ℕ)) → command_of words ≡ Some (build options out names)
    → AreRead files names bytes → IsRead words files (build options out names) (only_files bytes)
build_read words files options out names bytes spelled read = record { spelled = spelled; inputs = record { cache = tt; rest = read } }

pub build_product : (words : List (List ℕ)) (files : Option Files) (old new : ℕ) (options : Options) (out : List ℕ) (names : List (List ℕ)) (m : Made)
    → command_of words ≡ Some (build options out names) → BuildWorks files out names m → (order : Order) × WorkCause words files old new order m
build_product words files old new options out names m spelled works = (
  build options out names,
  inl (
    only_files works.bytes,
    record {
      read = build_read words files options out names works.bytes spelled works.read;
      made = ap (build_made out works.bytes) works.unbroken ∙ ap (λ (n : Made). Ok n) (sym works.is);
    },
    works.corresponds,
  ),
)

abbrev stop_or : Stop → Result Made Stop → Stop
stop_or d (Ok m) = d
stop_or d (Err stop) = stop

-- files are refused by a rule alone
by_rule : (out : List ℕ) (bytes : List (List ℕ)) (found : Option Break) (stop : Stop) → build_made out bytes found ≡ Err stop → (b : Break) × (stop ≡ Refused b)
by_rule out bytes None stop is = absurd cc
by_rule out bytes (Some b) stop is = (b, sym (ap (stop_or stop) is))

pub build_due : (words : List (List ℕ)) (files : Option Files) (old new : ℕ) (options : Options) (out : List ℕ) (names : List (List ℕ)) (stop : Stop)
    → command_of words ≡ Some (build options out names) → BuildStop files old new out names stop → IsDue words files old new stop
build_due words files old new options out names BadWords spelled (inl never) = absurd never
build_due words files old new options out names BadWords spelled (inr (bytes, read, is)) = absurd (let rule = (by_rule out bytes (set_break delta_bits bytes) BadWords is).1 in cc)
build_due words files old new options out names (Unread input) spelled (inl cause) = (build options out names, spelled, inr (None, tt, cause))
build_due words files old new options out names (Unread input) spelled (inr (bytes, read, is)) = absurd (let rule = (by_rule out bytes (set_break delta_bits bytes) (Unread input) is).1 in cc)
build_due words files old new options out names (Refused b) spelled (inl cause) = (build options out names, spelled, inl (inr (None, tt, cause), refl))
build_due words files old new options out names (Refused b) spelled (inr (bytes, read, is)) =
    (build options out names, spelled, inr (only_files bytes, build_read words files options out names bytes spelled read, is))
build_due words files old new options out names (Flawed f) spelled (inl never) = absurd never
build_due words files old new options out names (Flawed f) spelled (inr (bytes, read, is)) = absurd (let rule = (by_rule out bytes (set_break delta_bits bytes) (Flawed f) is).1 in cc)
build_due words files old new options out names NoImage spelled (inl never) = absurd never
build_due words files old new options out names NoImage spelled (inr (bytes, read, is)) = absurd (let rule = (by_rule out bytes (set_break delta_bits bytes) NoImage is).1 in cc)
build_due words files old new options out names Memory spelled cause = tt

-- ---- a text on a cache

abbrev pub only_cache : List ℕ → Contents
only_cache bytes = record { cache = Some bytes; files = [] }

pub no_files : (files : Option Files) → AreRead files [] []
no_files files = record { there = tt; within = λ k d inside. absurd (omega (arith, inside)); together = omega arith }

module _ (order : Order) (text : Head → List ℕ) (name : List ℕ) (reads : inputs_of order ≡ record { cache = Some name; files = [] })
    (makes : (bytes : List ℕ) → made order (only_cache bytes) ≡ head_made text bytes) (words : List (List ℕ)) (files : Option Files) (spelled : command_of words ≡ Some order)
    (stays : (s : Stop) → halted order s ≡ Err s) where
  cache_read : (bytes : List ℕ) → HasFile files name bytes → length bytes ≤ cache_limit → IsRead words files order (only_cache bytes)
  cache_read bytes there within = record {
    spelled = spelled;
    inputs = subst (λ (n : Names). InputsAreRead files n (only_cache bytes)) (sym reads) (record { cache = (there, within); rest = no_files files });
  }

  pub text_product : (old new : ℕ) (m : Made) → ((bytes : List ℕ) → Promised order (only_cache bytes)) → TextWorks text files name m → (o : Order) × WorkCause words files old new o m
  text_product old new m promised (h, head, is) = (
    order,
    inl (
      only_cache head.bytes,
      record {
        read = cache_read head.bytes head.there head.within;
        made = makes head.bytes ∙ (ap (told_of text head.bytes) head.sound
            ∙ (ap (λ (g : Head). Ok (text_made (text g))) (sym head.is) ∙ ap (λ (n : Made). Ok n) (sym is)));
      },
      promised head.bytes,
    ),
  )

  at_cache : (old new : ℕ) (stop : Stop) → CacheCause files old new name stop → (n : List ℕ) × ((inputs_of order).cache ≡ Some n) × CacheCause files old new n stop
  at_cache old new stop cause = (name, ap (λ (n : Names). n.cache) reads, cause)

  pub head_due : (old new : ℕ) (stop : Stop) → HeadStop files old new name stop → IsDue words files old new stop
  head_due old new BadWords (inl never) = absurd never
  head_due old new BadWords (inr (bytes, there, within, (f, is, found))) = absurd cc
  head_due old new (Unread input) (inl cause) = (order, spelled, inl (at_cache old new (Unread input) cause))
  head_due old new (Unread input) (inr (bytes, there, within, (f, is, found))) = absurd cc
  head_due old new (Refused b) (inl never) = absurd never
  head_due old new (Refused b) (inr (bytes, there, within, (f, is, found))) = absurd cc
  head_due old new (Flawed g) (inl cause) = (order, spelled, inl (inl (at_cache old new (Flawed g) cause), stays (Flawed g)))
  head_due old new (Flawed g) (inr (bytes, there, within, (f, is, found))) =
      (order, spelled, inr (only_cache bytes, cache_read bytes there within, makes bytes ∙ (ap (told_of text bytes) found ∙ ap (λ (s : Stop). Err s) (sym is))))
  head_due old new NoImage (inl never) = absurd never
  head_due old new NoImage (inr (bytes, there, within, (f, is, found))) = absurd cc
  head_due old new Memory cause = tt

-- ---- trial dylibs

abbrev no_inputs : Contents
no_inputs = record { cache = None; files = [] }

trial_read : (words : List (List ℕ)) (files : Option Files) (options : Options) (seed count : ℕ) → command_of words ≡ Some (trial options seed count) → IsRead words files (trial options seed count) no_inputs
trial_read words files options seed count spelled = record { spelled = spelled; inputs = record { cache = tt; rest = no_files files } }

pub trial_product : (words : List (List ℕ)) (files : Option Files) (old new : ℕ) (options : Options) (seed count : ℕ) (m : Made) → command_of words ≡ Some (trial options seed count)
    → TrialWorks seed count m → (order : Order) × WorkCause words files old new order m
trial_product words files old new options seed count m spelled (cache, works, is) = (
  trial options seed count,
  inl (
    no_inputs,
    record {
      read = trial_read words files options seed count spelled;
      made = ap (trial_made (trial_files seed count)) works.unbroken
          ∙ (ap (λ (c : List ℕ). Ok (text_made (trial_text (trial_files seed count) c))) (sym works.is) ∙ ap (λ (n : Made). Ok n) (sym is));
    },
    subst (λ (c : List ℕ). CorrespondsAlways (trial_files seed count) c) works.is works.corresponds,
  ),
)

pub trial_due : (words : List (List ℕ)) (files : Option Files) (old new : ℕ) (options : Options) (seed count : ℕ) (stop : Stop) → command_of words ≡ Some (trial options seed count)
    → TrialStop seed count stop → IsDue words files old new stop
trial_due words files old new options seed count stop spelled (inl none) = subst (λ (s : Stop). IsDue words files old new s) (sym none) tt
trial_due words files old new options seed count stop spelled (inr (b, is, found)) =
    subst (λ (s : Stop). IsDue words files old new s) (sym is)
    (trial options seed count, spelled, inr (no_inputs, trial_read words files options seed count spelled, ap (trial_made (trial_files seed count)) found))
