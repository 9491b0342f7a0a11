-- What the output of a run is, by the cause that the run found.
use Rattle.std.proofs.Common.{◌≡◌, ◌⊎◌, ℕ, List, Option, Some, None, Result, Ok, Err, refl, ap, ◌∙◌, inl, inr}
use Rattle.dsc_base.specs.Outside.{Files, Rose}
use Rattle.dsc_base.specs.declared.fault.Break.{Break}
use Rattle.dsc_base.specs.declared.fault.Finding.{Finding}
use Rattle.dsc_tool.specs.declared.status.Status.TheVariants.{Refused as IsRefused}
use Rattle.dsc_tool.specs.declared.stop.Stop.{Stop}
use Rattle.dsc_tool.specs.declared.stop.Stop.TheVariants.{BadWords, Unread, Refused, Flawed, NoImage, Memory}
use Rattle.dsc_tool.specs.Causes.{IsRead, IsMade, IsHalted, WorkCause, RefusalCause, IsDue}
use Rattle.dsc_tool.specs.Inputs.{Contents, Names, ReadCause, inputs_of}
use Rattle.dsc_tool.specs.Made.{Made, made, halted}
use Rattle.dsc_tool.specs.Output.{order_end, inputs_end, command_end, outcome_of, output}
use Rattle.dsc_tool.specs.Statuses.{status_of}
use Rattle.dsc_tool.specs.Words.{Order, build, check, extract, list, info, trial, command_of}
use Rattle.dsc_tool.proofs.ReadingLaws.{inputs_read, inputs_unread, inputs_refused, inputs_flawed}

-- an order whose inputs come to something
order_ends : (words : List (List ℕ)) (files : Files) (order : Order) (read : Result Contents Stop) → command_of words ≡ Some order → inputs_end files (inputs_of order) ≡ read
    → command_end files (command_of words) ≡ order_end order read
order_ends words files order read spelled is = ap (λ (o : Option Order). command_end files o) spelled ∙ ap (order_end order) is

-- inputs that are read come to what is made of them
read_ends : (words : List (List ℕ)) (files : Files) (order : Order) (contents : Contents) (m : Result Made Stop) → IsRead words (Some files) order contents → made order contents ≡ m
    → command_end files (command_of words) ≡ m
read_ends words files order contents m read is =
    order_ends words files order (Ok contents) read.spelled (inputs_read files (inputs_of order) contents read.inputs) ∙ is

ended : (words : List (List ℕ)) (files : Files) (end : Result Made Stop) → command_end files (command_of words) ≡ end → output words files ≡ outcome_of files end
unfolding output
ended words files end is = ap (λ (e : Result Made Stop). outcome_of files e) is

pub output-made : (words : List (List ℕ)) (files : Files) (order : Order) (contents : Contents) (m : Made) → IsMade words (Some files) order contents m
    → output words files ≡ outcome_of files (Ok m)
output-made words files order contents m is = ended words files (Ok m) (read_ends words files order contents (Ok m) is.read is.made)

-- inputs whose reading a finding ended come to what the order makes of it
output_halted : (words : List (List ℕ)) (files : Files) (old new : ℕ) (order : Order) (m : Made) → IsHalted words (Some files) old new order m → output words files ≡ outcome_of files (Ok m)
output_halted words files old new order m is =
    ended words files (Ok m)
    (order_ends words files order (Err (Flawed is.finding)) is.spelled (inputs_flawed files old new (inputs_of order) is.finding is.cause) ∙ is.made)

pub output-worked : (words : List (List ℕ)) (files : Files) (old new : ℕ) (order : Order) (m : Made) → WorkCause words (Some files) old new order m → output words files ≡ outcome_of files (Ok m)
output-worked words files old new order m (inl (contents, is, promised)) = output-made words files order contents m is
output-worked words files old new order m (inr is) = output_halted words files old new order m is

pub output-bad_words : (words : List (List ℕ)) (files : Files) → command_of words ≡ None → output words files ≡ outcome_of files (Err BadWords)
output-bad_words words files none = ended words files (Err BadWords) (ap (λ (o : Option Order). command_end files o) none)

cause_ends : (words : List (List ℕ)) (files : Files) (order : Order) (stop : Stop) → command_of words ≡ Some order
    → ((inputs_end files (inputs_of order) ≡ Err stop) × (halted order stop ≡ Err stop)) ⊎ ((contents : Contents) × IsRead words (Some files) order contents × (made order contents ≡ Err stop))
    → output words files ≡ outcome_of files (Err stop)
cause_ends words files order stop spelled (inl (ends, stays)) = ended words files (Err stop) (order_ends words files order (Err stop) spelled ends ∙ stays)
cause_ends words files order stop spelled (inr (contents, read, is)) = ended words files (Err stop) (read_ends words files order contents (Err stop) read is)

-- that an image isn't there ends no reading
never_unread : (files : Files) (old new : ℕ) (names : Names) → ReadCause (Some files) old new names NoImage → ⊥
never_unread files old new names (inl (name, is, never)) = never
never_unread files old new names (inr (cache, read, never)) = never

-- an order that is refused
pub output-refusal : (words : List (List ℕ)) (files : Files) (old new : ℕ) (order : Order) (stop : Stop) → command_of words ≡ Some order → status_of stop ≡ IsRefused
    → RefusalCause words (Some files) old new order stop → output words files ≡ outcome_of files (Err stop)
output-refusal words files old new order BadWords spelled is cause = absurd cc
output-refusal words files old new order (Unread input) spelled is cause = absurd cc
output-refusal words files old new order (Refused b) spelled is (inl (reading, stays)) =
    cause_ends words files order (Refused b) spelled (inl (inputs_refused files old new (inputs_of order) b reading, stays))
output-refusal words files old new order (Refused b) spelled is (inr made_so) = cause_ends words files order (Refused b) spelled (inr made_so)
output-refusal words files old new order (Flawed f) spelled is (inl (reading, stays)) =
    cause_ends words files order (Flawed f) spelled (inl (inputs_flawed files old new (inputs_of order) f reading, stays))
output-refusal words files old new order (Flawed f) spelled is (inr made_so) = cause_ends words files order (Flawed f) spelled (inr made_so)
output-refusal words files old new order NoImage spelled is (inl (never, stays)) = absurd (never_unread files old new (inputs_of order) never)
output-refusal words files old new order NoImage spelled is (inr made_so) = cause_ends words files order NoImage spelled (inr made_so)
output-refusal words files old new order Memory spelled is cause = absurd cc

pub output-refused : (words : List (List ℕ)) (files : Files) (old new : ℕ) (b : Break) → IsDue words (Some files) old new (Refused b)
    → output words files ≡ outcome_of files (Err (Refused b))
output-refused words files old new b (order, spelled, cause) = output-refusal words files old new order (Refused b) spelled refl cause

pub output-flawed : (words : List (List ℕ)) (files : Files) (old new : ℕ) (f : Finding) → IsDue words (Some files) old new (Flawed f)
    → output words files ≡ outcome_of files (Err (Flawed f))
output-flawed words files old new f (order, spelled, cause) = output-refusal words files old new order (Flawed f) spelled refl cause

pub output-no_image : (words : List (List ℕ)) (files : Files) (old new : ℕ) → IsDue words (Some files) old new NoImage → output words files ≡ outcome_of files (Err NoImage)
output-no_image words files old new (order, spelled, cause) = output-refusal words files old new order NoImage spelled refl cause

-- an input that isn't read is no finding
halted_unread : (order : Order) (input : ℕ) → halted order (Unread input) ≡ Err (Unread input)
halted_unread (build options out names) input = refl
halted_unread (check name names) input = refl
halted_unread (extract name prefix image) input = refl
halted_unread (list name) input = refl
halted_unread (info name) input = refl
halted_unread (trial options seed count) input = refl

-- an input was not read since the files lack it, or since reading failed
pub output-unread : (words : List (List ℕ)) (files : Files) (old new input : ℕ) → IsDue words (Some files) old new (Unread input)
    → Rose old new ⊎ (output words files ≡ outcome_of files (Err (Unread input)))
output-unread words files old new input (order, spelled, reading) =
    elim (inputs_unread files old new (inputs_of order) input reading) [
      | inl rose ↦ inl rose
      | inr ends ↦ inr (cause_ends words files order (Unread input) spelled (inl (ends, halted_unread order input)))
    ]
