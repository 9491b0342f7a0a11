-- Why a run ends as it does, whether its store tells the files or not.
use Rattle.std.specs.Prelude.{◌≡◌, ◌⊎◌, ℕ, List, Option, Some, None, Ok, Err}
use Rattle.dsc_base.specs.Outside.{Files}
use Rattle.dsc_base.specs.declared.fault.Finding.{Finding}
use Rattle.dsc_tool.specs.declared.stop.Stop.{Stop}
use Rattle.dsc_tool.specs.declared.stop.Stop.TheVariants.{BadWords, Unread, Refused, Flawed, NoImage, Memory}
use Rattle.dsc_tool.specs.Inputs.{Contents, InputsAreRead, ReadCause, inputs_of}
use Rattle.dsc_tool.specs.Made.{Made, Promised, made, halted}
use Rattle.dsc_tool.specs.Words.{Order, command_of}

-- the words spell this order, and its inputs are read and have these bytes
pub record IsRead (words : List (List ℕ)) (files : Option Files) (order : Order) (contents : Contents) : Type 0 where
  pub spelled : command_of words ≡ Some order
  pub inputs : InputsAreRead files (inputs_of order) contents

-- and with these the order comes to this
pub record IsMade (words : List (List ℕ)) (files : Option Files) (order : Order) (contents : Contents) (m : Made) : Type 0 where
  pub read : IsRead words files order contents
  pub made : made order contents ≡ Ok m

-- why an order came to nothing: a limit while its inputs were read, or what their bytes come to: the first rule that files break, the first finding in a cache, or that the cache hasn't the image
abbrev pub RefusalCause : List (List ℕ) → Option Files → ℕ → ℕ → Order → Stop → Type 0
RefusalCause words files old new order stop =
    (ReadCause files old new (inputs_of order) stop × (halted order stop ≡ Err stop)) ⊎ ((contents : Contents) × IsRead words files order contents × (made order contents ≡ Err stop))

-- the words spell this order, a finding ended the reading of its inputs, and this is what the order comes to then
pub record IsHalted (words : List (List ℕ)) (files : Option Files) (old new : ℕ) (order : Order) (m : Made) : Type 0 where
  pub finding : Finding
  pub spelled : command_of words ≡ Some order
  pub cause : ReadCause files old new (inputs_of order) (Flawed finding)
  pub made : halted order (Flawed finding) ≡ Ok m

-- why an order comes to this: it is made of the bytes of its inputs, and is as promised, or their reading was ended by a finding that the order asks for
abbrev pub WorkCause : List (List ℕ) → Option Files → ℕ → ℕ → Order → Made → Type 0
WorkCause words files old new order m =
    ((contents : Contents) × IsMade words files order contents m × Promised order contents) ⊎ IsHalted words files old new order m

-- when a run may stop so; memory may be wanting at any time
abbrev pub IsDue : List (List ℕ) → Option Files → ℕ → ℕ → Stop → Type 0
IsDue words files old new BadWords = command_of words ≡ None
IsDue words files old new (Unread input) = (order : Order) × (command_of words ≡ Some order) × ReadCause files old new (inputs_of order) (Unread input)
IsDue words files old new (Refused b) = (order : Order) × (command_of words ≡ Some order) × RefusalCause words files old new order (Refused b)
IsDue words files old new (Flawed f) = (order : Order) × (command_of words ≡ Some order) × RefusalCause words files old new order (Flawed f)
IsDue words files old new NoImage = (order : Order) × (command_of words ≡ Some order) × RefusalCause words files old new order NoImage
IsDue words files old new Memory = Unit {0}
