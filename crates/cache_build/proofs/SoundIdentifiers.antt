-- The identifier of a sound image has 16 bytes.
use Rattle.std.proofs.Common.{◌≡◌, ◌≤◌, ℕ, Bool, true, false, cond, Option, Some, List, [], ◌∷◌, take, drop, length, refl, ap, ◌∙◌, arith}
use Rattle.std.specs.List.{AllByRecursion}
use Rattle.std.proofs.lemmas.Bool.{eqb-true}
use Rattle.std.proofs.lemmas.List.{length-take-le, length-drop}
use Rattle.dsc_base.specs.Numbers.{number_at}
use Rattle.macho_image.specs.Records.{Img}
use Rattle.macho_image.specs.Macho.{number_of, is_uuid, commands_of, command_where, uuid_of}
use Rattle.macho_image.specs.Rules.{least_size}
use Rattle.macho_image.specs.Breaks.{IsSound}
use Rattle.macho_image.proofs.CommandLaws.{IsWholeCommand, AreCommands, shape_joins}
use Rattle.macho_edit.proofs.CopyLaws.{command_shape}
use Rattle.macho_image.proofs.HeaderRules.{sound_rules}
use Rattle.macho_image.proofs.WalkLaws.{sound_front}

uuid_here : (c : List ℕ) → IsWholeCommand c → is_uuid (number_of c) ≡ true → length (take 16 (drop 8 c)) ≡ 16
uuid_here c whole is =
    let size : least_size (number_of c) ≡ 24 = ap least_size (eqb-true (number_of c) 0x1B is) in
    length-take-le 16 (drop 8 c) (omega (arith, length-drop 8 c, whole.least, size))

uuid_pick : (b : Bool) (c : List ℕ) (o : Option (List ℕ)) → (b ≡ true → length (take 16 (drop 8 c)) ≡ 16) → length (uuid_of o) ≡ 16 → length (uuid_of (cond b (Some c) o)) ≡ 16
uuid_pick true c o here later = here refl
uuid_pick false c o here later = later

uuid_long : (cs : List (List ℕ)) → AllByRecursion IsWholeCommand cs → length (uuid_of (command_where is_uuid cs)) ≡ 16
uuid_long [] whole = refl
uuid_long (c ∷ cs) whole = uuid_pick (is_uuid (number_of c)) c (command_where is_uuid cs) (uuid_here c whole.0) (uuid_long cs whole.1)

pub identifier_long : (image : Img) → IsSound image → length image.uuid ≡ 16
identifier_long image sound =
    let rules = sound_rules image sound in
    let front : 32 ≤ length image.header = sound_front image sound in
    let commands : AreCommands (number_at 4 image.header 16) (drop 32 image.header) = shape_joins (number_at 4 image.header 16) 32 (drop 32 image.header) (command_shape image.header front rules.shape) in
    ap (λ (u : List ℕ). length u) sound.uuid ∙ uuid_long (commands_of image.header) commands.whole
