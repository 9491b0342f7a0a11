-- The first rule that the names in a set of images break: rules 121 to 123, image by image.
use Rattle.std.specs.Prelude.{◌≡◌, ℕ, ◌+◌, Bool, true, false, not, ◌&&◌, nat_eq, List, [], ◌∷◌, take, Option, Some, None, is_none, option_map, position, Result, Ok, Err}
use Rattle.std.specs.Option.{option_or}
use Rattle.dsc_base.specs.declared.fault.Site.{Site}
use Rattle.dsc_base.specs.declared.fault.Break.{Break}
use Rattle.dsc_base.specs.declared.fault.Fault.{Fault}
use Rattle.dsc_base.specs.declared.fault.Fault.TheVariants.{Broken as BrokenSite, Memory as FaultMemory}
use Rattle.dsc_base.specs.declared.fault.SetFault.{SetFault}
use Rattle.dsc_base.specs.declared.fault.SetFault.TheVariants.{Broken, Memory}
use Rattle.dsc_base.specs.declared.rule.Rule.TheVariants.{DuplicateName, RelativeDependency, MissingDependency}
use Rattle.macho_image.specs.Records.{Img, Dep as Dependency}
use Rattle.dsc_base.specs.Refusals.{broken, in_image}
use Rattle.macho_image.specs.declared.form.LinkKind.{LinkKind}
use Rattle.macho_image.specs.declared.form.LinkKind.TheVariants.{Weak}
use Rattle.dep_closure.specs.Dependencies.{image_named}

abbrev pub is_weak : LinkKind → Bool
is_weak Weak = true
is_weak kind = false

-- a name that begins with a slash
abbrev pub is_absolute : List ℕ → Bool
is_absolute [] = false
is_absolute (x ∷ rest) = nat_eq x 0x2F

-- a dependency that isn't weak and whose name no image has
abbrev pub is_lacking : List Img → Dependency → Bool
is_lacking images d = not (is_weak d.kind) && is_none (image_named images d.name)

-- the least ordinal of a dependency that passes a test
abbrev pub least_ordinal : (Dependency → Bool) → List Dependency → Option ℕ
least_ordinal p ds = option_map (λ (k : ℕ). k + 1) (position p ds)

-- rules 122 and 123 of one image
unfoldable pub dependency_break : List Img → List Dependency → Option Site
dependency_break images ds =
    option_or (broken RelativeDependency (least_ordinal (λ d. not (is_absolute d.name)) ds)) (broken MissingDependency (least_ordinal (is_lacking images) ds))

-- the first rule that image k breaks; rule 121 is that one of the images before it has its install name
abbrev pub image_break : List Img → ℕ → Img → Option Site
image_break images k i = option_or (broken DuplicateName (image_named (take k images) i.install_name)) (dependency_break images i.dependencies)

-- the first break of the images from number k on
abbrev pub break_from : List Img → ℕ → List Img → Option Break
break_from images k [] = None
break_from images k (i ∷ is) = option_or (option_map (in_image k) (image_break images k i)) (break_from images (k + 1) is)

unfoldable pub link_break : List Img → Option Break
link_break images = break_from images 0 images
