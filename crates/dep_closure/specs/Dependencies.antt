-- What each image of a set needs, by the install names of the others. A library ordinal counts the four dependency commands of mach-o/loader.h from 1, in command order.
use Rattle.std.specs.Prelude.{ℕ, List, map, Option, Some, None, position}
use Rattle.macho_image.specs.Records.{Img, Dep as Dependency}
use Rattle.macho_image.specs.Rules.{same_bytes}
use Rattle.dep_closure.specs.declared.dep.Dep.{Dep}
use Rattle.dep_closure.specs.declared.dep.Dep.TheVariants.{Image, Missing}

-- the number of the image with an install name; where several have it, of the first
abbrev pub image_named : List Img → List ℕ → Option ℕ
image_named images name = position (λ (i : Img). same_bytes name i.install_name) images

abbrev pub answer_of : Option ℕ → Dep
answer_of None = Missing
answer_of (Some image) = Image image

-- what a dependency names
abbrev pub named_by : List Img → Dependency → Dep
named_by images d = answer_of (image_named images d.name)

-- what each dependency of an image names
abbrev pub dependencies_of : List Img → Img → List Dep
dependencies_of images i = map (named_by images) i.dependencies
