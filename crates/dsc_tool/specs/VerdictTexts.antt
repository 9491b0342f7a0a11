-- What `check` prints: the verdict, in a line.
use Rattle.std.specs.Prelude.{ℕ, List, ◌++◌, codes}
use Rattle.std.specs.Fmt.{decimal}
use Rattle.dsc_base.specs.FindingNames.{number_of, name_of}
use Rattle.dsc_base.specs.declared.fault.Finding.{Finding}
use Rattle.cache_check.specs.declared.verdict.Difference.{Difference}
use Rattle.cache_check.specs.declared.verdict.Difference.TheVariants.{Images, Path, Shape, Bytes, Export}
use Rattle.cache_check.specs.declared.verdict.Seen.{Seen}
use Rattle.cache_check.specs.declared.verdict.Seen.TheVariants.{Number, Address}
use Rattle.cache_check.specs.declared.verdict.Verdict.{Verdict}
use Rattle.cache_check.specs.declared.verdict.Verdict.TheVariants.{Agrees, Differs, Broken}
use Rattle.dsc_tool.specs.Texts.{hex, line_feed}

unfoldable pub agrees_line : ℕ → List ℕ
agrees_line images = codes "agrees: " ++ (decimal images ++ (codes " images" ++ line_feed))

unfoldable pub images_differ_line : ℕ → ℕ → List ℕ
images_differ_line found wanted = codes "differs: images found " ++ (decimal found ++ (codes " wanted " ++ (decimal wanted ++ line_feed)))

unfoldable pub path_line : ℕ → List ℕ
path_line image = codes "differs: image " ++ (decimal image ++ (codes " path" ++ line_feed))

unfoldable pub shape_line : ℕ → ℕ → ℕ → ℕ → List ℕ
shape_line image part found wanted =
    codes "differs: image " ++ (decimal image ++ (codes " shape " ++ (decimal part ++ (codes " found 0x" ++ (hex found ++ (codes " wanted 0x" ++ (hex wanted ++ line_feed)))))))

-- what stands at a place, as its kind and its number
abbrev pub kind_of : Seen → List ℕ
kind_of (Number n) = codes "number"
kind_of (Address a) = codes "address"

abbrev pub value_of : Seen → ℕ
value_of (Number n) = n
value_of (Address a) = a

unfoldable pub seen_text : Seen → List ℕ
seen_text seen = kind_of seen ++ (codes " 0x" ++ hex (value_of seen))

unfoldable pub bytes_line : ℕ → ℕ → ℕ → Seen → Seen → List ℕ
bytes_line image section offset found wanted =
    codes "differs: image " ++ (decimal image ++ (codes " section " ++ (decimal section ++ (codes " offset 0x" ++ (hex offset
    ++ (codes " found " ++ (seen_text found ++ (codes " wanted " ++ (seen_text wanted ++ line_feed)))))))))

unfoldable pub export_line : ℕ → ℕ → List ℕ
export_line image index = codes "differs: image " ++ (decimal image ++ (codes " export " ++ (decimal index ++ line_feed)))

abbrev pub difference_line : Difference → List ℕ
difference_line (Images found wanted) = images_differ_line found wanted
difference_line (Path image found wanted) = path_line image
difference_line (Shape image part found wanted) = shape_line image part found wanted
difference_line (Bytes image section offset found wanted) = bytes_line image section offset found wanted
difference_line (Export image index found wanted) = export_line image index

unfoldable pub broken_line : Finding → List ℕ
broken_line f =
    codes "broken: " ++ (decimal (number_of f.kind) ++ (codes " " ++ (name_of f.kind ++ (codes " image " ++ (decimal f.image ++ (codes " at 0x" ++ (hex f.at ++ line_feed)))))))

-- of so many files
abbrev pub verdict_line : ℕ → Verdict → List ℕ
verdict_line images Agrees = agrees_line images
verdict_line images (Differs d) = difference_line d
verdict_line images (Broken f) = broken_line f
