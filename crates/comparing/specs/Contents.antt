-- Document 01, program `lay`, E: when the lines of two handles agree behind their form and length.
use Rattle.std.specs.Prelude.{Bool, true, false}
use Rattle.shapes.specs.Shapes.{HandleLayout, Opaque, Buffer}
use Rattle.answers.specs.Lines.{memory_fields, same_line}

unfoldable pub same_contents : HandleLayout → HandleLayout → Bool
same_contents Opaque Opaque = true
same_contents Opaque (Buffer n) = false
same_contents (Buffer m) Opaque = false
same_contents (Buffer m) (Buffer n) = same_line (memory_fields m) (memory_fields n)
