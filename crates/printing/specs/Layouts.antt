-- Document 01, program `lay`: the line of a layout as the code holds it, its fields a span of a list of offsets.
use Rattle.std.specs.Prelude.{ℕ, ◌≡◌, List, []}
use Rattle.shapes.specs.Shapes as def
use Rattle.shapes.specs.Spans.{spans_of, parts_by, memory_by, handle_by, layout_by}
use Rattle.shapes.specs.declared.Components.{Components}
use Rattle.shapes.specs.declared.MemTypeLayout.{MemTypeLayout}
use Rattle.shapes.specs.declared.Handle.{Handle}
use Rattle.shapes.specs.declared.TypeLayout.{TypeLayout}
use Rattle.answers.specs.Lines.{AnswerLine, layout_line}
use Rattle.answers.specs.Output.{printed}

-- the line shows the fields' offsets and not their types
abbrev pub parts_in : (offsets : List ℕ) → Components → def.Components
parts_in offsets p = parts_by (spans_of offsets []) p

abbrev pub memory_in : (offsets : List ℕ) → MemTypeLayout → def.MemTypeLayout
memory_in offsets m = memory_by (spans_of offsets []) m

abbrev pub handle_in : (offsets : List ℕ) → Handle → def.HandleLayout
handle_in offsets h = handle_by (spans_of offsets []) h

abbrev pub line_in : (offsets : List ℕ) → TypeLayout → AnswerLine
line_in offsets l = layout_line (layout_by (spans_of offsets []) l)

-- whatever the fields' types are, that is the line of the layout
abbrev pub AnyTypes : Type 0
AnyTypes = (offsets members : List ℕ) (l : TypeLayout) → layout_line (layout_by (spans_of offsets members) l) ≡ line_in offsets l

-- T
abbrev pub layout_text : (offsets : List ℕ) → TypeLayout → List ℕ
layout_text offsets l = printed (line_in offsets l)
