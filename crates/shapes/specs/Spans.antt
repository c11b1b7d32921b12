-- What the code's layouts say in the definitions' terms: a struct's fields, a span of two parallel lists, are the parts of these lists.
-- A span that runs past a list's end reads as the shorter list.
use Rattle.std.specs.Prelude.{ℕ, ◌≡◌, List, [], ◌∷◌, get_or, take, drop}
use Rattle.arith.specs.Refusals.{Result, ok, refused}
use Rattle.shapes.specs.Shapes as def
use Rattle.shapes.specs.declared.Components.{Components}
use Rattle.shapes.specs.declared.Components.TheVariants.{Scalar, Elements, Fields}
use Rattle.shapes.specs.declared.MemTypeLayout.{MemTypeLayout}
use Rattle.shapes.specs.declared.Handle.{Handle}
use Rattle.shapes.specs.declared.Handle.TheVariants as handle
use Rattle.shapes.specs.declared.TypeLayout.{TypeLayout}
use Rattle.shapes.specs.declared.TypeLayout.TheVariants as layout
use Rattle.arith.specs.InCode.{OrRefusal, err}
use Rattle.std.specs.Prelude.{Ok, Err}

-- what a span of fields stands for
abbrev pub Reading : Type 0
Reading = (start count : ℕ) → def.Components

-- the part of a list from start on, at most count long
abbrev pub span_of : List ℕ → (start count : ℕ) → List ℕ
span_of list start count = take count (drop start list)

-- spans of these lists
abbrev pub spans_of : (offsets members : List ℕ) → Reading
spans_of offsets members start count = def.Fields (span_of offsets start count) (span_of members start count)

-- ---- a layout, where spans stand for this

abbrev pub parts_by : Reading → Components → def.Components
parts_by f Scalar = def.Scalar
parts_by f (Elements stride elem len) = def.Elements stride elem len
parts_by f (Fields start count) = f start count

abbrev pub memory_by : Reading → MemTypeLayout → def.MemTypeLayout
memory_by f m = record { mem = m.mem; components = parts_by f m.components }

abbrev pub handle_by : Reading → Handle → def.HandleLayout
handle_by f handle.Opaque = def.Opaque
handle_by f (handle.Buffer m) = def.Buffer (memory_by f m)

abbrev pub layout_by : Reading → TypeLayout → def.TypeLayout
layout_by f (layout.Handle h) = def.Handle (handle_by f h)
layout_by f (layout.HandleArray h n) = def.HandleArray (handle_by f h) n
layout_by f (layout.Concrete m) = def.Concrete (memory_by f m)

abbrev pub answer_by : Reading → OrRefusal TypeLayout → Result def.TypeLayout
answer_by f (Ok l) = ok (layout_by f l)
answer_by f (Err e) = refused e.number

-- of these lists
abbrev pub answer_over : (offsets members : List ℕ) → OrRefusal TypeLayout → Result def.TypeLayout
answer_over offsets members a = answer_by (spans_of offsets members) a

-- ---- a layout of the definitions, held by spans

-- a span that stands for itself, and what holds it again
abbrev pub itself : Reading
itself start count = def.Fields (start ∷ []) (count ∷ [])

abbrev pub held_parts : def.Components → Components
held_parts def.Scalar = Scalar
held_parts (def.Elements stride elem len) = Elements stride elem len
held_parts (def.Fields starts counts) = Fields (get_or starts 0 0) (get_or counts 0 0)

abbrev pub held_memory : def.MemTypeLayout → MemTypeLayout
held_memory m = record { mem = m.mem; components = held_parts m.components }

abbrev pub held_handle : def.HandleLayout → Handle
held_handle def.Opaque = handle.Opaque
held_handle (def.Buffer m) = handle.Buffer (held_memory m)

abbrev pub held_layout : def.TypeLayout → TypeLayout
held_layout (def.Handle h) = layout.Handle (held_handle h)
held_layout (def.HandleArray h n) = layout.HandleArray (held_handle h) n
held_layout (def.Concrete m) = layout.Concrete (held_memory m)

abbrev pub held : Result def.TypeLayout → OrRefusal TypeLayout
held (ok l) = Ok (held_layout l)
held (refused n) = err n

-- an answer is what the definitions say, whatever spans stand for
pub record Says (a : OrRefusal TypeLayout) (said : Reading → Result def.TypeLayout) : Type 0 where
  pub by : (f : Reading) → answer_by f a ≡ said f
