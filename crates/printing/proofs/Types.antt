-- The line of a layout shows no types of fields: it is the same whatever they are; and the line of a variable. Assumes nothing.
use Prim.Native.Nat.{ℕ}
use mathlib.Core.Path.{◌≡◌, refl}
use mathlib.Core.List.{List}
use Rattle.shapes.specs.Spans.{spans_of, parts_by}
use Rattle.std.proofs.Math.Option as option
use Rattle.arith.specs.InCode.{as_option}
use Rattle.shapes.specs.declared.MemLayout.{MemLayout}
use Rattle.answers.specs.Output.{printed}
use Rattle.printing.specs.Texts.{variable_text}
use Rattle.shapes.specs.declared.Components.{Components}
use Rattle.shapes.specs.declared.Components.TheVariants.{Scalar, Elements, Fields}
use Rattle.shapes.specs.declared.Handle.TheVariants as handle
use Rattle.shapes.specs.declared.TypeLayout.TheVariants as layout
use Rattle.answers.specs.Lines.{parts_fields, layout_line, variable_line}
use Rattle.printing.specs.Layouts.{parts_in, AnyTypes}

parts_same : (offsets members : List ℕ) (p : Components) → parts_fields (parts_by (spans_of offsets members) p) ≡ parts_fields (parts_in offsets p)
parts_same offsets members Scalar = refl
parts_same offsets members (Elements stride elem len) = refl
parts_same offsets members (Fields start count) = refl

pub any_types : AnyTypes
unfolding layout_line
any_types offsets members (layout.Concrete m) = rw (parts_same offsets members m.components)
any_types offsets members (layout.Handle handle.Opaque) = refl
any_types offsets members (layout.Handle (handle.Buffer m)) = rw (parts_same offsets members m.components)
any_types offsets members (layout.HandleArray handle.Opaque n) = refl
any_types offsets members (layout.HandleArray (handle.Buffer m) n) = rw (parts_same offsets members m.components)

-- the line of a variable, if it has a fixed size
pub variable_is : (m : option.Option MemLayout) → variable_text (as_option m) ≡ printed (variable_line m)
variable_is option.none = refl
variable_is (option.some m) = refl
