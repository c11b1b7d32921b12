-- An answer is known by what it says where spans stand for themselves. Assumes nothing.
use mathlib.Core.Path.{◌≡◌, refl, sym, ap, ◌∙◌}
use Rattle.arith.specs.Refusals.{Result}
use Rattle.shapes.specs.Shapes as def
use Rattle.shapes.specs.Spans.{Reading, answer_by, itself, parts_by, held_parts, held_memory, memory_by, held, Says}
use Rattle.shapes.specs.declared.Components.{Components}
use Rattle.shapes.specs.declared.Components.TheVariants.{Scalar, Elements, Fields}
use Rattle.shapes.specs.declared.MemTypeLayout.{MemTypeLayout}
use Rattle.shapes.specs.declared.Handle.TheVariants.{Opaque, Buffer}
use Rattle.shapes.specs.declared.TypeLayout.{TypeLayout}
use Rattle.shapes.specs.declared.TypeLayout.TheVariants as layout
use Rattle.arith.specs.InCode.{OrRefusal}
use Rattle.std.specs.Prelude.{Ok, Err}

held_parts_lem : (c : Components) → held_parts (parts_by itself c) ≡ c
held_parts_lem Scalar = refl
held_parts_lem (Elements stride elem len) = refl
held_parts_lem (Fields start count) = refl

held_memory_lem : (m : MemTypeLayout) → held_memory (memory_by itself m) ≡ m
held_memory_lem m = ap (λ (c : Components). record { mem = m.mem; components = c }) (held_parts_lem m.components)

pub held_again : (a : OrRefusal TypeLayout) → held (answer_by itself a) ≡ a
held_again (Err e) = refl
held_again (Ok (layout.Handle Opaque)) = refl
held_again (Ok (layout.Handle (Buffer m))) = rw (held_memory_lem m)
held_again (Ok (layout.HandleArray Opaque n)) = refl
held_again (Ok (layout.HandleArray (Buffer m) n)) = rw (held_memory_lem m)
held_again (Ok (layout.Concrete m)) = rw (held_memory_lem m)

-- what is said decides the answer
pub decided : (a : OrRefusal TypeLayout) (said : Reading → Result def.TypeLayout) → Says a said → a ≡ held (said itself)
decided a said h = sym (held_again a) ∙ ap held (h.by itself)
