-- A layout's words as the code has them: its head, and the offsets that T shows.
use Rattle.std.specs.Prelude.{ℕ, List, [], ◌∷◌, ◌++◌}
use Rattle.arith.specs.Refusals.{Result, ok, refused}
use Rattle.std.specs.Prelude.{Ok, Err}
use Rattle.arith.specs.InCode.{OrRefusal}
use Rattle.shapes.specs.declared.Components.{Components}
use Rattle.shapes.specs.declared.Components.TheVariants.{Scalar, Elements, Fields}
use Rattle.shapes.specs.declared.MemTypeLayout.{MemTypeLayout}
use Rattle.shapes.specs.declared.Handle.TheVariants.{Opaque, Buffer}
use Rattle.shapes.specs.declared.TypeLayout.{TypeLayout}
use Rattle.shapes.specs.declared.TypeLayout.TheVariants.{Handle, HandleArray, Concrete}
use Rattle.values.specs.Values.{shown_of}

abbrev pub stride_in : Components → ℕ
stride_in Scalar = 0
stride_in (Elements stride elem len) = stride
stride_in (Fields start count) = 0

abbrev pub memory_head : (form len : ℕ) → MemTypeLayout → List ℕ
memory_head form len m =
    form
    ∷ len
    ∷ m.mem.fixed_base.size
    ∷ m.mem.fixed_base.align
    ∷ m.mem.fixed_base.legacy_align
    ∷ m.mem.dyn_unit_stride
    ∷ stride_in m.components
    ∷ []

abbrev pub head_of : TypeLayout → List ℕ
head_of (Concrete m) = memory_head 1 0 m
head_of (Handle (Buffer m)) = memory_head 2 0 m
head_of (Handle Opaque) = 3 ∷ 0 ∷ 0 ∷ 0 ∷ 0 ∷ 0 ∷ 0 ∷ []
head_of (HandleArray (Buffer m) len) = memory_head 4 len m
head_of (HandleArray Opaque len) = 5 ∷ len ∷ 0 ∷ 0 ∷ 0 ∷ 0 ∷ 0 ∷ []

-- a row's answer as words, its offsets in this list
abbrev pub shown_words : (offsets : List ℕ) → OrRefusal TypeLayout → Result (List ℕ)
shown_words offsets (Ok l) = ok (head_of l ++ shown_of offsets l)
shown_words offsets (Err e) = refused e.number
