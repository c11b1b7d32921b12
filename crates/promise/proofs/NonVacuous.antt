-- The theorems say something: a chain with H, B, O and D is accepted, its walk is in range, and what same_byte and inside say of it. Assumes nothing.
use Prim.Native.Nat.{ℕ, zero, suc}
use mathlib.Core.Path.{◌≡◌, refl, sym, ◌∙◌, ap}
use mathlib.Core.Bool.{true}
use mathlib.Core.List.{List, [], ◌∷◌}
use mathlib.Core.Option.{some}
use native.Mathlib.Omega.{arith}
use lib.IntN.{pos, negsuc}
use Rattle.arith.specs.Refusals.{ok}
use Rattle.arith.proofs.Results.{value_is, some_is}
use Rattle.decimal.specs.Text.{bytes}
use Rattle.spirv.specs.declared.ChainOp.TheVariants.{AccessChain}
use Rattle.spirv.specs.declared.Index.{Index}
use Rattle.spirv.specs.declared.Index.TheVariants.{Known, Unknown}
use Rattle.spirv.specs.declared.Length.TheVariants.{Fixed}
use Rattle.spirv.specs.declared.Stride.TheVariants.{Undecorated}
use Rattle.spirv.specs.declared.SpvType.TheVariants as spv
use Rattle.spirv.specs.declared.Decoration.TheVariants as decoration
use Rattle.spirv.specs.Decl.{plain}
use Rattle.shapes.specs.Settings.{standard_setting}
use Rattle.shapes.specs.Shapes.{MemTypeLayout, TypeLayout, size_of, legacy_of, shown_memory}
use Rattle.sheet.specs.Sheet.{Sheet, read_sheet}
use Rattle.layout.specs.Layouts.{answer_in}
use Rattle.lower.specs.declared.QPtrOp.{QPtrOp}
use Rattle.lower.specs.declared.QPtrOp.TheVariants.{HandleArrayIndex, BufferData, Offset, DynOffset}
use Rattle.lower.specs.Statements.{Accepted}
use Rattle.promise.specs.Meaning.{Values, chosen, Spot, run}
use Rattle.promise.specs.Walk.{type_no, start}
use Rattle.promise.specs.Vulkan.Vk.{number, vector, array, struct}
use Rattle.promise.specs.Vulkan.Vks.{one, more}
use Rattle.promise.specs.Statements.{Walks, InRange, InsideOf}
use Rattle.promise.proofs.SameByte.{same_byte}
use Rattle.promise.proofs.Inside.{inside}
use Rattle.promise.proofs.Vulkan.{alignments}
use Rattle.promise.proofs.Opened.{opened}

-- five buffers of {F32 at 0, eight vec4 at 16}
abbrev buffers : Sheet
buffers = record {
  setting = standard_setting;
  types =
      plain (spv.Float 32)
      ∷ plain (spv.Vector 0 4)
      ∷ plain (spv.Array 1 (Fixed 8) Undecorated)
      ∷ record {
        type = spv.Struct true;
        members = 0 ∷ 2 ∷ [];
        decorations = record { member = 0; decoration = decoration.Offset 0 } ∷ record { member = 1; decoration = decoration.Offset 16 } ∷ [];
      }
      ∷ plain (spv.Array 3 (Fixed 5) Undecorated)
      ∷ plain (spv.Pointer 12 4)
      ∷ [];
  questions = [];
}

-- it is read from a text
is_read : read_sheet (bytes "G,0,1,1,1,1,1\nF,32\nV,0,4\nA,1,8,-\nS,1,2,0,2\nD,0,35,0\nD,1,35,16\nA,3,5,-\nP,12,4\n") ≡ ok buffers
unfolding opened
is_read = refl

abbrev chain : List Index
chain = Unknown 0 ∷ Known 1 ∷ Unknown 1 ∷ Known 2 ∷ []

abbrev steps : List QPtrOp
steps = HandleArrayIndex (Unknown 0) ∷ BufferData ∷ Offset (pos 16) ∷ DynOffset 16 8 (Unknown 1) ∷ Offset (pos 8) ∷ []

accepted : Accepted buffers AccessChain 5 chain steps
unfolding opened
accepted = refl

-- ---- same byte: at buffer 2 and vec4 −3 both reach byte −24

abbrev back : Values
back zero = pos 2
back (suc u) = negsuc 2

abbrev spot_back : Spot
spot_back = record { handle = chosen (pos 2); byte = some (negsuc 23) }

same_there : (same_byte buffers AccessChain 5 chain steps accepted back).by_walk.reached.spot ≡ spot_back
unfolding opened
same_there =
    let same = same_byte buffers AccessChain 5 chain steps accepted back in
    let pointee : 4 ≡ same.by_walk.pointee = value_is same.by_walk.points in
    sym same.by_steps ∙ ap (λ (t : ℕ). run back steps (start buffers AccessChain t).spot) (sym pointee)

-- ---- inside: vec4 3 is in range, so that its component lies inside the 144 bytes of the buffer

abbrev forth : Values
forth zero = pos 2
forth (suc u) = pos 3

walks : Walks buffers AccessChain 5 chain forth
unfolding opened
walks = record { pointee = 4; points = refl; reached = _; walked = refl }

in_range : InRange buffers forth chain (start buffers AccessChain 4)
unfolding opened
in_range = (
  tt,
  (
    tt,
    (
      (record { number = 3; is = refl; below = omega arith }, λ stride e h k. omega (arith, some_is h, ap size_of (some_is k))),
      ((record { number = 2; is = refl; below = omega arith }, λ stride e h k. omega (arith, some_is h, ap size_of (some_is k))), tt),
    ),
  ),
)

lies : (m : MemTypeLayout) × (size_of m ≡ 144) × InsideOf buffers walks.reached m
unfolding opened walks
lies = (_, refl, inside buffers AccessChain 5 chain steps accepted forth walks (type_no 3) _ refl refl refl in_range)

-- ---- alignments: the array of buffers has Vulkan's of its struct

shown : (l : TypeLayout) × (m : MemTypeLayout) × (answer_in buffers 4 ≡ ok l) × (shown_memory l ≡ some m)
unfolding opened
shown = (_, _, refl, refl)

aligned : legacy_of shown.1 ≡ 16
unfolding opened
aligned = (alignments buffers 4 (array (struct (more (number 4) (one (array (vector 4 4)))))) shown.0 shown.1 refl shown.2 shown.3).base refl
