-- How long the fields of an answer are, each with the byte behind it. Assumes nothing.
use Prim.Native.Nat.{ℕ, suc, ◌+◌, ◌*◌, ◌≤◌}
use Prim.Native.Char.{code}
use native.Mathlib.Omega.{arith}
use mathlib.Core.Path.{◌≡◌}
use mathlib.Core.Bool.{true}
use mathlib.Core.List.{List, [], ◌∷◌, ◌++◌, map}
use lib.IntN.{ℤ, pos, negsuc}
use lib.ListN.{length, length-append}
use borrow.Author.Tests.{leb-true}
use Rattle.arith.specs.Numbers.{max_i32, is_i32}
use Rattle.decimal.specs.Decimal.{decimal, signed_decimal}
use Rattle.decimal.proofs.BothWays.{ten_digits}
use Rattle.spirv.specs.declared.Index.{Index}
use Rattle.spirv.specs.declared.Index.TheVariants.{Known, Unknown}
use Rattle.shapes.specs.Shapes.{Components, Scalar, Elements, Fields, Opaque, Buffer, MemTypeLayout, TypeLayout, Handle, HandleArray, Concrete, size_of, align_of, legacy_of, dyn_of}
use Rattle.sheet.specs.Statements.{Fits, All, FitsIndex}
use Rattle.lower.specs.declared.QPtrOp.{QPtrOp}
use Rattle.lower.specs.declared.QPtrOp.TheVariants.{HandleArrayIndex, BufferData, Offset, DynOffset}
use Rattle.lower.specs.Statements.{FitsStep, FitSteps}
use Rattle.answers.specs.Lines.{AnswerLine, parts_fields, memory_fields, opaque_fields, layout_line, index_field, step_fields, steps_fields}
use Rattle.answers.specs.Output.{printed}
use Rattle.longest.specs.Statements.{FitsParts, FitsMemory, FitsLayout}
use Rattle.longest.proofs.Steps.{Numbers}

-- each field and the comma or LF behind it
abbrev pub total : AnswerLine → ℕ
total [] = 0
total (f ∷ fs) = suc (length f) + total fs

pub line_length : (fs : AnswerLine) → length (printed fs) ≤ suc (total fs)
unfolding printed
line_length [] = omega arith
line_length (f ∷ []) = omega (arith, length-append f (code "\n" ∷ []))
line_length (f ∷ g ∷ gs) = omega (arith, length-append f (code "," ∷ printed (g ∷ gs)), line_length (g ∷ gs))

total_append : (a b : AnswerLine) → total (a ++ b) ≡ total a + total b
total_append [] b = omega arith
total_append (f ∷ a) b = let r = total_append a b in omega arith

-- ---- numbers

pub numbers_total : (ns : List ℕ) → All Fits ns → total (map decimal ns) ≤ 11 * length ns
numbers_total [] h = omega arith
numbers_total (n ∷ ns) h = let r = numbers_total ns h.1 in omega (arith, ten_digits n h.0)

signed_length : (z : ℤ) → is_i32 z ≡ true → length (signed_decimal z) ≤ 11
unfolding signed_decimal is_i32
signed_length (pos n) h = let k = leb-true n max_i32 h in omega (arith, ten_digits n (omega arith))
signed_length (negsuc n) h = let k = leb-true n max_i32 h in omega (arith, ten_digits (suc n) (omega arith))

-- ---- T

module _ (m : MemTypeLayout) (f : FitsMemory m) where
  parts_total : (c : Components) → FitsParts c → total (parts_fields c) ≤ 11264
  parts_total Scalar g = omega arith
  parts_total (Elements stride elem len) g = omega (arith, ten_digits stride g.0)
  parts_total (Fields os ts) g = omega (arith, numbers_total os g.0, g.1)

  memory_total : total (memory_fields m) ≤ 11308
  memory_total =
      omega (arith, ten_digits (size_of m) f.size, ten_digits (align_of m) f.align, ten_digits (legacy_of m) f.legacy, ten_digits (dyn_of m) f.dyn, parts_total m.components f.parts)

opaque_total : total opaque_fields ≤ 44
opaque_total = omega (arith, ten_digits 0 (omega arith))

pub layout_total : (l : TypeLayout) → FitsLayout l → total (layout_line l) ≤ 12000
unfolding layout_line
layout_total (Concrete m) f = omega (arith, ten_digits 0 (omega arith), memory_total m f)
layout_total (Handle (Buffer m)) f = omega (arith, ten_digits 0 (omega arith), memory_total m f)
layout_total (Handle Opaque) f = omega (arith, ten_digits 0 (omega arith), opaque_total)
layout_total (HandleArray (Buffer m) len) f = omega (arith, ten_digits len f.1, memory_total m f.0)
layout_total (HandleArray Opaque len) f = omega (arith, ten_digits len f.1, opaque_total)

-- ---- C

index_length : (i : Index) → FitsIndex i → length (index_field i) ≤ 11
index_length (Known w) f = omega (arith, ten_digits w f)
index_length (Unknown v) f = omega (arith, ten_digits v f)

step_total : (s : QPtrOp) → Numbers s → FitsStep s → total (step_fields s) ≤ 36
step_total (HandleArrayIndex i) f g = omega (arith, index_length i f)
step_total BufferData f g = omega arith
step_total (Offset z) f g = omega (arith, signed_length z g)
step_total (DynOffset stride bound i) f g = omega (arith, ten_digits stride f.0, ten_digits bound f.1, index_length i f.2)

pub steps_total : (ss : List QPtrOp) → All Numbers ss → FitSteps ss → total (steps_fields ss) ≤ 36 * length ss
steps_total [] f g = omega arith
steps_total (s ∷ ss) f g =
    let r = steps_total ss f.1 g.1 in
    omega (arith, total_append (step_fields s) (steps_fields ss), step_total s f.0 g.0)
