-- Document 01, "The sheet", program `lay`: each answer as the fields of its line.
use Rattle.std.specs.Prelude.{ℕ, Bool, true, false, cond, List, [], ◌∷◌, ◌++◌, map}
use Prim.Native.Char.{code}
use Rattle.std.proofs.Math.Option.{Option, none, some}
use Rattle.arith.specs.Refusals.{Result, ok, refused, ◌>>=◌}
use Rattle.decimal.specs.Text.{bytes, same}
use Rattle.decimal.specs.Decimal.{decimal, signed_decimal}
use Rattle.spirv.specs.declared.ChainOp.{ChainOp}
use Rattle.spirv.specs.declared.Index.{Index}
use Rattle.spirv.specs.declared.Index.TheVariants.{Known, Unknown}
use Rattle.spirv.specs.Questions.{Question}
use Rattle.shapes.specs.declared.MemLayout.{MemLayout}
use Rattle.shapes.specs.Shapes.{Components, Scalar, Elements, Fields, Opaque, Buffer, MemTypeLayout, TypeLayout, Handle, HandleArray, Concrete, size_of, align_of, legacy_of, dyn_of}
use Rattle.sheet.specs.Sheet.{Sheet}
use Rattle.layout.specs.Arrays.{Answer}
use Rattle.layout.specs.Lookup.{lookup}
use Rattle.lower.specs.declared.QPtrOp.{QPtrOp}
use Rattle.lower.specs.declared.QPtrOp.TheVariants.{HandleArrayIndex, BufferData, Offset, DynOffset}
use Rattle.layout.specs.Layouts.{answer_in}
use Rattle.lower.specs.Chain.{lower_chain}
use Rattle.lower.specs.Other.{ArrayLength, array_length, local_variable}

-- the fields of an answer line
abbrev pub AnswerLine : Type 0
AnswerLine = List (List ℕ)

-- ---- T: `t,form,len,size,align,legacy,dyn`, then field offsets, or the stride

abbrev pub parts_fields : Components → AnswerLine
parts_fields Scalar = []
parts_fields (Elements stride elem len) = decimal stride ∷ []
parts_fields (Fields offsets types) = map decimal offsets

abbrev pub memory_fields : MemTypeLayout → AnswerLine
memory_fields m = decimal (size_of m) ∷ decimal (align_of m) ∷ decimal (legacy_of m) ∷ decimal (dyn_of m) ∷ parts_fields m.components

-- an opaque's size, alignments and dyn are 0 and nothing follows
abbrev pub opaque_fields : AnswerLine
opaque_fields = decimal 0 ∷ decimal 0 ∷ decimal 0 ∷ decimal 0 ∷ []

-- form `c` memory, `b` buffer, `o` opaque, `ab`, `ao` arrays of these; len is a handle array's, else 0
unfoldable pub layout_line : TypeLayout → AnswerLine
layout_line (Concrete m) = bytes "t" ∷ bytes "c" ∷ decimal 0 ∷ memory_fields m
layout_line (Handle (Buffer m)) = bytes "t" ∷ bytes "b" ∷ decimal 0 ∷ memory_fields m
layout_line (Handle Opaque) = bytes "t" ∷ bytes "o" ∷ decimal 0 ∷ opaque_fields
layout_line (HandleArray (Buffer m) len) = bytes "t" ∷ bytes "ab" ∷ decimal len ∷ memory_fields m
layout_line (HandleArray Opaque len) = bytes "t" ∷ bytes "ao" ∷ decimal len ∷ opaque_fields

-- ---- E: the T lines are equal

abbrev pub same_line : AnswerLine → AnswerLine → Bool
same_line [] [] = true
same_line [] (b ∷ bs) = false
same_line (a ∷ rest) [] = false
same_line (a ∷ rest) (b ∷ bs) = cond (same a b) (same_line rest bs) false

abbrev pub equal_line : TypeLayout → TypeLayout → AnswerLine
equal_line a b = cond (same_line (layout_line a) (layout_line b)) (bytes "y") (bytes "n") ∷ []

-- ---- C: `H,index`, `B`, `O,bytes`, `D,stride,length or 0,index`; an index is printed as given

abbrev pub index_field : Index → List ℕ
index_field (Known w) = decimal w
index_field (Unknown v) = code "v" ∷ decimal v

abbrev pub step_fields : QPtrOp → AnswerLine
step_fields (HandleArrayIndex i) = bytes "H" ∷ index_field i ∷ []
step_fields BufferData = bytes "B" ∷ []
step_fields (Offset z) = bytes "O" ∷ signed_decimal z ∷ []
step_fields (DynOffset stride bound i) = bytes "D" ∷ decimal stride ∷ decimal bound ∷ index_field i ∷ []

abbrev pub steps_fields : List QPtrOp → AnswerLine
steps_fields [] = []
steps_fields (s ∷ ss) = step_fields s ++ steps_fields ss

-- ---- L and X

abbrev pub length_line : ArrayLength → AnswerLine
length_line a = bytes "l" ∷ decimal a.offset ∷ decimal a.stride ∷ []

abbrev pub variable_line : Option MemLayout → AnswerLine
variable_line none = bytes "x" ∷ []
variable_line (some m) = bytes "x" ∷ decimal m.size ∷ decimal m.align ∷ decimal m.legacy_align ∷ []

-- ---- any question

-- what answers questions, by their letters: T and E, Q, C, L, X
pub record Source : Type 0 where
  pub layout : ℕ → Answer
  pub components : (type start end : ℕ) → Result (List ℕ)
  pub steps : ChainOp → (ptr : ℕ) → List Index → Result (List QPtrOp)
  pub array : (ptr member : ℕ) → Result ArrayLength
  pub memory : (ptr : ℕ) → Result (Option MemLayout)

unfoldable pub answer_by : Source → Question → Result AnswerLine
answer_by x (Question.T t) = do
  l ← x.layout t
  ok (layout_line l)
answer_by x (Question.E first second) = do
  a ← x.layout first
  b ← x.layout second
  ok (equal_line a b)
answer_by x (Question.Q t start end) = do
  found ← x.components t start end
  ok (bytes "q" ∷ map decimal found)
answer_by x (Question.C op ptr indices) = do
  steps ← x.steps op ptr indices
  ok (bytes "c" ∷ steps_fields steps)
answer_by x (Question.L ptr member) = do
  a ← x.array ptr member
  ok (length_line a)
answer_by x (Question.X ptr) = do
  m ← x.memory ptr
  ok (variable_line m)

abbrev pub of_sheet : Sheet → Source
of_sheet s = record { layout = answer_in s; components = lookup s; steps = lower_chain s; array = array_length s; memory = local_variable s }

-- by what the sheet says
abbrev pub answer : Sheet → Question → Result AnswerLine
answer s q = answer_by (of_sheet s) q

-- the line of a result; a refusal is `e,number`
abbrev pub result_line : Result AnswerLine → AnswerLine
result_line (ok line) = line
result_line (refused n) = bytes "e" ∷ decimal n ∷ []
