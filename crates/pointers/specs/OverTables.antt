-- C, L and X of document 01 over the tables: a pointer's row tells its pointee, and the rows of layouts what a type answers.
use Rattle.std.specs.Prelude.{ℕ, cond, List, Option, Some, None, ltb, length}
use Rattle.arith.specs.Refusals.{Result, refused, ◌>>=◌, ◌>>◌, refuse◌when◌, refuse◌unless◌, in_room, misread, oversize}
use Rattle.spirv.specs.Decl.{pointee_of}
use Rattle.spirv.specs.Rows.{row_at}
use Rattle.spirv.specs.declared.ChainOp.{ChainOp}
use Rattle.spirv.specs.declared.DeclRow.{DeclRow}
use Rattle.shapes.specs.declared.LayoutConfig.{LayoutConfig}
use Rattle.shapes.specs.Shapes.{TypeLayout}
use Rattle.layout.specs.Arrays.{Answer}
use Rattle.components.specs.Found.{answers_in}
use Rattle.lower.specs.declared.QPtrOp.{QPtrOp}
use Rattle.lower.specs.Chain.{start_layout, chain_by}
use Rattle.lower.specs.Other.{ArrayLength, buffer_of, length_in, length_by}
use Rattle.moves.specs.Moves.{indices_in}

-- ---- the pointee

abbrev pub pointee_of_row : Option DeclRow → Result ℕ
pointee_of_row (Some r) = pointee_of r.ty
pointee_of_row None = refused misread

-- of the first n types
unfoldable pub pointee_at : (types : List ℕ) (n ptr : ℕ) → Result ℕ
pointee_at types n ptr = cond (ltb ptr n) (pointee_of_row (row_at types ptr)) (refused misread)

-- what a chain starts from
abbrev pub start_by : LayoutConfig → (pointee-of : ℕ → Result ℕ) → (answer-of : ℕ → Answer) → ChainOp → (ptr : ℕ) → Answer
start_by cfg pointee-of answer-of op ptr = pointee-of ptr >>= λ t. start_layout cfg answer-of op t

-- ---- C: 1 where there is no such type, 2 for more than 255 indices, then the chain's own refusals, and 24

unfoldable pub chain_over : (room : ℕ) → LayoutConfig → (n : ℕ) (types layouts offsets members : List ℕ) → ChainOp → (ptr : ℕ) → (chain : List ℕ) → Result (List QPtrOp)
chain_over room cfg n types layouts offsets members op ptr chain = do
  refuse misread unless ltb ptr n
  refuse oversize when ltb 510 (length chain)
  in_room room length (chain_by cfg (pointee_at types n) (answers_in layouts n offsets members) op ptr (indices_in chain))

-- ---- L

-- of a layout's member
abbrev pub length_of : (answer-of : ℕ → Answer) → TypeLayout → (member : ℕ) → Result ArrayLength
length_of answer-of l member = buffer_of l >>= λ m. length_in answer-of m member

abbrev pub length_over : (n : ℕ) (types layouts offsets members : List ℕ) → (ptr member : ℕ) → Result ArrayLength
length_over n types layouts offsets members ptr member = length_by (pointee_at types n) (answers_in layouts n offsets members) ptr member
