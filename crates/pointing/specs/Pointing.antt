-- Document 01, program `lay`: the answers of C, L and X by what stands in tables of types and layouts.
use Rattle.std.specs.Prelude.{ℕ, ◌*◌, min, List, ◌∷◌, length, take}
use Rattle.std.proofs.Math.Option.{Option}
use Rattle.arith.specs.Refusals.{Result, ok, ◌>>=◌, in_room}
use Rattle.decimal.specs.Text.{bytes}
use Rattle.spirv.specs.declared.ChainOp.{ChainOp}
use Rattle.spirv.specs.declared.Index.{Index}
use Rattle.shapes.specs.declared.LayoutConfig.{LayoutConfig}
use Rattle.shapes.specs.declared.MemLayout.{MemLayout}
use Rattle.components.specs.Found.{answers_in}
use Rattle.lower.specs.declared.QPtrOp.{QPtrOp}
use Rattle.lower.specs.Chain.{chain_by}
use Rattle.lower.specs.Other.{variable_by}
use Rattle.pointers.specs.OverTables.{pointee_at, length_over}
use Rattle.answers.specs.Lines.{AnswerLine, steps_fields, length_line, variable_line}

-- the words of so many indices in front of a list, two each; of 255 at most
abbrev pub chain_words : (count : ℕ) → List ℕ → List ℕ
chain_words count list = take (min (2 * count) 510) list

module _ (n : ℕ) (types layouts offsets members : List ℕ) where
  -- C into lists of 256 places: 24 where there are more steps, which no sheet's tables have
  abbrev pub steps_in_room : LayoutConfig → ChainOp → (ptr : ℕ) → List Index → Result (List QPtrOp)
  steps_in_room cfg op ptr is = in_room 256 length (chain_by cfg (pointee_at types n) (answers_in layouts n offsets members) op ptr is)

  abbrev pub chain_reply : LayoutConfig → ChainOp → (ptr : ℕ) → List Index → Result AnswerLine
  chain_reply cfg op ptr is = do
    steps ← steps_in_room cfg op ptr is
    ok (bytes "c" ∷ steps_fields steps)

  abbrev pub length_reply : (ptr member : ℕ) → Result AnswerLine
  length_reply ptr member = do
    a ← length_over n types layouts offsets members ptr member
    ok (length_line a)

  abbrev pub variable_over : (ptr : ℕ) → Result (Option MemLayout)
  variable_over ptr = variable_by (pointee_at types n) (answers_in layouts n offsets members) ptr

  abbrev pub variable_reply : (ptr : ℕ) → Result AnswerLine
  variable_reply ptr = do
    m ← variable_over ptr
    ok (variable_line m)
