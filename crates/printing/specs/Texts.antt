-- Document 01, program `lay`: the answer lines of the definitions, each as its text.
use Rattle.std.specs.Prelude.{ℕ, Bool, cond, List, [], ◌∷◌, map, Option, Some, None}
use Rattle.std.proofs.Math.Option.{none, some}
use Rattle.arith.specs.Refusals.{refused}
use Rattle.decimal.specs.Text.{bytes}
use Rattle.decimal.specs.Decimal.{decimal}
use Rattle.shapes.specs.declared.MemLayout.{MemLayout}
use Rattle.lower.specs.declared.QPtrOp.{QPtrOp}
use Rattle.answers.specs.Lines.{steps_fields, length_line, variable_line, result_line}
use Rattle.answers.specs.Output.{printed}

-- E
abbrev pub equal_text : Bool → List ℕ
equal_text same = printed (cond same (bytes "y") (bytes "n") ∷ [])

-- Q
abbrev pub components_text : List ℕ → List ℕ
components_text found = printed (bytes "q" ∷ map decimal found)

-- C
abbrev pub chain_text : List QPtrOp → List ℕ
chain_text steps = printed (bytes "c" ∷ steps_fields steps)

-- L
abbrev pub length_text : (offset stride : ℕ) → List ℕ
length_text offset stride = printed (length_line (record { offset = offset; stride = stride }))

-- X
abbrev pub variable_text : Option MemLayout → List ℕ
variable_text None = printed (variable_line none)
variable_text (Some m) = printed (variable_line (some m))

-- a refusal
abbrev pub refusal_text : ℕ → List ℕ
refusal_text n = printed (result_line (refused n))
