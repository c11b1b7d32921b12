-- Document 01, "The refusals", C: 18, layout, the walk's 19 to 23 as met, 24; and the start of OpPtrAccessChain.
use Rattle.std.specs.Prelude.{ℕ, List, length, None}
use Rattle.arith.specs.Refusals.{Result, ◌>>=◌, in_room}
use Rattle.spirv.specs.declared.ChainOp.{ChainOp}
use Rattle.spirv.specs.declared.ChainOp.TheVariants.{AccessChain, InBoundsAccessChain, PtrAccessChain, InBoundsPtrAccessChain}
use Rattle.spirv.specs.declared.Index.{Index}
use Rattle.shapes.specs.declared.LayoutConfig.{LayoutConfig}
use Rattle.sheet.specs.Sheet.{Sheet, pointee_in}
use Rattle.layout.specs.Arrays.{Answer}
use Rattle.layout.specs.Layouts.{answer_in, runtime_array_by}
use Rattle.lower.specs.declared.QPtrOp.{QPtrOp}
use Rattle.lower.specs.Steps.{lower_from}

-- 65 and 66 start from the pointee, 67 and 70 from an undecorated runtime array of it
unfoldable pub start_layout : LayoutConfig → (answer-of : ℕ → Answer) → ChainOp → (pointee : ℕ) → Answer
start_layout cfg answer-of AccessChain t = answer-of t
start_layout cfg answer-of InBoundsAccessChain t = answer-of t
start_layout cfg answer-of PtrAccessChain t = runtime_array_by cfg answer-of t
start_layout cfg answer-of InBoundsPtrAccessChain t = runtime_array_by cfg answer-of t

-- `try_lower_access_chain`: the steps of a chain, by what a pointer points to and what a type answers
unfoldable pub chain_by : LayoutConfig → (pointee-of : ℕ → Result ℕ) → (answer-of : ℕ → Answer) → ChainOp → (ptr : ℕ) → List Index → Result (List QPtrOp)
chain_by cfg pointee-of answer-of op ptr is = do
  t ← pointee-of ptr
  l ← start_layout cfg answer-of op t
  lower_from answer-of l None is

-- by what the sheet says
abbrev pub lower_chain : Sheet → ChainOp → (ptr : ℕ) → List Index → Result (List QPtrOp)
lower_chain s op ptr is = chain_by s.setting (pointee_in s) (answer_in s) op ptr is

-- and 24
unfoldable pub chain_in_room : (room : ℕ) → Sheet → ChainOp → (ptr : ℕ) → List Index → Result (List QPtrOp)
chain_in_room room s op ptr is = in_room room length (lower_chain s op ptr is)
