-- Document 02, n, "the second starting as op 65 from the type reached, at the handle and byte reached": the two parts of a split chain.
use Rattle.std.specs.Prelude.{ℕ, List, ℤ, ◌+ℤ◌}
use Rattle.std.proofs.Math.Option.{Option, none, some}
use Rattle.arith.specs.Refusals.{Result, ok}
use Rattle.spirv.specs.declared.ChainOp.TheVariants.{AccessChain}
use Rattle.spirv.specs.declared.Index.{Index}
use Rattle.sheet.specs.Sheet.{Sheet}
use Rattle.layout.specs.Layouts.{answer_in}
use Rattle.lower.specs.declared.QPtrOp.{QPtrOp}
use Rattle.lower.specs.Chain.{chain_by}
use Rattle.promise.specs.Meaning.{WhichHandle, own, chosen, Spot}
use Rattle.promise.specs.Walk.{type_no, Place, start}

-- the steps of a chain as op 65 from a type: as through a pointer to it
unfoldable pub lower_from_type : Sheet → (type : ℕ) → List Index → Result (List QPtrOp)
lower_from_type s t is = chain_by s.setting (λ u. ok u) (answer_in s) AccessChain t is

-- op 65's start at a type, but at the handle and byte reached
abbrev pub start_at : Sheet → (type : ℕ) → (reached : Spot) → Place
start_at s t reached = record { type = type_no t; spot = reached; memory = (start s AccessChain t).memory }

-- ---- where the second part is walked from a start of its own, with its own handle and byte 0: the two spots joined

-- the handle chosen last
abbrev pub later_handle : WhichHandle → WhichHandle → WhichHandle
later_handle first own = first
later_handle first (chosen z) = chosen z

-- bytes add up; a first part that ends on a handle has none
abbrev pub added_byte : Option ℤ → Option ℤ → Option ℤ
added_byte none second = second
added_byte (some x) none = none
added_byte (some x) (some y) = some (x +ℤ y)

abbrev pub joined : (first second : Spot) → Spot
joined first second = record { handle = later_handle first.handle second.handle; byte = added_byte first.byte second.byte }
