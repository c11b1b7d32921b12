-- Document 01, "becomes a lent list of step records that the caller owns": a step as a record, and the lent list once a chain was lowered into it.
use Rattle.std.specs.Prelude.{ℕ, ◌≡◌, cond, List, ◌++◌, map, eqb, ℤ, pos, neg_ℤ, length as len, drop}
use Rattle.arith.specs.Refusals.{Result, ok, refused}
use Rattle.spirv.specs.declared.Index.{Index}
use Rattle.spirv.specs.declared.Index.TheVariants.{Known, Unknown}
use Rattle.spirv.specs.Rows.{index_by}
use Rattle.lower.specs.declared.QPtrOp.{QPtrOp}
use Rattle.lower.specs.declared.QPtrOp.TheVariants.{HandleArrayIndex, BufferData, Offset, DynOffset}
use Rattle.moves.specs.Written.{steps_of}
use Rattle.recorded.specs.declared.QPtrChainStep.{QPtrChainStep}

-- ---- to a record

-- an index is of kind 0 where it is known, of kind 1 where it is not
abbrev pub indexed : (op stride length : ℕ) → Index → QPtrChainStep
indexed op stride length (Known w) = record { op = op; bytes = pos 0; stride = stride; length = length; index_kind = 0; index = w }
indexed op stride length (Unknown v) = record { op = op; bytes = pos 0; stride = stride; length = length; index_kind = 1; index = v }

-- op 1 is H, 2 B, 3 O, 4 D; what a step does not have is 0
unfoldable pub record_of : QPtrOp → QPtrChainStep
record_of (HandleArrayIndex i) = indexed 1 0 0 i
record_of BufferData = record { op = 2; bytes = pos 0; stride = 0; length = 0; index_kind = 0; index = 0 }
record_of (Offset z) = record { op = 3; bytes = z; stride = 0; length = 0; index_kind = 0; index = 0 }
record_of (DynOffset stride bound i) = indexed 4 stride bound i

-- ---- and back

-- an op that is none of the four reads as B
unfoldable pub step_of : QPtrChainStep → QPtrOp
step_of r =
    cond (eqb r.op 1) (HandleArrayIndex (index_by r.index r.index_kind))
    (cond (eqb r.op 3) (Offset r.bytes)
    (cond (eqb r.op 4) (DynOffset r.stride r.length (index_by r.index r.index_kind))
    BufferData))

abbrev pub ReadsBack : Type 0
ReadsBack = (s : QPtrOp) → step_of (record_of s) ≡ s

-- ---- the lent list

-- how many steps, or minus the refusal
abbrev pub count_of : Result (List QPtrOp) → ℤ
count_of (ok steps) = pos (len steps)
count_of (refused e) = neg_ℤ (pos e)

-- the steps as records in front of what the list held; a refusal leaves it as it was
abbrev pub records_over : List QPtrOp → List QPtrChainStep → List QPtrChainStep
records_over steps old = map record_of steps ++ drop (len steps) old

pub record Recorded (result : Result (List QPtrOp)) (r : ℤ) (old new : List QPtrChainStep) : Type 0 where
  pub says : r ≡ count_of result
  pub holds : new ≡ records_over (steps_of result) old
