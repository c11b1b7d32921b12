-- Document 01, the third demand, from a sheet's bytes to a lent list of step records, through one table: `end_to_end`; and that the records are the steps that the bytes of `lower_chain` hold: `same_steps`.
use Rattle.std.specs.Prelude.{ℕ, ◌*◌, ◌≤◌, ◌≡◌, List, Some, Ok, map, ℤ, pos, length, take}
use Rattle.arith.specs.Refusals.{ok}
use Rattle.arith.specs.InCode.{OrRefusal}
use Rattle.spirv.specs.declared.ChainOp.{ChainOp}
use Rattle.spirv.specs.declared.Index.{Index}
use Rattle.sheet.specs.Sheet.{Sheet, max_indices, read_sheet}
use Rattle.lower.specs.declared.QPtrOp.{QPtrOp}
use Rattle.lower.specs.Chain.{chain_in_room}
use Rattle.wire.specs.Wire.{indices_of, steps_bytes}
use Rattle.flat.specs.Reads.{ReadsTable}
use Rattle.tabled.specs.Chains.{op_of, chain_in, room_in, Lowered}
use Rattle.tabled.specs.EndToEnd.{KeptSteps}
use Rattle.recorded.specs.declared.QPtrChainStep.{QPtrChainStep}
use Rattle.recorded.specs.Records.{record_of, step_of, Recorded}
use Rattle.recorded.specs.Code.{code_of}

-- ---- end to end

-- the lists that two calls were lent, and what they held afterwards, as the contracts of these calls say
pub record Calls (input : List ℕ) (op ptr : ℕ) (chain : List ℕ) : Type 0 where
  -- `read_table` read the bytes and answered n types
  pub table₀ : List ℕ
  pub table : List ℕ
  pub n : ℕ
  pub read : ReadsTable input (Ok n) table₀ table
  -- `lower_access_chain` gave this answer
  pub old : List QPtrChainStep
  pub new : List QPtrChainStep
  pub answer : ℤ
  pub lowered : Recorded (chain_in (length old) table op ptr chain) answer old new

-- the first `count` records are steps, and are read as these; and the steps keep demand 3 for the op and the indices that were asked
pub record KeptRecords (s : Sheet) (op ptr : ℕ) (chain : List ℕ) (records : List QPtrChainStep) (count : ℕ) : Type 0 where
  pub steps : List QPtrOp
  pub many : length steps ≡ count
  pub records_of : take count records ≡ map record_of steps
  pub read_as : map step_of (take count records) ≡ steps
  pub kept : KeptSteps s op ptr chain steps

-- the answer and the records are those of document 01's C for the sheet that the bytes are, in the room that the caller lends; where the answer is
-- a count, that many records stand there, and they keep demand 3; else nothing was written
pub record Carried (input : List ℕ) (op ptr : ℕ) (chain : List ℕ) (c : Calls input op ptr chain) : Type 0 where
  pub sheet : Sheet
  pub is_sheet : read_sheet input ≡ ok sheet
  pub types : c.n ≡ length sheet.types
  pub answered : (o : ChainOp) (is : List Index) → op_of op ≡ Some o → indices_of chain ≡ ok is → length is ≤ max_indices
      → Recorded (chain_in_room (length c.old) sheet o ptr is) c.answer c.old c.new
  pub kept : (count : ℕ) → c.answer ≡ pos count → KeptRecords sheet op ptr chain c.new count
  pub untouched : ((count : ℕ) → c.answer ≡ pos count → ⊥) → c.new ≡ c.old

abbrev pub EndToEnd : Type 0
EndToEnd = (input : List ℕ) (op ptr : ℕ) (chain : List ℕ) (c : Calls input op ptr chain) → Carried input op ptr chain c

-- ---- the bytes of `lower_chain`

-- the same answer, and where it is a count, the same steps
pub record Same (w : OrRefusal ℕ) (bytes : List ℕ) (answer : ℤ) (records : List QPtrChainStep) : Type 0 where
  pub says : answer ≡ code_of w
  pub steps : (n : ℕ) → w ≡ Ok n → take (20 * n) bytes ≡ steps_bytes (map step_of (take n records))

-- of the same table, op, type and indices, in the same room
abbrev pub SameSteps : Type 0
SameSteps = (table : List ℕ) (op ptr : ℕ) (chain : List ℕ) (w : OrRefusal ℕ) (bytes bytes' : List ℕ) (answer : ℤ) (old new : List QPtrChainStep) → room_in bytes ≡ length old
    → Lowered (chain_in (room_in bytes) table op ptr chain) w bytes bytes' → Recorded (chain_in (length old) table op ptr chain) answer old new → Same w bytes' answer new
