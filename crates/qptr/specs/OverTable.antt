-- What C gets of a table: one number, and the lent list afterwards.
use Rattle.std.specs.Prelude.{ℕ, ◌≡◌, List, ℤ, length}
use Rattle.arith.specs.Refusals.{Result}
use Rattle.text.specs.Whole.{held, written, answered}
use Rattle.sheet.specs.Tables.{over}
use Rattle.reading.specs.Reads.{told, words_in}
use Rattle.lower.specs.declared.QPtrOp.{QPtrOp}
use Rattle.moves.specs.Written.{walk_of, steps_of}
use Rattle.wire.specs.Wire.{steps_bytes}
use Rattle.flat.specs.Table.{table_words}
use Rattle.flat.specs.Reads.{read_in}
use Rattle.tabled.specs.Chains.{chain_in, room_in}
use Rattle.recorded.specs.Code.{code_of}

-- ---- a sheet, read into a table

pub record TableRead (sheet : List ℕ) (r : ℤ) (old new : List ℕ) : Type 0 where
  pub says : r ≡ code_of (told (read_in (length old) sheet))
  pub words : new ≡ over (words_in table_words (read_in (length old) sheet)) old

-- ---- a chain, lowered over a table

abbrev pub chain_for : (table : List ℕ) (op ptr : ℕ) (indices old : List ℕ) → Result (List QPtrOp)
chain_for table op ptr indices old = chain_in (room_in old) table op ptr indices

pub record ChainLowered (table : List ℕ) (op ptr : ℕ) (indices : List ℕ) (r : ℤ) (old new : List ℕ) : Type 0 where
  pub says : r ≡ code_of (walk_of 0 (chain_for table op ptr indices old))
  pub holds : new ≡ over (steps_bytes (steps_of (chain_for table op ptr indices old))) old

-- ---- words, all of them or none, and how many

pub record Got (result : Result (List ℕ)) (r : ℤ) (old new : List ℕ) : Type 0 where
  pub says : r ≡ code_of (answered (held (length old) result))
  pub holds : new ≡ over (written (held (length old) result)) old
