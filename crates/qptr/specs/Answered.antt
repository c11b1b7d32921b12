-- What C gets for a sheet: the text of `lay`, all of it or nothing, and one number for how that went.
use Rattle.std.specs.Prelude.{ℕ, ◌≡◌, List, ℤ, length}
use Rattle.arith.specs.Refusals.{Result, ok}
use Rattle.text.specs.Whole.{over, held, written, answered}
use Rattle.answers.specs.Output.{lay_output}
use Rattle.recorded.specs.Code.{code_of}

-- the text of a sheet, held in so many bytes
abbrev pub held_output : (room : ℕ) (sheet : List ℕ) → Result (List ℕ)
held_output room sheet = held room (ok (lay_output sheet))

pub record Answered (sheet old : List ℕ) (r : ℤ) (new : List ℕ) : Type 0 where
  pub says : r ≡ code_of (answered (held_output (length old) sheet))
  pub holds : new ≡ over (written (held_output (length old) sheet)) old
