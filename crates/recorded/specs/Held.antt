-- What the code has of a lowered chain before C gets a number: how many steps, or the refusal, and the lent list.
use Rattle.std.specs.Prelude.{ℕ, ◌≡◌, List}
use Rattle.arith.specs.Refusals.{Result}
use Rattle.arith.specs.InCode.{OrRefusal}
use Rattle.lower.specs.declared.QPtrOp.{QPtrOp}
use Rattle.moves.specs.Written.{walk_of, steps_of}
use Rattle.recorded.specs.declared.QPtrChainStep.{QPtrChainStep}
use Rattle.recorded.specs.Records.{records_over}

pub record Held (result : Result (List QPtrOp)) (r : OrRefusal ℕ) (old new : List QPtrChainStep) : Type 0 where
  pub says : r ≡ walk_of 0 result
  pub holds : new ≡ records_over (steps_of result) old
