-- All that a theorem by computation unfolds of this crate and those below it, under one name. Made by tools/opened.
use Rattle.arith.proofs.Opened as of-arith
use Rattle.text.proofs.Opened as of-text
use Rattle.spirv.proofs.Opened as of-spirv
use Rattle.lower.proofs.Opened as of-lower
use Rattle.steps.specs.Lists as lists
use Rattle.steps.specs.Words as words

unfoldable pub opened : Unit {0}
unfolding of-arith.opened of-text.opened of-spirv.opened of-lower.opened lists.step_at lists.steps_in words.encode words.decode
opened = tt
