-- All that a theorem by computation unfolds of this crate and those below it, under one name. Made by tools/opened.
use Rattle.arith.proofs.Opened as of-arith
use Rattle.text.specs.Whole as whole

unfoldable pub opened : Unit {0}
unfolding of-arith.opened whole.written whole.answered
opened = tt
