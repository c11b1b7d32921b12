-- All that a theorem by computation unfolds of this crate and those below it, under one name. Made by tools/opened.
use Rattle.arith.proofs.Opened as of-arith
use Rattle.text.proofs.Opened as of-text
use Rattle.decimal.specs.Decimal as decimal
use Rattle.decimal.specs.Reading as reading
use Rattle.decimal.specs.Text as text

unfoldable pub opened : Unit {0}
unfolding of-arith.opened of-text.opened decimal.read_number decimal.decimal decimal.signed_decimal reading.with_digit text.split
opened = tt
