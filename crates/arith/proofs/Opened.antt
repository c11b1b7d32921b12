-- All that a theorem by computation unfolds of this crate and those below it, under one name. Made by tools/opened.
use Rattle.arith.specs.InCode as incode
use Rattle.arith.specs.Numbers as numbers
use Rattle.arith.specs.Options as options
use Rattle.arith.specs.Refusals as refusals

unfoldable pub opened : Unit {0}
unfolding incode.as_i32 numbers.fit numbers.round_up numbers.is_power_of_two numbers.signed numbers.is_i32 options.◌>>=◌ refusals.◌>>=◌ refusals.◌>>◌ refusals.refuse◌when◌ refusals.refuse◌unless◌ refusals.in_room
opened = tt
