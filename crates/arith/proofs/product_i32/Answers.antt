-- `arith::product_i32` meets its contract: the product fits an i64. Assumes nothing.
use mathlib.Core.Path.{◌∙◌}
use mir.Syntax.{w32, w64}
use mir.ValLaws.{to_z-of_z}
use Rattle.arith.proofs.Whole.{wider, word_widened, products_fit, ok_i32}
use Rattle.arith.proofs.product_i32.Goals as goal

pub returns : goal.returns
returns c =
    let fits = products_fit c.args.stride c.args.index c.ranges.stride.fits c.ranges.index in
    let e = rw (c.from.ensures, c.from-2.ensures, to_z-of_z w32 _ c.ranges.index, to_z-of_z w64 _ (wider c.ranges.index), word_widened c.args.stride c.ranges.stride.fits, to_z-of_z w64 _ fits) at c.try_from.ensures in
    c.ok.ensures.value ∙ ok_i32 _ _ e
