-- Where a chain starts: the place of an answer that is what the definitions say, whatever spans stand for.
use Rattle.std.specs.Prelude.{◌≡◌}
use Rattle.arith.specs.Refusals.{Result}
use Rattle.shapes.specs.Shapes.{TypeLayout}
use Rattle.shapes.specs.Spans.{Reading, Says}
use Rattle.arith.specs.InCode.{OrRefusal}
use Rattle.shapes.specs.declared.TypeLayout as code
use Rattle.places.specs.declared.Place.{Place}
use Rattle.places.specs.Places.{found_of}

pub record Starts (r : OrRefusal Place) (said : Reading → Result TypeLayout) : Type 0 where
  pub answer : OrRefusal code.TypeLayout
  pub found : r ≡ found_of answer
  pub says : Says answer said
