-- `replies::components_line` meets its contract: what the tables answer picks the line that is printed. Assumes nothing.
use mathlib.Core.Path.{sym}
use lib.Seq.{length-take-le}
use Rattle.arith.specs.Refusals.{◌>>=◌}
use Rattle.replies.proofs.Laws.{found_as, refused_as}
use Rattle.replies.proofs.components_line.Goals as goal

pub slice_bounds-found-end : goal.slice_bounds-found-end
slice_bounds-found-end c = (found_as _ _ c.find_components_containing.ensures _ c.in-Ok.is).fits

pub slice_bounds-components_line-end : goal.slice_bounds-components_line-end
slice_bounds-components_line-end c = sym (length-take-le _ _ (found_as _ _ c.find_components_containing.ensures _ c.in-Ok.is).fits)

pub returns-in-Ok : goal.returns-in-Ok
unfolding ◌>>=◌
returns-in-Ok c = rw (found_as _ _ c.find_components_containing.ensures _ c.in-Ok.is).found c.components_line.ensures

pub returns-in-Err : goal.returns-in-Err
unfolding ◌>>=◌
returns-in-Err c = rw (refused_as _ _ c.find_components_containing.ensures _ c.in-Err.is) c.refusal_line.ensures
