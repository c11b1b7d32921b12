-- `lowering::start_array` meets its contract: the array of the type that is there. Assumes nothing.
use mathlib.Core.Path.{◌∙◌}
use Rattle.shapes.specs.Spans.{answer_by}
use Rattle.shapes.specs.Rows.{answer_at}
use Rattle.lowering.proofs.Chains.{by_element}
use Rattle.lowering.proofs.start_array.Goals as goal

pub returns : goal.returns
returns c = record { answer = c.runtime_array.result; found = c.found_of.ensures; says = record { by = λ f. (rw c.answer_at-a.ensures at (c.runtime_array.ensures.by f)) ∙ by_element _ (λ u. answer_by f (answer_at _ _ u)) _ } }
