-- `pointing::variable_line` meets its contract: what the tables say picks the line that is printed. Assumes nothing.
use Rattle.std.proofs.Common.{sym, ◌∙◌}
use Rattle.arith.specs.Refusals.{◌>>=◌}
use Rattle.shapes.specs.Spans.{spans_of}
use Rattle.pointing.proofs.Laws.{variable_is, no_variable}
use Rattle.pointing.proofs.variable_line.Goals as goal

pub returns-in-Ok : goal.returns-in-Ok
returns-in-Ok c =
    λ offsets members. rw (← variable_is _ _ (sym (c.local_variable.ensures (spans_of offsets members)) ∙ c.in-Ok.is)) c.variable_line.ensures

pub returns-in-Err : goal.returns-in-Err
unfolding ◌>>=◌
returns-in-Err c =
    λ offsets members. rw (no_variable _ _ (sym (c.local_variable.ensures (spans_of offsets members)) ∙ c.in-Err.is)) c.refusal_line.ensures
