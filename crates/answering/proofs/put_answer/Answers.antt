-- `answering::put_answer` meets its contract: the line of the question's letter. Assumes nothing.
use Rattle.answers.specs.Lines.{answer_by}
use Rattle.answering.proofs.put_answer.Goals as goal

pub returns-in-T : goal.returns-in-T
unfolding answer_by
returns-in-T c = rw c.in-T.is (c.layout_line.ensures c.args.tables.now.layouts.members.now)

pub returns-in-E : goal.returns-in-E
unfolding answer_by
returns-in-E c = rw c.in-E.is (c.equal_line.ensures c.args.tables.now.layouts.members.now)

pub returns-in-Q : goal.returns-in-Q
unfolding answer_by
returns-in-Q c = rw c.in-Q.is c.components_line.ensures

pub returns-in-C : goal.returns-in-C
unfolding answer_by
returns-in-C c = rw c.in-C.is c.chain_line.ensures

pub returns-in-L : goal.returns-in-L
unfolding answer_by
returns-in-L c = rw c.in-L.is c.length_line.ensures

pub returns-in-X : goal.returns-in-X
unfolding answer_by
returns-in-X c = rw c.in-X.is (c.variable_line.ensures c.args.tables.now.layouts.offsets.now c.args.tables.now.layouts.members.now)
