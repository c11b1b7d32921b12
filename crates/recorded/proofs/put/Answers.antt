-- `recorded::put` meets its contract: the steps of a walk, or its refusal, or 24. Assumes nothing.
use Rattle.std.proofs.lemmas.Result.{err_from_is_err_and}
use Rattle.recorded.proofs.Laws.{put_refused, put_short, put_whole}
use Rattle.recorded.proofs.put.Goals as goal

pub returns-in_err-n : goal.returns-in_err-n
returns-in_err-n c =
    let p = err_from_is_err_and c.from_residual.result c.from_residual.ensures.1 in
    rw (p.1, p.2) (put_refused _ _ _ _ _ _ c.in_err-n.was)

pub returns-then-records-n : goal.returns-then-records-n
returns-then-records-n c = put_short _ _ _ _ _ _ c.in_ok-n.was c.if-records-n.true

pub returns : goal.returns
returns c = put_whole _ _ _ _ _ _ c.in_ok-n.was c.if-records-n.false c.write_records.ensures
