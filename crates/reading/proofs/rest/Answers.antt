-- `reading::rest` meets its contract.
use Rattle.std.proofs.Common.{rules, ◌≡◌, sym, Err}
use Rattle.reading.proofs.Reached.{putable, stopped, ended, refusal, onward, written, passed_over}
use Rattle.reading.proofs.rest.Goals.{then-write, else-write}
use Rattle.reading.proofs.rest.Goals as goal

pub returns-in_err-next : goal.returns-in_err-next
returns-in_err-next c = let e : c.from_residual.result ≡ Err c.in_err-next.field-0.0 = search rules in rw e (stopped c.loop-line.invariant (refusal c.loop-line.invariant c.in-Some.ensures _ c.read_line-l.ensures (sym c.in_err-next.ensures)))

pub put-requires : goal.put-requires
put-requires c = putable c.loop-line.invariant c.requires.0 _ (sym c.in_ok-next.ensures)

pub loop-line-preserved : goal.loop-line-preserved
loop-line-preserved c = elim c.if-write.branch [
  | then-write w ↦ rw (w.types-is, w.members-is, w.given-is) (onward c.loop-line.invariant c.in-Some.ensures _ c.read_line-l.ensures (sym c.in_ok-next.ensures) (written w.if-write.true w.put.ensures))
  | else-write w ↦ rw (w.types-is, w.members-is, w.given-is) (onward c.loop-line.invariant c.in-Some.ensures _ c.read_line-l.ensures (sym c.in_ok-next.ensures) (passed_over w.if-write.false))
]

pub returns : goal.returns
returns c = ended c.loop-line.invariant c.in_default.ensures c.finished.ensures
