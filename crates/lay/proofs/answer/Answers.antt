-- The tables that are made ready answer as the sheet does, and a refusal is the sheet's.
use Rattle.std.proofs.Common.{OnOk, subst, sym, arith, rules}
use Rattle.std.specs.Io.KnownBytes.{Appends}
use Rattle.prepared.proofs.Output.{ready_tables, ready_refused}
use Rattle.lay.proofs.answer.Goals as goal

pub returns-in-Ok : goal.returns-in-Ok
returns-in-Ok g c =
    let few = c.prepare.auto.offsets in
    subst
    (λ text. OnOk c.write_answers.result (Appends (g.W.Write.contents c.args.out.now) (g.W.Write.contents c.write_answers.new.out) text))
    (ready_tables _ _ _ _ _ _ _ _ _ _ c.prepare.ensures (record { types = search rules; members = search rules; offsets = search rules; layouts = search rules }) (omega (arith, few)) c.in-Ok.field-0 c.in-Ok.is)
    c.write_answers.ensures

pub returns-in-Err : goal.returns-in-Err
returns-in-Err g c =
    subst
    (λ text. OnOk c.write_refusal.result (Appends (g.W.Write.contents c.args.out.now) (g.W.Write.contents c.write_refusal.new.out) text))
    (sym (ready_refused _ _ _ _ _ _ _ _ _ _ c.prepare.ensures (record { types = search rules; members = search rules; offsets = search rules; layouts = search rules }) c.in-Err.e c.in-Err.is))
    c.write_refusal.ensures
