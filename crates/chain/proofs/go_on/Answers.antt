-- `chain::go_on` meets its contract: each move leads on as the definitions' walk. Assumes nothing.
use Rattle.std.proofs.Common.{rules, ◌≡◌, ◌+◌, ◌*◌, length, arith, Ok, Err, ap, length-drop}
use mathlib.Core.Path.{sym, ◌∙◌}
use Rattle.chain.proofs.Chains.{walk_ends, walk_goes, weight_most, entered}
use Rattle.chain.proofs.go_on.Goals as goal

pub returns-in_err-v : goal.returns-in_err-v
returns-in_err-v c =
    let s = c.in-Some.ensures.steps in
    let i = c.loop-k.invariant in
    let g = walk_goes _ _ _ _ _ _ c.loop-k.u c.loop-k.q _ _ (s.0.1.1 ∙ i.0) (sym i.1 ∙ s.0.1.0) c.index_of-i.ensures c.next_move.ensures c.in_err-v.was in
    let e : c.from_residual.result ≡ Err c.in_err-v.field-0.0 = search rules in
    rw e record { goes = i.4 ∙ g.goes; falls = tt }

pub loop-k-preserved : goal.loop-k-preserved
loop-k-preserved c =
    let s = c.in-Some.ensures.steps in
    let i = c.loop-k.invariant in
    let g = walk_goes _ _ _ _ _ _ c.loop-k.u c.loop-k.q _ _ (s.0.1.1 ∙ i.0) (sym i.1 ∙ s.0.1.0) c.index_of-i.ensures c.next_move.ensures (c.in_ok-v.was ∙ ap Ok c.in-Onward.is) in
    let next : c.args.from + 2 * c.next.new.self.count ≡ c.args.from + 2 * c.loop-k.k-iterator.count + 2 = omega (arith, s.2) in
    rw next (s.0.0 ∙ i.0, g.behind, g.fits, omega (arith, g.fits, i.3, weight_most c.in-Onward.v), i.4 ∙ g.goes)

pub returns-in-Emit : goal.returns-in-Emit
returns-in-Emit c =
    let s = c.in-Some.ensures.steps in
    let i = c.loop-k.invariant in
    let g = walk_goes _ _ _ _ _ _ c.loop-k.u c.loop-k.q _ _ (s.0.1.1 ∙ i.0) (sym i.1 ∙ s.0.1.0) c.index_of-i.ensures c.next_move.ensures (c.in_ok-v.was ∙ ap Ok c.in-Emit.is) in
    rw s.1 record { goes = i.4 ∙ g.goes; falls = (g.fits, omega (arith, g.fits, i.3, weight_most c.in-Emit.v)) }

pub returns-in-Inside : goal.returns-in-Inside
returns-in-Inside c =
    let s = c.in-Some.ensures.steps in
    let i = c.loop-k.invariant in
    let m = c.in_ok-v.was ∙ ap Ok c.in-Inside.is in
    let g = walk_goes _ _ _ _ _ _ c.loop-k.u c.loop-k.q _ _ (s.0.1.1 ∙ i.0) (sym i.1 ∙ s.0.1.0) c.index_of-i.ensures c.next_move.ensures m in
    rw s.1 record { goes = i.4 ∙ g.goes; falls = (i.2, omega (arith, i.3, entered _ _ _ c.loop-k.u _ _ _ (sym c.next_move.ensures ∙ m))) }

pub returns : goal.returns
returns c =
    let i = c.loop-k.invariant in
    let at = c.args.from + 2 * c.loop-k.k-iterator.count in
    let none = walk_ends _ _ _ _ _ at c.loop-k.u c.loop-k.q (omega (arith, c.in-None.ensures.steps.0.1.0, i.0, ap length i.1, length-drop at c.args.chain.now)) in
    record { goes = i.4 ∙ none; falls = tt }
