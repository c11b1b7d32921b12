-- `pointing::chain_line` meets its contract: the steps that the walk stored, or its refusal. Assumes nothing.
use Rattle.pointing.proofs.Chains.{steps_are, refusal_is}
use Rattle.pointing.specs.Pointing.{chain_words}
use Rattle.arith.specs.Refusals.{◌>>=◌}
use lib.ListN.{length, take, length-take}
use mathlib.Core.Path.{◌≡◌, ap, ◌∙◌}
use native.Mathlib.Omega.{arith}
use Prim.Native.Nat.{ℕ, ◌*◌, ◌≤◌, min}
use Rattle.pointing.proofs.chain_line.Goals as goal

pub returns-in-Ok : goal.returns-in-Ok
unfolding ◌>>=◌
returns-in-Ok c =
    let list = c.args.list.now in
    let chain : c.span-chain.result.now ≡ chain_words c.args.count list = c.span-chain.ensures ∙ ap (λ (w : ℕ). take w list) c.words_of.ensures in
    let short : length c.span-chain.result.now ≤ 510 = rw chain (omega (arith, length-take (min (2 * c.args.count) 510) list)) in
    rw (← chain, steps_are _ _ _ _ _ _ _ _ _ short c.lower_access_chain.ensures _ c.in-Ok.is (omega arith)) c.chain_line.ensures

pub returns-in-Err : goal.returns-in-Err
unfolding ◌>>=◌
returns-in-Err c =
    let list = c.args.list.now in
    let chain : c.span-chain.result.now ≡ chain_words c.args.count list = c.span-chain.ensures ∙ ap (λ (w : ℕ). take w list) c.words_of.ensures in
    let short : length c.span-chain.result.now ≤ 510 = rw chain (omega (arith, length-take (min (2 * c.args.count) 510) list)) in
    rw (← chain, refusal_is _ _ _ _ _ _ _ _ _ short c.lower_access_chain.ensures _ c.in-Err.is) c.refusal_line.ensures
