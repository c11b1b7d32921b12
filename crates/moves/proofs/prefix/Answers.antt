-- `moves::prefix` meets its contract: the step, and what waits before it. Assumes nothing.
use mathlib.Core.Path.{refl}
use mathlib.Core.List.{[], ◌∷◌}
use mir.Syntax.{w32}
use mir.Val.{SFits}
use mir.ValLaws.{to_z-of_z}
use Rattle.std.proofs.Common.{rules, ◌≡◌, Ok}
use Rattle.lower.specs.declared.QPtrOp.TheVariants.{Offset}
use Rattle.steps.proofs.Stored.{in_front}
use Rattle.moves.proofs.prefix.Goals as goal

pub returns-in-Some : goal.returns-in-Some
returns-in-Some c =
    let fits : SFits w32 c.in-Some.z = search rules in
    let e : c.args.r ≡ Ok c.in_ok-total.total = search rules in
    rw (e, c.in-Some.is) record {
      says = refl;
      stored = in_front (Offset _ ∷ []) (_ ∷ []) _ _ _ _ _ _ _ _ _ _ _ _ _ _ _ _ c.store-in-Some.ensures (simp (to_z-of_z w32 _ fits) at c.store-in-Some-2.ensures);
    }
