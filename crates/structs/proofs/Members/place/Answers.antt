-- `structs::Members::place` meets its contract: where offsets are given, there is one a member. Assumes nothing.
use Rattle.std.proofs.Common.{sym, ◌∙◌}
use Rattle.std.proofs.lemmas.Bool.{eqb-true, eqb-false}
use mathlib.Core.Logic.{inl, inr}
use Rattle.structs.proofs.Memory.{placed_by, not_placed}
use Rattle.structs.proofs.Members.place.Goals.{then-count-eq0, else-count-eq0}
use Rattle.structs.proofs.Members.place.Goals as goal

pub returns-then-count-self : goal.returns-then-count-self
returns-then-count-self c =
    placed_by _ _ _ _ _
    (elim c.if-count-eq0.branch [
      | then-count-eq0 w ↦ inl w.if-count-eq0.true
      | else-count-eq0 w ↦ inr (eqb-true _ _ (sym w.value-is ∙ c.if-count-self.true))
    ])
    c.extent.ensures

pub returns-else-count-self : goal.returns-else-count-self
returns-else-count-self c =
    elim c.if-count-eq0.branch [
      | then-count-eq0 w ↦ absurd (eqb-false _ _ (sym w.value-is ∙ c.if-count-self.false) w.if-count-eq0.true)
      | else-count-eq0 w ↦ not_placed _ _ _ _ w.if-count-eq0.false (eqb-false _ _ (sym w.value-is ∙ c.if-count-self.false))
    ]
