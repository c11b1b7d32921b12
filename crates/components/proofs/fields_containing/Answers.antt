-- `components::fields_containing` meets its contract, by a turn of the walk. Assumes nothing.
use Rattle.std.proofs.Common.{ℕ, ◌≡◌, length, arith, sym, ap, ◌∙◌}
use mathlib.Core.Logic.{◌⊎◌, inl, inr}
use Rattle.components.proofs.Walk.{turn_hit, turn_miss, fields_over}
use Rattle.shapes.specs.Rows.{answer_at}
use Rattle.shapes.specs.Spans.{answer_by}
use Rattle.components.proofs.fields_containing.Goals as goal

pub loop-i-preserved-then-field_holds : goal.loop-i-preserved-then-field_holds
loop-i-preserved-then-field_holds c =
    let a = c.args in
    let l = c.loop-i in
    let s = c.in-Some.ensures.steps in
    let fewer = ap length s.0.0 in
    record {
      few = omega (arith, s.2, l.invariant.few);
      left = omega (arith, s.2, fewer, l.invariant.left);
      whole = λ f. rw (c.put_word.ensures, s.2, s.1)
          (turn_hit (λ t. answer_by f (answer_at a.layouts.now.rows.now a.layouts.now.count t)) a.range.now.start a.range.now.end _ _ _ _ _ _ _ l.count l.out s.0.0 s.0.1
          (sym (c.if-field_holds.ensures f ∙ rw c.answer_at.ensures)) ∙ l.invariant.whole f);
    }

pub loop-i-preserved : goal.loop-i-preserved
loop-i-preserved c =
    let a = c.args in
    let l = c.loop-i in
    let s = c.in-Some.ensures.steps in
    let fewer = ap length s.0.0 in
    record {
      few = omega (arith, s.2, l.invariant.few);
      left = omega (arith, s.2, fewer, l.invariant.left);
      whole = λ f. rw s.2
          (turn_miss (λ t. answer_by f (answer_at a.layouts.now.rows.now a.layouts.now.count t)) a.range.now.start a.range.now.end _ _ _ _ _ _ _ l.count l.out s.0.0 s.0.1
          (sym (c.if-field_holds.ensures f ∙ rw c.answer_at.ensures)) ∙ l.invariant.whole f);
    }

pub returns : goal.returns
returns c =
    let a = c.args in
    let l = c.loop-i in
    λ f. fields_over (λ t. answer_by f (answer_at a.layouts.now.rows.now a.layouts.now.count t)) a.range.now.start a.range.now.end _ _ _ l.count l.out (over c.in-None.ensures.steps.0) ∙ l.invariant.whole f
  where
    over : {A B : Type 0} {p q : ℕ} {P : A → Type 0} {Q : B → Type 0} → ((x : A) × ((p ≡ 0) × P x)) ⊎ ((x : B) × ((q ≡ 0) × Q x)) → (p ≡ 0) ⊎ (q ≡ 0)
    over (inl h) = inl h.1.0
    over (inr h) = inr h.1.0
