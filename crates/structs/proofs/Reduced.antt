-- What a struct's D lines come to, told from what the definition makes of them. Assumes nothing.
use Prim.Native.Nat.{ℕ}
use mathlib.Core.Path.{◌≡◌, refl, sym, ◌∙◌}
use mathlib.Core.Bool.{Bool, true, false, cond}
use mathlib.Core.List.{List}
use lib.Dec.{eqb}
use borrow.Author.Tests.{eqb-true, eqb-false}
use Rattle.arith.specs.Refusals.{ok, refused}
use Rattle.arith.proofs.Results.{value_is, number_is, never, not_both}
use Rattle.spirv.specs.Reduced.{Reduction, reduced}
use Rattle.spirv.specs.declared.MemberDecoration.{MemberDecoration}
use Rattle.reduction.proofs.Reduces.{reduces_right}
use Rattle.layout.specs.Structs.{given_offsets}

-- no refusal, and the offsets
pub record GivenBy (r : Reduction) (gs : List ℕ) : Type 0 where
  pub none_refused : r.refusal ≡ 0
  pub offsets_are : r.offsets ≡ gs

pub reduced_given : (ds : List MemberDecoration) (gs : List ℕ) → given_offsets 0 ds ≡ ok gs → GivenBy (reduced ds) gs
reduced_given ds gs h = by (eqb (reduced ds).refusal 0) refl (sym (reduces_right ds) ∙ h)
  where
    by : (t : Bool) → eqb (reduced ds).refusal 0 ≡ t → cond t (ok (reduced ds).offsets) (refused (reduced ds).refusal) ≡ ok gs → GivenBy (reduced ds) gs
    by true e g = record { none_refused = eqb-true (reduced ds).refusal 0 e; offsets_are = value_is g }
    by false e g = absurd (never g)

-- a refusal, which is no 0
pub record RefusedBy (r : Reduction) (n : ℕ) : Type 0 where
  pub by : r.refusal ≡ n
  pub some_refusal : n ≡ 0 → ⊥

pub reduced_refused : (ds : List MemberDecoration) (n : ℕ) → given_offsets 0 ds ≡ refused n → RefusedBy (reduced ds) n
reduced_refused ds n h = by (eqb (reduced ds).refusal 0) refl (sym (reduces_right ds) ∙ h)
  where
    by : (t : Bool) → eqb (reduced ds).refusal 0 ≡ t → cond t (ok (reduced ds).offsets) (refused (reduced ds).refusal) ≡ refused n → RefusedBy (reduced ds) n
    by true e g = absurd (not_both g)
    by false e g = let k = number_is g in record { by = k; some_refusal = λ z. eqb-false (reduced ds).refusal 0 e (k ∙ z) }
