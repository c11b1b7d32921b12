-- What the code's results say of the definitions'. Assumes nothing.
use Prim.Native.Nat.{ℕ, zero, suc, ◌+◌}
use mathlib.Core.Path.{◌≡◌, refl, ap, ◌∙◌}
use mathlib.Core.List.{List, [], ◌∷◌}
use native.Mathlib.Numerals.{add-one}
use lib.ListN.{drop}
use lib.Seq.{drop-nil}
use Rattle.std.specs.Prelude.{Ok, Err}
use Rattle.std.specs.Result.{IsErr, IsErrAnd}
use Rattle.std.proofs.lemmas.Result.{err_from_is_err_and}
use Rattle.arith.specs.Refusals.{Result, ok, refused}
use Rattle.arith.specs.InCode.{OrRefusal, in_code}
use Rattle.arith.specs.declared.refusal.Refusal.{Refusal}
use Rattle.arith.proofs.Fitting.{err_is}
use Rattle.structs.specs.Steps.{mapped, rest}

-- the value that a result has in the definitions
pub record Mapped {A B : Type 0} (f : A → B) (r : Result A) (b : B) : Type 0 where
  pub value : A
  pub here : r ≡ ok value
  pub same : f value ≡ b

pub mapped_ok : {A B : Type 0} (f : A → B) (r : Result A) (b : B) → Ok b ≡ in_code (mapped f r) → Mapped f r b
mapped_ok f (ok a) b h = record { value = a; here = refl; same = cc }
mapped_ok f (refused n) b h = absurd cc

pub mapped_err : {A B : Type 0} (f : A → B) (r : Result A) (e : Refusal) → Err e ≡ in_code (mapped f r) → r ≡ refused e.number
mapped_err f (ok a) e h = absurd cc
mapped_err f (refused n) e h = let k : ◌≡◌ {A = Result ℕ} (refused n) (refused e.number) = err_is (refused n) e.number cc in cc

-- what is left of the offsets given
pub rest_drop : (l : List ℕ) (i : ℕ) → rest (drop i l) ≡ drop (i + 1) l
rest_drop l i = by l i ∙ rw (add-one i)
  where
    by : (l : List ℕ) (i : ℕ) → rest (drop i l) ≡ drop (suc i) l
    by [] i = rw (drop-nil {A = ℕ} i, drop-nil {A = ℕ} (suc i))
    by (a ∷ l) zero = refl
    by (a ∷ l) (suc i) = by l i

-- an error that `?` hands on
pub handed_on : {A : Type 0} {e : Refusal} (r : OrRefusal A) → IsErr r × IsErrAnd r (λ d. d ≡ e) → r ≡ Err e
handed_on r h = let p = err_from_is_err_and r h.1 in p.1 ∙ ap Err p.2
