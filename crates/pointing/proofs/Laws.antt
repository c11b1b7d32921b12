-- From what X says in code to the line that shows it. Assumes nothing.
use Rattle.std.proofs.Common.{ℕ, ◌≡◌, refl, Ok, Err, Option, Some, None, ap, arith}
use Rattle.std.proofs.Math.Option as math
use Rattle.arith.specs.Refusals.{Result, ok, refused, ◌>>=◌}
use Rattle.arith.specs.InCode.{OrRefusal}
use Rattle.arith.specs.declared.refusal.Refusal.{Refusal}
use Rattle.shapes.specs.declared.MemLayout.{MemLayout}
use Rattle.answers.specs.Lines.{variable_line}
use Rattle.answers.specs.Output.{text_of}
use Rattle.printing.specs.Texts.{variable_text}
use Rattle.pointers.specs.InCode.{as_variable}

pub variable_is : (r : Result (math.Option MemLayout)) (m : Option MemLayout) → as_variable r ≡ Ok m → variable_text m ≡ text_of (r >>= λ m. ok (variable_line m))
unfolding ◌>>=◌
variable_is (ok math.none) None h = refl
variable_is (ok math.none) (Some k) h = absurd (let z : ◌≡◌ {A = ℕ} 0 1 = cc in omega arith)
variable_is (ok (math.some k)) None h = absurd (let z : ◌≡◌ {A = ℕ} 0 1 = cc in omega arith)
variable_is (ok (math.some k)) (Some m) h = let z : m ≡ k = cc in rw z
variable_is (refused e) m h = absurd (let z : ◌≡◌ {A = ℕ} 0 1 = cc in omega arith)

pub no_variable : (r : Result (math.Option MemLayout)) (e : Refusal) → as_variable r ≡ Err e → r ≡ refused e.number
no_variable (ok m) e h = absurd (let z : ◌≡◌ {A = ℕ} 0 1 = cc in omega arith)
no_variable (refused n) e h = let z : n ≡ e.number = ap number_in h in ap refused z
  where
    number_in : OrRefusal (Option MemLayout) → ℕ
    number_in (Ok m) = 0
    number_in (Err f) = f.number
