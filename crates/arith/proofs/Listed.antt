-- A list of known length is its elements, one by one: rows of six and of ten words alike. Assumes nothing.
use Prim.Native.Nat.{ℕ, zero, suc}
use native.Mathlib.Omega.{arith}
use mathlib.Core.Path.{◌≡◌, refl, ap}
use mathlib.Core.List.{List, [], ◌∷◌}
use lib.ListN.{length, get_or}

-- f 0, f 1 and so on, n in all
abbrev pub listed : (n : ℕ) → (ℕ → ℕ) → List ℕ
listed zero f = []
listed (suc n) f = f 0 ∷ listed n (λ i. f (suc i))

pub one_by_one : (n : ℕ) (ws : List ℕ) → length ws ≡ n → ws ≡ listed n (λ i. get_or ws i 0)
one_by_one zero [] h = refl
one_by_one zero (w ∷ ws) h = absurd (omega arith)
one_by_one (suc n) [] h = absurd (omega arith)
one_by_one (suc n) (w ∷ ws) h = ap (λ (l : List ℕ). w ∷ l) (one_by_one n ws (omega arith))
