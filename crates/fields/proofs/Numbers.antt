-- A number that was read, in what else a field says. Assumes nothing.
use Rattle.std.proofs.Common.{◌≡◌, ℕ, List, [], ◌∷◌, ◌⊎◌, Bool, true, false, cond, ◌&&◌, eqb, take, drop, inl, inr, refl}
use Rattle.std.specs.Prelude.{Some, None}
use Rattle.std.specs.Cmp.Lexicographic.{pointwise}
use Rattle.std.proofs.Math.Option.{Option, some, none}
use Rattle.arith.specs.Options.{◌>>=◌}
use Rattle.arith.specs.InCode.{as_option}
use Rattle.decimal.specs.Decimal.{read_number}
use Rattle.spirv.specs.declared.Index.TheVariants.{Known, Unknown}
use Rattle.sheet.specs.Fields.{read_index}

cases : {B : Type 0} (o : Option ℕ) (k : ℕ → Option B) → ((as_option o ≡ None) × ((o >>= k) ≡ none)) ⊎ ((n : ℕ) × (as_option o ≡ Some n) × ((o >>= k) ≡ k n))
unfolding ◌>>=◌
cases none k = inl (refl, refl)
cases (some n) k = inr (n, refl, refl)

-- what follows a number goes on with it, or ends where there is none
pub number_cases : {B : Type 0} (f : List ℕ) (k : ℕ → Option B) → ((as_option (read_number f) ≡ None) × ((read_number f >>= k) ≡ none)) ⊎ ((n : ℕ) × (as_option (read_number f) ≡ Some n) × ((read_number f >>= k) ≡ k n))
number_cases f k = cases (read_number f) k

no_number : read_number [] ≡ none
unfolding read_number
no_number = refl

same_choice : {A : Type 0} (t : Bool) (x y : A) → cond t x y ≡ cond (t && true) x y
same_choice true x y = refl
same_choice false x y = refl

-- an index by the `v` that it begins with or doesn't
pub index_by : (f : List ℕ) → read_index f ≡ cond (pointwise eqb (take 1 f) (118 ∷ [])) (read_number (drop 1 f) >>= λ n. some (Unknown n)) (read_number f >>= λ n. some (Known n))
unfolding read_index ◌>>=◌
index_by [] = rw no_number refl
index_by (b ∷ f) = same_choice (eqb b 118) _ _

pub ruleset indices = (number_cases, index_by)
