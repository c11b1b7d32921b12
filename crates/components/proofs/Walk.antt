-- One turn of a walk over the fields from number i on, and what is found and written. Assumes nothing.
use Prim.Native.Nat.{ℕ, suc, ◌+◌}
use mathlib.Core.Path.{◌≡◌, refl}
use mathlib.Core.Bool.{true, false}
use mathlib.Core.List.{List, [], ◌∷◌}
use native.Mathlib.Omega.{arith}
use native.Mathlib.Numerals.{add-one}
use mathlib.Core.Logic.{◌⊎◌, inl, inr}
use lib.ListN.{length, set}
use lib.Seq.{sets}
use Rattle.layout.specs.Arrays.{Answer}
use Rattle.layout.specs.Lookup.{field_holds, memory_passes, fields_holding}
use Rattle.arith.specs.Pairs.{both}

module _ (answer-of : ℕ → Answer) (start end : ℕ) where
  abbrev from : (offsets types : List ℕ) → ℕ → List ℕ
  from os ts i = fields_holding answer-of os ts i start end

  module _ (os ts os' ts' : List ℕ) (o t i n : ℕ) (out : List ℕ) (a : os ≡ o ∷ os') (b : ts ≡ t ∷ ts') where
    -- a field that holds the range is written, and counts
    pub turn_hit : memory_passes (field_holds o start end) (answer-of t) ≡ true
        → ◌≡◌ {A = ℕ × List ℕ} (both (n + 1 + length (from os' ts' (i + 1))) (sets (set out n i) (n + 1) (from os' ts' (i + 1)))) (both (n + length (from os ts i)) (sets out n (from os ts i)))
    unfolding fields_holding
    turn_hit h =
        let e : n + suc (length (from os' ts' (suc i))) ≡ n + 1 + length (from os' ts' (suc i)) = omega arith in
        rw (a, b, h, add-one i, e, add-one n)

    -- another doesn't
    pub turn_miss : memory_passes (field_holds o start end) (answer-of t) ≡ false
        → ◌≡◌ {A = ℕ × List ℕ} (both (n + length (from os' ts' (i + 1))) (sets out n (from os' ts' (i + 1)))) (both (n + length (from os ts i)) (sets out n (from os ts i)))
    unfolding fields_holding
    turn_miss h = rw (a, b, h, add-one i)

  -- where no offset or no type is left nothing is found
  pub fields_over : (os ts : List ℕ) (i n : ℕ) (out : List ℕ) → (length os ≡ 0) ⊎ (length ts ≡ 0) → ◌≡◌ {A = ℕ × List ℕ} (both n out) (both (n + length (from os ts i)) (sets out n (from os ts i)))
  unfolding fields_holding
  fields_over os ts i n out h = go (none os ts h)
    where
      none : (os ts : List ℕ) → (length os ≡ 0) ⊎ (length ts ≡ 0) → from os ts i ≡ []
      none [] ts h = refl
      none (o ∷ os) [] h = refl
      none (o ∷ os) (t ∷ ts) (inl h) = absurd (omega arith)
      none (o ∷ os) (t ∷ ts) (inr h) = absurd (omega arith)

      go : from os ts i ≡ [] → ◌≡◌ {A = ℕ × List ℕ} (both n out) (both (n + length (from os ts i)) (sets out n (from os ts i)))
      go h = let e : n + 0 ≡ n = omega arith in rw (h, e)
