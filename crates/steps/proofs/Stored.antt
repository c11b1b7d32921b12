-- Steps stored behind others, and others in front of them, are all stored. Assumes nothing.
use Prim.Native.Nat.{ℕ, suc, ◌+◌, ◌≤◌}
use native.Mathlib.Omega.{arith}
use native.Mathlib.Nat.{suc-add}
use mathlib.Core.Path.{◌≡◌, refl, sym, ap, ◌∙◌}
use mathlib.Core.List.{List, [], ◌∷◌, ◌++◌, map-append}
use lib.ListN.{length, set, length-map}
use lib.Seq.{sets}
use Rattle.arith.proofs.Stores.{sets_append, set_before}
use Rattle.lower.specs.declared.QPtrOp.{QPtrOp}
use Rattle.steps.specs.declared.StepWords.{StepWords}
use Rattle.steps.specs.Words.{encode}
use Rattle.steps.specs.Lists.{column}
use Rattle.steps.specs.Stored.{StoredAt}

sets_before : (a b l : List ℕ) (i j : ℕ) → i + length a ≤ j → sets (sets l j b) i a ≡ sets (sets l i a) j b
sets_before [] b l i j h = refl
sets_before (x ∷ xs) b l i j h =
    ap (λ (y : List ℕ). sets y (suc i) xs) (set_before b l i j x (omega arith)) ∙ sets_before xs b (set l i x) (suc i) j (omega (arith, suc-add i (length xs)))

-- one column
stored_column : (f : StepWords → ℕ) (a b : List QPtrOp) (n : ℕ) (l m r : List ℕ) → m ≡ sets l (n + length a) (column f b) → r ≡ sets m n (column f a) → r ≡ sets l n (column f (a ++ b))
stored_column f a b n l m r h g =
    let long : length (column f a) ≡ length a = length-map a (λ s. f (encode s)) in
    g ∙ ap (λ (y : List ℕ). sets y n (column f a)) h
    ∙ sets_before (column f a) (column f b) l n (n + length a) (omega arith)
    ∙ ap (λ (k : ℕ). sets (sets l n (column f a)) (n + k) (column f b)) (sym long)
    ∙ sym (sets_append l n (column f a) (column f b))
    ∙ ap (sets l n) (sym (map-append (λ s. f (encode s)) a b))

pub in_front : (a b : List QPtrOp) (n : ℕ) (k₀ b₀ l₀ m₀ i₀ k₁ b₁ l₁ m₁ i₁ k₂ b₂ l₂ m₂ i₂ : List ℕ) → StoredAt (n + length a) b k₀ b₀ l₀ m₀ i₀ k₁ b₁ l₁ m₁ i₁
    → StoredAt n a k₁ b₁ l₁ m₁ i₁ k₂ b₂ l₂ m₂ i₂ → StoredAt n (a ++ b) k₀ b₀ l₀ m₀ i₀ k₂ b₂ l₂ m₂ i₂
in_front a b n k₀ b₀ l₀ m₀ i₀ k₁ b₁ l₁ m₁ i₁ k₂ b₂ l₂ m₂ i₂ h g = record {
  kinds = stored_column (λ w. w.kind) a b n k₀ k₁ k₂ h.kinds g.kinds;
  bytes = stored_column (λ w. w.bytes) a b n b₀ b₁ b₂ h.bytes g.bytes;
  bounds = stored_column (λ w. w.bound) a b n l₀ l₁ l₂ h.bounds g.bounds;
  marks = stored_column (λ w. w.mark) a b n m₀ m₁ m₂ h.marks g.marks;
  indices = stored_column (λ w. w.index) a b n i₀ i₁ i₂ h.indices g.indices;
}

-- no step changes nothing
pub none_stored : (n : ℕ) (k b l m i : List ℕ) → StoredAt n [] k b l m i k b l m i
none_stored n k b l m i = record { kinds = refl; bytes = refl; bounds = refl; marks = refl; indices = refl }
