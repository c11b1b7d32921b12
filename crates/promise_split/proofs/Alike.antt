-- What waits decides only by 23 whether a chain is accepted: from one layout, two waiting offsets are refused alike. Assumes nothing.
use Prim.Native.Nat.{ℕ}
use mathlib.Core.Path.{◌≡◌, refl, subst}
use mathlib.Core.Bool.{Bool, true, false, cond}
use mathlib.Core.List.{List, [], ◌∷◌}
use mathlib.Core.Logic.{◌⊎◌, inl, inr}
use mathlib.Core.Option.{Option, none, some}
use lib.Dec.{leb}
use lib.IntN.{ℤ, pos, ◌+ℤ◌}
use Rattle.std.specs.Prelude.{None, Some}
use Rattle.arith.specs.Refusals.{Result, ok, refused, ◌>>=◌, ◌>>◌, refuse◌unless◌, far_field, step_overflow}
use Rattle.arith.specs.Numbers.{max_i32, signed, is_i32, is_zero}
use Rattle.spirv.specs.declared.Index.{Index}
use Rattle.spirv.specs.declared.Index.TheVariants.{Known, Unknown}
use Rattle.shapes.specs.Shapes.{Components, Scalar, Elements, Fields, Opaque, Buffer, TypeLayout, Handle, HandleArray, Concrete}
use Rattle.layout.specs.Arrays.{Answer}
use Rattle.lower.specs.declared.QPtrOp.{QPtrOp}
use Rattle.lower.specs.Steps.{Pending, added, merged, field_of, Move, to_field, constant_offset, by_constant, to_element, to_part, move, lower_from}
use Rattle.promise_split.specs.Statements.{AlikeBut23}
use Rattle.promise_split.proofs.Walks.{onto}

-- two results alike but for 23; where both have a value, Q holds of the two
unfoldable pub Like : {A : Type 0} → (A → A → Type 0) → Result A → Result A → Type 0
Like Q (ok a) (ok b) = Q a b
Like Q (ok a) (refused n) = n ≡ step_overflow
Like Q (refused m) (ok b) = m ≡ step_overflow
Like Q (refused m) (refused n) = (m ≡ step_overflow) ⊎ (n ≡ step_overflow) ⊎ (m ≡ n)

-- a result beside 23
first_23 : {A : Type 0} (Q : A → A → Type 0) (m : ℕ) → m ≡ step_overflow → (r : Result A) → Like Q (refused m) r
unfolding Like
first_23 Q m e (ok b) = e
first_23 Q m e (refused n) = inl e

second_23 : {A : Type 0} (Q : A → A → Type 0) (r : Result A) (n : ℕ) → n ≡ step_overflow → Like Q r (refused n)
unfolding Like
second_23 Q (ok a) n e = e
second_23 Q (refused m) n e = inr (inl e)

-- one step behind the other
then_like : {A B : Type 0} (P : A → A → Type 0) (Q : B → B → Type 0) (r t : Result A) (f g : A → Result B)
    → Like P r t → ((a b : A) → P a b → Like Q (f a) (g b)) → Like Q (r >>= f) (t >>= g)
unfolding Like ◌>>=◌
then_like P Q (ok a) (ok b) f g h k = k a b h
then_like P Q (ok a) (refused n) f g h k = second_23 Q (f a) n h
then_like P Q (refused m) (ok b) f g h k = first_23 Q m h (g b)
then_like P Q (refused m) (refused n) f g h k = h

-- the same result, and what follows it
same_like : {A B : Type 0} (Q : B → B → Type 0) (r : Result A) (f g : A → Result B) → ((a : A) → Like Q (f a) (g a)) → Like Q (r >>= f) (r >>= g)
unfolding Like ◌>>=◌
same_like Q (ok a) f g k = k a
same_like Q (refused n) f g k = inr (inr refl)

and_like : {A B : Type 0} (Q : B → B → Type 0) (r : Result A) (f g : Result B) → Like Q f g → Like Q (r >> f) (r >> g)
unfolding Like ◌>>◌
and_like Q (ok a) f g k = k
and_like Q (refused n) f g k = inr (inr refl)

-- ---- what waits

abbrev Any : {A : Type 0} → A → A → Type 0
Any a b = Unit {0}

-- merging is fine, or 23
abbrev Or23 : Result Pending → Type 0
Or23 (ok p) = Unit {0}
Or23 (refused n) = n ≡ step_overflow

added_or : (p : Pending) (z : ℤ) → Or23 (added p z)
unfolding added ◌>>◌ refuse◌unless◌
added_or None z = tt
added_or (Some y) z = by_test (is_i32 (y +ℤ z))
  where
    by_test : (t : Bool) → Or23 ((refuse step_overflow unless t) >> ok (Some (y +ℤ z)))
    by_test true = tt
    by_test false = refl

merged_or : (p : Pending) (z : ℤ) → Or23 (merged p z)
unfolding merged
merged_or p z = by_test (is_zero z)
  where
    by_test : (t : Bool) → Or23 (cond t (ok p) (added p z))
    by_test true = tt
    by_test false = added_or p z

both_or : (r t : Result Pending) → Or23 r → Or23 t → Like Any r t
unfolding Like
both_or (ok a) (ok b) h k = tt
both_or (ok a) (refused n) h k = k
both_or (refused m) (ok b) h k = h
both_or (refused m) (refused n) h k = inl h

merged_like : (p q : Pending) (z : ℤ) → Like Any (merged p z) (merged q z)
merged_like p q z = both_or (merged p z) (merged q z) (merged_or p z) (merged_or q z)

-- ---- one index

-- two moves to the same layout
abbrev SameLayout : Move → Move → Type 0
SameLayout a b = a.layout ≡ b.layout

module _ (answer-of : ℕ → Answer) where
  constant_like : (c : Option ℤ) (d : QPtrOp) (p q : Pending) (l : TypeLayout) → Like SameLayout (by_constant c d p l) (by_constant c d q l)
  unfolding Like by_constant
  constant_like (some z) d p q l = then_like Any SameLayout (merged p z) (merged q z) _ _ (merged_like p q z) λ a b h. refl
  constant_like none d p q l = refl

  part_like : (c : Components) (i : Index) (p q : Pending) → Like SameLayout (to_part answer-of c i p) (to_part answer-of c i q)
  unfolding Like to_part to_element to_field
  part_like Scalar i p q = inr (inr refl)
  part_like (Elements stride elem len) i p q = same_like SameLayout (answer-of elem) _ _ λ l. constant_like (constant_offset stride len i) _ p q l
  part_like (Fields os ts) (Unknown u) p q = inr (inr refl)
  part_like (Fields os ts) (Known w) p q =
      same_like SameLayout (field_of os ts (signed w)) _ _ λ f. and_like SameLayout (refuse far_field unless leb f.offset max_i32) _ _
      (then_like Any SameLayout (merged p (pos f.offset)) (merged q (pos f.offset)) _ _ (merged_like p q (pos f.offset))
      λ a b h. same_like SameLayout (answer-of f.type) _ _ λ l. refl)

  move_like : (l : TypeLayout) (i : Index) (p q : Pending) → Like SameLayout (move answer-of l i p) (move answer-of l i q)
  unfolding Like move
  move_like (Handle Opaque) i p q = inr (inr refl)
  move_like (Handle (Buffer m)) i p q = same_like SameLayout (to_part answer-of m.components i None) _ _ λ a. refl
  move_like (HandleArray h len) i p q = refl
  move_like (Concrete m) i p q = part_like m.components i p q

  -- ---- all indices

  lower_like : (is : List Index) (l : TypeLayout) (p q : Pending) → Like Any (lower_from answer-of l p is) (lower_from answer-of l q is)
  unfolding Like lower_from
  lower_like [] l p q = tt
  lower_like (i ∷ is) l p q =
      then_like SameLayout Any (move answer-of l i p) (move answer-of l i q) _ _ (move_like l i p q)
      λ a b e. then_like Any Any (lower_from answer-of a.layout a.pending is) (lower_from answer-of b.layout b.pending is) _ _
      (subst (λ (x : TypeLayout). Like Any (lower_from answer-of a.layout a.pending is) (lower_from answer-of x b.pending is)) e (lower_like is a.layout a.pending b.pending))
      λ xs ys h. tt

  -- steps in front of one of them change nothing
  pub alike_onto : (before : List QPtrOp) (is : List Index) (l : TypeLayout) (p q : Pending) → AlikeBut23 (onto before (lower_from answer-of l p is)) (lower_from answer-of l q is)
  unfolding Like onto ◌>>=◌
  alike_onto before is l p q = by_results (lower_from answer-of l p is) (lower_from answer-of l q is) (lower_like is l p q)
    where
      by_results : (r t : Result (List QPtrOp)) → Like Any r t → AlikeBut23 (onto before r) t
      by_results (ok xs) (ok ys) h = tt
      by_results (ok xs) (refused n) h = h
      by_results (refused m) (ok ys) h = h
      by_results (refused m) (refused n) h = h
