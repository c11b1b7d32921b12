-- By which numbers a chain is refused, once its layout is there: 19 to 23. Assumes nothing.
use Prim.Native.Nat.{ℕ, zero, suc, ◌≤◌}
use mathlib.Core.Path.{◌≡◌, refl, sym, ◌∙◌}
use mathlib.Core.Bool.{Bool, true, false, cond}
use mathlib.Core.List.{List, [], ◌∷◌}
use mathlib.Core.Option.{Option, none, some}
use native.Mathlib.Omega.{arith}
use lib.IntN.{ℤ, pos, negsuc}
use Rattle.std.specs.Prelude.{None, Some}
use Rattle.arith.specs.Refusals.{Result, ok, no_parts, step_overflow}
use Rattle.arith.specs.Numbers.{signed, is_zero}
use Rattle.arith.proofs.Results.{never, not_both, RefusedBy, fine_by, this_by, then_by, and_by, unless_by}
use Rattle.spirv.specs.declared.Index.{Index}
use Rattle.spirv.specs.declared.Index.TheVariants.{Known, Unknown}
use Rattle.shapes.specs.Shapes.{Components, Scalar, Elements, Fields, Opaque, Buffer, MemTypeLayout, TypeLayout, Handle, HandleArray, Concrete}
use Rattle.sheet.specs.Sheet.{Sheet}
use Rattle.layout.specs.Layouts.{answer_in}
use Rattle.layout.specs.Statements.{IsLayoutIn, PartsOf}
use Rattle.layout.proofs.Parts.{parts}
use Rattle.lower.specs.declared.QPtrOp.{QPtrOp}
use Rattle.lower.specs.Steps.{Pending, added, merged, Field, field_at, field_of, to_field, constant_offset, by_constant, to_element, to_part, move, lower_from}
use Rattle.lower.proofs.Moves.{field_is, moved_by}
use Rattle.lower.proofs.Onward.{onward}

abbrev pub IsWalkRefusal : ℕ → Type 0
IsWalkRefusal n = (no_parts ≤ n) × (n ≤ step_overflow)

abbrev Only : {A : Type 0} → Result A → Type 0
Only r = RefusedBy IsWalkRefusal r

pub laid_only : {A : Type 0} {P : ℕ → Type 0} {r : Result A} {a : A} → r ≡ ok a → RefusedBy P r
laid_only e = record { only = λ n h. absurd (not_both (sym e ∙ h)) }

merged_only : (p : Pending) (z : ℤ) → Only (merged p z)
unfolding merged added
merged_only p z = by_test (is_zero z)
  where
    by_pending : (p : Pending) → Only (added p z)
    by_pending None = fine_by
    by_pending (Some y) = and_by _ _ (unless_by _ _ (omega arith)) fine_by

    by_test : (t : Bool) → Only (cond t (ok p) (added p z))
    by_test true = fine_by
    by_test false = by_pending p

field_only : (os ts : List ℕ) (n : ℕ) → Only (field_at os ts n)
unfolding field_at
field_only [] ts n = this_by (omega arith)
field_only (o ∷ os) [] n = this_by (omega arith)
field_only (o ∷ os) (t ∷ ts) zero = fine_by
field_only (o ∷ os) (t ∷ ts) (suc n) = field_only os ts n

number_only : (os ts : List ℕ) (z : ℤ) → Only (field_of os ts z)
unfolding field_of
number_only os ts (pos n) = field_only os ts n
number_only os ts (negsuc n) = this_by (omega arith)

constant_only : (c : Option ℤ) (d : QPtrOp) (p : Pending) (l : TypeLayout) → Only (by_constant c d p l)
unfolding by_constant
constant_only (some z) d p l = then_by _ _ (merged_only p z) λ q h. fine_by
constant_only none d p l = fine_by

module _ (s : Sheet) where
  part_only : (m : MemTypeLayout) (c : Components) → PartsOf s m c → (i : Index) (p : Pending) → Only (to_part (answer_in s) c i p)
  unfolding to_part to_element to_field field_of
  part_only m Scalar f i p = this_by (omega arith)
  part_only m (Elements stride elem len) f i p = then_by _ _ (laid_only f.laid) λ l h. constant_only (constant_offset stride len i) _ p l
  part_only m (Fields os ts) f (Unknown v) p = this_by (omega arith)
  part_only m (Fields os ts) f (Known w) p =
      then_by _ _ (number_only os ts (signed w)) λ k h. and_by _ _ (unless_by _ _ (omega arith))
      (then_by _ _ (merged_only p _) λ q g. then_by _ _ (laid k (signed w) h) λ l j. fine_by)
    where
      laid : (k : Field) (z : ℤ) → field_of os ts z ≡ ok k → Only (answer_in s k.type)
      laid k (pos n) h = let g = field_is os ts n k h in laid_only (f.each n k.type k.offset g.of_type g.at).laid
      laid k (negsuc n) h = absurd (never h)

  move_only : (l : TypeLayout) → IsLayoutIn s l → (i : Index) (p : Pending) → Only (move (answer_in s) l i p)
  unfolding move
  move_only (Handle Opaque) o i p = this_by (omega arith)
  move_only (Handle (Buffer m)) o i p = then_by _ _ (part_only m m.components (parts s (Handle (Buffer m)) m o refl) i None) λ a h. fine_by
  move_only (HandleArray k n) o i p = fine_by
  move_only (Concrete m) o i p = part_only m m.components (parts s (Concrete m) m o refl) i p

  pub chain_only : (is : List Index) (l : TypeLayout) → IsLayoutIn s l → (p : Pending) → RefusedBy IsWalkRefusal (lower_from (answer_in s) l p is)
  unfolding lower_from
  chain_only [] l o p = fine_by
  chain_only (i ∷ is) l o p =
      then_by _ _ (move_only l o i p) λ a h. then_by _ _ (chain_only is a.layout (onward s l o i p a (moved_by (answer_in s) l i p a h)) a.pending) λ rest g. fine_by
