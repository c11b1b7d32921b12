-- The answer of each type of a sheet is the rule's for its declaration, by the answers of lower types. Assumes nothing.
use Prim.Native.Nat.{ℕ, ◌<◌, ◌≤◌}
use mathlib.Core.Path.{◌≡◌, refl, sym, ap, ◌∙◌}
use mathlib.Core.Option.{Option, none, some}
use native.Mathlib.Decide.{dec_lt}
use native.Mathlib.Omega.{arith}
use lib.ListN.{get_elem?}
use Rattle.arith.specs.Refusals.{ok, refused, misread}
use Rattle.arith.proofs.Results.{never, value_is}
use Rattle.spirv.specs.Decl.{Decl}
use Rattle.spirv.proofs.Filled.{filled_at, filled_missing}
use Rattle.shapes.specs.Shapes.{TypeLayout}
use Rattle.sheet.specs.Sheet.{Sheet, declared, decl_in}
use Rattle.layout.specs.Arrays.{Answer}
use Rattle.layout.specs.Layouts.{layout_of, layouts, answer_in}

pub decl_there : (s : Sheet) (t : ℕ) (d : Decl) → decl_in s t ≡ ok d → get_elem? s.types t ≡ some d
unfolding decl_in
decl_there s t d h = by (get_elem? s.types t) h
  where
    by : (o : Option Decl) → declared o ≡ ok d → o ≡ some d
    by none g = absurd (never g)
    by (some c) g = ap some (value_is g)

-- the answer r of type t
pub record MadeIn (s : Sheet) (t : ℕ) (r : Answer) : Type 0 where
  pub decl : Decl
  pub is_declared : decl_in s t ≡ ok decl
  pub below : ℕ → Answer
  pub made : r ≡ layout_of s.setting below decl
  pub same : (u : ℕ) → u < t → below u ≡ answer_in s u
  pub kept : (u : ℕ) (m : TypeLayout) → below u ≡ ok m → answer_in s u ≡ ok m
  pub lower : (u : ℕ) (m : TypeLayout) → below u ≡ ok m → u < t

module _ (s : Sheet) (t : ℕ) where
  made_of : (d : Decl) → get_elem? s.types t ≡ some d → MadeIn s t (answer_in s t)
  unfolding layouts answer_in decl_in
  made_of d e =
      let m = filled_at (refused misread) (layout_of s.setting) s.types t d e in
      let is_lower : (u : ℕ) (l : TypeLayout) → m.below u ≡ ok l → u < t = λ u l b. by u l b (dec_lt u t) (m.none_above u) in
      record {
        decl = d;
        is_declared = ap declared e;
        below = m.below;
        made = m.made;
        same = m.same;
        kept = λ u l b. sym (m.same u (is_lower u l b)) ∙ b;
        lower = is_lower;
      }
    where
      by : {r : Answer} (u : ℕ) (l : TypeLayout) → r ≡ ok l → Dec (u < t) → (t ≤ u → r ≡ refused misread) → u < t
      by u l b (yes lt) f = lt
      by u l b (no g) f = absurd (never (sym (f (omega arith)) ∙ b))

  -- of each type that there is
  pub made_in : (d : Decl) → decl_in s t ≡ ok d → MadeIn s t (answer_in s t)
  unfolding decl_in
  made_in d h = by (get_elem? s.types t) refl h
    where
      by : (o : Option Decl) → get_elem? s.types t ≡ o → declared o ≡ ok d → MadeIn s t (answer_in s t)
      by none e g = absurd (never g)
      by (some c) e g = made_of c e

  -- of each type that has a layout
  pub laid_in : (l : TypeLayout) → answer_in s t ≡ ok l → MadeIn s t (answer_in s t)
  unfolding layouts answer_in
  laid_in l h = by (get_elem? s.types t) refl
    where
      by : (o : Option Decl) → get_elem? s.types t ≡ o → MadeIn s t (answer_in s t)
      by none e = absurd (never (sym (filled_missing (refused misread) (layout_of s.setting) s.types t e) ∙ h))
      by (some c) e = made_of c e
