-- How far the spans of an answer reach, and that an answer says the same where two readings agree up to there. Assumes nothing.
use Prim.Native.Nat.{ℕ, suc, ◌+◌, ◌-◌, ◌≤◌}
use mathlib.Core.Path.{◌≡◌, refl, sym, ap, subst, ◌∙◌}
use mathlib.Core.List.{List, [], ◌∷◌}
use native.Mathlib.Omega.{arith}
use lib.ListN.{drop, set}
use lib.Seq.{sets, drop-set-add, take-set-le}
use Rattle.arith.specs.Refusals.{Result, ok, refused, ◌>>=◌, ◌>>◌}
use Rattle.shapes.specs.Shapes as def
use Rattle.shapes.specs.Spans.{Reading, span_of, parts_by, memory_by, handle_by, layout_by, answer_by, itself, held}
use Rattle.shapes.specs.declared.LayoutConfig.{LayoutConfig}
use Rattle.shapes.specs.declared.Components.{Components}
use Rattle.shapes.specs.declared.Components.TheVariants.{Scalar, Elements, Fields}
use Rattle.shapes.specs.declared.MemTypeLayout.{MemTypeLayout}
use Rattle.shapes.specs.declared.Handle.{Handle}
use Rattle.shapes.specs.declared.Handle.TheVariants.{Opaque, Buffer}
use Rattle.shapes.specs.declared.TypeLayout.{TypeLayout}
use Rattle.shapes.specs.declared.TypeLayout.TheVariants as layout
use Rattle.arith.specs.InCode.{OrRefusal}
use Rattle.std.specs.Prelude.{Ok, Err}
use Rattle.shapes.proofs.Held.{held_again}
use Rattle.layout.specs.Arrays.{Answer, ArrayParams, length_or_zero, by_element, array_layout}

-- ---- spans that end at n or before

abbrev pub PartsTo : ℕ → Components → Type 0
PartsTo n Scalar = Unit {0}
PartsTo n (Elements stride elem len) = Unit {0}
PartsTo n (Fields start count) = start + count ≤ n

abbrev pub HandleTo : ℕ → Handle → Type 0
HandleTo n Opaque = Unit {0}
HandleTo n (Buffer m) = PartsTo n m.components

abbrev pub AnswerTo : ℕ → OrRefusal TypeLayout → Type 0
AnswerTo n (Err k) = Unit {0}
AnswerTo n (Ok (layout.Handle h)) = HandleTo n h
AnswerTo n (Ok (layout.HandleArray h k)) = HandleTo n h
AnswerTo n (Ok (layout.Concrete m)) = PartsTo n m.components

module _ (n m : ℕ) (le : n ≤ m) where
  parts_raised : (c : Components) → PartsTo n c → PartsTo m c
  parts_raised Scalar h = tt
  parts_raised (Elements stride elem len) h = tt
  parts_raised (Fields start count) h = omega arith

  handle_raised : (k : Handle) → HandleTo n k → HandleTo m k
  handle_raised Opaque h = tt
  handle_raised (Buffer x) h = parts_raised x.components h

  pub raised : (a : OrRefusal TypeLayout) → AnswerTo n a → AnswerTo m a
  raised (Err k) h = tt
  raised (Ok (layout.Handle k)) h = handle_raised k h
  raised (Ok (layout.HandleArray k l)) h = handle_raised k h
  raised (Ok (layout.Concrete x)) h = parts_raised x.components h

module _ (f g : Reading) (n : ℕ) (agree : (s c : ℕ) → s + c ≤ n → f s c ≡ g s c) where
  parts_same : (c : Components) → PartsTo n c → parts_by f c ≡ parts_by g c
  parts_same Scalar h = refl
  parts_same (Elements stride elem len) h = refl
  parts_same (Fields start count) h = agree start count h

  memory_same : (m : MemTypeLayout) → PartsTo n m.components → memory_by f m ≡ memory_by g m
  memory_same m h = ap (λ (c : def.Components). record { mem = m.mem; components = c }) (parts_same m.components h)

  handle_same : (k : Handle) → HandleTo n k → handle_by f k ≡ handle_by g k
  handle_same Opaque h = refl
  handle_same (Buffer m) h = ap def.Buffer (memory_same m h)

  pub reads_same : (a : OrRefusal TypeLayout) → AnswerTo n a → answer_by f a ≡ answer_by g a
  reads_same (Err k) h = refl
  reads_same (Ok (layout.Handle k)) h = rw (handle_same k h)
  reads_same (Ok (layout.HandleArray k l)) h = rw (handle_same k h)
  reads_same (Ok (layout.Concrete m)) h = rw (memory_same m h)

-- ---- arrays reach as far as their elements

module _ (n : ℕ) where
  held_then : {A : Type 0} (r : Result A) (next : A → Answer) → ((a : A) → AnswerTo n (held (next a))) → AnswerTo n (held (r >>= next))
  unfolding ◌>>=◌
  held_then (ok a) next h = h a
  held_then (refused k) next h = tt

  pub held_and : {A : Type 0} (r : Result A) (next : Answer) → AnswerTo n (held next) → AnswerTo n (held (r >> next))
  unfolding ◌>>◌
  held_and (ok a) next h = h
  held_and (refused k) next h = tt

  element_to : (cfg : LayoutConfig) (p : ArrayParams) (l : TypeLayout) → AnswerTo n (Ok l) → AnswerTo n (held (by_element cfg p (layout_by itself l)))
  unfolding by_element
  element_to cfg p (layout.Handle k) h = subst (AnswerTo n) (sym (held_again (Ok (layout.HandleArray k (length_or_zero p.fixed_len))))) h
  element_to cfg p (layout.HandleArray k l) h = tt
  element_to cfg p (layout.Concrete m) h = held_and _ _ (held_then _ _ λ stride. held_and _ _ (held_then _ _ λ legacy. held_then _ _ λ size. tt))

  answer_to : (cfg : LayoutConfig) (p : ArrayParams) (a : OrRefusal TypeLayout) → AnswerTo n a → AnswerTo n (held (answer_by itself a >>= by_element cfg p))
  unfolding ◌>>=◌
  answer_to cfg p (Err k) h = tt
  answer_to cfg p (Ok l) h = element_to cfg p l h

  pub array_to : (cfg : LayoutConfig) (b : ℕ → OrRefusal TypeLayout) (p : ArrayParams) → AnswerTo n (b p.elem) → AnswerTo n (held (array_layout cfg (λ t. answer_by itself (b t)) p))
  unfolding array_layout
  array_to cfg b p h = held_and _ _ (answer_to cfg p (b p.elem) h)

-- ---- a list that is written behind a span

pub span_kept : (vs os : List ℕ) (at s c : ℕ) → s + c ≤ at → span_of (sets os at vs) s c ≡ span_of os s c
span_kept [] os at s c h = refl
span_kept (v ∷ vs) os at s c h = span_kept vs (set os at v) (suc at) s c (omega arith) ∙ one
  where
    one : span_of (set os at v) s c ≡ span_of os s c
    one =
        let e : s + (at - s) ≡ at = omega arith in
        let k : drop s (set os at v) ≡ set (drop s os) (at - s) v = ap (λ (i : ℕ). drop s (set os i v)) (sym e) ∙ drop-set-add s os (at - s) v in
        rw k (take-set-le c (drop s os) (at - s) v (omega arith))
