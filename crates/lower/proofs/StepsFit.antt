-- The bytes of each constant offset of an accepted chain fit signed 32 bits; and there is at most one step more than there are indices. Assumes nothing.
use Prim.Native.Nat.{ℕ, suc, ◌+◌, ◌≤◌}
use mathlib.Core.Path.{◌≡◌, refl, sym, ap, ◌∙◌, subst}
use mathlib.Core.Bool.{Bool, true, false, cond}
use mathlib.Core.List.{List, [], ◌∷◌, ◌++◌}
use mathlib.Core.Option.{Option, none, some}
use native.Mathlib.Omega.{arith}
use lib.IntN.{ℤ, pos}
use lib.ListN.{length, length-append}
use Rattle.std.specs.Prelude.{None, Some}
use Rattle.arith.specs.Refusals.{ok}
use Rattle.arith.specs.Numbers.{is_i32, is_zero}
use Rattle.arith.proofs.Results.{value_is, passed, not_refused}
use Rattle.spirv.specs.declared.Index.{Index}
use Rattle.shapes.specs.Shapes.{Components, Scalar, Elements, Fields, Opaque, Buffer, TypeLayout, Handle, HandleArray, Concrete}
use Rattle.sheet.specs.Sheet.{Sheet}
use Rattle.layout.specs.Arrays.{Answer}
use Rattle.layout.specs.Layouts.{answer_in}
use Rattle.layout.specs.Statements.{IsLayoutIn}
use Rattle.layout.proofs.Parts.{parts}
use Rattle.lower.specs.declared.QPtrOp.{QPtrOp}
use Rattle.lower.specs.declared.QPtrOp.TheVariants.{HandleArrayIndex, BufferData, DynOffset}
use Rattle.lower.specs.Steps.{Pending, flush, added, merged, Move, bound_of, lower_from}
use Rattle.lower.specs.Statements.{FitsStep, FitSteps, StepsFit}
use Rattle.lower.proofs.Moves.{ByConstant, ToPart, Moved, first_of, none_left, begun}
use Rattle.lower.proofs.Onward.{part_onward, onward, start_in}

-- ---- the bytes

abbrev FitPending : Pending → Type 0
FitPending None = Unit {0}
FitPending (Some z) = is_i32 z ≡ true

fit_append : (ss ts : List QPtrOp) → FitSteps ss → FitSteps ts → FitSteps (ss ++ ts)
fit_append [] ts a b = b
fit_append (s ∷ ss) ts a b = (a.0, fit_append ss ts a.1 b)

fit_flush : (p : Pending) (ss : List QPtrOp) → FitPending p → FitSteps ss → FitSteps (flush p ss)
fit_flush None ss a b = b
fit_flush (Some z) ss a b = (a, b)

fit_added : (p : Pending) (z : ℤ) (q : Pending) → is_i32 z ≡ true → added p z ≡ ok q → FitPending q
unfolding added
fit_added None z q f h = subst FitPending (value_is h) f
fit_added (Some y) z q f h = subst FitPending (value_is (passed _ _ h)) (not_refused _ _ _ h)

fit_merged : (p : Pending) (z : ℤ) (q : Pending) → FitPending p → is_i32 z ≡ true → merged p z ≡ ok q → FitPending q
unfolding merged
fit_merged p z q a f h = by_test (is_zero z) h
  where
    by_test : (t : Bool) → cond t (ok p) (added p z) ≡ ok q → FitPending q
    by_test true g = subst FitPending (value_is g) a
    by_test false g = fit_added p z q f g

-- ---- their number

-- a waiting offset counts as a step
abbrev waiting : Pending → ℕ
waiting None = 0
waiting (Some z) = 1

length_flush : (p : Pending) (ss : List QPtrOp) → length (flush p ss) ≡ waiting p + length ss
length_flush None ss = omega arith
length_flush (Some z) ss = omega arith

at_most_one : (p : Pending) → waiting p ≤ 1
at_most_one None = omega arith
at_most_one (Some z) = omega arith

-- ---- one index

-- with what waits, an index into memory brings one step more at most
record FitMove (p : Pending) (more : ℕ) (a : Move) : Type 0 where
  steps : FitSteps a.steps
  pending : FitPending a.pending
  count : length a.steps + waiting a.pending ≤ waiting p + more

-- a step in front of what waits no more
put : (p : Pending) (x : QPtrOp) (a : Move) → FitPending p → FitsStep x → a.steps ≡ flush p (x ∷ []) → a.pending ≡ None → FitMove p 1 a
put p x a f g e w = record {
  steps = subst FitSteps (sym e) (fit_flush p (x ∷ []) f (g, tt));
  pending = subst FitPending (sym w) tt;
  count = omega (arith, ap length e, length_flush p (x ∷ []), ap waiting w);
}

-- an offset added to what waits
add : (p : Pending) (z : ℤ) (a : Move) → FitPending p → is_i32 z ≡ true → merged p z ≡ ok a.pending → a.steps ≡ [] → FitMove p 1 a
add p z a f g h e = record {
  steps = subst FitSteps (sym e) tt;
  pending = fit_merged p z a.pending f g h;
  count = omega (arith, ap length e, at_most_one a.pending);
}

module _ (answer-of : ℕ → Answer) where
  fit_element : (stride bound : ℕ) (i : Index) (p : Pending) (a : Move) (c : Option ℤ) → FitPending p → ByConstant answer-of stride bound i p a c → FitMove p 1 a
  fit_element stride bound i p a none f b = put p (DynOffset stride bound i) a f tt b.0 b.1
  fit_element stride bound i p a (some z) f b = add p z a f b.0.fits b.1 b.2

  fit_part : (c : Components) (i : Index) (p : Pending) (a : Move) → FitPending p → ToPart answer-of c i p a → FitMove p 1 a
  unfolding is_i32
  fit_part Scalar i p a f h = absurd h
  fit_part (Elements stride elem len) i p a f h = fit_element stride (bound_of len) i p a h.constant f h.by
  fit_part (Fields os ts) i p a f h = add p (pos h.field.offset) a f h.near h.added h.no_steps

  fit_move : (l : TypeLayout) (i : Index) (p : Pending) (a : Move) → FitPending p → Moved answer-of l i p a → FitMove p 2 a
  fit_move (Handle Opaque) i p a f h = absurd h
  fit_move (Handle (Buffer m)) i p a f h =
      let k = fit_part m.components i None h.inner tt h.by in
      record {
        steps = subst FitSteps (sym h.steps) (fit_flush p (BufferData ∷ h.inner.steps) f (tt, k.steps));
        pending = subst FitPending (sym h.pending) k.pending;
        count = omega (arith, ap length h.steps, length_flush p (BufferData ∷ h.inner.steps), ap waiting h.pending, k.count);
      }
  fit_move (HandleArray k n) i p a f h =
      let m = put p (HandleArrayIndex i) a f tt h.0 h.1 in
      record { steps = m.steps; pending = m.pending; count = omega (arith, m.count) }
  fit_move (Concrete c) i p a f h =
      let m = fit_part c.components i p a f h in
      record { steps = m.steps; pending = m.pending; count = omega (arith, m.count) }

  fit_all : (is : List Index) (l : TypeLayout) (p : Pending) (steps : List QPtrOp) → FitPending p → lower_from answer-of l p is ≡ ok steps → FitSteps steps
  fit_all [] l p steps f h = subst FitSteps (sym (none_left answer-of l p steps h)) (fit_flush p [] f tt)
  fit_all (i ∷ is) l p steps f h =
      let a = first_of answer-of l p i is steps h in
      let k = fit_move l i p a.to f a.by in
      subst FitSteps (sym a.joined) (fit_append a.to.steps a.rest k.steps (fit_all is a.to.layout a.to.pending a.rest k.pending a.onward))

-- ---- all indices

-- a handle may bring B besides
abbrev handle : TypeLayout → ℕ
handle (Handle h) = 1
handle (HandleArray h n) = 1
handle (Concrete m) = 0

-- from a handle an index brings two steps at most and may lead to another handle or into memory; within memory it brings one
move_count : (s : Sheet) (l : TypeLayout) → IsLayoutIn s l → (i : Index) (p : Pending) (a : Move) → FitPending p → Moved (answer_in s) l i p a
    → length a.steps + waiting a.pending + handle a.layout ≤ suc (waiting p + handle l)
move_count s (Handle Opaque) o i p a f h = absurd h
move_count s (Handle (Buffer m)) o i p a f h =
    let k = fit_move (answer_in s) (Handle (Buffer m)) i p a f h in
    let e = part_onward s m m.components (parts s (Handle (Buffer m)) m o refl) i None h.inner h.by in
    omega (arith, k.count, ap handle (h.layout ∙ e.is))
move_count s (HandleArray k n) o i p a f h =
    let c = put p (HandleArrayIndex i) a f tt h.0 h.1 in
    omega (arith, c.count, ap handle h.2)
move_count s (Concrete m) o i p a f h =
    let k = fit_part (answer_in s) m.components i p a f h in
    let e = part_onward s m m.components (parts s (Concrete m) m o refl) i p a h in
    omega (arith, k.count, ap handle e.is)

count : (s : Sheet) (is : List Index) (l : TypeLayout) → IsLayoutIn s l → (p : Pending) (steps : List QPtrOp) → FitPending p → lower_from (answer_in s) l p is ≡ ok steps
    → length steps ≤ length is + (waiting p + handle l)
count s [] l o p steps f h = omega (arith, ap length (none_left (answer_in s) l p steps h), length_flush p [])
count s (i ∷ is) l o p steps f h =
    let a = first_of (answer_in s) l p i is steps h in
    let k = fit_move (answer_in s) l i p a.to f a.by in
    let m = move_count s l o i p a.to f a.by in
    let r = count s is a.to.layout (onward s l o i p a.to a.by) a.to.pending a.rest k.pending a.onward in
    omega (arith, ap length a.joined, length-append a.to.steps a.rest)

-- the bytes fit by whatever a type answers
pub bytes_fit : (answer-of : ℕ → Answer) (l : TypeLayout) (is : List Index) (steps : List QPtrOp) → lower_from answer-of l None is ≡ ok steps → FitSteps steps
bytes_fit answer-of l is steps h = fit_all answer-of is l None steps tt h

pub steps_fit : StepsFit
steps_fit s op ptr is steps h =
    let b = begun s op ptr is steps h in
    let c = count s is b.layout (start_in s op b.pointee b.layout b.laid) None steps tt b.lowered in
    (bytes_fit (answer_in s) b.layout is steps b.lowered, omega (arith, c, one b.layout))
  where
    one : (l : TypeLayout) → handle l ≤ 1
    one (Handle h) = omega arith
    one (HandleArray h n) = omega arith
    one (Concrete m) = omega arith
