-- Every number of an accepted chain's steps has 32 bits. Assumes nothing.
use Prim.Native.Nat.{ℕ}
use native.Mathlib.Omega.{arith}
use mathlib.Core.Path.{◌≡◌, sym, subst}
use mathlib.Core.Bool.{Bool, true, false, cond}
use mathlib.Core.List.{List, [], ◌∷◌, ◌++◌}
use mathlib.Core.Option.{Option, none, some}
use lib.Dec.{leb}
use lib.IntN.{ℤ}
use Rattle.std.specs.Prelude.{None, Some}
use Rattle.arith.specs.Refusals.{ok}
use Rattle.arith.specs.Numbers.{max_i32}
use Rattle.spirv.specs.declared.ChainOp.{ChainOp}
use Rattle.spirv.specs.declared.Index.{Index}
use Rattle.shapes.specs.Shapes.{Components, Scalar, Elements, Fields, Opaque, Buffer, TypeLayout, Handle, HandleArray, Concrete}
use Rattle.sheet.specs.Sheet.{Sheet}
use Rattle.sheet.specs.Statements.{Fits, All, FitsIndex, GoodSheet}
use Rattle.layout.specs.Arrays.{Answer}
use Rattle.layout.specs.Layouts.{answer_in}
use Rattle.layout.specs.Statements.{IsLayoutIn}
use Rattle.lower.specs.declared.QPtrOp.{QPtrOp}
use Rattle.lower.specs.declared.QPtrOp.TheVariants.{HandleArrayIndex, BufferData, Offset, DynOffset}
use Rattle.lower.specs.Steps.{Pending, flush, Move, bound_of, lower_from}
use Rattle.lower.specs.Statements.{Accepted}
use Rattle.lower.proofs.Moves.{ByConstant, ToPart, Moved, first_of, none_left, begun}
use Rattle.lower.proofs.Onward.{onward, start_in}
use Rattle.longest.specs.Statements.{FitsParts, FitsLayout}
use Rattle.longest.proofs.Layouts.{layouts_fit}

-- the numbers but for a constant offset's bytes, which are signed
abbrev pub Numbers : QPtrOp → Type 0
Numbers (HandleArrayIndex i) = FitsIndex i
Numbers BufferData = Unit {0}
Numbers (Offset z) = Unit {0}
Numbers (DynOffset stride bound i) = Fits stride × Fits bound × FitsIndex i

append : (ss ts : List QPtrOp) → All Numbers ss → All Numbers ts → All Numbers (ss ++ ts)
append [] ts a b = b
append (s ∷ ss) ts a b = (a.0, append ss ts a.1 b)

flushed : (p : Pending) (ss : List QPtrOp) → All Numbers ss → All Numbers (flush p ss)
flushed None ss a = a
flushed (Some z) ss a = (tt, a)

bound_fits : (len : ℕ) → Fits len → Fits (bound_of len)
unfolding bound_of
bound_fits len f = by (leb len max_i32)
  where
    by : (b : Bool) → Fits (cond b len 0)
    by true = f
    by false = omega arith

module _ (answer-of : ℕ → Answer) (i : Index) (f : FitsIndex i) where
  by_constant_lem : (stride bound : ℕ) → Fits stride → Fits bound → (p : Pending) (a : Move) (c : Option ℤ) → ByConstant answer-of stride bound i p a c → All Numbers a.steps
  by_constant_lem stride bound g h p a none b = subst (All Numbers) (sym b.0) (flushed p (DynOffset stride bound i ∷ []) ((g, h, f), tt))
  by_constant_lem stride bound g h p a (some z) b = subst (All Numbers) (sym b.2) tt

  into_part : (c : Components) → FitsParts c → (p : Pending) (a : Move) → ToPart answer-of c i p a → All Numbers a.steps
  into_part Scalar g p a h = absurd h
  into_part (Elements stride elem len) g p a h = by_constant_lem stride (bound_of len) g.0 (bound_fits len g.1) p a h.constant h.by
  into_part (Fields os ts) g p a h = subst (All Numbers) (sym h.no_steps) tt

  moved : (l : TypeLayout) → FitsLayout l → (p : Pending) (a : Move) → Moved answer-of l i p a → All Numbers a.steps
  moved (Handle Opaque) g p a h = absurd h
  moved (Handle (Buffer m)) g p a h =
      subst (All Numbers) (sym h.steps) (flushed p (BufferData ∷ h.inner.steps) (tt, into_part m.components g.parts None h.inner h.by))
  moved (HandleArray k n) g p a h = subst (All Numbers) (sym h.0) (flushed p (HandleArrayIndex i ∷ []) (f, tt))
  moved (Concrete m) g p a h = into_part m.components g.parts p a h

from : (s : Sheet) → GoodSheet s → (is : List Index) → All FitsIndex is → (l : TypeLayout) → IsLayoutIn s l → (p : Pending) (steps : List QPtrOp)
    → lower_from (answer_in s) l p is ≡ ok steps → All Numbers steps
from s good [] f l o p steps h = subst (All Numbers) (sym (none_left (answer_in s) l p steps h)) (flushed p [] tt)
from s good (i ∷ is) f l o p steps h =
    let a = first_of (answer_in s) l p i is steps h in
    subst (All Numbers) (sym a.joined) (append a.to.steps a.rest
    (moved (answer_in s) i f.0 l (layouts_fit s good l o) p a.to a.by)
    (from s good is f.1 a.to.layout (onward s l o i p a.to a.by) a.to.pending a.rest a.onward))

pub steps_numbers : (s : Sheet) → GoodSheet s → (op : ChainOp) (ptr : ℕ) (is : List Index) → All FitsIndex is → (steps : List QPtrOp) → Accepted s op ptr is steps → All Numbers steps
steps_numbers s good op ptr is f steps h =
    let b = begun s op ptr is steps h in
    from s good is f b.layout (start_in s op b.pointee b.layout b.laid) None steps b.lowered
