-- No two constant offsets of an accepted chain are neighbours. Assumes nothing.
use Prim.Native.Nat.{ℕ}
use mathlib.Core.Path.{◌≡◌, refl, sym, subst}
use mathlib.Core.Bool.{false}
use mathlib.Core.List.{List, [], ◌∷◌, ◌++◌}
use mathlib.Core.Option.{Option, none, some}
use lib.IntN.{ℤ}
use Rattle.std.specs.Prelude.{None, Some}
use Rattle.arith.specs.Refusals.{ok}
use Rattle.spirv.specs.declared.Index.{Index}
use Rattle.shapes.specs.Shapes.{Components, Scalar, Elements, Fields, Opaque, Buffer, TypeLayout, Handle, HandleArray, Concrete}
use Rattle.layout.specs.Arrays.{Answer}
use Rattle.layout.specs.Layouts.{answer_in}
use Rattle.lower.specs.declared.QPtrOp.{QPtrOp}
use Rattle.lower.specs.declared.QPtrOp.TheVariants.{HandleArrayIndex, BufferData, DynOffset}
use Rattle.lower.specs.Steps.{Pending, flush, bound_of, Move, lower_from}
use Rattle.lower.specs.Statements.{is_offset, neighbours, NoNeighbours}
use Rattle.lower.proofs.Moves.{ByConstant, ToPart, Moved, first_of, none_left, begun}

-- steps that bring no neighbours to any that follow
abbrev Solid : List QPtrOp → Type 0
Solid ss = (rest : List QPtrOp) → neighbours rest ≡ false → neighbours (ss ++ rest) ≡ false

none_solid : (ss : List QPtrOp) → ss ≡ [] → Solid ss
none_solid ss e = subst Solid (sym e) (λ rest h. h)

-- a step that is no offset, in front
plain_first : (x : QPtrOp) (rest : List QPtrOp) → is_offset x ≡ false → neighbours rest ≡ false → neighbours (x ∷ rest) ≡ false
plain_first x [] e h = refl
plain_first x (y ∷ ys) e h = rw e h

-- and an offset in front of that
flush_solid : (p : Pending) (x : QPtrOp) (ss : List QPtrOp) → is_offset x ≡ false → Solid ss → Solid (flush p (x ∷ ss))
flush_solid None x ss e f rest h = plain_first x (ss ++ rest) e (f rest h)
flush_solid (Some z) x ss e f rest h = rw e (plain_first x (ss ++ rest) e (f rest h))

module _ (answer-of : ℕ → Answer) where
  element_solid : (stride bound : ℕ) (i : Index) (p : Pending) (a : Move) (c : Option ℤ) → ByConstant answer-of stride bound i p a c → Solid a.steps
  element_solid stride bound i p a none b = subst Solid (sym b.0) (flush_solid p (DynOffset stride bound i) [] refl (none_solid [] refl))
  element_solid stride bound i p a (some z) b = none_solid a.steps b.2

  part_solid : (c : Components) (i : Index) (p : Pending) (a : Move) → ToPart answer-of c i p a → Solid a.steps
  part_solid Scalar i p a h = absurd h
  part_solid (Elements stride elem len) i p a h = element_solid stride (bound_of len) i p a h.constant h.by
  part_solid (Fields os ts) i p a h = none_solid a.steps h.no_steps

  move_solid : (l : TypeLayout) (i : Index) (p : Pending) (a : Move) → Moved answer-of l i p a → Solid a.steps
  move_solid (Handle Opaque) i p a h = absurd h
  move_solid (Handle (Buffer m)) i p a h = subst Solid (sym h.steps) (flush_solid p BufferData h.inner.steps refl (part_solid m.components i None h.inner h.by))
  move_solid (HandleArray k n) i p a h = subst Solid (sym h.0) (flush_solid p (HandleArrayIndex i) [] refl (none_solid [] refl))
  move_solid (Concrete m) i p a h = part_solid m.components i p a h

  apart : (is : List Index) (l : TypeLayout) (p : Pending) (steps : List QPtrOp) → lower_from answer-of l p is ≡ ok steps → neighbours steps ≡ false
  apart [] l p steps h = subst (λ (ss : List QPtrOp). neighbours ss ≡ false) (sym (none_left answer-of l p steps h)) (flushed p)
    where
      flushed : (p : Pending) → neighbours (flush p []) ≡ false
      flushed None = refl
      flushed (Some z) = refl
  apart (i ∷ is) l p steps h =
      let f = first_of answer-of l p i is steps h in
      subst (λ (ss : List QPtrOp). neighbours ss ≡ false) (sym f.joined)
      (move_solid l i p f.to f.by f.rest (apart is f.to.layout f.to.pending f.rest f.onward))

pub no_neighbours : NoNeighbours
no_neighbours s op ptr is steps h = let b = begun s op ptr is steps h in apart (answer_in s) is b.layout None steps b.lowered
