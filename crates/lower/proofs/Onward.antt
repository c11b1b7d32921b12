-- Where a chain stands it stands at a layout of the sheet: each index leads from one to another, and out of memory only into memory. Assumes nothing.
use Prim.Native.Nat.{ℕ}
use mathlib.Core.Path.{◌≡◌, refl, sym, ◌∙◌, subst}
use mathlib.Core.Logic.{inl, inr}
use Rattle.std.specs.Prelude.{None}
use Rattle.arith.specs.Refusals.{ok}
use Rattle.arith.proofs.Results.{value_is}
use Rattle.spirv.specs.declared.ChainOp.{ChainOp}
use Rattle.spirv.specs.declared.ChainOp.TheVariants.{AccessChain, InBoundsAccessChain, PtrAccessChain, InBoundsPtrAccessChain}
use Rattle.spirv.specs.declared.Index.{Index}
use Rattle.shapes.specs.Shapes.{Components, Scalar, Elements, Fields, Opaque, Buffer, MemTypeLayout, TypeLayout, Handle, HandleArray, Concrete}
use Rattle.sheet.specs.Sheet.{Sheet}
use Rattle.layout.specs.Layouts.{answer_in}
use Rattle.layout.specs.Statements.{IsLayoutIn, PartsOf}
use Rattle.layout.proofs.Parts.{parts, handles}
use Rattle.lower.specs.Steps.{Pending, Move}
use Rattle.lower.specs.Chain.{start_layout}
use Rattle.lower.proofs.Moves.{ToPart, Moved}

-- an index into memory leads to memory of a type
pub record ToMemory (s : Sheet) (l : TypeLayout) : Type 0 where
  pub type : ℕ
  pub laid : answer_in s type ≡ ok l
  pub memory : MemTypeLayout
  pub is : l ≡ Concrete memory

pub part_onward : (s : Sheet) (m : MemTypeLayout) (c : Components) → PartsOf s m c → (i : Index) (p : Pending) (a : Move) → ToPart (answer_in s) c i p a → ToMemory s a.layout
part_onward s m Scalar q i p a h = absurd h
part_onward s m (Elements stride elem len) q i p a h = record { type = elem; laid = h.laid; memory = q.part; is = value_is (sym h.laid ∙ q.laid) }
part_onward s m (Fields os ts) q i p a h =
    let f = q.each h.n h.field.type h.field.offset h.is.of_type h.is.at in
    record { type = h.field.type; laid = h.laid; memory = f.part; is = value_is (sym h.laid ∙ f.laid) }

pub onward : (s : Sheet) (l : TypeLayout) → IsLayoutIn s l → (i : Index) (p : Pending) (a : Move) → Moved (answer_in s) l i p a → IsLayoutIn s a.layout
onward s (Handle Opaque) o i p a h = absurd h
onward s (Handle (Buffer m)) o i p a h =
    let e = part_onward s m m.components (parts s (Handle (Buffer m)) m o refl) i None h.inner h.by in
    subst (IsLayoutIn s) (sym h.layout) (e.type, inl e.laid)
onward s (HandleArray k n) o i p a h = let (elem, e) = handles s k n o in subst (IsLayoutIn s) (sym h.2) (elem, inl e)
onward s (Concrete m) o i p a h = let e = part_onward s m m.components (parts s (Concrete m) m o refl) i p a h in (e.type, inl e.laid)

pub start_in : (s : Sheet) (op : ChainOp) (t : ℕ) (l : TypeLayout) → start_layout s.setting (answer_in s) op t ≡ ok l → IsLayoutIn s l
unfolding start_layout
start_in s AccessChain t l h = (t, inl h)
start_in s InBoundsAccessChain t l h = (t, inl h)
start_in s PtrAccessChain t l h = (t, inr h)
start_in s InBoundsPtrAccessChain t l h = (t, inr h)
