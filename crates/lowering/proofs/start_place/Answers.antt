-- `lowering::start_place` meets its contract: by the op. Assumes nothing.
use mathlib.Core.Logic.{inl, inr}
use Rattle.std.proofs.Common.{refl}
use Rattle.shapes.specs.Rows.{answer_at}
use Rattle.lower.specs.Chain.{start_layout}
use Rattle.lowering.proofs.start_place.Goals as goal

pub returns-in-AccessChain : goal.returns-in-AccessChain
unfolding start_layout
returns-in-AccessChain c =
    let a = c.args in
    record { answer = answer_at a.tables.now.layouts.rows.now a.tables.now.layouts.count a.t; found = c.place_at.ensures; says = record { by = λ f. elim c.in-AccessChain.is [ inl e ↦ rw e refl | inr e ↦ rw e refl ] } }

pub returns-in-PtrAccessChain : goal.returns-in-PtrAccessChain
unfolding start_layout
returns-in-PtrAccessChain c = elim c.in-PtrAccessChain.is [ inl e ↦ rw e c.start_array.ensures | inr e ↦ rw e c.start_array.ensures ]
