-- From what a chain's walk says and stores to its steps. Assumes nothing.
use Prim.Native.Nat.{ℕ, ◌≤◌}
use native.Mathlib.Omega.{arith}
use mathlib.Core.Path.{◌≡◌, refl, sym, ap, ◌∙◌, subst}
use mathlib.Core.Bool.{Bool, true, false}
use mathlib.Core.List.{List}
use lib.Dec.{ltb}
use lib.ListN.{length}
use borrow.Author.Tests.{le-ltb}
use Rattle.arith.specs.Refusals.{Result, ok, refused, ◌>>=◌, ◌>>◌, refuse◌when◌, refuse◌unless◌, in_room}
use Rattle.arith.proofs.Results.{went}
use Rattle.spirv.specs.declared.ChainOp.{ChainOp}
use Rattle.spirv.specs.declared.Index.{Index}
use Rattle.shapes.specs.declared.LayoutConfig.{LayoutConfig}
use Rattle.layout.specs.Arrays.{Answer}
use Rattle.components.specs.Found.{answers_in}
use Rattle.lower.specs.declared.QPtrOp.{QPtrOp}
use Rattle.lower.specs.Chain.{chain_by}
use Rattle.lower.specs.Statements.{FitSteps}
use Rattle.lower.proofs.StepsFit.{bytes_fit}
use Rattle.steps.specs.Lists.{steps_in}
use Rattle.steps.specs.Stored.{StoredAt}
use Rattle.moves.specs.Moves.{indices_in}
use Rattle.moves.specs.Written.{walk_of, steps_of, Wrote}
use Rattle.std.specs.Prelude.{Ok, Err}
use Rattle.arith.specs.InCode.{OrRefusal}
use Rattle.arith.specs.declared.refusal.Refusal.{Refusal}
use Rattle.chain.specs.Chains.{room_of}
use Rattle.pointers.specs.OverTables.{pointee_at, chain_over}
use Rattle.lowering.proofs.Written.{counted, read_again}
use Rattle.pointing.specs.Pointing.{steps_in_room}

-- the bytes of a chain's offsets
chain_fits : (cfg : LayoutConfig) (pointee-of : ℕ → Result ℕ) (answer-of : ℕ → Answer) (op : ChainOp) (ptr : ℕ) (is : List Index) (steps : List QPtrOp)
    → chain_by cfg pointee-of answer-of op ptr is ≡ ok steps → FitSteps steps
unfolding chain_by
chain_fits cfg pointee-of answer-of op ptr is steps h =
    let t = went _ _ h in
    let l = went _ _ t.rest in
    bytes_fit answer-of l.value is steps l.rest

module _ (cfg : LayoutConfig) (n : ℕ) (types layouts offsets members : List ℕ) (op : ChainOp) (ptr : ℕ) (chain : List ℕ) (short : length chain ≤ 510) where
  -- of at most 255 indices
  chain_is : chain_over 256 cfg n types layouts offsets members op ptr chain ≡ steps_in_room n types layouts offsets members cfg op ptr (indices_in chain)
  unfolding chain_over chain_by pointee_at ◌>>=◌ ◌>>◌ refuse◌when◌ refuse◌unless◌ in_room
  chain_is = by (ltb ptr n) refl
    where
      by : (b : Bool) → ltb ptr n ≡ b → chain_over 256 cfg n types layouts offsets members op ptr chain ≡ steps_in_room n types layouts offsets members cfg op ptr (indices_in chain)
      by true e = rw (e, le-ltb 510 (length chain) short)
      by false e = rw e

  module _ {w : OrRefusal ℕ} {ks bs ls ms is ks' bs' ls' ms' is' : List ℕ} (x : Wrote 0 (chain_over 256 cfg n types layouts offsets members op ptr chain) w ks bs ls ms is ks' bs' ls' ms' is') where
    said : (v : OrRefusal ℕ) → w ≡ v → v ≡ walk_of 0 (steps_in_room n types layouts offsets members cfg op ptr (indices_in chain))
    said v e = sym e ∙ (x.says ∙ ap (walk_of 0) chain_is)

    pub steps_are : (count : ℕ) → w ≡ Ok count → 256 ≤ room_of ks bs ls ms is
        → steps_in_room n types layouts offsets members cfg op ptr (indices_in chain) ≡ ok (steps_in ks' bs' ls' ms' is' count)
    steps_are count e room =
        let answers = answers_in layouts n offsets members in
        let k = counted 256 (chain_by cfg (pointee_at types n) answers op ptr (indices_in chain)) count (said (Ok count) e) in
        let fit = chain_fits cfg (pointee_at types n) answers op ptr (indices_in chain) k.steps k.lowered in
        let stored : StoredAt 0 k.steps ks bs ls ms is ks' bs' ls' ms' is' =
        subst (λ (o : Result (List QPtrOp)). StoredAt 0 (steps_of o) ks bs ls ms is ks' bs' ls' ms' is') (chain_is ∙ k.result) x.stored in
        let again = read_again k.steps ks bs ls ms is ks' bs' ls' ms' is' fit (omega (arith, k.fits)) stored in
        k.result ∙ ap ok (sym (ap (steps_in ks' bs' ls' ms' is') k.many ∙ again))

    pub refusal_is : (e : Refusal) → w ≡ Err e → steps_in_room n types layouts offsets members cfg op ptr (indices_in chain) ≡ refused e.number
    refusal_is e h = by (steps_in_room n types layouts offsets members cfg op ptr (indices_in chain)) (said (Err e) h)
      where
        number_in : OrRefusal ℕ → ℕ
        number_in (Ok k) = 0
        number_in (Err f) = f.number

        by : (r : Result (List QPtrOp)) → Err e ≡ walk_of 0 r → r ≡ refused e.number
        by (ok steps) f = absurd (let z : ◌≡◌ {A = ℕ} 0 1 = cc in omega arith)
        by (refused m) f = let z : e.number ≡ m = ap number_in f in ap refused (sym z)
