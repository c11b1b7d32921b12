-- Laws of steps as records. Assumes nothing.
use Prim.Native.Nat.{ℕ, ◌+◌, ◌≤◌, ◌<◌, min}
use native.Mathlib.Nat.{not-suc-le-zero, le_of_suc-le-suc}
use native.Mathlib.Omega.{arith}
use native.Mathlib.Numerals.{add-one}
use mathlib.Core.Path.{◌≡◌, refl, sym, ap, ◌∙◌, subst}
use mathlib.Core.List.{List, [], ◌∷◌, ◌++◌}
use lib.ListN.{length, set}
use lib.IntN.{ℤ, pos}
use Rattle.arith.specs.Refusals.{Result, ok, refused, in_room, short_list}
use Rattle.arith.proofs.Results.{went, passed, in_room_lem}
use Rattle.arith.specs.InCode.{OrRefusal, err}
use Rattle.arith.specs.declared.refusal.Refusal.{Refusal}
use Rattle.std.specs.Prelude.{Ok, Err}
use Rattle.spirv.specs.declared.ChainOp.{ChainOp}
use Rattle.spirv.specs.declared.Index.{Index}
use Rattle.spirv.specs.declared.Index.TheVariants.{Known, Unknown}
use Rattle.lower.specs.declared.QPtrOp.{QPtrOp}
use Rattle.lower.specs.declared.QPtrOp.TheVariants.{HandleArrayIndex, BufferData, Offset, DynOffset}
use Rattle.steps.specs.Lists.{step_at, steps_in}
use Rattle.moves.specs.Written.{walk_of}
use Rattle.tabled.specs.Chains.{places, chain_at, chain_in}
use Rattle.tabled.specs.InCode.{held_by}
use Rattle.tabled.proofs.Laws.{steps_count, held_refused, held_short, held_whole}
use Rattle.recorded.specs.declared.QPtrChainStep.{QPtrChainStep}
use Rattle.recorded.specs.Records.{record_of, step_of, ReadsBack, records_over, Recorded}
use Rattle.recorded.specs.Held.{Held}
use Rattle.recorded.specs.Code.{code_of, Small}

-- ---- a step is read back from its record

pub reads_back : ReadsBack
unfolding record_of step_of
reads_back (HandleArrayIndex (Known w)) = refl
reads_back (HandleArrayIndex (Unknown v)) = refl
reads_back BufferData = refl
reads_back (Offset z) = refl
reads_back (DynOffset stride bound (Known w)) = refl
reads_back (DynOffset stride bound (Unknown v)) = refl

-- ---- the records of steps

over_next : (steps : List QPtrOp) (s : QPtrOp) (old : List QPtrChainStep) → length steps < length old → set (records_over steps old) (length steps) (record_of s) ≡ records_over (steps ++ (s ∷ [])) old
over_next [] s [] h = absurd (not-suc-le-zero h)
over_next [] s (y ∷ old) h = refl
over_next (t ∷ steps) s [] h = absurd (not-suc-le-zero h)
over_next (t ∷ steps) s (y ∷ old) h = ap (λ (l : List QPtrChainStep). record_of t ∷ l) (over_next steps s old (le_of_suc-le-suc h))

-- the list once the first i are written
module _ (ks bs ls ms is : List ℕ) (old : List QPtrChainStep) where
  abbrev pub so_far : ℕ → List QPtrChainStep
  so_far i = records_over (steps_in ks bs ls ms is i) old

  pub so_far_none : so_far 0 ≡ old
  unfolding steps_in
  so_far_none = refl

  pub so_far_next : (i : ℕ) → i < length old → set (so_far i) i (record_of (step_at ks bs ls ms is i)) ≡ so_far (i + 1)
  unfolding steps_in
  so_far_next i h =
      let c = steps_count ks bs ls ms is i in
      ap (λ (k : ℕ). set (so_far i) k (record_of (step_at ks bs ls ms is i))) (sym c)
      ∙ over_next (steps_in ks bs ls ms is i) (step_at ks bs ls ms is i) old (omega (arith, c, h))
      ∙ ap (λ (k : ℕ). records_over (steps_in ks bs ls ms is k) old) (sym (add-one i))

  -- what a walk left in the lists, as records in the lent list

  abbrev Given : OrRefusal ℕ → OrRefusal ℕ → List QPtrChainStep → Type 0
  Given w r new = Held (in_room (length old) length (held_by w ks bs ls ms is)) r old new

  pub put_refused : {w : OrRefusal ℕ} {e : Refusal} → w ≡ Err e → Given w (Err e) old
  put_refused h = let q = held_refused ks bs ls ms is (length old) h in record { says = rw q; holds = rw q }

  module _ {w : OrRefusal ℕ} {n : ℕ} (h : w ≡ Ok n) where
    pub put_short : length old < n → Given w (err short_list) old
    put_short short = let q = held_short ks bs ls ms is (length old) h short in record { says = rw q; holds = rw q }

    pub put_whole : n ≤ length old → {new : List QPtrChainStep} → new ≡ so_far n → Given w (Ok n) new
    put_whole fits e =
        let q = held_whole ks bs ls ms is (length old) h fits in
        let z : 0 + n ≡ n = omega arith in
        record { says = rw (q, steps_count ks bs ls ms is n, z); holds = rw q e }

-- ---- one number

within : (room : ℕ) (table : List ℕ) (o : ChainOp) (ptr : ℕ) (is : List Index) (steps : List QPtrOp) → chain_at room table o ptr is ≡ ok steps → length steps ≤ room
unfolding chain_at
within room table o ptr is steps h = let k = in_room_lem (min (places (length is)) room) length _ (passed _ _ (passed _ _ h)) in omega arith

-- a chain in a room that is small
pub small : (room : ℕ) (table : List ℕ) (op ptr : ℕ) (indices : List ℕ) {w : OrRefusal ℕ} → room < 9223372036854775808 → w ≡ walk_of 0 (chain_in room table op ptr indices) → Small w
unfolding chain_in
small room table op ptr indices h x = subst Small (sym x) (by (chain_in room table op ptr indices) refl)
  where
    by : (r : Result (List QPtrOp)) → chain_in room table op ptr indices ≡ r → Small (walk_of 0 r)
    by (refused e) i = tt
    by (ok steps) i =
        let v = went _ _ i in
        let u = went _ _ v.rest in
        let k = within room table v.value ptr u.value steps u.rest in
        omega arith

pub recorded : (q : Result (List QPtrOp)) {r : OrRefusal ℕ} {x : ℤ} {old new : List QPtrChainStep} → Held q r old new → x ≡ code_of r → Recorded q x old new
recorded (ok steps) h e = let z : 0 + length steps ≡ length steps = omega arith in record { says = e ∙ ap code_of h.says ∙ ap pos z; holds = h.holds }
recorded (refused n) h e = record { says = e ∙ ap code_of h.says; holds = h.holds }
