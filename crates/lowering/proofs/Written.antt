-- Steps that were written into five lists, read from them again. Assumes nothing.
use Prim.Native.Nat.{ℕ, suc, ◌+◌, ◌≤◌}
use native.Mathlib.Omega.{arith}
use mathlib.Core.Path.{◌≡◌, refl, ap, ◌∙◌}
use mathlib.Core.Bool.{Bool, true, false}
use mathlib.Core.List.{List, [], ◌∷◌, ◌++◌}
use lib.Dec.{ltb}
use lib.ListN.{length, drop}
use lib.Seq.{sets}
use borrow.Author.Tests.{ltb-false}
use Rattle.arith.specs.Refusals.{Result, ok, refused, ◌>>=◌, ◌>>◌, refuse◌when◌, refuse◌unless◌, in_room, misread, oversize, short_list}
use Rattle.spirv.specs.declared.ChainOp.{ChainOp}
use Rattle.shapes.specs.declared.LayoutConfig.{LayoutConfig}
use Rattle.sheet.proofs.Tables.{front}
use Rattle.lower.specs.declared.QPtrOp.{QPtrOp}
use Rattle.lower.specs.declared.QPtrOp.TheVariants.{HandleArrayIndex, BufferData, Offset, DynOffset}
use Rattle.lower.specs.Statements.{FitSteps}
use Rattle.steps.specs.declared.StepWords.{StepWords}
use Rattle.steps.specs.Lists.{steps_in, column, offsets_fit}
use Rattle.steps.specs.Stored.{StoredAt}
use Rattle.steps.proofs.Back.{lists_read_back}
use Rattle.std.specs.Prelude.{Ok}
use Rattle.moves.specs.Written.{walk_of}
use Rattle.chain.specs.Chains.{room_of}
use Rattle.pointers.specs.OverTables.{chain_over}

-- ---- steps that were written are those that the lists hold

fit_offsets : (steps : List QPtrOp) → FitSteps steps → offsets_fit steps ≡ true
fit_offsets [] f = refl
fit_offsets (HandleArrayIndex i ∷ ss) f = fit_offsets ss f.1
fit_offsets (BufferData ∷ ss) f = fit_offsets ss f.1
fit_offsets (Offset z ∷ ss) f = rw f.0 (fit_offsets ss f.1)
fit_offsets (DynOffset stride bound i ∷ ss) f = fit_offsets ss f.1

column_length : (word : StepWords → ℕ) (steps : List QPtrOp) → length (column word steps) ≡ length steps
column_length word [] = refl
column_length word (s ∷ ss) = ap suc (column_length word ss)

stored_column : (word : StepWords → ℕ) (steps : List QPtrOp) (old new : List ℕ) → length steps ≤ length old → new ≡ sets old 0 (column word steps) → new ≡ column word steps ++ drop (length steps) old
stored_column word steps old new h e =
    e ∙ front old (column word steps) (omega (arith, column_length word steps)) ∙ ap (λ (k : ℕ). column word steps ++ drop k old) (column_length word steps)

pub read_again : (steps : List QPtrOp) (k b l m i k' b' l' m' i' : List ℕ) → FitSteps steps → length steps ≤ room_of k b l m i → StoredAt 0 steps k b l m i k' b' l' m' i'
    → steps_in k' b' l' m' i' (length steps) ≡ steps
read_again steps k b l m i k' b' l' m' i' fit room s =
    rw (
      stored_column (λ w. w.kind) steps k k' (omega arith) s.kinds,
      stored_column (λ w. w.bytes) steps b b' (omega arith) s.bytes,
      stored_column (λ w. w.bound) steps l l' (omega arith) s.bounds,
      stored_column (λ w. w.mark) steps m m' (omega arith) s.marks,
      stored_column (λ w. w.index) steps i i' (omega arith) s.indices,
    ) (lists_read_back steps (fit_offsets steps fit) (drop (length steps) k) (drop (length steps) b) (drop (length steps) l) (drop (length steps) m) (drop (length steps) i))

-- ---- an answer that is a count

-- no chain of more indices is answered so
pub few_indices : (room : ℕ) (cfg : LayoutConfig) (n : ℕ) (types layouts offsets members : List ℕ) (op : ChainOp) (ptr : ℕ) (chain : List ℕ) (count : ℕ)
    → Ok count ≡ walk_of 0 (chain_over room cfg n types layouts offsets members op ptr chain) → length chain ≤ 510
unfolding chain_over refuse◌unless◌ refuse◌when◌ ◌>>◌
few_indices room cfg n types layouts offsets members op ptr chain count h = by (ltb ptr n) (ltb 510 (length chain)) _ refl h
  where
    by : (a b : Bool) (r : Result (List QPtrOp)) → ltb 510 (length chain) ≡ b → Ok count ≡ walk_of 0 ((refuse misread unless a) >> ((refuse oversize when b) >> r)) → length chain ≤ 510
    by a false r e g = ltb-false 510 (length chain) e
    by true true r e g = absurd (let z : ◌≡◌ {A = ℕ} 0 1 = cc in omega arith)
    by false true r e g = absurd (let z : ◌≡◌ {A = ℕ} 0 1 = cc in omega arith)

pub record Counted (room : ℕ) (r : Result (List QPtrOp)) (count : ℕ) : Type 0 where
  pub steps : List QPtrOp
  pub lowered : r ≡ ok steps
  pub result : in_room room length r ≡ ok steps
  pub many : count ≡ length steps
  pub fits : length steps ≤ room

pub counted : (room : ℕ) (r : Result (List QPtrOp)) (count : ℕ) → Ok count ≡ walk_of 0 (in_room room length r) → Counted room r count
unfolding in_room ◌>>=◌ ◌>>◌ refuse◌when◌
counted room (refused e) count h = absurd (let z : ◌≡◌ {A = ℕ} 0 1 = cc in omega arith)
counted room (ok steps) count h = by (ltb room (length steps)) refl h
  where
    by : (b : Bool) → ltb room (length steps) ≡ b → Ok count ≡ walk_of 0 ((refuse short_list when b) >> ok steps) → Counted room (ok steps) count
    by true e g = absurd (let z : ◌≡◌ {A = ℕ} 0 1 = cc in omega arith)
    by false e g = record { steps = steps; lowered = refl; result = rw e; many = let z : count ≡ 0 + length steps = cc in z ∙ omega arith; fits = ltb-false room (length steps) e }
