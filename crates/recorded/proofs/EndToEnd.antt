-- From a sheet's bytes to records, and that the records are the steps of the byte form: both by citing tabled. Assumes nothing.
use Prim.Native.Nat.{ℕ, zero, suc, ◌+◌, ◌*◌, ◌<◌, ◌≤◌}
use native.Mathlib.Omega.{arith}
use Rattle.std.specs.Prelude.{Some}
use mathlib.Core.Path.{◌≡◌, refl, sym, ap, ◌∙◌, subst}
use mathlib.Core.List.{List, [], ◌∷◌, map}
use lib.IntN.{pos, neg_ℤ}
use lib.ListN.{length, take, drop, length-map}
use lib.Seq.{take_at}
use Rattle.arith.specs.Refusals.{Result, ok, refused}
use Rattle.spirv.specs.declared.ChainOp.{ChainOp}
use Rattle.spirv.specs.declared.Index.{Index}
use Rattle.sheet.specs.Sheet.{max_indices}
use Rattle.lower.specs.declared.QPtrOp.{QPtrOp}
use Rattle.lower.specs.Chain.{chain_in_room}
use Rattle.moves.specs.Written.{walk_of, steps_of}
use Rattle.sheet.specs.Tables.{over}
use Rattle.wire.specs.Wire.{indices_of, steps_bytes}
use Rattle.flat.proofs.Parts.{Read, was_read}
use Rattle.tabled.specs.Chains.{op_of, chain_in}
use Rattle.tabled.proofs.Laws.{steps_size}
use Rattle.tabled.proofs.EndToEnd.{in_sheet, kept_steps, chain_above}
use Rattle.recorded.specs.declared.QPtrChainStep.{QPtrChainStep}
use Rattle.recorded.specs.Records.{record_of, step_of, count_of, records_over, Recorded}
use Rattle.recorded.specs.EndToEnd.{Calls, KeptRecords, EndToEnd, Same, SameSteps}
use Rattle.recorded.specs.Code.{code_of}
use Rattle.recorded.proofs.Laws.{reads_back}

-- ---- records in front of a list

taken : (steps : List QPtrOp) (old : List QPtrChainStep) (n : ℕ) → length steps ≡ n → take n (records_over steps old) ≡ map record_of steps
taken steps old n e = take_at (map record_of steps) (drop (length steps) old) n (length-map steps record_of ∙ e)

all_back : (steps : List QPtrOp) → map step_of (map record_of steps) ≡ steps
all_back [] = refl
all_back (s ∷ ss) = ap (λ (t : QPtrOp). t ∷ map step_of (map record_of ss)) (reads_back s) ∙ ap (λ (l : List QPtrOp). s ∷ l) (all_back ss)

-- ---- end to end

-- minus a number above 0 is no count
not_above : (e n : ℕ) → 0 < e → neg_ℤ (pos e) ≡ pos n → ⊥
not_above zero n h g = absurd (omega (arith, h))
not_above (suc e) n h g = let z : ◌≡◌ {A = ℕ} 0 1 = cc in omega arith

module _ (input : List ℕ) (op ptr : ℕ) (chain : List ℕ) (c : Calls input op ptr chain) where
  r : Read input c.table c.n
  r = was_read input c.n c.table₀ c.table c.read

  answered : (o : ChainOp) (is : List Index) → op_of op ≡ Some o → indices_of chain ≡ ok is → length is ≤ max_indices
      → Recorded (chain_in_room (length c.old) r.sheet o ptr is) c.answer c.old c.new
  answered o is eo ei few = subst (λ (x : Result (List QPtrOp)). Recorded x c.answer c.old c.new) (in_sheet r op ptr chain (length c.old) o is eo ei few) c.lowered

  kept : (count : ℕ) → c.answer ≡ pos count → KeptRecords r.sheet op ptr chain c.new count
  kept count e = by (chain_in (length c.old) c.table op ptr chain) refl (sym e ∙ c.lowered.says) c.lowered.holds
    where
      by : (x : Result (List QPtrOp)) → chain_in (length c.old) c.table op ptr chain ≡ x → pos count ≡ count_of x → c.new ≡ records_over (steps_of x) c.old → KeptRecords r.sheet op ptr chain c.new count
      by (refused m) i h k = absurd (not_above m count ((chain_above r ptr (length c.old) op chain).only m i) (sym h))
      by (ok steps) i h k =
          let many : length steps ≡ count = cc in
          let front : take count c.new ≡ map record_of steps = ap (take count) k ∙ taken steps c.old count many in
          record {
            steps = steps;
            many = many;
            records_of = front;
            read_as = ap (map step_of) front ∙ all_back steps;
            kept = kept_steps r op ptr chain (length c.old) steps i;
          }

  untouched : ((count : ℕ) → c.answer ≡ pos count → ⊥) → c.new ≡ c.old
  untouched none = by (chain_in (length c.old) c.table op ptr chain) c.lowered.says c.lowered.holds
    where
      by : (x : Result (List QPtrOp)) → c.answer ≡ count_of x → c.new ≡ records_over (steps_of x) c.old → c.new ≡ c.old
      by (refused m) h k = k
      by (ok steps) h k = absurd (none (length steps) h)

pub end_to_end : EndToEnd
end_to_end input op ptr chain c = record {
  sheet = (r input op ptr chain c).sheet;
  is_sheet = (r input op ptr chain c).is_sheet;
  types = (r input op ptr chain c).types;
  answered = answered input op ptr chain c;
  kept = kept input op ptr chain c;
  untouched = untouched input op ptr chain c;
}

-- ---- the bytes of `lower_chain`

pub same_steps : SameSteps
same_steps table op ptr chain w bytes bytes' answer old new room x y =
    by (chain_in (length old) table op ptr chain) (x.says ∙ ap (λ (k : ℕ). walk_of 0 (chain_in k table op ptr chain)) room) (x.holds ∙ ap (λ (k : ℕ). over (steps_bytes (steps_of (chain_in k table op ptr chain))) bytes) room) y.says y.holds
  where
    by : (q : Result (List QPtrOp)) → w ≡ walk_of 0 q → bytes' ≡ over (steps_bytes (steps_of q)) bytes → answer ≡ count_of q → new ≡ records_over (steps_of q) old → Same w bytes' answer new
    by (refused e) a b d f = record { says = d ∙ ap code_of (sym a); steps = λ n g. absurd (let h = sym a ∙ g in let z : ◌≡◌ {A = ℕ} 0 1 = cc in omega arith) }
    by (ok steps) a b d f = record {
      says = d ∙ ap pos (omega arith) ∙ ap code_of (sym a);
      steps = λ n g.
          let h = sym a ∙ g in
          let m : 0 + length steps ≡ n = cc in
          let many : length steps ≡ n = omega (arith, m) in
          ap (take (20 * n)) b ∙ take_at (steps_bytes steps) (drop (length (steps_bytes steps)) bytes) (20 * n) (omega (arith, many, steps_size steps))
          ∙ ap steps_bytes (sym (all_back steps) ∙ ap (map step_of) (sym (ap (take n) f ∙ taken steps old n many)));
    }
