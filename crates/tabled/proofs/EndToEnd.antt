-- From a sheet's bytes to the bytes of the steps. Assumes nothing.
use Prim.Native.Nat.{ℕ, suc, ◌+◌, ◌*◌, ◌≤◌, ◌<◌, min}
use native.Mathlib.Omega.{arith}
use mathlib.Core.Path.{◌≡◌, refl, sym, ap, ◌∙◌}
use mathlib.Core.Bool.{Bool, true, false}
use mathlib.Core.List.{List}
use Rattle.std.specs.Prelude.{Option, Some, None, Ok}
use lib.Dec.{leb, ltb}
use lib.ListN.{length, drop}
use lib.Seq.{take_at}
use borrow.Author.Tests.{le-ltb, lt-ltb, ltb-true, ltb-false, leb-true}
use Rattle.arith.specs.Refusals.{Result, ok, refused, ◌>>=◌, ◌>>◌, refuse◌when◌, refuse◌unless◌, in_room, misread, oversize, short_list}
use Rattle.arith.proofs.Results.{went, passed, value_is, RefusedBy, fine_by, this_by, then_by, and_by, unless_by, when_by}
use Rattle.spirv.specs.declared.ChainOp.{ChainOp}
use Rattle.spirv.specs.declared.Index.{Index}
use Rattle.shapes.specs.declared.LayoutConfig.{LayoutConfig}
use Rattle.sheet.specs.Sheet.{Sheet, max_indices, pointee_in}
use Rattle.sheet.specs.Tables.{over}
use Rattle.sheet.proofs.GoodSheet.{reads_good}
use Rattle.layout.specs.Arrays.{Answer}
use Rattle.components.specs.Found.{answers_in}
use Rattle.lower.specs.declared.QPtrOp.{QPtrOp}
use Rattle.lower.specs.Chain.{chain_by, lower_chain, chain_in_room}
use Rattle.lower.proofs.StepsFit.{steps_fit}
use Rattle.moves.specs.Written.{walk_of, steps_of}
use Rattle.pointers.specs.OverTables.{pointee_at}
use Rattle.promise.proofs.Table.{chain_above_0}
use Rattle.wire.specs.Wire.{formed_bytes, indices_of, steps_bytes}
use Rattle.wire.proofs.Back.{step_back, indices_fit}
use Rattle.longest.proofs.Steps.{steps_numbers}
use Rattle.joined.proofs.EndToEnd.{kept_by}
use Rattle.flat.specs.Table.{count_in, setting_in, types_in, members_in, places_in, layouts_in}
use Rattle.flat.proofs.Parts.{Read, was_read}
use Rattle.flat.proofs.Answers.{pointees, answers}
use Rattle.tabled.specs.Chains.{op_of, op_in, places, chain_at, chain_in, room_in, Lowered}
use Rattle.tabled.specs.EndToEnd.{Calls, KeptSteps, KeptBytes, EndToEnd}
use Rattle.tabled.proofs.Laws.{steps_size, by_result}
use Rattle.tabled.proofs.Fit.{all_fit}

-- ---- what a table that was read answers

-- a room that holds all steps there are is none
wider : (p room : ℕ) (r : Result (List QPtrOp)) → ((steps : List QPtrOp) → r ≡ ok steps → length steps ≤ p) → in_room (min p room) length r ≡ in_room room length r
unfolding in_room ◌>>=◌ ◌>>◌ refuse◌when◌
wider p room (refused n) h = refl
wider p room (ok x) h = by (ltb room (length x)) refl
  where
    by : (b : Bool) → ltb room (length x) ≡ b → in_room (min p room) length (ok x) ≡ in_room room length (ok x)
    by true e = let g = ltb-true room (length x) e in rw (e, lt-ltb (min p room) (length x) (omega arith))
    by false e = let g = ltb-false room (length x) e in let k = h x refl in rw (e, le-ltb (min p room) (length x) (omega arith))

enough_places : (k : ℕ) → k ≤ max_indices → suc k ≤ places k
enough_places k h = by (leb k 8) refl
  where
    by : (b : Bool) → leb k 8 ≡ b → suc k ≤ places k
    by true e = let g = leb-true k 8 e in rw e (omega arith)
    by false e = rw e (omega arith)

no_pointee : (cfg : LayoutConfig) (types : List ℕ) (n : ℕ) (answer-of : ℕ → Answer) (o : ChainOp) (ptr : ℕ) (is : List Index) → ltb ptr n ≡ false
    → chain_by cfg (pointee_at types n) answer-of o ptr is ≡ refused misread
unfolding chain_by pointee_at ◌>>=◌
no_pointee cfg types n answer-of o ptr is e = rw e

module _ {input table : List ℕ} {n : ℕ} (r : Read input table n) where
  abbrev s : Sheet
  s = r.sheet

  same_chain : (room : ℕ) (o : ChainOp) (ptr : ℕ) (is : List Index) → length is ≤ max_indices → chain_at room table o ptr is ≡ chain_in_room room s o ptr is
  unfolding chain_at chain_in_room in_room ◌>>=◌ ◌>>◌ refuse◌unless◌ refuse◌when◌
  same_chain room o ptr is few = by (ltb ptr (count_in table)) refl
    where
      same_steps : chain_by (setting_in table) (pointee_at (types_in table) (count_in table)) (answers_in (layouts_in table) (count_in table) (places_in table) (members_in table)) o ptr is ≡ lower_chain s o ptr is
      same_steps =
          ap (λ (g : LayoutConfig). chain_by g (pointee_at (types_in table) (count_in table)) (answers_in (layouts_in table) (count_in table) (places_in table) (members_in table)) o ptr is) r.parts.setting
          ∙ ap (λ (p : ℕ → Result ℕ). chain_by s.setting p (answers_in (layouts_in table) (count_in table) (places_in table) (members_in table)) o ptr is) (pointees r)
          ∙ ap (λ (a : ℕ → Answer). chain_by s.setting (pointee_in s) a o ptr is) (answers r)

      by : (b : Bool) → ltb ptr (count_in table) ≡ b → chain_at room table o ptr is ≡ chain_in_room room s o ptr is
      by true e =
          rw (e, le-ltb max_indices (length is) few)
          (ap (in_room (min (places (length is)) room) length) same_steps
          ∙ wider (places (length is)) room (lower_chain s o ptr is) λ steps h. omega (arith, (steps_fit s o ptr is steps h).1, enough_places (length is) few))
      by false e = rw e (sym (ap (in_room room length) (sym same_steps ∙ no_pointee (setting_in table) (types_in table) (count_in table) (answers_in (layouts_in table) (count_in table) (places_in table) (members_in table)) o ptr is e)))

-- ---- what is asked

is_op : (r : Option ChainOp) (o : ChainOp) → op_in r ≡ ok o → r ≡ Some o
is_op (Some p) o h = ap Some (value_is h)
is_op None o h = absurd (let z : ◌≡◌ {A = ℕ} 0 1 = cc in omega arith)

not_longer : (k : ℕ) (x : Result (List QPtrOp)) (steps : List QPtrOp) → ((refuse oversize when ltb max_indices k) >> x) ≡ ok steps → k ≤ max_indices
unfolding refuse◌when◌ ◌>>◌
not_longer k x steps h = by (ltb max_indices k) refl h
  where
    by : (b : Bool) → ltb max_indices k ≡ b → ((refuse oversize when b) >> x) ≡ ok steps → k ≤ max_indices
    by false e g = ltb-false max_indices k e
    by true e g = absurd (let z : ◌≡◌ {A = ℕ} 0 1 = cc in omega arith)

few_asked : (room : ℕ) (table : List ℕ) (o : ChainOp) (ptr : ℕ) (is : List Index) (steps : List QPtrOp) → chain_at room table o ptr is ≡ ok steps → length is ≤ max_indices
unfolding chain_at
few_asked room table o ptr is steps h = not_longer (length is) _ steps (passed _ _ h)

lowered_in : (room : ℕ) (s : Sheet) (o : ChainOp) (ptr : ℕ) (is : List Index) (steps : List QPtrOp) → chain_in_room room s o ptr is ≡ ok steps → lower_chain s o ptr is ≡ ok steps
unfolding chain_in_room in_room
lowered_in room s o ptr is steps h =
    let w = went (lower_chain s o ptr is) _ h in
    w.here ∙ ap ok (value_is (passed _ _ w.rest))

-- ---- of a table that was read

module _ {input table : List ℕ} {n : ℕ} (r : Read input table n) (op ptr : ℕ) (chain : List ℕ) (room : ℕ) where
  -- what is answered is document 01's C for the sheet
  pub in_sheet : (o : ChainOp) (is : List Index) → op_of op ≡ Some o → indices_of chain ≡ ok is → length is ≤ max_indices → chain_in room table op ptr chain ≡ chain_in_room room r.sheet o ptr is
  unfolding chain_in ◌>>=◌
  in_sheet o is eo ei few = asked eo ei ∙ same_chain r room o ptr is few
    where
      asked : op_of op ≡ Some o → indices_of chain ≡ ok is → chain_in room table op ptr chain ≡ chain_at room table o ptr is
      asked f g = rw (f, g)

  -- and its steps keep demand 3
  pub kept_steps : (steps : List QPtrOp) → chain_in room table op ptr chain ≡ ok steps → KeptSteps r.sheet op ptr chain steps
  unfolding chain_in
  kept_steps steps h =
      let w = went (op_in (op_of op)) _ h in
      let v = went (indices_of chain) _ w.rest in
      let few = few_asked room table w.value ptr v.value steps v.rest in
      let lowered = lowered_in room r.sheet w.value ptr v.value steps (sym (same_chain r room w.value ptr v.value few) ∙ v.rest) in
      record {
        asked = w.value;
        by_number = is_op (op_of op) w.value w.here;
        indices = v.value;
        by_bytes = v.here;
        kept = kept_by r.sheet w.value ptr v.value steps lowered;
      }

-- ---- no refusal of such a table is 0

abbrev Above : {A : Type 0} → Result A → Type 0
Above x = RefusedBy (λ n. 0 < n) x

op_above : (r : Option ChainOp) → Above (op_in r)
op_above (Some o) = fine_by
op_above None = this_by (omega arith)

indices_above : (chain : List ℕ) → Above (indices_of chain)
unfolding indices_of
indices_above chain = and_by _ _ (unless_by misread (formed_bytes chain) (omega arith)) fine_by

module _ {input table : List ℕ} {n : ℕ} (r : Read input table n) (ptr room : ℕ) where
  in_room_above : (x : Result (List QPtrOp)) → Above x → Above (in_room room length x)
  unfolding in_room
  in_room_above x h = then_by x _ h λ steps e. and_by _ _ (when_by short_list (ltb room (length steps)) (omega arith)) fine_by

  there : ptr < count_in table → ptr < length r.sheet.types
  there h = rw r.parts.count at h

  at_above : (o : ChainOp) (is : List Index) → Above (chain_at room table o ptr is)
  unfolding chain_at chain_in_room ◌>>◌ refuse◌unless◌ refuse◌when◌
  at_above o is = by (ltb ptr (count_in table)) (ltb max_indices (length is)) refl refl
    where
      by : (t m : Bool) → ltb ptr (count_in table) ≡ t → ltb max_indices (length is) ≡ m → Above (chain_at room table o ptr is)
      by false m e f = rw e (this_by (omega arith))
      by true true e f = rw (e, f) (this_by (omega arith))
      by true false e f =
          rw (same_chain r room o ptr is (ltb-false max_indices (length is) f))
          (in_room_above (lower_chain r.sheet o ptr is) (chain_above_0 r.sheet (reads_good input r.sheet r.is_sheet) o ptr is (there (ltb-true ptr (count_in table) e))))

  pub chain_above : (op : ℕ) (chain : List ℕ) → Above (chain_in room table op ptr chain)
  unfolding chain_in
  chain_above op chain = then_by (op_in (op_of op)) _ (op_above (op_of op)) λ o e. then_by (indices_of chain) _ (indices_above chain) λ is f. at_above o is

-- ---- both

module _ (input : List ℕ) (op ptr : ℕ) (chain : List ℕ) (c : Calls input op ptr chain) where
  r : Read input c.table c.n
  r = was_read input c.n c.table₀ c.table c.read

  answered : (o : ChainOp) (is : List Index) → op_of op ≡ Some o → indices_of chain ≡ ok is → length is ≤ max_indices
      → Lowered (chain_in_room (room_in c.out₀) r.sheet o ptr is) c.answer c.out₀ c.out
  answered o is eo ei few = by_result (sym (in_sheet r op ptr chain (room_in c.out₀) o is eo ei few)) c.lowered

  kept : (count : ℕ) → c.answer ≡ Ok count → KeptBytes r.sheet op ptr chain c.out count
  kept count e = by (chain_in (room_in c.out₀) c.table op ptr chain) refl (sym e ∙ c.lowered.says) c.lowered.holds
    where
      by : (x : Result (List QPtrOp)) → chain_in (room_in c.out₀) c.table op ptr chain ≡ x → Ok count ≡ walk_of 0 x → c.out ≡ over (steps_bytes (steps_of x)) c.out₀
          → KeptBytes r.sheet op ptr chain c.out count
      by (refused m) i h k = absurd (let z : ◌≡◌ {A = ℕ} 0 1 = cc in omega arith)
      by (ok steps) i h k =
          let counted : count ≡ 0 + length steps = cc in
          let d = kept_steps r op ptr chain (room_in c.out₀) steps i in
          record {
            steps = steps;
            many = omega (arith, counted);
            bytes = rw k (take_at (steps_bytes steps) (drop (length (steps_bytes steps)) c.out₀) (20 * count) (omega (arith, counted, steps_size steps)));
            each = λ all j step g. rw k (step_back steps (drop (length (steps_bytes steps)) c.out₀)
                (all_fit steps (steps_numbers r.sheet (reads_good input r.sheet r.is_sheet) d.asked ptr d.indices (indices_fit chain d.indices all d.by_bytes) steps d.kept.accepted)
                (steps_fit r.sheet d.asked ptr d.indices steps d.kept.accepted).0) j step g);
            kept = d;
          }

pub end_to_end : EndToEnd
end_to_end input op ptr chain c = record {
  sheet = (r input op ptr chain c).sheet;
  is_sheet = (r input op ptr chain c).is_sheet;
  types = (r input op ptr chain c).types;
  answered = answered input op ptr chain c;
  kept = kept input op ptr chain c;
}
