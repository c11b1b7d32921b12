-- Where the whole and both parts of a chain are accepted, they reach the same handle, byte and type, by walk and by steps. Assumes nothing.
use Prim.Native.Nat.{ℕ}
use mathlib.Core.Path.{◌≡◌, refl, sym, ap, ◌∙◌, subst}
use mathlib.Core.List.{List, [], ◌∷◌, ◌++◌}
use mathlib.Core.Option.{Option, none, some}
use lib.IntN.{ℤ, pos, +ℤ_assoc, +ℤ_idr}
use Rattle.std.specs.Prelude.{None}
use Rattle.arith.specs.Refusals.{ok}
use Rattle.arith.proofs.Results.{value_is, some_is, went}
use Rattle.spirv.specs.declared.ChainOp.{ChainOp}
use Rattle.spirv.specs.declared.ChainOp.TheVariants.{AccessChain}
use Rattle.spirv.specs.declared.Index.{Index}
use Rattle.shapes.specs.Shapes.{Components, Scalar, Elements, Fields, Opaque, Buffer, TypeLayout, Handle, HandleArray, Concrete}
use Rattle.sheet.specs.Sheet.{Sheet}
use Rattle.layout.specs.Layouts.{answer_in}
use Rattle.lower.specs.declared.QPtrOp.{QPtrOp}
use Rattle.lower.specs.Steps.{flush, lower_from}
use Rattle.lower.specs.Chain.{start_layout, chain_by}
use Rattle.lower.specs.Statements.{Accepted}
use Rattle.lower.proofs.Moves.{Begun, begun}
use Rattle.promise.specs.Meaning.{Values, WhichHandle, Spot, plus, moved, entered, picked, run}
use Rattle.promise.specs.Walk.{Walked, type_no, kind_of, layout_at, Place, walk, start_type, start_by, start}
use Rattle.promise.specs.Statements.{Walks}
use Rattle.promise.proofs.Agreement.{AgreesParts, Agrees, agrees}
use Rattle.promise.proofs.SameByte.{after, place, start_laid, start_place_lem, same_byte}
use Rattle.promise_split.specs.Parts.{lower_from_type, later_handle, added_byte, joined}
use Rattle.promise_split.specs.Statements.{TypeReached, SplitChains, SplitApart}
use Rattle.promise_split.proofs.Walks.{run_append, run_flush, walk_append, Left, left_of}
use Rattle.promise_split.proofs.Shifted.{Bytes, start_bytes, walk_bytes, Free, any_free, walk_shift}

-- ---- one walk only

pub one_walk : (s : Sheet) (op : ChainOp) (ptr : ℕ) (is : List Index) (v : Values) (a b : Walks s op ptr is v) → a.reached ≡ b.reached
one_walk s op ptr is v a b =
    some_is (sym a.walked ∙ ap (λ (t : ℕ). walk s v is (start s op t)) (value_is (sym a.points ∙ b.points)) ∙ b.walked)

-- ---- from the start

-- the first part as lowering leaves it, and its walk
pub record FromStart (s : Sheet) (op : ChainOp) (ptr : ℕ) (is : List Index) (first : List QPtrOp) : Type 0 where
  pub begin : Begun s op ptr is first
  pub left : Left s is (start_type op begin.pointee) begin.layout None first
  pub walks : (v : Values) → (w : Walks s op ptr is v) × (w.reached.type ≡ left.to)

pub from_start : (s : Sheet) (op : ChainOp) (ptr : ℕ) (is : List Index) (first : List QPtrOp) → Accepted s op ptr is first → FromStart s op ptr is first
unfolding start
from_start s op ptr is first h =
    let b = begun s op ptr is first h in
    let w = start_type op b.pointee in
    let from = start_by (kind_of s w) w in
    let k = left_of s is w b.layout (start_laid s op b.pointee ∙ b.laid) None first b.lowered in
    record {
      begin = b;
      left = k;
      walks = λ v.
          let r = k.walks v from.spot from.memory in
          (record { pointee = b.pointee; points = b.points; reached = _; walked = ap (walk s v is) (sym (start_place_lem (kind_of s w) w)) ∙ r.walked }, refl);
    }

pub type_reached : TypeReached
type_reached s op ptr i is steps h =
    let f = from_start s op ptr (i ∷ is) steps h in
    let (t, e) = f.left.ends in
    (t, λ v. let w = f.walks v in (w.0, w.1 ∙ e))

-- ---- the second part

-- its layout, and how it is lowered from there
pub record Second (s : Sheet) (t : ℕ) (js : List Index) (second : List QPtrOp) : Type 0 where
  pub layout : TypeLayout
  pub laid : layout_at s (type_no t) ≡ ok layout
  pub lowered : lower_from (answer_in s) layout None js ≡ ok second

pub second_of : (s : Sheet) (t : ℕ) (js : List Index) (second : List QPtrOp) → lower_from_type s t js ≡ ok second → Second s t js second
unfolding lower_from_type chain_by start_layout layout_at
second_of s t js second h =
    let a = went _ _ h in
    let l = went _ _ a.rest in
    record { layout = l.value; laid = ap (answer_in s) (value_is a.here) ∙ l.here; lowered = l.rest }

-- its steps reach what its walk reaches, from any spot
steps_walk : (s : Sheet) (t : ℕ) (js : List Index) (second : List QPtrOp) → Second s t js second → (v : Values) (σ : Spot) (μ : Option Walked) (q : Place)
    → walk s v js (place (type_no t) σ μ) ≡ some q → run v second σ ≡ q.spot
steps_walk s t js second d v σ μ q h =
    let k = left_of s js (type_no t) d.layout d.laid None second d.lowered in
    let r = k.walks v σ μ in
    ap (λ (x : List QPtrOp). run v x σ) k.first_is ∙ run_append v k.steps (flush k.waiting []) σ ∙ run_flush v k.waiting (run v k.steps σ)
    ∙ ap (λ (x : Place). x.spot) (some_is (sym r.walked ∙ h))

-- the walk of the second part, from where the first ended, ends where the whole's does
onward_walk : (s : Sheet) (op : ChainOp) (ptr : ℕ) (is js : List Index) (t : ℕ) (v : Values) (whole : Walks s op ptr (is ++ js) v) (first : Walks s op ptr is v)
    → first.reached.type ≡ type_no t → walk s v js (place (type_no t) first.reached.spot first.reached.memory) ≡ some whole.reached
onward_walk s op ptr is js t v whole first e =
    let same : first.pointee ≡ whole.pointee = value_is (sym first.points ∙ whole.points) in
    subst (λ (x : Walked). walk s v js (place x first.reached.spot first.reached.memory) ≡ some whole.reached) e
    (sym (walk_append s v is js (start s op first.pointee) first.reached first.walked) ∙ ap (λ (x : ℕ). walk s v (is ++ js) (start s op x)) same ∙ whole.walked)

pub split_chains : SplitChains
split_chains s op ptr is js whole first t second h v =
    let w = same_byte s op ptr (is ++ js) whole h.whole_accepted v in
    let f = same_byte s op ptr is first h.first_accepted v in
    let r = h.type_reached v in
    let at : f.by_walk.reached.type ≡ type_no t = ap (λ (x : Place). x.type) (one_walk s op ptr is v f.by_walk r.0) ∙ r.1 in
    let d = second_of s t js second h.second_accepted in
    let onward = onward_walk s op ptr is js t v w.by_walk f.by_walk at in
    let there = walk_shift s v (λ σ. σ) (λ σ z. refl) (λ σ z. refl) js (type_no t) d.layout d.laid (any_free s v (λ σ. σ) (λ σ z. refl) (λ σ z. refl) (λ σ. refl) d.layout)
    None second d.lowered f.by_walk.reached.spot f.by_walk.reached.memory w.by_walk.reached onward (start s AccessChain t).memory in
    let same : f.by_walk.pointee ≡ w.by_walk.pointee = value_is (sym f.by_walk.points ∙ w.by_walk.points) in
    record {
      whole_walk = w.by_walk;
      first_walk = f.by_walk;
      second_end = place w.by_walk.reached.type w.by_walk.reached.spot there.mem;
      second_walk = there.walked;
      same_handle = refl;
      same_byte = refl;
      same_type = refl;
      same_steps = ap (λ (x : ℕ). run v second (run v first (start s op x).spot)) (sym same) ∙ ap (run v second) f.by_steps
          ∙ steps_walk s t js second d v f.by_walk.reached.spot f.by_walk.reached.memory w.by_walk.reached onward ∙ sym w.by_steps;
      steps_reach = w.by_steps;
    }

-- ---- from a start of its own

with_byte : (σ : Spot) {a b : Option ℤ} → a ≡ b → ◌≡◌ {A = Spot} (record { handle = σ.handle; byte = a }) (record { handle = σ.handle; byte = b })
with_byte σ e = ap (λ (c : Option ℤ). record { handle = σ.handle; byte = c }) e

added_plus : (a b : Option ℤ) (z : ℤ) → added_byte a (plus b z) ≡ plus (added_byte a b) z
added_plus none b z = refl
added_plus (some x) none z = refl
added_plus (some x) (some y) z = ap some (sym (+ℤ_assoc x y z))

joined_moves : (first σ : Spot) (z : ℤ) → joined first (moved σ z) ≡ moved (joined first σ) z
joined_moves first σ z = with_byte (joined first σ) (added_plus first.byte σ.byte z)

joined_picks : (first σ : Spot) (z : ℤ) → joined first (picked σ z) ≡ picked (joined first σ) z
joined_picks first σ z = refl

joined_enters : (first : Spot) → first.byte ≡ none → (σ : Spot) → joined first (entered σ) ≡ entered (joined first σ)
joined_enters first e σ = with_byte (joined first σ) (ap (λ (b : Option ℤ). added_byte b (some (pos 0))) e)

module _ (s : Sheet) (v : Values) where
  free_by : (first : Spot) (l : TypeLayout) → Bytes l first.byte → Free s v (joined first) (joined_moves first) (joined_picks first) l
  free_by first (Handle k) b = joined_enters first b
  free_by first (HandleArray k n) b = joined_enters first b
  free_by first (Concrete m) b = tt

  -- op 65's start, joined to where the first part ended
  from_none : (first σ : Spot) → first.byte ≡ none → σ.handle ≡ WhichHandle.own → σ.byte ≡ none → joined first σ ≡ first
  from_none first σ e h b =
      ap (λ (x : WhichHandle). record { handle = later_handle first.handle x; byte = added_byte first.byte σ.byte }) h
      ∙ with_byte first (ap (λ (x : Option ℤ). added_byte x σ.byte) e ∙ b ∙ sym e)

  from_zero : (first σ : Spot) (x : ℤ) → first.byte ≡ some x → σ.handle ≡ WhichHandle.own → σ.byte ≡ some (pos 0) → joined first σ ≡ first
  from_zero first σ x e h b =
      ap (λ (x : WhichHandle). record { handle = later_handle first.handle x; byte = added_byte first.byte σ.byte }) h
      ∙ with_byte first (ap (λ (y : Option ℤ). added_byte y σ.byte) e ∙ ap (added_byte (some x)) b ∙ ap some (+ℤ_idr x) ∙ sym e)

  parts_start : (w : Walked) (c : Components) → AgreesParts s (kind_of s w) c → (first : Spot) (x : ℤ) → first.byte ≡ some x → joined first (start_by (kind_of s w) w).spot ≡ first
  parts_start w Scalar g first x e = rw g (from_zero first _ x e refl refl)
  parts_start w (Elements stride elem n) g first x e = rw g.1 (from_zero first _ x e refl refl)
  parts_start w (Fields os ms) g first x e = rw g (from_zero first _ x e refl refl)

  joined_start : (w : Walked) (l : TypeLayout) → Agrees s (kind_of s w) l → (first : Spot) → Bytes l first.byte → joined first (start_by (kind_of s w) w).spot ≡ first
  joined_start w (Handle Opaque) g first b = rw g (from_none first _ b refl refl)
  joined_start w (Handle (Buffer m)) g first b = rw g.3 (from_none first _ b refl refl)
  joined_start w (HandleArray h n) g first b = rw g.1 (from_none first _ b refl refl)
  joined_start w (Concrete m) g first b = parts_start w m.components g first b.0 b.1

pub split_apart : SplitApart
unfolding start start_type
split_apart s op ptr is js whole first t second h v =
    let w = (same_byte s op ptr (is ++ js) whole h.whole_accepted v).by_walk in
    let f = from_start s op ptr is first h.first_accepted in
    let one = f.walks v in
    let r = h.type_reached v in
    let σ = one.0.reached.spot in
    let at : one.0.reached.type ≡ type_no t = ap (λ (x : Place). x.type) (one_walk s op ptr is v one.0 r.0) ∙ r.1 in
    let d = second_of s t js second h.second_accepted in
    let onward = onward_walk s op ptr is js t v w one.0 at in
    let begin = start_type op f.begin.pointee in
    let from = start_by (kind_of s begin) begin in
    let laid = start_laid s op f.begin.pointee ∙ f.begin.laid in
    let walked : walk s v is (place begin from.spot from.memory) ≡ some one.0.reached =
    ap (walk s v is) (start_place_lem (kind_of s begin) begin) ∙ ap (λ (x : ℕ). walk s v is (start s op x)) (value_is (sym f.begin.points ∙ one.0.points)) ∙ one.0.walked in
    let bytes : Bytes d.layout σ.byte =
    walk_bytes s v is begin f.begin.layout laid None first f.begin.lowered from.spot from.memory one.0.reached
    (start_bytes s v begin f.begin.layout (agrees s begin f.begin.layout laid)) walked d.layout (ap (layout_at s) at ∙ d.laid) in
    let own = start_by (kind_of s (type_no t)) (type_no t) in
    let k = left_of s js (type_no t) d.layout d.laid None second d.lowered in
    let e = k.walks v own.spot own.memory in
    let there = walk_shift s v (joined σ) (joined_moves σ) (joined_picks σ) js (type_no t) d.layout d.laid (free_by s v σ d.layout bytes)
    None second d.lowered own.spot own.memory _ e.walked one.0.reached.memory in
    let begins : joined σ own.spot ≡ σ = joined_start s v (type_no t) d.layout (agrees s (type_no t) d.layout d.laid) σ bytes in
    let ends : place k.to (joined σ (after (run v k.steps own.spot) k.waiting)) there.mem ≡ w.reached =
    some_is (sym there.walked ∙ ap (λ (x : Spot). walk s v js (place (type_no t) x one.0.reached.memory)) begins ∙ onward) in
    record {
      whole_walk = w;
      first_walk = one.0;
      second_end = place k.to (after (run v k.steps own.spot) k.waiting) e.mem;
      second_walk = ap (walk s v js) (sym (start_place_lem (kind_of s (type_no t)) (type_no t))) ∙ e.walked;
      same_spot = ap (λ (x : Place). x.spot) ends;
      same_type = ap (λ (x : Place). x.type) ends;
    }
