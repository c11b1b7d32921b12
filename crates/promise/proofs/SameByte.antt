-- For every accepted chain and every value of its unknowns each index finds its part, and steps and typed walk end at the same handle and byte. Assumes nothing.
use Prim.Native.Nat.{ℕ}
use mathlib.Core.Path.{◌≡◌, refl, sym, ap, ◌∙◌, subst}
use mathlib.Core.Bool.{Bool, true, false, cond, false≢true}
use mathlib.Core.List.{List, [], ◌∷◌, ◌++◌}
use mathlib.Core.Option.{Option, none, some}
use lib.IntN.{ℤ, pos, negsuc, ◌+ℤ◌, ◌*ℤ◌, +ℤ_assoc, +ℤ_idr}
use lib.ListN.{get_elem?}
use borrow.Author.Tests.{eqb-true}
use Rattle.std.specs.Prelude.{None, Some}
use Rattle.arith.specs.Options.{◌>>=◌}
use Rattle.arith.specs.Refusals.{ok}
use Rattle.arith.specs.Numbers.{is_zero}
use Rattle.arith.proofs.Results.{passed, value_is}
use Rattle.spirv.specs.declared.Index.{Index}
use Rattle.spirv.specs.declared.ChainOp.{ChainOp}
use Rattle.spirv.specs.declared.ChainOp.TheVariants.{AccessChain, InBoundsAccessChain, PtrAccessChain, InBoundsPtrAccessChain}
use Rattle.shapes.specs.Shapes.{Components, Scalar, Elements, Fields, Opaque, Buffer, MemTypeLayout, TypeLayout, Handle, HandleArray, Concrete}
use Rattle.sheet.specs.Sheet.{Sheet}
use Rattle.layout.specs.Layouts.{answer_in}
use Rattle.lower.specs.declared.QPtrOp.{QPtrOp}
use Rattle.lower.specs.declared.QPtrOp.TheVariants.{HandleArrayIndex, BufferData, DynOffset}
use Rattle.lower.specs.Steps.{Pending, flush, added, merged, Move, bound_of, lower_from}
use Rattle.lower.specs.Chain.{start_layout}
use Rattle.lower.proofs.Moves.{ToField, ToElement, ByConstant, ToPart, Moved, first_of, none_left, begun}
use Rattle.promise.specs.Meaning.{Values, value, Spot, plus, moved, entered, run}
use Rattle.promise.specs.Walk.{Walked, type_no, Kind, handle_array, buffer, opaque, struct, array, scalar, unlaid, kind_of, layout_at, memory_of, offset_at, stride_at, Place, into_field, into_element, step_by, step, walk, start_type, start_by, start}
use Rattle.promise.specs.Statements.{SameByte}
use Rattle.promise.proofs.Agreement.{offset_is, stride_is, AgreesParts, Agrees, agrees}

-- ---- the waiting offset

-- the spot once it is added
abbrev pub after : Spot → Pending → Spot
after σ None = σ
after σ (Some z) = moved σ z

run_append : (v : Values) (ss ts : List QPtrOp) (σ : Spot) → run v (ss ++ ts) σ ≡ run v ts (run v ss σ)
run_append v [] ts σ = refl
run_append v (s ∷ ss) ts σ = run_append v ss ts _

run_flush : (v : Values) (p : Pending) (ss : List QPtrOp) (σ : Spot) → run v (flush p ss) σ ≡ run v ss (after σ p)
run_flush v None ss σ = refl
run_flush v (Some z) ss σ = refl

plus_zero : (b : Option ℤ) (z : ℤ) → is_zero z ≡ true → b ≡ plus b z
plus_zero none z e = refl
plus_zero (some y) (pos n) e = ap some (sym (+ℤ_idr y) ∙ ap (λ (k : ℕ). y +ℤ pos k) (sym (eqb-true n 0 e)))
plus_zero (some y) (negsuc n) e = absurd (false≢true e)

plus_twice : (b : Option ℤ) (y z : ℤ) → plus b (y +ℤ z) ≡ plus (plus b y) z
plus_twice none y z = refl
plus_twice (some x) y z = ap some (sym (+ℤ_assoc x y z))

with_byte : (σ : Spot) {a b : Option ℤ} → a ≡ b → ◌≡◌ {A = Spot} (record { handle = σ.handle; byte = a }) (record { handle = σ.handle; byte = b })
with_byte σ e = ap (λ (c : Option ℤ). record { handle = σ.handle; byte = c }) e

added_is : (p : Pending) (z : ℤ) (q : Pending) → added p z ≡ ok q → (σ : Spot) → after σ q ≡ moved (after σ p) z
unfolding added
added_is None z q h σ = ap (after σ) (sym (value_is h))
added_is (Some y) z q h σ = ap (after σ) (sym (value_is (passed _ _ h))) ∙ with_byte σ (plus_twice σ.byte y z)

merged_is : (p : Pending) (z : ℤ) (q : Pending) → merged p z ≡ ok q → (σ : Spot) → after σ q ≡ moved (after σ p) z
unfolding merged
merged_is p z q h σ = by_test (is_zero z) refl h
  where
    by_test : (t : Bool) → is_zero z ≡ t → cond t (ok p) (added p z) ≡ ok q → after σ q ≡ moved (after σ p) z
    by_test true e g = ap (after σ) (sym (value_is g)) ∙ with_byte (after σ p) (plus_zero (after σ p).byte z e)
    by_test false e g = added_is p z q g σ

-- ---- one index

abbrev pub place : Walked → Spot → Option Walked → Place
place w σ μ = record { type = w; spot = σ; memory = μ }

module _ (s : Sheet) (v : Values) where
  -- the walk's step ends where the steps of the move end, what waits added; at the type of the move's layout
  pub record Leads (w : Walked) (p : Pending) (i : Index) (σ : Spot) (μ : Option Walked) (a : Move) : Type 0 where
    pub to : ℕ
    pub laid : answer_in s to ≡ ok a.layout
    pub mem : Option Walked
    pub stepped : step s v i (place w (after σ p) μ) ≡ some (place (type_no to) (after (run v a.steps σ) a.pending) mem)

  -- into a field, from the spot τ
  into_field_lem : (w : Walked) (os ms : List ℕ) → ((n : ℕ) → offset_at s w n ≡ get_elem? os n) → (i : Index) (p : Pending) (a : Move) → (f : ToField (answer_in s) os ms i p a)
      → (τ σ : Spot) (μ : Option Walked) → τ ≡ after σ p
      → into_field s ms (place w τ μ) (value v i) ≡ some (place (type_no f.field.type) (after (run v a.steps σ) a.pending) μ)
  unfolding into_field ◌>>=◌
  into_field_lem w os ms o i p a f τ σ μ e =
      rw f.known (rw f.number (rw f.is.of_type (rw (o f.n ∙ f.is.at) (rw f.no_steps
      (ap (λ (x : Spot). some (place (type_no f.field.type) x μ)) (ap (λ (x : Spot). moved x (pos f.field.offset)) e ∙ sym (merged_is p _ _ f.added σ)))))))

  -- into an element
  by_constant_lem : (stride bound : ℕ) (i : Index) (p : Pending) (a : Move) (c : Option ℤ) → ByConstant (answer_in s) stride bound i p a c → (σ : Spot)
      → moved (after σ p) (pos stride *ℤ value v i) ≡ after (run v a.steps σ) a.pending
  by_constant_lem stride bound i p a none b σ =
      sym (ap (λ (x : List QPtrOp). after (run v x σ) a.pending) b.0 ∙ ap (after (run v (flush p (DynOffset stride bound i ∷ [])) σ)) b.1 ∙ run_flush v p (DynOffset stride bound i ∷ []) σ)
  by_constant_lem stride bound i p a (some z) b σ =
      let is : pos stride *ℤ value v i ≡ z = ap (λ (x : Index). pos stride *ℤ value v x) b.0.known ∙ sym b.0.is in
      ap (moved (after σ p)) is ∙ sym (merged_is p z a.pending b.1 σ) ∙ ap (λ (x : List QPtrOp). after (run v x σ) a.pending) (sym b.2)

  into_element_lem : (w : Walked) (stride elem len : ℕ) → stride_at s w ≡ some stride → (i : Index) (p : Pending) (a : Move) → ToElement (answer_in s) stride elem len i p a
      → (σ : Spot) (μ : Option Walked) → into_element s elem (place w (after σ p) μ) (value v i) ≡ some (place (type_no elem) (after (run v a.steps σ) a.pending) μ)
  unfolding into_element ◌>>=◌
  into_element_lem w stride elem len st i p a e σ μ =
      rw st (ap (λ (x : Spot). some (place (type_no elem) x μ)) (by_constant_lem stride (bound_of len) i p a e.constant e.by σ))

  to_part_lem : (w : Walked) (m : MemTypeLayout) → memory_of (layout_at s w) ≡ some m → (c : Components) → m.components ≡ c → AgreesParts s (kind_of s w) c
      → (i : Index) (p : Pending) (a : Move) → ToPart (answer_in s) c i p a → (σ : Spot) (μ : Option Walked) → Leads w p i σ μ a
  unfolding step step_by
  to_part_lem w m h Scalar e g i p a t σ μ = absurd t
  to_part_lem w m h (Elements stride elem n) e g i p a t σ μ = record {
    to = elem;
    laid = t.laid;
    mem = μ;
    stepped = rw g.1 (into_element_lem w stride elem n (stride_is s w m stride elem n h e) i p a t σ μ);
  }
  to_part_lem w m h (Fields os ms) e g i p a t σ μ = record {
    to = t.field.type;
    laid = t.laid;
    mem = μ;
    stepped = rw g (into_field_lem w os ms (offset_is s w m os ms h e) i p a t (after σ p) σ μ refl);
  }

  pub leads : (w : Walked) (l : TypeLayout) → layout_at s w ≡ ok l → Agrees s (kind_of s w) l → (i : Index) (p : Pending) (a : Move)
      → Moved (answer_in s) l i p a → (σ : Spot) (μ : Option Walked) → Leads w p i σ μ a
  unfolding step step_by
  leads w (Handle Opaque) e g i p a h σ μ = absurd h
  leads w (Handle (Buffer m)) e g i p a h σ μ =
      let f : ToField (answer_in s) g.0 g.1 i None h.inner = subst (λ (c : Components). ToPart (answer_in s) c i None h.inner) g.2 h.by in
      let there = into_field_lem w g.0 g.1 (offset_is s w m g.0 g.1 (ap memory_of e) g.2) i None h.inner f (entered (after σ p)) (entered (after σ p)) (some w) refl in
      record {
        to = f.field.type;
        laid = f.laid ∙ ap (λ (x : TypeLayout). ok x) (sym h.layout);
        mem = some w;
        stepped = rw g.3 (there ∙ ap (λ (x : Spot). some (place (type_no f.field.type) x (some w)))
            (sym (ap (λ (x : List QPtrOp). after (run v x σ) a.pending) h.steps
            ∙ ap (λ (x : Spot). after x a.pending) (run_flush v p (BufferData ∷ h.inner.steps) σ)
            ∙ ap (after (run v h.inner.steps (entered (after σ p)))) h.pending)));
      }
  leads w (HandleArray k n) e g i p a h σ μ = record {
    to = g.0;
    laid = g.2 ∙ ap (λ (x : TypeLayout). ok x) (sym h.2);
    mem = μ;
    stepped = rw g.1 (ap (λ (x : Spot). some (place (type_no g.0) x μ))
        (sym (ap (λ (x : List QPtrOp). after (run v x σ) a.pending) h.0 ∙ ap (after (run v (flush p (HandleArrayIndex i ∷ [])) σ)) h.1 ∙ run_flush v p (HandleArrayIndex i ∷ []) σ)));
  }
  leads w (Concrete m) e g i p a h σ μ = to_part_lem w m (ap memory_of e) m.components refl g i p a h σ μ

  -- ---- all indices

  -- the walk goes to its end, and there is the spot that the steps reach
  pub record Reaches (is : List Index) (p : Place) (σ : Spot) : Type 0 where
    pub reached : Place
    pub walked : walk s v is p ≡ some reached
    pub same : σ ≡ reached.spot

  all_lead : (is : List Index) (w : Walked) (l : TypeLayout) → layout_at s w ≡ ok l → (p : Pending) (steps : List QPtrOp)
      → lower_from (answer_in s) l p is ≡ ok steps → (σ : Spot) (μ : Option Walked) → Reaches is (place w (after σ p) μ) (run v steps σ)
  unfolding walk layout_at ◌>>=◌
  all_lead [] w l e p steps h σ μ = record {
    reached = place w (after σ p) μ;
    walked = refl;
    same = ap (λ (x : List QPtrOp). run v x σ) (none_left (answer_in s) l p steps h) ∙ run_flush v p [] σ;
  }
  all_lead (i ∷ is) w l e p steps h σ μ =
      let f = first_of (answer_in s) l p i is steps h in
      let k = leads w l e (agrees s w l e) i p f.to f.by σ μ in
      let r = all_lead is (type_no k.to) f.to.layout k.laid f.to.pending f.rest f.onward (run v f.to.steps σ) k.mem in
      record {
        reached = r.reached;
        walked = rw k.stepped r.walked;
        same = ap (λ (x : List QPtrOp). run v x σ) f.joined ∙ run_append v f.to.steps f.rest σ ∙ r.same;
      }

-- ---- from the start

pub start_laid : (s : Sheet) (op : ChainOp) (t : ℕ) → layout_at s (start_type op t) ≡ start_layout s.setting (answer_in s) op t
unfolding layout_at start_type start_layout
start_laid s AccessChain t = refl
start_laid s InBoundsAccessChain t = refl
start_laid s PtrAccessChain t = refl
start_laid s InBoundsPtrAccessChain t = refl

pub start_place_lem : (k : Kind) (w : Walked) → place w (start_by k w).spot (start_by k w).memory ≡ start_by k w
start_place_lem (handle_array elem) w = refl
start_place_lem (buffer ms) w = refl
start_place_lem opaque w = refl
start_place_lem (struct ms) w = refl
start_place_lem (array elem len) w = refl
start_place_lem scalar w = refl
start_place_lem unlaid w = refl

pub same_byte : SameByte
unfolding start
same_byte s op ptr is steps h v =
    let b = begun s op ptr is steps h in
    let w = start_type op b.pointee in
    let from = start_by (kind_of s w) w in
    let r = all_lead s v is w b.layout (start_laid s op b.pointee ∙ b.laid) None steps b.lowered from.spot from.memory in
    record {
      by_walk = record { pointee = b.pointee; points = b.points; reached = r.reached; walked = ap (walk s v is) (sym (start_place_lem (kind_of s w) w)) ∙ r.walked };
      by_steps = r.same;
    }
