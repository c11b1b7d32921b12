-- A walk from another spot: what is done to the spot before the walk may be done behind it. And a handle has no byte, memory has one. Assumes nothing.
use Prim.Native.Nat.{ℕ}
use mathlib.Core.Path.{◌≡◌, refl, sym, ap, ◌∙◌, subst}
use mathlib.Core.List.{List, [], ◌∷◌}
use mathlib.Core.Option.{Option, none, some}
use lib.IntN.{ℤ, pos, negsuc, ◌+ℤ◌, ◌*ℤ◌}
use lib.ListN.{get_elem?}
use Rattle.std.specs.Prelude.{None}
use Rattle.arith.specs.Options as options
use Rattle.arith.specs.Refusals.{ok}
use Rattle.arith.proofs.Results.{value_is, no_some, some_is, went_on}
use Rattle.spirv.specs.declared.Index.{Index}
use Rattle.shapes.specs.Shapes.{Components, Scalar, Elements, Fields, Opaque, Buffer, TypeLayout, Handle, HandleArray, Concrete}
use Rattle.sheet.specs.Sheet.{Sheet}
use Rattle.layout.specs.Layouts.{answer_in}
use Rattle.layout.specs.Statements.{IsLayoutIn}
use Rattle.layout.proofs.Parts.{parts}
use Rattle.lower.specs.declared.QPtrOp.{QPtrOp}
use Rattle.lower.specs.Steps.{Pending, Move, lower_from}
use Rattle.lower.proofs.Moves.{Moved, first_of}
use Rattle.lower.proofs.Onward.{part_onward}
use Rattle.promise.specs.Meaning.{Values, value, Spot, plus, moved, entered, picked}
use Rattle.promise.specs.Walk.{Walked, type_no, Kind, kind_of, layout_at, offset_at, stride_at, Place, to_part, into_field, into_element, step_by, step, walk, start_by}
use Rattle.promise.proofs.Agreement.{AgreesParts, Agrees, agrees, layout_in}
use Rattle.promise.proofs.SameByte.{place, leads}
use Rattle.promise_split.proofs.Walks.{one_type, laid_at}

-- ---- one index, as the walk goes and as the chain is lowered

module _ (s : Sheet) where
  -- from a layout l at w an index leads to a layout of another type
  pub record Next (w : Walked) (i : Index) (r : Place) (l : TypeLayout) : Type 0 where
    pub type : ℕ
    pub is : r.type ≡ type_no type
    pub laid : layout_at s (type_no type) ≡ ok l

  pub next_of : (v : Values) (w : Walked) (l : TypeLayout) → layout_at s w ≡ ok l → (i : Index) (p : Pending) (a : Move) → Moved (answer_in s) l i p a
      → (σ : Spot) (μ : Option Walked) (r : Place) → step s v i (place w σ μ) ≡ some r → Next w i r a.layout
  next_of v w l e i p a h σ μ r g =
      let (t, all) = one_type s w l (agrees s w l e) i p a h in
      record { type = t; is = all v σ μ r g; laid = laid_at s w p i a t all λ v' σ' μ'. leads s v' w l e (agrees s w l e) i p a h σ' μ' }

-- ---- a spot that is changed before the walk

module _ (s : Sheet) (v : Values) (f : Spot → Spot) (moves : (σ : Spot) (z : ℤ) → f (moved σ z) ≡ moved (f σ) z) (picks : (σ : Spot) (z : ℤ) → f (picked σ z) ≡ picked (f σ) z) where
  abbrev pub Enters : Type 0
  Enters = (σ : Spot) → f (entered σ) ≡ entered (f σ)

  -- at a handle the walk may enter a buffer
  abbrev pub Free : TypeLayout → Type 0
  Free (Handle h) = Enters
  Free (HandleArray h n) = Enters
  Free (Concrete m) = Unit {0}

  pub any_free : Enters → (l : TypeLayout) → Free l
  any_free h (Handle k) = h
  any_free h (HandleArray k n) = h
  any_free h (Concrete m) = tt

  free_onward : (l : TypeLayout) → IsLayoutIn s l → (i : Index) (p : Pending) (a : Move) → Moved (answer_in s) l i p a → Free l → Free a.layout
  free_onward (Handle k) o i p a h g = any_free g a.layout
  free_onward (HandleArray k n) o i p a h g = any_free g a.layout
  free_onward (Concrete m) o i p a h g = subst Free (sym (part_onward s m m.components (parts s (Concrete m) m o refl) i p a h).is) tt

  -- the place r, changed
  abbrev changed : Place → Option Walked → Place
  changed r μ = place r.type (f r.spot) μ

  field_shift : (ms : List ℕ) (w : Walked) (σ : Spot) (μ : Option Walked) (z : ℤ) (r : Place) → into_field s ms (place w σ μ) z ≡ some r
      → (μ' : Option Walked) → into_field s ms (place w (f σ) μ') z ≡ some (changed r μ')
  unfolding into_field options.◌>>=◌
  field_shift ms w σ μ (negsuc n) r h μ' = absurd (no_some h)
  field_shift ms w σ μ (pos n) r h μ' = by (get_elem? ms n) (offset_at s w n) h
    where
      by : (t o : Option ℕ) → options.◌>>=◌ t (λ u. options.◌>>=◌ o λ k. some (to_part (place w σ μ) u (moved σ (pos k)))) ≡ some r
          → options.◌>>=◌ t (λ u. options.◌>>=◌ o λ k. some (to_part (place w (f σ) μ') u (moved (f σ) (pos k)))) ≡ some (changed r μ')
      by none o g = absurd (no_some g)
      by (some u) none g = absurd (no_some g)
      by (some u) (some k) g = ap (λ (x : Spot). some (place (type_no u) x μ')) (sym (moves σ (pos k))) ∙ ap (λ (x : Place). some (changed x μ')) (some_is g)

  pub record Stepped (i : Index) (w : Walked) (σ : Spot) (μ' : Option Walked) (r : Place) : Type 0 where
    pub mem : Option Walked
    pub stepped : step s v i (place w (f σ) μ') ≡ some (changed r mem)

  part_shift : (w : Walked) (c : Components) → AgreesParts s (kind_of s w) c → (i : Index) (σ : Spot) (μ : Option Walked) (r : Place)
      → step_by s (kind_of s w) (place w σ μ) (value v i) ≡ some r → (μ' : Option Walked) → step_by s (kind_of s w) (place w (f σ) μ') (value v i) ≡ some (changed r μ')
  unfolding step_by into_element options.◌>>=◌
  part_shift w Scalar g i σ μ r h μ' = absurd (no_some (subst (λ (k : Kind). step_by s k (place w σ μ) (value v i) ≡ some r) g h))
  part_shift w (Elements stride elem n) g i σ μ r h μ' =
      let o = went_on (stride_at s w) (λ k. some (to_part (place w σ μ) elem (moved σ (pos k *ℤ value v i)))) (subst (λ (k : Kind). step_by s k (place w σ μ) (value v i) ≡ some r) g.1 h) in
      rw g.1 (rw o.here (ap (λ (x : Spot). some (place (type_no elem) x μ')) (sym (moves σ _)) ∙ ap (λ (x : Place). some (changed x μ')) (some_is o.rest)))
  part_shift w (Fields os ms) g i σ μ r h μ' =
      rw g (field_shift ms w σ μ (value v i) r (subst (λ (k : Kind). step_by s k (place w σ μ) (value v i) ≡ some r) g h) μ')

  step_shift : (w : Walked) (l : TypeLayout) → Agrees s (kind_of s w) l → Free l → (i : Index) (σ : Spot) (μ : Option Walked) (r : Place)
      → step s v i (place w σ μ) ≡ some r → (μ' : Option Walked) → Stepped i w σ μ' r
  unfolding step step_by
  step_shift w (Handle Opaque) g free i σ μ r h μ' = absurd (no_some (subst (λ (k : Kind). step_by s k (place w σ μ) (value v i) ≡ some r) g h))
  step_shift w (Handle (Buffer m)) g free i σ μ r h μ' =
      let k = subst (λ (k : Kind). step_by s k (place w σ μ) (value v i) ≡ some r) g.3 h in
      record {
        mem = some w;
        stepped = rw g.3 (ap (λ (x : Spot). into_field s g.1 (place w x (some w)) (value v i)) (sym (free σ)) ∙ field_shift g.1 w (entered σ) (some w) (value v i) r k (some w));
      }
  step_shift w (HandleArray k n) g free i σ μ r h μ' =
      let e = some_is (subst (λ (k : Kind). step_by s k (place w σ μ) (value v i) ≡ some r) g.1 h) in
      record {
        mem = μ';
        stepped = rw g.1 (ap (λ (x : Spot). some (place (type_no g.0) x μ')) (sym (picks σ (value v i))) ∙ ap (λ (x : Place). some (changed x μ')) e);
      }
  step_shift w (Concrete m) g free i σ μ r h μ' = record { mem = μ'; stepped = part_shift w m.components g i σ μ r h μ' }

  pub record Shifts (is : List Index) (w : Walked) (σ : Spot) (μ' : Option Walked) (r : Place) : Type 0 where
    pub mem : Option Walked
    pub walked : walk s v is (place w (f σ) μ') ≡ some (changed r mem)

  pub walk_shift : (is : List Index) (w : Walked) (l : TypeLayout) → layout_at s w ≡ ok l → Free l → (p : Pending) (steps : List QPtrOp)
      → lower_from (answer_in s) l p is ≡ ok steps → (σ : Spot) (μ : Option Walked) (q : Place) → walk s v is (place w σ μ) ≡ some q
      → (μ' : Option Walked) → Shifts is w σ μ' q
  unfolding walk options.◌>>=◌
  walk_shift [] w l e free p steps h σ μ q g μ' = record { mem = μ'; walked = ap (λ (x : Place). some (changed x μ')) (some_is g) }
  walk_shift (i ∷ is) w l e free p steps h σ μ q g μ' =
      let a = first_of (answer_in s) l p i is steps h in
      let r = went_on (step s v i (place w σ μ)) (walk s v is) g in
      let n = next_of s v w l e i p a.to a.by σ μ r.value r.here in
      let one = step_shift w l (agrees s w l e) free i σ μ r.value r.here μ' in
      let from : walk s v is (place (type_no n.type) r.value.spot r.value.memory) ≡ some q =
      subst (λ (x : Walked). walk s v is (place x r.value.spot r.value.memory) ≡ some q) n.is r.rest in
      let two = walk_shift is (type_no n.type) a.to.layout n.laid (free_onward l (layout_in s w l e) i p a.to a.by free)
      a.to.pending a.rest a.onward r.value.spot r.value.memory q from one.mem in
      record {
        mem = two.mem;
        walked = rw one.stepped (subst (λ (x : Walked). walk s v is (place x (f r.value.spot) one.mem) ≡ some (changed q two.mem)) (sym n.is) two.walked);
      }

-- ---- a handle has no byte, memory has one

abbrev pub Bytes : TypeLayout → Option ℤ → Type 0
Bytes (Handle h) b = b ≡ none
Bytes (HandleArray h n) b = b ≡ none
Bytes (Concrete m) b = (x : ℤ) × (b ≡ some x)

module _ (s : Sheet) (v : Values) where
  pub start_bytes : (w : Walked) (l : TypeLayout) → Agrees s (kind_of s w) l → Bytes l (start_by (kind_of s w) w).spot.byte
  start_bytes w (Handle Opaque) g = rw g refl
  start_bytes w (Handle (Buffer m)) g = rw g.3 refl
  start_bytes w (HandleArray h n) g = rw g.1 refl
  start_bytes w (Concrete m) g = by_parts m.components g
    where
      by_parts : (c : Components) → AgreesParts s (kind_of s w) c → (x : ℤ) × ((start_by (kind_of s w) w).spot.byte ≡ some x)
      by_parts Scalar h = (pos 0, rw h refl)
      by_parts (Elements stride elem n) h = (pos 0, rw h.1 refl)
      by_parts (Fields os ms) h = (pos 0, rw h refl)

  -- from a byte, into a part
  some_plus : (b : Option ℤ) (x z : ℤ) → b ≡ some x → plus b z ≡ some (x +ℤ z)
  some_plus b x z e = ap (λ (y : Option ℤ). plus y z) e

  field_byte : (ms : List ℕ) (w : Walked) (σ : Spot) (μ : Option Walked) (z x : ℤ) (r : Place) → σ.byte ≡ some x → into_field s ms (place w σ μ) z ≡ some r → (y : ℤ) × (r.spot.byte ≡ some y)
  unfolding into_field
  field_byte ms w σ μ (negsuc n) x r e h = absurd (no_some h)
  field_byte ms w σ μ (pos n) x r e h =
      let t = went_on _ _ h in
      let o = went_on _ _ t.rest in
      (_, sym (ap (λ (q : Place). q.spot.byte) (some_is o.rest)) ∙ some_plus σ.byte x (pos o.value) e)

  part_byte : (w : Walked) (c : Components) → AgreesParts s (kind_of s w) c → (i : Index) (σ : Spot) (μ : Option Walked) (x : ℤ) (r : Place) → σ.byte ≡ some x
      → step_by s (kind_of s w) (place w σ μ) (value v i) ≡ some r → (y : ℤ) × (r.spot.byte ≡ some y)
  unfolding step_by into_element
  part_byte w Scalar g i σ μ x r e h = absurd (no_some (subst (λ (k : Kind). step_by s k (place w σ μ) (value v i) ≡ some r) g h))
  part_byte w (Elements stride elem n) g i σ μ x r e h =
      let o = went_on _ _ (subst (λ (k : Kind). step_by s k (place w σ μ) (value v i) ≡ some r) g.1 h) in
      (_, sym (ap (λ (q : Place). q.spot.byte) (some_is o.rest)) ∙ some_plus σ.byte x _ e)
  part_byte w (Fields os ms) g i σ μ x r e h = field_byte ms w σ μ (value v i) x r e (subst (λ (k : Kind). step_by s k (place w σ μ) (value v i) ≡ some r) g h)

  step_bytes : (w : Walked) (l : TypeLayout) → layout_at s w ≡ ok l → (i : Index) (p : Pending) (a : Move) → Moved (answer_in s) l i p a
      → (σ : Spot) (μ : Option Walked) (r : Place) → Bytes l σ.byte → step s v i (place w σ μ) ≡ some r → Bytes a.layout r.spot.byte
  unfolding step step_by
  step_bytes w (Handle Opaque) e i p a h σ μ r b g = absurd h
  step_bytes w (Handle (Buffer m)) e i p a h σ μ r b g =
      let k = agrees s w (Handle (Buffer m)) e in
      let t = subst (λ (k : Kind). step_by s k (place w σ μ) (value v i) ≡ some r) k.3 g in
      let o = part_onward s m m.components (parts s (Handle (Buffer m)) m (layout_in s w _ e) refl) i None h.inner h.by in
      subst (λ (x : TypeLayout). Bytes x r.spot.byte) (sym (h.layout ∙ o.is)) (field_byte k.1 w (entered σ) (some w) (value v i) (pos 0) r refl t)
  step_bytes w (HandleArray k n) e i p a h σ μ r b g =
      let t = some_is (subst (λ (k : Kind). step_by s k (place w σ μ) (value v i) ≡ some r) (agrees s w (HandleArray k n) e).1 g) in
      subst (λ (x : TypeLayout). Bytes x r.spot.byte) (sym h.2) (sym (ap (λ (q : Place). q.spot.byte) t) ∙ b)
  step_bytes w (Concrete m) e i p a h σ μ r b g =
      let o = part_onward s m m.components (parts s (Concrete m) m (layout_in s w _ e) refl) i p a h in
      subst (λ (x : TypeLayout). Bytes x r.spot.byte) (sym o.is) (part_byte w m.components (agrees s w (Concrete m) e) i σ μ b.0 r b.1 g)

  pub walk_bytes : (is : List Index) (w : Walked) (l : TypeLayout) → layout_at s w ≡ ok l → (p : Pending) (steps : List QPtrOp)
      → lower_from (answer_in s) l p is ≡ ok steps → (σ : Spot) (μ : Option Walked) (q : Place) → Bytes l σ.byte → walk s v is (place w σ μ) ≡ some q
      → (k : TypeLayout) → layout_at s q.type ≡ ok k → Bytes k q.spot.byte
  unfolding walk
  walk_bytes [] w l e p steps h σ μ q b g k d =
      let same : l ≡ k = value_is (sym e ∙ ap (λ (x : Place). layout_at s x.type) (some_is g) ∙ d) in
      subst (λ (x : Place). Bytes k x.spot.byte) (some_is g) (subst (λ (x : TypeLayout). Bytes x σ.byte) same b)
  walk_bytes (i ∷ is) w l e p steps h σ μ q b g k d =
      let a = first_of (answer_in s) l p i is steps h in
      let r = went_on (step s v i (place w σ μ)) (walk s v is) g in
      let n = next_of s v w l e i p a.to a.by σ μ r.value r.here in
      walk_bytes is (type_no n.type) a.to.layout n.laid a.to.pending a.rest a.onward r.value.spot r.value.memory q
      (step_bytes w l e i p a.to a.by σ μ r.value b r.here)
      (subst (λ (x : Walked). walk s v is (place x r.value.spot r.value.memory) ≡ some q) n.is r.rest) k d
