-- In memory of a fixed size, with each array index in range and no stride below its element's size, the part reached lies wholly inside. Assumes nothing.
use Prim.Native.Nat.{ℕ, ◌+◌, ◌*◌, ◌≤◌, ◌<◌}
use native.Mathlib.Nat.{mul-suc, mul-le-mul_left}
use native.Mathlib.Omega.{arith}
use mathlib.Core.Path.{◌≡◌, refl, sym, ap, ◌∙◌, subst}
use mathlib.Core.List.{List, [], ◌∷◌}
use mathlib.Core.Option.{Option, none, some}
use lib.IntN.{ℤ, pos, negsuc, ◌+ℤ◌, ◌*ℤ◌, pos-+ℤ-pos, pos-*ℤ-pos}
use lib.ListN.{get_elem?}
use Rattle.arith.specs.Refusals.{ok}
use Rattle.arith.proofs.Results.{value_is, no_some, some_is, went_on}
use Rattle.spirv.specs.declared.Index.{Index}
use Rattle.shapes.specs.Shapes.{Components, Scalar, Elements, Fields, Opaque, Buffer, MemTypeLayout, TypeLayout, Handle, HandleArray, Concrete, size_of, dyn_of}
use Rattle.sheet.specs.Sheet.{Sheet}
use Rattle.layout.specs.Arrays.{length_or_zero}
use Rattle.layout.specs.Layouts.{answer_in}
use Rattle.layout.specs.Statements.{FieldsOf, ElementsOf, PartsOf}
use Rattle.layout.proofs.Parts.{parts}
use Rattle.lower.specs.Chain.{start_layout}
use Rattle.lower.proofs.Moves.{begun}
use Rattle.promise.specs.Meaning.{Values, value, plus, moved}
use Rattle.promise.specs.Walk.{Walked, Kind, kind_of, layout_at, memory_of, memory_at, offset_at, Place, to_part, enter, into_field, into_element, step_by, step, walk, start_type, at_memory, at_handle, start_by, start}
use Rattle.promise.specs.Statements.{InLength, Spaced, InRangeBy, Then, InRange, InsideOf, Inside}
use Rattle.promise.proofs.Agreement.{layout_in, offset_is, stride_is, AgreesParts, Agrees, agrees}
use Rattle.promise.proofs.SameByte.{start_laid}

module _ (s : Sheet) where
  -- ---- a part inside

  -- the part at a place lies inside m, and is itself of a fixed size
  record Lies (p : Place) (m : MemTypeLayout) : Type 0 where
    inside : InsideOf s p m
    fixed : dyn_of inside.part ≡ 0

  -- from byte b of a type of size n that lies inside m, o bytes on, to a part that ends within that type
  part_lies : (t : ℕ) (e : MemTypeLayout) → answer_in s t ≡ ok (Concrete e) → dyn_of e ≡ 0 → (b o n : ℕ) (m : MemTypeLayout) → o + size_of e ≤ n → b + n ≤ size_of m
      → (p : Place) (z : ℤ) → p.spot.byte ≡ some (pos b) → z ≡ pos o → Lies (to_part p t (moved p.spot z)) m
  unfolding layout_at
  part_lies t e laid fixed b o n m ends le p z at is = record {
    inside = record {
      byte = b + o;
      at_byte = ap (λ (x : Option ℤ). plus x z) at ∙ ap (λ (x : ℤ). some (pos b +ℤ x)) is ∙ ap some (pos-+ℤ-pos b o);
      part = e;
      is_part = laid;
      ends = omega arith;
    };
    fixed = fixed;
  }

  -- a place at a layout; in memory of a fixed size it lies inside
  record Stands (p : Place) : Type 0 where
    layout : TypeLayout
    laid : layout_at s p.type ≡ ok layout
    lies : (w : Walked) (m : MemTypeLayout) → p.memory ≡ some w → memory_at s w ≡ some m → dyn_of m ≡ 0 → Lies p m

  -- ---- into a field

  record IntoField (ms : List ℕ) (p : Place) (z : ℤ) (q : Place) : Type 0 where
    n : ℕ
    number : z ≡ pos n
    type : ℕ
    of_type : get_elem? ms n ≡ some type
    offset : ℕ
    at : offset_at s p.type n ≡ some offset
    is : to_part p type (moved p.spot (pos offset)) ≡ q

  into_field_lem : (ms : List ℕ) (p : Place) (z : ℤ) (q : Place) → into_field s ms p z ≡ some q → IntoField ms p z q
  unfolding into_field
  into_field_lem ms p (pos n) q h =
      let t = went_on _ _ h in
      let o = went_on _ _ t.rest in
      record { n = n; number = refl; type = t.value; of_type = t.here; offset = o.value; at = o.here; is = some_is o.rest }
  into_field_lem ms p (negsuc n) q h = absurd (no_some h)

  field_stands : (p q : Place) (z : ℤ) (os ms : List ℕ) (k : MemTypeLayout) → memory_of (layout_at s p.type) ≡ some k → k.components ≡ Fields os ms → FieldsOf s k os ms
      → into_field s ms p z ≡ some q
      → ((w : Walked) (m : MemTypeLayout) → p.memory ≡ some w → memory_at s w ≡ some m → dyn_of m ≡ 0 → (b : ℕ) × (p.spot.byte ≡ some (pos b)) × (b + size_of k ≤ size_of m) × (dyn_of k ≡ 0))
      → Stands q
  unfolding layout_at
  field_stands p q z os ms k c e f h base =
      let i = into_field_lem ms p z q h in
      let at = sym (offset_is s p.type k os ms c e i.n) ∙ i.at in
      let g = f.each i.n i.type i.offset i.of_type at in
      subst Stands i.is record {
        layout = Concrete g.part;
        laid = g.laid;
        lies = λ w m x y d.
            let (b, byte, le, fixed) = base w m x y d in
            part_lies i.type g.part g.laid (g.fixed fixed) b i.offset (size_of k) m g.ends le p (pos i.offset) byte refl;
      }

  -- ---- into an element

  -- stride × j and an element end within stride × len
  element_in : (stride j len size : ℕ) → j < len → size ≤ stride → stride * j + size ≤ stride * len
  element_in stride j len size lt le = omega (arith, mul-le-mul_left stride lt, mul-suc stride j)

  element_stands : (p q : Place) (z : ℤ) (stride elem n : ℕ) (len : Option ℕ) (k : MemTypeLayout) → layout_at s p.type ≡ ok (Concrete k) → k.components ≡ Elements stride elem n
      → n ≡ length_or_zero len → ElementsOf s k stride elem n → InLength len z → Spaced s p.type elem → into_element s elem p z ≡ some q
      → ((w : Walked) (m : MemTypeLayout) → p.memory ≡ some w → memory_at s w ≡ some m → dyn_of m ≡ 0 → (b : ℕ) × (p.spot.byte ≡ some (pos b)) × (b + size_of k ≤ size_of m) × (dyn_of k ≡ 0))
      → Stands q
  unfolding into_element layout_at memory_at
  element_stands p q z stride elem n len k l e ln f inl sp h base =
      let st = went_on _ _ h in
      let is = stride_is s p.type k stride elem n (ap memory_of l) e in
      let same : st.value ≡ stride = some_is (sym st.here ∙ is) in
      subst Stands (some_is st.rest) record {
        layout = Concrete f.part;
        laid = f.laid;
        lies = λ w m x y d.
            let (b, byte, le, fixed) = base w m x y d in
            let (o, at, ends) = by len ln inl (f.fixed fixed) (sp stride f.part is (ap memory_of f.laid)) in
            part_lies elem f.part f.laid f.part_fixed b o (size_of k) m ends le p (pos st.value *ℤ z) byte (ap (λ (x : ℕ). pos x *ℤ z) same ∙ at);
      }
    where
      by : (len : Option ℕ) → n ≡ length_or_zero len → InLength len z → 1 ≤ n → size_of f.part ≤ stride → (o : ℕ) × (pos stride *ℤ z ≡ pos o) × (o + size_of f.part ≤ size_of k)
      by none e i one small = absurd (omega arith)
      by (some j) e i one small = (
        stride * i.number,
        ap (λ (x : ℤ). pos stride *ℤ x) i.is ∙ pos-*ℤ-pos stride i.number,
        omega (arith, element_in stride i.number n (size_of f.part) (omega (arith, i.below)) small, f.size),
      )

  -- ---- one index

  -- what lies at a place at memory k, as its base
  base_of : (p : Place) (st : Stands p) (k : MemTypeLayout) → layout_at s p.type ≡ ok (Concrete k) → (w : Walked) (m : MemTypeLayout)
      → p.memory ≡ some w → memory_at s w ≡ some m → dyn_of m ≡ 0 → (b : ℕ) × (p.spot.byte ≡ some (pos b)) × (b + size_of k ≤ size_of m) × (dyn_of k ≡ 0)
  base_of p st k l w m x y d =
      let i = st.lies w m x y d in
      let same : i.inside.part ≡ k = concrete (value_is (sym i.inside.is_part ∙ l)) in
      (i.inside.byte, i.inside.at_byte, omega (arith, i.inside.ends, ap size_of same), sym (ap dyn_of same) ∙ i.fixed)
    where
      concrete : {a b : MemTypeLayout} → Concrete a ≡ Concrete b → a ≡ b
      concrete e = cc

  parts_stand : (p q : Place) (z : ℤ) → Stands p → (k : MemTypeLayout) → layout_at s p.type ≡ ok (Concrete k) → (c : Components) → k.components ≡ c → AgreesParts s (kind_of s p.type) c
      → PartsOf s k c → InRangeBy s (kind_of s p.type) p.type z → step_by s (kind_of s p.type) p z ≡ some q → Stands q
  unfolding step_by
  parts_stand p q z st k l Scalar e g f r h = absurd (no_some (sym (ap (λ (x : Kind). step_by s x p z) g) ∙ h))
  parts_stand p q z st k l (Elements stride elem n) e g f r h =
      let range = subst (λ (x : Kind). InRangeBy s x p.type z) g.1 r in
      element_stands p q z stride elem n g.0 k l e g.2 f range.0 range.1 (sym (ap (λ (x : Kind). step_by s x p z) g.1) ∙ h) (base_of p st k l)
  parts_stand p q z st k l (Fields os ms) e g f r h =
      field_stands p q z os ms k (ap memory_of l) e f (sym (ap (λ (x : Kind). step_by s x p z) g) ∙ h) (base_of p st k l)

  step_stands : (p q : Place) (z : ℤ) → Stands p → (l : TypeLayout) → layout_at s p.type ≡ ok l → Agrees s (kind_of s p.type) l → InRangeBy s (kind_of s p.type) p.type z
      → step_by s (kind_of s p.type) p z ≡ some q → Stands q
  unfolding step_by layout_at memory_at
  step_stands p q z st (Handle Opaque) l g r h = absurd (no_some (sym (ap (λ (x : Kind). step_by s x p z) g) ∙ h))
  step_stands p q z st (Handle (Buffer k)) l g r h =
      let f = subst (PartsOf s k) g.2 (parts s (Handle (Buffer k)) k (layout_in s p.type (Handle (Buffer k)) l) refl) in
      field_stands (enter p) q z g.0 g.1 k (ap memory_of l) g.2 f (sym (ap (λ (x : Kind). step_by s x p z) g.3) ∙ h)
      λ w m x y d.
      let same : m ≡ k = some_is (sym y ∙ ap (λ (u : Walked). memory_of (layout_at s u)) (sym (some_is x)) ∙ ap memory_of l) in
      (0, refl, omega (arith, ap size_of same), sym (ap dyn_of same) ∙ d)
  step_stands p q z st (HandleArray k n) l g r h =
      subst Stands (some_is (sym (ap (λ (x : Kind). step_by s x p z) g.1) ∙ h)) record {
        layout = Handle k;
        laid = g.2;
        lies = λ w m x y d. absurd (no_array (value_is (sym (st.lies w m x y d).inside.is_part ∙ l)));
      }
    where
      no_array : {e : MemTypeLayout} → Concrete e ≡ HandleArray k n → ⊥
      no_array e = let z : ◌≡◌ {A = ℕ} 0 1 = cc in omega arith
  step_stands p q z st (Concrete k) l g r h =
      parts_stand p q z st k l k.components refl g (parts s (Concrete k) k (layout_in s p.type (Concrete k) l) refl) r h

  -- ---- all indices

  all_stand : (v : Values) (is : List Index) (p q : Place) → Stands p → InRange s v is p → walk s v is p ≡ some q → Stands q
  unfolding walk step
  all_stand v [] p q st r h = subst Stands (some_is h) st
  all_stand v (i ∷ is) p q st r h =
      let f = went_on _ _ h in
      all_stand v is f.value q (step_stands p f.value (value v i) st st.layout st.laid (agrees s p.type st.layout st.laid) r.0 f.here)
      (subst (λ (x : Option Place). Then x (InRange s v is)) f.here r.1) f.rest

  -- ---- from the start

  handle_stands : (w : Walked) (l : TypeLayout) → layout_at s w ≡ ok l → Stands (at_handle w)
  handle_stands w l h = record { layout = l; laid = h; lies = λ x m e y d. absurd (no_some e) }

  memory_stands : (w : Walked) (k : MemTypeLayout) → layout_at s w ≡ ok (Concrete k) → Stands (at_memory w)
  unfolding memory_at
  memory_stands w k h = record {
    layout = Concrete k;
    laid = h;
    lies = λ x m e y d.
        let same : m ≡ k = some_is (sym y ∙ ap (λ (u : Walked). memory_of (layout_at s u)) (sym (some_is e)) ∙ ap memory_of h) in
        record { inside = record { byte = 0; at_byte = refl; part = k; is_part = h; ends = omega (arith, ap size_of same) }; fixed = sym (ap dyn_of same) ∙ d };
  }

  start_stands : (w : Walked) (l : TypeLayout) → layout_at s w ≡ ok l → Agrees s (kind_of s w) l → Stands (start_by (kind_of s w) w)
  start_stands w (Handle Opaque) h g = rw g (handle_stands w _ h)
  start_stands w (Handle (Buffer m)) h g = rw g.3 (handle_stands w _ h)
  start_stands w (HandleArray k n) h g = rw g.1 (handle_stands w _ h)
  start_stands w (Concrete k) h g = by k.components g
    where
      by : (c : Components) → AgreesParts s (kind_of s w) c → Stands (start_by (kind_of s w) w)
      by Scalar g = rw g (memory_stands w k h)
      by (Elements stride elem n) g = rw g.1 (memory_stands w k h)
      by (Fields os ms) g = rw g (memory_stands w k h)

pub inside : Inside
unfolding start
inside s op ptr is steps h v walks w m x y d r =
    let b = begun s op ptr is steps h in
    let same : b.pointee ≡ walks.pointee = value_is (sym b.points ∙ walks.points) in
    let at = start_type op walks.pointee in
    let laid : layout_at s at ≡ ok b.layout = start_laid s op walks.pointee ∙ ap (start_layout s.setting (answer_in s) op) (sym same) ∙ b.laid in
    let st = all_stand s v is (start_by (kind_of s at) at) walks.reached (start_stands s at b.layout laid (agrees s at b.layout laid)) r walks.walked in
    (st.lies w m x y d).inside
