-- Array length and local variable: just when they answer, and with which numbers. Assumes nothing.
use Prim.Native.Nat.{ℕ, ◌≤◌}
use mathlib.Core.Path.{◌≡◌, refl, sym, ap, ◌∙◌, subst}
use mathlib.Core.Bool.{Bool, true, false, cond, not}
use mathlib.Core.List.{List}
use mathlib.Core.Option.{Option, none, some}
use native.Mathlib.Omega.{arith}
use lib.Dec.{eqb}
use borrow.Author.Tests.{eqb-true, eqb-false, eq-eqb, ne_eqb}
use Rattle.arith.specs.Refusals.{ok, ◌>>=◌, ◌>>◌, refuse◌unless◌}
use Rattle.arith.proofs.Results.{never, value_is, went, passed, not_refused, no_some, some_is}
use Rattle.shapes.specs.declared.MemLayout.{MemLayout}
use Rattle.shapes.specs.Shapes.{Components, Scalar, Elements, Fields, Opaque, Buffer, MemTypeLayout, TypeLayout, Handle, HandleArray, Concrete, dyn_of}
use Rattle.sheet.specs.Sheet.{Sheet}
use Rattle.lower.specs.Steps.{Field, field_at}
use Rattle.lower.specs.Other.{buffer_of, member_of, runtime_stride, stride_of_part, ArrayLength, length_in, length_by, array_length, fixed_memory, variable_by, local_variable}
use Rattle.lower.specs.Statements.{LengthOf, ArrayLengths, FixedPointee, OtherPointee, LocalVariables}
use Rattle.lower.proofs.Moves.{FieldIs, field_is, is_field}

-- ---- array length, forth

buffer_is : (l : TypeLayout) (m : MemTypeLayout) → buffer_of l ≡ ok m → l ≡ Handle (Buffer m)
unfolding buffer_of
buffer_is (Handle Opaque) m h = absurd (never h)
buffer_is (Handle (Buffer k)) m h = ap (λ (x : MemTypeLayout). Handle (Buffer x)) (value_is h)
buffer_is (HandleArray k n) m h = absurd (never h)
buffer_is (Concrete k) m h = absurd (never h)

record FieldsAre (c : Components) (member : ℕ) (f : Field) : Type 0 where
  offsets : List ℕ
  types : List ℕ
  fields : c ≡ Fields offsets types
  is : FieldIs offsets types member f

member_is : (c : Components) (member : ℕ) (f : Field) → member_of c member ≡ ok f → FieldsAre c member f
unfolding member_of
member_is Scalar member f h = absurd (never h)
member_is (Elements stride elem len) member f h = absurd (never h)
member_is (Fields os ts) member f h = record { offsets = os; types = ts; fields = refl; is = field_is os ts member f h }

record RuntimeArray (l : TypeLayout) (stride : ℕ) : Type 0 where
  array : MemTypeLayout
  is : l ≡ Concrete array
  elem : ℕ
  elements : array.components ≡ Elements stride elem 0

runtime_is : (l : TypeLayout) (stride : ℕ) → stride_of_part l ≡ ok stride → RuntimeArray l stride
unfolding stride_of_part runtime_stride
runtime_is (Handle k) stride h = absurd (never h)
runtime_is (HandleArray k n) stride h = absurd (never h)
runtime_is (Concrete m) stride h = by m.components refl h
  where
    by : (c : Components) → m.components ≡ c → runtime_stride c ≡ ok stride → RuntimeArray (Concrete m) stride
    by Scalar e g = absurd (never g)
    by (Elements st elem len) e g =
        let z = eqb-true len 0 (not_refused _ _ _ g) in
        let same = value_is (passed _ _ g) in
        record { array = m; is = refl; elem = elem; elements = e ∙ ap (λ (x : ℕ). Elements x elem len) same ∙ ap (Elements stride elem) z }
    by (Fields os ts) e g = absurd (never g)

length_of_lem : (s : Sheet) (ptr member : ℕ) (a : ArrayLength) → array_length s ptr member ≡ ok a → LengthOf s ptr member a
unfolding length_by length_in
length_of_lem s ptr member a h =
    let t = went _ _ h in
    let l = went _ _ t.rest in
    let b = went _ _ l.rest in
    let f = went _ _ b.rest in
    let p = went _ _ f.rest in
    let st = went _ _ p.rest in
    let fields = member_is b.value.components member f.value f.here in
    let array = runtime_is p.value st.value st.here in
    subst (LengthOf s ptr member) (value_is (passed _ _ st.rest)) record {
      pointee = t.value;
      points = t.here;
      buffer = b.value;
      is_buffer = l.here ∙ ap (λ (x : TypeLayout). ok x) (buffer_is l.value b.value b.here);
      offsets = fields.offsets;
      types = fields.types;
      fields = fields.fields;
      at = fields.is.at;
      type = f.value.type;
      of_type = fields.is.of_type;
      array = array.array;
      laid = p.here ∙ ap (λ (x : TypeLayout). ok x) array.is;
      elem = array.elem;
      elements = array.elements;
      last = eqb-true _ _ (not_refused _ _ _ st.rest);
    }

-- ---- and back

is_length : (s : Sheet) (ptr member : ℕ) (a : ArrayLength) → LengthOf s ptr member a → array_length s ptr member ≡ ok a
unfolding length_by length_in ◌>>=◌ ◌>>◌ buffer_of member_of stride_of_part runtime_stride refuse◌unless◌
is_length s ptr member a h =
    let f : field_at h.offsets h.types member ≡ ok record { offset = a.offset; type = h.type } = is_field _ _ _ _ record { at = h.at; of_type = h.of_type } in
    rw h.points (rw h.is_buffer (rw h.fields (rw f (rw h.laid (rw h.elements (rw (eq-eqb _ _ h.last) refl))))))

pub array_lengths : ArrayLengths
array_lengths s ptr member a = (length_of_lem s ptr member a, is_length s ptr member a)

-- ---- local variable

fixed_of : (l : TypeLayout) (mem : MemLayout) → fixed_memory l ≡ some mem → (m : MemTypeLayout) × (l ≡ Concrete m) × (dyn_of m ≡ 0) × (m.mem.fixed_base ≡ mem)
unfolding fixed_memory
fixed_of (Handle k) mem h = absurd (no_some h)
fixed_of (HandleArray k n) mem h = absurd (no_some h)
fixed_of (Concrete m) mem h = by (eqb (dyn_of m) 0) refl h
  where
    by : (b : Bool) → eqb (dyn_of m) 0 ≡ b → cond (not b) none (some m.mem.fixed_base) ≡ some mem
        → (k : MemTypeLayout) × (Concrete m ≡ Concrete k) × (dyn_of k ≡ 0) × (k.mem.fixed_base ≡ mem)
    by true e g = (m, refl, eqb-true (dyn_of m) 0 e, some_is g)
    by false e g = absurd (no_some g)

other_of : (l : TypeLayout) → fixed_memory l ≡ none → (m : MemTypeLayout) → l ≡ Concrete m → 1 ≤ dyn_of m
unfolding fixed_memory
other_of (Handle k) h m e = absurd (let z : ◌≡◌ {A = ℕ} 0 1 = cc in omega arith)
other_of (HandleArray k n) h m e = absurd (let z : ◌≡◌ {A = ℕ} 0 1 = cc in omega arith)
other_of (Concrete k) h m e = let same : k ≡ m = cc in by (eqb (dyn_of k) 0) refl h same
  where
    by : (b : Bool) → eqb (dyn_of k) 0 ≡ b → cond (not b) none (some k.mem.fixed_base) ≡ none → k ≡ m → 1 ≤ dyn_of m
    by true q g same = absurd (no_some (sym g))
    by false q g same = let z = eqb-false (dyn_of k) 0 q in omega (arith, ap dyn_of same)

of_other : (l : TypeLayout) → ((m : MemTypeLayout) → l ≡ Concrete m → 1 ≤ dyn_of m) → fixed_memory l ≡ none
unfolding fixed_memory
of_other (Handle k) f = refl
of_other (HandleArray k n) f = refl
of_other (Concrete k) f = let z = f k refl in rw (ne_eqb (dyn_of k) 0 (λ e. omega arith))

pub local_variables : LocalVariables
unfolding variable_by fixed_memory ◌>>=◌
local_variables s ptr = (
  λ mem. (λ h. forth mem h, λ h. rw h.points (rw h.laid (rw h.fixed (ap (λ (x : MemLayout). ok (some x)) h.is)))),
  (λ h. no_forth h, λ h. rw h.points (rw h.laid (ap (λ (x : Option MemLayout). ok x) (of_other h.layout h.not_fixed)))),
)
  where
    forth : (mem : MemLayout) → local_variable s ptr ≡ ok (some mem) → FixedPointee s ptr mem
    forth mem h =
        let t = went _ _ h in
        let l = went _ _ t.rest in
        let (m, is, fixed, same) = fixed_of l.value mem (value_is l.rest) in
        record { pointee = t.value; points = t.here; memory = m; laid = l.here ∙ ap (λ (x : TypeLayout). ok x) is; fixed = fixed; is = same }

    no_forth : local_variable s ptr ≡ ok none → OtherPointee s ptr
    no_forth h =
        let t = went _ _ h in
        let l = went _ _ t.rest in
        record { pointee = t.value; points = t.here; layout = l.value; laid = l.here; not_fixed = other_of l.value (value_is l.rest) }
