-- Lookup finds just the parts that hold a range, in rising order. Assumes nothing.
use Prim.Native.Nat.{ℕ, zero, suc, ◌+◌, ◌*◌, ◌/◌, ◌≤◌}
use native.Mathlib.Nat.{add-mul, div-mul-le_self, lt-div-mul-add, div-eq_of_lt-le}
use mathlib.Core.Path.{◌≡◌, refl, sym, ap, ◌∙◌, subst}
use mathlib.Core.Bool.{Bool, true, false, cond, ◌&&◌, ◌||◌, not, false≢true}
use mathlib.Core.List.{List, [], ◌∷◌}
use mathlib.Core.Logic.{◌↔◌, ◌⊎◌, inl, inr, ⊎_elim}
use native.Mathlib.Omega.{arith}
use lib.Dec.{eqb, leb}
use lib.ListN.{length}
use borrow.Author.Tests.{eqb-true, eqb-false, leb-true, le-leb}
use Rattle.arith.specs.Refusals.{ok, refused}
use Rattle.arith.specs.Numbers.{max_u32}
use Rattle.arith.proofs.Results.{never, value_is, went, passed, first_true, second_true, no_some, some_is}
use Rattle.shapes.specs.Shapes.{Components, Scalar, Elements, Fields, MemTypeLayout, TypeLayout, Handle, HandleArray, Concrete, size_of, dyn_of, runtime_sized}
use Rattle.sheet.specs.Sheet.{Sheet}
use Rattle.layout.specs.Arrays.{Answer}
use Rattle.layout.specs.Layouts.{answer_in}
use Rattle.layout.specs.Lookup.{size_at_index, element_holding, field_holds, memory_passes, fields_holding, size_of_part, components_containing, in_memory_only, lookup_by}
use Rattle.layout.specs.Statements.{PartsOf, Has, RisingFrom, FieldHolding, ElementHolding, FoundIn, Lookup}
use Rattle.layout.proofs.Parts.{parts}

-- ---- one field

record Holds (r : Answer) (offset start end : ℕ) : Type 0 where
  part : MemTypeLayout
  laid : r ≡ ok (Concrete part)
  begins : offset ≤ start
  ends : dyn_of part ≡ 0 → end ≤ offset + size_of part

holds : (o start end : ℕ) (r : Answer) → memory_passes (field_holds o start end) r ≡ true → Holds r o start end
unfolding memory_passes field_holds
holds o start end (refused n) h = absurd (false≢true h)
holds o start end (ok (Handle k)) h = absurd (false≢true h)
holds o start end (ok (HandleArray k n)) h = absurd (false≢true h)
holds o start end (ok (Concrete m)) h = record {
  part = m;
  laid = refl;
  begins = leb-true o start (first_true _ _ h);
  ends = λ z. by z (second_true (leb o start) _ h);
}
  where
    by : dyn_of m ≡ 0 → runtime_sized m || leb end (o + size_of m) ≡ true → end ≤ o + size_of m
    by z g = leb-true end (o + size_of m) (rw z at g)

passes : (o start end : ℕ) (r : Answer) → Holds r o start end → memory_passes (field_holds o start end) r ≡ true
unfolding memory_passes field_holds
passes o start end r h = rw h.laid (by (eqb (dyn_of h.part) 0) refl)
  where
    by : (t : Bool) → eqb (dyn_of h.part) 0 ≡ t → leb o start && (not t || leb end (o + size_of h.part)) ≡ true
    by true e = rw (le-leb o start h.begins) (le-leb end _ (h.ends (eqb-true _ 0 e)))
    by false e = rw (le-leb o start h.begins) refl

-- ---- all fields

rising_from : (n m : ℕ) (xs : List ℕ) → n ≤ m → RisingFrom m xs → RisingFrom n xs
rising_from n m [] h r = tt
rising_from n m (x ∷ xs) h r = (omega (arith, r.0), r.1)

module _ (s : Sheet) (start end : ℕ) where
  -- the field n of all is the field k of those from i on
  record At (offsets types : List ℕ) (i n : ℕ) : Type 0 where
    k : ℕ
    is : n ≡ i + k
    holding : FieldHolding s offsets types start end k

  first : (o t : ℕ) (os ts : List ℕ) (i n : ℕ) → i ≡ n → Holds (answer_in s t) o start end → At (o ∷ os) (t ∷ ts) i n
  first o t os ts i n e h = record {
    k = 0;
    is = omega arith;
    holding = record { offset = o; type = t; part = h.part; at = refl; of_type = refl; laid = h.laid; begins = h.begins; ends = h.ends };
  }

  later : (o t : ℕ) (os ts : List ℕ) (i n : ℕ) → At os ts (i + 1) n → At (o ∷ os) (t ∷ ts) i n
  later o t os ts i n a =
      let f = a.holding in
      record {
        k = suc a.k;
        is = omega (arith, a.is);
        holding = record {
          offset = f.offset;
          type = f.type;
          part = f.part;
          at = f.at;
          of_type = f.of_type;
          laid = f.laid;
          begins = f.begins;
          ends = f.ends;
        };
      }

  -- and back
  by_place : (o t : ℕ) (os ts : List ℕ) (i n : ℕ) → At (o ∷ os) (t ∷ ts) i n → ((i ≡ n) × Holds (answer_in s t) o start end) ⊎ At os ts (i + 1) n
  by_place o t os ts i n a = by a.k a.is a.holding
    where
      by : (k : ℕ) → n ≡ i + k → FieldHolding s (o ∷ os) (t ∷ ts) start end k → ((i ≡ n) × Holds (answer_in s t) o start end) ⊎ At os ts (i + 1) n
      by zero e f = inl (
        omega arith,
        record {
          part = f.part;
          laid = ap (answer_in s) (some_is f.of_type) ∙ f.laid;
          begins = omega (arith, some_is f.at, f.begins);
          ends = λ z. omega (arith, some_is f.at, f.ends z);
        },
      )
      by (suc k) e f = inr record {
        k = k;
        is = omega arith;
        holding = record {
          offset = f.offset;
          type = f.type;
          part = f.part;
          at = f.at;
          of_type = f.of_type;
          laid = f.laid;
          begins = f.begins;
          ends = f.ends;
        };
      }

  record FoundFrom (os ts : List ℕ) (i : ℕ) (found : List ℕ) : Type 0 where
    rising : RisingFrom i found
    just : (n : ℕ) → Has found n ↔ At os ts i n

  found_fields : (os ts : List ℕ) (i : ℕ) → FoundFrom os ts i (fields_holding (answer_in s) os ts i start end)
  unfolding fields_holding
  found_fields [] ts i = record { rising = tt; just = λ n. (λ h. absurd h, λ a. absurd (no_some a.holding.at)) }
  found_fields (o ∷ os) [] i = record { rising = tt; just = λ n. (λ h. absurd h, λ a. absurd (no_some a.holding.of_type)) }
  found_fields (o ∷ os) (t ∷ ts) i = by (memory_passes (field_holds o start end) (answer_in s t)) refl (found_fields os ts (i + 1))
    where
      rest : List ℕ
      rest = fields_holding (answer_in s) os ts (i + 1) start end

      by : (b : Bool) → memory_passes (field_holds o start end) (answer_in s t) ≡ b → FoundFrom os ts (i + 1) rest → FoundFrom (o ∷ os) (t ∷ ts) i (cond b (i ∷ rest) rest)
      by true e f = record {
        rising = (omega arith, rising_from (suc i) (i + 1) rest (omega arith) f.rising);
        just = λ n. (
          λ h. ⊎_elim (λ g. first o t os ts i n g (holds o start end (answer_in s t) e)) (λ g. later o t os ts i n ((f.just n).0 g)) h,
          λ a. ⊎_elim (λ g. inl g.0) (λ g. inr ((f.just n).1 g)) (by_place o t os ts i n a),
        );
      }
      by false e f = record {
        rising = rising_from i (i + 1) rest (omega arith) f.rising;
        just = λ n. (
          λ h. later o t os ts i n ((f.just n).0 h),
          λ a. ⊎_elim (λ g. absurd (false≢true (sym e ∙ passes o start end (answer_in s t) g.1))) (λ g. (f.just n).1 g) (by_place o t os ts i n a),
        );
      }

  fields_found : (os ts : List ℕ) → FoundIn s start end (fields_holding (answer_in s) os ts 0 start end) (Fields os ts)
  fields_found os ts =
      let f = found_fields os ts 0 in
      (f.rising, λ n. (λ h. here n ((f.just n).0 h), λ g. (f.just n).1 record { k = n; is = omega arith; holding = g }))
    where
      here : (n : ℕ) → At os ts 0 n → FieldHolding s os ts start end n
      here n a = let e : a.k ≡ n = omega (arith, a.is) in subst (FieldHolding s os ts start end) e a.holding

-- ---- elements

module _ (stride len size start end : ℕ) (some_stride : 1 ≤ stride) where
  abbrev index : ℕ
  index = start / stride

  abbrev element_end : ℕ → ℕ
  element_end n = n * stride + size_at_index n len size

  found_element : (n : ℕ) → (eqb len 0 || leb index len) && (leb end (element_end index) && leb (element_end index) max_u32) ≡ true → index ≡ n → ElementHolding stride len size start end n
  found_element n h e = subst (ElementHolding stride len size start end) e record {
    begins = div-mul-le_self start stride;
    next = lt-div-mul-add some_stride;
    in_length = λ l. by l (eqb len 0) refl (first_true _ _ h);
    ends = leb-true end (element_end index) (first_true _ _ g);
    fits = leb-true (element_end index) max_u32 (second_true (leb end (element_end index)) _ g);
  }
    where
      g : leb end (element_end index) && leb (element_end index) max_u32 ≡ true
      g = second_true (eqb len 0 || leb index len) _ h

      by : 1 ≤ len → (b : Bool) → eqb len 0 ≡ b → b || leb index len ≡ true → index ≤ len
      by l true e k = absurd (omega (arith, eqb-true len 0 e))
      by l false e k = leb-true index len k

  is_found : (n : ℕ) → ElementHolding stride len size start end n → (index ≡ n) × ((eqb len 0 || leb index len) && (leb end (element_end index) && leb (element_end index) max_u32) ≡ true)
  is_found n f =
      let e : index ≡ n = div-eq_of_lt-le stride f.begins (omega (arith, add-mul n 1 stride, f.next)) in
      (e, rw e (rw (le-leb end (element_end n) f.ends, le-leb (element_end n) max_u32 f.fits) (by (eqb len 0) refl)))
    where
      by : (b : Bool) → eqb len 0 ≡ b → (b || leb n len) && true ≡ true
      by true e = refl
      by false e = let z = eqb-false len 0 e in rw (le-leb n len (f.in_length (omega arith)))

  elements_found : (length (element_holding stride len size start end) ≤ 1) × ((n : ℕ) → Has (element_holding stride len size start end) n ↔ ElementHolding stride len size start end n)
  unfolding element_holding
  elements_found = by ((eqb len 0 || leb index len) && (leb end (element_end index) && leb (element_end index) max_u32)) refl
    where
      by : (b : Bool) → (eqb len 0 || leb index len) && (leb end (element_end index) && leb (element_end index) max_u32) ≡ b
          → (length (cond b (index ∷ []) []) ≤ 1) × ((n : ℕ) → Has (cond b (index ∷ []) []) n ↔ ElementHolding stride len size start end n)
      by true e = (omega arith, λ n. (λ h. ⊎_elim (λ g. found_element n e g) (λ g. absurd g) h, λ f. inl (is_found n f).0))
      by false e = (omega arith, λ n. (λ h. absurd h, λ f. absurd (false≢true (sym e ∙ (is_found n f).1))))

-- ---- the question

module _ (s : Sheet) (t start end : ℕ) where
  found_in : (m : MemTypeLayout) (c : Components) → m.components ≡ c → PartsOf s m c → FoundIn s start end (components_containing (answer_in s) c start end) c
  unfolding components_containing size_of_part
  found_in m Scalar e p = refl
  found_in m (Elements stride elem len) e p =
      λ k h. rw h (elements_found stride len (size_of k) start end p.some_stride)
  found_in m (Fields os ts) e p = fields_found s start end os ts

pub lookup_found : Lookup
unfolding lookup_by in_memory_only
lookup_found s t start end found h =
    let l = went _ _ (passed _ _ (passed _ _ h)) in
    let c = went _ _ l.rest in
    by l.value l.here c.value c.here (value_is c.rest)
  where
    by : (l : TypeLayout) → answer_in s t ≡ ok l → (c : Components) → in_memory_only l ≡ ok c → components_containing (answer_in s) c start end ≡ found
        → (m : MemTypeLayout) × (answer_in s t ≡ ok (Concrete m)) × FoundIn s start end found m.components
    by (Handle k) a c i e = absurd (never i)
    by (HandleArray k n) a c i e = absurd (never i)
    by (Concrete m) a c i e =
        let p = parts s (Concrete m) m (t, inl a) refl in
        let same : components_containing (answer_in s) m.components start end ≡ found = ap (λ (x : Components). components_containing (answer_in s) x start end) (value_is i) ∙ e in
        (m, a, subst (λ (f : List ℕ). FoundIn s start end f m.components) same (found_in s t start end m m.components refl p))
