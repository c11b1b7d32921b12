-- What an index that is not refused did: the field or the element that it found, and what it added. Assumes nothing.
use Prim.Native.Nat.{ℕ, zero, suc}
use mathlib.Core.Path.{◌≡◌, refl, sym, ap, ◌∙◌, subst}
use mathlib.Core.Bool.{true}
use mathlib.Core.List.{List, [], ◌∷◌, ◌++◌}
use mathlib.Core.Option.{Option, none, some}
use lib.Dec.{leb}
use lib.IntN.{ℤ, pos, negsuc, ◌*ℤ◌}
use lib.ListN.{get_elem?}
use Rattle.std.specs.Prelude.{None}
use Rattle.arith.specs.Refusals.{ok}
use Rattle.arith.specs.Numbers.{max_i32, signed, is_i32}
use Rattle.arith.proofs.Results.{never, value_is, went, passed, not_refused, no_some, second_true, let_through}
use Rattle.spirv.specs.declared.ChainOp.{ChainOp}
use Rattle.spirv.specs.declared.Index.{Index}
use Rattle.spirv.specs.declared.Index.TheVariants.{Known, Unknown}
use Rattle.shapes.specs.Shapes.{Components, Scalar, Elements, Fields, Opaque, Buffer, TypeLayout, Handle, HandleArray, Concrete}
use Rattle.sheet.specs.Sheet.{Sheet, pointee_in}
use Rattle.layout.specs.Arrays.{Answer}
use Rattle.layout.specs.Layouts.{answer_in}
use Rattle.lower.specs.declared.QPtrOp.{QPtrOp}
use Rattle.lower.specs.declared.QPtrOp.TheVariants.{HandleArrayIndex, BufferData, DynOffset}
use Rattle.lower.specs.Steps.{Pending, flush, merged, Field, field_at, field_of, Move, to_field, bound_of, in_bound, constant_offset, by_constant, to_element, to_part, move, lower_from}
use Rattle.lower.specs.Chain.{start_layout, chain_by}
use Rattle.lower.specs.Statements.{Accepted}

-- ---- a field

pub record FieldIs (os ts : List ℕ) (n : ℕ) (f : Field) : Type 0 where
  pub at : get_elem? os n ≡ some f.offset
  pub of_type : get_elem? ts n ≡ some f.type

pub field_is : (os ts : List ℕ) (n : ℕ) (f : Field) → field_at os ts n ≡ ok f → FieldIs os ts n f
unfolding field_at
field_is [] ts n f h = absurd (never h)
field_is (o ∷ os) [] n f h = absurd (never h)
field_is (o ∷ os) (t ∷ ts) zero f h = record { at = ap (λ (x : Field). some x.offset) (value_is h); of_type = ap (λ (x : Field). some x.type) (value_is h) }
field_is (o ∷ os) (t ∷ ts) (suc n) f h = let g = field_is os ts n f h in record { at = g.at; of_type = g.of_type }

pub is_field : (os ts : List ℕ) (n : ℕ) (f : Field) → FieldIs os ts n f → field_at os ts n ≡ ok f
unfolding field_at
is_field [] ts n f g = absurd (no_some g.at)
is_field (o ∷ os) [] n f g = absurd (no_some g.of_type)
is_field (o ∷ os) (t ∷ ts) zero f g =
    let a : o ≡ f.offset = cc g.at in
    let b : t ≡ f.type = cc g.of_type in
    ap (λ (x : ℕ). ok record { offset = x; type = t }) a ∙ ap (λ (x : ℕ). ok record { offset = f.offset; type = x }) b
is_field (o ∷ os) (t ∷ ts) (suc n) f g = is_field os ts n f record { at = g.at; of_type = g.of_type }

module _ (answer-of : ℕ → Answer) where
  -- the index's value is the number n of a field, whose offset was added
  pub record ToField (os ts : List ℕ) (i : Index) (p : Pending) (a : Move) : Type 0 where
    pub word : ℕ
    pub known : i ≡ Known word
    pub n : ℕ
    pub number : signed word ≡ pos n
    pub field : Field
    pub is : FieldIs os ts n field
    pub near : leb field.offset max_i32 ≡ true
    pub added : merged p (pos field.offset) ≡ ok a.pending
    pub laid : answer-of field.type ≡ ok a.layout
    pub no_steps : a.steps ≡ []

  pub to_field_lem : (os ts : List ℕ) (i : Index) (p : Pending) (a : Move) → to_field answer-of os ts i p ≡ ok a → ToField os ts i p a
  unfolding to_field field_of
  to_field_lem os ts (Unknown v) p a h = absurd (never h)
  to_field_lem os ts (Known w) p a h =
      let f = went _ _ h in
      let q = went _ _ (passed _ _ f.rest) in
      let l = went _ _ q.rest in
      let (n, e, g) = numbered (signed w) f.value f.here in
      subst (ToField os ts (Known w) p) (value_is l.rest) record {
        word = w;
        known = refl;
        n = n;
        number = e;
        field = f.value;
        is = field_is os ts n f.value g;
        near = not_refused _ _ _ f.rest;
        added = q.here;
        laid = l.here;
        no_steps = refl;
      }
    where
      numbered : (z : ℤ) (f : Field) → field_of os ts z ≡ ok f → (n : ℕ) × (z ≡ pos n) × (field_at os ts n ≡ ok f)
      numbered (pos n) f g = (n, refl, g)
      numbered (negsuc n) f g = absurd (never g)

  -- ---- an element

  -- what is constant is stride × value, and fits
  pub record Constant (stride : ℕ) (i : Index) (z : ℤ) : Type 0 where
    pub word : ℕ
    pub known : i ≡ Known word
    pub is : z ≡ pos stride *ℤ signed word
    pub fits : is_i32 z ≡ true

  pub constant_is : (stride len : ℕ) (i : Index) (z : ℤ) → constant_offset stride len i ≡ some z → Constant stride i z
  unfolding constant_offset
  constant_is stride len (Unknown v) z h = absurd (no_some h)
  constant_is stride len (Known w) z h =
      let g = let_through _ _ _ h in
      let f = second_true (leb stride max_i32) _ (second_true (in_bound (bound_of len) (signed w)) _ g.holds) in
      record { word = w; known = refl; is = sym g.value; fits = subst (λ (x : ℤ). is_i32 x ≡ true) g.value f }

  -- the index's offset was added, or it stays D
  abbrev pub ByConstant : (stride bound : ℕ) (i : Index) (p : Pending) (a : Move) → Option ℤ → Type 0
  ByConstant stride bound i p a none = (a.steps ≡ flush p (DynOffset stride bound i ∷ [])) × (a.pending ≡ None)
  ByConstant stride bound i p a (some z) = Constant stride i z × (merged p z ≡ ok a.pending) × (a.steps ≡ [])

  pub record ToElement (stride elem len : ℕ) (i : Index) (p : Pending) (a : Move) : Type 0 where
    pub constant : Option ℤ
    pub by : ByConstant stride (bound_of len) i p a constant
    pub laid : answer-of elem ≡ ok a.layout

  pub to_element_lem : (stride elem len : ℕ) (i : Index) (p : Pending) (a : Move) → to_element answer-of stride elem len i p ≡ ok a → ToElement stride elem len i p a
  unfolding to_element by_constant
  to_element_lem stride elem len i p a h = let l = went _ _ h in by_case (constant_offset stride len i) (constant_is stride len i) l.value l.here l.rest
    where
      by_case : (c : Option ℤ) → ((z : ℤ) → c ≡ some z → Constant stride i z) → (l : TypeLayout) → answer-of elem ≡ ok l
          → by_constant c (DynOffset stride (bound_of len) i) p l ≡ ok a → ToElement stride elem len i p a
      by_case (some z) f l e g =
          let q = went _ _ g in
          subst (ToElement stride elem len i p) (value_is q.rest) record { constant = some z; by = (f z refl, q.here, refl); laid = e }
      by_case none f l e g = subst (ToElement stride elem len i p) (value_is g) record { constant = none; by = (refl, refl); laid = e }

  -- ---- any index

  -- into memory of these parts
  abbrev pub ToPart : Components → Index → Pending → Move → Type 0
  ToPart Scalar i p a = ⊥
  ToPart (Elements stride elem len) i p a = ToElement stride elem len i p a
  ToPart (Fields os ts) i p a = ToField os ts i p a

  pub to_part_lem : (c : Components) (i : Index) (p : Pending) (a : Move) → to_part answer-of c i p ≡ ok a → ToPart c i p a
  unfolding to_part
  to_part_lem Scalar i p a h = absurd (never h)
  to_part_lem (Elements stride elem len) i p a h = to_element_lem stride elem len i p a h
  to_part_lem (Fields os ts) i p a h = to_field_lem os ts i p a h

  -- into a buffer: B, then as into its memory with nothing waiting
  pub record ToBuffer (c : Components) (i : Index) (p : Pending) (a : Move) : Type 0 where
    pub inner : Move
    pub by : ToPart c i None inner
    pub steps : a.steps ≡ flush p (BufferData ∷ inner.steps)
    pub pending : a.pending ≡ inner.pending
    pub layout : a.layout ≡ inner.layout

  abbrev pub Moved : TypeLayout → Index → Pending → Move → Type 0
  Moved (Handle Opaque) i p a = ⊥
  Moved (Handle (Buffer m)) i p a = ToBuffer m.components i p a
  Moved (HandleArray h n) i p a = (a.steps ≡ flush p (HandleArrayIndex i ∷ [])) × (a.pending ≡ None) × (a.layout ≡ Handle h)
  Moved (Concrete m) i p a = ToPart m.components i p a

  pub moved_by : (l : TypeLayout) (i : Index) (p : Pending) (a : Move) → move answer-of l i p ≡ ok a → Moved l i p a
  unfolding move
  moved_by (Handle Opaque) i p a h = absurd (never h)
  moved_by (Handle (Buffer m)) i p a h =
      let b = went _ _ h in
      subst (ToBuffer m.components i p) (value_is b.rest) record { inner = b.value; by = to_part_lem m.components i None b.value b.here; steps = refl; pending = refl; layout = refl }
  moved_by (HandleArray h n) i p a g = subst (Moved (HandleArray h n) i p) (value_is g) (refl, refl, refl)
  moved_by (Concrete m) i p a h = to_part_lem m.components i p a h

-- ---- all indices

-- the first index moved, and the others went on from there
pub record First (answer-of : ℕ → Answer) (l : TypeLayout) (p : Pending) (i : Index) (is : List Index) (steps : List QPtrOp) : Type 0 where
  pub to : Move
  pub by : Moved answer-of l i p to
  pub rest : List QPtrOp
  pub onward : lower_from answer-of to.layout to.pending is ≡ ok rest
  pub joined : steps ≡ to.steps ++ rest

pub first_of : (answer-of : ℕ → Answer) (l : TypeLayout) (p : Pending) (i : Index) (is : List Index) (steps : List QPtrOp)
    → lower_from answer-of l p (i ∷ is) ≡ ok steps → First answer-of l p i is steps
unfolding lower_from
first_of answer-of l p i is steps h =
    let a = went _ _ h in
    let r = went _ _ a.rest in
    record { to = a.value; by = moved_by answer-of l i p a.value a.here; rest = r.value; onward = r.here; joined = sym (value_is r.rest) }

pub none_left : (answer-of : ℕ → Answer) (l : TypeLayout) (p : Pending) (steps : List QPtrOp) → lower_from answer-of l p [] ≡ ok steps → steps ≡ flush p []
unfolding lower_from
none_left answer-of l p steps h = sym (value_is h)

-- ---- the start of a chain

pub record Begun (s : Sheet) (op : ChainOp) (ptr : ℕ) (is : List Index) (steps : List QPtrOp) : Type 0 where
  pub pointee : ℕ
  pub points : pointee_in s ptr ≡ ok pointee
  pub layout : TypeLayout
  pub laid : start_layout s.setting (answer_in s) op pointee ≡ ok layout
  pub lowered : lower_from (answer_in s) layout None is ≡ ok steps

pub begun : (s : Sheet) (op : ChainOp) (ptr : ℕ) (is : List Index) (steps : List QPtrOp) → Accepted s op ptr is steps → Begun s op ptr is steps
unfolding chain_by
begun s op ptr is steps h =
    let t = went _ _ h in
    let l = went _ _ t.rest in
    record { pointee = t.value; points = t.here; layout = l.value; laid = l.here; lowered = l.rest }
