-- On a sheet that was read each question is refused only by numbers of the table, and by which is as the table says. Assumes nothing.
use Prim.Native.Nat.{ℕ, zero, suc, ◌+◌, ◌<◌, ◌≤◌}
use mathlib.Core.Path.{◌≡◌, refl, ap, ◌∙◌, subst}
use mathlib.Core.Bool.{Bool, true, ◌&&◌}
use mathlib.Core.List.{List, [], ◌∷◌, ◌++◌}
use mathlib.Core.Logic.{◌⊎◌, inl, inr, ⊎_elim}
use mathlib.Core.Option.{some}
use native.Mathlib.Decide.{dec_le}
use native.Mathlib.Omega.{arith}
use lib.Dec.{ltb}
use lib.ListN.{length, get_elem?}
use borrow.Author.Tests.{lt-ltb, ltb-true}
use Rattle.std.specs.Prelude.{None}
use Rattle.arith.specs.Refusals.{ok, refused, refuse◌unless◌, misread}
use Rattle.arith.proofs.Results.{never, value_is, went, no_some, RefusedBy, fine_by, this_by, then_by, and_by, unless_by, when_by, wider_by, first_true, second_true}
use Rattle.spirv.specs.declared.ChainOp.{ChainOp}
use Rattle.spirv.specs.declared.ChainOp.TheVariants.{AccessChain, InBoundsAccessChain, PtrAccessChain, InBoundsPtrAccessChain}
use Rattle.spirv.specs.declared.Index.{Index}
use Rattle.spirv.specs.declared.Stride.TheVariants.{Undecorated}
use Rattle.spirv.specs.declared.SpvType.{SpvType}
use Rattle.spirv.specs.declared.SpvType.TheVariants as spv
use Rattle.spirv.specs.Decl.{pointee_of}
use Rattle.spirv.specs.Questions.{Question}
use Rattle.shapes.specs.Shapes.{Components, Scalar, Elements, Fields, Opaque, Buffer, MemTypeLayout, TypeLayout, Handle, HandleArray, Concrete}
use Rattle.sheet.specs.Sheet.{Sheet, declared, decl_in, pointee_in}
use Rattle.sheet.specs.Statements.{All, FitsType, FitsQuestion, GoodSheet}
use Rattle.sheet.proofs.GoodSheet.{reads_good}
use Rattle.layout.specs.Arrays.{runtime_params}
use Rattle.layout.specs.Layouts.{answer_in, runtime_array_by}
use Rattle.layout.specs.Lookup.{in_memory_only, lookup_by}
use Rattle.layout.specs.Statements.{Has, PartsOf, IsLayoutRefusal}
use Rattle.layout.proofs.InSheet.{decl_there}
use Rattle.layout.proofs.Parts.{parts}
use Rattle.layout.proofs.Refusals.{refused_only, array_only, element_there}
use Rattle.lower.specs.Steps.{Field, field_at}
use Rattle.lower.specs.Chain.{start_layout, chain_by, lower_chain}
use Rattle.lower.specs.Other.{buffer_of, member_of, runtime_stride, stride_of_part, length_in, length_by, array_length, variable_by}
use Rattle.lower.proofs.Moves.{field_is}
use Rattle.lower.proofs.Onward.{start_in}
use Rattle.lower.proofs.Refusals.{laid_only, chain_only}
use Rattle.answers.specs.Lines.{answer_by, answer}
use Rattle.promise.specs.Table.{layout_refusals, refusals_of, TableNumbers}

-- ---- numbers in a list

-- k numbers from a on
range : ℕ → ℕ → List ℕ
range a zero = []
range a (suc k) = a ∷ range (suc a) k

in_range : (a k n : ℕ) → a ≤ n → n < a + k → Has (range a k) n
unfolding range
in_range a zero n h l = absurd (omega arith)
in_range a (suc k) n h l = by (λ g. in_range (suc a) k n g (omega arith)) (dec_le (suc a) n)
  where
    by : (suc a ≤ n → Has (range (suc a) k) n) → Dec (suc a ≤ n) → (a ≡ n) ⊎ Has (range (suc a) k) n
    by f (yes g) = inr (f g)
    by f (no g) = inl (omega arith)

has_left : (xs ys : List ℕ) (n : ℕ) → Has xs n → Has (xs ++ ys) n
has_left [] ys n h = absurd h
has_left (x ∷ xs) ys n h = ⊎_elim (λ e. inl e) (λ g. inr (has_left xs ys n g)) h

has_right : (xs ys : List ℕ) (n : ℕ) → Has ys n → Has (xs ++ ys) n
has_right [] ys n h = h
has_right (x ∷ xs) ys n h = inr (has_right xs ys n h)

layout_has : (n : ℕ) → IsLayoutRefusal n → Has layout_refusals n
unfolding range
layout_has n h = in_range 4 14 n h.0 (omega arith)

-- ---- what a question leans on

element_below : {A : Type 0} {a : A} (xs : List A) (n : ℕ) → get_elem? xs n ≡ some a → n < length xs
element_below [] n h = absurd (no_some h)
element_below (x ∷ xs) zero h = omega arith
element_below (x ∷ xs) (suc n) h = omega (arith, element_below xs n h)

-- only a P has a pointee, and 18 is on the others
pointer_is : (ty : SpvType) (t : ℕ) → pointee_of ty ≡ ok t → (above : ℕ) → FitsType above ty → t < above
unfolding pointee_of
pointer_is spv.Bool t h above f = absurd (never h)
pointer_is (spv.Int width) t h above f = absurd (never h)
pointer_is (spv.Float width) t h above f = absurd (never h)
pointer_is (spv.Vector elem len) t h above f = absurd (never h)
pointer_is (spv.Matrix column len) t h above f = absurd (never h)
pointer_is (spv.Array elem len stride) t h above f = absurd (never h)
pointer_is (spv.RuntimeArray elem stride) t h above f = absurd (never h)
pointer_is (spv.Struct block) t h above f = absurd (never h)
pointer_is (spv.Pointer class pointee) t h above f = omega (arith, value_is h, f.1)
pointer_is spv.Opaque t h above f = absurd (never h)
pointer_is spv.Unsupported t h above f = absurd (never h)

type_by : (P : ℕ → Type 0) → P 18 → (ty : SpvType) → RefusedBy P (pointee_of ty)
unfolding pointee_of
type_by P p spv.Bool = this_by p
type_by P p (spv.Int width) = this_by p
type_by P p (spv.Float width) = this_by p
type_by P p (spv.Vector elem len) = this_by p
type_by P p (spv.Matrix column len) = this_by p
type_by P p (spv.Array elem len stride) = this_by p
type_by P p (spv.RuntimeArray elem stride) = this_by p
type_by P p (spv.Struct block) = this_by p
type_by P p (spv.Pointer class pointee) = fine_by
type_by P p spv.Opaque = this_by p
type_by P p spv.Unsupported = this_by p

module _ (s : Sheet) (good : GoodSheet s) where
  -- the layout of a type that there is
  layout_by : {P : ℕ → Type 0} (t : ℕ) → t < length s.types → ((n : ℕ) → IsLayoutRefusal n → P n) → RefusedBy P (answer_in s t)
  layout_by t lt f = wider_by f (refused_only s good t lt)

  decl_by : {P : ℕ → Type 0} (t : ℕ) → t < length s.types → RefusedBy P (decl_in s t)
  unfolding decl_in
  decl_by t lt = laid_only (ap declared (element_there s.types t lt).1)

  -- a pointee is a lower type
  pointee_lower : (ptr t : ℕ) → pointee_in s ptr ≡ ok t → t < length s.types
  unfolding pointee_in
  pointee_lower ptr t h =
      let d = went _ _ h in
      let e = decl_there s ptr d.value d.here in
      omega (arith, pointer_is d.value.type t d.rest ptr (good.types ptr d.value e).type, element_below s.types ptr e)

  pointee_by : (P : ℕ → Type 0) (ptr : ℕ) → ptr < length s.types → P 18 → RefusedBy P (pointee_in s ptr)
  unfolding pointee_in
  pointee_by P ptr lt p = then_by _ _ (decl_by ptr lt) λ d h. type_by P p d.type

  start_by : {P : ℕ → Type 0} (op : ChainOp) (t : ℕ) → t < length s.types → ((n : ℕ) → IsLayoutRefusal n → P n) → RefusedBy P (start_layout s.setting (answer_in s) op t)
  unfolding start_layout runtime_array_by runtime_params
  start_by AccessChain t lt f = layout_by t lt f
  start_by InBoundsAccessChain t lt f = layout_by t lt f
  start_by PtrAccessChain t lt f = wider_by f (array_only s.setting (answer_in s) (runtime_params s.setting t Undecorated) (refused_only s good t lt))
  start_by InBoundsPtrAccessChain t lt f = wider_by f (array_only s.setting (answer_in s) (runtime_params s.setting t Undecorated) (refused_only s good t lt))

  -- ---- C and L

  -- 18, 4 to 17, then others
  abbrev Behind : List ℕ → ℕ → Type 0
  Behind others = Has (18 ∷ (layout_refusals ++ others))

  layout_behind : (others : List ℕ) (n : ℕ) → IsLayoutRefusal n → Behind others n
  layout_behind others n h = inr (has_left layout_refusals others n (layout_has n h))

  other_behind : (others : List ℕ) (n : ℕ) → Has others n → Behind others n
  other_behind others n h = inr (has_right layout_refusals others n h)

  abbrev walk_numbers : List ℕ
  walk_numbers = 19 ∷ 20 ∷ 21 ∷ 22 ∷ 23 ∷ []

  chain_by_lem : (op : ChainOp) (ptr : ℕ) (is : List Index) → ptr < length s.types → RefusedBy (Behind walk_numbers) (lower_chain s op ptr is)
  unfolding chain_by range
  chain_by_lem op ptr is lt =
      then_by _ _ (pointee_by (Behind walk_numbers) ptr lt (inl refl)) λ t h. then_by _ _ (start_by op t (pointee_lower ptr t h) (layout_behind walk_numbers)) λ l g.
      wider_by (λ n k. other_behind walk_numbers n (in_range 19 5 n k.0 (omega (arith, k.1)))) (chain_only s is l (start_in s op t l g) None)

  -- so none of them is 0
  pub chain_above_0 : (op : ChainOp) (ptr : ℕ) (is : List Index) → ptr < length s.types → RefusedBy (λ n. 0 < n) (lower_chain s op ptr is)
  chain_above_0 op ptr is lt = wider_by (above (18 ∷ (layout_refusals ++ walk_numbers)) refl) (chain_by_lem op ptr is lt)
    where
      positive : List ℕ → Bool
      positive [] = true
      positive (m ∷ ms) = ltb 0 m && positive ms

      above : (ms : List ℕ) → positive ms ≡ true → (n : ℕ) → Has ms n → 0 < n
      above [] h n g = absurd g
      above (m ∷ ms) h n (inl e) = subst (λ (k : ℕ). 0 < k) e (ltb-true 0 m (first_true (ltb 0 m) _ h))
      above (m ∷ ms) h n (inr g) = above ms (second_true (ltb 0 m) (positive ms) h) n g

  -- the numbers of L behind its layout's
  abbrev length_numbers : List ℕ
  length_numbers = 25 ∷ 21 ∷ 26 ∷ 27 ∷ []

  abbrev OfLength : ℕ → Type 0
  OfLength = Behind length_numbers

  length_25 : OfLength 25
  length_25 = other_behind length_numbers 25 (inl refl)

  length_21 : OfLength 21
  length_21 = other_behind length_numbers 21 (inr (inl refl))

  length_26 : OfLength 26
  length_26 = other_behind length_numbers 26 (inr (inr (inl refl)))

  length_27 : OfLength 27
  length_27 = other_behind length_numbers 27 (inr (inr (inr (inl refl))))

  buffer_by : (l : TypeLayout) → RefusedBy OfLength (buffer_of l)
  unfolding buffer_of
  buffer_by (Handle Opaque) = this_by length_25
  buffer_by (Handle (Buffer m)) = fine_by
  buffer_by (HandleArray h n) = this_by length_25
  buffer_by (Concrete m) = this_by length_25

  field_by_lem : (os ts : List ℕ) (n : ℕ) → RefusedBy OfLength (field_at os ts n)
  unfolding field_at
  field_by_lem [] ts n = this_by length_21
  field_by_lem (o ∷ os) [] n = this_by length_21
  field_by_lem (o ∷ os) (t ∷ ts) zero = fine_by
  field_by_lem (o ∷ os) (t ∷ ts) (suc n) = field_by_lem os ts n

  member_by : (c : Components) (n : ℕ) → RefusedBy OfLength (member_of c n)
  unfolding member_of
  member_by Scalar n = this_by length_21
  member_by (Elements stride elem len) n = this_by length_21
  member_by (Fields os ts) n = field_by_lem os ts n

  stride_by : (l : TypeLayout) → RefusedBy OfLength (stride_of_part l)
  unfolding stride_of_part runtime_stride
  stride_by (Handle h) = this_by length_26
  stride_by (HandleArray h n) = this_by length_26
  stride_by (Concrete m) = by m.components
    where
      by : (c : Components) → RefusedBy OfLength (runtime_stride c)
      by Scalar = this_by length_26
      by (Elements stride elem len) = and_by _ _ (unless_by _ _ length_26) fine_by
      by (Fields os ts) = this_by length_26

  -- a buffer's member has a layout
  member_laid : (t : ℕ) (l : TypeLayout) (m : MemTypeLayout) → answer_in s t ≡ ok l → buffer_of l ≡ ok m → (c : Components) → m.components ≡ c → (n : ℕ) (f : Field) → member_of c n ≡ ok f
      → RefusedBy OfLength (answer_in s f.type)
  unfolding buffer_of member_of
  member_laid t (Handle Opaque) m h b c e n f g = absurd (never b)
  member_laid t (HandleArray k x) m h b c e n f g = absurd (never b)
  member_laid t (Concrete k) m h b c e n f g = absurd (never b)
  member_laid t (Handle (Buffer k)) m h b Scalar e n f g = absurd (never g)
  member_laid t (Handle (Buffer k)) m h b (Elements stride elem len) e n f g = absurd (never g)
  member_laid t (Handle (Buffer k)) m h b (Fields os ts) e n f g =
      let p = subst (PartsOf s k) (ap (λ (x : MemTypeLayout). x.components) (value_is b) ∙ e) (parts s (Handle (Buffer k)) k (t, inl h) refl) in
      let i = field_is os ts n f g in
      laid_only (p.each n f.type f.offset i.of_type i.at).laid

  length_by_lem : (ptr member : ℕ) → ptr < length s.types → RefusedBy OfLength (array_length s ptr member)
  unfolding length_by length_in
  length_by_lem ptr member lt =
      then_by _ _ (pointee_by OfLength ptr lt (inl refl)) λ t h. then_by _ _ (layout_by t (pointee_lower ptr t h) (layout_behind length_numbers)) λ l g.
      then_by _ _ (buffer_by l) λ b k. then_by _ _ (member_by b.components member) λ f j. then_by _ _ (member_laid t l b g k b.components refl member f j) λ part e.
      then_by _ _ (stride_by part) λ st i. and_by _ _ (unless_by _ _ length_27) fine_by

  -- ---- Q and X

  memory_by : (l : TypeLayout) → RefusedBy (Has (28 ∷ (layout_refusals ++ (19 ∷ [])))) (in_memory_only l)
  unfolding in_memory_only
  memory_by (Handle h) = this_by (inr (has_right layout_refusals (19 ∷ []) 19 (inl refl)))
  memory_by (HandleArray h n) = this_by (inr (has_right layout_refusals (19 ∷ []) 19 (inl refl)))
  memory_by (Concrete m) = fine_by

  there_by : {P : ℕ → Type 0} (t : ℕ) → t < length s.types → RefusedBy P (refuse misread unless ltb t (length s.types))
  unfolding refuse◌unless◌
  there_by t lt = rw (lt-ltb t (length s.types) lt) fine_by

  -- ---- any question

  question_by : (q : Question) → FitsQuestion (length s.types) q → RefusedBy (Has (refusals_of q)) (answer s q)
  unfolding answer_by lookup_by variable_by
  question_by (Question.T t) f = then_by _ _ (layout_by t f layout_has) λ l h. fine_by
  question_by (Question.E a b) f = then_by _ _ (layout_by a f.0 layout_has) λ l h. then_by _ _ (layout_by b f.1 layout_has) λ m g. fine_by
  question_by (Question.Q t start end) f =
      then_by _ _ (and_by _ _ (there_by t f.0) (and_by _ _ (when_by _ _ (inl refl))
      (then_by _ _ (layout_by t f.0 (λ n h. inr (has_left layout_refusals (19 ∷ []) n (layout_has n h)))) λ l h. then_by _ _ (memory_by l) λ c g. fine_by))) λ found h. fine_by
  question_by (Question.C op ptr is) f = then_by _ _ (chain_by_lem op ptr is f.0) λ steps h. fine_by
  question_by (Question.L ptr member) f = then_by _ _ (length_by_lem ptr member f.0) λ a h. fine_by
  question_by (Question.X ptr) f =
      then_by _ _ (then_by _ _ (pointee_by (Has (18 ∷ layout_refusals)) ptr f (inl refl)) λ t h. then_by _ _ (layout_by t (pointee_lower ptr t h) (λ n g. inr (layout_has n g))) λ l g. fine_by) λ m h. fine_by

pub table_numbers : TableNumbers
table_numbers input s h = let good = reads_good input s h in all good s.questions good.questions
  where
    all : GoodSheet s → (qs : List Question) → All (FitsQuestion (length s.types)) qs → All (λ q. (n : ℕ) → answer s q ≡ refused n → Has (refusals_of q) n) qs
    all good [] f = tt
    all good (q ∷ qs) f = ((question_by s good q f.0).only, all good qs f.1)
