-- No answer line of a sheet is longer than 16,384 bytes. Assumes nothing.
use Prim.Native.Nat.{ℕ, ◌+◌, ◌*◌, ◌/◌, ◌≤◌}
use native.Mathlib.Omega.{arith}
use native.Mathlib.Nat.{div-le_self}
use mathlib.Core.Path.{◌≡◌, refl, ap, subst}
use mathlib.Core.Bool.{Bool, true, false, cond, ◌&&◌, ◌||◌}
use mathlib.Core.List.{List, [], ◌∷◌, map}
use mathlib.Core.Logic.{inl, ⊎_elim}
use mathlib.Core.Option.{Option, none, some}
use lib.Dec.{leb, eqb}
use lib.ListN.{length}
use borrow.Author.Tests.{leb-true}
use Rattle.arith.specs.Refusals.{Result, ok, refused}
use Rattle.arith.specs.Numbers.{max_u32}
use Rattle.arith.proofs.Results.{never, value_is, went, passed, first_true, second_true}
use Rattle.decimal.specs.Text.{bytes}
use Rattle.decimal.specs.Decimal.{decimal}
use Rattle.decimal.proofs.BothWays.{ten_digits}
use Rattle.spirv.specs.Questions.{Question}
use Rattle.shapes.specs.declared.MemLayout.{MemLayout}
use Rattle.shapes.specs.Shapes.{Components, Scalar, Elements, Fields, Buffer, MemTypeLayout, TypeLayout, Handle, HandleArray, Concrete, size_of, align_of, legacy_of, runtime_sized}
use Rattle.sheet.specs.Sheet.{Sheet}
use Rattle.sheet.specs.Statements.{Fits, All, FitsQuestion, GoodSheet}
use Rattle.sheet.proofs.GoodSheet.{reads_good}
use Rattle.layout.specs.Arrays.{Answer}
use Rattle.layout.specs.Layouts.{answer_in}
use Rattle.layout.specs.Lookup.{size_at_index, element_holding, field_holds, memory_passes, fields_holding, size_of_part, components_containing, in_memory_only, lookup_by, lookup}
use Rattle.layout.specs.Statements.{Has}
use Rattle.lower.specs.Chain.{lower_chain}
use Rattle.lower.specs.Other.{ArrayLength, array_length, variable_by, local_variable, fixed_memory}
use Rattle.lower.proofs.Other.{array_lengths}
use Rattle.lower.proofs.StepsFit.{steps_fit}
use Rattle.answers.specs.Lines.{AnswerLine, layout_line, same_line, equal_line, length_line, variable_line, answer_by, answer, result_line}
use Rattle.answers.specs.Output.{text_of}
use Rattle.promise.specs.Table.{refusals_of}
use Rattle.promise.proofs.Table.{table_numbers}
use Rattle.longest.specs.Statements.{FitsParts, FitsMemory, FitsLayout, longest, LongestLine}
use Rattle.longest.proofs.Layouts.{layouts_fit}
use Rattle.longest.proofs.Steps.{steps_numbers}
use Rattle.longest.proofs.Lengths.{total, line_length, numbers_total, layout_total, steps_total}

-- ---- refusals: the numbers of the table

all_from : List ℕ → Bool
all_from [] = true
all_from (n ∷ ns) = leb n 28 && all_from ns

small : (ns : List ℕ) → all_from ns ≡ true → (n : ℕ) → Has ns n → n ≤ 28
unfolding all_from
small [] h n g = absurd g
small (m ∷ ns) h n g =
    ⊎_elim (λ e. let k = leb-true m 28 (first_true (leb m 28) (all_from ns) h) in omega arith) (λ e. small ns (second_true (leb m 28) (all_from ns) h) n e) g

of_table : (q : Question) → all_from (refusals_of q) ≡ true
unfolding all_from
of_table (Question.T t) = refl
of_table (Question.E a b) = refl
of_table (Question.Q t start end) = refl
of_table (Question.C op ptr is) = refl
of_table (Question.L ptr member) = refl
of_table (Question.X ptr) = refl

-- ---- Q

found_fields : (answer-of : ℕ → Answer) (os ts : List ℕ) (i start end : ℕ) → i + length os ≤ max_u32
    → All Fits (fields_holding answer-of os ts i start end) × (length (fields_holding answer-of os ts i start end) ≤ length os)
unfolding fields_holding
found_fields answer-of [] ts i start end h = (tt, omega arith)
found_fields answer-of (o ∷ os) [] i start end h = (tt, omega arith)
found_fields answer-of (o ∷ os) (t ∷ ts) i start end h = by (memory_passes (field_holds o start end) (answer-of t)) (found_fields answer-of os ts (i + 1) start end (omega arith))
  where
    rest : List ℕ
    rest = fields_holding answer-of os ts (i + 1) start end

    by : (b : Bool) → All Fits rest × (length rest ≤ length os) → All Fits (cond b (i ∷ rest) rest) × (length (cond b (i ∷ rest) rest) ≤ length (o ∷ os))
    by true r = ((omega arith, r.0), omega (arith, r.1))
    by false r = (r.0, omega (arith, r.1))

found_element : (stride len size start end : ℕ) → Fits start → All Fits (element_holding stride len size start end) × (length (element_holding stride len size start end) ≤ 1)
unfolding element_holding
found_element stride len size start end f =
    let i = start / stride in
    let last = i * stride + size_at_index i len size in
    by ((eqb len 0 || leb i len) && (leb end last && leb last max_u32)) i (omega (arith, f, div-le_self start stride))
  where
    by : (b : Bool) (i : ℕ) → Fits i → All Fits (cond b (i ∷ []) []) × (length (cond b (i ∷ []) []) ≤ 1)
    by true i g = ((g, tt), omega arith)
    by false i g = (tt, omega arith)

found : (answer-of : ℕ → Answer) (c : Components) → FitsParts c → (start end : ℕ) → Fits start
    → All Fits (components_containing answer-of c start end) × (length (components_containing answer-of c start end) ≤ 1024)
unfolding components_containing
found answer-of Scalar f start end g = (tt, omega arith)
found answer-of (Elements stride elem len) f start end g = let r = found_element stride len (size_of_part (answer-of elem)) start end g in (r.0, omega (arith, r.1))
found answer-of (Fields os ts) f start end g = let r = found_fields answer-of os ts 0 start end (omega (arith, f.1)) in (r.0, omega (arith, r.1, f.1))

-- ---- each letter

module _ (s : Sheet) (good : GoodSheet s) where
  lookup_total : (t start end : ℕ) → Fits start → (ns : List ℕ) → lookup s t start end ≡ ok ns → total (bytes "q" ∷ map decimal ns) ≤ 11266
  unfolding lookup_by in_memory_only
  lookup_total t start end f ns h =
      let l = went _ _ (passed _ _ (passed _ _ h)) in
      let c = went _ _ l.rest in
      by l.value (layouts_fit s good l.value (t, inl l.here)) c.value c.here (value_is c.rest)
    where
      by : (l : TypeLayout) → FitsLayout l → (c : Components) → in_memory_only l ≡ ok c → components_containing (answer_in s) c start end ≡ ns → total (bytes "q" ∷ map decimal ns) ≤ 11266
      by (Handle k) g c i e = absurd (never i)
      by (HandleArray k n) g c i e = absurd (never i)
      by (Concrete m) g c i e =
          let parts : FitsParts c = subst FitsParts (value_is i) g.parts in
          let r = found (answer_in s) c parts start end f in
          let a : All Fits ns = rw e at r.0 in
          let b : length ns ≤ 1024 = rw e at r.1 in
          omega (arith, numbers_total ns a, b)

  length_total : (ptr member : ℕ) (a : ArrayLength) → array_length s ptr member ≡ ok a → total (length_line a) ≤ 24
  length_total ptr member a h =
      let i = (array_lengths s ptr member a).0 h in
      let block = layouts_fit s good (Handle (Buffer i.buffer)) (i.pointee, inl i.is_buffer) in
      let array = layouts_fit s good (Concrete i.array) (i.type, inl i.laid) in
      let parts : FitsParts (Elements a.stride i.elem 0) = subst FitsParts i.elements array.parts in
      let offset : Fits a.offset = omega (arith, block.size, i.last) in
      omega (arith, ten_digits a.offset offset, ten_digits a.stride parts.0)

  variable_total : (ptr : ℕ) (m : Option MemLayout) → local_variable s ptr ≡ ok m → total (variable_line m) ≤ 35
  unfolding variable_by fixed_memory
  variable_total ptr m h =
      let t = went _ _ h in
      let l = went _ _ t.rest in
      by l.value (layouts_fit s good l.value (t.value, inl l.here)) m (value_is l.rest)
    where
      fixed : (k : MemTypeLayout) → FitsMemory k → total (variable_line (some k.mem.fixed_base)) ≤ 35
      fixed k f = omega (arith, ten_digits (size_of k) f.size, ten_digits (align_of k) f.align, ten_digits (legacy_of k) f.legacy)

      one : (k : MemTypeLayout) → FitsMemory k → (b : Bool) → total (variable_line (cond b none (some k.mem.fixed_base))) ≤ 35
      one k f true = omega arith
      one k f false = fixed k f

      by : (l : TypeLayout) → FitsLayout l → (m : Option MemLayout) → fixed_memory l ≡ m → total (variable_line m) ≤ 35
      by (Handle x) f m e = subst (λ (o : Option MemLayout). total (variable_line o) ≤ 35) e (omega arith)
      by (HandleArray x n) f m e = subst (λ (o : Option MemLayout). total (variable_line o) ≤ 35) e (omega arith)
      by (Concrete k) f m e = subst (λ (o : Option MemLayout). total (variable_line o) ≤ 35) e (one k f (runtime_sized k))

  equal_total : (a b : TypeLayout) → total (equal_line a b) ≤ 2
  equal_total a b = by (same_line (layout_line a) (layout_line b))
    where
      by : (t : Bool) → total (cond t (bytes "y") (bytes "n") ∷ []) ≤ 2
      by true = omega arith
      by false = omega arith

  line_total : (q : Question) → FitsQuestion (length s.types) q → (line : AnswerLine) → answer s q ≡ ok line → total line ≤ 12000
  unfolding answer_by
  line_total (Question.T t) f line h =
      let l = went (answer_in s t) _ h in
      let e : layout_line l.value ≡ line = value_is l.rest in
      rw e at (layout_total l.value (layouts_fit s good l.value (t, inl l.here)))
  line_total (Question.E a b) f line h =
      let l = went (answer_in s a) _ h in
      let m = went (answer_in s b) _ l.rest in
      omega (arith, equal_total l.value m.value, ap total (value_is m.rest))
  line_total (Question.Q t start end) f line h =
      let w = went (lookup s t start end) _ h in
      omega (arith, lookup_total t start end f.1 w.value w.here, ap total (value_is w.rest))
  line_total (Question.C op ptr is) f line h =
      let w = went (lower_chain s op ptr is) _ h in
      let fit = steps_fit s op ptr is w.value w.here in
      omega (arith, steps_total w.value (steps_numbers s good op ptr is f.1 w.value w.here) fit.0, fit.1, f.2, ap total (value_is w.rest))
  line_total (Question.L ptr member) f line h =
      let w = went (array_length s ptr member) _ h in
      omega (arith, length_total ptr member w.value w.here, ap total (value_is w.rest))
  line_total (Question.X ptr) f line h =
      let w = went (local_variable s ptr) _ h in
      omega (arith, variable_total ptr w.value w.here, ap total (value_is w.rest))

-- ---- any question

refusal_length : (n : ℕ) → n ≤ 28 → length (text_of (refused n)) ≤ longest
refusal_length n h = omega (arith, line_length (result_line (refused n)), ten_digits n (omega arith))

one : (s : Sheet) → GoodSheet s → (q : Question) → FitsQuestion (length s.types) q → ((n : ℕ) → answer s q ≡ refused n → Has (refusals_of q) n) → length (text_of (answer s q)) ≤ longest
one s good q f table = by (answer s q) refl
  where
    by : (r : Result AnswerLine) → answer s q ≡ r → length (text_of r) ≤ longest
    by (ok line) e = omega (arith, line_length line, line_total s good q f line e)
    by (refused n) e = refusal_length n (small (refusals_of q) (of_table q) n (table n e))

pub longest_line : LongestLine
longest_line input s h = let good = reads_good input s h in all good s.questions good.questions (table_numbers input s h)
  where
    all : GoodSheet s → (qs : List Question) → All (FitsQuestion (length s.types)) qs → All (λ q. (n : ℕ) → answer s q ≡ refused n → Has (refusals_of q) n) qs
        → All (λ q. length (text_of (answer s q)) ≤ longest) qs
    all good [] f t = tt
    all good (q ∷ qs) f t = (one s good q f.0 t.0, all good qs f.1 t.1)
