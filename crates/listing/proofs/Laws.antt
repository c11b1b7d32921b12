-- The lines of a question and of those behind it. Assumes nothing.
use Prim.Native.Nat.{ℕ, ◌*◌, ◌≤◌, min}
use native.Mathlib.Omega.{arith}
use mathlib.Core.Path.{◌≡◌, refl, sym, ap, ◌∙◌, subst}
use mathlib.Core.List.{List, [], ◌∷◌, ◌++◌, append_assoc, append-nil}
use lib.ListN.{length, drop, length-append}
use lib.Seq.{take_at}
use borrow.Author.Tests.{le-leb, lt-leb}
use Rattle.arith.specs.Refusals.{Result}
use Rattle.spirv.specs.declared.Index.{Index}
use Rattle.spirv.specs.declared.Index.TheVariants.{Known, Unknown}
use Rattle.spirv.specs.Rows.{encode_index}
use Rattle.spirv.specs.Questions.{Question}
use Rattle.sheet.specs.Sheet.{index_count, max_indices}
use Rattle.lines.specs.declared.Ask.{Ask}
use Rattle.lines.specs.Says.{count_of, question_of, index_words}
use Rattle.lines.proofs.Indices.{question_count, index_words_length}
use Rattle.std.specs.Prelude.{Option, Some, None, Ok, Err}
use Rattle.std.specs.Result.{result_unwrap_or}
use Rattle.arith.specs.InCode.{OrRefusal}
use Rattle.asking.specs.declared.Question as code
use Rattle.asking.specs.Questions.{questions_from, Next, Short, Ended, Steps}
use Rattle.moves.specs.Moves.{indices_in}
use Rattle.answers.specs.Lines.{AnswerLine, Source, answer_by}
use Rattle.answers.specs.Output.{text_of, lines_by}
use Rattle.pointing.specs.Pointing.{chain_words}
use Rattle.answering.specs.OfTables.{question_in}
use Rattle.listing.specs.Listing.{answerable, lines_from, FirstLine}

-- ---- indices as words

words_back : (is : List Index) → indices_in (index_words is) ≡ is
unfolding encode_index indices_in
words_back [] = refl
words_back (Known w ∷ is) = ap (λ (l : List Index). Known w ∷ l) (words_back is)
words_back (Unknown v ∷ is) = ap (λ (l : List Index). Unknown v ∷ l) (words_back is)

-- ---- a question whose indices were written

module _ {sheet : List ℕ} {at n : ℕ} {a : Ask} {old new : List ℕ} (x : Next sheet at a n old new) (room : length new ≡ 510) where
  few_indices : count_of a ≤ max_indices
  few_indices =
      let w = index_words_length x.indices in
      omega (arith, ap length x.list, length-append (index_words x.indices) (drop (length (index_words x.indices)) old), x.count)

  -- it is the one that stands in the list
  is_question : question_in a new ≡ question_of a x.indices
  is_question =
      let w = index_words_length x.indices in
      let k : min (2 * count_of a) 510 ≡ length (index_words x.indices) = omega (arith, few_indices, x.count) in
      let t : chain_words (count_of a) new ≡ index_words x.indices = rw (x.list, k) (take_at (index_words x.indices) (drop (length (index_words x.indices)) old) (length (index_words x.indices)) refl) in
      ap (question_of a) (ap indices_in t ∙ words_back x.indices)

  pub first_question : answerable (questions_from sheet at) ≡ question_in a new ∷ answerable (questions_from sheet n)
  unfolding answerable
  first_question = rw (x.first, le-leb (index_count (question_of a x.indices)) max_indices (omega (arith, question_count a x.indices x.count, few_indices)), is_question)

  pub line_first : (s : Source) → FirstLine s sheet at (text_of (answer_by s (question_in a new)))
  line_first s = record { question = question_in a new; rest = answerable (questions_from sheet n); first = first_question; is = refl }

-- ---- lines of many questions

pub lines_append : (f : Question → Result AnswerLine) (a b : List Question) → lines_by f (a ++ b) ≡ lines_by f a ++ lines_by f b
unfolding lines_by
lines_append f [] b = refl
lines_append f (q ∷ a) b = ap (λ (l : List ℕ). text_of (f q) ++ l) (lines_append f a b) ∙ sym (append_assoc (text_of (f q)) (lines_by f a) (lines_by f b))

pub one_line : (f : Question → Result AnswerLine) (q : Question) → lines_by f (q ∷ []) ≡ text_of (f q)
unfolding lines_by
one_line f q = append-nil (text_of (f q))

-- ---- no more

pub no_lines : {sheet : List ℕ} {at : ℕ} {old new : List ℕ} → Ended sheet at old new → (s : Source) → lines_from s sheet at ≡ []
unfolding lines_by answerable
no_lines x s = rw x.none

pub none_answerable : {sheet : List ℕ} {at : ℕ} {old new : List ℕ} → Short sheet at old new → length old ≡ 510 → (s : Source) → lines_from s sheet at ≡ []
unfolding lines_by answerable
none_answerable x room s = rw (x.first, lt-leb (index_count x.question) max_indices (omega (arith, x.longer)))

-- ---- as the code says it

abbrev Answered : Type 0
Answered = OrRefusal (Option code.Question)

pub asked : (sheet : List ℕ) (at : ℕ) (old new : List ℕ) (r : Answered) {o : Option code.Question} {q : code.Question}
    → Steps sheet at r old new → o ≡ result_unwrap_or r None → o ≡ Some q → Next sheet at q.ask q.next old new
asked sheet at old new r x e f = by r x (sym e ∙ f)
  where
    by : (r : Answered) {q : code.Question} → Steps sheet at r old new → result_unwrap_or r None ≡ Some q → Next sheet at q.ask q.next old new
    by (Ok (Some p)) {q} x f = let z : p ≡ q = cc in subst (λ (y : code.Question). Next sheet at y.ask y.next old new) z x
    by (Ok None) x f = absurd (let z : ◌≡◌ {A = ℕ} 0 1 = cc in omega arith)
    by (Err e) x f = absurd (let z : ◌≡◌ {A = ℕ} 0 1 = cc in omega arith)

pub not_asked : (sheet : List ℕ) (at : ℕ) (old new : List ℕ) (r : Answered) {o : Option code.Question}
    → Steps sheet at r old new → o ≡ result_unwrap_or r None → o ≡ None → length old ≡ 510 → (s : Source) → lines_from s sheet at ≡ []
not_asked sheet at old new r x e f room s = by r x (sym e ∙ f)
  where
    by : (r : Answered) → Steps sheet at r old new → result_unwrap_or r None ≡ None → lines_from s sheet at ≡ []
    by (Ok (Some q)) x f = absurd (let z : ◌≡◌ {A = ℕ} 0 1 = cc in omega arith)
    by (Ok None) x f = no_lines x s
    by (Err e) x f = none_answerable x.1 room s
