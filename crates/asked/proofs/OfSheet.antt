-- A table that was read answers what its sheet answers. Assumes nothing.
use Prim.Native.Nat.{ℕ}
use mathlib.Core.Path.{◌≡◌, ap, ◌∙◌}
use mathlib.Core.List.{List}
use lib.ListN.{length}
use Rattle.arith.specs.Refusals.{Result}
use Rattle.layout.specs.Arrays.{Answer}
use Rattle.layout.specs.Lookup.{lookup_by}
use Rattle.lower.specs.Other.{length_by, variable_by}
use Rattle.sheet.specs.Sheet.{pointee_in}
use Rattle.layout.specs.Layouts.{answer_in}
use Rattle.flat.proofs.Parts.{Read, was_read}
use Rattle.flat.proofs.Answers.{pointees, answers}
use Rattle.asked.specs.Asked.{in_words, answer_for, pointee_for, length_words, variable_words, layout_words}
use Rattle.asked.specs.OfSheet.{OfSheet, TableAnswers}

module _ {input table : List ℕ} {n : ℕ} (r : Read input table n) where
  -- what is told by pointees and answers is told by the sheet's
  by_both : {A : Type 0} (f : (ℕ → Result ℕ) → (ℕ → Answer) → A) → f (pointee_for table) (answer_for table) ≡ f (pointee_in r.sheet) (answer_in r.sheet)
  by_both f = ap (λ (p : ℕ → Result ℕ). f p (answer_for table)) (pointees r) ∙ ap (λ (a : ℕ → Answer). f (pointee_in r.sheet) a) (answers r)

  of_read : OfSheet input table
  of_read = record {
    sheet = r.sheet;
    is_sheet = r.is_sheet;
    layouts = λ t. by_both λ p a. in_words layout_words (a t);
    components = λ t start end. ap (λ (k : ℕ). lookup_by k (answer_for table) t start end) r.parts.count ∙ by_both (λ p a. lookup_by (length r.sheet.types) a t start end);
    lengths = λ ptr member. by_both λ p a. in_words length_words (length_by p a ptr member);
    variables = λ ptr. by_both λ p a. in_words variable_words (variable_by p a ptr);
  }

pub table_answers : TableAnswers
table_answers input old table n h = of_read (was_read input n old table h)
