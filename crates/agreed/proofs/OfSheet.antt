-- What the tables of a sheet answer is what the sheet answers, question by question. Assumes nothing.
use Prim.Native.Nat.{ℕ, ◌≤◌}
use native.Mathlib.Omega.{arith}
use mathlib.Core.Path.{◌≡◌, ap, ◌∙◌, fun_ext}
use mathlib.Core.List.{List, ◌∷◌, ◌++◌, map}
use lib.ListN.{length}
use Rattle.arith.specs.Refusals.{Result, ok, ◌>>=◌, in_room}
use Rattle.decimal.specs.Text.{bytes}
use Rattle.decimal.specs.Decimal.{decimal}
use Rattle.spirv.specs.declared.ChainOp.{ChainOp}
use Rattle.spirv.specs.declared.Index.{Index}
use Rattle.spirv.specs.Questions.{Question}
use Rattle.shapes.specs.Rows.{flat}
use Rattle.sheet.specs.Sheet.{Sheet, index_count, max_indices, max_members, pointee_in}
use Rattle.layout.specs.Arrays.{Answer}
use Rattle.layout.specs.Layouts.{answer_in}
use Rattle.layout.specs.Lookup.{lookup}
use Rattle.components.specs.Found.{answers_in, lookup_in}
use Rattle.laid.specs.Statements.{Tables, answers_of, offsets_of}
use Rattle.laid.proofs.OfSheet.{rows_of_sheet, lookups_of_sheet}
use Rattle.lower.specs.declared.QPtrOp.{QPtrOp}
use Rattle.lower.specs.Chain.{chain_by, lower_chain}
use Rattle.lower.specs.Other.{length_by, variable_by}
use Rattle.lower.proofs.StepsFit.{steps_fit}
use Rattle.pointers.specs.OverTables.{pointee_at}
use Rattle.answers.specs.Lines.{layout_line, equal_line, steps_fields, length_line, variable_line, answer_by, answer}
use Rattle.replies.specs.Replies.{found_in_room}
use Rattle.pointing.specs.Pointing.{steps_in_room}
use Rattle.answering.specs.OfTables.{of_tables}
use Rattle.agreed.specs.Statements.{AnswersOfSheet}
use Rattle.joined.proofs.Pointers.{pointees_of_sheet}
use Rattle.agreed.proofs.Room.{enough, found_few}

module _ (s : Sheet) (types members given offsets rest : List ℕ) (tables : Tables s.types types members given (length offsets))
    (few : length (offsets_of s types members given offsets) ≤ max_members) where
  abbrev rows : List ℕ
  rows = flat (answers_of s types members given offsets) ++ rest

  abbrev os : List ℕ
  os = offsets_of s types members given offsets

  abbrev n : ℕ
  n = length s.types

  same_answers : ◌≡◌ {A = ℕ → Answer} (answers_in rows n os members) (answer_in s)
  same_answers = fun_ext λ t. rows_of_sheet s types members given offsets rest tables t

  same_pointees : ◌≡◌ {A = ℕ → Result ℕ} (pointee_at types n) (pointee_in s)
  same_pointees = fun_ext λ ptr. pointees_of_sheet s types members given (length offsets) tables ptr

  same_components : (t start end : ℕ) → found_in_room rows n os members t start end ≡ lookup s t start end
  same_components t start end =
      enough 1024 length (lookup_in rows n os members t start end) (found_few rows n os members 1024 (omega arith) few t start end)
      ∙ lookups_of_sheet s types members given offsets rest tables t start end

  same_steps : (op : ChainOp) (ptr : ℕ) (is : List Index) → length is ≤ max_indices → steps_in_room n types rows os members s.setting op ptr is ≡ lower_chain s op ptr is
  same_steps op ptr is short =
      ap (λ (p : ℕ → Result ℕ). in_room 256 length (chain_by s.setting p (answers_in rows n os members) op ptr is)) same_pointees
      ∙ ap (λ (a : ℕ → Answer). in_room 256 length (chain_by s.setting (pointee_in s) a op ptr is)) same_answers
      ∙ enough 256 length (lower_chain s op ptr is) λ steps e. omega (arith, (steps_fit s op ptr is steps e).1)

  pub by_letter : (q : Question) → index_count q ≤ max_indices → answer_by (of_tables s.setting n types rows os members) q ≡ answer s q
  unfolding answer_by
  by_letter (Question.T t) h = ap (λ (a : ℕ → Answer). a t >>= λ l. ok (layout_line l)) same_answers
  by_letter (Question.E t u) h = ap (λ (a : ℕ → Answer). a t >>= λ l. a u >>= λ m. ok (equal_line l m)) same_answers
  by_letter (Question.Q t start end) h = ap (λ (r : Result (List ℕ)). r >>= λ found. ok (bytes "q" ∷ map decimal found)) (same_components t start end)
  by_letter (Question.C op ptr is) h = ap (λ (r : Result (List QPtrOp)). r >>= λ steps. ok (bytes "c" ∷ steps_fields steps)) (same_steps op ptr is h)
  by_letter (Question.L ptr member) h =
      ap (λ (p : ℕ → Result ℕ). length_by p (answers_in rows n os members) ptr member >>= λ a. ok (length_line a)) same_pointees
      ∙ ap (λ (a : ℕ → Answer). length_by (pointee_in s) a ptr member >>= λ x. ok (length_line x)) same_answers
  by_letter (Question.X ptr) h =
      ap (λ (p : ℕ → Result ℕ). variable_by p (answers_in rows n os members) ptr >>= λ m. ok (variable_line m)) same_pointees
      ∙ ap (λ (a : ℕ → Answer). variable_by (pointee_in s) a ptr >>= λ m. ok (variable_line m)) same_answers

pub answers_of_sheet : AnswersOfSheet
answers_of_sheet s types members given offsets rest tables few q short = by_letter s types members given offsets rest tables few q short
