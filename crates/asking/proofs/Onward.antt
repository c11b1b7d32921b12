-- From one line to the next: the questions that are left. Assumes nothing.
use Prim.Native.Nat.{ℕ, ◌+◌, ◌*◌, ◌≤◌}
use native.Mathlib.Omega.{arith}
use mathlib.Core.Path.{◌≡◌, refl, sym, ap, ◌∙◌}
use mathlib.Core.List.{List, [], ◌∷◌, ◌++◌}
use mathlib.Core.Option.{Option}
use lib.ListN.{length, drop}
use Rattle.std.specs.Prelude.{Some, Ok, Err, MatchResult, IsOkAnd}
use Rattle.std.specs.Prelude as std
use Rattle.arith.specs.InCode.{OrRefusal}
use Rattle.decimal.specs.Text.{split}
use Rattle.sheet.specs.Fields.{read_index, read_all}
use Rattle.sheet.specs.Grammar.{Line, read_line}
use Rattle.sheet.proofs.Tables.{front}
use Rattle.fields.specs.Lines.{Ahead}
use Rattle.fields.specs.Pieces.{behind}
use Rattle.fields.proofs.Pieces.{split_some}
use Rattle.lines.specs.declared.Ask.{Ask}
use Rattle.lines.specs.Says.{count_of, question_of, Asks, index_words, Stored}
use Rattle.lines.proofs.Indices.{question_count, index_words_length}
use Rattle.asking.specs.declared.Question as code
use Rattle.asking.specs.Questions.{any_type, asked_in, questions_in, questions_from, Hands, Handed, Steps}

-- ---- a question's indices

pub handed : (line : List ℕ) (a : Ask) (at k : ℕ) {old new : List ℕ} → 2 * count_of a ≤ length old → Stored (read_all read_index (behind line at)) old new → Handed line a at k a k old new
handed line a at k {old} {new} h s = record {
  question = refl;
  place = refl;
  list = λ is q c. s.words is q ∙ front old (index_words is) (omega (arith, index_words_length is));
}

-- ---- no line more

pub no_line : (sheet : List ℕ) (at : ℕ) → split 10 (drop at sheet) ≡ drop at sheet ∷ [] → questions_from sheet at ≡ []
unfolding questions_from questions_in
no_line sheet at h = rw h

-- ---- a line

module _ {sheet line : List ℕ} {from : ℕ} (p : Ahead sheet from line) where
  line_asks : questions_from sheet from ≡ asked_in (read_line any_type line) ++ questions_from sheet (from + (length line + 1))
  unfolding questions_from questions_in
  line_asks =
      let q = split_some 10 (drop (from + (length line + 1)) sheet) in
      ap questions_in (p.pieces ∙ ap (λ (x : List (List ℕ)). line ∷ x) q.2)
      ∙ ap (λ (x : List (List ℕ)). asked_in (read_line any_type line) ++ questions_in x) (sym q.2)

  pub nothing_asked : asked_in (read_line any_type line) ≡ [] → questions_from sheet from ≡ questions_from sheet (from + (length line + 1))
  nothing_asked n = line_asks ∙ (rw n)

  module _ {a : Ask} {at : ℕ} (w : Asks line a at (read_line any_type line)) where
    asked : questions_from sheet from ≡ question_of a w.indices ∷ questions_from sheet (from + (length line + 1))
    asked = line_asks ∙ ap (λ (o : Option Line). asked_in o ++ questions_from sheet (from + (length line + 1))) w.told

    pub steps : (start : ℕ) (r : OrRefusal code.Question) (t : OrRefusal (std.Option code.Question)) (old new : List ℕ) → start ≤ from → questions_from sheet start ≡ questions_from sheet from
        → Hands line a at (from + (length line + 1)) r old new → MatchResult r (λ q. IsOkAnd t (λ x. x ≡ Some q)) (λ e. t ≡ Err e) → Steps sheet start t old new
    steps start (Ok q) (Ok x) old new l e d m =
        rw (m, d.question, d.place) (record {
          indices = w.indices;
          count = w.count;
          first = e ∙ asked;
          list = d.list w.indices w.read w.count;
          later = omega arith;
          within = omega (arith, p.within);
        })
    steps start (Ok q) (Err x) old new l e d m = absurd m
    steps start (Err x) t old new l e d m = rw m (
      d.0,
      record {
        question = question_of a w.indices;
        rest = questions_from sheet (from + (length line + 1));
        first = e ∙ asked;
        longer = rw (question_count a w.indices w.count) d.1;
        list = d.2;
      },
    )
