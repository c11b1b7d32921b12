-- What the loops have printed when they reach a place of the sheet. Assumes nothing.
use Prim.Native.Nat.{ℕ, ◌<◌, ◌≤◌}
use native.Mathlib.Omega.{arith}
use mathlib.Core.Path.{◌≡◌, refl, sym, ap, ◌∙◌, subst}
use mathlib.Core.Bool.{true, false}
use mathlib.Core.List.{List, [], ◌∷◌, ◌++◌, append_assoc, append-nil}
use mathlib.Core.Logic.{inr, ⊎_elim}
use lib.ListN.{length, length-append}
use lib.Seq.{sets}
use Rattle.text.specs.Printed.{Printed}
use Rattle.text.proofs.Laws as laws
use Rattle.spirv.specs.Questions.{Question}
use Rattle.lines.specs.declared.Ask.{Ask}
use Rattle.asking.specs.Questions.{questions_from, Next}
use Rattle.answers.specs.Lines.{Source, answer_by}
use Rattle.answers.specs.Output.{text_of, lines_by}
use Rattle.answering.specs.OfTables.{question_in}
use Rattle.listing.specs.Listing.{answerable, lines_from, filled_with, Moved, Fills}
use Rattle.listing.proofs.Laws.{lines_append, one_line, first_question, line_first}

-- the lines of questions that, with those from the place on, are all
pub record Reached (x : Source) (sheet : List ℕ) (from : ℕ) (old : List ℕ) (at : ℕ) (out list : List ℕ) (place p : ℕ) : Type 0 where
  pub done : List Question
  pub printed : Printed (lines_by (answer_by x) done) old at p out
  pub asked : done ++ answerable (questions_from sheet place) ≡ answerable (questions_from sheet from)
  pub room : length list ≡ 510

no_lines_yet : (x : Source) → lines_by (answer_by x) [] ≡ []
unfolding lines_by
no_lines_yet x = refl

pub begun : (x : Source) (sheet : List ℕ) (from : ℕ) (old : List ℕ) (at : ℕ) (list : List ℕ) → at < 18446744073709551616 → length list ≡ 510 → Reached x sheet from old at old list from at
begun x sheet from old at list h room = record { done = []; printed = rw (no_lines_yet x) (laws.none old at h); asked = refl; room = room }

module _ {x : Source} {sheet : List ℕ} {from : ℕ} {old : List ℕ} {at : ℕ} {out list : List ℕ} {place p : ℕ} (k : Reached x sheet from old at out list place p) where
  pub all_printed : lines_from x sheet place ≡ [] → Printed (lines_from x sheet from) old at p out
  all_printed e =
      let f = answer_by x in
      let same : lines_by f k.done ≡ lines_from x sheet from =
      sym (append-nil (lines_by f k.done)) ∙ ap (λ (l : List ℕ). lines_by f k.done ++ l) (sym e) ∙ sym (lines_append f k.done (answerable (questions_from sheet place))) ∙ ap (lines_by f) k.asked in
      subst (λ (t : List ℕ). Printed t old at p out) same k.printed

  -- one line more
  module _ {a : Ask} {n : ℕ} {new out' : List ℕ} {q : ℕ} (small : length old < 9223372036854775808) (y : Next sheet place a n list new) (room : length new ≡ 510)
      (z : Printed (text_of (answer_by x (question_in a new))) out p q out') where
    abbrev line : List ℕ
    line = text_of (answer_by x (question_in a new))

    both_printed : Printed (lines_by (answer_by x) k.done ++ line) old at q out'
    both_printed = laws.then (lines_by (answer_by x) k.done) line (omega arith) k.printed z

    pub one_more : Reached x sheet from old at out' new n q
    one_more = record {
      done = k.done ++ (question_in a new ∷ []);
      printed = rw (lines_append (answer_by x) k.done (question_in a new ∷ []), one_line (answer_by x) (question_in a new)) both_printed;
      asked = append_assoc k.done (question_in a new ∷ []) (answerable (questions_from sheet n)) ∙ ap (λ (l : List Question). k.done ++ l) (sym (first_question y room)) ∙ k.asked;
      room = room;
    }

-- ---- a buffer from its start on

module _ {x : Source} {sheet : List ℕ} {from : ℕ} {old out list : List ℕ} {next bytes : ℕ} (small : length old < 9223372036854775808)
    (k : Reached x sheet from old 0 out list next bytes) (fits : bytes ≤ length old) (moved : Moved sheet from next bytes) where
  pub no_more : lines_from x sheet next ≡ [] → Fills x sheet from (filled_with next bytes false) old out
  no_more e = record {
    done = k.done;
    tried = [];
    bytes = omega (arith, k.printed.place);
    fits = fits;
    asked = k.asked;
    list = k.printed.bytes ∙ ap (sets old 0) (sym (append-nil (lines_by (answer_by x) k.done)));
    left = (e, refl);
    moved = moved;
  }

  module _ {a : Ask} {n : ℕ} {new out' : List ℕ} {q : ℕ} (y : Next sheet next a n list new) (room : length new ≡ 510)
      (z : Printed (text_of (answer_by x (question_in a new))) out bytes q out') where
    pub no_room : length out' < q → Fills x sheet from (filled_with next bytes true) old out'
    no_room h =
        let text = lines_by (answer_by x) k.done in
        let tried = text_of (answer_by x (question_in a new)) in
        let all = both_printed k small y room z in
        record {
          done = k.done;
          tried = tried;
          bytes = omega (arith, k.printed.place);
          fits = fits;
          asked = k.asked;
          list = all.bytes;
          left = (line_first y room x, omega (arith, all.place, laws.kept (text ++ tried) all, length-append text tried));
          moved = moved;
        }

    pub moves_on : Moved sheet from n q
    moves_on = inr (⊎_elim (λ m. omega (arith, m.0, y.later)) (λ m. omega (arith, m.0, y.later)) moved, y.within)
