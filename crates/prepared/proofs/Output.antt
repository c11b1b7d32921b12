-- From the tables that are made ready come the lines that `lay` writes. Assumes nothing.
use Prim.Native.Nat.{ℕ, ◌*◌, ◌≤◌}
use native.Mathlib.Omega.{arith}
use mathlib.Core.Path.{◌≡◌, refl, sym, ap, ◌∙◌}
use mathlib.Core.List.{List, [], ◌∷◌, ◌++◌}
use lib.ListN.{length, drop, replicate}
use borrow.Author.Tests.{le-leb, le-ltb}
use Rattle.arith.specs.Pairs.{both}
use Rattle.arith.specs.Refusals.{Result, ok, refused, ◌>>=◌, ◌>>◌, refuse◌unless◌}
use Rattle.std.specs.Prelude.{Ok, Err}
use Rattle.arith.specs.InCode.{OrRefusal, err}
use Rattle.spirv.specs.Questions.{Question}
use Rattle.shapes.specs.Rows.{flat}
use Rattle.sheet.specs.Sheet.{Sheet, member_count, index_count, max_indices, max_members, read_sheet}
use Rattle.sheet.specs.Statements.{All}
use Rattle.sheet.specs.Tables.{over, types_words, members_words, offsets_words, room_for, held}
use Rattle.sheet.proofs.GoodSheet.{reads_good}
use Rattle.sheet.proofs.Types.{all_wider}
use Rattle.reading.specs.Reads.{words_in}
use Rattle.records.specs.Records.{filling}
use Rattle.asking.specs.Questions.{questions_from}
use Rattle.asking.proofs.Run.{runs_through}
use Rattle.laid.specs.Statements.{Tables, answers_of, offsets_of}
use Rattle.laid.proofs.OfSheet.{sheet_tables}
use Rattle.answers.specs.Lines.{AnswerLine, Source, answer_by, answer}
use Rattle.answers.specs.Output.{lines_by, answer_lines, output_of, lay_output}
use Rattle.answering.specs.OfTables.{of_tables}
use Rattle.agreed.proofs.OfSheet.{answers_of_sheet}
use Rattle.listing.specs.Listing.{answerable, lines_from}
use Rattle.prepared.specs.declared.Ready.{Ready}
use Rattle.prepared.specs.Prepared.{read_into, ready_of, laid_into}
use Rattle.prepared.specs.Statements.{Roomy, Readied, ReadyAnswers, ReadyTables, ReadyRefused}

-- ---- lines

all_answerable : (qs : List Question) → All (λ q. index_count q ≤ max_indices) qs → answerable qs ≡ qs
unfolding answerable
all_answerable [] h = refl
all_answerable (q ∷ qs) h = rw (le-leb (index_count q) max_indices h.0) (ap (λ (l : List Question). q ∷ l) (all_answerable qs h.1))

same_lines : (f g : Question → Result AnswerLine) (qs : List Question) → All (λ q. f q ≡ g q) qs → lines_by f qs ≡ lines_by g qs
unfolding lines_by
same_lines f g [] h = refl
same_lines f g (q ∷ qs) h = rw (h.0, same_lines f g qs h.1)

-- of a sheet that is read all questions are answered
pub all_asked : (input : List ℕ) (s : Sheet) → read_sheet input ≡ ok s → answerable (questions_from input 0) ≡ s.questions
all_asked input s e = let run = runs_through input s e in ap answerable run.questions ∙ all_answerable s.questions run.few

lines_of_sheet : (input : List ℕ) (x : Source) (r : Readied input x) → lines_from x input 0 ≡ answer_lines r.sheet r.sheet.questions
lines_of_sheet input x r =
    ap (lines_by (answer_by x)) (all_asked input r.sheet r.read)
    ∙ same_lines (answer_by x) (answer r.sheet) r.sheet.questions (all_wider r.same r.sheet.questions (runs_through input r.sheet r.read).few)

-- ---- room

module _ (input ty me os la : List ℕ) (roomy : Roomy ty me os la) where
  -- no sheet is refused for want of it
  enough : read_into input ty me ≡ read_sheet input
  unfolding held room_for ◌>>=◌ ◌>>◌ refuse◌unless◌
  enough = by (read_sheet input) refl
    where
      by : (o : Result Sheet) → read_sheet input ≡ o → held 6 (length ty) (length me) max_members o ≡ o
      by (refused n) e = refl
      by (ok s) e =
          let g = reads_good input s e in
          rw (
            le-leb (6 * length s.types) (length ty) (omega (arith, g.few_types, roomy.types)),
            le-leb (member_count s.types) (length me) (omega (arith, g.few_members, roomy.members)),
            le-leb (member_count s.types) max_members g.few_members,
          )

  layouts_fit : (s : Sheet) → read_sheet input ≡ ok s → (types members given : List ℕ)
      → (filling s.setting types members given os la (length s.types)).1
      ≡ both (offsets_of s types members given os) (flat (answers_of s types members given os) ++ drop (10 * length s.types) la)
  unfolding filling
  layouts_fit s e types members given = rw (le-ltb (length la) (10 * length s.types) (omega (arith, (reads_good input s e).few_types, roomy.layouts)))

-- ---- both

pub ready_refused : ReadyRefused
unfolding lay_output
ready_refused input r ty me os la ty' me' os' la' x roomy e h = by (read_sheet input) (sym h ∙ (x.says ∙ ap ready_of (enough input ty me os la roomy)))
  where
    number_in : OrRefusal Ready → ℕ
    number_in (Ok t) = 0
    number_in (Err f) = f.number

    by : (o : Result Sheet) → Err e ≡ ready_of o → output_of o ≡ output_of (refused e.number)
    by (refused m) g = let z : e.number ≡ m = ap number_in g in ap (λ (k : ℕ). output_of (refused k)) (sym z)
    by (ok s) g = absurd (let z : ◌≡◌ {A = ℕ} 0 1 = cc in omega arith)

pub ready_answers : ReadyAnswers
ready_answers input r ty me os la ty' me' os' la' x roomy few t e = by (read_sheet input) refl
  where
    ready_in : OrRefusal Ready → Ready
    ready_in (Ok u) = u
    ready_in (Err f) = t

    by : (o : Result Sheet) → read_sheet input ≡ o → Readied input (of_tables t.cfg t.n ty' la' os' me')
    by (refused m) h =
        absurd (let z : Ok t ≡ err m = sym e ∙ (x.says ∙ ap ready_of (enough input ty me os la roomy ∙ h)) in let y : ◌≡◌ {A = ℕ} 0 1 = cc in omega arith)
    by (ok s) h =
        let o : read_into input ty me ≡ ok s = enough input ty me os la roomy ∙ h in
        let told : t ≡ record { cfg = s.setting; n = length s.types } = ap ready_in (sym e ∙ (x.says ∙ ap ready_of o)) in
        let setting : t.cfg ≡ s.setting = ap (λ (u : Ready). u.cfg) told in
        let count : t.n ≡ length s.types = ap (λ (u : Ready). u.n) told in
        let given = over (offsets_words s.types) (replicate max_members 0) in
        let types : ty' ≡ over (types_words 0 s.types) ty = x.types ∙ ap (λ (z : Result Sheet). over (words_in (λ y. types_words 0 y.types) z) ty) o in
        let members : me' ≡ over (members_words s.types) me = x.members ∙ ap (λ (z : Result Sheet). over (words_in (λ y. members_words y.types) z) me) o in
        let tables : Tables s.types ty' me' given (length os) = rw (types, members) (sheet_tables s.types ty me (replicate max_members 0) (length os) (omega (arith, (reads_good input s h).few_members, roomy.offsets))) in
        let laid = x.laid ∙ (ap (λ (z : Result Sheet). laid_into z ty' me' os la) o ∙ layouts_fit input ty me os la roomy s h ty' me' given) in
        let offsets : os' ≡ offsets_of s ty' me' given os = ap (λ (p : List ℕ × List ℕ). p.0) laid in
        let layouts : la' ≡ flat (answers_of s ty' me' given os) ++ drop (10 * length s.types) la = ap (λ (p : List ℕ × List ℕ). p.1) laid in
        record {
          sheet = s;
          read = h;
          same = λ q short. rw (setting, count, layouts, offsets) (answers_of_sheet s ty' me' given os (drop (10 * length s.types) la) tables (rw offsets at few) q short);
        }

pub ready_tables : ReadyTables
unfolding lay_output
ready_tables input r ty me os la ty' me' os' la' x roomy few t e =
    let a = ready_answers input r ty me os la ty' me' os' la' x roomy few t e in
    lines_of_sheet input (of_tables t.cfg t.n ty' la' os' me') a ∙ ap output_of (sym a.read)
