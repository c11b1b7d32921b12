-- Of a sheet that is read the questions from its start on are its questions. Assumes nothing.
use Prim.Native.Nat.{ℕ, suc, ◌≤◌}
use native.Mathlib.Omega.{arith}
use mathlib.Core.Path.{◌≡◌, refl, sym, ap, ◌∙◌, subst}
use mathlib.Core.List.{List, [], ◌∷◌, ◌++◌, append_assoc, append-nil}
use mathlib.Core.Option.{Option, none, some}
use borrow.Author.Tests.{ltb-true}
use lib.Dec.{ltb}
use lib.ListN.{length, length-append}
use Rattle.arith.specs.Refusals.{ok, ◌>>=◌, oversize}
use Rattle.arith.proofs.Results.{never, value_is, went, passed, not_refused}
use Rattle.decimal.specs.Text.{split}
use Rattle.spirv.specs.declared.MemberDecoration.{MemberDecoration}
use Rattle.spirv.specs.Decl.{Decl}
use Rattle.spirv.specs.Questions.{Question}
use Rattle.sheet.specs.Grammar.{Line, Setting, Declared, Decorated, Asked, read_line}
use Rattle.sheet.specs.Sheet.{Sheet, max_types, max_indices, index_count, decorate_last, first_line, next_line, formed, finished, read_lines, read_pieces, read_sheet}
use Rattle.sheet.specs.Statements.{All, FitsQuestion}
use Rattle.sheet.proofs.GoodSheet.{reads_good}
use Rattle.sheet.proofs.Types.{all_wider}
use Rattle.asking.specs.Questions.{any_type, question_in, questions_in, questions_from, RunsThrough, AlwaysSuffices}
use Rattle.asking.proofs.Stays.{line_stays}

-- ---- what a line adds

-- few types, and the questions with what the line asks
record Adds (s : Sheet) (l : Line) (t : Sheet) : Type 0 where
  few : length t.types ≤ max_types
  questions : t.questions ≡ s.questions ++ question_in l

decorated_length : (ts : List Decl) (d : MemberDecoration) {us : List Decl} → decorate_last ts d ≡ ok us → length us ≡ length ts
unfolding decorate_last
decorated_length [] d e = absurd (never e)
decorated_length (t ∷ []) d e = sym (ap length (value_is (passed _ _ e)))
decorated_length (t ∷ u ∷ us) d e =
    let w = went (decorate_last (u ∷ us) d) (λ rest. ok (t ∷ rest)) e in
    sym (ap length (value_is w.rest)) ∙ ap suc (decorated_length (u ∷ us) d w.here)

adds : (s : Sheet) (previous l : Line) {t : Sheet} → length s.types ≤ max_types → next_line s previous l ≡ ok t → Adds s l t
unfolding next_line
adds s previous (Setting g) h e = absurd (never e)
adds s previous (Declared d) {t} h e =
    let f = ltb-true (length s.types) max_types (not_refused oversize (ltb (length s.types) max_types) _ e) in
    let q : record { setting = s.setting; types = s.types ++ (d ∷ []); questions = s.questions } ≡ t = value_is (passed _ _ (passed _ _ e)) in
    subst (Adds s (Declared d)) q (record { few = omega (arith, length-append s.types (d ∷ [])); questions = sym (append-nil s.questions) })
adds s previous (Decorated d) {t} h e =
    let w = went (decorate_last s.types d) (λ ts. ok (record { setting = s.setting; types = ts; questions = s.questions })) (passed _ _ e) in
    subst (Adds s (Decorated d)) (value_is w.rest) (record { few = omega (arith, decorated_length s.types d w.here); questions = sym (append-nil s.questions) })
adds s previous (Asked q) {t} h e = subst (Adds s (Asked q)) (value_is (passed _ _ e)) (record { few = h; questions = refl })

-- ---- the lines

formed_is : (o : Option Line) (l : Line) → formed o ≡ ok l → o ≡ some l
formed_is none l e = absurd (never e)
formed_is (some m) l e = ap some (value_is e)

finished_is : (s : Sheet) (last : List ℕ) {t : Sheet} → finished s last ≡ ok t → s ≡ t
finished_is s [] e = value_is e
finished_is s (b ∷ bs) e = absurd (never e)

lines_run : (pieces : List (List ℕ)) (s : Sheet) (previous : Line) {t : Sheet} → length s.types ≤ max_types → read_lines s previous pieces ≡ ok t → t.questions ≡ s.questions ++ questions_in pieces
unfolding read_lines questions_in
lines_run [] s previous h e = sym (ap (λ (x : Sheet). x.questions) (value_is e)) ∙ sym (append-nil s.questions)
lines_run (last ∷ []) s previous h e = sym (ap (λ (x : Sheet). x.questions) (finished_is s last e)) ∙ sym (append-nil s.questions)
lines_run (line ∷ more ∷ rest) s previous {t} h e =
    let w = went (formed (read_line (length s.types) line)) (λ l. next_line s previous l >>= (λ u. read_lines u l (more ∷ rest))) e in
    let v = went (next_line s previous w.value) (λ u. read_lines u w.value (more ∷ rest)) w.rest in
    let a = adds s previous w.value h v.here in
    let i = lines_run (more ∷ rest) v.value w.value a.few v.rest in
    let r = line_stays (length s.types) any_type (omega arith) line w.value (formed_is (read_line (length s.types) line) w.value w.here) in
    i ∙ (rw (a.questions, r, append_assoc))

first_run : (l : Line) {s : Sheet} → first_line l ≡ ok s → (s.types ≡ []) × (s.questions ≡ []) × (question_in l ≡ [])
unfolding first_line
first_run (Setting g) {s} e = let q = value_is (passed _ _ e) in (sym (ap (λ (x : Sheet). x.types) q), sym (ap (λ (x : Sheet). x.questions) q), refl)
first_run (Declared d) e = absurd (never e)
first_run (Decorated d) e = absurd (never e)
first_run (Asked q) e = absurd (never e)

pieces_run : (pieces : List (List ℕ)) {t : Sheet} → read_pieces pieces ≡ ok t → questions_in pieces ≡ t.questions
unfolding read_pieces questions_in
pieces_run [] e = absurd (never e)
pieces_run (last ∷ []) e = absurd (never e)
pieces_run (line ∷ more ∷ rest) {t} e =
    let w = went (formed (read_line 0 line)) (λ l. first_line l >>= (λ u. read_lines u l (more ∷ rest))) e in
    let v = went (first_line w.value) (λ u. read_lines u w.value (more ∷ rest)) w.rest in
    let f = first_run w.value v.here in
    let r = line_stays 0 any_type (omega arith) line w.value (formed_is (read_line 0 line) w.value w.here) in
    let i = lines_run (more ∷ rest) v.value w.value (omega (arith, ap length f.0)) v.rest in
    rw (r, f.2) (sym (i ∙ (rw f.1)))

-- ---- the whole

few_indices : (above : ℕ) (q : Question) → FitsQuestion above q → index_count q ≤ max_indices
few_indices above (Question.T t) f = omega arith
few_indices above (Question.E a b) f = omega arith
few_indices above (Question.Q t start end) f = omega arith
few_indices above (Question.C op ptr is) f = f.2
few_indices above (Question.L ptr member) f = omega arith
few_indices above (Question.X ptr) f = omega arith

pub runs_through : RunsThrough
unfolding read_sheet questions_from
runs_through input s e = record {
  questions = pieces_run (split 10 input) (passed _ _ e);
  few = all_wider (λ q f. few_indices (length s.types) q f) s.questions (reads_good input s e).questions;
}

-- a list of 510 words is never too short
pub always_suffices : AlwaysSuffices
always_suffices sheet at old new a h s = omega (arith, s.longer, first)
  where
    first : index_count s.question ≤ max_indices
    first = (subst (All (λ q. index_count q ≤ max_indices)) s.first a).0
