-- A buffer of 16,384 bytes always goes on. Assumes nothing.
use Prim.Native.Nat.{ℕ, ◌≤◌}
use mathlib.Core.Path.{◌≡◌, sym, ap, ◌∙◌, subst}
use mathlib.Core.List.{List, [], ◌∷◌, ◌++◌, append_assoc}
use native.Mathlib.Omega.{arith}
use lib.ListN.{length}
use Rattle.spirv.specs.Questions.{Question}
use Rattle.sheet.specs.Sheet.{index_count, max_indices}
use Rattle.sheet.specs.Statements.{All}
use Rattle.asking.specs.Questions.{questions_from}
use Rattle.asking.proofs.Run.{runs_through}
use Rattle.answers.specs.Lines.{Source, answer}
use Rattle.answers.specs.Output.{text_of}
use Rattle.listing.specs.Listing.{answerable, FirstLine}
use Rattle.listing.proofs.Streams.{advances}
use Rattle.longest.specs.Statements.{longest}
use Rattle.longest.proofs.Lines.{longest_line}
use Rattle.prepared.specs.Statements.{Readied}
use Rattle.prepared.proofs.Output.{all_asked}
use Rattle.whole.specs.Statements.{Reaches, AlwaysAdvances}

behind : (P : Question → Type 0) (done rest : List Question) (q : Question) → All P (done ++ (q ∷ rest)) → P q
behind P [] rest q h = h.0
behind P (d ∷ done) rest q h = behind P done rest q h.1

module _ (input : List ℕ) (x : Source) (ready : Readied input x) where
  -- what holds of every question holds of the first that is left
  of_first : (P : Question → Type 0) → All P ready.sheet.questions → (at : ℕ) → Reaches input ready.sheet at → (q : Question) (rest : List Question)
      → answerable (questions_from input at) ≡ q ∷ rest → P q
  of_first P h at k q rest e =
      let all : All P (k.done ++ (q ∷ rest)) = subst (All P) (sym k.left ∙ ap (λ (l : List Question). k.done ++ l) e) h in
      behind P k.done rest q all

  fits : (at : ℕ) → Reaches input ready.sheet at → (line : List ℕ) → FirstLine x input at line → length line ≤ longest
  fits at k line f =
      let short : length (text_of (answer ready.sheet f.question)) ≤ longest =
      of_first (λ q. length (text_of (answer ready.sheet q)) ≤ longest) (longest_line input ready.sheet ready.read) at k f.question f.rest f.first in
      let few : index_count f.question ≤ max_indices =
      of_first (λ q. index_count q ≤ max_indices) (runs_through input ready.sheet ready.read).few at k f.question f.rest f.first in
      rw (f.is, ready.same f.question few) short

pub always_advances : AlwaysAdvances
always_advances input x ready = record {
  start = record { done = []; left = all_asked input ready.sheet ready.read };
  next = λ from r old new k f. record {
    done = k.done ++ f.done;
    left = append_assoc k.done f.done (answerable (questions_from input r.next)) ∙ ap (λ (l : List Question). k.done ++ l) f.asked ∙ k.left;
  };
  advances = λ from r old new k f e room. advances x input from r old new f e (λ line first. omega (arith, fits input x ready from k line first));
}
