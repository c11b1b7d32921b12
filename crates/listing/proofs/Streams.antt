-- Buffers of whole lines: their pieces add up to all lines, and each goes on where it holds the next line. Assumes nothing.
use Prim.Native.Nat.{ℕ, suc, ◌+◌, ◌≤◌}
use native.Mathlib.Omega.{arith}
use mathlib.Core.Path.{◌≡◌, refl, sym, ap, ◌∙◌, subst}
use mathlib.Core.Bool.{Bool, true, false}
use mathlib.Core.List.{List, [], ◌∷◌, ◌++◌, append-nil}
use mathlib.Core.Logic.{⊎_elim}
use lib.ListN.{length, take, drop, set}
use lib.Seq.{sets, sets-eq, take_at, take-set-le}
use Rattle.arith.proofs.Stores.{sets_append}
use Rattle.asking.specs.Questions.{questions_from}
use Rattle.answers.specs.Lines.{Source, answer_by}
use Rattle.answers.specs.Output.{lines_by}
use Rattle.listing.specs.declared.Filled.{Filled}
use Rattle.listing.specs.Listing.{answerable, lines_from, FirstLine, Left, Fills, last, then, Pieces, Advances}
use Rattle.listing.proofs.Laws.{lines_append}

-- stores from a place on leave what stands before it
before_sets : (l : List ℕ) (k i : ℕ) (vs : List ℕ) → k ≤ i → take k (sets l i vs) ≡ take k l
before_sets l k i [] h = refl
before_sets l k i (v ∷ vs) h = before_sets (set l i v) k (suc i) vs (omega arith) ∙ take-set-le k l i v h

pub in_front : (old text tried : List ℕ) → length text ≤ length old → take (length text) (sets old 0 (text ++ tried)) ≡ text
in_front old text tried h =
    ap (take (length text)) (sets_append old 0 text tried)
    ∙ before_sets (sets old 0 text) (length text) (0 + length text) tried (omega arith)
    ∙ ap (take (length text)) (sets-eq text old 0 (omega arith))
    ∙ take_at text (drop (0 + length text) old) (length text) refl

module _ {x : Source} {sheet : List ℕ} {from : ℕ} {r : Filled} {old new : List ℕ} (f : Fills x sheet from r old new) where
  abbrev text : List ℕ
  text = lines_by (answer_by x) f.done

  pub whole_lines : take r.bytes new ≡ text
  whole_lines = rw (f.bytes, f.list) (in_front old text f.tried (omega (arith, f.bytes, f.fits)))

  all_lines : text ++ lines_from x sheet r.next ≡ lines_from x sheet from
  all_lines = sym (lines_append (answer_by x) f.done (answerable (questions_from sheet r.next))) ∙ ap (lines_by (answer_by x)) f.asked

  nothing_left : r.more ≡ false → lines_from x sheet r.next ≡ []
  nothing_left e = by (subst (λ (m : Bool). Left x sheet r.next (length old) m text f.tried) e f.left)
    where
      by : Left x sheet r.next (length old) false text f.tried → lines_from x sheet r.next ≡ []
      by l = l.0

pub pieces : Pieces
pieces x sheet from text (last {r = r} f e) =
    whole_lines f
    ∙ sym (append-nil (lines_by (answer_by x) f.done))
    ∙ ap (λ (l : List ℕ). lines_by (answer_by x) f.done ++ l) (sym (nothing_left f e))
    ∙ all_lines f
pieces x sheet from text (then {r = r} {rest = rest} f e s) =
    ap (λ (l : List ℕ). l ++ rest) (whole_lines f) ∙ ap (λ (l : List ℕ). lines_by (answer_by x) f.done ++ l) (pieces x sheet r.next rest s) ∙ all_lines f

pub advances : Advances
advances x sheet from r old new f e room = ⊎_elim (λ m. absurd (stuck m)) (λ m. m.0) f.moved
  where
    left : Left x sheet r.next (length old) true (lines_by (answer_by x) f.done) f.tried
    left = subst (λ (m : Bool). Left x sheet r.next (length old) m (lines_by (answer_by x) f.done) f.tried) e f.left

    stuck : (r.next ≡ from) × (r.bytes ≡ 0) → ⊥
    stuck m =
        let first : FirstLine x sheet from f.tried = subst (λ (k : ℕ). FirstLine x sheet k f.tried) m.0 left.0 in
        omega (arith, room f.tried first, left.1, f.bytes, m.1)
