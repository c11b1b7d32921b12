-- Laws of fields behind commas, and of a line that is printed field by field. Assumes nothing.
use Prim.Native.Nat.{ℕ, ◌+◌, ◌<◌}
use Prim.Native.Char.{code}
use native.Mathlib.Numerals.{add-one}
use mathlib.Core.Path.{◌≡◌, refl, sym, ap, ◌∙◌}
use mathlib.Core.List.{List, [], ◌∷◌, ◌++◌, map, append_assoc, append-nil}
use lib.ListN.{length, take, get_or}
use lib.Seq.{take-suc}
use Rattle.text.specs.Printed.{Printed}
use Rattle.text.proofs.Laws.{then, kept}
use Rattle.decimal.specs.Text.{bytes}
use Rattle.decimal.specs.Decimal.{decimal}
use Rattle.answers.specs.Lines.{AnswerLine, opaque_fields, step_fields, steps_fields}
use Rattle.answers.specs.Output.{printed}
use Rattle.lower.specs.declared.QPtrOp.{QPtrOp}
use Rattle.steps.specs.Lists.{step_at, steps_in}
use Rattle.cells.specs.Behind.{behind, LineIs}

pub line_is : LineIs
unfolding behind printed
line_is f [] = refl
line_is f (g ∷ gs) = ap (λ (l : List ℕ). f ++ (code "," ∷ l)) (line_is g gs ∙ sym (append_assoc g (behind gs) (code "\n" ∷ [])))

behind_append : (a b : AnswerLine) → behind (a ++ b) ≡ behind a ++ behind b
unfolding behind
behind_append [] b = refl
behind_append (f ∷ a) b =
    ap (λ (l : List ℕ). (code "," ∷ f) ++ l) (behind_append a b) ∙ sym (append_assoc (code "," ∷ f) (behind a) (behind b))

-- nothing behind
pub no_fields : behind [] ≡ []
unfolding behind
no_fields = refl

-- one field, whose comma and bytes were printed at once
pub field : {f o m : List ℕ} {at p : ℕ} → Printed (code "," ∷ f) o at p m → Printed (behind (f ∷ [])) o at p m
unfolding behind
field {f} x = rw (append-nil f) x

module _ {o m n : List ℕ} {at p q : ℕ} (small : length o < 18446744073709551616) where
  -- one field, its comma and some of its bytes first
  pub begun : {a b : List ℕ} → Printed (code "," ∷ a) o at p m → Printed b m p q n → Printed (behind ((a ++ b) ∷ [])) o at q n
  begun {a} {b} x y = field (then (code "," ∷ a) b small x y)

  -- some fields, then others
  pub fields : (a b : AnswerLine) → Printed (behind a) o at p m → Printed (behind b) m p q n → Printed (behind (a ++ b)) o at q n
  fields a b x y = rw (behind_append a b) (then (behind a) (behind b) small x y)

  -- a line: its first field, the others, LF
  pub line : {e f : List ℕ} {r : ℕ} (fs : AnswerLine) → Printed f o at p m → (length m < 18446744073709551616 → Printed (behind fs) m p q n) → Printed (code "\n" ∷ []) n q r e
      → Printed (printed (f ∷ fs)) o at r e
  line {f = f} fs x y z =
      rw (line_is f fs, ← append_assoc f (behind fs) (code "\n" ∷ []))
      (then (f ++ behind fs) (code "\n" ∷ []) small (then f (behind fs) small x (y (rw (kept f x) small))) z)

-- an opaque's numbers
pub zeros : {o m : List ℕ} {at p : ℕ} → Printed (bytes ",0,0,0,0") o at p m → Printed (behind opaque_fields) o at p m
unfolding behind decimal
zeros x = x

map_append : (l k : List ℕ) → map decimal (l ++ k) ≡ map decimal l ++ map decimal k
map_append [] k = refl
map_append (n ∷ l) k = ap (λ (t : AnswerLine). decimal n ∷ t) (map_append l k)

-- the first i + 1 numbers of a list
pub one_more : (l : List ℕ) (i : ℕ) {o m n : List ℕ} {at p q : ℕ} → length o < 18446744073709551616 → i < length l
    → Printed (behind (map decimal (take i l))) o at p m → Printed (behind (decimal (get_or l i 0) ∷ [])) m p q n
    → Printed (behind (map decimal (take (i + 1) l))) o at q n
one_more l i small h x y =
    rw (add-one, take-suc l i 0 h, map_append (take i l) (get_or l i 0 ∷ []))
    (fields small (map decimal (take i l)) (decimal (get_or l i 0) ∷ []) x y)

-- ---- steps that five lists hold

steps_append : (a b : List QPtrOp) → steps_fields (a ++ b) ≡ steps_fields a ++ steps_fields b
steps_append [] b = refl
steps_append (s ∷ a) b =
    ap (λ (l : AnswerLine). step_fields s ++ l) (steps_append a b) ∙ sym (append_assoc (step_fields s) (steps_fields a) (steps_fields b))

module _ (kinds sizes bounds marks indices : List ℕ) where
  pub no_steps : behind (steps_fields (steps_in kinds sizes bounds marks indices 0)) ≡ []
  unfolding behind steps_in
  no_steps = refl

  -- the first j + 1
  pub one_step_more : (j : ℕ) {o m n : List ℕ} {at p q : ℕ} → length o < 18446744073709551616
      → Printed (behind (steps_fields (steps_in kinds sizes bounds marks indices j))) o at p m
      → Printed (behind (step_fields (step_at kinds sizes bounds marks indices j))) m p q n
      → Printed (behind (steps_fields (steps_in kinds sizes bounds marks indices (j + 1)))) o at q n
  unfolding steps_in
  one_step_more j small x y =
      rw (add-one, steps_append (steps_in kinds sizes bounds marks indices j) (step_at kinds sizes bounds marks indices j ∷ []), append-nil (step_fields (step_at kinds sizes bounds marks indices j)))
      (fields small _ _ x y)
