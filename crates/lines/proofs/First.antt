-- The form that a line's first field picks. Assumes nothing.
use Prim.Native.Nat.{ℕ, ◌-◌, ◌≤◌}
use native.Mathlib.Omega.{arith}
use mathlib.Core.Path.{◌≡◌, sym, ◌∙◌}
use mathlib.Core.List.{List, [], ◌∷◌}
use mathlib.Core.Option.{none}
use lib.ListN.{length, get_or}
use lib.Seq.{length-take-le}
use borrow.Author.Tests.{ne_eqb}
use Rattle.sheet.specs.Grammar.{grammar, form_of, read_line}
use Rattle.std.specs.Prelude as code
use Rattle.lines.specs.declared.SheetLine.{SheetLine}
use Rattle.lines.specs.Says.{Says}
use Rattle.fields.specs.Pieces.{part, Piece, behind}
use Rattle.fields.proofs.Pieces.{fields_of}
use Rattle.decimal.specs.Text.{same}
use mathlib.Core.Bool.{Bool, true, false, ◌&&◌}
use mathlib.Core.Path.{refl, ap}
use lib.Dec.{eqb}
use Prim.Native.Nat.{suc}

-- texts of two lengths are not the same
other_length : (a b : List ℕ) → (length a ≡ length b → ⊥) → same a b ≡ false
other_length [] [] h = absurd (h refl)
other_length [] (y ∷ b) h = refl
other_length (x ∷ a) [] h = refl
other_length (x ∷ a) (y ∷ b) h = go (eqb x y) (other_length a b (λ e. h (ap suc e)))
  where
    go : (t : Bool) → same a b ≡ false → t && same a b ≡ false
    go true e = e
    go false e = refl

first : (above : ℕ) {line : List ℕ} {e : ℕ} → Piece 44 line 0 e → read_line above line ≡ form_of (grammar above) (part 0 e line) (behind line e)
unfolding read_line
first above p = rw (fields_of p)

one_byte : (line : List ℕ) (e : ℕ) → e ≤ length line → e ≡ 1 → part 0 e line ≡ get_or line 0 0 ∷ []
one_byte [] e h q = absurd (omega arith)
one_byte (b ∷ line) e h q = rw q

-- a first field of one byte
pub one : (above : ℕ) {line : List ℕ} {e : ℕ} → Piece 44 line 0 e → e ≡ 1 → {t : ℕ} → get_or line 0 0 ≡ t → read_line above line ≡ form_of (grammar above) (t ∷ []) (behind line e)
one above {line} {e} p q k = first above p ∙ (rw (one_byte line e p.within q, k))

-- a line that begins with the letter t says what its form says
pub letter : (above : ℕ) {line : List ℕ} {e : ℕ} (t : ℕ) (r : code.Option SheetLine) → Piece 44 line 0 e → e ≡ 1 → get_or line 0 0 ≡ t
    → Says above line r (form_of (grammar above) (t ∷ []) (behind line e)) → Says above line r (read_line above line)
letter above t r p q k h = rw (one above p q k) h

-- no letter has another length
other_form : (above : ℕ) (f : List ℕ) (fs : List (List ℕ)) → (length f ≡ 1 → ⊥) → form_of (grammar above) f fs ≡ none
unfolding grammar
other_form above f fs h = rw (
  other_length f (71 ∷ []) h,
  other_length f (66 ∷ []) h,
  other_length f (73 ∷ []) h,
  other_length f (70 ∷ []) h,
  other_length f (86 ∷ []) h,
  other_length f (77 ∷ []) h,
  other_length f (65 ∷ []) h,
  other_length f (82 ∷ []) h,
  other_length f (83 ∷ []) h,
  other_length f (80 ∷ []) h,
  other_length f (79 ∷ []) h,
  other_length f (85 ∷ []) h,
  other_length f (68 ∷ []) h,
  other_length f (84 ∷ []) h,
  other_length f (69 ∷ []) h,
  other_length f (81 ∷ []) h,
  other_length f (67 ∷ []) h,
  other_length f (76 ∷ []) h,
  other_length f (88 ∷ []) h,
)

pub other : (above : ℕ) {line : List ℕ} {e : ℕ} → Piece 44 line 0 e → (e ≡ 1 → ⊥) → read_line above line ≡ none
other above {line} {e} p h =
    let n : e - 0 ≡ e = omega arith in
    let l : length (part 0 e line) ≡ e = rw n (length-take-le e line p.within) in
    first above p ∙ other_form above (part 0 e line) (behind line e) (λ q. h (sym l ∙ q))

-- a letter that is none of theirs
pub record Unknown (t : ℕ) : Type 0 where
  pub no_g : t ≡ 71 → ⊥
  pub no_b : t ≡ 66 → ⊥
  pub no_i : t ≡ 73 → ⊥
  pub no_f : t ≡ 70 → ⊥
  pub no_v : t ≡ 86 → ⊥
  pub no_m : t ≡ 77 → ⊥
  pub no_a : t ≡ 65 → ⊥
  pub no_r : t ≡ 82 → ⊥
  pub no_s : t ≡ 83 → ⊥
  pub no_p : t ≡ 80 → ⊥
  pub no_o : t ≡ 79 → ⊥
  pub no_u : t ≡ 85 → ⊥
  pub no_d : t ≡ 68 → ⊥
  pub no_t : t ≡ 84 → ⊥
  pub no_e : t ≡ 69 → ⊥
  pub no_q : t ≡ 81 → ⊥
  pub no_c : t ≡ 67 → ⊥
  pub no_l : t ≡ 76 → ⊥
  pub no_x : t ≡ 88 → ⊥

pub unknown : (above : ℕ) {t : ℕ} (fs : List (List ℕ)) → Unknown t → form_of (grammar above) (t ∷ []) fs ≡ none
unfolding grammar
unknown above {t} fs u = rw (
  ne_eqb t 71 u.no_g,
  ne_eqb t 66 u.no_b,
  ne_eqb t 73 u.no_i,
  ne_eqb t 70 u.no_f,
  ne_eqb t 86 u.no_v,
  ne_eqb t 77 u.no_m,
  ne_eqb t 65 u.no_a,
  ne_eqb t 82 u.no_r,
  ne_eqb t 83 u.no_s,
  ne_eqb t 80 u.no_p,
  ne_eqb t 79 u.no_o,
  ne_eqb t 85 u.no_u,
  ne_eqb t 68 u.no_d,
  ne_eqb t 84 u.no_t,
  ne_eqb t 69 u.no_e,
  ne_eqb t 81 u.no_q,
  ne_eqb t 67 u.no_c,
  ne_eqb t 76 u.no_l,
  ne_eqb t 88 u.no_x,
)

pub ruleset by_letter = (letter, other)
