-- How a scan that passes one byte after another finds the pieces. Assumes nothing.
use mathlib.Core.Path.{◌≡◌, refl, ap, ◌∙◌}
use mathlib.Core.List.{List, [], ◌∷◌}
use mathlib.Core.Bool.{Bool, true, false, cond, not}
use Prim.Native.Nat.{ℕ, suc, ◌+◌, ◌-◌, ◌<◌, ◌≤◌}
use native.Mathlib.Numerals.{one-add}
use native.Mathlib.Omega.{arith}
use borrow.Author.Tests.{lt-ltb, le-ltb, ltb-true, ltb-false}
use lib.Dec.{eqb, ltb}
use lib.ListN.{length, take, drop, length-drop}
use Rattle.std.specs.List.{position_or_len}
use lib.Seq.{drop-drop}
use Rattle.decimal.specs.Text.{split, in_first}
use Rattle.fields.specs.Pieces.{part, Piece, behind}

-- ---- there is always a piece

first_some : (b : ℕ) (ps : List (List ℕ)) → (q : List ℕ) × (qs : List (List ℕ)) × (in_first b ps ≡ q ∷ qs)
first_some b [] = (b ∷ [], [], refl)
first_some b (p ∷ ps) = (b ∷ p, ps, refl)

pub split_some : (c : ℕ) (l : List ℕ) → (q : List ℕ) × (qs : List (List ℕ)) × (split c l ≡ q ∷ qs)
unfolding split
split_some c [] = ([], [], refl)
split_some c (b ∷ l) = go (eqb b c) (first_some b (split c l))
  where
    go : (x : Bool) → (q : List ℕ) × (qs : List (List ℕ)) × (in_first b (split c l) ≡ q ∷ qs) → (q : List ℕ) × (qs : List (List ℕ)) × (cond x ([] ∷ split c l) (in_first b (split c l)) ≡ q ∷ qs)
    go true h = ([], split c l, refl)
    go false h = h

-- ---- the first piece ends where the byte first stands

-- a list is its first piece, from n on
pub record First (c : ℕ) (l : List ℕ) (n : ℕ) : Type 0 where
  pub within : n ≤ length l
  pub more : n < length l → split c l ≡ take n l ∷ split c (drop (suc n) l)
  pub last : length l ≤ n → split c l ≡ take n l ∷ []

pub first : (c : ℕ) (l : List ℕ) → First c l (position_or_len (λ b. eqb b c) l)
unfolding split
first c [] = record { within = omega arith; more = λ k. absurd (omega arith); last = λ k. refl }
first c (b ∷ l) = let r = by (eqb b c) (position_or_len (λ a. eqb a c) l) (first c l) in record { within = r.0; more = r.1; last = r.2 }
  where
    by : (t : Bool) (n : ℕ) → First c l n
        → (cond (not t) (1 + n) 0 ≤ suc (length l))
        × (cond (not t) (1 + n) 0 < suc (length l) → cond t ([] ∷ split c l) (in_first b (split c l)) ≡ take (cond (not t) (1 + n) 0) (b ∷ l) ∷ split c (drop (suc (cond (not t) (1 + n) 0)) (b ∷ l)))
        × (suc (length l) ≤ cond (not t) (1 + n) 0 → cond t ([] ∷ split c l) (in_first b (split c l)) ≡ take (cond (not t) (1 + n) 0) (b ∷ l) ∷ [])
    by true n f = (omega arith, λ h. refl, λ h. absurd (omega arith))
    by false n f = (omega (arith, f.within), λ h. rw one-add (ap (in_first b) (f.more (omega arith))), λ h. rw one-add (ap (in_first b) (f.last (omega arith))))

-- a piece from index a on ends where the byte first stands, or at the end
pub piece_by : (c : ℕ) (s : List ℕ) (a e : ℕ) → a ≤ length s → e ≡ a + position_or_len (λ b. eqb b c) (drop a s) → Piece c s a e
piece_by c s a e h q =
    let f = first c (drop a s) in
    let n : length (drop a s) ≡ length s - a = length-drop a s in
    let p : position_or_len (λ b. eqb b c) (drop a s) ≡ e - a = omega arith in
    let next : a + suc (e - a) ≡ e + 1 = omega arith in
    let g : First c (drop a s) (e - a) = rw p at f in
    record {
      from = omega arith;
      within = omega (arith, g.within);
      more = λ k. g.more (omega arith) ∙ ap (λ (l : List ℕ). part a e s ∷ split c l) (drop-drop (suc (e - a)) a s ∙ ap (λ (i : ℕ). drop i s) next);
      last = λ k. g.last (omega arith);
    }

-- ---- the fields behind an index

pub behind_none : (line : List ℕ) (e : ℕ) → length line ≤ e → behind line e ≡ []
unfolding behind
behind_none line e h = rw (le-ltb e (length line) h)

-- the next field is the piece that starts there
pub behind_next : {line : List ℕ} {e d : ℕ} → e < length line → Piece 44 line (e + 1) d → behind line e ≡ part (e + 1) d line ∷ behind line d
unfolding behind
behind_next {line} {e} {d} h p = rw (lt-ltb e (length line) h) (go (ltb d (length line)) refl)
  where
    go : (x : Bool) → ltb d (length line) ≡ x → split 44 (drop (e + 1) line) ≡ part (e + 1) d line ∷ cond x (split 44 (drop (d + 1) line)) []
    go true q = p.more (ltb-true d (length line) q)
    go false q = p.last (ltb-false d (length line) q)

-- the fields of a line are its first piece and those behind it
pub fields_of : {line : List ℕ} {e : ℕ} → Piece 44 line 0 e → split 44 line ≡ part 0 e line ∷ behind line e
unfolding behind
fields_of {line} {e} p = go (ltb e (length line)) refl
  where
    go : (x : Bool) → ltb e (length line) ≡ x → split 44 line ≡ part 0 e line ∷ cond x (split 44 (drop (e + 1) line)) []
    go true q = p.more (ltb-true e (length line) q)
    go false q = p.last (ltb-false e (length line) q)
