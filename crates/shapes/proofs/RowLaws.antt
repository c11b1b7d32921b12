-- Laws of a table's rows: one that is written is read, the others stay; and a table of rows is looked up as their list.
-- Assumes nothing.
use Prim.Native.Nat.{ℕ, zero, suc, ◌+◌, ◌*◌, ◌<◌, ◌≤◌}
use mathlib.Core.Path.{◌≡◌, refl, sym, ◌∙◌}
use mathlib.Core.Bool.{Bool, true, false, cond}
use mathlib.Core.List.{List, [], ◌∷◌, ◌++◌, append_assoc, append-nil}
use native.Mathlib.Omega.{arith}
use lib.Dec.{ltb}
use lib.ListN.{length, get_or, take, drop, length-append, length-take, length-drop, get_or-eq_default}
use lib.Seq.{sets, sets-eq, take_at, drop_at, drop-drop}
use borrow.Author.Tests.{ltb-true, ltb-false}
use Rattle.arith.specs.Refusals.{misread}
use Rattle.shapes.specs.Words.{encode}
use Rattle.shapes.specs.declared.TypeLayout.{TypeLayout}
use Rattle.shapes.specs.Rows.{row_at, answer_at, flat}
use Rattle.arith.specs.InCode.{OrRefusal, err}
use Rattle.spirv.proofs.Rows.{part_stored}
use Rattle.shapes.proofs.ReadsBack.{encode_length, decode_encode, not_ten}

-- a row that the table lacks is refused with 1
pub row_missing : (table : List ℕ) (i : ℕ) → length table < 10 * i + 10 → row_at table i ≡ err misread
unfolding row_at
row_missing table i h =
    let rest = drop (10 * i) table in
    not_ten (take 10 rest) (λ e. omega (arith, length-take 10 rest, length-drop (10 * i) table))

-- a row that is written is read
pub row_written : (table : List ℕ) (i : ℕ) (a : OrRefusal TypeLayout) → 10 * i + 10 ≤ length table → row_at (sets table (10 * i) (encode a)) i ≡ a
unfolding row_at
row_written table i a h = rw (part_stored table (10 * i) 10 (encode a) (encode_length a) h) (decode_encode a)

-- ---- a table of rows

pub flat_length : (rs : List (OrRefusal TypeLayout)) → length (flat rs) ≡ 10 * length rs
unfolding flat
flat_length [] = refl
flat_length (a ∷ rs) = rw (length-append (encode a) (flat rs), encode_length a, flat_length rs) (omega arith)

pub flat_snoc : (rs : List (OrRefusal TypeLayout)) (a : OrRefusal TypeLayout) → flat (rs ++ (a ∷ [])) ≡ flat rs ++ encode a
unfolding flat
flat_snoc [] a = append-nil (encode a)
flat_snoc (r ∷ rs) a = rw (flat_snoc rs a) (sym (append_assoc (encode r) (flat rs) (encode a)))

-- the next row, behind those that are there
pub next_row : (rs : List (OrRefusal TypeLayout)) (table : List ℕ) (a : OrRefusal TypeLayout) → 10 * length rs + 10 ≤ length table
    → sets (flat rs ++ drop (10 * length rs) table) (10 * length rs) (encode a) ≡ flat (rs ++ (a ∷ [])) ++ drop (10 * (length rs + 1)) table
next_row rs table a h =
    let n = 10 * length rs in
    let whole = flat rs ++ drop n table in
    let long : length whole ≡ length table = length-append (flat rs) (drop n table) ∙ rw (flat_length rs, length-drop n table) (omega arith) in
    let m : 10 * (length rs + 1) ≡ n + 10 = omega arith in
    let e = encode_length a in
    sets-eq (encode a) whole n (omega arith)
    ∙ rw (e, take_at (flat rs) (drop n table) n (flat_length rs), ← drop-drop 10 n whole, drop_at (flat rs) (drop n table) n (flat_length rs), drop-drop 10 n table, flat_snoc rs a, m)

row_of : (rs : List (OrRefusal TypeLayout)) (rest : List ℕ) (i : ℕ) (d : OrRefusal TypeLayout) → i < length rs → row_at (flat rs ++ rest) i ≡ get_or rs i d
unfolding row_at flat
row_of [] rest i d h = absurd (omega arith)
row_of (r ∷ rs) rest zero d h =
    rw (append_assoc (encode r) (flat rs) rest, take_at (encode r) (flat rs ++ rest) 10 (encode_length r)) (decode_encode r)
row_of (r ∷ rs) rest (suc i) d h =
    let e : 10 * suc i ≡ 10 + 10 * i = omega arith in
    rw (e, append_assoc (encode r) (flat rs) rest, ← drop-drop (10 * i) 10 (encode r ++ (flat rs ++ rest)), drop_at (encode r) (flat rs ++ rest) 10 (encode_length r))
    (row_of rs rest i d (omega arith))

-- an answer among the first rows is one of their list
pub answer_of_list : (rs : List (OrRefusal TypeLayout)) (rest : List ℕ) (t : ℕ) → answer_at (flat rs ++ rest) (length rs) t ≡ get_or rs t (err misread)
unfolding answer_at
answer_of_list rs rest t = by_test (ltb t (length rs)) refl
  where
    by_test : (b : Bool) → ltb t (length rs) ≡ b → cond b (row_at (flat rs ++ rest) t) (err misread) ≡ get_or rs t (err misread)
    by_test true h = row_of rs rest t (err misread) (omega (arith, ltb-true t (length rs) h))
    by_test false h = sym (get_or-eq_default rs (err misread) (omega (arith, ltb-false t (length rs) h)))
