-- Rows and indices are read back from their words, and no other words are read as one. Assumes nothing.
use Prim.Native.Nat.{ℕ, ◌+◌, ◌*◌, ◌≤◌, ◌<◌}
use native.Mathlib.Omega.{arith}
use Rattle.std.specs.Prelude.{Some, None}
use Rattle.std.specs.Bool.{then_some}
use mathlib.Core.Path.{◌≡◌, refl, sym, ap, ◌∙◌}
use mathlib.Core.Bool.{Bool, true, false, cond}
use mathlib.Core.List.{List, [], ◌∷◌, ◌++◌, append_assoc}
use borrow.Author.Tests.{eqb-true}
use lib.Dec.{eqb}
use lib.ListN.{length, get_or, take, drop}
use lib.Seq.{sets, sets-eq, take_at, drop_at, length-take-le}
use Rattle.spirv.specs.declared.Length.TheVariants.{Fixed, Specialization}
use Rattle.spirv.specs.declared.Stride.TheVariants.{Decorated, Undecorated}
use Rattle.spirv.specs.declared.SpvType.{SpvType}
use Rattle.spirv.specs.declared.SpvType.TheVariants as spv
use Rattle.spirv.specs.declared.DeclRow.{DeclRow}
use Rattle.spirv.specs.declared.Index.{Index}
use Rattle.spirv.specs.declared.Index.TheVariants.{Known, Unknown}
use Rattle.spirv.specs.Decl.{is_struct}
use Rattle.spirv.specs.Rows.{same_words, type_words, encode_row, type_of, struct_row, plain_row, row_of, row_of_words, decode_row, row_at, OfDeclaration, RowsReadBack, encode_index, index_of, decode_index, index_at, IndicesReadBack}
use Rattle.spirv.proofs.Words.{same_is, same_self, other_length, cut_short}

-- ---- rows

words_length : (t : SpvType) (s n f o : ℕ) → length (type_words t s n f o) ≡ 6
words_length spv.Bool s n f o = refl
words_length (spv.Int w) s n f o = refl
words_length (spv.Float w) s n f o = refl
words_length (spv.Vector e k) s n f o = refl
words_length (spv.Matrix e k) s n f o = refl
words_length (spv.Array e k d) s n f o = refl
words_length (spv.RuntimeArray e d) s n f o = refl
words_length (spv.Struct b) s n f o = refl
words_length (spv.Pointer k p) s n f o = refl
words_length spv.Opaque s n f o = refl
words_length spv.Unsupported s n f o = refl

pub row_length : (r : DeclRow) → length (encode_row r) ≡ 6
unfolding encode_row
row_length r = words_length r.ty r.start r.count r.refusal r.read

pub row_short : (ws : List ℕ) → (length ws ≡ 6 → ⊥) → decode_row ws ≡ None
unfolding decode_row
row_short ws h = rw (other_length (encode_row (row_of_words ws)) ws (λ e. h (sym e ∙ row_length (row_of_words ws))))

-- the row is not there where the table ends before it does
pub row_missing : (table : List ℕ) (i : ℕ) → length table < 6 * i + 6 → row_at table i ≡ None
unfolding row_at
row_missing table i h = row_short (take 6 (drop (6 * i) table)) (cut_short table (6 * i) 6 h (omega arith))

again : (t : SpvType) (s n f o : ℕ) → row_of_words (type_words t s n f o) ≡ cond (is_struct t) (struct_row t s n f o) (plain_row t)
unfolding row_of_words row_of type_of
again spv.Bool s n f o = refl
again (spv.Int w) s n f o = refl
again (spv.Float w) s n f o = refl
again (spv.Vector e k) s n f o = refl
again (spv.Matrix e k) s n f o = refl
again (spv.Array e (Fixed k) (Decorated d)) s n f o = refl
again (spv.Array e (Fixed k) Undecorated) s n f o = refl
again (spv.Array e Specialization (Decorated d)) s n f o = refl
again (spv.Array e Specialization Undecorated) s n f o = refl
again (spv.RuntimeArray e (Decorated d)) s n f o = refl
again (spv.RuntimeArray e Undecorated) s n f o = refl
again (spv.Struct true) s n f o = refl
again (spv.Struct false) s n f o = refl
again (spv.Pointer k p) s n f o = refl
again spv.Opaque s n f o = refl
again spv.Unsupported s n f o = refl

row_again : (r : DeclRow) → OfDeclaration r → row_of_words (encode_row r) ≡ r
unfolding encode_row
row_again r p = again r.ty r.start r.count r.refusal r.read ∙ go (is_struct r.ty) p.plain
  where
    go : (b : Bool) → (b ≡ false → r ≡ plain_row r.ty) → cond b (struct_row r.ty r.start r.count r.refusal r.read) (plain_row r.ty) ≡ r
    go true h = refl
    go false h = sym (h refl)

-- the row, where they are the words again
pub row_if : (b : Bool) (r : DeclRow) → then_some b r ≡ cond b (Some r) None
row_if true r = refl
row_if false r = refl

pub rows_read_back : RowsReadBack
unfolding decode_row
rows_read_back = record {
  back = λ r p. rw (row_again r p, same_self (encode_row r));
  only = λ ws r e. go ws r (same_words (encode_row (row_of_words ws)) ws) (same_is (encode_row (row_of_words ws)) ws) e;
}
  where
    go : (ws : List ℕ) (r : DeclRow) (b : Bool) → (b ≡ true → encode_row (row_of_words ws) ≡ ws) → cond b (Some (row_of_words ws)) None ≡ Some r → ws ≡ encode_row r
    go ws r true h e = let q : row_of_words ws ≡ r = cc in sym (h refl) ∙ ap encode_row q
    go ws r false h e = absurd (let z : ◌≡◌ {A = ℕ} 0 1 = cc in omega arith)

-- a part of a list, after it was stored
pub part_stored : (l : List ℕ) (at n : ℕ) (ws : List ℕ) → length ws ≡ n → at + n ≤ length l → take n (drop at (sets l at ws)) ≡ ws
part_stored l at n ws e h =
    let k : at + length ws ≤ length l = omega arith in
    rw (sets-eq ws l at k, append_assoc, drop_at (take at l) (ws ++ drop (at + length ws) l) at (length-take-le at l (omega arith)), take_at ws (drop (at + length ws) l) n e)

-- a row that was written is read back
pub row_written : (l : List ℕ) (i : ℕ) (r : DeclRow) → OfDeclaration r → 6 * i + 6 ≤ length l → row_at (sets l (6 * i) (encode_row r)) i ≡ Some r
unfolding row_at
row_written l i r p h = rw (part_stored l (6 * i) 6 (encode_row r) (row_length r) h) (rows_read_back.back r p)

-- ---- indices

pub index_short : (ws : List ℕ) → (length ws ≡ 2 → ⊥) → decode_index ws ≡ None
unfolding decode_index
index_short [] h = refl
index_short (w ∷ []) h = refl
index_short (w ∷ k ∷ []) h = absurd (h refl)
index_short (w ∷ k ∷ x ∷ xs) h = refl

pub index_missing : (table : List ℕ) (i : ℕ) → length table < 2 * i + 2 → index_at table i ≡ None
unfolding index_at
index_missing table i h = index_short (take 2 (drop (2 * i) table)) (cut_short table (2 * i) 2 h (omega arith))

pub index_long : (ws : List ℕ) → length ws ≡ 2 → decode_index ws ≡ index_of (get_or ws 0 0) (get_or ws 1 0)
unfolding decode_index
index_long [] h = absurd (omega arith)
index_long (w ∷ []) h = absurd (omega arith)
index_long (w ∷ k ∷ []) h = refl
index_long (w ∷ k ∷ x ∷ xs) h = absurd (omega arith)

pub index_length : (i : Index) → length (encode_index i) ≡ 2
unfolding encode_index
index_length (Known w) = refl
index_length (Unknown v) = refl

index_back : (i : Index) → decode_index (encode_index i) ≡ Some i
unfolding encode_index decode_index
index_back (Known w) = refl
index_back (Unknown v) = refl

index_only : (ws : List ℕ) (i : Index) → decode_index ws ≡ Some i → ws ≡ encode_index i
unfolding encode_index decode_index
index_only [] i e = absurd (let z : ◌≡◌ {A = ℕ} 0 1 = cc in omega arith)
index_only (w ∷ []) i e = absurd (let z : ◌≡◌ {A = ℕ} 0 1 = cc in omega arith)
index_only (w ∷ k ∷ x ∷ xs) i e = absurd (let z : ◌≡◌ {A = ℕ} 0 1 = cc in omega arith)
index_only (w ∷ k ∷ []) i e = go i (eqb k 0) (eqb k 1) refl refl e
  where
    go : (i : Index) (a b : Bool) → eqb k 0 ≡ a → eqb k 1 ≡ b → cond a (Some (Known w)) (cond b (Some (Unknown w)) None) ≡ Some i → w ∷ k ∷ [] ≡ encode_index i
    go i true b p q e = let j : Known w ≡ i = cc in rw (← j, eqb-true k 0 p)
    go i false true p q e = let j : Unknown w ≡ i = cc in rw (← j, eqb-true k 1 q)
    go i false false p q e = absurd (let z : ◌≡◌ {A = ℕ} 0 1 = cc in omega arith)

pub indices_read_back : IndicesReadBack
indices_read_back = record { back = index_back; only = index_only }

pub index_written : (l : List ℕ) (i : ℕ) (x : Index) → 2 * i + 2 ≤ length l → index_at (sets l (2 * i) (encode_index x)) i ≡ Some x
unfolding index_at
index_written l i x h = rw (part_stored l (2 * i) 2 (encode_index x) (index_length x) h) (index_back x)
