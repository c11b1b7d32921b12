-- A pointer's row, known by its words, and a row that a table lacks. Assumes nothing.
use Prim.Native.Nat.{ℕ, ◌+◌, ◌*◌, ◌<◌}
use native.Mathlib.Omega.{arith}
use mathlib.Core.Path.{◌≡◌, refl, ap, ◌∙◌}
use mathlib.Core.List.{List, [], ◌∷◌}
use lib.ListN.{length, get_or, take, drop, length-take, length-drop}
use Rattle.std.specs.Prelude.{None}
use Rattle.arith.specs.Refusals.{ok}
use Rattle.spirv.specs.declared.SpvType.TheVariants.{Pointer}
use Rattle.spirv.specs.Decl.{pointee_of}
use Rattle.spirv.specs.Rows.{encode_row, decode_row, plain_row, row_at}
use Rattle.spirv.proofs.Rows.{rows_read_back, row_short}
use Rattle.arith.proofs.Listed.{one_by_one}
use Rattle.pointers.specs.OverTables.{pointee_of_row}

module _ (ws : List ℕ) (h : length ws ≡ 6) (tag : get_or ws 0 0 ≡ 80) (x : get_or ws 3 0 ≡ 0) (y : get_or ws 4 0 ≡ 0) (z : get_or ws 5 0 ≡ 0) where
  pointer_words : ws ≡ encode_row (plain_row (Pointer (get_or ws 1 0) (get_or ws 2 0)))
  unfolding encode_row
  pointer_words = one_by_one 6 ws h
      ∙ ap (λ (w : ℕ). w ∷ get_or ws 1 0 ∷ get_or ws 2 0 ∷ get_or ws 3 0 ∷ get_or ws 4 0 ∷ get_or ws 5 0 ∷ []) tag
      ∙ ap (λ (w : ℕ). 80 ∷ get_or ws 1 0 ∷ get_or ws 2 0 ∷ w ∷ get_or ws 4 0 ∷ get_or ws 5 0 ∷ []) x
      ∙ ap (λ (w : ℕ). 80 ∷ get_or ws 1 0 ∷ get_or ws 2 0 ∷ 0 ∷ w ∷ get_or ws 5 0 ∷ []) y
      ∙ ap (λ (w : ℕ). 80 ∷ get_or ws 1 0 ∷ get_or ws 2 0 ∷ 0 ∷ 0 ∷ w ∷ []) z

  pub of_pointer : pointee_of_row (decode_row ws) ≡ ok (get_or ws 2 0)
  unfolding pointee_of
  of_pointer = ap (λ (l : List ℕ). pointee_of_row (decode_row l)) pointer_words
      ∙ ap pointee_of_row (rows_read_back.back (plain_row (Pointer (get_or ws 1 0) (get_or ws 2 0))) record { plain = λ e. refl })

pub row_missing : (table : List ℕ) (i : ℕ) → length table < 6 * i + 6 → row_at table i ≡ None
unfolding row_at
row_missing table i h =
    let rest = drop (6 * i) table in
    row_short (take 6 rest) (λ e. omega (arith, length-take 6 rest, length-drop (6 * i) table))
