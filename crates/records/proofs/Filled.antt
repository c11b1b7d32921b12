-- Rows written one behind the other are those of the list of answers. Assumes nothing.
use Prim.Native.Nat.{ℕ, zero, suc, ◌+◌, ◌*◌, ◌≤◌}
use mathlib.Core.Path.{◌≡◌, refl, ap, ◌∙◌, fun_ext}
use mathlib.Core.List.{List, [], ◌∷◌, ◌++◌}
use native.Mathlib.Omega.{arith}
use native.Mathlib.Numerals.{add-one}
use lib.ListN.{length, drop, length-append}
use lib.Seq.{sets}
use Rattle.spirv.specs.Rows.{row_at}
use Rattle.shapes.specs.declared.LayoutConfig.{LayoutConfig}
use Rattle.arith.specs.InCode.{OrRefusal}
use Rattle.shapes.specs.declared.TypeLayout.{TypeLayout}
use Rattle.shapes.specs.Words.{encode}
use Rattle.shapes.specs.Rows.{flat}
use Rattle.shapes.specs.Spans.{answer_by, itself}
use Rattle.shapes.proofs.RowLaws.{next_row, answer_of_list}
use Rattle.arith.specs.Pairs.{both}
use Rattle.structs.specs.Rows.{below_in}
use Rattle.records.specs.Records.{layout_of_row, below_of, with_next, records, record_at}

below_of_lem : (rs : List (OrRefusal TypeLayout)) (rest : List ℕ) → below_in (flat rs ++ rest) (length rs) ≡ below_of rs
below_of_lem rs rest = fun_ext λ t. ap (answer_by itself) (answer_of_list rs rest t)

module _ (cfg : LayoutConfig) (types members given offsets : List ℕ) where
  pub records_length : (n : ℕ) → length (records cfg types members given offsets n).0 ≡ n
  unfolding records with_next
  records_length zero = refl
  records_length (suc k) = length-append (records cfg types members given offsets k).0 _ ∙ (let e = records_length k in omega arith)

  -- one row more
  pub record_next : (k : ℕ) (layouts : List ℕ) → 10 * k + 10 ≤ length layouts
      → record_at cfg k types members given (records cfg types members given offsets k).1 (flat (records cfg types members given offsets k).0 ++ drop (10 * k) layouts)
      ≡ both (records cfg types members given offsets (k + 1)).1 (flat (records cfg types members given offsets (k + 1)).0 ++ drop (10 * (k + 1)) layouts)
  unfolding records with_next record_at
  record_next k layouts h =
      let s = records cfg types members given offsets k in
      rw (add-one k) (by s.0 s.1 (records_length k))
    where
      by : (rs : List (OrRefusal TypeLayout)) (os : List ℕ) → length rs ≡ k
          → ◌≡◌ {A = List ℕ × List ℕ}
          (both (layout_of_row cfg (below_in (flat rs ++ drop (10 * k) layouts) k) members given os (row_at types k)).1
          (sets (flat rs ++ drop (10 * k) layouts) (10 * k) (encode (layout_of_row cfg (below_in (flat rs ++ drop (10 * k) layouts) k) members given os (row_at types k)).0)))
          (both (layout_of_row cfg (below_of rs) members given os (row_at types k)).1
          (flat (rs ++ ((layout_of_row cfg (below_of rs) members given os (row_at types k)).0 ∷ [])) ++ drop (10 * suc k) layouts))
      by rs os e =
          rw (← e, below_of_lem rs (drop (10 * length rs) layouts), next_row rs layouts (layout_of_row cfg (below_of rs) members given os (row_at types (length rs))).0 (omega arith), add-one (length rs))
