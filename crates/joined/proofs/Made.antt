-- What a caller knows who read a sheet and laid out its types. Assumes nothing.
use Prim.Native.Nat.{ℕ, ◌*◌, ◌≤◌}
use native.Mathlib.Omega.{arith}
use mathlib.Core.Path.{◌≡◌, refl, ap, ◌∙◌, subst}
use mathlib.Core.Bool.{Bool, true, false, cond, ◌&&◌}
use mathlib.Core.List.{List, ◌++◌}
use lib.Dec.{eqb, ltb, leb}
use lib.ListN.{length, drop}
use borrow.Author.Tests.{leb-true}
use Rattle.arith.specs.Refusals.{Result, ok, refused, short_list}
use Rattle.arith.specs.Pairs.{both}
use Rattle.arith.proofs.Results.{went, passed, not_refused, value_is, first_true, second_true}
use Rattle.spirv.specs.Rows.{flag_word}
use Rattle.shapes.specs.declared.LayoutConfig.{LayoutConfig}
use Rattle.shapes.specs.Settings.{setting_of}
use Rattle.shapes.specs.Rows.{flat}
use Rattle.sheet.specs.Sheet.{Sheet, read_sheet, member_count}
use Rattle.sheet.specs.Tables.{setting_words, room_for, held}
use Rattle.reading.specs.Reads.{told, into}
use Rattle.std.specs.Prelude.{Ok}
use Rattle.arith.specs.InCode.{OrRefusal, err}
use Rattle.records.specs.Records.{records, filling}

-- ---- the sheet that was read

pub record Read (input se ty me gi : List ℕ) (n : ℕ) : Type 0 where
  pub sheet : Sheet
  pub into_lists : into input se ty me gi ≡ ok sheet
  pub is_sheet : read_sheet input ≡ ok sheet
  pub types : n ≡ length sheet.types
  pub members : member_count sheet.types ≤ length me

pub was_read : (input se ty me gi : List ℕ) (n : ℕ) → Ok n ≡ told (into input se ty me gi) → Read input se ty me gi n
unfolding held room_for
was_read input se ty me gi n h = by (into input se ty me gi) refl h
  where
    -- the third of the four that room asks for
    third : (a b c d : Bool) → a && (b && (c && d)) ≡ true → c ≡ true
    third a b c d e = first_true c d (second_true b (c && d) (second_true a (b && (c && d)) e))

    by : (r : Result Sheet) → into input se ty me gi ≡ r → Ok n ≡ told r → Read input se ty me gi n
    by (refused e) i t = absurd (let z : ◌≡◌ {A = ℕ} 0 1 = cc in omega arith)
    by (ok s) i t =
        let w = went (read_sheet input) _ i in
        let same : w.value ≡ s = value_is (passed _ _ w.rest) in
        let fits = not_refused short_list _ _ w.rest in
        record {
          sheet = s;
          into_lists = i;
          is_sheet = w.here ∙ ap ok same;
          types = cc;
          members = subst (λ (x : Sheet). member_count x.types ≤ length me) same (leb-true (member_count w.value.types) (length me) (third (leb 6 (length se)) (leb (6 * length w.value.types) (length ty)) (leb (member_count w.value.types) (length me)) (leb (member_count w.value.types) (length gi)) fits));
        }

-- its setting is read back
pub setting_back : (g : LayoutConfig) (rest : List ℕ) → setting_of (setting_words g ++ rest) ≡ g
unfolding setting_of
setting_back g rest = ap with_flag (flag_back g.ignore_legacy_align)
  where
    flag_back : (b : Bool) → eqb (flag_word b) 1 ≡ b
    flag_back true = refl
    flag_back false = refl

    with_flag : Bool → LayoutConfig
    with_flag b = record {
      ignore_legacy_align = b;
      min_aggregate_legacy_align = g.min_aggregate_legacy_align;
      abstract_bool_size = g.abstract_bool_size;
      abstract_bool_align = g.abstract_bool_align;
      logical_ptr_size = g.logical_ptr_size;
      logical_ptr_align = g.logical_ptr_align;
    }

-- ---- the layouts that were made

pub record Made (cfg : LayoutConfig) (types members given offsets₀ layouts₀ offsets layouts : List ℕ) (n : ℕ) : Type 0 where
  pub as_offsets : offsets ≡ (records cfg types members given offsets₀ n).1
  pub as_layouts : layouts ≡ flat (records cfg types members given offsets₀ n).0 ++ drop (10 * n) layouts₀

pub was_made : (cfg : LayoutConfig) (types members given offsets₀ layouts₀ offsets layouts : List ℕ) (n : ℕ) → both (Ok tt) (both offsets layouts) ≡ filling cfg types members given offsets₀ layouts₀ n
    → Made cfg types members given offsets₀ layouts₀ offsets layouts n
unfolding filling
was_made cfg types members given offsets₀ layouts₀ offsets layouts n h = by (ltb (length layouts₀) (10 * n)) h
  where
    by : (b : Bool) → both (Ok (tt {0})) (both offsets layouts) ≡ cond b (both (err short_list) (both offsets₀ layouts₀)) (both (Ok (tt {0})) (both (records cfg types members given offsets₀ n).1 (flat (records cfg types members given offsets₀ n).0 ++ drop (10 * n) layouts₀)))
        → Made cfg types members given offsets₀ layouts₀ offsets layouts n
    by true e = absurd (let k : ◌≡◌ {A = OrRefusal (Unit {0})} (Ok tt) (err short_list) = ap (λ (p : OrRefusal (Unit {0}) × (List ℕ × List ℕ)). p.0) e in let z : ◌≡◌ {A = ℕ} 0 1 = cc in omega arith)
    by false e = record {
      as_offsets = ap (λ (p : OrRefusal (Unit {0}) × (List ℕ × List ℕ)). p.1.0) e;
      as_layouts = ap (λ (p : OrRefusal (Unit {0}) × (List ℕ × List ℕ)). p.1.1) e;
    }
