-- Align and legacy alignment of a layout are powers of two. Assumes nothing.
use Prim.Native.Nat.{ℕ, ◌*◌, ◌/◌, ◌<◌}
use mathlib.Core.Path.{◌≡◌, refl, sym, ap, ◌∙◌, subst}
use mathlib.Core.Bool.{Bool, true, false, cond, ◌&&◌}
use mathlib.Core.List.{List, [], ◌∷◌}
use mathlib.Core.Option.{some}
use native.Mathlib.Omega.{arith}
use lib.Dec.{leb}
use borrow.Author.Tests.{leb-true}
use Rattle.arith.specs.Refusals.{ok}
use Rattle.arith.specs.Numbers.{is_power_of_two}
use Rattle.arith.proofs.Results.{never, value_is, passed, not_refused, no_some, some_is, first_true, second_true}
use Rattle.arith.proofs.Powers.{Pow2, pow_max, pow_twice, power, pow_width}
use Rattle.spirv.specs.declared.Length.TheVariants.{Fixed, Specialization}
use Rattle.spirv.specs.declared.SpvType.{SpvType}
use Rattle.spirv.specs.declared.SpvType.TheVariants as spv
use Rattle.spirv.specs.Decl.{Decl}
use Rattle.spirv.proofs.Filled.{by_lower}
use Rattle.shapes.specs.declared.LayoutConfig.{LayoutConfig}
use Rattle.shapes.specs.Shapes.{Opaque, Buffer, MemTypeLayout, TypeLayout, Handle, HandleArray, Concrete, align_of, legacy_of, shown_memory}
use Rattle.sheet.specs.Sheet.{good_setting}
use Rattle.layout.specs.Arrays.{Answer, number_layout, ArrayParams, vector_legacy, vector_params, fixed_params, runtime_params}
use Rattle.layout.specs.Structs.{block_or}
use Rattle.layout.specs.Layouts.{Rule, of_setting, of_width, of_elements, of_members, of_handle, no_layout, rule_of, by_rule, layout_of, answer_in}
use Rattle.layout.specs.Statements.{PowersOf, AlignmentPowers}
use Rattle.layout.proofs.OfElements.{ArrayIs, array_is}
use Rattle.layout.proofs.OfMembers.{Laid, largest, struct_is}
use Rattle.layout.proofs.InSheet.{laid_in}

-- the legacy alignment of a vector of numbers that have a power of two
pub pow_vector : (len n : ℕ) → Pow2 n → Pow2 (vector_legacy len n)
pow_vector len n p = by (leb len 2)
  where
    by : (b : Bool) → Pow2 (cond b (2 * n) (4 * n))
    by true = pow_twice n p
    by false = let q = pow_twice (2 * n) (pow_twice n p) in (q.0, omega (arith, q.1))

-- the bytes of a number are a power of two
pub number_power : (width : ℕ) → leb 8 width && is_power_of_two width ≡ true → Pow2 (width / 8)
number_power width t = pow_width width (leb-true 8 width (first_true (leb 8 width) _ t)) (power width (second_true (leb 8 width) _ t))

pub shown_block : (block : Bool) (m : MemTypeLayout) → shown_memory (block_or block m) ≡ some m
shown_block true m = refl
shown_block false m = refl

module _ (cfg : LayoutConfig) (good : good_setting cfg ≡ true) where
  least_power : Pow2 cfg.min_aggregate_legacy_align
  least_power = power _ (first_true _ _ good)

  -- what the rule of a type must bring
  abbrev RulePowers : Rule → Type 0
  RulePowers (of_setting size align) = Pow2 align
  RulePowers (of_width width) = Unit {0}
  RulePowers (of_elements p) = (n : ℕ) → Pow2 n → Pow2 (p.legacy n)
  RulePowers (of_members block) = Unit {0}
  RulePowers of_handle = Unit {0}
  RulePowers (no_layout n) = Unit {0}

  rule_powers : (ty : SpvType) → RulePowers (rule_of cfg ty)
  unfolding rule_of vector_params fixed_params runtime_params
  rule_powers spv.Bool = power _ (first_true _ _ (second_true (is_power_of_two cfg.min_aggregate_legacy_align) _ good))
  rule_powers (spv.Int width) = tt
  rule_powers (spv.Float width) = tt
  rule_powers (spv.Vector elem len) = pow_vector len
  rule_powers (spv.Matrix column len) = λ n p. pow_max n _ p least_power
  rule_powers (spv.Array elem (Fixed len) stride) = λ n p. pow_max n _ p least_power
  rule_powers (spv.Array elem Specialization stride) = tt
  rule_powers (spv.RuntimeArray elem stride) = λ n p. pow_max n _ p least_power
  rule_powers (spv.Struct block) = tt
  rule_powers (spv.Pointer class pointee) = power _ (second_true (is_power_of_two cfg.abstract_bool_align) _ (second_true (is_power_of_two cfg.min_aggregate_legacy_align) _ good))
  rule_powers spv.Opaque = tt
  rule_powers spv.Unsupported = tt

  module _ (below : ℕ → Answer) (ih : (u : ℕ) (l : TypeLayout) (m : MemTypeLayout) → below u ≡ ok l → shown_memory l ≡ some m → PowersOf m) where
    all_powers : (ts : List ℕ) (ms : List MemTypeLayout) → Laid below ts ms → (a b : ℕ) → Pow2 a → Pow2 b → Pow2 (largest a align_of ms) × Pow2 (largest b legacy_of ms)
    all_powers [] [] l a b p q = (p, q)
    all_powers [] (m ∷ ms) l a b p q = absurd l
    all_powers (t ∷ ts) [] l a b p q = absurd l
    all_powers (t ∷ ts) (m ∷ ms) l a b p q =
        let h = ih t _ m l.0 refl in
        all_powers ts ms l.1 _ _ (pow_max a (align_of m) p h.align) (pow_max b (legacy_of m) q h.legacy)

    array_powers : (p : ArrayParams) → ((n : ℕ) → Pow2 n → Pow2 (p.legacy n)) → (l : TypeLayout) (m : MemTypeLayout) → shown_memory l ≡ some m → ArrayIs cfg below p l → PowersOf m
    array_powers p f (Handle h) m c i = absurd i
    array_powers p f (HandleArray Opaque n) m c i = absurd (no_some c)
    array_powers p f (HandleArray (Buffer b) n) m c i = ih p.elem _ m i.0 c
    array_powers p f (Concrete e) m c i =
        let h = ih p.elem _ i.elem i.laid refl in
        subst PowersOf (some_is c) record { align = rw i.align h.align; legacy = rw i.legacy (f _ h.legacy) }

    by_rule_lem : (d : Decl) (r : Rule) → RulePowers r → (l : TypeLayout) (m : MemTypeLayout) → shown_memory l ≡ some m → by_rule cfg below d r ≡ ok l → PowersOf m
    unfolding by_rule number_layout
    by_rule_lem d (of_setting size align) p l m c g = subst PowersOf (some_is (ap shown_memory (value_is g) ∙ c)) record { align = p; legacy = p }
    by_rule_lem d (of_width width) p l m c g =
        let q = number_power width (not_refused _ _ _ g) in
        subst PowersOf (some_is (ap shown_memory (value_is (passed _ _ g)) ∙ c)) record { align = q; legacy = q }
    by_rule_lem d (of_elements p) f l m c g = array_powers p f l m c (array_is cfg below p l g)
    by_rule_lem d (of_members block) p l m c g =
        let i = struct_is cfg below block d.members d.decorations l g in
        let q = all_powers d.members i.of.layouts i.of.laid 1 _ (0, refl) least_power in
        subst PowersOf (some_is (sym (shown_block block i.contents) ∙ ap shown_memory i.is ∙ c))
        record { align = rw i.of.align q.0; legacy = rw i.of.legacy q.1 }
    by_rule_lem d of_handle p l m c g = absurd (no_some (ap shown_memory (value_is g) ∙ c))
    by_rule_lem d (no_layout n) p l m c g = absurd (never g)

pub alignment_powers : AlignmentPowers
unfolding layout_of
alignment_powers s good = by_lower _ one
  where
    one : (t : ℕ) → ((u : ℕ) → u < t → (l : TypeLayout) (m : MemTypeLayout) → answer_in s u ≡ ok l → shown_memory l ≡ some m → PowersOf m)
        → (l : TypeLayout) (m : MemTypeLayout) → answer_in s t ≡ ok l → shown_memory l ≡ some m → PowersOf m
    one t ih l m h c =
        let i = laid_in s t l h in
        by_rule_lem s.setting good i.below (λ u k x b. ih u (i.lower u k b) k x (i.kept u k b)) i.decl _ (rule_powers s.setting good i.decl.type) l m c (sym i.made ∙ h)
