-- What the layout of a vector, matrix or array says of its element's. Assumes nothing.
use Prim.Native.Nat.{ℕ, ◌*◌, ◌≤◌}
use mathlib.Core.Path.{◌≡◌, refl, subst}
use mathlib.Core.Bool.{false}
use native.Mathlib.Omega.{arith}
use lib.Dec.{eqb}
use borrow.Author.Tests.{eqb-true, eqb-false, not-false}
use Rattle.arith.specs.Refusals.{ok}
use Rattle.arith.specs.Numbers.{max_u32}
use Rattle.arith.proofs.Results.{never, value_is, went, passed, not_met, fit_is}
use Rattle.shapes.specs.declared.LayoutConfig.{LayoutConfig}
use Rattle.shapes.specs.Shapes.{Elements, MemTypeLayout, TypeLayout, Handle, HandleArray, Concrete, size_of, align_of, legacy_of, dyn_of, runtime_sized}
use Rattle.layout.specs.Arrays.{Answer, ArrayParams, length_or_zero, has_zero_length, stride_without, stride_of, by_element, array_layout}

-- no runtime-sized part
pub fixed_size : (m : MemTypeLayout) → runtime_sized m ≡ false → dyn_of m ≡ 0
fixed_size m h = eqb-true (dyn_of m) 0 (not-false (eqb (dyn_of m) 0) h)

module _ (cfg : LayoutConfig) (below : ℕ → Answer) (p : ArrayParams) where
  -- memory, by its element's
  pub record OfElements (m : MemTypeLayout) : Type 0 where
    pub some_length : has_zero_length p.fixed_len ≡ false
    pub elem : MemTypeLayout
    pub laid : below p.elem ≡ ok (Concrete elem)
    pub elem_fixed : dyn_of elem ≡ 0
    pub stride : ℕ
    pub strided : stride_of cfg p.stride elem ≡ ok stride
    pub some_stride : 1 ≤ stride
    pub parts : m.components ≡ Elements stride p.elem (length_or_zero p.fixed_len)
    pub size : size_of m ≡ stride * length_or_zero p.fixed_len
    pub size_fits : size_of m ≤ max_u32
    pub align : align_of m ≡ align_of elem
    pub legacy : legacy_of m ≡ p.legacy (legacy_of elem)
    pub legacy_fits : legacy_of m ≤ max_u32
    pub dyn : dyn_of m ≡ stride_without p.fixed_len stride

  -- a handle array, by its element's handle; or memory
  abbrev pub ArrayIs : TypeLayout → Type 0
  ArrayIs (Handle h) = ⊥
  ArrayIs (HandleArray h n) = (below p.elem ≡ ok (Handle h)) × (n ≡ length_or_zero p.fixed_len)
  ArrayIs (Concrete m) = OfElements m

  by_element_is : has_zero_length p.fixed_len ≡ false → (e l : TypeLayout) → below p.elem ≡ ok e → by_element cfg p e ≡ ok l → ArrayIs l
  unfolding by_element
  by_element_is z (Handle h) l b g = subst ArrayIs (value_is g) (b, refl)
  by_element_is z (HandleArray h n) l b g = absurd (never g)
  by_element_is z (Concrete e) l b g =
      let stride = went _ _ (passed _ _ g) in
      let legacy = went _ _ (passed _ _ stride.rest) in
      let size = went _ _ legacy.rest in
      let fits-legacy = fit_is _ _ legacy.here in
      let fits-size = fit_is _ _ size.here in
      let not_zero = eqb-false stride.value 0 (not_met _ _ _ stride.rest) in
      subst ArrayIs (value_is size.rest) record {
        some_length = z;
        elem = e;
        laid = b;
        elem_fixed = fixed_size e (not_met _ _ _ g);
        stride = stride.value;
        strided = stride.here;
        some_stride = omega arith;
        parts = refl;
        size = fits-size.same;
        size_fits = fits-size.fits;
        align = refl;
        legacy = fits-legacy.same;
        legacy_fits = fits-legacy.fits;
        dyn = refl;
      }

  pub array_is : (l : TypeLayout) → array_layout cfg below p ≡ ok l → ArrayIs l
  unfolding array_layout
  array_is l g = let e = went _ _ (passed _ _ g) in by_element_is (not_met _ _ _ g) e.value l e.here e.rest
