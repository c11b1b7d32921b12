-- Where Vulkan decides, alignments are Vulkan's, for every width at once. Assumes nothing.
use Prim.Native.Nat.{ℕ, ◌/◌, ◌≤◌, ◌<◌, max}
use mathlib.Core.Path.{◌≡◌, refl, sym, ap, ◌∙◌, subst}
use mathlib.Core.Bool.{Bool, true, false, ◌&&◌}
use mathlib.Core.List.{List, [], ◌∷◌}
use mathlib.Core.Option.{Option, none, some}
use native.Mathlib.Omega.{arith}
use lib.Dec.{leb}
use Rattle.arith.specs.Refusals.{ok}
use Rattle.arith.specs.Numbers.{round_up}
use Rattle.arith.proofs.Results.{never, passed, not_refused, value_is, no_some, some_is, let_through}
use Rattle.arith.proofs.Powers.{Pow2, pow_one, pow_round, pow_max}
use Rattle.spirv.specs.declared.Length.TheVariants.{Fixed, Specialization}
use Rattle.spirv.specs.declared.Stride.TheVariants.{Undecorated}
use Rattle.spirv.specs.declared.SpvType.{SpvType}
use Rattle.spirv.specs.declared.SpvType.TheVariants as spv
use Rattle.spirv.specs.Decl.{Decl}
use Rattle.spirv.proofs.Filled.{filled_at, by_lower}
use Rattle.shapes.specs.declared.LayoutConfig.{LayoutConfig}
use Rattle.shapes.specs.Shapes.{Opaque, Buffer, MemTypeLayout, TypeLayout, Handle, HandleArray, Concrete, align_of, legacy_of, shown_memory}
use Rattle.sheet.specs.Sheet.{Sheet}
use Rattle.layout.specs.Arrays.{Answer, number_layout, ArrayParams, vector_legacy, aggregate_legacy, vector_params, fixed_params, runtime_params}
use Rattle.layout.specs.Structs.{block_or}
use Rattle.layout.specs.Layouts.{Rule, of_setting, of_width, of_elements, of_members, of_handle, no_layout, rule_of, by_rule, layout_of, answer_in}
use Rattle.layout.proofs.OfElements.{OfElements, ArrayIs, array_is}
use Rattle.layout.proofs.OfMembers.{Laid, largest, largest_least, OfMembers, struct_is}
use Rattle.layout.proofs.InSheet.{decl_there, laid_in}
use Rattle.layout.proofs.Powers.{pow_vector, number_power, shown_block}
use Rattle.promise.specs.Vulkan.{Vk, Vks, scalar_alignment, largest_scalar, base_alignment, largest_base, extended_alignment, largest_extended, Covered, vk_vector, vk_matrix, vk_array, joined, alone, vk_members, vk_struct, vk_type, vk_of, covered}
use Rattle.promise.specs.Vulkan.Vk.{number, vector, array, struct}
use Rattle.promise.specs.Vulkan.Vks.{one, more}
use Rattle.promise.specs.Aligned.{Alignments}

module _ (cfg : LayoutConfig) where
  abbrev least : ℕ
  least = cfg.min_aggregate_legacy_align

  -- what is shown of each type: its alignments, and that they are powers of two
  record Right (k : Vk) (m : MemTypeLayout) : Type 0 where
    align : align_of m ≡ scalar_alignment k
    align_power : Pow2 (align_of m)
    base : least ≡ 1 → legacy_of m ≡ base_alignment k
    extended : least ≡ 16 → legacy_of m ≡ extended_alignment k
    legacy_power : Pow2 least → Pow2 (legacy_of m)

  number_right : (width : ℕ) (l : TypeLayout) (m : MemTypeLayout) → number_layout width ≡ ok l → shown_memory l ≡ some m → Right (number (width / 8)) m
  unfolding number_layout scalar_alignment base_alignment extended_alignment
  number_right width l m g c =
      let p = number_power width (not_refused _ _ _ g) in
      subst (Right (number (width / 8))) (some_is (ap shown_memory (value_is (passed _ _ g)) ∙ c))
      record { align = refl; align_power = p; base = λ e. refl; extended = λ e. refl; legacy_power = λ e. p }

  -- ---- arrays

  module _ (below : ℕ → Answer) (p : ArrayParams) where
    vector_right : (len bytes : ℕ) → p.legacy ≡ vector_legacy len → (m : MemTypeLayout) (o : OfElements cfg below p m) → Right (number bytes) o.elem → Right (vector len bytes) m
    unfolding scalar_alignment base_alignment extended_alignment
    vector_right len bytes a m o r =
        let legacy : legacy_of m ≡ vector_legacy len (legacy_of o.elem) = o.legacy ∙ ap (λ (f : ℕ → ℕ). f (legacy_of o.elem)) a in
        record {
          align = o.align ∙ r.align;
          align_power = subst Pow2 (sym o.align) r.align_power;
          base = λ e. legacy ∙ ap (vector_legacy len) (r.base e);
          extended = λ e. legacy ∙ ap (vector_legacy len) (r.extended e);
          legacy_power = λ e. subst Pow2 (sym legacy) (pow_vector len (legacy_of o.elem) (r.legacy_power e));
        }

    -- with the aggregate minimum
    elements_right : (k : Vk) → p.legacy ≡ aggregate_legacy cfg → (m : MemTypeLayout) (o : OfElements cfg below p m) → Right k o.elem → Right (array k) m
    unfolding scalar_alignment base_alignment extended_alignment
    elements_right k a m o r =
        let legacy : legacy_of m ≡ max (legacy_of o.elem) least = o.legacy ∙ ap (λ (f : ℕ → ℕ). f (legacy_of o.elem)) a in
        record {
          align = o.align ∙ r.align;
          align_power = subst Pow2 (sym o.align) r.align_power;
          base = λ e. omega (arith, r.base e, pow_one (legacy_of o.elem) (r.legacy_power (0, e)));
          extended = λ e. legacy ∙ ap (max (legacy_of o.elem)) e ∙ sym (pow_round (legacy_of o.elem) (r.legacy_power (4, e))) ∙ ap (λ (n : ℕ). round_up n 16) (r.extended e);
          legacy_power = λ e. subst Pow2 (sym legacy) (pow_max (legacy_of o.elem) least (r.legacy_power e) e);
        }

  -- an array of buffers shows its buffer's, which has the aggregate minimum
  buffers_right : (k : Vk) (m : MemTypeLayout) → least ≤ legacy_of m → Right k m → Right (array k) m
  unfolding scalar_alignment base_alignment extended_alignment
  buffers_right k m h r = record {
    align = r.align;
    align_power = r.align_power;
    base = r.base;
    extended = λ e. omega (arith, pow_round (legacy_of m) (r.legacy_power (4, e)), ap (λ (n : ℕ). round_up n 16) (r.extended e));
    legacy_power = r.legacy_power;
  }

  -- ---- structs

  record AllRight (ks : Vks) (ms : List MemTypeLayout) : Type 0 where
    aligns : (a : ℕ) → largest a align_of ms ≡ max a (largest_scalar ks)
    align_power : Pow2 (largest_scalar ks)
    bases : least ≡ 1 → (a : ℕ) → largest a legacy_of ms ≡ max a (largest_base ks)
    base_power : least ≡ 1 → Pow2 (largest_base ks)
    extendeds : least ≡ 16 → (a : ℕ) → largest a legacy_of ms ≡ max a (largest_extended ks)
    extended_power : least ≡ 16 → Pow2 (largest_extended ks)
    legacy_power : Pow2 least → (a : ℕ) → Pow2 a → Pow2 (largest a legacy_of ms)

  one_right : (k : Vk) (m : MemTypeLayout) → Right k m → AllRight (one k) (m ∷ [])
  unfolding scalar_alignment base_alignment extended_alignment
  one_right k m r = record {
    aligns = λ a. ap (max a) r.align;
    align_power = subst Pow2 r.align r.align_power;
    bases = λ e a. ap (max a) (r.base e);
    base_power = λ e. subst Pow2 (r.base e) (r.legacy_power (0, e));
    extendeds = λ e a. ap (max a) (r.extended e);
    extended_power = λ e. subst Pow2 (r.extended e) (r.legacy_power (4, e));
    legacy_power = λ e a p. pow_max a (legacy_of m) p (r.legacy_power e);
  }

  more_right : (k : Vk) (m : MemTypeLayout) (ks : Vks) (ms : List MemTypeLayout) → Right k m → AllRight ks ms → AllRight (more k ks) (m ∷ ms)
  unfolding scalar_alignment base_alignment extended_alignment
  more_right k m ks ms r s = record {
    aligns = λ a. s.aligns (max a (align_of m)) ∙ omega (arith, r.align);
    align_power = pow_max (scalar_alignment k) (largest_scalar ks) (subst Pow2 r.align r.align_power) s.align_power;
    bases = λ e a. s.bases e (max a (legacy_of m)) ∙ omega (arith, r.base e);
    base_power = λ e. pow_max (base_alignment k) (largest_base ks) (subst Pow2 (r.base e) (r.legacy_power (0, e))) (s.base_power e);
    extendeds = λ e a. s.extendeds e (max a (legacy_of m)) ∙ omega (arith, r.extended e);
    extended_power = λ e. pow_max (extended_alignment k) (largest_extended ks) (subst Pow2 (r.extended e) (r.legacy_power (4, e))) (s.extended_power e);
    legacy_power = λ e a p. s.legacy_power e (max a (legacy_of m)) (pow_max a (legacy_of m) p (r.legacy_power e));
  }

  struct_right : (below : ℕ → Answer) (ts : List ℕ) (m : MemTypeLayout) (ks : Vks) (o : OfMembers cfg below ts m) → AllRight ks o.layouts → Right (struct ks) m
  unfolding scalar_alignment base_alignment extended_alignment
  struct_right below ts m ks o r = record {
    align = o.align ∙ r.aligns 1 ∙ omega (arith, pow_one (largest_scalar ks) r.align_power);
    align_power = subst Pow2 (sym (o.align ∙ r.aligns 1)) (pow_max 1 (largest_scalar ks) (0, refl) r.align_power);
    base = λ e. o.legacy ∙ ap (λ (a : ℕ). largest a legacy_of o.layouts) e ∙ r.bases e 1 ∙ omega (arith, pow_one (largest_base ks) (r.base_power e));
    extended = λ e. o.legacy ∙ ap (λ (a : ℕ). largest a legacy_of o.layouts) e ∙ r.extendeds e 16 ∙ omega (arith, pow_round (largest_extended ks) (r.extended_power e));
    legacy_power = λ e. subst Pow2 (sym o.legacy) (r.legacy_power e least e);
  }

-- a buffer has the aggregate minimum
buffer_least : (s : Sheet) (t : ℕ) (m : MemTypeLayout) → answer_in s t ≡ ok (Handle (Buffer m)) → s.setting.min_aggregate_legacy_align ≤ legacy_of m
unfolding layout_of by_rule number_layout
buffer_least s t m h = let i = laid_in s t (Handle (Buffer m)) h in by i.below i.decl (rule_of s.setting i.decl.type) (sym i.made ∙ h)
  where
    of_block : (below : ℕ → Answer) (ts : List ℕ) (block : Bool) (k : MemTypeLayout) → OfMembers s.setting below ts k → block_or block k ≡ Handle (Buffer m) → s.setting.min_aggregate_legacy_align ≤ legacy_of m
    of_block below ts true k o e =
        let same : k ≡ m = cc in
        omega (arith, largest_least s.setting.min_aggregate_legacy_align legacy_of o.layouts, o.legacy, ap legacy_of same)
    of_block below ts false k o e = absurd (let z : ◌≡◌ {A = ℕ} 0 1 = cc in omega arith)

    by : (below : ℕ → Answer) (d : Decl) (r : Rule) → by_rule s.setting below d r ≡ ok (Handle (Buffer m)) → s.setting.min_aggregate_legacy_align ≤ legacy_of m
    by below d (of_setting size align) g = let e = value_is g in absurd (let z : ◌≡◌ {A = ℕ} 0 1 = cc in omega arith)
    by below d (of_width width) g = let e = value_is (passed _ _ g) in absurd (let z : ◌≡◌ {A = ℕ} 0 1 = cc in omega arith)
    by below d (of_elements p) g = absurd (array_is s.setting below p (Handle (Buffer m)) g)
    by below d (of_members block) g =
        let i = struct_is s.setting below block d.members d.decorations (Handle (Buffer m)) g in of_block below d.members block i.contents i.of i.is
    by below d of_handle g = let e = value_is g in absurd (let z : ◌≡◌ {A = ℕ} 0 1 = cc in omega arith)
    by below d (no_layout n) g = absurd (never g)

-- ---- a type, by lower ones

-- of what Vulkan decides only a struct is a handle
abbrev HandleIsStruct : TypeLayout → Vk → Type 0
HandleIsStruct (Handle h) k = (ts : Vks) × (k ≡ struct ts)
HandleIsStruct (HandleArray h n) k = Unit {0}
HandleIsStruct (Concrete m) k = Unit {0}

no_struct : (bytes : ℕ) (ts : Vks) → number bytes ≡ struct ts → ⊥
no_struct bytes ts e = let z : ◌≡◌ {A = ℕ} 0 1 = cc in omega arith

module _
    (s : Sheet) (below : ℕ → Answer) (cov : ℕ → Covered) (kept : (u : ℕ) (l : TypeLayout) → below u ≡ ok l → answer_in s u ≡ ok l)
    (ih : (u : ℕ) (k : Vk) (l : TypeLayout) (m : MemTypeLayout) → cov u ≡ some k → below u ≡ ok l → shown_memory l ≡ some m → Right s.setting k m × HandleIsStruct l k) where
  abbrev cfg : LayoutConfig
  cfg = s.setting

  -- members

  alone_right : (t : ℕ) (m : MemTypeLayout) (ks : Vks) (c : Covered) → cov t ≡ c → below t ≡ ok (Concrete m) → alone c ≡ some ks → AllRight cfg ks (m ∷ [])
  alone_right t m ks none q b e = absurd (no_some e)
  alone_right t m ks (some k) q b e = subst (λ (x : Vks). AllRight cfg x (m ∷ [])) (some_is e) (one_right cfg k m (ih t k _ m q b refl).0)

  joined_right : (t : ℕ) (m : MemTypeLayout) (ms : List MemTypeLayout) (ks : Vks) (c : Covered) (d : Option Vks) → cov t ≡ c → below t ≡ ok (Concrete m)
      → ((js : Vks) → d ≡ some js → AllRight cfg js ms) → joined c d ≡ some ks → AllRight cfg ks (m ∷ ms)
  joined_right t m ms ks none d q b f e = absurd (no_some e)
  joined_right t m ms ks (some k) none q b f e = absurd (no_some e)
  joined_right t m ms ks (some k) (some js) q b f e =
      subst (λ (x : Vks). AllRight cfg x (m ∷ ms)) (some_is e) (more_right cfg k m js ms (ih t k _ m q b refl).0 (f js refl))

  members_right : (ts : List ℕ) (ms : List MemTypeLayout) (ks : Vks) → Laid below ts ms → vk_members cov ts ≡ some ks → AllRight cfg ks ms
  members_right [] ms ks l e = absurd (no_some e)
  members_right (t ∷ ts) [] ks l e = absurd l
  members_right (t ∷ []) (m ∷ []) ks l e = alone_right t m ks (cov t) refl l.0 e
  members_right (t ∷ []) (m ∷ n ∷ ns) ks l e = absurd l.1
  members_right (t ∷ u ∷ us) (m ∷ ms) ks l e =
      joined_right t m ms ks (cov t) (vk_members cov (u ∷ us)) refl l.0 (λ js f. members_right (u ∷ us) ms js l.1 f) e

  -- each rule

  of_vector_lem : (p : ArrayParams) (len : ℕ) → p.legacy ≡ vector_legacy len → (c : Covered) → cov p.elem ≡ c → (k : Vk) (l : TypeLayout) (m : MemTypeLayout)
      → vk_vector len c ≡ some k → ArrayIs cfg below p l → shown_memory l ≡ some m → Right cfg k m × HandleIsStruct l k
  of_vector_lem p len a none q k l m e i c = absurd (no_some e)
  of_vector_lem p len a (some (vector n b)) q k l m e i c = absurd (no_some e)
  of_vector_lem p len a (some (array t)) q k l m e i c = absurd (no_some e)
  of_vector_lem p len a (some (struct ts)) q k l m e i c = absurd (no_some e)
  of_vector_lem p len a (some (number bytes)) q k (Handle h) m e i c = absurd i
  of_vector_lem p len a (some (number bytes)) q k (HandleArray Opaque n) m e i c = absurd (no_some c)
  of_vector_lem p len a (some (number bytes)) q k (HandleArray (Buffer b) n) m e i c = let h = (ih p.elem _ _ b q i.0 refl).1 in absurd (no_struct bytes h.0 h.1)
  of_vector_lem p len a (some (number bytes)) q k (Concrete x) m e i c =
      let r = vector_right cfg below p len bytes a x i (ih p.elem _ _ i.elem q i.laid refl).0 in
      (subst (Right cfg k) (some_is c) (subst (λ (y : Vk). Right cfg y x) (let_through (leb 2 len && leb len 4) _ _ e).value r), tt)

  of_elements_lem : (p : ArrayParams) → p.legacy ≡ aggregate_legacy cfg → (k : Vk) → cov p.elem ≡ some k → (l : TypeLayout) (m : MemTypeLayout)
      → ArrayIs cfg below p l → shown_memory l ≡ some m → Right cfg (array k) m × HandleIsStruct l (array k)
  of_elements_lem p a k q (Handle h) m i c = absurd i
  of_elements_lem p a k q (HandleArray Opaque n) m i c = absurd (no_some c)
  of_elements_lem p a k q (HandleArray (Buffer b) n) m i c =
      (subst (Right cfg (array k)) (some_is c) (buffers_right cfg k b (buffer_least s p.elem b (kept _ _ i.0)) (ih p.elem k _ b q i.0 refl).0), tt)
  of_elements_lem p a k q (Concrete x) m i c = (subst (Right cfg (array k)) (some_is c) (elements_right cfg below p k a x i (ih p.elem k _ i.elem q i.laid refl).0), tt)

  of_array : (p : ArrayParams) → p.legacy ≡ aggregate_legacy cfg → (c : Covered) → cov p.elem ≡ c → (k : Vk) (l : TypeLayout) (m : MemTypeLayout)
      → vk_array c ≡ some k → ArrayIs cfg below p l → shown_memory l ≡ some m → Right cfg k m × HandleIsStruct l k
  of_array p a none q k l m e i c = absurd (no_some e)
  of_array p a (some t) q k l m e i c = subst (λ (x : Vk). Right cfg x m × HandleIsStruct l x) (some_is e) (of_elements_lem p a t q l m i c)

  of_matrix : (p : ArrayParams) → p.legacy ≡ aggregate_legacy cfg → (c : Covered) → cov p.elem ≡ c → (k : Vk) (l : TypeLayout) (m : MemTypeLayout)
      → vk_matrix c ≡ some k → ArrayIs cfg below p l → shown_memory l ≡ some m → Right cfg k m × HandleIsStruct l k
  of_matrix p a none q k l m e i c = absurd (no_some e)
  of_matrix p a (some (number b)) q k l m e i c = absurd (no_some e)
  of_matrix p a (some (array t)) q k l m e i c = absurd (no_some e)
  of_matrix p a (some (struct ts)) q k l m e i c = absurd (no_some e)
  of_matrix p a (some (vector n b)) q k l m e i c = subst (λ (x : Vk). Right cfg x m × HandleIsStruct l x) (some_is e) (of_elements_lem p a (vector n b) q l m i c)

  of_struct : (block : Bool) (ts : List ℕ) (x : MemTypeLayout) → OfMembers cfg below ts x → (c : Option Vks) → vk_members cov ts ≡ c → (k : Vk) (m : MemTypeLayout)
      → vk_struct c ≡ some k → shown_memory (block_or block x) ≡ some m → Right cfg k m × HandleIsStruct (block_or block x) k
  of_struct block ts x o none q k m e c = absurd (no_some e)
  of_struct block ts x o (some ks) q k m e c =
      let r = struct_right cfg below ts x ks o (members_right ts o.layouts ks o.laid q) in
      subst (λ (y : Vk). Right cfg y m × HandleIsStruct (block_or block x) y) (some_is e) (subst (Right cfg (struct ks)) (some_is (sym (shown_block block x) ∙ c)) r, is_struct_lem block)
    where
      is_struct_lem : (b : Bool) → HandleIsStruct (block_or b x) (struct ks)
      is_struct_lem true = (ks, refl)
      is_struct_lem false = tt

  scalar_handle : (x : MemTypeLayout) (l : TypeLayout) (k : Vk) → Concrete x ≡ l → HandleIsStruct l k
  scalar_handle x l k e = subst (λ (y : TypeLayout). HandleIsStruct y k) e tt

  of_number : (width : ℕ) (k : Vk) (l : TypeLayout) (m : MemTypeLayout) → ◌≡◌ {A = Covered} (some (number (width / 8))) (some k) → number_layout width ≡ ok l → shown_memory l ≡ some m
      → Right cfg k m × HandleIsStruct l k
  unfolding number_layout
  of_number width k l m e g c = (subst (λ (x : Vk). Right cfg x m) (some_is e) (number_right cfg width l m g c), scalar_handle _ l k (value_is (passed _ _ g)))

  of_type : (d : Decl) (ty : SpvType) (k : Vk) (l : TypeLayout) (m : MemTypeLayout) → vk_type cov d.members ty ≡ some k → by_rule cfg below d (rule_of cfg ty) ≡ ok l → shown_memory l ≡ some m
      → Right cfg k m × HandleIsStruct l k
  unfolding rule_of by_rule vector_params fixed_params runtime_params
  of_type d spv.Bool k l m e g c = absurd (no_some e)
  of_type d (spv.Int width) k l m e g c = of_number width k l m e g c
  of_type d (spv.Float width) k l m e g c = of_number width k l m e g c
  of_type d (spv.Vector elem len) k l m e g c = of_vector_lem (vector_params elem len) len refl (cov elem) refl k l m e (array_is cfg below _ l g) c
  of_type d (spv.Matrix column len) k l m e g c = of_matrix (fixed_params cfg column len Undecorated) refl (cov column) refl k l m e (array_is cfg below _ l g) c
  of_type d (spv.Array elem (Fixed len) stride) k l m e g c = of_array (fixed_params cfg elem len stride) refl (cov elem) refl k l m e (array_is cfg below _ l g) c
  of_type d (spv.Array elem Specialization stride) k l m e g c = absurd (never g)
  of_type d (spv.RuntimeArray elem stride) k l m e g c = of_array (runtime_params cfg elem stride) refl (cov elem) refl k l m e (array_is cfg below _ l g) c
  of_type d (spv.Struct block) k l m e g c =
      let i = struct_is cfg below block d.members d.decorations l g in
      subst (λ (x : TypeLayout). Right cfg k m × HandleIsStruct x k) i.is
      (of_struct block d.members i.contents i.of (vk_members cov d.members) refl k m e (ap shown_memory i.is ∙ c))
  of_type d (spv.Pointer class pointee) k l m e g c = absurd (no_some e)
  of_type d spv.Opaque k l m e g c = absurd (no_some e)
  of_type d spv.Unsupported k l m e g c = absurd (no_some e)

-- ---- all types

all_right : (s : Sheet) (t : ℕ) (k : Vk) (l : TypeLayout) (m : MemTypeLayout) → covered s.types t ≡ some k → answer_in s t ≡ ok l → shown_memory l ≡ some m
    → Right s.setting k m × HandleIsStruct l k
unfolding covered vk_of layout_of
all_right s = by_lower _ step
  where
    step : (t : ℕ)
        → ((u : ℕ) → u < t → (k : Vk) (l : TypeLayout) (m : MemTypeLayout) → covered s.types u ≡ some k → answer_in s u ≡ ok l → shown_memory l ≡ some m → Right s.setting k m × HandleIsStruct l k)
        → (k : Vk) (l : TypeLayout) (m : MemTypeLayout) → covered s.types t ≡ some k → answer_in s t ≡ ok l → shown_memory l ≡ some m → Right s.setting k m × HandleIsStruct l k
    step t ih k l m q h c =
        let i = laid_in s t l h in
        let j = filled_at none vk_of s.types t i.decl (decl_there s t i.decl i.is_declared) in
        of_type s i.below j.below i.kept (λ u x y z e b f. ih u (i.lower u y b) x y z (sym (j.same u (i.lower u y b)) ∙ e) (i.kept u y b) f)
        i.decl i.decl.type k l m (sym j.made ∙ q) (sym i.made ∙ h) c

pub alignments : Alignments
alignments s t k l m q h c = let r = (all_right s t k l m q h c).0 in record { align = r.align; base = r.base; extended = r.extended }
