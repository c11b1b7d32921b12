-- Document 01, "Sources": align is Vulkan's scalar alignment; legacy its base alignment where the aggregate minimum is 1, its extended alignment where that is 16.
use Rattle.std.specs.Prelude.{ℕ, ◌≡◌}
use Rattle.std.proofs.Math.Option.{some}
use Rattle.arith.specs.Refusals.{ok}
use Rattle.shapes.specs.declared.LayoutConfig.{LayoutConfig}
use Rattle.shapes.specs.Shapes.{MemTypeLayout, TypeLayout, align_of, legacy_of, shown_memory}
use Rattle.sheet.specs.Sheet.{Sheet}
use Rattle.layout.specs.Layouts.{answer_in}
use Rattle.promise.specs.Vulkan.{Vk, scalar_alignment, base_alignment, extended_alignment, covered}

pub record Aligned (cfg : LayoutConfig) (k : Vk) (m : MemTypeLayout) : Type 0 where
  pub align : align_of m ≡ scalar_alignment k
  pub base : cfg.min_aggregate_legacy_align ≡ 1 → legacy_of m ≡ base_alignment k
  pub extended : cfg.min_aggregate_legacy_align ≡ 16 → legacy_of m ≡ extended_alignment k

-- for every type for which Vulkan decides, of what T shows
abbrev pub Alignments : Type 0
Alignments =
    (s : Sheet) (t : ℕ) (k : Vk) (l : TypeLayout) (m : MemTypeLayout) → covered s.types t ≡ some k → answer_in s t ≡ ok l → shown_memory l ≡ some m
    → Aligned s.setting k m
