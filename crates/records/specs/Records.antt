-- Document 01, "From heap trees to tables": one record a type, filled from type 0 upward, over the tables.
use Rattle.std.specs.Prelude.{ℕ, zero, suc, ◌*◌, cond, List, [], ◌∷◌, ◌++◌, ltb, length, get_or, drop, Option, Some, None, Ok, Err}
use Rattle.std.proofs.lemmas.List.Edits.{sets}
use Rattle.arith.specs.Refusals.{misread, short_list}
use Rattle.arith.specs.InCode.{OrRefusal, err}
use Rattle.spirv.specs.Decl.{plain}
use Rattle.spirv.specs.Rows.{row_at}
use Rattle.spirv.specs.declared.DeclRow.{DeclRow}
use Rattle.shapes.specs.declared.LayoutConfig.{LayoutConfig}
use Rattle.shapes.specs.declared.TypeLayout.{TypeLayout}
use Rattle.shapes.specs.Spans.{answer_by, itself, held}
use Rattle.shapes.specs.Words.{encode}
use Rattle.shapes.specs.Rows.{flat}
use Rattle.layout.specs.Arrays as arrays
use Rattle.layout.specs.Layouts.{Rule, of_setting, of_width, of_elements, of_members, of_handle, no_layout, rule_of, by_rule}
use Rattle.rules.specs.Rules.{params_of}
use Rattle.arith.specs.Pairs.{both}
use Rattle.structs.specs.Rows.{below_in, struct_of_row, struct_both}
use Rattle.records.specs.declared.Rule.TheVariants as rule
use Rattle.records.specs.declared.Rule as code

abbrev pub rule_by : LayoutConfig → code.Rule → Rule
rule_by cfg (rule.OfSetting size align) = of_setting size align
rule_by cfg (rule.OfWidth width) = of_width width
rule_by cfg (rule.OfElements p) = of_elements (params_of cfg p)
rule_by cfg (rule.OfMembers block) = of_members block
rule_by cfg rule.OfHandle = of_handle

abbrev pub rule_in : LayoutConfig → OrRefusal code.Rule → Rule
rule_in cfg (Ok q) = rule_by cfg q
rule_in cfg (Err e) = no_layout e.number

-- ---- one type: its answer, and the list of offsets afterwards

-- a type that is no struct is laid out by its rule alone
abbrev pub alone : LayoutConfig → (below : ℕ → arrays.Answer) → List ℕ → DeclRow → Rule → OrRefusal TypeLayout × List ℕ
alone cfg below offsets r q = both (held (by_rule cfg below (plain r.ty) q)) offsets

unfoldable pub by_rule_of_row : LayoutConfig → (below : ℕ → arrays.Answer) → (members given offsets : List ℕ) → DeclRow → Rule → OrRefusal TypeLayout × List ℕ
by_rule_of_row cfg below members given offsets r (of_setting size align) = alone cfg below offsets r (of_setting size align)
by_rule_of_row cfg below members given offsets r (of_width width) = alone cfg below offsets r (of_width width)
by_rule_of_row cfg below members given offsets r (of_elements p) = alone cfg below offsets r (of_elements p)
by_rule_of_row cfg below members given offsets r (of_members block) = struct_both block r offsets (struct_of_row cfg below members given (length offsets) r)
by_rule_of_row cfg below members given offsets r of_handle = alone cfg below offsets r of_handle
by_rule_of_row cfg below members given offsets r (no_layout n) = alone cfg below offsets r (no_layout n)

-- a row that no sheet makes is refused with 1
unfoldable pub layout_of_row : LayoutConfig → (below : ℕ → arrays.Answer) → (members given offsets : List ℕ) → Option DeclRow → OrRefusal TypeLayout × List ℕ
layout_of_row cfg below members given offsets (Some r) = by_rule_of_row cfg below members given offsets r (rule_of cfg r.ty)
layout_of_row cfg below members given offsets None = both (err misread) offsets

-- ---- all types

-- what the answers of lower types say
abbrev pub below_of : List (OrRefusal TypeLayout) → ℕ → arrays.Answer
below_of rs t = answer_by itself (get_or rs t (err misread))

-- with one type more
unfoldable pub with_next : LayoutConfig → (members given : List ℕ) → List (OrRefusal TypeLayout) → (offsets : List ℕ) → Option DeclRow → List (OrRefusal TypeLayout) × List ℕ
with_next cfg members given rs offsets row =
    let o = layout_of_row cfg (below_of rs) members given offsets row in both (rs ++ (o.0 ∷ [])) o.1

-- the answers of the first n types, and the list of offsets afterwards
unfoldable pub records : LayoutConfig → (types members given offsets : List ℕ) → (n : ℕ) → List (OrRefusal TypeLayout) × List ℕ
records cfg types members given offsets zero = both [] offsets
records cfg types members given offsets (suc k) =
    let s = records cfg types members given offsets k in with_next cfg members given s.0 s.1 (row_at types k)

-- ---- the lists afterwards

-- the lists of offsets and of layouts with the row of type i
unfoldable pub record_at : LayoutConfig → (i : ℕ) → (types members given offsets layouts : List ℕ) → List ℕ × List ℕ
record_at cfg i types members given offsets layouts =
    let o = layout_of_row cfg (below_in layouts i) members given offsets (row_at types i) in both o.1 (sets layouts (10 * i) (encode o.0))

-- a row a type, the list's other words as they were, and the offsets; where the list is too short, nothing is written
unfoldable pub filling : LayoutConfig → (types members given offsets layouts : List ℕ) → (n : ℕ) → OrRefusal (Unit {0}) × (List ℕ × List ℕ)
filling cfg types members given offsets layouts n =
    let s = records cfg types members given offsets n in
    cond (ltb (length layouts) (10 * n))
    (both (err short_list) (both offsets layouts))
    (both (Ok tt) (both s.1 (flat s.0 ++ drop (10 * n) layouts)))
