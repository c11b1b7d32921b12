-- One type's record, read with the offsets that were written, is its layout. Assumes nothing.
use Prim.Native.Nat.{ℕ, ◌+◌, ◌≤◌}
use mathlib.Core.Path.{◌≡◌, refl, sym, ap, subst, ◌∙◌}
use mathlib.Core.Bool.{Bool, true, false}
use mathlib.Core.List.{List}
use native.Mathlib.Omega.{arith}
use lib.ListN.{length}
use lib.Seq.{sets, length-sets}
use Rattle.arith.specs.Refusals.{Result, ok, refused, ◌>>=◌}
use Rattle.spirv.specs.Decl.{Decl, plain, is_struct}
use Rattle.spirv.specs.Reduced.{reduced, decl_row}
use Rattle.spirv.specs.Rows.{struct_row, plain_row}
use Rattle.spirv.specs.declared.DeclRow.{DeclRow}
use Rattle.std.specs.Prelude.{Some}
use Rattle.spirv.specs.declared.SpvType.{SpvType}
use Rattle.spirv.specs.declared.SpvType.TheVariants as spv
use Rattle.spirv.specs.declared.Length.TheVariants as length_of_lem
use Rattle.spirv.proofs.Rows.{part_stored}
use Rattle.shapes.specs.Shapes as def
use Rattle.shapes.specs.Spans.{Reading, span_of, spans_of, answer_by, answer_over, itself, held}
use Rattle.shapes.specs.declared.LayoutConfig.{LayoutConfig}
use Rattle.shapes.specs.declared.MaybeDynMemLayout.{MaybeDynMemLayout}
use Rattle.rules.specs.Rules.{with_parts}
use Rattle.arith.specs.InCode.{OrRefusal}
use Rattle.shapes.specs.declared.TypeLayout as code
use Rattle.std.specs.Prelude.{Ok}
use Rattle.layout.specs.Arrays.{number_layout}
use Rattle.layout.specs.Structs as structs
use Rattle.layout.specs.Layouts.{Rule, of_setting, of_width, of_elements, of_members, of_handle, no_layout, rule_of, by_rule, layout_of}
use Rattle.arith.specs.Pairs.{both}
use Rattle.structs.specs.Rows.{StructMemory, block_or, fields_at, struct_both, struct_of_row}
use Rattle.structs.specs.Statements.{Holds, layout_with}
use Rattle.structs.proofs.Declared.{declared_structs, one_offset_each}
use Rattle.records.specs.Records.{by_rule_of_row, layout_of_row}
use Rattle.laid.proofs.Natural.{Closed, closed_and, array_reads, struct_same}
use Rattle.laid.proofs.Bounds.{AnswerTo, raised, array_to, held_and, span_kept}

abbrev NoMembers : Rule → Type 0
NoMembers (of_setting size align) = Unit {0}
NoMembers (of_width width) = Unit {0}
NoMembers (of_elements p) = Unit {0}
NoMembers (of_members block) = ⊥
NoMembers of_handle = Unit {0}
NoMembers (no_layout n) = Unit {0}

-- what is wanted of a type's answer and the list of offsets afterwards
pub record Read (cfg : LayoutConfig) (b : ℕ → OrRefusal code.TypeLayout) (members os : List ℕ) (start : ℕ) (d : Decl) (o : OrRefusal code.TypeLayout × List ℕ) : Type 0 where
  pub says : answer_over o.1 members o.0 ≡ layout_of cfg (λ t. answer_over os members (b t)) d
  pub reaches : AnswerTo (start + length d.members) o.0
  pub kept : (s c : ℕ) → s + c ≤ start → span_of o.1 s c ≡ span_of os s c
  pub long : length o.1 ≡ length os

module _ (cfg : LayoutConfig) (b : ℕ → OrRefusal code.TypeLayout) where
  -- ---- a type that is no struct

  rule_says : (f : Reading) (d₁ d₂ : Decl) (q : Rule) → NoMembers q → answer_by f (held (by_rule cfg (λ t. answer_by itself (b t)) d₁ q)) ≡ by_rule cfg (λ t. answer_by f (b t)) d₂ q
  unfolding by_rule number_layout Closed
  rule_says f d₁ d₂ (of_setting size align) h = refl
  rule_says f d₁ d₂ (of_width width) h = closed_and _ _ (λ g. refl) f
  rule_says f d₁ d₂ (of_elements p) h = array_reads cfg b p f
  rule_says f d₁ d₂ (of_members block) h = absurd h
  rule_says f d₁ d₂ of_handle h = refl
  rule_says f d₁ d₂ (no_layout n) h = refl

  rule_reaches : (n : ℕ) → ((t : ℕ) → AnswerTo n (b t)) → (d : Decl) (q : Rule) → NoMembers q → AnswerTo n (held (by_rule cfg (λ t. answer_by itself (b t)) d q))
  unfolding by_rule number_layout
  rule_reaches n to d (of_setting size align) h = tt
  rule_reaches n to d (of_width width) h = held_and n _ _ tt
  rule_reaches n to d (of_elements p) h = array_to n cfg b p (to p.elem)
  rule_reaches n to d (of_members block) h = absurd h
  rule_reaches n to d of_handle h = tt
  rule_reaches n to d (no_layout k) h = tt

  alone : (members given os : List ℕ) (r : DeclRow) (q : Rule) → NoMembers q
      → by_rule_of_row cfg (λ t. answer_by itself (b t)) members given os r q ≡ both (held (by_rule cfg (λ t. answer_by itself (b t)) (plain r.ty) q)) os
  unfolding by_rule_of_row
  alone members given os r (of_setting size align) h = refl
  alone members given os r (of_width width) h = refl
  alone members given os r (of_elements p) h = refl
  alone members given os r (of_members block) h = absurd h
  alone members given os r of_handle h = refl
  alone members given os r (no_layout n) h = refl

  module _ (members given os : List ℕ) (start : ℕ) (to : (t : ℕ) → AnswerTo start (b t)) (d : Decl) where
    plain_read : NoMembers (rule_of cfg d.type) → Read cfg b members os start d (by_rule_of_row cfg (λ t. answer_by itself (b t)) members given os (plain_row d.type) (rule_of cfg d.type))
    unfolding layout_of
    plain_read h =
        rw (alone members given os (plain_row d.type) (rule_of cfg d.type) h) record {
          says = rule_says (spans_of os members) (plain d.type) d (rule_of cfg d.type) h;
          reaches = raised start (start + length d.members) (omega arith) (held (by_rule cfg (λ t. answer_by itself (b t)) (plain d.type) (rule_of cfg d.type))) (rule_reaches start to (plain d.type) (rule_of cfg d.type) h);
          kept = λ s c g. refl;
          long = refl;
        }

    -- ---- a struct

    module _ (block : Bool) (struct : d.type ≡ spv.Struct block) (there : Holds start d members given (length os)) where
      abbrev row : DeclRow
      row = struct_row d.type start (length d.members) (reduced d.decorations).refusal (length (reduced d.decorations).offsets)

      struct_row_lem : decl_row start d ≡ row
      unfolding decl_row
      struct_row_lem = rw struct

      -- what the definition says
      abbrev memory_in : (f : Reading) → Result StructMemory
      memory_in f = struct_of_row cfg (λ t. answer_by f (b t)) members given (length os) row

      struct_says : layout_of cfg (λ t. answer_over os members (b t)) d ≡ (memory_in itself >>= λ s. ok (layout_with block d.members s))
      unfolding layout_of rule_of by_rule
      struct_says =
          let below : ℕ → Result def.TypeLayout = λ t. answer_over os members (b t) in
          let finish : Result StructMemory → Result def.TypeLayout = λ q. q >>= λ s. ok (layout_with block d.members s) in
          ap (λ (t : SpvType). by_rule cfg below d (rule_of cfg t)) struct
          ∙ declared_structs cfg below block d start members given (length os) struct there
          ∙ ap (λ (r : DeclRow). finish (struct_of_row cfg below members given (length os) r)) struct_row_lem
          ∙ ap finish (struct_same cfg (spans_of os members) itself b members given (length os) row)

      -- the fields are read back as they were written
      block_reads : (f : Reading) (mem : MaybeDynMemLayout) (c : def.Components) → f start (length d.members) ≡ c
          → answer_by f (Ok (block_or block (fields_at row mem))) ≡ ok (structs.block_or block (with_parts mem c))
      block_reads f mem c h = by block
        where
          by : (k : Bool) → answer_by f (Ok (block_or k (fields_at row mem))) ≡ ok (structs.block_or k (with_parts mem c))
          by true = rw h
          by false = rw h

      block_reaches : (k : Bool) (mem : MaybeDynMemLayout) → AnswerTo (start + length d.members) (Ok (block_or k (fields_at row mem)))
      block_reaches true mem = omega arith
      block_reaches false mem = omega arith

      of_result : (r : Result StructMemory) → memory_in itself ≡ r → Read cfg b members os start d (struct_both block row os r)
      unfolding struct_both ◌>>=◌
      of_result (refused n) e = record { says = sym (struct_says ∙ rw e); reaches = tt; kept = λ s c g. refl; long = refl }
      of_result (ok s) e =
          let n = one_offset_each cfg (λ t. answer_by itself (b t)) members given (length os) row s e in
          let stored = part_stored os start (length d.members) s.offsets n there.in_room_lem in
          record {
            says = block_reads (spans_of (sets os start s.offsets) members) s.mem (def.Fields s.offsets d.members) (rw (stored, there.members_there)) ∙ sym (struct_says ∙ rw e);
            reaches = block_reaches block s.mem;
            kept = λ x c g. span_kept s.offsets os start x c g;
            long = length-sets os start s.offsets;
          }

      struct_read : Read cfg b members os start d (by_rule_of_row cfg (λ t. answer_by itself (b t)) members given os row (of_members block))
      unfolding by_rule_of_row
      struct_read = of_result (memory_in itself) refl

    -- ---- any type

    abbrev result : OrRefusal code.TypeLayout × List ℕ
    result = layout_of_row cfg (λ t. answer_by itself (b t)) members given os (Some (decl_row start d))

    not_struct : is_struct d.type ≡ false → NoMembers (rule_of cfg d.type) → Read cfg b members os start d result
    unfolding layout_of_row decl_row
    not_struct e h = rw e (plain_read h)

    is_struct_lem : (block : Bool) → d.type ≡ spv.Struct block → Holds start d members given (length os) → Read cfg b members os start d result
    unfolding layout_of_row rule_of
    is_struct_lem block e there =
        subst (λ (r : DeclRow). Read cfg b members os start d (layout_of_row cfg (λ t. answer_by itself (b t)) members given os (Some r))) (sym (struct_row_lem block e there))
        (subst (λ (t : SpvType). Read cfg b members os start d (by_rule_of_row cfg (λ t. answer_by itself (b t)) members given os (row block e there) (rule_of cfg t))) (sym e) (struct_read block e there))

    pub read_type : Holds start d members given (length os) → Read cfg b members os start d result
    unfolding rule_of
    read_type there = by d.type refl
      where
        plain_type : (t : SpvType) → d.type ≡ t → is_struct t ≡ false → NoMembers (rule_of cfg t) → Read cfg b members os start d result
        plain_type t e i h = not_struct (ap is_struct e ∙ i) (subst (λ (u : SpvType). NoMembers (rule_of cfg u)) (sym e) h)

        by : (t : SpvType) → d.type ≡ t → Read cfg b members os start d result
        by spv.Bool e = plain_type _ e refl tt
        by (spv.Int w) e = plain_type _ e refl tt
        by (spv.Float w) e = plain_type _ e refl tt
        by (spv.Vector x n) e = plain_type _ e refl tt
        by (spv.Matrix x n) e = plain_type _ e refl tt
        by (spv.Array x (length_of_lem.Fixed n) s) e = plain_type _ e refl tt
        by (spv.Array x length_of_lem.Specialization s) e = plain_type _ e refl tt
        by (spv.RuntimeArray x s) e = plain_type _ e refl tt
        by (spv.Struct block) e = is_struct_lem block e there
        by (spv.Pointer k p) e = plain_type _ e refl tt
        by spv.Opaque e = plain_type _ e refl tt
        by spv.Unsupported e = plain_type _ e refl tt
