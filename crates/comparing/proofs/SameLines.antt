-- When the lines of two layouts are the same: no two numbers print alike, and no two forms agree. Assumes nothing.
use Prim.Native.Nat.{ℕ, suc}
use native.Mathlib.Omega.{arith}
use mathlib.Core.Path.{◌≡◌, refl, sym, ap, ◌∙◌}
use mathlib.Core.Bool.{Bool, true, false, cond, ◌&&◌}
use mathlib.Core.List.{List, [], ◌∷◌, map}
use lib.Dec.{eqb}
use lib.Pointwise.{pointwise}
use borrow.Author.Tests.{eqb-true, eq-eqb}
use Rattle.std.specs.Cmp.{both_ways}
use Rattle.decimal.specs.Text.{same}
use Rattle.decimal.specs.Decimal.{spelled, decimal}
use Rattle.decimal.proofs.ReadsBack.{spells}
use Rattle.spirv.specs.Rows.{same_words}
use Rattle.spirv.proofs.Words.{same_is, same_self}
use Rattle.shapes.specs.declared.MaybeDynMemLayout.{MaybeDynMemLayout}
use Rattle.shapes.specs.Shapes as def
use Rattle.answers.specs.Lines.{parts_fields, memory_fields, opaque_fields, layout_line, same_line}
use Rattle.printing.specs.Layouts.{line_in}
use Rattle.shapes.specs.declared.MemTypeLayout.{MemTypeLayout}
use Rattle.shapes.specs.declared.Handle.{Handle}
use Rattle.shapes.specs.declared.TypeLayout.{TypeLayout}
use Rattle.shapes.specs.declared.Handle.TheVariants as handle
use Rattle.shapes.specs.declared.TypeLayout.TheVariants as layout
use Rattle.comparing.specs.Contents.{same_contents}

-- ---- numbers

cond_and : (a b : Bool) → cond a b false ≡ a && b
cond_and true b = refl
cond_and false b = refl

words_same : (a b : List ℕ) → same_words a b ≡ same a b
unfolding same_words
words_same [] [] = refl
words_same [] (y ∷ b) = refl
words_same (x ∷ a) [] = refl
words_same (x ∷ a) (y ∷ b) = ap (λ (t : Bool). eqb x y && t) (words_same a b)

pub same_number : (m n : ℕ) → eqb m n ≡ same (decimal m) (decimal n)
unfolding decimal
same_number m n =
    both_ways (eqb m n) (same (decimal m) (decimal n))
    (λ e. rw (eqb-true m n e) (sym (words_same (decimal n) (decimal n)) ∙ same_self (decimal n)))
    (λ e. eq-eqb m n (sym (spells (suc m) m [] (omega arith)) ∙ ap (spelled 0) (same_is (decimal m) (decimal n) (words_same (decimal m) (decimal n) ∙ e)) ∙ spells (suc n) n [] (omega arith)))

-- as `==` compares two slices
pub same_numbers : (a b : List ℕ) → pointwise eqb a b ≡ same_line (map decimal a) (map decimal b)
same_numbers [] [] = refl
same_numbers [] (y ∷ b) = refl
same_numbers (x ∷ a) [] = refl
same_numbers (x ∷ a) (y ∷ b) = rw (← same_number x y, ← same_numbers a b) (sym (cond_and (eqb x y) (pointwise eqb a b)))

-- the order of four tests is nothing to the answer
regroup : (s a l d t : Bool) → ((a && (l && s)) && d) && t ≡ cond s (cond a (cond l (cond d t false) false) false) false
regroup s a l d t = grind arith

-- as `==` compares sizes and alignments
abbrev pub same_sizes : MaybeDynMemLayout → MaybeDynMemLayout → Bool
same_sizes x y = (eqb x.fixed_base.align y.fixed_base.align && (eqb x.fixed_base.legacy_align y.fixed_base.legacy_align && eqb x.fixed_base.size y.fixed_base.size)) && eqb x.dyn_unit_stride y.dyn_unit_stride

memory_as_tests : (m n : def.MemTypeLayout) → same_sizes m.mem n.mem && same_line (parts_fields m.components) (parts_fields n.components) ≡ same_line (memory_fields m) (memory_fields n)
memory_as_tests m n =
    let x = m.mem.fixed_base in
    let y = n.mem.fixed_base in
    rw (← same_number x.size y.size, ← same_number x.align y.align, ← same_number x.legacy_align y.legacy_align, ← same_number m.mem.dyn_unit_stride n.mem.dyn_unit_stride)
    (regroup (eqb x.size y.size) (eqb x.align y.align) (eqb x.legacy_align y.legacy_align) (eqb m.mem.dyn_unit_stride n.mem.dyn_unit_stride) (same_line (parts_fields m.components) (parts_fields n.components)))

module _ (m n : def.MemTypeLayout) where
  pub sizes_differ : false ≡ same_sizes m.mem n.mem → false ≡ same_line (memory_fields m) (memory_fields n)
  sizes_differ e = ap (λ (t : Bool). t && same_line (parts_fields m.components) (parts_fields n.components)) e ∙ memory_as_tests m n

  pub then_parts : (a b : List ℕ) → true ≡ same_sizes m.mem n.mem → map decimal a ≡ parts_fields m.components → map decimal b ≡ parts_fields n.components
      → pointwise eqb a b ≡ same_line (memory_fields m) (memory_fields n)
  then_parts a b e p q =
      same_numbers a b ∙ rw (p, q) (ap (λ (t : Bool). t && same_line (parts_fields m.components) (parts_fields n.components)) e ∙ memory_as_tests m n)

-- ---- forms

pub memories : (m n : def.MemTypeLayout) → same_line (layout_line (def.Concrete m)) (layout_line (def.Concrete n)) ≡ same_line (memory_fields m) (memory_fields n)
unfolding layout_line decimal
memories m n = refl

pub handles : (h k : def.HandleLayout) → same_line (layout_line (def.Handle h)) (layout_line (def.Handle k)) ≡ same_contents h k
unfolding layout_line decimal same_contents
handles def.Opaque def.Opaque = refl
handles def.Opaque (def.Buffer n) = refl
handles (def.Buffer m) def.Opaque = refl
handles (def.Buffer m) (def.Buffer n) = refl

never : (t : Bool) → false ≡ t && false
never true = refl
never false = refl

zeros : (t : Bool) → cond t (same_line opaque_fields opaque_fields) false ≡ t && true
unfolding decimal
zeros true = refl
zeros false = refl

pub arrays : (h k : def.HandleLayout) (len count : ℕ) → same_line (layout_line (def.HandleArray h len)) (layout_line (def.HandleArray k count)) ≡ eqb len count && same_contents h k
unfolding layout_line same_contents
arrays h k len count = by h k ∙ ap (λ (t : Bool). t && same_contents h k) (sym (same_number len count))
  where
    by : (h k : def.HandleLayout) → same_line (layout_line (def.HandleArray h len)) (layout_line (def.HandleArray k count)) ≡ same (decimal len) (decimal count) && same_contents h k
    by def.Opaque def.Opaque = zeros (same (decimal len) (decimal count))
    by def.Opaque (def.Buffer n) = never (same (decimal len) (decimal count))
    by (def.Buffer m) def.Opaque = never (same (decimal len) (decimal count))
    by (def.Buffer m) (def.Buffer n) = cond_and (same (decimal len) (decimal count)) (same_line (memory_fields m) (memory_fields n))

-- a layout of another form
module _ (offsets : List ℕ) where
  pub not_memory : (m : MemTypeLayout) (b : TypeLayout) → ((x : MemTypeLayout) → b ≡ layout.Concrete x → ⊥) → false ≡ same_line (line_in offsets (layout.Concrete m)) (line_in offsets b)
  unfolding layout_line
  not_memory m (layout.Concrete n) h = absurd (h n refl)
  not_memory m (layout.Handle handle.Opaque) h = refl
  not_memory m (layout.Handle (handle.Buffer n)) h = refl
  not_memory m (layout.HandleArray handle.Opaque count) h = refl
  not_memory m (layout.HandleArray (handle.Buffer n) count) h = refl

  pub no_handle : (h : Handle) (b : TypeLayout) → ((x : Handle) → b ≡ layout.Handle x → ⊥) → false ≡ same_line (line_in offsets (layout.Handle h)) (line_in offsets b)
  unfolding layout_line
  no_handle handle.Opaque (layout.Concrete n) e = refl
  no_handle (handle.Buffer m) (layout.Concrete n) e = refl
  no_handle h (layout.Handle k) e = absurd (e k refl)
  no_handle handle.Opaque (layout.HandleArray handle.Opaque count) e = refl
  no_handle handle.Opaque (layout.HandleArray (handle.Buffer n) count) e = refl
  no_handle (handle.Buffer m) (layout.HandleArray handle.Opaque count) e = refl
  no_handle (handle.Buffer m) (layout.HandleArray (handle.Buffer n) count) e = refl

  pub no_array : (h : Handle) (len : ℕ) (b : TypeLayout) → ((x : Handle) (n : ℕ) → b ≡ layout.HandleArray x n → ⊥) → false ≡ same_line (line_in offsets (layout.HandleArray h len)) (line_in offsets b)
  unfolding layout_line
  no_array handle.Opaque len (layout.Concrete n) e = refl
  no_array (handle.Buffer m) len (layout.Concrete n) e = refl
  no_array handle.Opaque len (layout.Handle handle.Opaque) e = refl
  no_array handle.Opaque len (layout.Handle (handle.Buffer n)) e = refl
  no_array (handle.Buffer m) len (layout.Handle handle.Opaque) e = refl
  no_array (handle.Buffer m) len (layout.Handle (handle.Buffer n)) e = refl
  no_array h len (layout.HandleArray k count) e = absurd (e k count refl)
