-- A struct's row gives what its declaration gives. Assumes nothing.
use Prim.Native.Nat.{ℕ, ◌+◌}
use mathlib.Core.Path.{◌≡◌, refl, sym, ap, ◌∙◌}
use mathlib.Core.Bool.{Bool, true, false, ◌||◌}
use mathlib.Core.List.{List, [], ◌++◌}
use native.Mathlib.Omega.{arith}
use lib.Dec.{eqb}
use lib.ListN.{length, take, drop, replicate, length-take, length-drop}
use lib.Seq.{take_at}
use borrow.Author.Tests.{ne_eqb, eqb-true, eqb-false, le-leb, leb-true}
use Rattle.arith.specs.Refusals.{Result, ok, refused, ◌>>=◌, ◌>>◌, refuse◌unless◌, offsets_missing}
use Rattle.arith.proofs.Results.{went, value_is, passed, not_refused, first_true}
use Rattle.spirv.specs.Decl.{Decl}
use Rattle.spirv.specs.Reduced.{Reduction, refusing, reduced, decl_row, given_words}
use Rattle.spirv.specs.Rows.{struct_row}
use Rattle.spirv.specs.declared.DeclRow.{DeclRow}
use Rattle.spirv.specs.declared.SpvType.{SpvType}
use Rattle.spirv.specs.declared.SpvType.TheVariants.{Struct}
use Rattle.shapes.specs.declared.LayoutConfig.{LayoutConfig}
use Rattle.shapes.specs.Shapes.{Fields, MemTypeLayout, TypeLayout, memory}
use Rattle.shapes.specs.Spans.{span_of}
use Rattle.layout.specs.Structs as def
use Rattle.structs.specs.Rows.{StructMemory, sized_to, decorations_of, memory_of, struct_of_row}
use Rattle.structs.specs.Statements.{layout_with, DeclaredStructs, OneOffsetEach}
use Rattle.structs.proofs.Placement.{members_length, placed_length}
use Rattle.structs.proofs.Memory.{none_given, not_one_each}
use Rattle.structs.proofs.Reduced.{reduced_given, reduced_refused}

-- the row of a struct
struct_row_lem : (block : Bool) (d : Decl) (start : ℕ) → d.type ≡ Struct block
    → decl_row start d ≡ struct_row d.type start (length d.members) (reduced d.decorations).refusal (length (reduced d.decorations).offsets)
unfolding decl_row
struct_row_lem block d start e = rw e

module _ (cfg : LayoutConfig) (ms : List MemTypeLayout) (block : Bool) (types : List ℕ) where
  abbrev finish : List ℕ → Result TypeLayout
  finish given =
      def.place cfg given ms >>= λ p. def.final_size p.extent >>= λ size.
      ok (def.block_or block (memory size p.extent.align p.extent.legacy p.extent.dyn (Fields p.offsets types)))

  abbrev finish_row : List ℕ → Result StructMemory
  finish_row given = def.place cfg given ms >>= λ p. def.final_size p.extent >>= λ size. ok (sized_to p size)

  same_finish : (given : List ℕ) → finish given ≡ (finish_row given >>= λ s. ok (layout_with block types s))
  unfolding ◌>>=◌
  same_finish given = by (def.place cfg given ms)
    where
      with_size : (p : def.Placed) (r : Result ℕ)
          → (r >>= λ size. ok (def.block_or block (memory size p.extent.align p.extent.legacy p.extent.dyn (Fields p.offsets types))))
          ≡ ((r >>= λ size. ok (sized_to p size)) >>= λ s. ok (layout_with block types s))
      with_size p (ok size) = refl
      with_size p (refused n) = refl

      by : (q : Result def.Placed)
          → (q >>= λ p. def.final_size p.extent >>= λ size. ok (def.block_or block (memory size p.extent.align p.extent.legacy p.extent.dyn (Fields p.offsets types))))
          ≡ ((q >>= λ p. def.final_size p.extent >>= λ size. ok (sized_to p size)) >>= λ s. ok (layout_with block types s))
      by (ok p) = with_size p (def.final_size p.extent)
      by (refused n) = refl

  -- where D lines are not refused: no offsets, one per member, or 14
  of_given : (t : SpvType) (start : ℕ) (given gs : List ℕ) → length ms ≡ length types → span_of given start (length types) ≡ take (length types) (gs ++ replicate (length types) 0)
      → finish gs ≡ ((decorations_of (struct_row t start (length types) 0 (length gs)) >> finish_row (span_of given start (length gs))) >>= λ s. ok (layout_with block types s))
  unfolding decorations_of ◌>>=◌ ◌>>◌ refuse◌unless◌
  of_given t start given gs l h = by (eqb (length gs) 0) (eqb (length gs) (length types)) refl refl
    where
      by : (a b : Bool) → eqb (length gs) 0 ≡ a → eqb (length gs) (length types) ≡ b
          → finish gs ≡ (((refuse offsets_missing unless (a || b)) >> finish_row (span_of given start (length gs))) >>= λ s. ok (layout_with block types s))
      by true b e f =
          let z = none_given gs (eqb-true _ _ e) in rw z (same_finish [])
      by false true e f =
          let k = eqb-true (length gs) (length types) f in
          rw (k, h, take_at gs (replicate (length types) 0) (length types) k) (same_finish gs)
      by false false e f =
          rw (not_one_each cfg gs ms (eqb-false (length gs) 0 e) (λ k. eqb-false (length gs) (length types) f (k ∙ l)))

same_reduction : (r : Reduction) (gs : List ℕ) → r.refusal ≡ 0 → r.offsets ≡ gs → r ≡ refusing gs 0
same_reduction r gs h k = ap (λ (n : ℕ). refusing r.offsets n) h ∙ ap (λ (l : List ℕ). refusing l 0) k

-- the same declaration and row, from the members' layouts on
module _ (cfg : LayoutConfig) (block : Bool) (d : Decl) (start : ℕ) (given : List ℕ) (there : span_of given start (length d.members) ≡ given_words d) where
  abbrev row : DeclRow
  row = struct_row d.type start (length d.members) (reduced d.decorations).refusal (length (reduced d.decorations).offsets)

  of_decorations : (ms : List MemTypeLayout) → length ms ≡ length d.members
      → (def.given_offsets 0 d.decorations >>= λ gs. finish cfg ms block d.members gs)
      ≡ ((decorations_of row >> finish_row cfg ms block d.members (span_of given start row.read)) >>= λ s. ok (layout_with block d.members s))
  unfolding given_words decorations_of ◌>>=◌ ◌>>◌ refuse◌unless◌
  of_decorations ms l = by (def.given_offsets 0 d.decorations) refl
    where
      by : (r : Result (List ℕ)) → def.given_offsets 0 d.decorations ≡ r
          → (r >>= λ gs. finish cfg ms block d.members gs)
          ≡ ((decorations_of row >> finish_row cfg ms block d.members (span_of given start row.read)) >>= λ s. ok (layout_with block d.members s))
      by (ok gs) e =
          let n = length d.members in
          let q = reduced_given d.decorations gs e in
          let w : span_of given start n ≡ take n (gs ++ replicate n 0) = there ∙ ap (λ (l : List ℕ). take n (l ++ replicate n 0)) q.offsets_are in
          of_given cfg ms block d.members d.type start given gs l w
          ∙ ap (λ (x : Reduction). (decorations_of (struct_row d.type start n x.refusal (length x.offsets)) >> finish_row cfg ms block d.members (span_of given start (length x.offsets))) >>= λ s. ok (layout_with block d.members s))
          (sym (same_reduction (reduced d.decorations) gs q.none_refused q.offsets_are))
      by (refused n) e =
          let q = reduced_refused d.decorations n e in
          let z : (reduced d.decorations).refusal ≡ 0 → ⊥ = λ k. q.some_refusal (sym q.by ∙ k) in
          rw (ne_eqb (reduced d.decorations).refusal 0 z) (ap refused (sym q.by))

pub declared_structs : DeclaredStructs
unfolding def.struct_layout struct_of_row memory_of ◌>>=◌ ◌>>◌ refuse◌unless◌
declared_structs cfg below block d start members given room e h =
    let n = length d.members in
    let fit-members = le-leb (start + n) (length members) h.in_members in
    let fit-given = le-leb (start + n) (length given) h.in_given in
    let fit-room = le-leb (start + n) room h.in_room_lem in
    rw (struct_row_lem block d start e, fit-members, fit-given, fit-room, h.members_there) (by (def.member_layouts below d.members) refl)
  where
    by : (q : Result (List MemTypeLayout)) → def.member_layouts below d.members ≡ q
        → (q >>= λ ms. def.given_offsets 0 d.decorations >>= λ gs. finish cfg ms block d.members gs)
        ≡ ((q >>= λ ms. decorations_of (row cfg block d start given h.given_there) >> finish_row cfg ms block d.members (span_of given start (length (reduced d.decorations).offsets))) >>= λ s. ok (layout_with block d.members s))
    by (ok ms) g = of_decorations cfg block d start given h.given_there ms (members_length cfg below d.members ms g)
    by (refused n) g = refl

pub one_offset_each : OneOffsetEach
unfolding struct_of_row memory_of
one_offset_each cfg below members given room r s h =
    let within = not_refused _ _ _ h in
    let m = went _ _ (passed _ _ h) in
    let p = went _ _ (passed _ _ m.rest) in
    let z = went _ _ p.rest in
    let l = members_length cfg below (span_of members r.start r.count) m.value m.here in
    let k = placed_length cfg below _ m.value p.value p.here in
    let w = leb-true (r.start + r.count) (length members) (first_true _ _ within) in
    rw (sym (value_is z.rest)) (k ∙ l ∙ omega (arith, length-take r.count (drop r.start members), length-drop r.start members))
