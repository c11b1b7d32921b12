-- A chain over tables by its start. Assumes nothing.
use Prim.Native.Nat.{ℕ, ◌<◌, ◌≤◌}
use native.Mathlib.Omega.{arith}
use mathlib.Core.Path.{◌≡◌, refl, sym, ap, ◌∙◌, fun_ext}
use mathlib.Core.List.{List}
use lib.ListN.{length}
use borrow.Author.Tests.{lt-ltb, le-ltb}
use Rattle.std.specs.Prelude.{None, Ok, Err}
use Rattle.arith.specs.Refusals.{Result, ok, refused, ◌>>=◌, ◌>>◌, refuse◌when◌, refuse◌unless◌, misread, oversize, in_room}
use Rattle.arith.specs.InCode.{OrRefusal, err}
use Rattle.spirv.specs.declared.ChainOp.{ChainOp}
use Rattle.spirv.specs.declared.Index.{Index}
use Rattle.spirv.specs.declared.Stride.TheVariants.{Undecorated}
use Rattle.shapes.specs.declared.LayoutConfig.{LayoutConfig}
use Rattle.shapes.specs.declared.TypeLayout.{TypeLayout}
use Rattle.shapes.specs.Spans.{spans_of, layout_by, answer_by, answer_over}
use Rattle.shapes.specs.Rows.{answer_at}
use Rattle.places.specs.declared.Place.{Place}
use Rattle.places.specs.Places.{place_of, found_of}
use Rattle.layout.specs.Arrays.{Answer, array_layout, runtime_params}
use Rattle.layout.specs.Layouts.{runtime_array_by}
use Rattle.components.specs.Found.{answers_in}
use Rattle.lower.specs.declared.QPtrOp.{QPtrOp}
use Rattle.lower.specs.Steps.{lower_from}
use Rattle.lower.specs.Chain.{start_layout, chain_by}
use Rattle.moves.specs.Moves.{indices_in}
use Rattle.moves.specs.Written.{in_room_behind}
use Rattle.chain.specs.Chains.{chain_from, chain_of}
use Rattle.chain.proofs.Chains.{few_from}
use Rattle.pointers.specs.OverTables.{pointee_at, start_by, chain_over}
use Rattle.lowering.specs.Starts.{Starts}

-- the runtime array asks for its element alone
pub by_element : (cfg : LayoutConfig) (answer-of : ℕ → Answer) (t : ℕ) → array_layout cfg (λ u. answer-of t) (runtime_params cfg t Undecorated) ≡ runtime_array_by cfg answer-of t
unfolding runtime_array_by array_layout runtime_params
by_element cfg answer-of t = refl

-- a chain is its start, and the walk from there
pub starts : (cfg : LayoutConfig) (pointee-of : ℕ → Result ℕ) (answer-of : ℕ → Answer) (op : ChainOp) (ptr : ℕ) (is : List Index)
    → chain_by cfg pointee-of answer-of op ptr is ≡ (start_by cfg pointee-of answer-of op ptr >>= λ l. lower_from answer-of l None is)
unfolding chain_by ◌>>=◌
starts cfg pointee-of answer-of op ptr is = by_pointee (pointee-of ptr)
  where
    by_pointee : (r : Result ℕ) → (r >>= λ t. start_layout cfg answer-of op t >>= λ l. lower_from answer-of l None is) ≡ ((r >>= start_layout cfg answer-of op) >>= λ l. lower_from answer-of l None is)
    by_pointee (ok t) = refl
    by_pointee (refused e) = refl

module _ (room : ℕ) (cfg : LayoutConfig) (n : ℕ) (types layouts offsets members : List ℕ) (op : ChainOp) (ptr : ℕ) (chain : List ℕ) where
  abbrev over : Result (List QPtrOp)
  over = chain_over room cfg n types layouts offsets members op ptr chain

  abbrev start : Answer
  start = start_by cfg (pointee_at types n) (answers_in layouts n offsets members) op ptr

  pub no_such : n ≤ ptr → over ≡ refused misread
  unfolding chain_over refuse◌unless◌ ◌>>◌
  no_such h = rw (le-ltb ptr n h)

  pub too_long : ptr < n → 510 < length chain → over ≡ refused oversize
  unfolding chain_over refuse◌unless◌ refuse◌when◌ ◌>>◌
  too_long h g = rw (lt-ltb ptr n h, lt-ltb 510 (length chain) g)

  module _ (there : ptr < n) (few : length chain ≤ 510) where
    begun : over ≡ in_room room length (start >>= λ l. lower_from (answers_in layouts n offsets members) l None (indices_in chain))
    unfolding chain_over refuse◌unless◌ refuse◌when◌ ◌>>◌
    begun = rw (lt-ltb ptr n there, le-ltb 510 (length chain) few) (ap (in_room room length) (starts cfg (pointee_at types n) (answers_in layouts n offsets members) op ptr (indices_in chain)))

    -- by what the code found for its start
    module _ (a : OrRefusal TypeLayout) (found : answer_over offsets members a ≡ start) where
      on : over ≡ in_room room length (answer_over offsets members a >>= λ l. lower_from (answers_in layouts n offsets members) l None (indices_in chain))
      on = rw found begun

      no_layout : (e : ℕ) → a ≡ err e → over ≡ refused e
      unfolding in_room ◌>>=◌
      no_layout e h = rw h at on

      from_layout : (l : TypeLayout) → a ≡ Ok l → over ≡ chain_of room layouts offsets members n (place_of l) chain
      unfolding chain_from in_room_behind ◌>>=◌
      from_layout l h =
          (rw h at on)
          ∙ ap (λ (k : List QPtrOp → ℕ). in_room room k (lower_from (answers_in layouts n offsets members) (layout_by (spans_of offsets members) l) None (indices_in chain))) (fun_ext λ steps. omega arith)
          ∙ sym (few_from room layouts offsets members n l chain few)

    -- by the place that the code found for its start
    module _ (r : OrRefusal Place) (starts : Starts r (λ f. start_by cfg (pointee_at types n) (λ u. answer_by f (answer_at layouts n u)) op ptr)) where
      said : answer_over offsets members starts.answer ≡ start
      said = starts.says.by (spans_of offsets members)

      pub no_start : (e : ℕ) → r ≡ err e → over ≡ refused e
      no_start e h = by_answer starts.answer said (sym starts.found ∙ h)
        where
          by_answer : (a : OrRefusal TypeLayout) → answer_over offsets members a ≡ start → found_of a ≡ err e → over ≡ refused e
          by_answer (Err d) g k = no_layout (Err d) g e (cc)
          by_answer (Ok l) g k = let z : ◌≡◌ {A = ℕ} 0 1 = cc in absurd (omega arith)

      pub from_start : (l : Place) → r ≡ Ok l → over ≡ chain_of room layouts offsets members n l chain
      from_start l h = by_answer starts.answer said (sym starts.found ∙ h)
        where
          by_answer : (a : OrRefusal TypeLayout) → answer_over offsets members a ≡ start → found_of a ≡ Ok l → over ≡ chain_of room layouts offsets members n l chain
          by_answer (Err d) g k = let z : ◌≡◌ {A = ℕ} 0 1 = cc in absurd (omega arith)
          by_answer (Ok m) g k = let e : place_of m ≡ l = cc in rw e at (from_layout (Ok m) g m refl)
