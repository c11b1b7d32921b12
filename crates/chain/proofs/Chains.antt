-- A chain over tables, by its first index. Assumes nothing.
use Prim.Native.Nat.{ℕ, ◌+◌, ◌<◌, ◌≤◌}
use native.Mathlib.Omega.{arith}
use mathlib.Core.Path.{◌≡◌, refl, sym, ap, ◌∙◌}
use mathlib.Core.Bool.{Bool, true, false, cond}
use mathlib.Core.List.{List, [], ◌∷◌, ◌++◌}
use mathlib.Core.Option.{Option, none, some}
use lib.Dec.{leb}
use lib.IntN.{ℤ, pos}
use lib.ListN.{length, get_or, drop, length-drop}
use lib.Seq.{drop-drop, get_or-drop}
use borrow.Author.Tests.{lt-ltb, le-ltb}
use Rattle.std.specs.Prelude.{None, Ok, Err}
use Rattle.arith.specs.Refusals.{Result, ok, refused, ◌>>◌, refuse◌when◌, oversize}
use Rattle.arith.specs.Numbers.{max_i32, signed}
use Rattle.arith.specs.InCode.{OrRefusal, err}
use Rattle.spirv.specs.declared.Index.{Index}
use Rattle.spirv.specs.declared.Index.TheVariants.{Known, Unknown}
use Rattle.spirv.specs.Rows.{index_by}
use Rattle.shapes.specs.declared.Components.{Components}
use Rattle.shapes.specs.declared.Components.TheVariants.{Scalar, Elements, Fields}
use Rattle.shapes.specs.declared.TypeLayout.{TypeLayout}
use Rattle.shapes.specs.Rows.{answer_at}
use Rattle.shapes.specs.Spans.{span_of}
use Rattle.places.specs.declared.Place.{Place}
use Rattle.places.specs.declared.Place.TheVariants.{Memory, Buffer, Buffers, Opaque, Opaques}
use Rattle.places.specs.Places.{place_of, found_of}
use Rattle.lower.specs.declared.QPtrOp.{QPtrOp}
use Rattle.lower.specs.declared.QPtrOp.TheVariants.{BufferData, DynOffset}
use Rattle.lower.specs.Steps.{Pending, flush, merged, Field, field_of, bound_of, constant_offset}
use Rattle.moves.specs.declared.Move.{Move}
use Rattle.moves.specs.declared.Move.TheVariants.{Onward, Emit, Inside}
use Rattle.moves.specs.declared.By.{By}
use Rattle.moves.specs.declared.By.TheVariants as by
use Rattle.moves.specs.Moves.{indices_in, by_offset, field_by, by_field, field_way, part_way, onward, by_constant, arrived, move_by, move_of}
use Rattle.moves.specs.Written.{before, in_room_behind}
use Rattle.chain.specs.declared.Run.{Run}
use Rattle.chain.specs.Chains.{weight, chain_from, on_from, chain_of, ran_on, Ran}
use Rattle.moves.proofs.Lowers.{follow, more, no_more, as_placed}

-- ---- indices as words

no_index : (chain : List ℕ) → length chain < 2 → indices_in chain ≡ []
unfolding indices_in
no_index [] h = refl
no_index (w ∷ []) h = refl
no_index (w ∷ k ∷ rest) h = absurd (omega arith)

an_index : (chain : List ℕ) → 2 ≤ length chain → indices_in chain ≡ index_by (get_or chain 0 0) (get_or chain 1 0) ∷ indices_in (drop 2 chain)
unfolding indices_in
an_index [] h = absurd (omega arith)
an_index (w ∷ []) h = absurd (omega arith)
an_index (w ∷ k ∷ rest) h = refl

-- the index behind the first `at` words
index_at : (chain : List ℕ) (at : ℕ) → at + 2 ≤ length chain → indices_in (drop at chain) ≡ index_by (get_or chain at 0) (get_or chain (at + 1) 0) ∷ indices_in (drop (at + 2) chain)
index_at chain at h =
    let start : at + 0 ≡ at = omega arith in
    an_index (drop at chain) (omega (arith, length-drop at chain))
    ∙ rw (get_or-drop at chain 0 0, get_or-drop at chain 1 0, drop-drop 2 at chain, start)

-- the two words in front of those that are left
record Pair (chain : List ℕ) (at : ℕ) (pair rest : List ℕ) : Type 0 where
  fits : at + 2 ≤ length chain
  index : index_by (get_or pair 0 0) (get_or pair 1 0) ≡ index_by (get_or chain at 0) (get_or chain (at + 1) 0)
  behind : rest ≡ drop (at + 2) chain

pair_at : (chain : List ℕ) (at : ℕ) (pair rest : List ℕ) → length pair ≡ 2 → drop at chain ≡ pair ++ rest → Pair chain at pair rest
pair_at chain at [] rest h e = absurd (omega arith)
pair_at chain at (w ∷ []) rest h e = absurd (omega arith)
pair_at chain at (w ∷ k ∷ []) rest h e =
    let start : at + 0 ≡ at = omega arith in
    let word : w ≡ get_or chain at 0 = sym (ap (λ (x : List ℕ). get_or x 0 0) e) ∙ rw (get_or-drop at chain 0 0, start) refl in
    let kind : k ≡ get_or chain (at + 1) 0 = sym (ap (λ (x : List ℕ). get_or x 1 0) e) ∙ get_or-drop at chain 1 0 in
    record {
      fits = omega (arith, ap length e, length-drop at chain);
      index = rw (word, kind) refl;
      behind = sym (ap (drop 2) e) ∙ drop-drop 2 at chain;
    }
pair_at chain at (w ∷ k ∷ x ∷ more) rest h e = absurd (omega arith)

-- ---- few steps

pub weight_most : (l : Place) → weight l ≤ 2
weight_most (Memory c) = omega arith
weight_most (Buffer c) = omega arith
weight_most (Buffers c) = omega arith
weight_most Opaque = omega arith
weight_most Opaques = omega arith

-- ---- a walk, by the index at a place of the words

module _ (layouts offsets members : List ℕ) (types : ℕ) (chain : List ℕ) where
  abbrev pub followed : (at : ℕ) (p : Pending) → OrRefusal Move → Result (List QPtrOp)
  followed at p (Err e) = refused e.number
  followed at p (Ok (Onward u q)) = on_from layouts offsets members types chain (at + 2) u q
  followed at p (Ok (Emit u s)) = before (flush p (s ∷ [])) (on_from layouts offsets members types chain (at + 2) u None)
  followed at p (Ok (Inside c)) = before (flush p (BufferData ∷ [])) (on_from layouts offsets members types chain at (Memory c) None)

  pub walk_ends : (at : ℕ) (l : Place) (p : Pending) → length chain < at + 2 → on_from layouts offsets members types chain at l p ≡ ok (flush p [])
  unfolding on_from chain_from
  walk_ends at l p h = rw (no_index (drop at chain) (omega (arith, length-drop at chain))) (no_more (answer_at layouts types) offsets members l p)

  by_move : (at : ℕ) (p : Pending) (m : OrRefusal Move) → at + 2 ≤ length chain
      → follow (answer_at layouts types) offsets members m (index_by (get_or chain at 0) (get_or chain (at + 1) 0)) p (indices_in (drop (at + 2) chain)) ≡ followed at p m
  unfolding on_from chain_from
  by_move at p (Err e) h = refl
  by_move at p (Ok (Onward u q)) h = refl
  by_move at p (Ok (Emit u s)) h = refl
  by_move at p (Ok (Inside c)) h = rw (index_at chain at h)

  goes_by : (at : ℕ) (l : Place) (p : Pending) (m : OrRefusal Move) → at + 2 ≤ length chain
      → move_of (answer_at layouts types) offsets members l (index_by (get_or chain at 0) (get_or chain (at + 1) 0)) p ≡ m
      → on_from layouts offsets members types chain at l p ≡ followed at p m
  unfolding on_from chain_from
  goes_by at l p m h e =
      rw (index_at chain at h)
      (more (answer_at layouts types) offsets members l (index_by (get_or chain at 0) (get_or chain (at + 1) 0)) p (indices_in (drop (at + 2) chain))
      ∙ ap (λ (x : OrRefusal Move). follow (answer_at layouts types) offsets members x (index_by (get_or chain at 0) (get_or chain (at + 1) 0)) p (indices_in (drop (at + 2) chain))) e
      ∙ by_move at p m h)

  -- by the index and the move that the code found
  pub record Goes (at : ℕ) (l : Place) (p : Pending) (rest : List ℕ) (m : OrRefusal Move) : Type 0 where
    pub fits : at + 2 ≤ length chain
    pub behind : rest ≡ drop (at + 2) chain
    pub goes : on_from layouts offsets members types chain at l p ≡ followed at p m

  pub walk_goes : (at : ℕ) (l : Place) (p : Pending) (pair rest : List ℕ) {i : Index} {r m : OrRefusal Move} → length pair ≡ 2 → drop at chain ≡ pair ++ rest
      → i ≡ index_by (get_or pair 0 0) (get_or pair 1 0) → r ≡ move_of (answer_at layouts types) offsets members l i p → r ≡ m → Goes at l p rest m
  walk_goes at l p pair rest two e f g k =
      let x = pair_at chain at pair rest two e in
      record {
        fits = x.fits;
        behind = x.behind;
        goes = goes_by at l p _ x.fits (ap (λ (i : Index). move_of (answer_at layouts types) offsets members l i p) (sym (f ∙ x.index)) ∙ sym g ∙ k);
      }

  -- from a layout on is from its place on
  pub walk_starts : (l : TypeLayout) (p : Pending) → chain_from layouts offsets members types l p (indices_in chain) ≡ on_from layouts offsets members types chain 0 (place_of l) p
  unfolding on_from chain_from
  walk_starts l p = as_placed (answer_at layouts types) offsets members l p (indices_in chain)

-- ---- how far a walk gets, by the run that the code found

module _ {layouts offsets members : List ℕ} {types : ℕ} {chain : List ℕ} {from : ℕ} {l : Place} {p : Pending} {r x : OrRefusal Run} where
  pub ran_of : Ran layouts offsets members types chain from l p r → r ≡ x → on_from layouts offsets members types chain from l p ≡ ran_on layouts offsets members types chain x
  ran_of h e = h.goes ∙ ap (ran_on layouts offsets members types chain) e

-- ---- only a buffer is entered

module _ (w : ℕ) (d : Components) (answers : ℕ → OrRefusal TypeLayout) where
  by_pending : (u : Place) (r : Result Pending) → onward u r ≡ Ok (Inside d) → w ≡ 2
  by_pending u (ok q) e = cc
  by_pending u (refused n) e = cc

  by_constant_lem : (u : Place) (s : QPtrOp) (p : Pending) (z : Option ℤ) → by_constant u s p z ≡ Ok (Inside d) → w ≡ 2
  by_constant_lem u s p (some z) e = by_pending u (merged p z) e
  by_constant_lem u s p none e = cc

  by_found : (b : By) (i : Index) (p : Pending) (f : OrRefusal Place) → arrived b i p f ≡ Ok (Inside d) → w ≡ 2
  by_found b i p (Err n) e = cc
  by_found (by.Element stride len) i p (Ok u) e = by_constant_lem u (DynOffset stride (bound_of len) i) p (constant_offset stride len i) e
  by_found (by.Field q) i p (Ok u) e = cc

  by_offset_lem : (i : Index) (p : Pending) (t : ℕ) (r : Result Pending) → move_by answers i p (by_offset t r) ≡ Ok (Inside d) → w ≡ 2
  by_offset_lem i p t (ok q) e = by_found (by.Field q) i p (found_of (answers t)) e
  by_offset_lem i p t (refused n) e = cc

  by_test : (i : Index) (p : Pending) (t : ℕ) (r : Result Pending) (b : Bool) → move_by answers i p (cond b (by_offset t r) (err 22)) ≡ Ok (Inside d) → w ≡ 2
  by_test i p t r true e = by_offset_lem i p t r e
  by_test i p t r false e = cc

  by_field_lem : (i : Index) (p : Pending) (r : Result Field) → move_by answers i p (by_field p r) ≡ Ok (Inside d) → w ≡ 2
  unfolding field_by
  by_field_lem i p (ok f) e = by_test i p f.type (merged p (pos f.offset)) (leb f.offset max_i32) e
  by_field_lem i p (refused n) e = cc

  by_index : (os ts : List ℕ) (i : Index) (p : Pending) → move_by answers i p (field_way os ts i p) ≡ Ok (Inside d) → w ≡ 2
  unfolding field_way
  by_index os ts (Known x) p e = by_field_lem (Known x) p (field_of os ts (signed x)) e
  by_index os ts (Unknown v) p e = cc

  by_parts : (offsets members : List ℕ) (c : Components) (i : Index) (p : Pending) → move_by answers i p (part_way offsets members c i p) ≡ Ok (Inside d) → w ≡ 2
  by_parts offsets members Scalar i p e = cc
  by_parts offsets members (Elements stride elem len) i p e = by_found (by.Element stride len) i p (found_of (answers elem)) e
  by_parts offsets members (Fields start count) i p e = by_index (span_of offsets start count) (span_of members start count) i p e

pub entered : (answers : ℕ → OrRefusal TypeLayout) (offsets members : List ℕ) (l : Place) (i : Index) (p : Pending) (d : Components) → move_of answers offsets members l i p ≡ Ok (Inside d) → weight l ≡ 2
unfolding move_of
entered answers offsets members (Memory c) i p d e = by_parts 0 d answers offsets members c i p e
entered answers offsets members (Buffer c) i p d e = refl
entered answers offsets members (Buffers c) i p d e = refl
entered answers offsets members Opaque i p d e = refl
entered answers offsets members Opaques i p d e = refl

-- ---- at most 255 indices

module _ (room : ℕ) (layouts offsets members : List ℕ) (types : ℕ) (l : Place) (chain : List ℕ) where
  pub too_many : 510 < length chain → chain_of room layouts offsets members types l chain ≡ refused oversize
  unfolding chain_of ◌>>◌ refuse◌when◌
  too_many h = rw (lt-ltb 510 (length chain) h)

  pub few_enough : length chain ≤ 510 → chain_of room layouts offsets members types l chain ≡ in_room_behind room 0 (on_from layouts offsets members types chain 0 l None)
  unfolding chain_of ◌>>◌ refuse◌when◌
  few_enough h = rw (le-ltb 510 (length chain) h)

-- from a layout on is from its place on
pub few_from : (room : ℕ) (layouts offsets members : List ℕ) (types : ℕ) (l : TypeLayout) (chain : List ℕ) → length chain ≤ 510
    → chain_of room layouts offsets members types (place_of l) chain ≡ in_room_behind room 0 (chain_from layouts offsets members types l None (indices_in chain))
few_from room layouts offsets members types l chain h = few_enough room layouts offsets members types (place_of l) chain h ∙ sym (ap (in_room_behind room 0) (walk_starts layouts offsets members types chain l None))
