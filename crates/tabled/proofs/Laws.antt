-- Laws of chains over a table. Assumes nothing.
use Prim.Native.Nat.{ℕ, zero, suc, ◌+◌, ◌*◌, ◌/◌, ◌%◌, ◌≤◌, ◌<◌, min}
use native.Mathlib.Omega.{arith}
use mathlib.Core.Path.{◌≡◌, refl, sym, ap, ◌∙◌, subst}
use mathlib.Core.Bool.{Bool, true, false, cond}
use mathlib.Core.List.{List, [], ◌∷◌}
use Rattle.std.specs.Prelude.{Option, Some, None, Ok, Err}
use lib.Dec.{eqb, ltb}
use lib.ListN.{length, take, drop, replicate, length-append, length-replicate}
use lib.Seq.{sets, take_at}
use borrow.Author.Tests.{eqb-true, le-leb, lt-leb, le-ltb, lt-ltb, ltb-true, ltb-false}
use Rattle.arith.specs.Refusals.{Result, ok, refused, ◌>>=◌, ◌>>◌, refuse◌when◌, refuse◌unless◌, in_room, misread, oversize, short_list}
use Rattle.arith.specs.InCode.{OrRefusal, err, in_code}
use Rattle.arith.specs.declared.refusal.Refusal.{Refusal}
use Rattle.arith.proofs.Results.{went, passed, value_is, not_refused, not_met, first_true, in_room_lem}
use Rattle.spirv.specs.declared.ChainOp.{ChainOp}
use Rattle.spirv.specs.declared.Index.{Index}
use Rattle.shapes.specs.declared.LayoutConfig.{LayoutConfig}
use Rattle.sheet.specs.Sheet.{max_indices}
use Rattle.sheet.proofs.Tables.{front}
use Rattle.text.specs.Printed.{Printed}
use Rattle.words.specs.Little.{words_of}
use Rattle.words.proofs.Words.{words_length}
use Rattle.components.specs.Found.{answers_in}
use Rattle.lower.specs.declared.QPtrOp.{QPtrOp}
use Rattle.lower.specs.Chain.{chain_by}
use Rattle.lower.specs.Statements.{FitSteps}
use Rattle.lower.proofs.StepsFit.{bytes_fit}
use Rattle.steps.specs.Lists.{steps_in, step_at}
use Rattle.steps.specs.Stored.{StoredAt}
use Rattle.moves.specs.Moves.{indices_in}
use Rattle.moves.specs.Written.{walk_of, steps_of, Wrote}
use Rattle.chain.specs.Chains.{room_of}
use Rattle.pointers.specs.OverTables.{pointee_at, chain_over}
use Rattle.lowering.proofs.Written.{read_again}
use Rattle.wire.specs.Wire.{formed_bytes, indices_of, step_bytes, steps_bytes}
use Rattle.wire.proofs.Back.{step_size}
use Rattle.flat.specs.Table.{count_in, setting_in, types_in, members_in, places_in, layouts_in}
use Rattle.tabled.specs.Chains.{op_of, op_in, asked_in, places, chain_at, chain_in, room_in, Lowered}
use Rattle.tabled.specs.InCode.{chain_of, walk_in, held_by}

-- ---- counts

indices_count : (l : List ℕ) → length (indices_in l) ≡ length l / 2
unfolding indices_in
indices_count [] = refl
indices_count (w ∷ []) = refl
indices_count (w ∷ k ∷ l) = let e = indices_count l in omega arith

-- eight bytes each
pub bytes_count : (s : List ℕ) → length (indices_in (words_of s)) ≡ length s / 8
bytes_count s = let i = indices_count (words_of s) in let w = words_length (length s / 4) s in omega arith

pub even : (s : List ℕ) → formed_bytes s ≡ true → length s % 8 ≡ 0
unfolding formed_bytes
even s h = eqb-true (length s % 8) 0 (first_true (eqb (length s % 8) 0) _ h)

-- the words, read from a list that holds them all
pub words_read : (m : ℕ) (s : List ℕ) {l : List ℕ} → length s / 4 ≤ m → l ≡ sets (replicate m 0) 0 (words_of s) → take (length s / 4) l ≡ words_of s
words_read m s {l} h e =
    let n = words_length (length s / 4) s in
    let zeros : List ℕ = replicate m 0 in
    let r = length-replicate {A = ℕ} m 0 in
    ap (take (length s / 4)) (e ∙ front zeros (words_of s) (omega arith)) ∙ take_at (words_of s) (drop (length (words_of s)) zeros) (length s / 4) n

pub steps_size : (ss : List QPtrOp) → length (steps_bytes ss) ≡ 20 * length ss
steps_size [] = refl
steps_size (s ∷ ss) = let e = steps_size ss in omega (arith, length-append (step_bytes s) (steps_bytes ss), step_size s)

module _ (ks bs ls ms is : List ℕ) where
  pub steps_count : (n : ℕ) → length (steps_in ks bs ls ms is n) ≡ n
  unfolding steps_in
  steps_count zero = refl
  steps_count (suc n) = let e = steps_count n in omega (arith, length-append (steps_in ks bs ls ms is n) (step_at ks bs ls ms is n ∷ []))

  -- what a walk left in the lists, in a room

  module _ (room : ℕ) {w : OrRefusal ℕ} where
    pub held_refused : {e : ℕ} → w ≡ err e → in_room room length (held_by w ks bs ls ms is) ≡ refused e
    unfolding in_room ◌>>=◌
    held_refused h = rw h

    module _ {n : ℕ} (h : w ≡ Ok n) where
      pub held_short : room < n → in_room room length (held_by w ks bs ls ms is) ≡ refused short_list
      unfolding in_room ◌>>=◌ ◌>>◌ refuse◌when◌
      held_short short = rw (h, steps_count n, lt-ltb room n short)

      pub held_whole : n ≤ room → in_room room length (held_by w ks bs ls ms is) ≡ ok (steps_in ks bs ls ms is n)
      unfolding in_room ◌>>=◌ ◌>>◌ refuse◌when◌
      held_whole fits = rw (h, steps_count n, le-ltb room n fits)

  -- ---- steps as bytes

  module _ (old : List ℕ) {w : OrRefusal ℕ} where
    pub put_refused : {e : Refusal} → w ≡ Err e → Lowered (in_room (room_in old) length (held_by w ks bs ls ms is)) (Err e) old old
    put_refused h = let q = held_refused (room_in old) h in record { says = rw q; holds = rw q }

    pub put_short : (n : ℕ) → w ≡ Ok n → room_in old < n → Lowered (in_room (room_in old) length (held_by w ks bs ls ms is)) (err short_list) old old
    put_short n h short = let q = held_short (room_in old) h short in record { says = rw q; holds = rw q }

    pub put_whole : (n : ℕ) → w ≡ Ok n → n ≤ room_in old → {p : ℕ} {new : List ℕ} → Printed (steps_bytes (steps_in ks bs ls ms is n)) old 0 p new
        → Lowered (in_room (room_in old) length (held_by w ks bs ls ms is)) (Ok n) old new
    put_whole n h fits x =
        let q = held_whole (room_in old) h fits in
        let z : 0 + n ≡ n = omega arith in
        let c = steps_count n in
        record {
          says = rw (q, steps_count n, z);
          holds = rw q (x.bytes ∙ front old (steps_bytes (steps_in ks bs ls ms is n)) (omega (arith, steps_size (steps_in ks bs ls ms is n))));
        }

-- ---- what a walk left in the lists is what it came to

module _ (room : ℕ) (cfg : LayoutConfig) (n : ℕ) (types layouts offsets members : List ℕ) (op : ChainOp) (ptr : ℕ) (chain : List ℕ) where
  -- accepted steps fit, and stay in the room
  pub record Good (steps : List QPtrOp) : Type 0 where
    pub fit : FitSteps steps
    pub few : length steps ≤ room

  good : (steps : List QPtrOp) → chain_over room cfg n types layouts offsets members op ptr chain ≡ ok steps → Good steps
  unfolding chain_over in_room chain_by
  good steps h =
      let r = went _ _ (passed _ _ (passed _ _ h)) in
      let t = went _ _ r.here in
      let l = went _ _ t.rest in
      let same : r.value ≡ steps = value_is (passed _ _ r.rest) in
      record {
        fit = subst FitSteps same (bytes_fit (answers_in layouts n offsets members) l.value (indices_in chain) r.value l.rest);
        few = in_room_lem room length _ (passed _ _ (passed _ _ h));
      }

  pub held_is : {w : OrRefusal ℕ} {ks bs ls ms is ks' bs' ls' ms' is' : List ℕ} → Wrote 0 (chain_over room cfg n types layouts offsets members op ptr chain) w ks bs ls ms is ks' bs' ls' ms' is'
      → room ≤ room_of ks bs ls ms is → held_by w ks' bs' ls' ms' is' ≡ chain_over room cfg n types layouts offsets members op ptr chain
  held_is {w} {ks} {bs} {ls} {ms} {is} {ks'} {bs'} {ls'} {ms'} {is'} x wide = by (chain_over room cfg n types layouts offsets members op ptr chain) refl x.says x.stored
    where
      by : (o : Result (List QPtrOp)) → chain_over room cfg n types layouts offsets members op ptr chain ≡ o → w ≡ walk_of 0 o → StoredAt 0 (steps_of o) ks bs ls ms is ks' bs' ls' ms' is'
          → held_by w ks' bs' ls' ms' is' ≡ o
      by (refused e) i h stored = ap (λ (v : OrRefusal ℕ). held_by v ks' bs' ls' ms' is') h
      by (ok steps) i h stored =
          let g = good steps i in
          let z : 0 + length steps ≡ length steps = omega arith in
          ap (λ (v : OrRefusal ℕ). held_by v ks' bs' ls' ms' is') h
          ∙ ap (λ (k : ℕ). ok (steps_in ks' bs' ls' ms' is' k)) z
          ∙ ap ok (read_again steps ks bs ls ms is ks' bs' ls' ms' is' g.fit (omega (arith, g.few)) stored)

-- ---- over a table

-- a room within a room
room_joined : (a b : ℕ) (r : Result (List QPtrOp)) → in_room a length (in_room b length r) ≡ in_room (min b a) length r
unfolding in_room ◌>>=◌ ◌>>◌ refuse◌when◌
room_joined a b (refused n) = refl
room_joined a b (ok x) = by (ltb b (length x)) (ltb a (length x)) refl refl
  where
    by : (s t : Bool) → ltb b (length x) ≡ s → ltb a (length x) ≡ t → in_room a length (in_room b length (ok x)) ≡ in_room (min b a) length (ok x)
    by true t e f = let g = ltb-true b (length x) e in rw (e, lt-ltb (min b a) (length x) (omega arith))
    by false true e f = let g = ltb-true a (length x) f in rw (e, f, lt-ltb (min b a) (length x) (omega arith))
    by false false e f = let g = ltb-false b (length x) e in let h = ltb-false a (length x) f in rw (e, f, le-ltb (min b a) (length x) (omega arith))

pub at_table : (room : ℕ) (table : List ℕ) (o : ChainOp) (ptr : ℕ) (s : List ℕ) → formed_bytes s ≡ true → ptr < count_in table → length s / 8 ≤ 255 → (p : ℕ) → places (length s / 8) ≡ p
    → chain_at room table o ptr (indices_in (words_of s)) ≡ in_room room length (chain_of p table o ptr (words_of s))
unfolding chain_at chain_over ◌>>◌ refuse◌unless◌ refuse◌when◌
at_table room table o ptr s f h few p e =
    let is : List Index = indices_in (words_of s) in
    let c = bytes_count s in
    let w = words_length (length s / 4) s in
    let v = even s f in
    let q : places (length is) ≡ p = ap places c ∙ e in
    rw (lt-ltb ptr (count_in table) h, le-ltb 510 (length (words_of s)) (omega arith), le-ltb max_indices (length is) (omega arith), q)
    (sym (room_joined room p (chain_by (setting_in table) (pointee_at (types_in table) (count_in table)) (answers_in (layouts_in table) (count_in table) (places_in table) (members_in table)) o ptr is)))

pub wrote_over : (table : List ℕ) (room : ℕ) (o : ChainOp) (ptr : ℕ) (words : List ℕ) {cfg : LayoutConfig} {n : ℕ} {ty la os me : List ℕ} {r : OrRefusal ℕ} {ks bs ls ms is ks' bs' ls' ms' is' : List ℕ}
    → n ≡ count_in table → cfg ≡ setting_in table → ty ≡ types_in table → la ≡ layouts_in table → os ≡ places_in table → me ≡ members_in table
    → Wrote 0 (chain_over room cfg n ty la os me o ptr words) r ks bs ls ms is ks' bs' ls' ms' is' → Wrote 0 (chain_of room table o ptr words) r ks bs ls ms is ks' bs' ls' ms' is'
wrote_over table room o ptr words {r = r} {ks} {bs} {ls} {ms} {is} {ks'} {bs'} {ls'} {ms'} {is'} en ec et el eo em x =
    subst (λ (q : Result (List QPtrOp)). Wrote 0 q r ks bs ls ms is ks' bs' ls' ms' is') (rw (en, ec, et, el, eo, em)) x

-- ---- what is asked

module _ (table : List ℕ) (op ptr : ℕ) (s : List ℕ) where
  abbrev is : List Index
  is = indices_in (words_of s)

  pub no_op : op_of op ≡ None → asked_in table op ptr s ≡ refused misread
  unfolding asked_in ◌>>=◌
  no_op e = rw e

  module _ (o : ChainOp) (is_op : op_of op ≡ Some o) where
    pub not_formed : formed_bytes s ≡ false → asked_in table op ptr s ≡ refused misread
    unfolding asked_in indices_of ◌>>=◌ ◌>>◌ refuse◌unless◌
    not_formed f = rw (is_op, f)

    module _ (f : formed_bytes s ≡ true) where
      pub no_type : count_in table ≤ ptr → asked_in table op ptr s ≡ refused misread
      unfolding asked_in indices_of ◌>>=◌ ◌>>◌ refuse◌unless◌
      no_type h = rw (is_op, f, le-ltb ptr (count_in table) h)

      pub too_long : ptr < count_in table → 255 < length s / 8 → asked_in table op ptr s ≡ refused oversize
      unfolding asked_in indices_of ◌>>=◌ ◌>>◌ refuse◌unless◌ refuse◌when◌
      too_long h g = let c = bytes_count s in rw (is_op, f, lt-ltb ptr (count_in table) h, lt-ltb max_indices (length is) (omega arith))

      pub all_good : ptr < count_in table → length s / 8 ≤ 255 → asked_in table op ptr s ≡ ok o
      unfolding asked_in indices_of ◌>>=◌ ◌>>◌ refuse◌unless◌ refuse◌when◌
      all_good h g = let c = bytes_count s in rw (is_op, f, lt-ltb ptr (count_in table) h, le-ltb max_indices (length is) (omega arith))

  -- the steps, once it is known what is asked
  pub by_asked : (room : ℕ) → chain_in room table op ptr s ≡ (asked_in table op ptr s >>= λ o. chain_at room table o ptr is)
  unfolding chain_in asked_in chain_at indices_of ◌>>=◌ ◌>>◌ refuse◌unless◌ refuse◌when◌
  by_asked room = by (op_of op) (formed_bytes s) (ltb ptr (count_in table)) (ltb max_indices (length is)) refl refl refl refl
    where
      by : (r : Option ChainOp) (f t m : Bool) → op_of op ≡ r → formed_bytes s ≡ f → ltb ptr (count_in table) ≡ t → ltb max_indices (length is) ≡ m
          → chain_in room table op ptr s ≡ (asked_in table op ptr s >>= λ o. chain_at room table o ptr is)
      by None f t m e g h i = rw e
      by (Some o) false t m e g h i = rw (e, g)
      by (Some o) true false m e g h i = rw (e, g, h)
      by (Some o) true true true e g h i = rw (e, g, h, i)
      by (Some o) true true false e g h i = rw (e, g, h, i)

  pub was_refused : (room e : ℕ) → asked_in table op ptr s ≡ refused e → chain_in room table op ptr s ≡ refused e
  unfolding ◌>>=◌
  was_refused room e h = by_asked room ∙ ap (λ (a : Result ChainOp). a >>= λ o. chain_at room table o ptr is) h

  -- what is known of a chain that is asked
  pub record Going (o : ChainOp) : Type 0 where
    pub formed : formed_bytes s ≡ true
    pub there : ptr < count_in table
    pub few : length s / 8 ≤ 255
    pub at_op : (room : ℕ) → chain_in room table op ptr s ≡ chain_at room table o ptr is

  whole_bytes : (js : List Index) → indices_of s ≡ ok js → formed_bytes s ≡ true
  unfolding indices_of
  whole_bytes js h = not_refused misread (formed_bytes s) _ h

  read_bytes : (js : List Index) → indices_of s ≡ ok js → js ≡ is
  unfolding indices_of
  read_bytes js h = sym (value_is (passed _ _ h))

  pub was_asked : (o : ChainOp) → asked_in table op ptr s ≡ ok o → Going o
  unfolding asked_in ◌>>=◌
  was_asked o h =
      let w = went (op_in (op_of op)) _ h in
      let v = went (indices_of s) _ w.rest in
      let c = bytes_count s in
      let j = read_bytes v.value v.here in
      let few : ltb max_indices (length is) ≡ false = rw j at (not_met oversize (ltb max_indices (length v.value)) _ (passed _ _ v.rest)) in
      let most = ltb-false max_indices (length is) few in
      record {
        formed = whole_bytes v.value v.here;
        there = ltb-true ptr (count_in table) (not_refused misread (ltb ptr (count_in table)) _ v.rest);
        few = omega (arith, most, c);
        at_op = λ room. by_asked room ∙ ap (λ (a : Result ChainOp). a >>= λ q. chain_at room table q ptr is) h;
      }

  -- the steps of a chain that is asked, kept in p places
  pub steps_by : (room : ℕ) (o : ChainOp) → asked_in table op ptr s ≡ ok o → (p : ℕ) → places (length s / 8) ≡ p → chain_in room table op ptr s ≡ in_room room length (chain_of p table o ptr (words_of s))
  steps_by room o h p e = let g = was_asked o h in g.at_op room ∙ at_table room table o ptr s g.formed g.there g.few p e

-- what `ask` answers
pub ruleset asking = (no_op, not_formed, no_type, too_long, all_good)

-- which places, by the bytes of the indices
pub short : (s : List ℕ) → length s ≤ 64 → places (length s / 8) ≡ 9
short s h = ap (λ (b : Bool). cond {A = ℕ} b 9 256) (le-leb (length s / 8) 8 (omega arith))

module _ (table : List ℕ) (op ptr : ℕ) (s : List ℕ) {o : ChainOp} (h : asked_in table op ptr s ≡ ok o) where
  pub long : 64 < length s → places (length s / 8) ≡ 256
  long g = let e = even s (was_asked table op ptr s o h).formed in ap (λ (b : Bool). cond {A = ℕ} b 9 256) (lt-leb (length s / 8) 8 (omega arith))

  pub at_most : length s ≤ 2040
  at_most = let w = was_asked table op ptr s o h in omega (arith, even s w.formed, w.few)

-- which it was, of what is answered
pub is_refused : {r : Result ChainOp} {e : Refusal} → in_code r ≡ Err e → r ≡ refused e.number
is_refused {r = ok o} h = cc
is_refused {r = refused n} h = cc

pub is_chain : {r : Result ChainOp} {o : ChainOp} → in_code r ≡ Ok o → r ≡ ok o
is_chain {r = ok p} h = cc
is_chain {r = refused n} h = cc

-- ---- in the code's own lists

pub zeros_room : (n : ℕ) → room_of (replicate n 0) (replicate n 0) (replicate n 0) (replicate n 0) (replicate n 0) ≡ n
zeros_room n = omega (arith, length-replicate {A = ℕ} n 0)

module _ (table : List ℕ) (op ptr : ℕ) (s : List ℕ) where
  pub walk_refused : (room e : ℕ) → asked_in table op ptr s ≡ refused e → walk_in room table op ptr s ≡ refused e
  unfolding walk_in ◌>>=◌
  walk_refused room e h = rw h

  pub walk_chain : (room : ℕ) (o : ChainOp) → asked_in table op ptr s ≡ ok o → walk_in room table op ptr s ≡ chain_of room table o ptr (words_of s)
  unfolding walk_in ◌>>=◌
  walk_chain room o h = rw h

  refused_in : (room e : ℕ) → in_room {A = List QPtrOp} room length (refused e) ≡ refused e
  unfolding in_room ◌>>=◌
  refused_in room e = refl

  -- what the caller gets of it, in p places
  in_places : (room p : ℕ) → ((o : ChainOp) → asked_in table op ptr s ≡ ok o → places (length s / 8) ≡ p) → chain_in room table op ptr s ≡ in_room room length (walk_in p table op ptr s)
  in_places room p size = by (asked_in table op ptr s) refl
    where
      by : (a : Result ChainOp) → asked_in table op ptr s ≡ a → chain_in room table op ptr s ≡ in_room room length (walk_in p table op ptr s)
      by (refused e) h = was_refused table op ptr s room e h ∙ sym (refused_in room e) ∙ ap (in_room room length) (sym (walk_refused p e h))
      by (ok o) h = steps_by table op ptr s room o h p (size o h) ∙ ap (in_room room length) (sym (walk_chain p o h))

  pub in_short_lists : (room : ℕ) → length s ≤ 64 → chain_in room table op ptr s ≡ in_room room length (walk_in 9 table op ptr s)
  in_short_lists room h = in_places room 9 λ o a. short s h

  pub in_long_lists : (room : ℕ) → 64 < length s → chain_in room table op ptr s ≡ in_room room length (walk_in 256 table op ptr s)
  in_long_lists room h = in_places room 256 λ o a. long table op ptr s a h

  pub held_in : {room : ℕ} {w : OrRefusal ℕ} {ks bs ls ms is ks' bs' ls' ms' is' : List ℕ} → room_of ks bs ls ms is ≡ room
      → Wrote 0 (walk_in (room_of ks bs ls ms is) table op ptr s) w ks bs ls ms is ks' bs' ls' ms' is' → held_by w ks' bs' ls' ms' is' ≡ walk_in room table op ptr s
  held_in {w = w} {ks} {bs} {ls} {ms} {is} {ks'} {bs'} {ls'} {ms'} {is'} wide x = by (asked_in table op ptr s) refl ∙ ap (λ k. walk_in k table op ptr s) wide
    where
      room : ℕ
      room = room_of ks bs ls ms is

      by : (a : Result ChainOp) → asked_in table op ptr s ≡ a → held_by w ks' bs' ls' ms' is' ≡ walk_in room table op ptr s
      by (refused e) h =
          let q = walk_refused room e h in
          ap (λ (v : OrRefusal ℕ). held_by v ks' bs' ls' ms' is') (x.says ∙ ap (walk_of 0) q) ∙ sym q
      by (ok o) h =
          let q = walk_chain room o h in
          held_is room (setting_in table) (count_in table) (types_in table) (layouts_in table) (places_in table) (members_in table) o ptr (words_of s)
          (subst (λ (r : Result (List QPtrOp)). Wrote 0 r w ks bs ls ms is ks' bs' ls' ms' is') q x) (omega arith) ∙ sym q

  -- what a walk wrote is what was asked
  pub wrote_refused : (room e : ℕ) → asked_in table op ptr s ≡ refused e → (ks bs ls ms is : List ℕ) → Wrote 0 (walk_in room table op ptr s) (err e) ks bs ls ms is ks bs ls ms is
  wrote_refused room e h ks bs ls ms is =
      let q = walk_refused room e h in
      record { says = rw q; stored = rw q record { kinds = refl; bytes = refl; bounds = refl; marks = refl; indices = refl } }

  pub walked_chain : (room : ℕ) {o : ChainOp} → asked_in table op ptr s ≡ ok o → {words : List ℕ} → words ≡ words_of s → {r : OrRefusal ℕ} {ks bs ls ms is ks' bs' ls' ms' is' : List ℕ}
      → Wrote 0 (chain_of room table o ptr words) r ks bs ls ms is ks' bs' ls' ms' is' → Wrote 0 (walk_in room table op ptr s) r ks bs ls ms is ks' bs' ls' ms' is'
  walked_chain room {o} h e {r} {ks} {bs} {ls} {ms} {is} {ks'} {bs'} {ls'} {ms'} {is'} x =
      subst (λ (q : Result (List QPtrOp)). Wrote 0 q r ks bs ls ms is ks' bs' ls' ms' is')
      (ap (λ (v : List ℕ). chain_of room table o ptr v) e ∙ sym (walk_chain room o h)) x

pub by_result : {a b : Result (List QPtrOp)} {r : OrRefusal ℕ} {old new : List ℕ} → a ≡ b → Lowered b r old new → Lowered a r old new
by_result {a} {b} {r} {old} {new} e x = subst (λ (o : Result (List QPtrOp)). Lowered o r old new) (sym e) x
