-- Laws of what a walk answers and leaves: refused, with room or without, and steps in front of others. Assumes nothing.
use Prim.Native.Nat.{ℕ, ◌+◌, ◌<◌, ◌≤◌}
use native.Mathlib.Omega.{arith}
use mathlib.Core.Path.{◌≡◌, refl, sym, ap, ◌∙◌, subst}
use mathlib.Core.Bool.{Bool, true, false}
use mathlib.Core.List.{List, [], ◌∷◌, ◌++◌}
use lib.Dec.{ltb}
use lib.ListN.{length, length-append}
use borrow.Author.Tests.{lt-ltb, le-ltb}
use Rattle.std.specs.Prelude.{None, Some, Ok}
use Rattle.arith.specs.Refusals.{Result, ok, refused, ◌>>=◌, ◌>>◌, refuse◌when◌, in_room, short_list}
use Rattle.arith.specs.InCode.{OrRefusal, err}
use Rattle.lower.specs.declared.QPtrOp.{QPtrOp}
use Rattle.lower.specs.Steps.{Pending, flush}
use Rattle.steps.specs.Stored.{StoredAt}
use Rattle.steps.proofs.Stored.{in_front, none_stored}
use Rattle.moves.specs.Written.{before, in_room_behind, Wrote, in_front_of, Prefixed, after_of}

-- ---- room

pub no_room : (room n : ℕ) (steps : List QPtrOp) → room < n + length steps → in_room_behind room n (ok steps) ≡ refused short_list
unfolding in_room_behind in_room ◌>>=◌ ◌>>◌ refuse◌when◌
no_room room n steps h = rw (lt-ltb room (n + length steps) h)

pub has_room : (room n : ℕ) (steps : List QPtrOp) → n + length steps ≤ room → in_room_behind room n (ok steps) ≡ ok steps
unfolding in_room_behind in_room ◌>>=◌ ◌>>◌ refuse◌when◌
has_room room n steps h = rw (le-ltb room (n + length steps) h)

pub stays_refused : (room n e : ℕ) → in_room_behind room n (refused e) ≡ refused e
unfolding in_room_behind in_room ◌>>=◌
stays_refused room n e = refl

-- ---- what is written

pub refused_wrote : (n e : ℕ) (r : Result (List QPtrOp)) (k b l m i : List ℕ) → r ≡ refused e → Wrote n r (err e) k b l m i k b l m i
refused_wrote n e r k b l m i h = rw h record { says = refl; stored = none_stored n k b l m i }

pub ok_wrote : (n total : ℕ) (r : Result (List QPtrOp)) (steps : List QPtrOp) (k b l m i k' b' l' m' i' : List ℕ) → r ≡ ok steps → total ≡ n + length steps
    → StoredAt n steps k b l m i k' b' l' m' i' → Wrote n r (Ok total) k b l m i k' b' l' m' i'
ok_wrote n total r steps k b l m i k' b' l' m' i' h t s = rw h record { says = ap Ok t; stored = s }

-- ---- the end of a chain

after_is : (p : Pending) (n : ℕ) → n + length (flush p []) ≡ after_of p n
after_is None n = omega arith
after_is (Some z) n = omega arith

pub short_of_room : (p : Pending) (room n : ℕ) (k b l m i : List ℕ) → room < after_of p n → Wrote n (in_room_behind room n (ok (flush p []))) (err short_list) k b l m i k b l m i
short_of_room p room n k b l m i h = refused_wrote n short_list _ k b l m i (no_room room n (flush p []) (omega (arith, h, after_is p n)))

pub ended : (p : Pending) (room n : ℕ) (k b l m i k' b' l' m' i' : List ℕ) → after_of p n ≤ room → StoredAt n (flush p []) k b l m i k' b' l' m' i'
    → Wrote n (in_room_behind room n (ok (flush p []))) (Ok (after_of p n)) k b l m i k' b' l' m' i'
ended p room n k b l m i k' b' l' m' i' h s = ok_wrote n _ _ (flush p []) k b l m i k' b' l' m' i' (has_room room n (flush p []) (omega (arith, h, after_is p n))) (sym (after_is p n)) s

-- ---- steps in front of those of a walk

pub length_flush : (p : Pending) (s : QPtrOp) (n : ℕ) → n + length (flush p (s ∷ [])) ≡ after_of p n + 1
length_flush None s n = refl
length_flush (Some z) s n = omega arith

-- room behind steps is room for all
pub room_before : (room n m : ℕ) (steps : List QPtrOp) (r : Result (List QPtrOp)) → n + length steps ≡ m → in_room_behind room n (before steps r) ≡ before steps (in_room_behind room m r)
unfolding in_room_behind in_room ◌>>=◌ ◌>>◌ refuse◌when◌
room_before room n m steps (refused e) h = refl
room_before room n m steps (ok rest) h =
    ap (λ (k : ℕ). (refuse short_list when ltb room k) >> ok (steps ++ rest)) (omega (arith, length-append steps rest)) ∙ by (ltb room (m + length rest))
  where
    by : (t : Bool) → ((refuse short_list when t) >> ok (steps ++ rest)) ≡ before steps ((refuse short_list when t) >> ok rest)
    by true = refl
    by false = refl

pub prefixed : (room n m : ℕ) (p : Pending) (s : QPtrOp) (r : Result (List QPtrOp)) (w x : OrRefusal ℕ) (k₀ b₀ l₀ m₀ i₀ k₁ b₁ l₁ m₁ i₁ k₂ b₂ l₂ m₂ i₂ : List ℕ)
    → m ≡ after_of p n + 1 → Wrote m (in_room_behind room m r) w k₀ b₀ l₀ m₀ i₀ k₁ b₁ l₁ m₁ i₁ → Prefixed w p s n x k₁ b₁ l₁ m₁ i₁ k₂ b₂ l₂ m₂ i₂
    → Wrote n (in_room_behind room n (before (flush p (s ∷ [])) r)) x k₀ b₀ l₀ m₀ i₀ k₂ b₂ l₂ m₂ i₂
prefixed room n m p s r w x k₀ b₀ l₀ m₀ i₀ k₁ b₁ l₁ m₁ i₁ k₂ b₂ l₂ m₂ i₂ e h g =
    let front = flush p (s ∷ []) in
    let long : n + length front ≡ m = length_flush p s n ∙ sym e in
    subst (λ (y : Result (List QPtrOp)). Wrote n y x k₀ b₀ l₀ m₀ i₀ k₂ b₂ l₂ m₂ i₂) (sym (room_before room n m front r long)) (by (in_room_behind room m r) h)
  where
    by : (q : Result (List QPtrOp)) → Wrote m q w k₀ b₀ l₀ m₀ i₀ k₁ b₁ l₁ m₁ i₁ → Wrote n (before (flush p (s ∷ [])) q) x k₀ b₀ l₀ m₀ i₀ k₂ b₂ l₂ m₂ i₂
    by (refused y) a = record {
      says = g.says ∙ a.says;
      stored = in_front [] [] n k₀ b₀ l₀ m₀ i₀ k₁ b₁ l₁ m₁ i₁ k₂ b₂ l₂ m₂ i₂
          (elsewhere a.stored) (subst (λ (v : OrRefusal ℕ). StoredAt n (in_front_of v (flush p (s ∷ []))) k₁ b₁ l₁ m₁ i₁ k₂ b₂ l₂ m₂ i₂) a.says g.stored);
    }
      where
        elsewhere : StoredAt m [] k₀ b₀ l₀ m₀ i₀ k₁ b₁ l₁ m₁ i₁ → StoredAt (n + 0) [] k₀ b₀ l₀ m₀ i₀ k₁ b₁ l₁ m₁ i₁
        elsewhere z = record { kinds = z.kinds; bytes = z.bytes; bounds = z.bounds; marks = z.marks; indices = z.indices }
    by (ok rest) a = record {
      says = g.says ∙ a.says ∙ ap Ok (omega (arith, length-append (flush p (s ∷ [])) rest, length_flush p s n));
      stored = in_front (flush p (s ∷ [])) rest n k₀ b₀ l₀ m₀ i₀ k₁ b₁ l₁ m₁ i₁ k₂ b₂ l₂ m₂ i₂
          (subst (λ (j : ℕ). StoredAt j rest k₀ b₀ l₀ m₀ i₀ k₁ b₁ l₁ m₁ i₁) (sym (length_flush p s n ∙ sym e)) a.stored)
          (subst (λ (v : OrRefusal ℕ). StoredAt n (in_front_of v (flush p (s ∷ []))) k₁ b₁ l₁ m₁ i₁ k₂ b₂ l₂ m₂ i₂) a.says g.stored);
    }
