-- From what a lookup says to what was asked. Assumes nothing.
use Prim.Native.Nat.{ℕ, ◌+◌, ◌≤◌}
use native.Mathlib.Omega.{arith}
use mathlib.Core.Path.{◌≡◌, refl, sym, ap, ◌∙◌}
use mathlib.Core.List.{List, ◌++◌}
use lib.ListN.{length, take, drop, length-append}
use lib.Seq.{sets, sets-eq, take_at}
use Rattle.arith.specs.Pairs.{both}
use Rattle.arith.specs.Refusals.{Result, ok, refused, in_room}
use Rattle.arith.proofs.Results.{in_room_lem}
use Rattle.components.specs.Found.{lookup_both, answered_in}
use Rattle.std.specs.Prelude.{Ok, Err}
use Rattle.arith.specs.InCode.{OrRefusal, err}
use Rattle.arith.specs.declared.refusal.Refusal.{Refusal}

-- so many were found, and stand in front of the list
pub record FoundAs (room : ℕ) (r : Result (List ℕ)) (count : ℕ) (new : List ℕ) : Type 0 where
  pub fits : count ≤ length new
  pub found : in_room room length r ≡ ok (take count new)

module _ (old : List ℕ) (r : Result (List ℕ)) {x : OrRefusal ℕ} {new : List ℕ} (h : both x new ≡ answered_in old r) where
  pub found_as : (count : ℕ) → x ≡ Ok count → FoundAs (length old) r count new
  unfolding lookup_both
  found_as count e = by (in_room (length old) length r) refl (ap (λ (y : OrRefusal ℕ). both y new) (sym e) ∙ h)
    where
      by : (q : Result (List ℕ)) → in_room (length old) length r ≡ q → both (Ok count) new ≡ lookup_both old q → FoundAs (length old) r count new
      by (ok l) g k =
          let c : Ok count ≡ Ok (length l) = ap (λ (p : OrRefusal ℕ × List ℕ). p.0) k in
          let n : new ≡ sets old 0 l = ap (λ (p : OrRefusal ℕ × List ℕ). p.1) k in
          let size : count ≡ length l = cc in
          let fit = in_room_lem (length old) length r g in
          let s : new ≡ l ++ drop (0 + length l) old = n ∙ sets-eq l old 0 (omega arith) in
          let t : take count new ≡ l = rw (s, size) (take_at l (drop (0 + length l) old) (length l) refl) in
          record { fits = omega (arith, ap length s, length-append l (drop (0 + length l) old)); found = rw t g }
      by (refused n) g k = absurd (let c : Ok count ≡ err n = ap (λ (p : OrRefusal ℕ × List ℕ). p.0) k in let z : ◌≡◌ {A = ℕ} 0 1 = cc in omega arith)

  pub refused_as : (e : Refusal) → x ≡ Err e → in_room (length old) length r ≡ refused e.number
  unfolding lookup_both
  refused_as e i = by (in_room (length old) length r) refl (ap (λ (y : OrRefusal ℕ). both y new) (sym i) ∙ h)
    where
      number_in : OrRefusal ℕ → ℕ
      number_in (Ok n) = 0
      number_in (Err f) = f.number

      by : (q : Result (List ℕ)) → in_room (length old) length r ≡ q → both (Err e) new ≡ lookup_both old q → in_room (length old) length r ≡ refused e.number
      by (ok l) g k = absurd (let c : Err e ≡ Ok (length l) = ap (λ (p : OrRefusal ℕ × List ℕ). p.0) k in let z : ◌≡◌ {A = ℕ} 0 1 = cc in omega arith)
      by (refused m) g k = let z : e.number ≡ m = ap (λ (p : OrRefusal ℕ × List ℕ). number_in p.0) k in rw z g
