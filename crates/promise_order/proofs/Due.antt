-- Laws of tests in their order, one for each form of a refusal. Assumes nothing.
use Prim.Native.Nat.{ℕ}
use mathlib.Core.Path.{◌≡◌, refl, sym, ◌∙◌}
use mathlib.Core.Bool.{Bool, true, false, not, cond}
use mathlib.Core.List.{List, [], ◌∷◌, ◌++◌}
use mathlib.Core.Option.{none, some}
use native.Mathlib.Omega.{arith}
use lib.Dec.{leb}
use Rattle.arith.specs.Refusals.{Result, ok, refused, ◌>>=◌, ◌>>◌, refuse◌when◌, refuse◌unless◌, overflow}
use Rattle.arith.specs.Numbers.{max_u32, fit}
use Rattle.promise_order.specs.Due.{Test, ◌due-where◌, first, refusal_of, InOrder, own, behind, large}

pub fine : {A : Type 0} {a : A} → InOrder (ok a) []
unfolding first refusal_of
fine = record { comes = refl }

pub always : {A : Type 0} (n : ℕ) → InOrder {A = A} (refused n) (n due-where true ∷ [])
unfolding first refusal_of
always n = record { comes = refl }

-- a result alone
pub alone : {A : Type 0} (r : Result A) → InOrder r (own r ∷ [])
unfolding first refusal_of
alone (ok a) = record { comes = refl }
alone (refused n) = record { comes = refl }

-- ---- one result behind another

none_first : (ts us : List Test) → first ts ≡ none → first (ts ++ us) ≡ first us
unfolding first
none_first [] us h = refl
none_first (t ∷ ts) us h = by t.holds (none_first ts us) h
  where
    by : (b : Bool) → (first ts ≡ none → first (ts ++ us) ≡ first us) → cond b (some t.number) (first ts) ≡ none → cond b (some t.number) (first (ts ++ us)) ≡ first us
    by true f g = let z : ◌≡◌ {A = ℕ} 0 1 = cc in absurd (omega arith)
    by false f g = f g

some_first : (ts us : List Test) (n : ℕ) → first ts ≡ some n → first (ts ++ us) ≡ some n
unfolding first
some_first [] us n h = let z : ◌≡◌ {A = ℕ} 0 1 = cc in absurd (omega arith)
some_first (t ∷ ts) us n h = by t.holds (some_first ts us n) h
  where
    by : (b : Bool) → (first ts ≡ some n → first (ts ++ us) ≡ some n) → cond b (some t.number) (first ts) ≡ some n → cond b (some t.number) (first (ts ++ us)) ≡ some n
    by true f g = g
    by false f g = f g

pub then : {A B : Type 0} (r : Result A) (next : A → Result B) (ts us : List Test) → InOrder r ts → ((a : A) → r ≡ ok a → InOrder (next a) us) → InOrder (r >>= next) (ts ++ us)
unfolding ◌>>=◌ refusal_of
then (ok a) next ts us h f = record { comes = (f a refl).comes ∙ sym (none_first ts us (sym h.comes)) }
then (refused n) next ts us h f = record { comes = sym (some_first ts us n (sym h.comes)) }

-- its own refusal, and what is tested of its value
pub then_own : {A B : Type 0} (r : Result A) (next : A → Result B) (tests : A → List Test) → ((a : A) → r ≡ ok a → InOrder (next a) (tests a)) → InOrder (r >>= next) (own r ∷ behind r tests)
unfolding ◌>>=◌ refusal_of first
then_own (ok a) next tests f = record { comes = (f a refl).comes }
then_own (refused n) next tests f = record { comes = refl }

-- and more behind these
pub then_both : {A B : Type 0} (r : Result A) (next : A → Result B) (tests : A → List Test) (us : List Test) → ((a : A) → r ≡ ok a → InOrder (next a) (tests a ++ us)) → InOrder (r >>= next) (own r ∷ (behind r tests ++ us))
unfolding ◌>>=◌ refusal_of first
then_both (ok a) next tests us f = record { comes = (f a refl).comes }
then_both (refused n) next tests us f = record { comes = refl }

-- what is tested of a value whose result's tests stand before
pub then_behind : {A B : Type 0} (r : Result A) (next : A → Result B) (ts : List Test) (tests : A → List Test) → InOrder r ts → ((a : A) → r ≡ ok a → InOrder (next a) (tests a)) → InOrder (r >>= next) (ts ++ behind r tests)
unfolding ◌>>=◌ refusal_of
then_behind (ok a) next ts tests h f = record { comes = (f a refl).comes ∙ sym (none_first ts (tests a) (sym h.comes)) }
then_behind (refused n) next ts tests h f = record { comes = sym (some_first ts [] n (sym h.comes)) }

-- a last value changes nothing
pub then_value : {A B : Type 0} (r : Result A) (next : A → B) (ts : List Test) → InOrder r ts → InOrder (r >>= λ a. ok (next a)) ts
unfolding ◌>>=◌ refusal_of
then_value (ok a) next ts h = record { comes = h.comes }
then_value (refused n) next ts h = record { comes = h.comes }

-- ---- single tests

pub then_when : {B : Type 0} (n : ℕ) (t : Bool) (next : Result B) (us : List Test) → (t ≡ false → InOrder next us) → InOrder ((refuse n when t) >> next) (n due-where t ∷ us)
unfolding ◌>>◌ refuse◌when◌ refusal_of first
then_when n true next us h = record { comes = refl }
then_when n false next us h = record { comes = (h refl).comes }

pub then_unless : {B : Type 0} (n : ℕ) (t : Bool) (next : Result B) (us : List Test) → (t ≡ true → InOrder next us) → InOrder ((refuse n unless t) >> next) (n due-where not t ∷ us)
unfolding ◌>>◌ refuse◌unless◌ refusal_of first
then_unless n true next us h = record { comes = (h refl).comes }
then_unless n false next us h = record { comes = refl }

pub then_fit : {B : Type 0} (n : ℕ) (next : ℕ → Result B) (us : List Test) → InOrder (next n) us → InOrder (fit n >>= next) (overflow due-where large n ∷ us)
unfolding fit ◌>>=◌ refusal_of first
then_fit n next us h = record { comes = by (leb n max_u32) }
  where
    by : (t : Bool) → refusal_of (cond t (ok n) (refused overflow) >>= next) ≡ cond (not t) (some overflow) (first us)
    by true = h.comes
    by false = refl
