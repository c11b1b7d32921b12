-- What a result that is not refused, a value that is not none, or a test that holds says of the steps that led to it. Assumes nothing.
use Prim.Native.Nat.{ℕ, ◌≤◌}
use mathlib.Core.Path.{◌≡◌, refl, ap, subst}
use mathlib.Core.Bool.{Bool, true, false, cond, ◌&&◌, false≢true}
use mathlib.Core.Option.{Option, none, some}
use native.Mathlib.Omega.{arith}
use lib.Dec.{leb, ltb}
use borrow.Author.Tests.{leb-true, ltb-false}
use Rattle.arith.specs.Options as options
use Rattle.arith.specs.Refusals.{Result, ok, refused, ◌>>=◌, ◌>>◌, refuse◌when◌, refuse◌unless◌, in_room, overflow, short_list}
use Rattle.arith.specs.Numbers.{max_u32, fit}

pub never : {A : Type 0} {n : ℕ} {a : A} → ◌≡◌ {A = Result A} (refused n) (ok a) → ⊥
never h = let z : ◌≡◌ {A = ℕ} 0 1 = cc in omega arith

-- two results that are the same have the same value
pub value_is : {A : Type 0} {a b : A} → ◌≡◌ {A = Result A} (ok a) (ok b) → a ≡ b
value_is h = cc

pub number_is : {A : Type 0} {m n : ℕ} → ◌≡◌ {A = Result A} (refused m) (refused n) → m ≡ n
number_is h = cc

-- ---- a value

-- the value that a result went on with
pub record Went {A B : Type 0} (r : Result A) (next : A → Result B) (b : B) : Type 0 where
  pub value : A
  pub here : r ≡ ok value
  pub rest : next value ≡ ok b

pub went : {A B : Type 0} (r : Result A) (next : A → Result B) {b : B} → (r >>= next) ≡ ok b → Went r next b
unfolding ◌>>=◌
went (ok a) next h = record { value = a; here = refl; rest = h }
went (refused n) next h = absurd (never h)

pub passed : {A B : Type 0} (r : Result A) (next : Result B) {b : B} → (r >> next) ≡ ok b → next ≡ ok b
unfolding ◌>>◌
passed (ok a) next h = h
passed (refused n) next h = absurd (never h)

-- a test that was passed
pub not_refused : {B : Type 0} (n : ℕ) (test : Bool) (next : Result B) {b : B} → ((refuse n unless test) >> next) ≡ ok b → test ≡ true
unfolding ◌>>◌ refuse◌unless◌
not_refused n true next h = refl
not_refused n false next h = absurd (never h)

pub not_met : {B : Type 0} (n : ℕ) (test : Bool) (next : Result B) {b : B} → ((refuse n when test) >> next) ≡ ok b → test ≡ false
unfolding ◌>>◌ refuse◌when◌
not_met n true next h = absurd (never h)
not_met n false next h = refl

-- ---- a refusal

pub not_both : {A : Type 0} {n : ℕ} {a : A} → ◌≡◌ {A = Result A} (ok a) (refused n) → ⊥
not_both h = let z : ◌≡◌ {A = ℕ} 0 1 = cc in omega arith

-- every refusal of a result is one of P
pub record RefusedBy {A : Type 0} (P : ℕ → Type 0) (r : Result A) : Type 0 where
  pub only : (n : ℕ) → r ≡ refused n → P n

pub fine_by : {A : Type 0} {P : ℕ → Type 0} {a : A} → RefusedBy P (ok a)
fine_by = record { only = λ n h. absurd (not_both h) }

pub this_by : {A : Type 0} {P : ℕ → Type 0} {n : ℕ} → P n → RefusedBy {A = A} P (refused n)
this_by {P = P} p = record { only = λ m h. subst P (number_is h) p }

pub then_by : {A B : Type 0} {P : ℕ → Type 0} (r : Result A) (next : A → Result B)
    → RefusedBy P r → ((a : A) → r ≡ ok a → RefusedBy P (next a)) → RefusedBy P (r >>= next)
unfolding ◌>>=◌
then_by (ok a) next h f = f a refl
then_by (refused n) next h f = this_by (h.only n refl)

pub and_by : {A B : Type 0} {P : ℕ → Type 0} (r : Result A) (next : Result B) → RefusedBy P r → RefusedBy P next → RefusedBy P (r >> next)
unfolding ◌>>◌
and_by (ok a) next h f = f
and_by (refused n) next h f = this_by (h.only n refl)

pub unless_by : {P : ℕ → Type 0} (n : ℕ) (test : Bool) → P n → RefusedBy P (refuse n unless test)
unfolding refuse◌unless◌
unless_by n true p = fine_by
unless_by n false p = this_by p

pub when_by : {P : ℕ → Type 0} (n : ℕ) (test : Bool) → P n → RefusedBy P (refuse n when test)
unfolding refuse◌when◌
when_by n true p = this_by p
when_by n false p = fine_by

pub fit_by : {P : ℕ → Type 0} (n : ℕ) → P overflow → RefusedBy P (fit n)
unfolding fit
fit_by {P = P} n p = by_test (leb n max_u32)
  where
    by_test : (t : Bool) → RefusedBy P (cond t (ok n) (refused overflow))
    by_test true = fine_by
    by_test false = this_by p

-- a wider P
pub wider_by : {A : Type 0} {P Q : ℕ → Type 0} {r : Result A} → ((n : ℕ) → P n → Q n) → RefusedBy P r → RefusedBy Q r
wider_by f h = record { only = λ n e. f n (h.only n e) }

-- ---- 32 bits

pub record Fit (n m : ℕ) : Type 0 where
  pub same : m ≡ n
  pub fits : m ≤ max_u32

pub fit_is : (n m : ℕ) → fit n ≡ ok m → Fit n m
unfolding fit
fit_is n m h = by_test (leb n max_u32) refl h
  where
    by_test : (t : Bool) → leb n max_u32 ≡ t → cond t (ok n) (refused overflow) ≡ ok m → Fit n m
    by_test true e g = let z : n ≡ m = cc in record { same = omega arith; fits = omega (arith, leb-true n max_u32 e) }
    by_test false e g = absurd (never g)

-- ---- options

pub no_some : {A : Type 0} {a : A} → ◌≡◌ {A = Option A} none (some a) → ⊥
no_some h = let z : ◌≡◌ {A = ℕ} 0 1 = cc in omega arith

pub some_is : {A : Type 0} {a b : A} → ◌≡◌ {A = Option A} (some a) (some b) → a ≡ b
some_is h = cc

pub record WentOn {A B : Type 0} (o : Option A) (next : A → Option B) (b : B) : Type 0 where
  pub value : A
  pub here : o ≡ some value
  pub rest : next value ≡ some b

pub went_on : {A B : Type 0} (o : Option A) (next : A → Option B) {b : B} → options.◌>>=◌ o next ≡ some b → WentOn o next b
unfolding options.◌>>=◌
went_on (some a) next h = record { value = a; here = refl; rest = h }
went_on none next h = absurd (no_some h)

-- ---- tests

pub first_true : (a b : Bool) → a && b ≡ true → a ≡ true
first_true true b h = refl
first_true false b h = h

pub second_true : (a b : Bool) → a && b ≡ true → b ≡ true
second_true true b h = h
second_true false b h = absurd (false≢true h)

-- what a test that holds lets through
pub record Let {A : Type 0} (t : Bool) (a b : A) : Type 0 where
  pub holds : t ≡ true
  pub value : a ≡ b

pub let_through : {A : Type 0} (t : Bool) (a b : A) → cond t (some a) none ≡ some b → Let t a b
let_through true a b h = record { holds = refl; value = some_is h }
let_through false a b h = absurd (no_some h)

-- what is held in a room is no longer than it
pub in_room_lem : {A : Type 0} (room : ℕ) (count : A → ℕ) (r : Result A) {a : A} → in_room room count r ≡ ok a → count a ≤ room
unfolding in_room
in_room_lem room count r {a} h =
    let w = went r _ h in
    let f = not_met short_list (ltb room (count w.value)) (ok w.value) w.rest in
    let e = value_is (passed (refuse short_list when ltb room (count w.value)) (ok w.value) w.rest) in
    omega (arith, ltb-false room (count w.value) f, ap count e)
