-- What a field that keeps its kind says: numbers fit 32 bits, and types are types above. Assumes nothing.
use Prim.Native.Nat.{ℕ, ◌<◌}
use Prim.Native.Char.{code}
use mathlib.Core.Path.{◌≡◌, refl, subst}
use mathlib.Core.Bool.{Bool, true, false, cond}
use mathlib.Core.List.{List, [], ◌∷◌}
use mathlib.Core.Option.{Option, none, some}
use lib.Dec.{ltb, eqb}
use borrow.Author.Tests.{ltb-true}
use Rattle.arith.specs.Options.{◌>>=◌}
use Rattle.arith.proofs.Results.{no_some, some_is}
use Rattle.decimal.specs.Text.{bytes, same}
use Rattle.decimal.specs.Decimal.{read_number}
use Rattle.decimal.proofs.OneForm.{one_form}
use Rattle.sheet.specs.Fields.{read_type, read_length, read_stride, read_index, read_decoration, read_all}
use Rattle.sheet.specs.Statements.{Fits, All, FitsLength, FitsStride, FitsValue, FitsIndex}

-- ---- options whose value, if there is one, has P

pub record Gives {A : Type 0} (P : A → Type 0) (o : Option A) : Type 0 where
  pub value : (a : A) → o ≡ some a → P a

pub gives_none : {A : Type 0} {P : A → Type 0} → Gives P none
gives_none = record { value = λ a h. absurd (no_some h) }

pub gives : {A : Type 0} {P : A → Type 0} {a : A} → P a → Gives P (some a)
gives {P = P} p = record { value = λ a h. subst P (some_is h) p }

-- whatever it says
pub gives_any : {A : Type 0} (o : Option A) → Gives (λ a. Unit {0}) o
gives_any o = record { value = λ a h. tt }

pub gives_then : {A B : Type 0} {P : A → Type 0} {Q : B → Type 0} (o : Option A) (next : A → Option B)
    → Gives P o → ((a : A) → P a → Gives Q (next a)) → Gives Q (o >>= next)
unfolding ◌>>=◌
gives_then none next g n = gives_none
gives_then (some a) next g n = n a (g.value a refl)

pub gives_either : {A : Type 0} {P : A → Type 0} (t : Bool) {o u : Option A} → Gives P o → Gives P u → Gives P (cond t o u)
gives_either true g h = g
gives_either false g h = h

pub gives_where : {A : Type 0} {P : A → Type 0} (t : Bool) (a : A) → (t ≡ true → P a) → Gives P (cond t (some a) none)
gives_where true a p = gives (p refl)
gives_where false a p = gives_none

-- ---- each kind

pub number_fits : (f : List ℕ) → Gives Fits (read_number f)
number_fits f = record { value = λ n h. (one_form f n h).fits }

pub type_above : (above : ℕ) (f : List ℕ) → Gives (λ n. n < above) (read_type above f)
unfolding read_type
type_above above f = gives_then (read_number f) _ (number_fits f) (λ n p. gives_where (ltb n above) n (ltb-true n above))

pub length_fits : (f : List ℕ) → Gives FitsLength (read_length f)
unfolding read_length
length_fits f = gives_either (same f (bytes "s")) (gives tt) (gives_then (read_number f) _ (number_fits f) (λ n p. gives p))

pub stride_fits : (f : List ℕ) → Gives FitsStride (read_stride f)
unfolding read_stride
stride_fits f = gives_either (same f (bytes "-")) (gives tt) (gives_then (read_number f) _ (number_fits f) (λ n p. gives p))

pub index_fits : (f : List ℕ) → Gives FitsIndex (read_index f)
unfolding read_index
index_fits [] = gives_none
index_fits (b ∷ bs) =
    gives_either (eqb b (code "v"))
    (gives_then (read_number bs) _ (number_fits bs) (λ n p. gives p))
    (gives_then (read_number (b ∷ bs)) _ (number_fits (b ∷ bs)) (λ n p. gives p))

pub value_fits : (f g : List ℕ) → Gives FitsValue (read_decoration f g)
unfolding read_decoration
value_fits f g =
    gives_either (same f (bytes "4")) (gives_either (same g (bytes "-")) (gives tt) gives_none)
    (gives_either (same f (bytes "35")) (gives_then (read_number g) _ (number_fits g) (λ n p. gives p)) gives_none)

pub all_fit : {A : Type 0} {P : A → Type 0} (read : List ℕ → Option A) → ((f : List ℕ) → Gives P (read f)) → (fs : List (List ℕ)) → Gives (All P) (read_all read fs)
all_fit read g [] = gives tt
all_fit read g (f ∷ fs) = gives_then (read f) _ (g f) (λ a p. gives_then (read_all read fs) _ (all_fit read g fs) (λ rest ps. gives (p, ps)))
