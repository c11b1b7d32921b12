-- A line that is read below some types says the same below more. Assumes nothing.
use Prim.Native.Nat.{ℕ, ◌≤◌, ◌<◌}
use Prim.Native.String.{String}
use native.Mathlib.Omega.{arith}
use mathlib.Core.Path.{◌≡◌, refl, ap}
use mathlib.Core.Bool.{Bool, true, false, cond}
use mathlib.Core.List.{List, [], ◌∷◌}
use mathlib.Core.Option.{Option, none, some}
use borrow.Author.Tests.{ltb-true, lt-ltb}
use lib.Dec.{ltb}
use Rattle.arith.specs.Options.{◌>>=◌}
use Rattle.arith.proofs.Results.{no_some, went_on, let_through}
use Rattle.decimal.specs.Text.{bytes, same, split}
use Rattle.sheet.specs.Fields.{Form, field, read_type, read_all, types}
use Rattle.sheet.specs.Grammar.{Line, declare_struct, grammar, form_of, by_first, read_line}

-- what the one gives the other does too
pub record Keeps {A B : Type 0} (f g : A → Option B) : Type 0 where
  pub value : (a : A) (b : B) → f a ≡ some b → g a ≡ some b

keeps_same : {A B : Type 0} {f : A → Option B} → Keeps f f
keeps_same = record { value = λ a b e. e }

bind_keeps : {A B : Type 0} {o u : Option A} {f g : A → Option B} (b : B) → ((a : A) → o ≡ some a → u ≡ some a) → Keeps f g → (o >>= f) ≡ some b → (u >>= g) ≡ some b
unfolding ◌>>=◌
bind_keeps {A} {B} {o} {u} {f} {g} b h k e = let w = went_on o f e in rw (h w.value w.here) (k.value w.value b w.rest)

field_keeps : {A B : Type 0} {r s : List ℕ → Option B} {f g : B → Form A} → Keeps r s → ((b : B) → Keeps (f b) (g b)) → Keeps (field r f) (field s g)
field_keeps {A} {B} {r} {s} {f} {g} h k = record { value = go }
  where
    go : (fs : List (List ℕ)) (a : A) → field r f fs ≡ some a → field s g fs ≡ some a
    go [] a e = absurd (no_some e)
    go (x ∷ fs) a e = bind_keeps a (λ b q. h.value x b q) (record { value = λ b c q. (k b).value fs c q }) e

module _ (above more : ℕ) (h : above ≤ more) where
  type_keeps : Keeps (read_type above) (read_type more)
  unfolding read_type
  type_keeps = record { value = λ f n e. bind_keeps n (λ a q. q) (record { value = go }) e }
    where
      go : (m n : ℕ) → cond (ltb m above) (some m) none ≡ some n → cond (ltb m more) (some m) none ≡ some n
      go m n e =
          let l = let_through (ltb m above) m n e in
          let k : m < more = omega (arith, ltb-true m above l.holds) in
          rw (lt-ltb m more k) (ap some l.value)

  all_keeps : Keeps (read_all (read_type above)) (read_all (read_type more))
  all_keeps = record { value = go }
    where
      go : (fs : List (List ℕ)) (ts : List ℕ) → read_all (read_type above) fs ≡ some ts → read_all (read_type more) fs ≡ some ts
      go [] ts e = e
      go (f ∷ fs) ts e =
          bind_keeps ts (λ a q. type_keeps.value f a q)
          (record { value = λ a us p. bind_keeps us (λ rest q. go fs rest q) keeps_same p }) e

  types_keeps : {A : Type 0} (next : List ℕ → Option A) → Keeps (types above next) (types more next)
  types_keeps next = record { value = λ fs a e. bind_keeps a (λ ts q. all_keeps.value fs ts q) keeps_same e }

  -- ---- the grammar, row by row

  type_then : {A : Type 0} {f g : ℕ → Form A} → ((b : ℕ) → Keeps (f b) (g b)) → Keeps (field (read_type above) f) (field (read_type more) g)
  type_then k = field_keeps type_keeps k

  as_it_is : {A B : Type 0} (r : List ℕ → Option B) {f g : B → Form A} → ((b : B) → Keeps (f b) (g b)) → Keeps (field r f) (field r g)
  as_it_is r k = field_keeps keeps_same k

-- two lists of forms, each row of which keeps what the other says
abbrev KeepsAll : List (String × Form Line) → List (String × Form Line) → Type 0
KeepsAll [] [] = Unit {0}
KeepsAll [] (b ∷ bs) = ⊥
KeepsAll (a ∷ rest) [] = ⊥
KeepsAll (a ∷ rest) (b ∷ bs) = (a.0 ≡ b.0) × Keeps a.1 b.1 × KeepsAll rest bs

form_keeps : (rows bs : List (String × Form Line)) → KeepsAll rows bs → (first : List ℕ) → Keeps (form_of rows first) (form_of bs first)
form_keeps [] [] k first = keeps_same
form_keeps [] (b ∷ bs) k first = absurd k
form_keeps (a ∷ rows) [] k first = absurd k
form_keeps (a ∷ rows) (b ∷ bs) k first = record { value = λ fs l e. rw (← k.0) (go (form_keeps rows bs k.2 first) (same first (bytes a.0)) fs l e) }
  where
    go : Keeps (form_of rows first) (form_of bs first) → (x : Bool) (fs : List (List ℕ)) (l : Line) → cond x a.1 (form_of rows first) fs ≡ some l → cond x b.1 (form_of bs first) fs ≡ some l
    go r true fs l e = k.1.value fs l e
    go r false fs l e = r.value fs l e

grammar_keeps : (above more : ℕ) → above ≤ more → KeepsAll (grammar above) (grammar more)
unfolding grammar
grammar_keeps above more h = (
  refl,
  keeps_same,
  (
    refl,
    keeps_same,
    (
      refl,
      keeps_same,
      (
        refl,
        keeps_same,
        (
          refl,
          type_then above more h (λ a. keeps_same),
          (
            refl,
            type_then above more h (λ a. keeps_same),
            (
              refl,
              type_then above more h (λ a. keeps_same),
              (
                refl,
                type_then above more h (λ a. keeps_same),
                (
                  refl,
                  as_it_is above more h _ (λ a. as_it_is above more h _ (λ n. types_keeps above more h (λ ms. declare_struct a n ms))),
                  (
                    refl,
                    as_it_is above more h _ (λ a. type_then above more h (λ b. keeps_same)),
                    (
                      refl,
                      keeps_same,
                      (
                        refl,
                        keeps_same,
                        (
                          refl,
                          keeps_same,
                          (
                            refl,
                            type_then above more h (λ a. keeps_same),
                            (
                              refl,
                              type_then above more h (λ a. type_then above more h (λ b. keeps_same)),
                              (
                                refl,
                                type_then above more h (λ a. keeps_same),
                                (
                                  refl,
                                  as_it_is above more h _ (λ a. type_then above more h (λ b. keeps_same)),
                                  (
                                    refl,
                                    type_then above more h (λ a. keeps_same),
                                    (
                                      refl,
                                      type_then above more h (λ a. keeps_same),
                                      tt,
                                    ),
                                  ),
                                ),
                              ),
                            ),
                          ),
                        ),
                      ),
                    ),
                  ),
                ),
              ),
            ),
          ),
        ),
      ),
    ),
  ),
)

pub line_stays : (above more : ℕ) → above ≤ more → (line : List ℕ) (l : Line) → read_line above line ≡ some l → read_line more line ≡ some l
unfolding read_line
line_stays above more h line l e = go (split 44 line) e
  where
    go : (fs : List (List ℕ)) → by_first above fs ≡ some l → by_first more fs ≡ some l
    go [] e = absurd (no_some e)
    go (first ∷ fs) e = (form_keeps (grammar above) (grammar more) (grammar_keeps above more h) first).value fs l e
