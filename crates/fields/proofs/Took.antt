-- A field that was taken, and what a form says of it. Assumes nothing.
use Prim.Native.Nat.{ℕ, ◌≤◌}
use native.Mathlib.Omega.{arith}
use mathlib.Core.Path.{◌≡◌, refl, sym, ap, ◌∙◌}
use mathlib.Core.Bool.{Bool, true, false}
use mathlib.Core.List.{List, [], ◌∷◌}
use mathlib.Core.Option.{Option, none}
use lib.ListN.{length}
use lib.Dec.{ltb}
use Rattle.std.specs.Prelude as code
use Rattle.std.specs.Prelude.{Some, None}
use Rattle.std.specs.Bool.{then_some}
use Rattle.arith.specs.Options.{◌>>=◌}
use Rattle.arith.specs.InCode.{as_option}
use Rattle.arith.proofs.Fitting.{some_of, none_of}
use Rattle.decimal.specs.Decimal.{read_number}
use Rattle.spirv.specs.declared.Decoration.{Decoration}
use Rattle.sheet.specs.Fields.{Form, field, read_type, decoration_value, read_decoration}
use Rattle.fields.specs.Pieces.{behind}
use Rattle.fields.specs.Took.{Standing, Got, Lost, Took, GotBoth, LostBoth}
use Rattle.fields.specs.declared.Field.{Field}
use Rattle.fields.proofs.Pieces.{behind_none, behind_next}

-- ---- the next field

here : {line f : List ℕ} {e d : ℕ} → Standing line e f d → behind line e ≡ f ∷ behind line d
here {line} {f} {e} {d} s = behind_next s.inside s.piece ∙ ap (λ (x : List ℕ). x ∷ behind line d) (sym s.says)

same_head : {f g : List ℕ} {fs gs : List (List ℕ)} → f ∷ fs ≡ g ∷ gs → f ≡ g
same_head h = cc

not_empty : (f : List ℕ) (fs : List (List ℕ)) → [] ≡ f ∷ fs → ⊥
not_empty f fs q = let z : ◌≡◌ {A = ℕ} 0 1 = cc in omega arith

module _ {B : Type 0} (read : List ℕ → Option B) {line : List ℕ} {e : ℕ} where
  pub took_none : length line ≤ e → Lost read line e
  took_none h = record { not = λ f fs q. absurd (not_empty f fs (sym (behind_none line e h) ∙ q)) }

  pub took_other : {f : List ℕ} {d : ℕ} → Standing line e f d → None ≡ as_option (read f) → Lost read line e
  took_other {f} s h = record { not = λ g fs q. ap read (sym (same_head (sym (here s) ∙ q))) ∙ none_of (read f) (sym h) }

  pub took : {f : List ℕ} {d : ℕ} {b : B} → Standing line e f d → Some b ≡ as_option (read f) → Got read line e b d
  took {f} s h = record {
    field = f;
    here = here s;
    says = some_of (read f) _ (sym h);
    inside = s.inside;
    later = omega (arith, s.piece.from);
    within = s.piece.within;
  }

pub ruleset next_field = (took_none, took_other, took)

-- ---- a type's number

module _ (above : ℕ) {line : List ℕ} {e : ℕ} where
  pub lost_type : Lost read_number line e → Lost (read_type above) line e
  unfolding read_type ◌>>=◌
  lost_type l = record { not = λ f fs q. rw (l.not f fs q) refl }

  pub took_type : {f : Field ℕ} {r : code.Option (Field ℕ)} → Got read_number line e f.value f.end → r ≡ then_some (ltb f.value above) f → Took (read_type above) line e r
  unfolding read_type ◌>>=◌
  took_type {f} {r} g h = rw h (by (ltb f.value above) refl)
    where
      by : (t : Bool) → ltb f.value above ≡ t → Took (read_type above) line e (then_some t f)
      by true q = record { field = g.field; here = g.here; says = rw (g.says, q) refl; inside = g.inside; later = g.later; within = g.within }
      by false q = record { not = λ a fs p. let i = same_head (sym g.here ∙ p) in rw (← i, g.says, q) refl }

pub ruleset next_type = (lost_type, took_type)

-- ---- what a form says of it

module _ {A B : Type 0} {read : List ℕ → Option B} {line : List ℕ} {e : ℕ} where
  pub got : {b : B} {d : ℕ} → Got read line e b d → (next : B → Form A) → field read next (behind line e) ≡ next b (behind line d)
  unfolding ◌>>=◌
  got g next = rw (g.here, g.says)

  pub lost : Lost read line e → (next : B → Form A) → field read next (behind line e) ≡ none
  unfolding ◌>>=◌
  lost l next = go (behind line e) refl
    where
      go : (fs : List (List ℕ)) → behind line e ≡ fs → field read next fs ≡ none
      go [] q = refl
      go (f ∷ fs) q = rw (l.not f fs q)

-- ---- a decoration's two fields

no_two : (f g : List ℕ) (fs : List (List ℕ)) → [] ≡ f ∷ g ∷ fs → ⊥
no_two f g fs q = let z : ◌≡◌ {A = ℕ} 0 1 = cc in omega arith

no_second : (f g : List ℕ) (fs : List (List ℕ)) (h : List ℕ) → h ∷ [] ≡ f ∷ g ∷ fs → ⊥
no_second f g fs h q = let z : ◌≡◌ {A = List (List ℕ)} [] (g ∷ fs) = cc in let y : ◌≡◌ {A = ℕ} 0 1 = cc in omega arith

record Heads (a b f g : List ℕ) : Type 0 where
  first : a ≡ f
  second : b ≡ g

heads : {a b f g : List ℕ} {xs fs : List (List ℕ)} → a ∷ b ∷ xs ≡ f ∷ g ∷ fs → Heads a b f g
heads {a} {b} {f} {g} {xs} {fs} u = record { first = cc; second = let v : ◌≡◌ {A = List (List ℕ)} (b ∷ xs) (g ∷ fs) = cc in (cc) }

module _ {line : List ℕ} {e : ℕ} where
  pub both_none : length line ≤ e → LostBoth line e
  both_none h = record { not = λ f g fs q. absurd (no_two f g fs (sym (behind_none line e h) ∙ q)) }

  pub both_one : {a : List ℕ} {d : ℕ} → Standing line e a d → length line ≤ d → LostBoth line e
  both_one {a} {d} s k = record { not = λ f g fs q. absurd (no_second f g fs a (sym (here s ∙ ap (λ (x : List (List ℕ)). a ∷ x) (behind_none line d k)) ∙ q)) }

  module _ {a b : List ℕ} {d k : ℕ} (s : Standing line e a d) (t : Standing line d b k) where
    two : behind line e ≡ a ∷ b ∷ behind line k
    two = here s ∙ ap (λ (x : List (List ℕ)). a ∷ x) (here t)

    pub both_other : None ≡ as_option (read_decoration a b) → LostBoth line e
    both_other h = record { not = λ f g fs q. let i = heads (sym two ∙ q) in rw (← i.first, ← i.second) (none_of (read_decoration a b) (sym h)) }

    pub both : {c : Decoration} → Some c ≡ as_option (read_decoration a b) → GotBoth line e c k
    both h = record { first = a; second = b; here = two; says = some_of (read_decoration a b) _ (sym h) }

pub ruleset next_two = (both_none, both_other, both)

module _ {A : Type 0} {line : List ℕ} {e : ℕ} where
  pub got_both : {b : Decoration} {d : ℕ} → GotBoth line e b d → (next : Decoration → Form A) → decoration_value next (behind line e) ≡ next b (behind line d)
  unfolding ◌>>=◌
  got_both g next = rw (g.here, g.says)

  pub lost_both : LostBoth line e → (next : Decoration → Form A) → decoration_value next (behind line e) ≡ none
  unfolding ◌>>=◌
  lost_both l next = go (behind line e) refl
    where
      go : (fs : List (List ℕ)) → behind line e ≡ fs → decoration_value next fs ≡ none
      go [] q = refl
      go (f ∷ []) q = refl
      go (f ∷ g ∷ fs) q = rw (l.not f g fs q)
