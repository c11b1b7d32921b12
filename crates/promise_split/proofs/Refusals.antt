-- By which numbers the whole and the parts of a chain are refused: alike, but for 23. Assumes nothing.
use Prim.Native.Nat.{ℕ}
use mathlib.Core.Path.{◌≡◌, refl, sym, ap, ◌∙◌, subst}
use mathlib.Core.List.{List, [], ◌∷◌, ◌++◌}
use mathlib.Core.Logic.{inl, inr}
use lib.IntN.{pos}
use Rattle.std.specs.Prelude.{None}
use Rattle.arith.specs.Refusals.{Result, ok, refused, ◌>>=◌}
use Rattle.arith.proofs.Results.{never, not_both}
use Rattle.spirv.specs.declared.ChainOp.{ChainOp}
use Rattle.spirv.specs.declared.Index.{Index}
use Rattle.shapes.specs.Shapes.{TypeLayout}
use Rattle.sheet.specs.Sheet.{Sheet, pointee_in}
use Rattle.layout.specs.Arrays.{Answer}
use Rattle.layout.specs.Layouts.{answer_in}
use Rattle.lower.specs.declared.QPtrOp.{QPtrOp}
use Rattle.lower.specs.Steps.{Pending, Move, move, lower_from}
use Rattle.lower.specs.Chain.{start_layout, chain_by, lower_chain}
use Rattle.lower.specs.Statements.{Accepted}
use Rattle.promise.specs.Meaning.{Values}
use Rattle.promise.specs.Walk.{type_no, layout_at, Place}
use Rattle.promise_split.specs.Parts.{lower_from_type}
use Rattle.promise_split.specs.Statements.{Reaches, ThroughPointer, AlikeBut23, SplitRefusals, AcceptedOr23, WholeOr23, PartsOr23, FirstRefused}
use Rattle.promise_split.proofs.Walks.{onto}
use Rattle.promise_split.proofs.Alike.{alike_onto}
use Rattle.promise_split.proofs.Split.{one_walk, from_start}

pub through_pointer : ThroughPointer
unfolding lower_from_type chain_by start_layout ◌>>=◌
through_pointer s ptr t is h = rw h refl

-- a chain by where it begins
chain_is : (s : Sheet) (op : ChainOp) (ptr t : ℕ) (l : TypeLayout) → pointee_in s ptr ≡ ok t → start_layout s.setting (answer_in s) op t ≡ ok l
    → (is : List Index) → lower_chain s op ptr is ≡ lower_from (answer_in s) l None is
unfolding chain_by ◌>>=◌
chain_is s op ptr t l h g is = rw h (rw g refl)

second_is : (s : Sheet) (t : ℕ) (l : TypeLayout) → layout_at s (type_no t) ≡ ok l → (is : List Index) → lower_from_type s t is ≡ lower_from (answer_in s) l None is
unfolding lower_from_type chain_by start_layout layout_at ◌>>=◌
second_is s t l h is = rw h refl

pub split_refusals : SplitRefusals
split_refusals s op ptr is js first t h reach =
    let f = from_start s op ptr is first h in
    let zeros : Values = λ u. pos 0 in
    let one = f.walks zeros in
    let r = reach zeros in
    let to_is : f.left.to ≡ type_no t = sym one.1 ∙ ap (λ (x : Place). x.type) (one_walk s op ptr is zeros one.0 r.0) ∙ r.1 in
    let laid : layout_at s (type_no t) ≡ ok f.left.layout = ap (layout_at s) (sym to_is) ∙ f.left.laid in
    let whole : lower_chain s op ptr (is ++ js) ≡ onto f.left.steps (lower_from (answer_in s) f.left.layout f.left.waiting js) =
    chain_is s op ptr f.begin.pointee f.begin.layout f.begin.points f.begin.laid (is ++ js) ∙ f.left.goes_on_lem js in
    let second = second_is s t f.left.layout laid js in
    subst (λ (x : Result (List QPtrOp)). AlikeBut23 x (lower_from_type s t js)) (sym whole)
    (subst (AlikeBut23 (onto f.left.steps (lower_from (answer_in s) f.left.layout f.left.waiting js))) (sym second)
    (alike_onto (answer_in s) f.left.steps js f.left.layout f.left.waiting None))

-- ---- where one of the two is accepted

beside : (r t : Result (List QPtrOp)) (xs : List QPtrOp) → AlikeBut23 r t → t ≡ ok xs → AcceptedOr23 r
beside (ok ys) t xs h e = inl (ys, refl)
beside (refused m) (ok ys) xs h e = inr (ap (λ (n : ℕ). refused n) h)
beside (refused m) (refused n) xs h e = absurd (never e)

besides : (r t : Result (List QPtrOp)) (xs : List QPtrOp) → AlikeBut23 r t → r ≡ ok xs → AcceptedOr23 t
besides r (ok ys) xs h e = inl (ys, refl)
besides (ok ys) (refused n) xs h e = inr (ap (λ (n : ℕ). refused n) h)
besides (refused m) (refused n) xs h e = absurd (never e)

pub whole_or_23 : WholeOr23
whole_or_23 s op ptr is js first t second h reach g = beside _ _ second (split_refusals s op ptr is js first t h reach) g

-- ---- a refused first part

then_refused : (f : List QPtrOp → List QPtrOp) (r : Result (List QPtrOp)) (n : ℕ) → (r >>= λ x. ok (f x)) ≡ refused n → r ≡ refused n
unfolding ◌>>=◌
then_refused f (ok xs) n h = absurd (not_both h)
then_refused f (refused m) n h = h

lower_refused : (answer-of : ℕ → Answer) (is js : List Index) (l : TypeLayout) (p : Pending) (n : ℕ) → lower_from answer-of l p is ≡ refused n → lower_from answer-of l p (is ++ js) ≡ refused n
unfolding lower_from ◌>>=◌
lower_refused answer-of [] js l p n h = absurd (not_both h)
lower_refused answer-of (i ∷ is) js l p n h = by (move answer-of l i p) h λ a. lower_refused answer-of is js a.layout a.pending n
  where
    by : (r : Result Move) → (r >>= λ a. lower_from answer-of a.layout a.pending is >>= λ rest. ok (a.steps ++ rest)) ≡ refused n
        → ((a : Move) → lower_from answer-of a.layout a.pending is ≡ refused n → lower_from answer-of a.layout a.pending (is ++ js) ≡ refused n)
        → (r >>= λ a. lower_from answer-of a.layout a.pending (is ++ js) >>= λ rest. ok (a.steps ++ rest)) ≡ refused n
    by (ok a) g k = rw (k a (then_refused (λ (x : List QPtrOp). a.steps ++ x) _ n g)) refl
    by (refused m) g k = g

pub first_refused : FirstRefused
unfolding chain_by ◌>>=◌
first_refused s op ptr is js n h = by_pointee (pointee_in s ptr) h
  where
    by_layout : (r : Answer) → (r >>= λ l. lower_from (answer_in s) l None is) ≡ refused n → (r >>= λ l. lower_from (answer_in s) l None (is ++ js)) ≡ refused n
    by_layout (ok l) g = lower_refused (answer_in s) is js l None n g
    by_layout (refused m) g = g

    by_pointee : (r : Result ℕ) → (r >>= λ t. start_layout s.setting (answer_in s) op t >>= λ l. lower_from (answer_in s) l None is) ≡ refused n
        → (r >>= λ t. start_layout s.setting (answer_in s) op t >>= λ l. lower_from (answer_in s) l None (is ++ js)) ≡ refused n
    by_pointee (ok t) g = by_layout (start_layout s.setting (answer_in s) op t) g
    by_pointee (refused m) g = g

pub parts_or_23 : PartsOr23
parts_or_23 s op ptr is js whole h = by (lower_chain s op ptr is) refl
  where
    by : (r : Result (List QPtrOp)) → lower_chain s op ptr is ≡ r → (first : List QPtrOp) × Accepted s op ptr is first × ((t : ℕ) → Reaches s op ptr is t → AcceptedOr23 (lower_from_type s t js))
    by (ok first) e = (first, e, λ t reach. besides _ _ whole (split_refusals s op ptr is js first t e reach) h)
    by (refused n) e = absurd (never (sym (first_refused s op ptr is js n e) ∙ h))
