-- `tally::comes_before` meets its contract: the order of a derive is that of an AttrSet. Assumes nothing.
use Rattle.std.proofs.Common.{◌≡◌, ℕ, cond, eqb, ltb, Some, Less, Equal, Greater, is_lt, Ordering, ap, ◌∙◌, arith}
use Rattle.std.specs.Ordering.{partial_lt, is_some_and, partial_ordering_then, nat_cmp}
use Rattle.std.proofs.lemmas.Bool.Decides.{nat_tests}
use Rattle.spirv.specs.declared.Decoration.{Decoration}
use Rattle.spirv.specs.declared.Decoration.TheVariants.{RowMajor, Offset}
use Rattle.spirv.specs.contracts.MemberDecorationPartialOrd.TheImpl.{partial_cmp-value}
use Rattle.spirv.specs.Decl.{before}
use Rattle.tally.proofs.comes_before.Goals as goal

-- numbers first, then what comes behind them
first : (m n : ℕ) (o : Ordering) → is_some_and is_lt (partial_ordering_then (Some (nat_cmp m n)) (Some o)) ≡ cond (eqb m n) (is_lt o) (ltb m n)
first m n o = grind (arith, nat_tests)

below : (x y : ℕ) → is_lt (nat_cmp x y) ≡ ltb x y
below x y = grind (arith, nat_tests)

order : (m n : ℕ) (d e : Decoration) → partial_lt partial_cmp-value.it record { member = m; decoration = d } record { member = n; decoration = e } ≡ before record { member = m; decoration = d } record { member = n; decoration = e }
unfolding before
order m n RowMajor RowMajor = first m n Equal
order m n RowMajor (Offset y) = first m n Less
order m n (Offset x) RowMajor = first m n Greater
order m n (Offset x) (Offset y) = first m n (nat_cmp x y) ∙ ap (λ t. cond (eqb m n) t (ltb m n)) (below x y)

pub returns : goal.returns
returns c = c.lt.ensures ∙ order _ _ c.args.a.decoration c.args.b.decoration
