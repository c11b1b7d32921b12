-- A refusal's line has 13 bytes at most: a letter, a comma, ten digits and LF. So the list holds it whole.
use Rattle.std.proofs.Common.{◌≡◌, ◌<◌, ◌≤◌, ◌^◌, ℕ, List, [], ◌∷◌, length, take, drop, OnOk, Ok, refl, sym, ap, subst, ◌∙◌, arith, length-append, take_at, length-take-le, rules}
use Prim.Native.Char.{code}
use borrow.Author.Tests.{le-ltb}
use Rattle.std.specs.Io.KnownBytes.{Appends}
use Rattle.arith.specs.Refusals.{ok, refused, ◌>>=◌, ◌>>◌, refuse◌when◌, in_room}
use Rattle.arith.specs.InCode.{OrRefusal}
use Rattle.text.specs.Whole.{Whole, over, held, written, answered}
use Rattle.decimal.specs.Decimal.{decimal}
use Rattle.decimal.proofs.BothWays.{ten_digits}
use Rattle.answers.specs.Output.{text_of, printed}
use Rattle.lay.proofs.write_refusal.Goals as goal

short : (e : ℕ) → e < 2 ^ 32 → length (text_of (refused e)) ≤ 13
unfolding printed
short e h = omega (arith, ten_digits e (omega arith), length-append (decimal e) (code "\n" ∷ []))

module _ {text old new : List ℕ} {r : OrRefusal ℕ} (w : Whole (ok text) old r new) (room : length text ≤ length old) where
  fits : held (length old) (ok text) ≡ ok text
  unfolding in_room ◌>>=◌ ◌>>◌ refuse◌when◌
  fits = rw (le-ltb (length old) (length text) room) refl

  says_all : r ≡ Ok (length text)
  unfolding answered
  says_all = w.says ∙ ap answered fits

  in_front : take (length text) new ≡ text
  unfolding written
  in_front = ap (take (length text)) (w.holds ∙ ap (λ t. over (written t) old) fits) ∙ take_at text (drop (length text) old) (length text) refl

pub slice_bounds-line-end : goal.slice_bounds-line-end
slice_bounds-line-end g c =
    let long = short c.args.e.number (search rules) in
    let all = says_all c.put_refusal_line.ensures long in
    let n : c.in-Ok.n ≡ length (text_of (refused c.args.e.number)) = cc in
    omega (arith, long, c.put_refusal_line.auto.out)

pub slice_bounds-write_all-end : goal.slice_bounds-write_all-end
slice_bounds-write_all-end g c =
    let long = short c.args.e.number (search rules) in
    let all = says_all c.put_refusal_line.ensures long in
    let n : c.in-Ok.n ≡ length (text_of (refused c.args.e.number)) = cc in
    sym (length-take-le _ _ (omega (arith, long, c.put_refusal_line.auto.out)))

pub unreachable-requires : goal.unreachable-requires
unreachable-requires g c = c.in_default.not-Ok _ (says_all c.put_refusal_line.ensures (short c.args.e.number (search rules)))

pub returns : goal.returns
returns g c =
    let long = short c.args.e.number (search rules) in
    let all = says_all c.put_refusal_line.ensures long in
    let n : c.in-Ok.n ≡ length (text_of (refused c.args.e.number)) = cc in
    subst
    (λ bytes. OnOk c.write_all.result (Appends (g.W.Write.contents c.args.out.now) (g.W.Write.contents c.write_all.new.self) bytes))
    (ap (λ k. take k c.put_refusal_line.new.out) n ∙ in_front c.put_refusal_line.ensures long) c.write_all.ensures.bytes
