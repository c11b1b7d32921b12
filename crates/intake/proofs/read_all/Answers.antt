-- What a read gives stands behind what was read before.
use Rattle.std.proofs.Common.{◌≡◌, ◌≤◌, ◌+◌, ℕ, List, ◌++◌, length, take, Option, None, Some, sym, ap, ◌∙◌, arith, append_assoc, length-append}
use Rattle.std.proofs.Math.Seq.{take-append-add, length-take-le}
use Rattle.std.proofs.lemmas.List.{take-append-le}
use borrow.Rule.Slice.PartMut.{post_of, put_mid}
use Rattle.std.specs.Io.KnownBytes.{Consumes}
use Rattle.intake.proofs.read_all.Goals as goal

behind : (d n k : ℕ) (s buf : List ℕ) → d ≤ length s → n ≤ length buf → take (d + n) (put_mid d k s buf) ≡ take d s ++ take n buf
behind d n k s buf h g =
    ap (λ (m : ℕ). take (m + n) (put_mid d k s buf)) (sym (length-take-le d s h))
    ∙ take-append-add (take d s) (buf ++ post_of d k s) n
    ∙ ap (λ (l : List ℕ). take d s ++ l) (take-append-le n buf (post_of d k s) g)

more_read : (old mid new : Option (List ℕ)) (d n k : ℕ) (s buf : List ℕ) → d ≤ length s → n ≤ length buf → Consumes old mid (take d s) → Consumes mid new (take n buf)
    → Consumes old new (take (d + n) (put_mid d k s buf))
more_read None mid new d n k s buf h g before now = tt
more_read (Some xs) None new d n k s buf h g before now = absurd before
more_read (Some xs) (Some ys) None d n k s buf h g before now = absurd now
more_read (Some xs) (Some ys) (Some zs) d n k s buf h g before now =
    before
    ∙ ap (λ (l : List ℕ). take d s ++ l) now
    ∙ sym (append_assoc (take d s) (take n buf) zs)
    ∙ ap (λ (l : List ℕ). l ++ zs) (sym (behind d n k s buf h g))

within : (d n k : ℕ) (s buf : List ℕ) → d ≤ length s → n ≤ length buf → d + n ≤ length (put_mid d k s buf)
within d n k s buf h g =
    omega (arith, length-append (take d s) (buf ++ post_of d k s), length-append buf (post_of d k s), length-take-le d s h, g)

pub loop-done-preserved : goal.loop-done-preserved
loop-done-preserved g c = (
  within c.loop-done.done c.in_ok-n.n _ c.loop-done.list c.read.new.buf c.loop-done.invariant.0 c.in_ok-n.ensures.bound.0,
  more_read (g.R.Read.remaining c.args.input.now) (g.R.Read.remaining c.loop-done.input) (g.R.Read.remaining c.read.new.self) c.loop-done.done c.in_ok-n.n _ c.loop-done.list c.read.new.buf c.loop-done.invariant.0 c.in_ok-n.ensures.bound.0 c.loop-done.invariant.1 c.in_ok-n.ensures.bytes.0,
)
