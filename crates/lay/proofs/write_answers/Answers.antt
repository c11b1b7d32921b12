-- What each buffer holds is written, and the buffers add up to all lines.
use Rattle.std.proofs.Common.{◌≡◌, ◌-◌, ◌<◌, ℕ, Bool, true, false, not, List, [], ◌++◌, length, take, inl, inr, sym, subst, append_assoc, arith}
use Rattle.std.proofs.KnownBytes.{Appends-nil, Appends-trans}
use Rattle.std.specs.Io.KnownBytes.{Appends}
use Rattle.answers.specs.Lines.{Source}
use Rattle.listing.specs.Listing.{Fills, Moved, Streamed, last, then}
use Rattle.listing.specs.declared.Filled.{Filled}
use Rattle.listing.proofs.Streams.{pieces}
use Rattle.lay.proofs.write_answers.Goals as goal

goes_on : {x : Source} {sheet : List ℕ} {from : ℕ} {r : Filled} {old new : List ℕ} → Fills x sheet from r old new → from < r.next → length sheet - r.next < length sheet - from
goes_on {x} {sheet} {from} {r} f less = by f.moved
  where
    by : Moved sheet from r.next r.bytes → length sheet - r.next < length sheet - from
    by (inl (same, none)) = omega arith
    by (inr (on, within)) = omega arith

other : (b t : Bool) → not b ≡ t → b ≡ not t
other true t e = grind arith
other false t e = grind arith

pub loop-from-init : goal.loop-from-init
loop-from-init g c = ([], Appends-nil _, λ rest s. s)

pub loop-from-smaller : goal.loop-from-smaller
loop-from-smaller g c = goes_on c.fill-filled.ensures c.if-filled-from.false

pub loop-from-preserved : goal.loop-from-preserved
loop-from-preserved g c =
    let (written, appended, streamed) = c.loop-from.invariant in
    let piece = take c.fill-filled.result.bytes c.fill-filled.new.out in (
      written ++ piece,
      Appends-trans _ _ _ _ _ appended c.in_ok-write_all.ensures.bytes,
      λ rest s. subst (Streamed _ _ 0) (sym (append_assoc written piece rest)) (streamed (piece ++ rest) (then c.fill-filled.ensures (other _ false c.if-not-filled.false) s)),
    )

pub returns-then-not-filled : goal.returns-then-not-filled
returns-then-not-filled g c =
    let (written, appended, streamed) = c.loop-from.invariant in
    let piece = take c.fill-filled.result.bytes c.fill-filled.new.out in
    let all = streamed piece (last c.fill-filled.ensures (other _ true c.if-not-filled.true)) in
    subst (Appends _ _) (pieces _ _ 0 (written ++ piece) all) (Appends-trans _ _ _ _ _ appended c.in_ok-write_all.ensures.bytes)
