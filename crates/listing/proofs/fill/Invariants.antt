-- `listing::fill` meets its contract. The loop's invariant: the lines in front of the place are printed, and fit. Assumes nothing.
use Rattle.listing.proofs.Reached.{Reached}
use Rattle.listing.specs.Listing.{Moved}
use Rattle.answering.specs.OfTables.{source}
use lib.ListN.{length}
use Prim.Native.Nat.{◌-◌, ◌≤◌}
use Rattle.listing.proofs.fill.Given as goal

abbrev pub invariant-loop-q : goal.invariant-loop-q
invariant-loop-q l =
    Reached (source l.tables) l.sheet l.from l.initial.out 0 l.out l.list l.next l.bytes × (l.bytes ≤ length l.initial.out) × Moved l.sheet l.from l.next l.bytes

abbrev pub decreases-loop-q : goal.decreases-loop-q
decreases-loop-q l = length l.sheet - l.next
