-- `listing::put_answers` meets its contract. The loop's invariant: the lines in front of the place are printed. Assumes nothing.
use Rattle.listing.proofs.Reached.{Reached}
use Rattle.answering.specs.OfTables.{source}
use lib.ListN.{length}
use Prim.Native.Nat.{◌-◌}
use Rattle.listing.proofs.put_answers.Given as goal

abbrev pub invariant-loop-q : goal.invariant-loop-q
invariant-loop-q l =
    Reached (source l.tables) l.sheet l.from l.initial.out l.at l.out l.list l.place l.p

abbrev pub decreases-loop-q : goal.decreases-loop-q
decreases-loop-q l = length l.sheet - l.place
