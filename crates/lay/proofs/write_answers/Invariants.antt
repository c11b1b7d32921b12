-- A turn goes on in the sheet, and what was written so far and what the buffers from here on hold are what the buffers from the start on hold.
use Rattle.std.proofs.Common.{ℕ, ◌-◌, List, ◌++◌, length}
use Rattle.std.specs.Io.KnownBytes.{Appends}
use Rattle.answering.specs.OfTables.{source}
use Rattle.listing.specs.Listing.{Streamed}
use Rattle.lay.proofs.write_answers.Given as goal

abbrev pub invariant-loop-from : goal.invariant-loop-from
invariant-loop-from g l =
    let x = source l.tables in
    (written : List ℕ) × Appends (g.W.Write.contents l.initial.out) (g.W.Write.contents l.out) written
    × ((rest : List ℕ) → Streamed x l.sheet l.from rest → Streamed x l.sheet 0 (written ++ rest))

abbrev pub decreases-loop-from : goal.decreases-loop-from
decreases-loop-from g l = length l.sheet - l.from
