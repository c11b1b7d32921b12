-- The starred rows of the edge table, computed from the definitions. Assumes nothing.
use mathlib.Core.Path.{refl}
use Rattle.promise.specs.Edges.{EdgeTable}
use Rattle.promise.proofs.Opened.{opened}

pub edge_table : EdgeTable
unfolding opened
edge_table = refl
