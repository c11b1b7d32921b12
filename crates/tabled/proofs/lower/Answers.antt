-- `tabled::lower` meets its contract: a chain is walked, and put. Assumes nothing.
use Rattle.std.proofs.Common.{refl}
use Rattle.tabled.proofs.Laws.{zeros_room, held_in}
use Rattle.tabled.proofs.lower.Goals as goal

pub returns : goal.returns
returns g c = record {
  left = c.walk_asked-walk.result;
  steps = _;
  before = _;
  after = _;
  called = c.put.ensures;
  held = held_in c.args.table.now _ _ c.args.chain.now (zeros_room g.row.STEPS) c.walk_asked-walk.ensures;
  old_is = refl;
  new_is = refl;
}
