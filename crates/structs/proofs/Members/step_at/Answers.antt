-- `structs::step_at` meets its contract: at its given offset, or in turn. Assumes nothing.
use Rattle.std.proofs.Common.{rules, ◌≡◌, ◌<◌, ◌≤◌, length, get_or, drop, drop_of_length-le}
use Rattle.std.proofs.Math.Seq.{drop-cons}
use Rattle.structs.specs.Rows.{below_in}
use Rattle.structs.specs.Steps.{step_by, extent_in}
use Rattle.structs.proofs.Walk.{step_with}
use Rattle.structs.proofs.Members.step_at.Goals as goal

pub returns-in-Some : goal.returns-in-Some
unfolding step_by
returns-in-Some c =
    let a = c.args in
    let k = c.in-Some.ensures.lookup in
    let within : a.i < length a.self.now.given.now = search rules in
    let there : get_or a.self.now.given.now a.i 0 ≡ c.in-Some.offset.now = search rules in
    step_with a.self.now.cfg (below_in a.self.now.layouts.now a.self.now.n) (drop a.i a.self.now.given.now) (extent_in a.x) a.t _ c.in_ok-m.ensures
    (rw (drop-cons a.self.now.given.now a.i 0 within, there) c.step_given.ensures)

pub returns-in-None : goal.returns-in-None
unfolding step_by
returns-in-None c =
    let a = c.args in
    let k = c.in-None.ensures.lookup in
    let past : length a.self.now.given.now ≤ a.i = search rules in
    step_with a.self.now.cfg (below_in a.self.now.layouts.now a.self.now.n) (drop a.i a.self.now.given.now) (extent_in a.x) a.t _ c.in_ok-m.ensures
    (rw (drop_of_length-le a.self.now.given.now {i = a.i} past) c.step_in_turn.ensures)
