-- `components::collect` meets its contract: by what the layout is made of. Assumes nothing.
use Rattle.layout.specs.Lookup.{components_containing}
use Rattle.shapes.specs.Spans.{spans_of}
use Rattle.components.proofs.collect.Goals as goal

pub returns-in-Fields : goal.returns-in-Fields
unfolding components_containing
returns-in-Fields c =
    let a = c.args in
    rw c.in-Fields.is (rw (c.span-own.ensures, c.span-types.ensures) at (c.fields_containing.ensures (spans_of a.layouts.now.offsets.now a.layouts.now.members.now)))
