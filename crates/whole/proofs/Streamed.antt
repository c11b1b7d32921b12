-- A sheet answered a buffer at a time. Assumes nothing.
use mathlib.Core.Path.{◌∙◌}
use Rattle.answering.specs.OfTables.{of_tables}
use Rattle.listing.proofs.Streams.{pieces}
use Rattle.prepared.proofs.Output.{ready_tables}
use Rattle.whole.specs.Statements.{StreamedSheet}

pub streamed_sheet : StreamedSheet
streamed_sheet input r ty me os la ty' me' os' la' x roomy few t e text s =
    pieces (of_tables t.cfg t.n ty' la' os' me') input 0 text s ∙ ready_tables input r ty me os la ty' me' os' la' x roomy few t e
