-- Vulkan's alignments stand in the tables of a sheet. Assumes nothing.
use mathlib.Core.Path.{sym, ◌∙◌}
use Rattle.laid.proofs.OfSheet.{rows_of_sheet}
use Rattle.promise.proofs.Vulkan.{alignments}
use Rattle.joined.specs.Statements.{AlignmentsInTables}

pub alignments_in_tables : AlignmentsInTables
alignments_in_tables s types members given offsets rest tables t k l m c e h =
    alignments s t k l m c (sym (rows_of_sheet s types members given offsets rest tables t) ∙ e) h
