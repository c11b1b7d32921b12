-- From a sheet's bytes to the words in the caller's lists. Assumes nothing.
use Prim.Native.Nat.{ℕ, ◌*◌, ◌≤◌}
use native.Mathlib.Omega.{arith}
use mathlib.Core.Path.{◌≡◌, sym, ap, ◌∙◌, subst}
use mathlib.Core.List.{List}
use lib.ListN.{length, drop}
use Rattle.arith.specs.Refusals.{Result}
use Rattle.spirv.specs.declared.ChainOp.{ChainOp}
use Rattle.spirv.specs.declared.Index.{Index}
use Rattle.shapes.specs.declared.LayoutConfig.{LayoutConfig}
use Rattle.shapes.specs.Settings.{setting_of}
use Rattle.sheet.specs.Sheet.{Sheet}
use Rattle.sheet.specs.Tables.{over, setting_words}
use Rattle.reading.specs.Reads.{words_in}
use Rattle.records.specs.Records.{filling}
use Rattle.lower.specs.declared.QPtrOp.{QPtrOp}
use Rattle.lower.specs.Chain.{lower_chain, chain_in_room}
use Rattle.lower.proofs.Neighbours.{no_neighbours}
use Rattle.lower.proofs.StepsFit.{steps_fit}
use Rattle.steps.specs.Stored.{StoredAt}
use Rattle.std.specs.Prelude.{Ok}
use Rattle.moves.specs.Moves.{indices_in}
use Rattle.moves.specs.Written.{Wrote}
use Rattle.pointers.specs.OverTables.{chain_over}
use Rattle.promise.proofs.SameByte.{same_byte}
use Rattle.promise.proofs.Inside.{inside}
use Rattle.joined.specs.EndToEnd.{Calls, room_in, steps_held, Kept, EndToEnd}
use Rattle.joined.specs.Statements.{rows_of}
use Rattle.joined.proofs.Made.{Read, was_read, setting_back, was_made}
use Rattle.joined.proofs.Pointers.{chains_of_sheet}
use Rattle.joined.proofs.Reading.{tables_of_reading}
use Rattle.lowering.proofs.Written.{Counted, counted, few_indices, read_again}

-- what the definitions say of accepted steps
pub kept_by : (s : Sheet) (op : ChainOp) (ptr : ℕ) (is : List Index) (steps : List QPtrOp) → lower_chain s op ptr is ≡ Result.ok steps → Kept s op ptr is steps
kept_by s op ptr is steps h = record {
  accepted = h;
  same_byte = same_byte s op ptr is steps h;
  inside = inside s op ptr is steps h;
  no_neighbours = no_neighbours s op ptr is steps h;
}

module _ (input : List ℕ) (op : ChainOp) (ptr : ℕ) (chain : List ℕ) (c : Calls input op ptr chain) where
  r : Read input c.setting₀ c.types₀ c.members₀ c.given₀ c.n
  r = was_read input c.setting₀ c.types₀ c.members₀ c.given₀ c.n c.read.answer

  abbrev s : Sheet
  s = r.sheet

  same_setting : setting_of c.setting ≡ s.setting
  same_setting =
      ap setting_of (c.read.setting ∙ ap (λ (o : Result Sheet). over (words_in (λ x. setting_words x.setting) o) c.setting₀) r.into_lists)
      ∙ setting_back s.setting (drop 6 c.setting₀)

  -- what was lowered over the tables is what the sheet says
  same : length chain ≤ 510 → chain_over (room_in c) (setting_of c.setting) c.n c.types c.layouts c.offsets c.members op ptr chain ≡ chain_in_room (room_in c) s op ptr (indices_in chain)
  same few =
      let n = length s.types in
      let filled = c.filled
      ∙ ap (λ (g : LayoutConfig). filling g c.types c.members c.given c.offsets₀ c.layouts₀ c.n) same_setting
      ∙ ap (filling s.setting c.types c.members c.given c.offsets₀ c.layouts₀) r.types in
      let made = was_made s.setting c.types c.members c.given c.offsets₀ c.layouts₀ c.offsets c.layouts n filled in
      let tables = tables_of_reading input s (Ok c.n) c.setting₀ c.types₀ c.members₀ c.given₀ c.setting c.types c.members c.given c.read r.into_lists (length c.offsets₀) (omega (arith, r.members, c.places)) in
      ap (λ (g : LayoutConfig). chain_over (room_in c) g c.n c.types c.layouts c.offsets c.members op ptr chain) same_setting
      ∙ ap (λ (k : ℕ). chain_over (room_in c) s.setting k c.types c.layouts c.offsets c.members op ptr chain) r.types
      ∙ ap (λ (rows : List ℕ). chain_over (room_in c) s.setting n c.types rows c.offsets c.members op ptr chain) made.as_layouts
      ∙ ap (λ (os : List ℕ). chain_over (room_in c) s.setting n c.types (rows_of s c.types c.members c.given c.offsets₀ (drop (10 * n) c.layouts₀)) os c.members op ptr chain) made.as_offsets
      ∙ chains_of_sheet s c.types c.members c.given c.offsets₀ (drop (10 * n) c.layouts₀) tables (room_in c) op ptr chain few

  answered : length chain ≤ 510
      → Wrote 0 (chain_in_room (room_in c) s op ptr (indices_in chain)) c.answer c.kinds₀ c.bytes₀ c.bounds₀ c.marks₀ c.indices₀ c.kinds c.bytes c.bounds c.marks c.indices
  answered few = rw (sym (same few)) c.lowered

  module _ (count : ℕ) (e : c.answer ≡ Ok count) where
    few : length chain ≤ 510
    few = few_indices (room_in c) (setting_of c.setting) c.n c.types c.layouts c.offsets c.members op ptr chain count (sym e ∙ c.lowered.says)

    by_count : Counted (room_in c) (lower_chain s op ptr (indices_in chain)) count
    unfolding chain_in_room
    by_count = counted (room_in c) (lower_chain s op ptr (indices_in chain)) count (sym e ∙ (answered few).says)

    held : steps_held c count ≡ by_count.steps
    unfolding chain_in_room
    held =
        let steps = by_count.steps in
        let stored : StoredAt 0 steps c.kinds₀ c.bytes₀ c.bounds₀ c.marks₀ c.indices₀ c.kinds c.bytes c.bounds c.marks c.indices =
        rw by_count.result at (answered few).stored in
        ap (steps_held c) by_count.many
        ∙ read_again steps c.kinds₀ c.bytes₀ c.bounds₀ c.marks₀ c.indices₀ c.kinds c.bytes c.bounds c.marks c.indices (steps_fit s op ptr (indices_in chain) steps by_count.lowered).0 by_count.fits stored

    count_is : length (steps_held c count) ≡ count
    count_is = ap length held ∙ sym by_count.many

    kept : Kept s op ptr (indices_in chain) (steps_held c count)
    kept = subst (Kept s op ptr (indices_in chain)) (sym held) (kept_by s op ptr (indices_in chain) by_count.steps by_count.lowered)

pub end_to_end : EndToEnd
end_to_end input op ptr chain c = record {
  sheet = (r input op ptr chain c).sheet;
  is_sheet = (r input op ptr chain c).is_sheet;
  types = (r input op ptr chain c).types;
  answered = answered input op ptr chain c;
  count_is = count_is input op ptr chain c;
  kept = kept input op ptr chain c;
}
