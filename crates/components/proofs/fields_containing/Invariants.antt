-- The loop's invariant: what is found from here on, behind what is kept, gives the whole. Assumes nothing.
use Rattle.std.proofs.Common.{ℕ, ◌≡◌, ◌+◌, ◌≤◌, List, length}
use Rattle.std.proofs.lemmas.List.Edits.{sets}
use Rattle.arith.specs.Pairs.{both}
use Rattle.layout.specs.Lookup.{fields_holding}
use Rattle.shapes.specs.Rows.{answer_at}
use Rattle.shapes.specs.Spans.{Reading, answer_by}
use Rattle.components.specs.Found.{counted}
use Rattle.components.proofs.fields_containing.Given as goal

-- the fields of these lists, numbered from i on, that hold the range
abbrev pub found_from : (layouts : List ℕ) (n : ℕ) → (f : Reading) → (offsets types : List ℕ) → (i start end : ℕ) → List ℕ
found_from layouts n f offsets types i start end = fields_holding (λ t. answer_by f (answer_at layouts n t)) offsets types i start end

abbrev pub invariant-loop-i : goal.invariant-loop-i
invariant-loop-i l =
    let at = l.i-iterator in
    let offsets = at.iter.a.rest.now in
    let types = at.iter.b.rest.now in
    record {
      few : l.count ≤ at.count;
      left : at.count + length offsets ≡ length l.offsets;
      whole : (f : Reading) → let rest = found_from l.layouts.rows.now l.layouts.count f offsets types at.count l.range.start l.range.end in
          ◌≡◌ {A = ℕ × List ℕ} (both (l.count + length rest) (sets l.out l.count rest)) (counted l.initial.out (found_from l.layouts.rows.now l.layouts.count f l.offsets l.types 0 l.range.start l.range.end));
    }
