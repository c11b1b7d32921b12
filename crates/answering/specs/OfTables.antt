-- Document 01, program `lay`: what tables answer to each question, by its letter.
use Rattle.std.specs.Prelude.{ℕ, List}
use Rattle.shapes.specs.declared.LayoutConfig.{LayoutConfig}
use Rattle.shapes.specs.declared.tables.Tables.{Tables}
use Rattle.components.specs.Found.{answers_in}
use Rattle.pointers.specs.OverTables.{length_over}
use Rattle.answers.specs.Lines.{Source}
use Rattle.spirv.specs.Questions.{Question}
use Rattle.lines.specs.declared.Ask.{Ask}
use Rattle.lines.specs.Says.{count_of, question_of}
use Rattle.moves.specs.Moves.{indices_in}
use Rattle.replies.specs.Replies.{found_in_room}
use Rattle.pointing.specs.Pointing.{chain_words, steps_in_room, variable_over}

abbrev pub of_tables : LayoutConfig → (n : ℕ) (types layouts offsets members : List ℕ) → Source
of_tables cfg n types layouts offsets members = record {
  layout = answers_in layouts n offsets members;
  components = found_in_room layouts n offsets members;
  steps = steps_in_room n types layouts offsets members cfg;
  array = length_over n types layouts offsets members;
  memory = variable_over n types layouts offsets members;
}

-- a question whose indices stand in front of a list
abbrev pub question_in : Ask → (list : List ℕ) → Question
question_in a list = question_of a (indices_in (chain_words (count_of a) list))

-- the tables as the code has them
abbrev pub source : Tables → Source
source t = of_tables t.cfg t.layouts.count t.types.now t.layouts.rows.now t.layouts.offsets.now t.layouts.members.now
