-- What is said of an argument's file.
use Rattle.std.specs.Prelude.{ℕ, ◌≤◌, List, length}
use Rattle.intake.specs.declared.Argument.{Argument}
use Rattle.intake.specs.declared.Argument.TheVariants.{File, Unread, Missing}

-- the list holds as many bytes as were read
abbrev pub Within : List ℕ → Argument → Type 0
Within list (File name size) = size ≤ length list
Within list Unread = Unit {0}
Within list Missing = Unit {0}
