-- `fields::piece_end` meets its contract: what is ahead of the byte is the piece. Assumes nothing.
use Rattle.std.proofs.Common.{arith, length-drop}
use Rattle.std.proofs.lemmas.List.{take_all}
use Rattle.std.proofs.lemmas.List.Sums.{prefix_len-le-length}
use Rattle.std.proofs.lemmas.Grind.{common_steps}
use Rattle.std.proofs.lemmas.Bool.Decides.{nat_tests}
use Rattle.fields.proofs.Pieces.{piece_by}
use Rattle.fields.proofs.piece_end.Goals as goal

pub returns : goal.returns
returns c = piece_by _ _ _ _ c.requires (grind (arith, common_steps, nat_tests, take_all, prefix_len-le-length, length-drop))
