-- `lines::read_line` meets its contract, letter by letter. Assumes nothing.
use Rattle.std.proofs.Common.{refl, ◌∙◌}
use Rattle.sheet.specs.Grammar.{grammar}
use Rattle.lines.proofs.First.{letter, one, unknown}
use Rattle.lines.proofs.read_line.Goals as goal

pub returns-in-71 : goal.returns-in-71
returns-in-71 c = letter _ _ _ c.piece_end-e.ensures c.if-e-ne1.false c.in-71.is c.setting_line.ensures

pub returns-in-66 : goal.returns-in-66
unfolding grammar
returns-in-66 c = letter _ _ _ c.piece_end-e.ensures c.if-e-ne1.false c.in-66.is (c.declared.ensures _)

pub returns-in-73 : goal.returns-in-73
returns-in-73 c = letter _ _ _ c.piece_end-e.ensures c.if-e-ne1.false c.in-73.is c.int_line.ensures

pub returns-in-70 : goal.returns-in-70
returns-in-70 c = letter _ _ _ c.piece_end-e.ensures c.if-e-ne1.false c.in-70.is c.float_line.ensures

pub returns-in-86 : goal.returns-in-86
returns-in-86 c = letter _ _ _ c.piece_end-e.ensures c.if-e-ne1.false c.in-86.is c.vector_line.ensures

pub returns-in-77 : goal.returns-in-77
returns-in-77 c = letter _ _ _ c.piece_end-e.ensures c.if-e-ne1.false c.in-77.is c.matrix_line.ensures

pub returns-in-65 : goal.returns-in-65
returns-in-65 c = letter _ _ _ c.piece_end-e.ensures c.if-e-ne1.false c.in-65.is c.array_line.ensures

pub returns-in-82 : goal.returns-in-82
returns-in-82 c = letter _ _ _ c.piece_end-e.ensures c.if-e-ne1.false c.in-82.is c.runtime_line.ensures

pub returns-in-83 : goal.returns-in-83
returns-in-83 c = letter _ _ _ c.piece_end-e.ensures c.if-e-ne1.false c.in-83.is c.struct_line.ensures

pub returns-in-80 : goal.returns-in-80
returns-in-80 c = letter _ _ _ c.piece_end-e.ensures c.if-e-ne1.false c.in-80.is c.pointer_line.ensures

pub returns-in-79 : goal.returns-in-79
unfolding grammar
returns-in-79 c = letter _ _ _ c.piece_end-e.ensures c.if-e-ne1.false c.in-79.is (c.declared-in-79.ensures _)

pub returns-in-85 : goal.returns-in-85
unfolding grammar
returns-in-85 c = letter _ _ _ c.piece_end-e.ensures c.if-e-ne1.false c.in-85.is (c.declared-in-85.ensures _)

pub returns-in-68 : goal.returns-in-68
returns-in-68 c = letter _ _ _ c.piece_end-e.ensures c.if-e-ne1.false c.in-68.is c.decoration_line.ensures

pub returns-in-84 : goal.returns-in-84
returns-in-84 c = letter _ _ _ c.piece_end-e.ensures c.if-e-ne1.false c.in-84.is c.t_line.ensures

pub returns-in-69 : goal.returns-in-69
returns-in-69 c = letter _ _ _ c.piece_end-e.ensures c.if-e-ne1.false c.in-69.is c.e_line.ensures

pub returns-in-81 : goal.returns-in-81
returns-in-81 c = letter _ _ _ c.piece_end-e.ensures c.if-e-ne1.false c.in-81.is c.q_line.ensures

pub returns-in-67 : goal.returns-in-67
returns-in-67 c = letter _ _ _ c.piece_end-e.ensures c.if-e-ne1.false c.in-67.is c.c_line.ensures

pub returns-in-76 : goal.returns-in-76
returns-in-76 c = letter _ _ _ c.piece_end-e.ensures c.if-e-ne1.false c.in-76.is c.l_line.ensures

pub returns-in-88 : goal.returns-in-88
returns-in-88 c = letter _ _ _ c.piece_end-e.ensures c.if-e-ne1.false c.in-88.is c.x_line.ensures

pub returns-in_default : goal.returns-in_default
returns-in_default c = one _ c.piece_end-e.ensures c.if-e-ne1.false refl ∙ unknown _ _ (let r = c.in_default.in_default-own.rest in record { no_g = r.0.0.0.0.0.0.0.0.0.0.0.0.0.0.0.0.0.0.1; no_b = r.0.0.0.0.0.0.0.0.0.0.0.0.0.0.0.0.0.1; no_i = r.0.0.0.0.0.0.0.0.0.0.0.0.0.0.0.0.1; no_f = r.0.0.0.0.0.0.0.0.0.0.0.0.0.0.0.1; no_v = r.0.0.0.0.0.0.0.0.0.0.0.0.0.0.1; no_m = r.0.0.0.0.0.0.0.0.0.0.0.0.0.1; no_a = r.0.0.0.0.0.0.0.0.0.0.0.0.1; no_r = r.0.0.0.0.0.0.0.0.0.0.0.1; no_s = r.0.0.0.0.0.0.0.0.0.0.1; no_p = r.0.0.0.0.0.0.0.0.0.1; no_o = r.0.0.0.0.0.0.0.0.1; no_u = r.0.0.0.0.0.0.0.1; no_d = r.0.0.0.0.0.0.1; no_t = r.0.0.0.0.0.1; no_e = r.0.0.0.0.1; no_q = r.0.0.0.1; no_c = r.0.0.1; no_l = r.0.1; no_x = r.1 })
