-- Sheets, computed.
use Rattle.std.specs.Prelude.{ℕ, ◌+◌, ◌*◌, ◌≡◌, refl, true, false}
use Rattle.laws.specs.Iter.{iter}
use Rattle.laws.specs.Tables.{total, sum}
use Rattle.word_parts.specs.Packed.{command_word}
use Rattle.put_text.specs.Text.{ascii}
use Rattle.text.specs.Split.{led}
use Rattle.decimal.specs.Decimal.{dec_by, dec}
use Rattle.bench_script.specs.Output.{fields_text, line_text}
use Rattle.rules.specs.Rig.{Row}
use Rattle.rules.specs.Bus.{row_words, bus_words}
use Rattle.rules.specs.Frame.{commands_to, times_a_frame, commands_a_frame}
use Rattle.wiring_lines.specs.Line.{each, cell, cells_text, numbers_text, sheet_line, top_text, refused_text}
use Rattle.wiring_text.specs.Sheet.{row_text, spoken_text, terminal_text, rows_text, terminals_text, sheet_text}

-- the bench morning: its one row, `B 1 5 7 2 32 2 0`, is the master's
abbrev pub morning : ℕ → Row
morning k = record { sender = 1; sender_sub = 5; receiver = 7; receiver_sub = 2; words = 32; period = 2; phase = 0 }

pub morning_sheet : sheet_text false 1 1 morning ≡ ascii "ROW\t1\t32\t0\t2\nTERMINAL\t7\t32\n"
unfolding sheet_text top_text rows_text row_text terminals_text terminal_text spoken_text sheet_line each times_a_frame commands_a_frame commands_to bus_words row_words command_word iter total sum fields_text led dec dec_by
morning_sheet = refl

pub morning_row : row_text true 1 (morning 0) ≡ ascii "ROW\t1\t32\t1\t\t1\t\t1\t\t1\t\t1\t\t1\t\t1\t\t1\t\t1\t\t1\t\t1\t\t1\t\t1\t\t1\t\t1\t\t1\t\t1\t\t1\t\t1\t\t1\t\t1\t\t1\t\t1\t\t1\t\t1\t\t1\t\t1\t\t1\t\t1\t\t1\t\t1\t\t1\t\n"
unfolding row_text sheet_line cells_text cell each times_a_frame sum fields_text led dec dec_by
morning_row = refl

pub columns : top_text true ≡ ascii "KIND\tNUMBER\tTIMES\t0\t1\t2\t3\t4\t5\t6\t7\t8\t9\t10\t11\t12\t13\t14\t15\t16\t17\t18\t19\t20\t21\t22\t23\t24\t25\t26\t27\t28\t29\t30\t31\t32\t33\t34\t35\t36\t37\t38\t39\t40\t41\t42\t43\t44\t45\t46\t47\t48\t49\t50\t51\t52\t53\t54\t55\t56\t57\t58\t59\t60\t61\t62\t63\n"
unfolding top_text numbers_text each fields_text led dec dec_by
columns = refl

-- two rows from terminal 2 to terminal 3, of periods 32 and 64, with another master: both terminals are spoken to by each
abbrev pub twice : ℕ → Row
twice k = record { sender = 2; sender_sub = 1; receiver = 3; receiver_sub = 1; words = 1; period = 32 * (k + 1); phase = k }

pub twice_sheet : sheet_text false 2 1 twice ≡ ascii "ROW\t1\t2\t0\t32\nROW\t2\t1\t1\t64\nTERMINAL\t2\t3\nTERMINAL\t3\t3\n"
unfolding sheet_text top_text rows_text row_text terminals_text terminal_text spoken_text sheet_line each times_a_frame commands_a_frame commands_to bus_words row_words command_word iter total sum fields_text led dec dec_by
twice_sheet = refl

-- a refused rig: number, then line
pub refused_rig : refused_text 3 6 ≡ ascii "RIG\t3\t6\n"
unfolding line_text fields_text led dec dec_by
refused_rig = refl
