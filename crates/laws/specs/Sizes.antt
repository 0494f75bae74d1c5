-- SIZES, as the paper has them.
use Rattle.std.specs.Prelude.{ℕ}

-- "Tasks 1 to 64, flags 1 to 128, up to 16 conditions a task at positions 0 to 15"
abbrev pub most_tasks : ℕ
most_tasks = 64

abbrev pub most_flags : ℕ
most_flags = 128

abbrev pub positions : ℕ
positions = 16

-- "priority 0 to 255": 256 of them
abbrev pub most_priority : ℕ
most_priority = 255

abbrev pub priorities : ℕ
priorities = 256

-- "64 minor cycles a major frame with sixty-four cycles of up to fifteen flags each"
abbrev pub minor_cycles : ℕ
minor_cycles = 64

abbrev pub flags_a_cycle : ℕ
flags_a_cycle = 15

-- "A .. (at most 1,024 lines)"
abbrev pub most_lines : ℕ
most_lines = 1024

-- "bus rows 0 to 64 of 1 to 32 words"
abbrev pub most_rows : ℕ
most_rows = 64

abbrev pub most_words : ℕ
most_words = 32

-- "Its lent buffer has at least 128 words"
abbrev pub tick_words : ℕ
tick_words = 128

-- "The area has exactly 33 words a row"; "the count modulo 65,536 as tag"
abbrev pub block_size : ℕ
block_size = 33

abbrev pub tags : ℕ
tags = 65536

-- Tables stand by number, and place 0 is nobody's: of tasks, of flags, of conditions.
abbrev pub task_places : ℕ
task_places = 65

abbrev pub flag_places : ℕ
flag_places = 129

abbrev pub condition_places : ℕ
condition_places = 1040
