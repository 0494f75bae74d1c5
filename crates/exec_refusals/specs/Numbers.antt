-- The numbers of the paper's table that a call can meet, by name.
use Rattle.std.specs.Prelude.{ℕ}

-- "any call on a record but the tick (start makes the record), while no task is running"
abbrev pub nobody : ℕ
nobody = 5

-- "no such task, flag or row"
abbrev pub none_such : ℕ
none_such = 6

-- "caller is not the named task's controller; signal of an activation or minor-cycle flag; wait on or reading of a
-- minor-cycle flag"
abbrev pub not_allowed : ℕ
not_allowed = 7

-- "schedule of an invoked task, cancel of an uninvoked one, terminate of one not active"; (L13) "if the task isn't inactive"
abbrev pub wrong_state : ℕ
wrong_state = 8

-- "waking count above 2,147,483,647; tick at that count"
abbrev pub past_count : ℕ
past_count = 9

-- "a lent buffer has not the length that this paper states for it"
abbrev pub wrong_length : ℕ
wrong_length = 10

-- (L13) "for d above 3"
abbrev pub too_many_links : ℕ
too_many_links = 11

-- "the record handed in is not sound"
abbrev pub not_sound_no : ℕ
not_sound_no = 12

-- "Its lent buffer has at least 128 words"
abbrev pub tick_words : ℕ
tick_words = 128
