-- SIZES that the rules name.
pub use Rattle.laws.specs.Sizes.{most_tasks, most_flags, positions, most_priority, priorities, minor_cycles, flags_a_cycle, most_rows, most_words, tick_words, block_size, tags, task_places, flag_places, condition_places}
