use native.Mathlib.Omega.{arith}
use Rattle.std.specs.Prelude.{[], ◌∷◌, drop, refl}
use Rattle.rig_lines.specs.Kinds.{keys_of, keys, low_of, lows, high_of, highs}
use Rattle.rig_lines.specs.Laws.Kinds.{row_at}
use Rattle.rig_line_sizes.proofs.sizes_of.Goals as goal

pub returns-in-Rig-clause-low : goal.returns-in-Rig-clause-low
unfolding low_of lows
returns-in-Rig-clause-low c = λ j h. rw c.in-Rig.is (row_at lows (1 ∷ 1 ∷ 1 ∷ 0 ∷ 0 ∷ 0 ∷ 0 ∷ 0 ∷ 0 ∷ []) (drop 18 lows) 9 1 j refl refl h)

pub returns-in-Rig-clause-high : goal.returns-in-Rig-clause-high
unfolding high_of highs
returns-in-Rig-clause-high c = λ j h. rw c.in-Rig.is (row_at highs (1 ∷ 64 ∷ 128 ∷ 31 ∷ 0 ∷ 0 ∷ 0 ∷ 0 ∷ 0 ∷ []) (drop 18 highs) 9 1 j refl refl h)

pub returns-in-Rig-clause-keys : goal.returns-in-Rig-clause-keys
unfolding keys_of keys
returns-in-Rig-clause-keys c = rw c.in-Rig.is (refl, omega arith)

pub returns-in-Task-clause-low : goal.returns-in-Task-clause-low
unfolding low_of lows
returns-in-Task-clause-low c = λ j h. rw c.in-Task.is (row_at lows (1 ∷ 0 ∷ 0 ∷ 0 ∷ 0 ∷ 0 ∷ 0 ∷ 0 ∷ 0 ∷ []) (drop 27 lows) 18 2 j refl refl h)

pub returns-in-Task-clause-high : goal.returns-in-Task-clause-high
unfolding high_of highs
returns-in-Task-clause-high c = λ j h. rw c.in-Task.is (row_at highs (64 ∷ 64 ∷ 255 ∷ 1 ∷ 128 ∷ 0 ∷ 0 ∷ 0 ∷ 0 ∷ []) (drop 27 highs) 18 2 j refl refl h)

pub returns-in-Task-clause-keys : goal.returns-in-Task-clause-keys
unfolding keys_of keys
returns-in-Task-clause-keys c = rw c.in-Task.is (refl, omega arith)

pub returns-in-Condition-clause-low : goal.returns-in-Condition-clause-low
unfolding low_of lows
returns-in-Condition-clause-low c = λ j h. rw c.in-Condition.is (row_at lows (1 ∷ 0 ∷ 0 ∷ 0 ∷ 0 ∷ 0 ∷ 0 ∷ 0 ∷ 0 ∷ []) (drop 36 lows) 27 3 j refl refl h)

pub returns-in-Condition-clause-high : goal.returns-in-Condition-clause-high
unfolding high_of highs
returns-in-Condition-clause-high c = λ j h. rw c.in-Condition.is (row_at highs (64 ∷ 15 ∷ 1 ∷ 1 ∷ 0 ∷ 0 ∷ 0 ∷ 0 ∷ 0 ∷ []) (drop 36 highs) 27 3 j refl refl h)

pub returns-in-Condition-clause-keys : goal.returns-in-Condition-clause-keys
unfolding keys_of keys
returns-in-Condition-clause-keys c = rw c.in-Condition.is (refl, omega arith)

pub returns-in-Line-clause-low : goal.returns-in-Line-clause-low
unfolding low_of lows
returns-in-Line-clause-low c = λ j h. rw c.in-Line.is (row_at lows (1 ∷ 0 ∷ 1 ∷ 0 ∷ 0 ∷ 0 ∷ 0 ∷ 0 ∷ 0 ∷ []) (drop 45 lows) 36 4 j refl refl h)

pub returns-in-Line-clause-high : goal.returns-in-Line-clause-high
unfolding high_of highs
returns-in-Line-clause-high c = λ j h. rw c.in-Line.is (row_at highs (64 ∷ 15 ∷ 128 ∷ 0 ∷ 0 ∷ 0 ∷ 0 ∷ 0 ∷ 0 ∷ []) (drop 45 highs) 36 4 j refl refl h)

pub returns-in-Line-clause-keys : goal.returns-in-Line-clause-keys
unfolding keys_of keys
returns-in-Line-clause-keys c = rw c.in-Line.is (refl, omega arith)

pub returns-in-Flag-clause-low : goal.returns-in-Flag-clause-low
unfolding low_of lows
returns-in-Flag-clause-low c = λ j h. rw c.in-Flag.is (row_at lows (0 ∷ 1 ∷ 0 ∷ 0 ∷ 0 ∷ 0 ∷ 0 ∷ 0 ∷ 0 ∷ []) (drop 54 lows) 45 5 j refl refl h)

pub returns-in-Flag-clause-high : goal.returns-in-Flag-clause-high
unfolding high_of highs
returns-in-Flag-clause-high c = λ j h. rw c.in-Flag.is (row_at highs (63 ∷ 128 ∷ 0 ∷ 0 ∷ 0 ∷ 0 ∷ 0 ∷ 0 ∷ 0 ∷ []) (drop 54 highs) 45 5 j refl refl h)

pub returns-in-Flag-clause-keys : goal.returns-in-Flag-clause-keys
unfolding keys_of keys
returns-in-Flag-clause-keys c = rw c.in-Flag.is (refl, omega arith)

pub returns-in-Row-clause-low : goal.returns-in-Row-clause-low
unfolding low_of lows
returns-in-Row-clause-low c = λ j h. rw c.in-Row.is (row_at lows (0 ∷ 1 ∷ 0 ∷ 1 ∷ 1 ∷ 1 ∷ 0 ∷ 0 ∷ 0 ∷ []) [] 54 6 j refl refl h)

pub returns-in-Row-clause-high : goal.returns-in-Row-clause-high
unfolding high_of highs
returns-in-Row-clause-high c = λ j h. rw c.in-Row.is (row_at highs (31 ∷ 30 ∷ 31 ∷ 30 ∷ 32 ∷ 64 ∷ 63 ∷ 0 ∷ 0 ∷ []) [] 54 6 j refl refl h)

pub returns-in-Row-clause-keys : goal.returns-in-Row-clause-keys
unfolding keys_of keys
returns-in-Row-clause-keys c = rw c.in-Row.is (refl, omega arith)
