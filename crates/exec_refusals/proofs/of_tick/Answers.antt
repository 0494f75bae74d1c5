use borrow.Author.Tests.{le-leb, lt-leb, lt-ltb, le-ltb}
use Rattle.exec_refusals.specs.Numbers.{past_count, wrong_length, not_sound_no}
use Rattle.exec_refusals.specs.Rows.{none, here, past}
use Rattle.rules.specs.Calls.{last_count}
use Rattle.exec_refusals.proofs.of_tick.Goals as goal

pub returns-then-not-sound : goal.returns-then-not-sound
unfolding last_count
returns-then-not-sound c = here not_sound_no _ _ c.if-not-sound.true-raw

pub returns-then-count-ge-LAST_COUNT : goal.returns-then-count-ge-LAST_COUNT
unfolding last_count
returns-then-count-ge-LAST_COUNT c =
    past _ not_sound_no _ _ c.if-not-sound.false-raw
    (here past_count _ _ (le-leb _ _ c.if-count-ge-LAST_COUNT.true))

pub returns-then-words-lt-TICK_WORDS : goal.returns-then-words-lt-TICK_WORDS
unfolding last_count
returns-then-words-lt-TICK_WORDS c =
    past _ not_sound_no _ _ c.if-not-sound.false-raw
    (past _ past_count _ _ (lt-leb _ _ c.if-count-ge-LAST_COUNT.false)
    (here wrong_length _ _ (lt-ltb _ _ c.if-words-lt-TICK_WORDS.true)))

pub returns : goal.returns
unfolding last_count
returns c =
    past _ not_sound_no _ _ c.if-not-sound.false-raw
    (past _ past_count _ _ (lt-leb _ _ c.if-count-ge-LAST_COUNT.false)
    (past _ wrong_length _ _ (le-ltb _ _ c.if-words-lt-TICK_WORDS.false) none))
