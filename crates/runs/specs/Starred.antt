-- THE CASES MARKED *: "Cases marked * are proved of the rules, as one table with one statement."
-- Those on words stand in crate words; here those on calls join them.
use Rattle.std.specs.Prelude.{refl, cond, List, [], ◌∷◌, ◌++◌, ℕ, eqb, replicate}
use Rattle.laws.specs.Iter.{iter}
use Rattle.laws.specs.All.{all}
use Rattle.laws.specs.Any.{any}
use Rattle.laws.specs.Tables.{total, over}
use Rattle.word_answers.specs.Answers.{WordReport, word_answered, word_refused}
use Rattle.word_answers.specs.Cases.{Case, case, AsTold}
use Rattle.word_answers.specs.Laws.Cases.{right_more}
use Rattle.words.specs.Cases.{word_cases, words_right}
use Rattle.rules.specs.Rig.{Rig}
use Rattle.rules.specs.State.{blank}
use Rattle.rules.specs.Conditions.{relax, met, drive, names}
use Rattle.rules.specs.Serving.{activate, serving, serve}
use Rattle.rules.specs.Waiting.{wait_until_count}
use Rattle.rules.specs.Running.{best, chosen, dispatch}
use Rattle.rules.specs.Calls as R
use Rattle.rules.specs.Calls.{Call, cancel, wait_until, read_block, tested, scheduled, effect, ended, again, settled, decide, no_such_one, last_count, wrong_block, refusals, refusal, output, after, step, started, start}
use Rattle.rules.specs.Scripts.{T, B, of_task, of_condition, numbers, of_line, of_cycle, rig}

-- one task and one row of 2 words, just started: task 1 runs, the count is 0
unfoldable pub lone : Rig
lone = rig 1 2 1 (T 1 0 10 0 0 ∷ []) [] [] [] (B 1 5 7 2 2 1 0 ∷ [])

-- what a call answers there: its refusal's number, or accepted with the running task after it
unfoldable pub answers : Call → WordReport ℕ
answers k =
    let s = step lone (start lone) k in
    cond (eqb s.answer.code 0) (word_answered s.next.running) (word_refused s.answer.code)

unfoldable pub call_cases : List Case
call_cases =
    -- "Wait until the present count: no wait."
    case (answers (wait_until 0)) (word_answered 1)
    -- "Waking count 2,147,483,647 accepted."
    ∷ case (answers (wait_until 2147483647)) (word_answered 0)
    -- "One more: refused 9."
    ∷ case (answers (wait_until 2147483648)) (word_refused 9)
    -- "Area one word short: refused 10."
    ∷ case (answers (read_block 1 (replicate 32 0) (replicate 2 0))) (word_refused 10)
    -- "Task 1 names itself to cancel: refused 7."
    ∷ case (answers (cancel 1)) (word_refused 7)
    ∷ []

calls_right : AsTold call_cases
unfolding call_cases answers lone rig of_task of_condition numbers of_line of_cycle iter all any total over blank relax met drive names activate serving serve wait_until_count best chosen dispatch tested scheduled effect ended again settled decide no_such_one last_count wrong_block refusals refusal output after step started start R.accepted R.lent
calls_right = refl

-- every case that the paper marks
abbrev pub starred : List Case
starred = word_cases ++ call_cases

pub starred_right : AsTold starred
starred_right = right_more word_cases call_cases words_right calls_right
