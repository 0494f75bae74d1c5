-- THE SENTENCES that are said of a file that breaks a rule over the whole file, refusal 4: one table.
use Rattle.std.specs.Prelude.{ℕ, cond, List, eqb}
use Rattle.put_text.specs.Text.{ascii}

abbrev pub above_text : List ℕ
above_text = ascii "a task or flag number is above the RIG line's"

abbrev pub many_a_text : List ℕ
many_a_text = ascii "there are more than 1,024 A lines"

abbrev pub many_b_text : List ℕ
many_b_text = ascii "there are more than 64 B lines"

abbrev pub no_t_line_text : List ℕ
no_t_line_text = ascii "a task has no T line"

abbrev pub crowded_text : List ℕ
crowded_text = ascii "a cycle has more than fifteen flags"

abbrev pub controller_text : List ℕ
controller_text = ascii "task 1 has a controller, or another task's controller is neither the previous task nor one of its ancestors"

abbrev pub shared_text : List ℕ
shared_text = ascii "an activation flag serves more than one task"

abbrev pub minor_activation_text : List ℕ
minor_activation_text = ascii "an activation flag is a minor-cycle flag"

abbrev pub no_c_line_text : List ℕ
no_c_line_text = ascii "an A line names a condition that has no C line"

abbrev pub no_a_line_text : List ℕ
no_a_line_text = ascii "a condition has no A line"

abbrev pub minor_condition_text : List ℕ
minor_condition_text = ascii "a condition with a minor-cycle flag has another flag, is latched or desires off"

abbrev pub same_address_text : List ℕ
same_address_text = ascii "a bus row has the same sender and receiver"

abbrev pub other_rule_text : List ℕ
other_rule_text = ascii "an entry of the rig breaks a rule"

-- by the number that the reader gives the rule: those of the lines (rig_build/Read), then those of the rig (rig/Tests), 5 behind. No line of a
-- file leads to any other
unfoldable pub rule_sentence : ℕ → List ℕ
rule_sentence rule =
    cond (eqb rule 1) above_text
    (cond (eqb rule 2) many_a_text
    (cond (eqb rule 3) many_b_text
    (cond (eqb rule 4) no_t_line_text
    (cond (eqb rule 5) crowded_text
    (cond (eqb rule 21) controller_text
    (cond (eqb rule 22) shared_text
    (cond (eqb rule 23) minor_activation_text
    (cond (eqb rule 24) no_c_line_text
    (cond (eqb rule 25) no_a_line_text
    (cond (eqb rule 26) minor_condition_text
    (cond (eqb rule 27) same_address_text other_rule_text)))))))))))
