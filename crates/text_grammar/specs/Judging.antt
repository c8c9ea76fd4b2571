-- What forms judge by: a test with its rule, and a limit.
use Rattle.std.specs.Prelude.{ℕ, Bool, List, Result, Ok, Err, if◌then◌else◌}
use Rattle.std.specs.Str.{bytes_eq}
use Rattle.base_ids.specs.declared.rules.LimitName.{LimitName}
use Rattle.text_grammar.specs.declared.faults.TextRule.{TextRule}
use Rattle.text_grammar.specs.declared.faults.TextRule.TheVariants.{BadWord}
use Rattle.text_grammar.specs.declared.faults.Fault.{Fault}
use Rattle.text_grammar.specs.declared.faults.Fault.TheVariants.{Refused, Limit}
use Rattle.text_grammar.specs.Shapes.{Place, Known, Judged}

-- what is told, or a rule where the test fails
abbrev pub if_so : {A : Type 0} → Bool → TextRule → A → Result A Fault
if_so test rule a = if test then Ok a else Err (Refused rule)

-- what is told, or a limit where the test fails
abbrev pub if_within : {A : Type 0} → Bool → LimitName → A → Result A Fault
if_within test name a = if test then Ok a else Err (Limit name)

-- what the word tells, made into something else
abbrev pub told_as : {A B : Type 0} → Place A → (A → B) → Place B
told_as place made = Judged place (λ a. Ok (made a))

-- this word alone
abbrev pub text : List ℕ → Place (Unit {0})
text word = Known (λ w. if_so (bytes_eq w word) BadWord tt)
