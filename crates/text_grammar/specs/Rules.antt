-- The words by which rules of a text are printed, and the fault of a word that is of no form.
use Rattle.std.specs.Prelude.{ℕ, List, codes}
use Rattle.text_grammar.specs.declared.faults.TextRule.{TextRule}
use Rattle.text_grammar.specs.declared.faults.TextRule.TheVariants.{NoHeader, NoGo, BadHeader, BadWord, BadNumber, BadToken, BadCell, BadReplicas, BadActor, LabelTwice, NoLabel}
use Rattle.text_grammar.specs.declared.faults.Fault.{Fault}
use Rattle.text_grammar.specs.declared.faults.Fault.TheVariants.{Refused}

abbrev pub text_rule_word : TextRule → List ℕ
text_rule_word NoHeader = codes "NoHeader"
text_rule_word NoGo = codes "NoGo"
text_rule_word BadHeader = codes "BadHeader"
text_rule_word BadWord = codes "BadWord"
text_rule_word BadNumber = codes "BadNumber"
text_rule_word BadToken = codes "BadToken"
text_rule_word BadCell = codes "BadCell"
text_rule_word BadReplicas = codes "BadReplicas"
text_rule_word BadActor = codes "BadActor"
text_rule_word LabelTwice = codes "LabelTwice"
text_rule_word NoLabel = codes "NoLabel"

-- the fault of a word that no form has at its place, and of one that is missing
abbrev pub bad_word : Fault
bad_word = Refused BadWord
