-- The words by which rules of a document are printed, and faults at a value itself.
use Rattle.std.specs.Prelude.{ℕ, List, [], ◌∷◌, ◌++◌, codes}
use Rattle.text_grammar.specs.declared.faults.Fault.{Fault as TextFault}
use Rattle.text_grammar.specs.declared.faults.Fault.TheVariants.{Refused as RefusedText, Limit as LimitInText}
use Rattle.json_forms.specs.declared.faults.FileRule.{FileRule}
use Rattle.json_forms.specs.declared.faults.FileRule.TheVariants.{NotJson, Missing, WrongType, BadValue}
use Rattle.json_forms.specs.declared.faults.Fault.{Fault}
use Rattle.json_forms.specs.declared.faults.Fault.TheVariants.{Refused, Limit}
use Rattle.json_forms.specs.declared.faults.FaultAt.{FaultAt}

abbrev pub file_rule_word : FileRule → List ℕ
file_rule_word NotJson = codes "NotJson"
file_rule_word Missing = codes "Missing"
file_rule_word WrongType = codes "WrongType"
file_rule_word BadValue = codes "BadValue"

-- the value itself is at fault
abbrev pub here : Fault → FaultAt
here fault = record { path = []; fault = fault }

abbrev pub wrong_type : FaultAt
wrong_type = here (Refused WrongType)

-- one slash, byte 47, and a name or a place further from the fault
abbrev pub below : List ℕ → FaultAt → FaultAt
below name at = record { path = 47 ∷ name ++ at.path; fault = at.fault }

-- the member of this name is not there
abbrev pub missing : List ℕ → FaultAt
missing name = below name (here (Refused Missing))

-- what a text is at fault in, as a value of a document: whatever rule it breaks, its spelling is bad; a limit stays
abbrev pub of_text : TextFault → Fault
of_text (RefusedText rule) = Refused BadValue
of_text (LimitInText name) = Limit name
