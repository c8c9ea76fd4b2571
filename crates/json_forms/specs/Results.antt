-- What the code gives for a value, where memory may be refused.
use Rattle.std.specs.Prelude.{◌≡◌, ℕ, List, Result, Ok, Err}
use Rattle.json_forms.specs.declared.faults.FaultAt.{FaultAt}
use Rattle.json_forms.specs.declared.faults.ReadError.{ReadError}
use Rattle.json_forms.specs.declared.faults.ReadError.TheVariants.{Fault as FaultIn, NoMemory}
use Rattle.json_forms.specs.Rules.{here, below, of_text}
use Rattle.text_grammar.specs.declared.faults.Fault.{Fault as TextFault}
use Rattle.text_grammar.specs.declared.faults.LineError.{LineError}
use Rattle.text_grammar.specs.declared.faults.LineError.TheVariants.{Fault as FaultInLine, NoMemory as NoMemoryForLine}

abbrev pub FailsAs : {Y : Type 0} → ReadError → Result Y FaultAt → Type 0
FailsAs (FaultIn at) read = read ≡ Err at
FailsAs NoMemory read = Unit {0}

-- what the code gives is what is read, seen by a view, unless memory was refused
abbrev pub Gives : {X Y : Type 0} → (X → Y) → Result X ReadError → Result Y FaultAt → Type 0
Gives view (Ok x) read = read ≡ Ok (view x)
Gives view (Err error) read = FailsAs error read

-- the same, with a fault one name or place further, or memory was refused
abbrev pub IsUnder : {X : Type 0} → List ℕ → Result X ReadError → Result X ReadError → Type 0
IsUnder name before (Ok x) = before ≡ Ok x
IsUnder name before (Err (FaultIn at)) =
    (inner : FaultAt) × (before ≡ Err (FaultIn inner)) × (at ≡ below name inner)
IsUnder name before (Err NoMemory) = Unit {0}

-- what a text tells, in the code's answers
abbrev pub as_read : {X : Type 0} → Result X TextFault → Result X ReadError
as_read (Ok x) = Ok x
as_read (Err r) = Err (FaultIn (here (of_text r)))

abbrev pub as_read_line : {X : Type 0} → Result X LineError → Result X ReadError
as_read_line (Ok x) = Ok x
as_read_line (Err (FaultInLine r)) = Err (FaultIn (here (of_text r)))
as_read_line (Err NoMemoryForLine) = Err NoMemory
