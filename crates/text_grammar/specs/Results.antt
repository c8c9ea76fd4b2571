-- What the code gives for a line, where memory may be refused.
use Rattle.std.specs.Prelude.{◌≡◌, Result, Ok, Err}
use Rattle.text_grammar.specs.declared.faults.Fault.{Fault}
use Rattle.text_grammar.specs.declared.faults.LineError.{LineError}
use Rattle.text_grammar.specs.declared.faults.LineError.TheVariants.{Fault as FaultIn, NoMemory}

abbrev pub FailsAs : {Y : Type 0} → LineError → Result Y Fault → Type 0
FailsAs (FaultIn fault) read = read ≡ Err fault
FailsAs NoMemory read = Unit {0}

-- what the code gives is what is read, seen by a view, unless memory was refused
abbrev pub Gives : {X Y : Type 0} → (X → Y) → Result X LineError → Result Y Fault → Type 0
Gives view (Ok x) read = read ≡ Ok (view x)
Gives view (Err error) read = FailsAs error read
