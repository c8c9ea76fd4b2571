-- What becomes of a proposal to a log.
use Rattle.std.specs.Prelude.{ℕ, Option, None, Some, ◌+◌, ◌==◌, if◌then◌else◌}
use Rattle.base_ids.specs.declared.rules.Appended.{Appended}
use Rattle.base_ids.specs.declared.rules.Appended.TheVariants.{Accepted, Conflict, Illegal}

-- a proposal that read the whole log: it is accepted under the next number, or the rule that it breaks is told
abbrev pub judged_outcome : {R : Type 0} → ℕ → Option R → Appended R
judged_outcome length None = Accepted (length + 1)
judged_outcome length (Some rule) = Illegal rule

-- what becomes of a proposal, by the length read, the log's length and the broken rule: a conflict where it has grown
abbrev pub outcome_of : {R : Type 0} → ℕ → ℕ → Option R → Appended R
outcome_of read length broken =
    if read == length then judged_outcome length broken else Conflict (record { 0 = length })
