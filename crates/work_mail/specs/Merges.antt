-- What was taken from a mailbox, and what it holds: one merge of what its passes put. Each pass has a number, and the
-- pass 0 is the one that takes.
use Rattle.std.specs.Prelude.{Bool, List, [], false, if◌then◌else◌, map, true, ℕ, ◌++◌, ◌+◌, ◌<◌, ◌==◌, ◌∷◌, ◌≡◌, ◌≤◌}
use mathlib.Core.Option.{some}
use lib.ListN.{get_elem?}
use Rattle.base_ids.specs.declared.ids.MsgRef.{MsgRef}
use Rattle.work_mail.specs.declared.rule.Ended.{Ended}
use Rattle.work_mail.specs.declared.rule.MailLog.{MailLog}
use Rattle.work_mail.specs.declared.rule.MailLog.TheVariants.{Other, Spent, First}

-- what was taken, the newest first, and then what is there
abbrev pub joined : List MsgRef → List MsgRef → List MsgRef
joined [] items = items
joined (at ∷ took) items = joined took (at ∷ items)

abbrev pub references : List (ℕ × MsgRef) → List MsgRef
references merged = map (λ sent. sent.1) merged

-- what the pass of a number has put, in its order
abbrev pub put_by : ℕ → List (ℕ × MsgRef) → List MsgRef
put_by number [] = []
put_by number (sent ∷ merged) =
    if sent.0 == number then sent.1 ∷ put_by number merged else put_by number merged

-- what a pass knows after each step
abbrev pub with_put : MsgRef → MailLog → MailLog
with_put at Spent = Spent
with_put at (Other number put) = Other number (put ++ at ∷ [])
with_put at (First put took made ended) = First (put ++ at ∷ []) took made ended

abbrev pub with_taken : MsgRef → MailLog → MailLog
with_taken at Spent = Spent
with_taken at (Other number put) = Other number put
with_taken at (First put took made ended) = First put (at ∷ took) made ended

-- the taker's pass hands out one pass more
abbrev pub handing : MailLog → MailLog
handing Spent = Spent
handing (Other number put) = Other number put
handing (First put took made ended) = First put took (made + 1) ended

abbrev pub handed : MailLog → MailLog
handed Spent = Spent
handed (Other number put) = Spent
handed (First put took made ended) = Other made []

-- and takes one back
abbrev pub taking_in : MailLog → MailLog → MailLog
taking_in (First put took made ended) (Other number theirs) =
    First put took made (record { number = number; put = theirs } ∷ ended)
taking_in log other = log

-- what passes had put that have come back: each was made, and its number is the taker's now
abbrev pub AreEnded : (ℕ → ℕ) → List (ℕ × MsgRef) → ℕ → List Ended → Type 0
AreEnded seat merged made [] = Unit {0}
AreEnded seat merged made (end ∷ ended) =
    (0 < end.number) × (end.number < made) × (seat end.number ≡ 0) × (put_by end.number merged ≡ end.put) ×
    AreEnded seat merged made ended

-- what a pass knows fits the merge
abbrev pub FitsLog : (ℕ → ℕ) → List MsgRef → List (ℕ × MsgRef) → ℕ → ℕ → MailLog → Type 0
FitsLog seat took merged made id Spent = Unit {0}
FitsLog seat took merged made id (Other number put) =
    (0 < number) × (number < made) × (seat number ≡ id) × (put_by number merged ≡ put)
FitsLog seat took merged made id (First put its_took its_made ended) =
    (id ≡ 0) × (put_by 0 merged ≡ put) × (its_took ≡ took) × (its_made ≡ made) × AreEnded seat merged made ended

-- The rule: what was taken, and then what is there, are one merge of what the passes put. Each number that was given
-- has its seat among the passes.
pub record IsMerged (items : List MsgRef) (logs : List MailLog) : Type 0 where
  pub took : List MsgRef
  pub merged : List (ℕ × MsgRef)
  pub made : ℕ
  pub seat : ℕ → ℕ
  pub some_made : 0 < made
  pub whole : joined took items ≡ references merged
  pub later : (number : ℕ) → made ≤ number → put_by number merged ≡ []
  pub fits : (id : ℕ) (log : MailLog) → get_elem? logs id ≡ some log → FitsLog seat took merged made id log

-- ---- what a pass learns

-- at one moment these were there: with all that was taken they are one merge, by which this pass put just this, and the
-- pass 0 took just this
pub record IsThere (number : ℕ) (put took items : List MsgRef) : Type 0 where
  pub taken : List MsgRef
  pub merged : List (ℕ × MsgRef)
  pub whole : joined taken items ≡ references merged
  pub mine : put_by number merged ≡ put
  pub its : number ≡ 0 → taken ≡ took

abbrev pub IsSeen : MailLog → List MsgRef → Type 0
IsSeen Spent items = Unit {0}
IsSeen (Other number put) items = IsThere number put [] items
IsSeen (First put took made ended) items = IsThere 0 put took items

-- what was put by passes that have come back
abbrev pub ArePut : List (ℕ × MsgRef) → List Ended → Type 0
ArePut merged [] = Unit {0}
ArePut merged (end ∷ ended) = (put_by end.number merged ≡ end.put) × ArePut merged ended

-- the taker's pass, when others have come back
abbrev pub IsOver : List (ℕ × MsgRef) → List MsgRef → MailLog → Type 0
IsOver merged items Spent = Unit {0}
IsOver merged items (Other number put) = Unit {0}
IsOver merged items (First put took made ended) =
    (joined took items ≡ references merged) × (put_by 0 merged ≡ put) × ArePut merged ended ×
    ((number : ℕ) → made ≤ number → put_by number merged ≡ [])

-- at the end: what was taken, and then what is there, are one merge of what all passes put
abbrev pub IsEnded : MailLog → List MsgRef → Type 0
IsEnded log items = (merged : List (ℕ × MsgRef)) × IsOver merged items log

-- ---- a pass that is out

abbrev pub number_of : MailLog → ℕ
number_of Spent = 0
number_of (Other number put) = number
number_of (First put took made ended) = 0

abbrev pub put_of : MailLog → List MsgRef
put_of Spent = []
put_of (Other number put) = put
put_of (First put took made ended) = put

abbrev pub took_of : MailLog → List MsgRef
took_of Spent = []
took_of (Other number put) = []
took_of (First put took made ended) = took

abbrev pub made_of : MailLog → ℕ
made_of Spent = 0
made_of (Other number put) = 0
made_of (First put took made ended) = made

-- the pass is out, and is the one that takes, or is not
abbrev pub IsOut : Bool → MailLog → Type 0
IsOut true log =
    (put : List MsgRef) × (took : List MsgRef) × (made : ℕ) × (log ≡ First put took made [])
IsOut false log = (number : ℕ) × (put : List MsgRef) × (0 < number) × (log ≡ Other number put)

-- the pass is the first one, with those that came back
abbrev pub IsFirst : MailLog → Type 0
IsFirst log =
    (put : List MsgRef) × (took : List MsgRef) × (made : ℕ) × (ended : List Ended) ×
    (log ≡ First put took made ended)
