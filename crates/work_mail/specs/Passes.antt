-- What callers of a mailbox see: its passes as plain data, and what a closed mailbox gives.
use Rattle.std.specs.Prelude.{All, Bool, List, None, Option, Some, [], false, map, suc, true, zero, ℕ, ◌++◌, ◌+◌, ◌<◌, ◌∷◌, ◌≡◌, ◌≤◌}
use Rattle.atomic_table.specs.Seated.{TableId}
use Rattle.base_ids.specs.declared.ids.MsgRef.{MsgRef}
use Rattle.work_mail.specs.Merges.{IsThere, joined, made_of, number_of, put_by, put_of, references, took_of}
use Rattle.work_mail.specs.declared.rule.Ended.{Ended}
use Rattle.work_mail.specs.declared.rule.MailLog.{MailLog}

-- A place in a mailbox: of which table and number it is (the place 0 is the one that takes, and knows how many were
-- made); what was put by way of it in order, and what was taken with the newest first; how often it was asked for a
-- reference; and whether its last put found the mailbox full.
pub record MailView : Type 0 where
  pub table : TableId
  pub number : ℕ
  pub made : ℕ
  pub put : List MsgRef
  pub took : List MsgRef
  pub takes : ℕ
  pub full : Bool

-- after a put, a put that was refused, and a take
abbrev pub put_in : MsgRef → MailView → MailView
put_in at mail = record mail { put = mail.put ++ at ∷ []; full = false }

abbrev pub refused_by : MailView → MailView
refused_by mail = record mail { full = true }

abbrev pub taken_from : Option MsgRef → MailView → MailView
taken_from None mail = record mail { takes = mail.takes + 1 }
taken_from (Some at) mail = record mail { took = at ∷ mail.took; takes = mail.takes + 1 }

-- nothing was put or taken
abbrev pub first_mail : TableId → ℕ → ℕ → MailView
first_mail table number made =
    record { table = table; number = number; made = made; put = []; took = []; takes = 0; full = false }

-- a pass as a place in its mailbox
abbrev pub pass_view : TableId → MailLog → ℕ → Bool → MailView
pass_view table log takes full =
    record {
      table = table;
      number = number_of log;
      made = made_of log;
      put = put_of log;
      took = took_of log;
      takes = takes;
      full = full;
    }

-- a mailbox
pub record BoxView : Type 0 where
  pub table : TableId
  pub capacity : ℕ

-- the passes of a mailbox that nobody has
pub record PassesView : Type 0 where
  pub first : Option MailView
  pub others : List MailView
  pub room : ℕ

-- new passes with the numbers from 1
abbrev pub fresh_passes : TableId → ℕ → List MailView
fresh_passes table zero = []
fresh_passes table (suc count) = fresh_passes table count ++ first_mail table (count + 1) 0 ∷ []

-- at one moment these were in the mailbox, by what a pass had put and taken then
abbrev pub Saw : MailView → List MsgRef → Type 0
Saw mail items = IsThere mail.number mail.put mail.took items

-- passes of a mailbox that are not its first one
abbrev pub AreOthers : TableId → List MailView → Type 0
AreOthers table passes = All (λ mail. (mail.table ≡ table) × (0 < mail.number)) passes

-- passes that have come back
abbrev pub ended_of : List MailView → List Ended
ended_of passes = map (λ mail. record { number = mail.number; put = mail.put }) passes

-- What was taken, and then what is left, are one merge of what the passes put, each pass's in its order. Numbers that
-- were not made have no part in it.
pub record IsClosed (first : MailView) (others : List MailView) : Type 0 where
  pub left : List MsgRef
  pub merged : List (ℕ × MsgRef)
  pub whole : joined first.took left ≡ references merged
  pub first_put : put_by 0 merged ≡ first.put
  pub put : All (λ mail. put_by mail.number merged ≡ mail.put) others
  pub none : (number : ℕ) → first.made ≤ number → put_by number merged ≡ []
