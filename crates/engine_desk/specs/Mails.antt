-- One end of a mailbox, and how it changes.
use Rattle.std.specs.Prelude.{Bool, List, None, Option, Some, [], false, true, ℕ, ◌++◌, ◌+◌, ◌∷◌}
use Rattle.base_ids.specs.declared.ids.MsgRef.{MsgRef}

-- what was put by it, in order, and what was taken by it, the newest first; how often it was asked for a message, and
-- whether the last put found the mailbox full
pub record MailView : Type 0 where
  pub put : List MsgRef
  pub took : List MsgRef
  pub takes : ℕ
  pub full : Bool

abbrev pub put_in : MsgRef → MailView → MailView
put_in at mail = record mail { put = mail.put ++ at ∷ []; full = false }

-- a put found it full
abbrev pub refused_by : MailView → MailView
refused_by mail = record mail { full = true }

-- it was asked for a message, and there was one or none
abbrev pub taken_from : Option MsgRef → MailView → MailView
taken_from None mail = record mail { takes = mail.takes + 1 }
taken_from (Some at) mail = record mail { took = at ∷ mail.took; takes = mail.takes + 1 }
