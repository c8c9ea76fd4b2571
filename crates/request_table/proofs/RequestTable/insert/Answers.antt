use Rattle.std.proofs.Common.{◌∙◌, rules}
use Rattle.indexmap.proofs.CallerLemmas.{insert_entry-new}
use Rattle.request_table.specs.Requests.{is_same_request}
use Rattle.request_table.proofs.RequestTable.insert.Goals as goal

pub returns-clause-live : goal.returns-clause-live
returns-clause-live g c = rw (← c.self.view_is) (c.in-Ok.ensures.entries ∙ insert_entry-new is_same_request c.self.inside.requests c.args.op _ (search rules))
