-- What a table ends as, once the work that it lent is given back.
use Rattle.std.specs.Prelude.{Option}
use Rattle.std.specs.Borrow.{Fml, RattleType, MutBor, LendsIf}
use Rattle.base_ids.specs.declared.OpId.{OpId}
use Rattle.request_table.specs.Requests.{Requests, with_work}
use Rattle.request_table.specs.contracts.RequestTable.{the_row}

module _ (P O : RattleType) (table : MutBor (Requests P.Denot O.Denot)) where
  -- the request of this number has the work that was left behind the reference, and all else stays
  abbrev pub LendsWork : OpId → Option (MutBor O.Denot) → Fml
  LendsWork op lent = LendsIf (the_row P O) O table lent (λ work.
      record table.now { live = with_work table.now.live op work }) table.now
