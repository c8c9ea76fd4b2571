use Rattle.std.proofs.Common.{◌≡◌, ◌∙◌, Some, option_map, sym, ap}
use Rattle.request_table.specs.Requests.{request_of}
use Rattle.request_table.proofs.LiveLemmas.{set_value-with_work, same_lender}
use Rattle.request_table.proofs.RequestTable.get_mut.Goals as goal

pub returns-in-Some : goal.returns-in-Some
returns-in-Some g c =
    let requests = c.self.inside.requests in
    let live = c.in-Some.live.now in
    let found : request_of requests.entries c.args.op ≡ Some live = sym c.in-Some.ensures.value in
    let written = λ (w : g.row.O.Denot). (c.get_mut.follows.holds (record live { work = w })).0 ∙ set_value-with_work requests.entries c.args.op live w found in
    rw (← c.self.view_is) (
      same_lender (λ w. ap (λ entries. record { live = entries; room = c.self.inside.room }) (written w)),
      record { writes_back = tt; value = ap (option_map (λ r. r.work)) (sym found) },
    )
