use Rattle.std.proofs.Common.{◌≡◌, ◌∙◌, option_map, sym, rules, tests, min}
use Rattle.std.specs.List.{reduce}
use Rattle.std.specs.Map.{values_of}
use Rattle.std.proofs.lemmas.Iterator.{YieldsList-from_map}
use Rattle.std.proofs.lemmas.Iterator.Adapters.{option_map_id}
use Rattle.std.proofs.lemmas.Iterator.Consumers.{min_from_yields_List, YieldsList-at, YieldsList-from_rest}
use Rattle.request_table.specs.Requests.{versions_of}
use Rattle.request_table.proofs.LiveLemmas.{Contains-reduce_min}
use Rattle.request_table.proofs.RequestTable.oldest_version.Goals as goal

pub returns-clause-live : goal.returns-clause-live
returns-clause-live g c =
    let all = versions_of c.self.inside.requests.entries in
    let least : option_map (λ x. x) c.min.result ≡ reduce min all =
    min_from_yields_List _ _ c.min.ensures.ran (YieldsList-from_map _ (λ request. request.version.0) (YieldsList-at c.map.ensures.source (YieldsList-from_rest (values_of c.self.inside.requests.entries) c.values.ensures.rest)) c.map.ensures.closure (λ x r q k. search (rules, tests))) in
    rw (← c.self.view_is) (Contains-reduce_min all c.in_ok-oldest.oldest (sym least ∙ option_map_id c.min.result ∙ c.in_ok-oldest.was))
