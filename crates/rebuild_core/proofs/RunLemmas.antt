-- A rebuild over stores that are all at hand.
use Rattle.std.proofs.Common.{◌≡◌, ◌<◌, ◌&&◌, ◌||◌, ℕ, Bool, true, false, not, nat_lt, Option, Some, None, List, [], ◌∷◌, map, arith, refl, ap, sym, subst, ◌∙◌}
use Rattle.std.specs.List.{list_any, list_all}
use Rattle.std.proofs.lemmas.Bool.Decides.{nat_tests}
use Rattle.base_ids.specs.Names.{same_host}
use Rattle.base_ids.specs.Replicas.{has_host, is_on}
use Rattle.base_ids.specs.declared.ids.HostId.{HostId}
use Rattle.base_ids.specs.declared.ids.Replica.{Replica}
use Rattle.base_ids.specs.declared.ids.Session.{Session}
use Rattle.base_ids.specs.declared.ids.TableId.{TableId}
use Rattle.token_ring.specs.declared.ring.TokenRange.{TokenRange}
use Rattle.gather_core.specs.Gathers.{Gathering}
use Rattle.gather_core.specs.Laws.{AreOrdered}
use Rattle.gather_core.specs.Rounds.{are_fit, is_fit, CanGather, IsCome}
use Rattle.gather_core.specs.Steps.{Stores, Scene}
use Rattle.gather_core.proofs.ComeLemmas.{begun_can}
use Rattle.rebuild_core.specs.Rebuilds.{rebuild_of, rebuild_routes, is_known, are_known}
use Rattle.rebuild_core.specs.Laws.{IsRebuilt}
use Rattle.rebuild_core.proofs.RebuildLemmas.{rebuild_is_exact}

both_known : (a b : Bool) → (a && b) ≡ true → (a ≡ true) × (b ≡ true)
both_known true true both = (refl, refl)
both_known true false both = cc
both_known false b both = cc

neither : (a b : Bool) → (a || b) ≡ false → (a ≡ false) × (b ≡ false)
neither true b e = cc e
neither false b e = (refl, e)

both_are : (a b : Bool) → a ≡ true → b ≡ true → (a && b) ≡ true
both_are true b one two = two
both_are false b one two = cc one

one_fit : (count : ℕ) (pending host : HostId) → same_host pending host ≡ false → pending.0 < count → nat_lt host.0 count ≡ true → are_fit count pending host ≡ true
one_fit count pending host apart small known =
    let a : not (same_host pending host) ≡ true = grind (arith, nat_tests) in
    let b : nat_lt pending.0 count ≡ true = grind (arith, nat_tests) in
    both_are (not (same_host pending host)) (nat_lt pending.0 count && nat_lt host.0 count) a (both_are (nat_lt pending.0 count) (nat_lt host.0 count) b known)

routes_fit : (count : ℕ) (pending : HostId) (sources : List Replica) → has_host sources pending ≡ false → pending.0 < count → are_known count sources ≡ true → list_all (is_fit count) (rebuild_routes pending sources) ≡ true
routes_fit count pending [] apart small known = refl
routes_fit count pending (source ∷ rest) apart small known =
    let both = both_known (is_known count source) (are_known count rest) known in
    let none = neither (is_on pending source) (has_host rest pending) apart in
    both_are (is_fit count (record { by = pending; from = source.host })) (list_all (is_fit count) (rebuild_routes pending rest))
    (one_fit count pending source.host none.0 small both.0) (routes_fit count pending rest none.1 small both.1)

pub can_rebuild : (count : ℕ) (first : Session) (table : TableId) (range : TokenRange) (pending : HostId) (sources : List Replica) (gather : Gathering) → gather ≡ rebuild_of first table range pending sources → has_host sources pending ≡ false → pending.0 < count → are_known count sources ≡ true → CanGather count gather
can_rebuild count first table range pending sources gather is apart small known =
    subst (λ (g : Gathering). CanGather count g) (sym is) (begun_can count first table range (rebuild_routes pending sources) (routes_fit count pending sources apart small known))

pub is_rebuilt : (count : ℕ) (first : Session) (table : TableId) (range : TokenRange) (pending : HostId) (sources : List Replica) (stores : Stores) (gather : Gathering) (end_stores : Stores) (end : Gathering) → gather ≡ rebuild_of first table range pending sources → AreOrdered stores → IsCome count stores gather end_stores end → end.pull ≡ None → IsRebuilt stores table range pending sources end_stores
is_rebuilt count first table range pending sources stores gather end_stores end is ordered come none =
    let P : Gathering → Type 0 = λ g. IsCome count stores g end_stores end in
    let lead = (subst P is come).comes [] [] in
    let exact = rebuild_is_exact stores first table range pending sources lead.steps ordered lead.free (ap (λ (g : Gathering). g.pull) lead.gather_is ∙ none) in
    subst (λ (s : Stores). IsRebuilt stores table range pending sources s) lead.stores_are exact
