-- What a repair brings about.
use Rattle.std.proofs.Common.{◌≡◌, ◌&&◌, ◌||◌, ◌==◌, Bool, true, false, Option, List, [], ◌∷◌, ◌++◌, map, arith, refl, sym, subst, ◌∙◌}
use Rattle.std.specs.List.{list_all, list_any}
use Rattle.std.proofs.lemmas.Bool.Decides.{nat_tests}
use Rattle.base_ids.specs.Names.{same_host}
use Rattle.base_ids.specs.Replicas.{same_replica, has_replica, has_host, is_on}
use Rattle.base_ids.specs.declared.ids.HostId.{HostId}
use Rattle.base_ids.specs.declared.ids.Replica.{Replica}
use Rattle.base_ids.specs.declared.ids.TableId.{TableId}
use Rattle.cell_merge.proofs.CellOrder.{not_below}
use Rattle.cell_merge.specs.Cell.{IsNotBelow}
use Rattle.cell_merge.specs.declared.cell.Cell.{Cell}
use Rattle.token_ring.specs.declared.token.Token.{Token}
use Rattle.replica_store.specs.Cells.{cell_at}
use Rattle.gather_core.proofs.QuietLemmas.{pulls_add, pulls_keep}
use Rattle.gather_core.proofs.RouteLemmas.{replica_is, spread_kept, spread_by, spread_then, route_of, host_same, or_first, or_second, greatest_above, greatest_least}
use Rattle.gather_core.proofs.SpreadLemmas.{pulls_spread, host_is}
use Rattle.gather_core.specs.declared.data.Route.{Route}
use Rattle.gather_core.specs.Held.{held, greatest_held}
use Rattle.gather_core.specs.Laws.{is_among, spread}
use Rattle.gather_core.specs.Steps.{Stores}
use Rattle.repair_core.specs.Laws.{end_of, RepairGathers, RepairIsExact}
use Rattle.repair_core.specs.Repairs.{route_in, route_out, repair_routes}

-- what one of them has comes to the first one, and from it to each
reaches : (replicas : List Replica) (from to : Replica) → has_replica replicas from ≡ true → has_replica replicas to ≡ true → spread (λ h. same_host from.host h) (repair_routes replicas) to.host ≡ true
reaches [] from to a b = cc a
reaches (first ∷ others) from to a b =
    let has : HostId → Bool = λ h. same_host from.host h in
    let ins : List Route = map (route_in first) others in
    let outs : List Route = map (route_out first) others in
    let at_first : spread has ins first.host ≡ true =
    elim (same_replica from first) as (λ v. same_replica from first ≡ v → (v || has_replica others from) ≡ true → spread has ins first.host ≡ true) [
      | true ↦ λ e _.
          (let P : Replica → Type 0 = λ r. spread has ins r.host ≡ true in
          subst P (replica_is from first e) (spread_kept has ins from.host (host_same from.host)))
      | false ↦ λ _ m. (let found = route_of (route_in first) others from m in spread_by has ins found.0 (route_in first from) found.1 (host_same from.host))
    ] refl a in
    spread_then has ins outs to.host ∙
    elim (same_replica to first) as (λ v. same_replica to first ≡ v → (v || has_replica others to) ≡ true → spread (spread has ins) outs to.host ≡ true) [
      | true ↦ λ e _.
          (let P : Replica → Type 0 = λ r. spread (spread has ins) outs r.host ≡ true in
          subst P (sym (replica_is to first e)) (spread_kept (spread has ins) outs first.host at_first))
      | false ↦ λ _ m. (let found = route_of (route_out first) others to m in spread_by (spread has ins) outs found.0 (route_out first to) found.1 at_first)
    ] refl b

at_host : (stores : Stores) (table : TableId) (token : Token) (from other : HostId) → same_host from other ≡ true → IsNotBelow (cell_at (stores other) table token) (cell_at (stores from) table token)
at_host stores table token from other same =
    let P : HostId → Type 0 = λ h. IsNotBelow (cell_at (stores h) table token) (cell_at (stores from) table token) in
    subst P (host_is from other same) (not_below.reflexive (cell_at (stores from) table token))

pub repair_gathers : RepairGathers
repair_gathers stores table range replicas steps from to token ordered done a b within =
    pulls_spread stores (record { 0 = 0 }) table range (repair_routes replicas) steps token (held stores table token from) (λ h. same_host from.host h) to.host
    ordered within (at_host stores table token from.host) done (reaches replicas from to a b)

-- ---- exactly

both : (a b : Bool) → a ≡ true → b ≡ true → (a && b) ≡ true
both true true p q = refl
both true false p q = cc q
both false b p q = cc p

left_true : (a b : Bool) → (a && b) ≡ true → a ≡ true
left_true true b h = refl
left_true false b h = cc h

replica_same : (r : Replica) → same_replica r r ≡ true
replica_same r = grind (arith, nat_tests)

host_there : (replicas : List Replica) (r : Replica) → has_replica replicas r ≡ true → has_host replicas r.host ≡ true
host_there [] r is = cc is
host_there (x ∷ rest) r is =
    elim (same_replica r x) as (λ v. same_replica r x ≡ v → (v || has_replica rest r) ≡ true → has_host (x ∷ rest) r.host ≡ true) [
      | true ↦ λ e _. or_first (is_on r.host x) (has_host rest r.host) (left_true (r.host.0 == x.host.0) (r.shard.0 == x.shard.0) e)
      | false ↦ λ _ m. or_second (is_on r.host x) (has_host rest r.host) (host_there rest r m)
    ] refl is

all_then : (test : Route → Bool) (xs ys : List Route) → list_all test xs ≡ true → list_all test ys ≡ true → list_all test (xs ++ ys) ≡ true
all_then test [] ys a b = b
all_then test (x ∷ xs) ys a b = both (test x) (list_all test (xs ++ ys)) (left_true (test x) (list_all test xs) a) (all_then test xs ys (right_true (test x) (list_all test xs) a) b)
  where
    right_true : (a b : Bool) → (a && b) ≡ true → b ≡ true
    right_true true b h = h
    right_true false b h = cc h

all_in : (hosts : HostId → Bool) (first : Replica) (others : List Replica) → hosts first.host ≡ true → ((r : Replica) → has_replica others r ≡ true → hosts r.host ≡ true) → list_all (is_among hosts) (map (route_in first) others) ≡ true
all_in hosts first [] here each = refl
all_in hosts first (r ∷ rest) here each =
    both (hosts first.host && hosts r.host) _ (both (hosts first.host) (hosts r.host) here (each r (or_first (same_replica r r) (has_replica rest r) (replica_same r))))
    (all_in hosts first rest here (λ x m. each x (or_second (same_replica x r) (has_replica rest x) m)))

all_out : (hosts : HostId → Bool) (first : Replica) (others : List Replica) → hosts first.host ≡ true → ((r : Replica) → has_replica others r ≡ true → hosts r.host ≡ true) → list_all (is_among hosts) (map (route_out first) others) ≡ true
all_out hosts first [] here each = refl
all_out hosts first (r ∷ rest) here each =
    both (hosts r.host && hosts first.host) _ (both (hosts r.host) (hosts first.host) (each r (or_first (same_replica r r) (has_replica rest r) (replica_same r))) here)
    (all_out hosts first rest here (λ x m. each x (or_second (same_replica x r) (has_replica rest x) m)))

all_among : (replicas : List Replica) → list_all (is_among (has_host replicas)) (repair_routes replicas) ≡ true
all_among [] = refl
all_among (first ∷ others) =
    let hosts : HostId → Bool = has_host (first ∷ others) in
    let here : hosts first.host ≡ true = host_there (first ∷ others) first (or_first (same_replica first first) (has_replica others first) (replica_same first)) in
    let each : (r : Replica) → has_replica others r ≡ true → hosts r.host ≡ true = λ r m. host_there (first ∷ others) r (or_second (same_replica r first) (has_replica others r) m) in
    all_then (is_among hosts) (map (route_in first) others) (map (route_out first) others) (all_in hosts first others here each) (all_out hosts first others here each)

-- a host without a replica pulls nothing
or_left : (a b : Bool) → (a || b) ≡ false → a ≡ false
or_left true b h = cc h
or_left false b h = refl

or_right : (a b : Bool) → (a || b) ≡ false → b ≡ false
or_right true b h = cc h
or_right false b h = h

neither : (a b : Bool) → a ≡ false → b ≡ false → (a || b) ≡ false
neither true b p q = cc p
neither false b p q = q

turned : (host : HostId) (r : Replica) → is_on host r ≡ false → same_host r.host host ≡ false
turned host r h = grind (arith, nat_tests)

any_then : (test : Route → Bool) (xs ys : List Route) → list_any test xs ≡ false → list_any test ys ≡ false → list_any test (xs ++ ys) ≡ false
any_then test [] ys a b = b
any_then test (x ∷ xs) ys a b = neither (test x) (list_any test (xs ++ ys)) (or_left (test x) (list_any test xs) a) (any_then test xs ys (or_right (test x) (list_any test xs) a) b)

none_in : (host : HostId) (first : Replica) (others : List Replica) → is_on host first ≡ false → list_any (λ (r : Route). same_host r.by host) (map (route_in first) others) ≡ false
none_in host first [] h = refl
none_in host first (r ∷ rest) h = neither (same_host first.host host) _ (turned host first h) (none_in host first rest h)

none_out : (host : HostId) (first : Replica) (others : List Replica) → has_host others host ≡ false → list_any (λ (r : Route). same_host r.by host) (map (route_out first) others) ≡ false
none_out host first [] h = refl
none_out host first (r ∷ rest) h = neither (same_host r.host host) _ (turned host r (or_left (is_on host r) (has_host rest host) h)) (none_out host first rest (or_right (is_on host r) (has_host rest host) h))

no_routes : (host : HostId) (replicas : List Replica) → has_host replicas host ≡ false → list_any (λ (r : Route). same_host r.by host) (repair_routes replicas) ≡ false
no_routes host [] h = refl
no_routes host (first ∷ others) h =
    any_then (λ (r : Route). same_host r.by host) (map (route_in first) others) (map (route_out first) others)
    (none_in host first others (or_left (is_on host first) (has_host others host) h)) (none_out host first others (or_right (is_on host first) (has_host others host) h))

pub repair_is_exact : RepairIsExact
repair_is_exact stores table range replicas steps ordered free done =
    let end : Stores = (end_of stores table range replicas steps).stores in
    let kept = pulls_keep stores (record { 0 = 0 }) table range (repair_routes replicas) steps ordered free in
    record {
      greatest = λ token replica within is.
          (let most : Option Cell = greatest_held stores table token replicas in
          let upper : IsNotBelow most (held end table token replica) =
          pulls_add stores (record { 0 = 0 }) table range (repair_routes replicas) steps token most (has_host replicas) replica.host
          ordered within free (all_among replicas) (λ other m. greatest_above stores table token replicas other m) (host_there replicas replica is) in
          let lower : IsNotBelow (held end table token replica) most =
          greatest_least stores table token (held end table token replica) replicas
          (λ r m. repair_gathers stores table range replicas steps r replica token ordered done m is within) in
          not_below.antisymmetric (held end table token replica) most lower upper);
      outside = λ host other token out. kept.outside host other token out;
      others = λ host none. kept.others host (no_routes host replicas none);
    }
