-- What a rebuild brings about.
use Rattle.std.proofs.Common.{◌≡◌, ◌+◌, ◌<◌, ◌≤◌, ◌&&◌, ◌||◌, ◌==◌, ℕ, zero, suc, Bool, true, false, Option, Some, None, List, [], ◌∷◌, map, cond, arith, refl, ap, sym, subst, ◌∙◌}
use Rattle.std.specs.List.{count_by, sum_by, list_all, list_any}
use Rattle.std.proofs.lemmas.Bool.{eqb-true}
use Rattle.std.proofs.lemmas.Bool.Decides.{nat_tests}
use Rattle.std.proofs.lemmas.List.Sums.{sum_by-cons}
use Rattle.base_ids.specs.Names.{same_host}
use Rattle.base_ids.specs.Replicas.{same_replica, has_replica, has_host, is_on}
use Rattle.base_ids.specs.declared.ids.HostId.{HostId}
use Rattle.base_ids.specs.declared.ids.Replica.{Replica}
use Rattle.base_ids.specs.declared.ids.Session.{Session}
use Rattle.base_ids.specs.declared.ids.TableId.{TableId}
use Rattle.cell_merge.proofs.CellOrder.{greater-first, greater-second, greater-least, not_below}
use Rattle.cell_merge.specs.Cell.{IsNotBelow, greater_cell}
use Rattle.cell_merge.specs.declared.cell.Cell.{Cell}
use Rattle.token_ring.specs.declared.ring.TokenRange.{TokenRange}
use Rattle.token_ring.specs.declared.token.Token.{Token}
use Rattle.tablet_map.specs.Replicas.{replaced_list}
use Rattle.replica_store.specs.Cells.{cell_at, is_within}
use Rattle.gather_core.proofs.QuietLemmas.{pulls_add, pulls_keep}
use Rattle.gather_core.proofs.RouteLemmas.{spread_kept, spread_by, route_of, host_same, or_first, or_second, greatest_above, greatest_least}
use Rattle.gather_core.proofs.SpreadLemmas.{pulls_spread, host_is}
use Rattle.gather_core.specs.declared.data.Route.{Route}
use Rattle.gather_core.specs.Held.{held, greatest_held, holds}
use Rattle.gather_core.specs.Laws.{AreOrdered, IsDone, ArePutFree, is_among, spread}
use Rattle.gather_core.specs.Steps.{Stores, Step}
use Rattle.rebuild_core.specs.Laws.{end_of, RebuildGathers, RebuildCovers, IsRebuilt, RebuildIsExact, RebuiltCovers}
use Rattle.rebuild_core.specs.Rebuilds.{route_to, rebuild_routes, others_than}

-- what the host of a source has at the start, it has
at_source : (stores : Stores) (table : TableId) (token : Token) (source : HostId) (other : HostId) → same_host source other ≡ true → IsNotBelow (cell_at (stores other) table token) (cell_at (stores source) table token)
at_source stores table token source other same =
    let P : HostId → Type 0 = λ h. IsNotBelow (cell_at (stores h) table token) (cell_at (stores source) table token) in
    subst P (host_is source other same) (not_below.reflexive (cell_at (stores source) table token))

pub rebuild_gathers : RebuildGathers
rebuild_gathers stores first table range pending sources steps source token ordered done is within =
    let has : HostId → Bool = λ h. same_host source.host h in
    let found = route_of (route_to pending) sources source is in
    pulls_spread stores first table range (rebuild_routes pending sources) steps token (held stores table token source) has pending
    ordered within (at_source stores table token source.host) done
    (spread_by has (rebuild_routes pending sources) found.0 (route_to pending source) found.1 (host_same source.host))

-- no host loses anything
no_loss : (stores : Stores) (first : Session) (table : TableId) (range : TokenRange) (pending : HostId) (sources : List Replica) (steps : List Step) (token : Token) (cell : Option Cell) (host : HostId) → AreOrdered stores → IsDone (end_of stores first table range pending sources steps) → is_within table range table token ≡ true → IsNotBelow (cell_at (stores host) table token) cell → IsNotBelow (cell_at ((end_of stores first table range pending sources steps).stores host) table token) cell
no_loss stores first table range pending sources steps token cell host ordered done within had =
    let has : HostId → Bool = λ h. same_host host h in
    pulls_spread stores first table range (rebuild_routes pending sources) steps token cell has host
    ordered within (λ other same. (let P : HostId → Type 0 = λ h. IsNotBelow (cell_at (stores h) table token) cell in subst P (host_is host other same) had)) done
    (spread_kept has (rebuild_routes pending sources) host (host_same host))

-- ---- counts

abbrev one_if : Bool → ℕ
one_if b = cond b 1 0

count_first : (test : Replica → Bool) (r : Replica) (rest : List Replica) → count_by test (r ∷ rest) ≡ one_if (test r) + count_by test rest
count_first test r rest = sum_by-cons (λ x. one_if (test x)) r rest

-- with the lost one, and with the pending one in its place
count_old : (test : Replica → Bool) (lost : Replica) (replicas : List Replica) → count_by test replicas ≤ 1 + count_by test (others_than lost replicas)
count_old test lost [] = omega arith
count_old test lost (r ∷ rest) =
    elim (same_replica lost r) as (λ v. count_by test (r ∷ rest) ≤ 1 + count_by test (cond v rest (r ∷ others_than lost rest))) [
      | true ↦ (let one : one_if (test r) ≤ 1 = at_most (test r) in omega (arith, count_first test r rest))
      | false ↦ omega (arith, count_first test r rest, count_first test r (others_than lost rest), count_old test lost rest)
    ]
  where
    at_most : (b : Bool) → one_if b ≤ 1
    at_most true = omega arith
    at_most false = omega arith

count_new : (test : Replica → Bool) (lost pending : Replica) (replicas : List Replica) → has_replica replicas lost ≡ true → test pending ≡ true → count_by test (replaced_list lost pending replicas) ≡ 1 + count_by test (others_than lost replicas)
count_new test lost pending [] is here = cc is
count_new test lost pending (r ∷ rest) is here =
    elim (same_replica lost r) as (λ v. (v || has_replica rest lost) ≡ true → count_by test (cond v (pending ∷ rest) (r ∷ replaced_list lost pending rest)) ≡ 1 + count_by test (cond v rest (r ∷ others_than lost rest))) [
      | true ↦ λ _. (let one : one_if (test pending) ≡ 1 = ap one_if here in omega (arith, count_first test pending rest))
      | false ↦ λ m. omega (arith, count_first test r (replaced_list lost pending rest), count_first test r (others_than lost rest), count_new test lost pending rest m here)
    ] is

count_more : (f g : Replica → Bool) → ((r : Replica) → f r ≡ true → g r ≡ true) → (replicas : List Replica) → count_by f replicas ≤ count_by g replicas
count_more f g more [] = omega arith
count_more f g more (r ∷ rest) =
    let here : one_if (f r) ≤ one_if (g r) =
    elim (f r) as (λ v. f r ≡ v → one_if v ≤ one_if (g r)) [ true ↦ λ e. (let one : one_if (g r) ≡ 1 = ap one_if (more r e) in omega arith) | false ↦ λ _. omega arith ] refl in
    omega (arith, count_first f r rest, count_first g r rest, count_more f g more rest)

-- one that passes, where the count is not 0
some_passes : (test : Replica → Bool) (replicas : List Replica) → 1 ≤ count_by test replicas → (r : Replica) × (has_replica replicas r ≡ true) × (test r ≡ true)
some_passes test [] some = absurd (omega arith)
some_passes test (r ∷ rest) some =
    elim (test r) as (λ v. test r ≡ v → (x : Replica) × (has_replica (r ∷ rest) x ≡ true) × (test x ≡ true)) [
      | true ↦ λ e. (r, or_first (same_replica r r) (has_replica rest r) (replica_same r), e)
      | false ↦ λ e.
          let none : one_if (test r) ≡ 0 = ap one_if e in
          let later = some_passes test rest (omega (arith, count_first test r rest)) in
          (later.0, or_second (same_replica later.0 r) (has_replica rest later.0) later.1, later.2)
    ] refl
  where
    replica_same : (r : Replica) → same_replica r r ≡ true
    replica_same r = grind (arith, nat_tests)

pub rebuild_covers : RebuildCovers
rebuild_covers stores first table range replicas lost pending steps token cell w ordered done is within two enough =
    let sources : List Replica = others_than lost replicas in
    let end : Stores = (end_of stores first table range pending.host sources steps).stores in
    let before : Replica → Bool = holds stores table token cell in
    let after : Replica → Bool = holds end table token cell in
    let left : count_by before replicas ≤ 1 + count_by before sources = count_old before lost replicas in
    let one = some_passes before sources (omega arith) in
    let gathered = rebuild_gathers stores first table range pending.host sources steps one.0 token ordered done one.1 within in
    let pending_has : after pending ≡ true = not_below.transitive (cell_at (end pending.host) table token) (held stores table token one.0) (Some cell) gathered one.2 in
    let kept : count_by before sources ≤ count_by after sources =
    count_more before after (λ r had. no_loss stores first table range pending.host sources steps token (Some cell) r.host ordered done within had) sources in
    let new : count_by after (replaced_list lost pending replicas) ≡ 1 + count_by after sources = count_new after lost pending replicas is pending_has in
    omega arith

-- ---- exactly

all_among : (pending : HostId) (sources all : List Replica) → ((r : Replica) → has_replica sources r ≡ true → has_host all r.host ≡ true) → list_all (is_among (λ h. same_host pending h || has_host all h)) (rebuild_routes pending sources) ≡ true
all_among pending [] all each = refl
all_among pending (r ∷ rest) all each =
    let here : has_host all r.host ≡ true = each r (or_first (same_replica r r) (has_replica rest r) (replica_same r)) in
    both _ _ (both _ _ (or_first (same_host pending pending) (has_host all pending) (host_same pending)) (or_second (same_host pending r.host) (has_host all r.host) here))
    (all_among pending rest all (λ x m. each x (or_second (same_replica x r) (has_replica rest x) m)))
  where
    replica_same : (r : Replica) → same_replica r r ≡ true
    replica_same r = grind (arith, nat_tests)

    both : (a b : Bool) → a ≡ true → b ≡ true → (a && b) ≡ true
    both true true p q = refl
    both true false p q = cc q
    both false b p q = cc p

host_there : (replicas : List Replica) (r : Replica) → has_replica replicas r ≡ true → has_host replicas r.host ≡ true
host_there [] r is = cc is
host_there (x ∷ rest) r is =
    elim (same_replica r x) as (λ v. same_replica r x ≡ v → (v || has_replica rest r) ≡ true → has_host (x ∷ rest) r.host ≡ true) [
      | true ↦ λ e _. or_first (is_on r.host x) (has_host rest r.host) (left_true (r.host.0 == x.host.0) (r.shard.0 == x.shard.0) e)
      | false ↦ λ _ m. or_second (is_on r.host x) (has_host rest r.host) (host_there rest r m)
    ] refl is
  where
    left_true : (a b : Bool) → (a && b) ≡ true → a ≡ true
    left_true true b h = refl
    left_true false b h = cc h

bound_each : (stores : Stores) (table : TableId) (token : Token) (pending : HostId) (sources : List Replica) (other : HostId) → (same_host pending other || has_host sources other) ≡ true → IsNotBelow (greater_cell (cell_at (stores pending) table token) (greatest_held stores table token sources)) (cell_at (stores other) table token)
bound_each stores table token pending sources other is =
    let own : Option Cell = cell_at (stores pending) table token in
    let most : Option Cell = greatest_held stores table token sources in
    elim (same_host pending other) as (λ v. same_host pending other ≡ v → (v || has_host sources other) ≡ true → IsNotBelow (greater_cell own most) (cell_at (stores other) table token)) [
      | true ↦ λ e _. (let P : HostId → Type 0 = λ h. IsNotBelow (greater_cell own most) (cell_at (stores h) table token) in subst P (host_is pending other e) (greater-first own most))
      | false ↦ λ _ m. not_below.transitive (greater_cell own most) most (cell_at (stores other) table token) (greater-second own most) (greatest_above stores table token sources other m)
    ] refl is

no_routes : (pending host : HostId) (sources : List Replica) → same_host pending host ≡ false → list_any (λ (r : Route). same_host r.by host) (rebuild_routes pending sources) ≡ false
no_routes pending host [] other = refl
no_routes pending host (r ∷ rest) other = rw other (no_routes pending host rest other)

pub rebuild_is_exact : RebuildIsExact
rebuild_is_exact stores first table range pending sources steps ordered free done =
    let end : Stores = (end_of stores first table range pending sources steps).stores in
    let kept = pulls_keep stores first table range (rebuild_routes pending sources) steps ordered free in
    record {
      greatest = λ token within.
          (let own : Option Cell = cell_at (stores pending) table token in
          let most : Option Cell = greater_cell own (greatest_held stores table token sources) in
          let upper : IsNotBelow most (cell_at (end pending) table token) =
          pulls_add stores first table range (rebuild_routes pending sources) steps token most (λ h. same_host pending h || has_host sources h) pending
          ordered within free (all_among pending sources sources (λ r m. host_there sources r m)) (λ other m. bound_each stores table token pending sources other m)
          (or_first (same_host pending pending) (has_host sources pending) (host_same pending)) in
          let lower : IsNotBelow (cell_at (end pending) table token) most =
          greater-least own (greatest_held stores table token sources) (cell_at (end pending) table token)
          (no_loss stores first table range pending sources steps token own pending ordered done within (not_below.reflexive own))
          (greatest_least stores table token (cell_at (end pending) table token) sources
          (λ r m. rebuild_gathers stores first table range pending sources steps r token ordered done m within)) in
          not_below.antisymmetric (cell_at (end pending) table token) most lower upper);
      outside = λ other token out. kept.outside pending other token out;
      others = λ host apart. kept.others host (no_routes pending host sources apart);
    }

-- ---- by the stores at the end

-- no host loses anything
none_lost : (stores end : Stores) (table : TableId) (range : TokenRange) (pending : HostId) (sources : List Replica) (token : Token) (cell : Option Cell) (host : HostId) → IsRebuilt stores table range pending sources end → is_within table range table token ≡ true → IsNotBelow (cell_at (stores host) table token) cell → IsNotBelow (cell_at (end host) table token) cell
none_lost stores end table range pending sources token cell host rebuilt within had =
    let own : Option Cell = cell_at (stores pending) table token in
    let most : Option Cell = greatest_held stores table token sources in
    elim (same_host pending host) as (λ v. same_host pending host ≡ v → IsNotBelow (cell_at (end host) table token) cell) [
      | true ↦ λ same.
          (let P : HostId → Type 0 = λ h. IsNotBelow (cell_at (stores h) table token) cell → IsNotBelow (cell_at (end h) table token) cell in
          let Q : Option Cell → Type 0 = λ c. IsNotBelow c cell in
          let here : P pending = λ before. subst Q (sym (rebuilt.greatest token within)) (not_below.transitive (greater_cell own most) own cell (greater-first own most) before) in
          subst P (host_is pending host same) here had)
      | false ↦ λ other. (let P : Option Cell → Type 0 = λ c. IsNotBelow c cell in subst P (sym (ap (λ cells. cell_at cells table token) (rebuilt.others host other))) had)
    ] refl

-- the new host holds no less than a source did
got_source : (stores end : Stores) (table : TableId) (range : TokenRange) (pending : HostId) (sources : List Replica) (token : Token) (source : Replica) → IsRebuilt stores table range pending sources end → is_within table range table token ≡ true → has_replica sources source ≡ true → IsNotBelow (cell_at (end pending) table token) (held stores table token source)
got_source stores end table range pending sources token source rebuilt within is =
    let own : Option Cell = cell_at (stores pending) table token in
    let most : Option Cell = greatest_held stores table token sources in
    let one : Option Cell = held stores table token source in
    let P : Option Cell → Type 0 = λ c. IsNotBelow c one in
    subst P (sym (rebuilt.greatest token within))
    (not_below.transitive (greater_cell own most) most one (greater-second own most) (greatest_above stores table token sources source.host (host_there sources source is)))

pub rebuilt_covers : RebuiltCovers
rebuilt_covers stores end table range replicas lost pending token cell w rebuilt is within two enough =
    let sources : List Replica = others_than lost replicas in
    let before : Replica → Bool = holds stores table token cell in
    let after : Replica → Bool = holds end table token cell in
    let left : count_by before replicas ≤ 1 + count_by before sources = count_old before lost replicas in
    let one = some_passes before sources (omega arith) in
    let gathered = got_source stores end table range pending.host sources token one.0 rebuilt within one.1 in
    let pending_has : after pending ≡ true = not_below.transitive (cell_at (end pending.host) table token) (held stores table token one.0) (Some cell) gathered one.2 in
    let kept : count_by before sources ≤ count_by after sources =
    count_more before after (λ r had. none_lost stores end table range pending.host sources token (Some cell) r.host rebuilt within had) sources in
    let new : count_by after (replaced_list lost pending replicas) ≡ 1 + count_by after sources = count_new after lost pending replicas is pending_has in
    omega arith
