-- Members with their loads: what they tell, and how they change.
use Rattle.std.proofs.Common.{◌≡◌, ◌+◌, ◌-◌, ◌<◌, ◌≤◌, ℕ, zero, suc, List, [], ◌∷◌, ◌++◌, map, take, drop, length, get_or, cond, eqb, nat_lt, Bool, true, false, Option, Some, None, refl, ap, sym, subst, ◌∙◌, arith}
use Rattle.std.specs.Prelude.{filter}
use Rattle.std.specs.List.{sum_by, count_by}
use Rattle.std.proofs.lemmas.List.{length-map, get_or-map}
use Rattle.std.proofs.lemmas.List.Sums.{sum_by-cons, count_by-le-length}
use Rattle.base_ids.specs.declared.ids.HostId.{HostId}
use Rattle.topo_state.specs.declared.data.Table.{Table}
use Rattle.topo_state.specs.State.{Topology}
use Rattle.topo_state.specs.Tables.{tablet_count}
use Rattle.balance_plan.specs.declared.data.Move.{Move}
use Rattle.balance_plan.specs.declared.loads.Share.{Share}
use Rattle.balance_plan.specs.Loads.{lies_on, table_load, load, loads, greatest, least, spread}
use Rattle.balance_plan.specs.Plans.{least_host, move_between, next_move}
use Rattle.balance_plan.specs.Shares.{share_of, load_of, host_of, has_load, spread_by, next_by, shifted, CanShift}
use Rattle.balance_plan.proofs.SumLemmas.{Shift, host_is, host_same}

pub load_few : (tables : List Table) (host : HostId) → load tables host ≤ tablet_count tables
load_few [] host = omega arith
load_few (t ∷ rest) host =
    let size : Table → ℕ = λ (x : Table). length x.map.list in
    let here : table_load host t ≤ length t.map.list = count_by-le-length (lies_on host) t.map.list in
    omega (arith, sum_by-cons (table_load host) t rest, sum_by-cons size t rest, load_few rest host)

loads_are : (tables : List Table) (hosts : List HostId) → map load_of (map (share_of tables) hosts) ≡ map (load tables) hosts
loads_are tables [] = refl
loads_are tables (h ∷ rest) = ap (λ (l : List ℕ). load tables h ∷ l) (loads_are tables rest)

hosts_are : (tables : List Table) (n : ℕ) (hosts : List HostId) → map host_of (filter (has_load n) (map (share_of tables) hosts)) ≡ filter (λ h. eqb (load tables h) n) hosts
hosts_are tables n [] = refl
hosts_are tables n (h ∷ rest) =
    elim (eqb (load tables h) n) as (λ v. map host_of (cond v (share_of tables h ∷ filter (has_load n) (map (share_of tables) rest)) (filter (has_load n) (map (share_of tables) rest))) ≡ cond v (h ∷ filter (λ x. eqb (load tables x) n) rest) (filter (λ x. eqb (load tables x) n) rest)) [
      | true ↦ ap (λ (l : List HostId). h ∷ l) (hosts_are tables n rest)
      | false ↦ hosts_are tables n rest
    ]

-- the spread by the shares is the spread
pub spread_by_shares : (state : Topology) → spread_by (map (share_of state.tables) state.members) ≡ spread state
spread_by_shares state = ap (λ (l : List ℕ). greatest l - least l) (loads_are state.tables state.members)

-- the next move by the shares is the next move
pub next_by_shares : (state : Topology) → next_by (map (share_of state.tables) state.members) state.tables ≡ next_move state
next_by_shares state =
    let t = state.tables in
    let shares = map (share_of t) state.members in
    let same : map load_of shares ≡ loads state = loads_are t state.members in
    let by : List ℕ → Option Move = λ l. cond (nat_lt 1 (greatest l - least l))
    (move_between (least_host (map host_of (filter (has_load (greatest l)) shares))) (least_host (map host_of (filter (has_load (least l)) shares))) t) None in
    let top = greatest (loads state) in
    let low = least (loads state) in
    ap by same
    ∙ (ap (λ (hosts : List HostId). cond (nat_lt 1 (top - low)) (move_between (least_host hosts) (least_host (map host_of (filter (has_load low) shares))) t) None) (hosts_are t top state.members)
    ∙ ap (λ (hosts : List HostId). cond (nat_lt 1 (top - low)) (move_between (least_host (filter (λ h. eqb (load t h) top) state.members)) (least_host hosts) t) None) (hosts_are t low state.members))

share_shifted : (tables after : List Table) (from to host : HostId) → Shift (load tables) (load after) from to → shifted from to (share_of tables host) ≡ share_of after host
share_shifted tables after from to host shift =
    let gives : load after from + 1 ≡ load tables from = shift.gives in
    let takes : load after to ≡ load tables to + 1 = shift.takes in
    elim (eqb from.0 host.0) as (λ v. eqb from.0 host.0 ≡ v → cond v (let s : Share = record { host = host; load = load tables host - 1 } in s) (cond (eqb to.0 host.0) (record { host = host; load = load tables host + 1 }) (share_of tables host)) ≡ share_of after host) [
      | true ↦ λ e.
          let is : from ≡ host = host_is from host e in
          let a : load after from ≡ load after host = ap (load after) is in
          let b : load tables from ≡ load tables host = ap (load tables) is in
          let less : load tables host - 1 ≡ load after host = omega arith in
          ap (λ (n : ℕ). let s : Share = record { host = host; load = n } in s) less
      | false ↦ λ e.
          elim (eqb to.0 host.0) as (λ v. eqb to.0 host.0 ≡ v → cond v (let s : Share = record { host = host; load = load tables host + 1 } in s) (share_of tables host) ≡ share_of after host) [
            | true ↦ λ d.
                let is : to ≡ host = host_is to host d in
                let a : load after to ≡ load after host = ap (load after) is in
                let b : load tables to ≡ load tables host = ap (load tables) is in
                let more : load tables host + 1 ≡ load after host = omega arith in
                ap (λ (n : ℕ). let s : Share = record { host = host; load = n } in s) more
            | false ↦ λ d. ap (λ (n : ℕ). let s : Share = record { host = host; load = n } in s) (sym (shift.others host e d))
          ] refl
    ] refl

-- the shares after a move are those of the tables after it
pub shares_shifted : (tables after : List Table) (from to : HostId) (hosts : List HostId) → Shift (load tables) (load after) from to → map (shifted from to) (map (share_of tables) hosts) ≡ map (share_of after) hosts
shares_shifted tables after from to [] shift = refl
shares_shifted tables after from to (h ∷ rest) shift =
    ap (λ (s : Share). s ∷ map (shifted from to) (map (share_of tables) rest)) (share_shifted tables after from to h shift)
    ∙ ap (λ (l : List Share). share_of after h ∷ l) (shares_shifted tables after from to rest shift)

can_shift : (tables after : List Table) (from to host : HostId) → tablet_count tables ≤ 1024 → Shift (load tables) (load after) from to → CanShift from (share_of tables host)
can_shift tables after from to host few shift =
    let most : load tables host ≤ tablet_count tables = load_few tables host in
    record {
      some = λ e.
          (let gives : load after from + 1 ≡ load tables from = shift.gives in
          let same : load tables from ≡ load tables host = ap (load tables) (host_is from host e) in omega arith);
      room = omega arith;
    }

pub shares_can : (tables after : List Table) (from to : HostId) (hosts : List HostId) → tablet_count tables ≤ 1024 → Shift (load tables) (load after) from to → (k : ℕ) (other : Share) → k < length (map (share_of tables) hosts) → CanShift from (get_or (map (share_of tables) hosts) k other)
shares_can tables after from to hosts few shift k other below =
    let P : Share → Type 0 = CanShift from in
    let none : HostId = record { 0 = 0 } in
    subst P (sym (get_or-map (share_of tables) hosts k none other (omega (arith, length-map hosts (share_of tables)))))
    (can_shift tables after from to (get_or hosts k none) few shift)

-- within a list the default does not matter
pub get_or_any : (xs : List Share) (k : ℕ) (a b : Share) → k < length xs → get_or xs k a ≡ get_or xs k b
get_or_any [] k a b below = absurd (omega arith)
get_or_any (x ∷ xs) zero a b below = refl
get_or_any (x ∷ xs) (suc k) a b below = get_or_any xs k a b (omega arith)
