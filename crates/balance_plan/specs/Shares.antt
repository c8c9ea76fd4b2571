-- Members with their loads, which are counted once and then kept over moves.
use Rattle.std.specs.Prelude.{◌≡◌, ◌≤◌, ◌+◌, ◌-◌, ◌==◌, ℕ, nat_lt, true, Bool, List, map, filter, Option, None, if◌then◌else◌}
use Rattle.base_ids.specs.Names.{same_host}
use Rattle.base_ids.specs.declared.ids.HostId.{HostId}
use Rattle.topo_state.specs.declared.data.Table.{Table}
use Rattle.balance_plan.specs.declared.data.Move.{Move}
use Rattle.balance_plan.specs.declared.loads.Share.{Share}
use Rattle.balance_plan.specs.Loads.{load, greatest, least}
use Rattle.balance_plan.specs.Plans.{least_host, move_between}

abbrev pub share_of : List Table → HostId → Share
share_of tables host = record { host = host; load = load tables host }

abbrev pub load_of : Share → ℕ
load_of share = share.load

abbrev pub host_of : Share → HostId
host_of share = share.host

abbrev pub has_load : ℕ → Share → Bool
has_load n share = share.load == n

-- the greatest load less the least
abbrev pub spread_by : List Share → ℕ
spread_by shares = greatest (map load_of shares) - least (map load_of shares)

-- the next move of a plan, by the members' loads
abbrev pub next_by : List Share → List Table → Option Move
next_by shares tables =
    if nat_lt 1 (greatest (map load_of shares) - least (map load_of shares))
    then move_between
    (least_host (map host_of (filter (has_load (greatest (map load_of shares))) shares)))
    (least_host (map host_of (filter (has_load (least (map load_of shares))) shares)))
    tables
    else None

-- the share after a replica went from one host to another
abbrev pub shifted : HostId → HostId → Share → Share
shifted from to share =
    if same_host from share.host then record share { load = share.load - 1 }
    else if same_host to share.host then record share { load = share.load + 1 }
    else share

-- the load can fall where the host gives, and rise
pub record CanShift (from : HostId) (share : Share) : Type 0 where
  pub some : same_host from share.host ≡ true → 1 ≤ share.load
  pub room : share.load ≤ 1024
