-- The moves of a schedule: their stages, and their pending hosts.
use Rattle.std.specs.Prelude.{ℕ, Bool, ◌==◌, not, List, [], ◌∷◌, Option, None, Some, find, unwrap_or}
use Rattle.std.specs.List.{list_any}
use Rattle.stage_graph.specs.declared.stage.Stage.{Stage}
use Rattle.stage_graph.specs.declared.stage.Stage.TheVariants.{AllowWriteBothReadOld, WriteBothReadOld, Streaming, WriteBothReadNew, UseNew, Cleanup, EndMigration, FallbackCleanup, CleanupTarget, RevertMigration}

-- the stage behind this one where a move goes well: a start is at the first of them, and behind the last there is none
abbrev pub next_forward : Stage → Option Stage
next_forward AllowWriteBothReadOld = Some WriteBothReadOld
next_forward WriteBothReadOld = Some Streaming
next_forward Streaming = Some WriteBothReadNew
next_forward WriteBothReadNew = Some UseNew
next_forward UseNew = Some Cleanup
next_forward Cleanup = Some EndMigration
next_forward EndMigration = None
-- the stages of the way back, which no schedule enters
next_forward FallbackCleanup = None
next_forward CleanupTarget = None
next_forward RevertMigration = None

-- the five hosts of a made schedule
abbrev pub all_hosts : List ℕ
all_hosts = 0 ∷ 1 ∷ 2 ∷ 3 ∷ 4 ∷ []

-- whether the host is not among these
abbrev pub is_absent : List ℕ → ℕ → Bool
is_absent hosts host = not (list_any (λ other. other == host) hosts)

-- the least host that is not among these
abbrev pub least_absent : List ℕ → ℕ
least_absent hosts = unwrap_or (find (is_absent hosts) all_hosts) 0
