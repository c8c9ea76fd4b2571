-- What the entries of a diary mean.
use Rattle.std.specs.Prelude.{List, None, Option, Some, [], if◌then◌else◌, length, reverse, slice_get, true, ℕ, ◌&&◌, ◌+◌, ◌-◌, ◌<◌, ◌==◌, ◌∷◌, ◌≡◌, ◌≤◌}
use Rattle.base_ids.specs.Names.{first_version, same_host, same_lane}
use Rattle.base_ids.specs.Outcomes.{outcome_of}
use Rattle.base_ids.specs.declared.ids.Actor.{Actor}
use Rattle.base_ids.specs.declared.ids.Actor.TheVariants.{Host as ByHost, Lane as ByLane}
use Rattle.base_ids.specs.declared.ids.HostId.{HostId}
use Rattle.base_ids.specs.declared.ids.LaneId.{LaneId}
use Rattle.base_ids.specs.declared.ids.Version.{Version}
use Rattle.base_ids.specs.declared.rules.Appended.{Appended}
use Rattle.book_rule.specs.World.{Kind, Meaning, added, begins, later, plain, proposes, quiets}
use Rattle.thread_tests.specs.declared.diary.Diary.{Diary}
use Rattle.thread_tests.specs.declared.diary.Line.{Line}
use Rattle.thread_tests.specs.declared.diary.Line.TheVariants.{Begin, Note, Quiet, Reach, Say}

abbrev pub author : Line → Actor
author (Note by text) = by
author (Reach host steps) = ByHost host
author (Begin lane version) = ByLane lane
author (Quiet host version) = ByHost host
author (Say topo command outcome) = topo

abbrev pub kind : Line → Kind ℕ ℕ
kind (Note by text) = plain
kind (Reach host steps) = plain
kind (Begin lane version) = begins version
kind (Quiet host version) = quiets version
kind (Say topo command outcome) = proposes command outcome

abbrev pub message : Line → ℕ → Option ℕ
message (Note by text) out = if out == 0 then Some text else None
message line out = None

abbrev pub broken : ℕ → Option ℕ
broken command = if command == 0 then Some 1 else None

abbrev pub log : List Line → List ℕ
log [] = []
log (line ∷ history) = added (kind line) (log history)

abbrev pub version : List Line → HostId → Version
version [] host = first_version
version (Reach other steps ∷ history) host =
    if same_host other host then record { 0 = (version history host).0 + steps } else version history host
version (line ∷ history) host = version history host

abbrev pub floor : List Line → HostId → Version
floor [] host = first_version
floor (Quiet other raised ∷ history) host =
    if same_host other host then later (floor history host) raised else floor history host
floor (line ∷ history) host = floor history host

abbrev pub live : List Line → LaneId → Version → ℕ
live [] lane at = 0
live (Begin other from ∷ history) lane at =
    if same_lane other lane && (from.0 == at.0) then live history lane at + 1 else live history lane at
live (line ∷ history) lane at = live history lane at

-- each topo has read nothing of the log
abbrev pub outcome : List ℕ → ℕ → Appended ℕ
outcome commands command = outcome_of 0 (length commands) (broken command)

abbrev pub enabled : List Line → Line → Type 0
enabled history (Note by text) = Unit {0}
enabled history (Reach host steps) = Unit {0}
enabled history (Begin lane from) =
    ((floor history lane.host).0 ≤ from.0) × (from.0 ≤ (version history lane.host).0)
enabled history (Quiet host raised) =
    (raised.0 ≤ (version history host).0) ×
    ((lane : LaneId) (at : Version) →
    same_host lane.host host ≡ true → at.0 < raised.0 → live history lane at ≡ 0)
enabled history (Say topo command told) = told ≡ outcome (log history) command

abbrev pub command_at : List ℕ → ℕ → Option ℕ
command_at commands number = if number == 0 then None else slice_get (reverse commands) (number - 1)

abbrev pub meaning : Meaning Diary ℕ Line ℕ ℕ ℕ ℕ
meaning =
    record {
      opening = λ diary. diary.opening;
      commands = λ diary. reverse diary.log.items;
      no_opening = 0;
      is_in = λ opening actor. Unit {0};
      author = author;
      kind = kind;
      message = message;
      is_fit = λ command. Unit {0};
      proposal = Say;
      enabled = λ opening history line. enabled history line;
      may_propose = λ opening history topo command. Unit {0};
      log = λ opening history. log history;
      look = λ opening history topo. 0;
      floor = λ opening history host. floor history host;
      version = λ opening history host. version history host;
      live = λ opening history lane at. live history lane at;
      command_at = command_at;
      snapshot_at = λ opening commands at. Some opening;
      broken = λ opening commands command. broken command;
      most_entries = 20;
      most_commands = 2;
    }
