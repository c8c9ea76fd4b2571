-- What a seat of the running cluster's book is to the actor at its desk.
use Rattle.std.specs.Prelude.{None, Option, Some, [], ◌≡◌}
use Rattle.atomic_table.specs.Seated.{TableId}
use Rattle.base_ids.specs.declared.ids.Version.{Version}
use Rattle.book_rule.specs.Notes.{IsIdle}
use Rattle.book_rule.specs.World.{own_of}
use Rattle.book_rule.specs.declared.view.Known.{Known as Knows}
use Rattle.cluster_history.specs.Openings.{HasPart}
use Rattle.cluster_history.specs.declared.data.Entry.{Entry}
use Rattle.cluster_history.specs.declared.data.Opening.{Opening}
use Rattle.engine_desk.specs.Chairs.{Known}
use Rattle.world_law.specs.Worlds.{run_meaning}

-- what the seat knows of the cluster
abbrev pub Sits : Type 0
Sits = Knows Opening Entry

-- the same, as the actor's desk sees it
abbrev pub known_of : TableId → Sits → Option Version → Known
known_of table sits idle =
    record {
      table = table;
      opening = sits.opening;
      actor = sits.actor;
      seen = sits.seen;
      pins = sits.note.pins;
      published = sits.note.published;
      idle = idle;
    }

-- the words of the versions below this one were seen empty
abbrev pub IsFound : Sits → Option Version → Type 0
IsFound sits None = Unit {0}
IsFound sits (Some version) = IsIdle sits.note version

-- the seat's actor is one of the opening, it knows all entries of it, has confirmed each pin that it raised, and found
-- nothing pinned below this version
pub record IsSat (sits : Sits) (idle : Option Version) : Type 0 where
  pub there : HasPart sits.opening sits.actor
  pub own : own_of run_meaning sits.actor sits.seen ≡ sits.own
  pub confirmed : sits.note.raised ≡ []
  pub idle_is : IsFound sits idle
