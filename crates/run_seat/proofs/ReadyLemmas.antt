-- What an actor may commit at its desk is ready at the book.
use Rattle.std.proofs.Common.{arith, ap, cond, refl, subst, sym, ◌∙◌}
use Rattle.std.proofs.lemmas.Bool.Decides.{nat_tests}
use Rattle.std.specs.Prelude.{Bool, List, Option, [], false, filter, length, nat_lt, true, ℕ, ◌+◌, ◌<◌, ◌==◌, ◌∷◌, ◌≡◌}
use Rattle.atomic_table.specs.Seated.{TableId}
use Rattle.base_ids.specs.declared.ids.Actor.{Actor}
use Rattle.base_ids.specs.declared.ids.Actor.TheVariants.{Topo as ByTopo}
use Rattle.base_ids.specs.declared.ids.HostId.{HostId}
use Rattle.base_ids.specs.declared.ids.StateId.{StateId}
use Rattle.base_ids.specs.declared.ids.Version.{Version}
use Rattle.book_rule.specs.Notes.{count_of, one_if}
use Rattle.book_rule.specs.Turns.{HasSpare as HasSpareAt, IsReady, IsReadyKind}
use Rattle.cluster_history.specs.History.{actor_of}
use Rattle.cluster_history.specs.Legal.{HasActor, IsFitEvent, outputs_of}
use Rattle.cluster_history.specs.Openings.{HasPart}
use Rattle.cluster_history.specs.declared.data.Entry.{Entry}
use Rattle.cluster_history.specs.declared.data.Event.{Event}
use Rattle.cluster_history.specs.declared.data.Event.TheVariants.{Begin, Propose, Quiet}
use Rattle.cluster_history.specs.declared.data.Output.{Output}
use Rattle.engine_desk.specs.Chairs.{HasSpare, Holds, IsEnabled, MayCommit, MayPropose, live_at, look_entry, pin_count}
use Rattle.run_seat.specs.Seated.{IsFound, IsSat, Sits, known_of}
use Rattle.topo_state.specs.declared.command.Command.{Command}
use Rattle.world_law.specs.Worlds.{MayPropose as MayProposeBy, kind_by, look_by, run_meaning}

pub counts : (version : Version) (pins : List Version) → pin_count version pins ≡ count_of version pins
counts version [] = refl
counts version (pin ∷ pins) = help (pin.0 == version.0) (counts version pins)
  where
    help : (b : Bool) → pin_count version pins ≡ count_of version pins → length (cond b (pin ∷ filter (λ (p : Version). p.0 == version.0) pins) (filter (λ (p : Version). p.0 == version.0) pins)) ≡ one_if b + count_of version pins
    help true rest = omega (arith, rest)
    help false rest = omega (arith, rest)

pub less_of : (a b : ℕ) → nat_lt a b ≡ true → a < b
less_of a b is = grind (arith, nat_tests)

-- ---- spare pins

pub spare_so : (table : TableId) (old : Sits) (idle : Option Version) (version : Version) → HasSpare (known_of table old idle) version → HasSpareAt run_meaning old old.seen version
spare_so table old idle version spare =
    (spare.0, spare.1, subst (λ n. live_at old.opening old.seen spare.0 version < n) (counts version old.note.pins) (less_of _ _ spare.2))

-- ---- commits

next_so : (table : TableId) (old : Sits) (idle : Option Version) (event : Event) (outputs : List Output) → HasActor old.opening event → IsFitEvent old.opening event → IsEnabled (known_of table old idle) event → outputs ≡ outputs_of old.opening old.seen event → Holds (known_of table old idle) event → IsSat old idle → actor_of event ≡ old.actor → IsReadyKind run_meaning old (record { event = event; outputs = outputs }) (kind_by event outputs)
next_so table old idle (Begin lane operation version) outputs there fit enabled same holds sat mine =
    (record { actor = there; fit = fit; enabled = enabled; outputs = same }, (lane, sym mine, subst (λ n. live_at old.opening old.seen lane version < n) (counts version old.note.pins) (less_of _ _ holds)))
next_so table old idle (Quiet host version) [] there fit enabled same holds sat mine = (host, sym mine, subst (λ (o : Option Version). IsFound old o) holds sat.idle_is)
next_so table old idle (Quiet host version) (output ∷ outputs) there fit enabled same holds sat mine = cc same
next_so table old idle (Propose topo command) outputs there fit enabled same holds sat mine = absurd holds
next_so table old idle event outputs there fit enabled same holds sat mine = record { actor = there; fit = fit; enabled = enabled; outputs = same }

pub may_commit : (table : TableId) (old : Sits) (idle : Option Version) (entry : Entry) → IsSat old idle → MayCommit (known_of table old idle) entry → IsReady run_meaning old entry
may_commit table old idle entry sat may =
    (may.author, next_so table old idle entry.event entry.outputs may.there may.fit may.enabled may.outputs may.holds sat may.author)

pub may_look : (old : Sits) (idle : Option Version) (topo : HostId) → IsSat old idle → old.actor ≡ ByTopo topo → IsReady run_meaning old (look_entry topo)
may_look old idle topo sat is =
    (sym is, record { actor = subst (HasPart old.opening) is sat.there; fit = tt; enabled = refl; outputs = refl })

-- ---- proposals

pub may_propose : (table : TableId) (old : Sits) (idle : Option Version) (topo : HostId) (read : StateId) (command : Command) → IsSat old idle → MayPropose (known_of table old idle) topo read command → MayProposeBy old.opening old.seen old.actor command
may_propose table old idle topo read command sat may =
    subst (λ (a : Actor). MayProposeBy old.opening old.seen a command) (sym may.author)
    (record { actor = subst (HasPart old.opening) may.author sat.there; fit = may.fit; enabled = may.enabled })

pub read_so : (table : TableId) (old : Sits) (idle : Option Version) (topo : HostId) (read : StateId) (command : Command) → MayPropose (known_of table old idle) topo read command → read.0 ≡ look_by old.seen old.actor
read_so table old idle topo read command may = may.look ∙ ap (look_by old.seen) (sym may.author)
