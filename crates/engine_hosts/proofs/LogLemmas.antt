-- A host follows the log and pulls: its events are due and suit the plan.
use Rattle.std.proofs.Common.{ap, arith, refl, subst, sym, ◌∙◌}
use Rattle.std.proofs.lemmas.Bool.Decides.{nat_tests}
use Rattle.std.specs.Prelude.{Bool, None, Ok, Some, false, if◌then◌else◌, length, nat_lt, option_map, true, ℕ, ◌+◌, ◌<◌, ◌≡◌, ◌≤◌}
use Rattle.base_ids.specs.declared.ids.HostId.{HostId}
use Rattle.base_ids.specs.declared.ids.Session.{Session}
use Rattle.base_ids.specs.declared.ids.Version.{Version}
use Rattle.base_ids.specs.declared.rules.EventRule.TheVariants.{NothingToApply}
use Rattle.group0_log.specs.Log.{command_at}
use Rattle.group0_log.proofs.StateLemmas.{command_within}
use Rattle.topo_state.specs.declared.command.Command.{Command}
use Rattle.cluster_history.specs.Topology.{applied_count, floor_of, log_of, version_of}
use Rattle.cluster_history.specs.declared.data.Event.{Event}
use Rattle.cluster_history.specs.declared.data.Event.TheVariants.{Apply, Pull, Quiet}
use Rattle.cluster_history.proofs.WithinLemmas.{applied_within}
use Rattle.host_core.specs.Host.{HostView, host_rule}
use Rattle.host_core.specs.declared.data.HostInput.TheVariants.{Apply as ApplyInput, Pull as PullInput, Quiet as QuietInput}
use Rattle.host_ties.proofs.HostRules.{host_rules}
use Rattle.plan_facts.specs.Own.{chunk_count, pull_count}
use Rattle.plan_facts.specs.Suits.{Suits}
use Rattle.run_plan.specs.declared.plan.RunPlan.{RunPlan}
use Rattle.engine_desk.specs.Chairs.{HasNoted, HasTurned, IsNextVersion, IsPublishing, Known, found_idle, published_by}
use Rattle.engine_desk.specs.Desks.{DeskNoted, DeskView, IsSeated}
use Rattle.engine_desk.proofs.NotedLemmas.{desk_noted, idling_noted}
use Rattle.engine_players.specs.Hosts.{IsHost, IsHostDue, IsHostPlayed}
use Rattle.engine_hosts.specs.Notes.{IsNoted, NotesView, next_version, publish_noted, times_in}
use Rattle.engine_hosts.specs.Turns.{HasAdded, HasNoMore, IsAtHost, plain_entry}
use Rattle.engine_hosts.proofs.TurnLemmas.{added_on, event_added}

-- ---- an apply

pub applied_few : (known : Known) (host : HostView) → IsSeated known → IsHost known host → host.applied ≤ 10000
applied_few known host seated is =
    let same : host.applied ≡ applied_count known.seen host.host = ap (λ (v : HostView). v.applied) is.view in
    let within = applied_within known.opening known.seen host.host seated.run.legal in
    let short = seated.run.commands in
    omega (arith, same, within, short)

may_apply : (applied len : ℕ) → applied + 1 ≤ len → (if nat_lt applied len then None else Some NothingToApply) ≡ None
may_apply applied len less = let so : nat_lt applied len ≡ true = grind (arith, nat_tests) in ap (λ b. if b then None else Some NothingToApply) so

pub apply_due : (desk : DeskView) (host : HostView) (name : HostId) (command : Command) → name ≡ host.host → IsHost desk.known host → desk.held ≡ None → Some command ≡ command_at (log_of desk.known.seen) (host.applied + 1) → IsHostDue desk host (Apply name) (ApplyInput command)
apply_due desk host name command named is free found =
    let seen = desk.known.seen in
    let log = log_of seen in
    let applied : host.applied ≡ applied_count seen host.host = ap (λ (v : HostView). v.applied) is.view in
    let there : command_at log (applied_count seen host.host + 1) ≡ Some command = ap (λ n. command_at log (n + 1)) (sym applied) ∙ sym found in
    subst (λ (h : HostId). IsHostDue desk host (Apply h) (ApplyInput command)) (sym named)
    (record {
      author = refl;
      enabled = may_apply (applied_count seen host.host) (length log) (command_within log (applied_count seen host.host + 1) command there);
      input_is = ap (option_map ApplyInput) there;
      holds = tt;
      held = free;
    })

pub apply_added : (old mid after : DeskView) (host played : HostView) (name : HostId) (command : Command) (number : ℕ) → name ≡ host.host → HasTurned old.known mid.known → IsHostPlayed mid host (Apply name) (ApplyInput command) (Ok number) after played → HasAdded old.known (plain_entry (Apply host.host)) after.known
apply_added old mid after host played name command number named t p =
    added_on old.known mid.known after.known (plain_entry (Apply host.host)) t
    (subst (λ (h : HostId). HasAdded mid.known (plain_entry (Apply h)) after.known) named
    (event_added mid after host played (Apply name) (ApplyInput command) number p))

-- ---- a version

pub reached_version : (known : Known) (host : HostView) → IsHost known host → host.state.version.0 ≡ (version_of known.opening known.seen host.host).0
reached_version known host is = ap (λ (v : HostView). v.state.version.0) is.view

pub next_due : (known : Known) (host : HostView) (notes : NotesView) (name : HostId) → IsHost known host → IsNoted known name notes → notes.published.0 < host.state.version.0 → IsNextVersion known (next_version notes.published)
next_due known host notes name is n more =
    let published : notes.published.0 ≡ known.published.0 = ap (λ (v : Version). v.0) n.published_is in
    let version = reached_version known host is in
    (omega (arith, published), (host.host, is.actor, omega (arith, more, version)))

noted_host : (old new : Known) (host : HostView) → HasNoted old new → IsHost old host → IsHost new host
noted_host old new host noted is = subst (λ (k : Known). IsHost k host) (sym noted) (record { actor = is.actor; view = is.view })

noted_notes : (old new : Known) (name : HostId) (notes later : NotesView) → HasNoted old new → IsNoted old name notes → later.pulls ≡ notes.pulls → later.chunks ≡ notes.chunks → later.published ≡ new.published → IsNoted new name later
noted_notes old new name notes later noted n pulls chunks published =
    let seen : new.seen ≡ old.seen = ap (λ (k : Known). k.seen) noted in
    record {
      pulls_are = λ session. ap (times_in session) pulls ∙ n.pulls_are session ∙ ap (λ h. pull_count h name session) (sym seen);
      chunks_are = λ session. ap (times_in session) chunks ∙ n.chunks_are session ∙ ap (λ h. chunk_count h name session) (sym seen);
      published_is = published;
    }

pub at_noted : (plan : RunPlan) (name : HostId) (old new : DeskView) (host : HostView) (notes later : NotesView) → IsAtHost plan name old host notes → DeskNoted old new → later.pulls ≡ notes.pulls → later.chunks ≡ notes.chunks → later.published ≡ new.known.published → IsAtHost plan name new host later
at_noted plan name old new host notes later a n pulls chunks published =
    record {
      kept = desk_noted plan old new n a.kept;
      host_is = noted_host old.known new.known host n.noted a.host_is;
      named = a.named;
      noted = noted_notes old.known new.known name notes later n.noted a.noted pulls chunks published;
      free = ap (λ (d : DeskView). d.held) n.is ∙ a.free;
    }

pub at_pinned : (plan : RunPlan) (name : HostId) (old new : DeskView) (host : HostView) (notes : NotesView) (version : Version) (done : Bool) → IsAtHost plan name old host notes → DeskNoted old new → IsPublishing old.known version done new.known → done ≡ false → IsAtHost plan name new host notes
at_pinned plan name old new host notes version done a n is blocked =
    at_noted plan name old new host notes notes a n refl refl
    (a.noted.published_is ∙ sym (ap (λ (k : Known). k.published) is ∙ ap (λ b. published_by b version old.known.published) blocked))

pub at_published : (plan : RunPlan) (name : HostId) (old new : DeskView) (host : HostView) (notes : NotesView) (version : Version) (done : Bool) → IsAtHost plan name old host notes → DeskNoted old new → IsPublishing old.known version done new.known → done ≡ true → IsAtHost plan name new host (publish_noted version notes)
at_published plan name old new host notes version done a n is through =
    at_noted plan name old new host notes (publish_noted version notes) a n refl refl
    (sym (ap (λ (k : Known). k.published) is ∙ ap (λ b. published_by b version old.known.published) through))

-- ---- a quiet entry

pub idle_noted : (old new : DeskView) (version : Version) (idle : Bool) → new ≡ record old { known = record old.known { idle = found_idle idle version } } → DeskNoted old new
idle_noted old new version idle is =
    let known : new.known ≡ record old.known { idle = found_idle idle version } = ap (λ (d : DeskView). d.known) is in
    record { noted = idling_noted old.known new.known version idle known; is = is ∙ ap (λ (k : Known). record old { known = k }) (sym known) }

pub at_idle : (plan : RunPlan) (name : HostId) (old new : DeskView) (host : HostView) (notes : NotesView) (version : Version) (idle : Bool) → IsAtHost plan name old host notes → new ≡ record old { known = record old.known { idle = found_idle idle version } } → IsAtHost plan name new host notes
at_idle plan name old new host notes version idle a is =
    at_noted plan name old new host notes notes a (idle_noted old new version idle is) refl refl (a.noted.published_is ∙ sym (ap (λ (d : DeskView). d.known.published) is))

pub quiet_due : (desk : DeskView) (host : HostView) (name : HostId) (version : Version) → name ≡ host.host → IsHost desk.known host → desk.held ≡ None → desk.known.idle ≡ Some version → version.0 ≤ host.state.version.0 → IsHostDue desk host (Quiet name version) (QuietInput version)
quiet_due desk host name version named is free idle within =
    let reached = reached_version desk.known host is in
    subst (λ (h : HostId). IsHostDue desk host (Quiet h version) (QuietInput version)) (sym named)
    (record { author = refl; enabled = omega (arith, within, reached); input_is = refl; holds = idle; held = free })

pub quiet_suits : (plan : RunPlan) (desk : DeskView) (host : HostView) (name : HostId) (version : Version) → name ≡ host.host → IsHost desk.known host → host.floor.0 < version.0 → Suits plan desk.known.opening desk.known.seen (Quiet name version)
quiet_suits plan desk host name version named is below =
    let floor : host.floor.0 ≡ (floor_of desk.known.seen host.host).0 = ap (λ (v : HostView). v.floor.0) is.view in
    let so : nat_lt (floor_of desk.known.seen host.host).0 version.0 ≡ true = grind (arith, nat_tests) in
    (ap (λ (h : HostId). nat_lt (floor_of desk.known.seen h).0 version.0) named ∙ so, tt)

-- what was added since something was noted
added_noted : (a b c : Known) (event : Event) → HasNoted a b → HasAdded b (plain_entry event) c → HasAdded a (plain_entry event) c
added_noted a b c event noted added =
    let later = subst (λ (k : Known). HasAdded k (plain_entry event) c) noted added in
    record { now = later.now; later = later.later; is = later.is }

pub no_more_noted : (a b c : Known) → HasNoted a b → HasNoMore b c → HasNoMore a c
no_more_noted a b c noted none = subst (λ (k : Known). HasNoMore k c) noted none

pub quiet_added : (old mid after : DeskView) (host played : HostView) (name : HostId) (version : Version) (number : ℕ) → name ≡ host.host → version ≡ old.known.published → DeskNoted old mid → IsHostPlayed mid host (Quiet name version) (QuietInput version) (Ok number) after played → HasAdded old.known (plain_entry (Quiet host.host old.known.published)) after.known
quiet_added old mid after host played name version number named published n p =
    let added : HasAdded mid.known (plain_entry (Quiet name version)) after.known = event_added mid after host played (Quiet name version) (QuietInput version) number p in
    added_noted old.known mid.known after.known (Quiet host.host old.known.published) n.noted
    (subst (λ (v : Version). HasAdded mid.known (plain_entry (Quiet host.host v)) after.known) published
    (subst (λ (h : HostId). HasAdded mid.known (plain_entry (Quiet h version)) after.known) named added))

-- ---- a pull

pub pull_due : (desk : DeskView) (host : HostView) (name : HostId) (session : Session) → name ≡ host.host → IsHost desk.known host → desk.held ≡ None → host_rule host (PullInput session) ≡ None → IsHostDue desk host (Pull name session) (PullInput session)
pull_due desk host name session named is free may =
    let known = desk.known in
    subst (λ (h : HostId). IsHostDue desk host (Pull h session) (PullInput session)) (sym named)
    (record {
      author = refl;
      enabled = (host_rules known.opening known.seen host.host).pull session ∙ ap (λ (v : HostView). host_rule v (PullInput session)) (sym is.view) ∙ may;
      input_is = refl;
      holds = tt;
      held = free;
    })

pub pull_suits : (plan : RunPlan) (desk : DeskView) (notes : NotesView) (name : HostId) (session : Session) (pulls chunks : ℕ) → IsNoted desk.known name notes → pulls ≡ times_in session notes.pulls → chunks ≡ times_in session notes.chunks → pulls < chunks + plan.patience → Suits plan desk.known.opening desk.known.seen (Pull name session)
pull_suits plan desk notes name session pulls chunks n pulls_are chunks_are few =
    let pulled : pulls ≡ pull_count desk.known.seen name session = pulls_are ∙ n.pulls_are session in
    let taken : chunks ≡ chunk_count desk.known.seen name session = chunks_are ∙ n.chunks_are session in
    (grind (arith, nat_tests), tt)

pub pull_spent : (plan : RunPlan) (desk : DeskView) (host : HostView) (notes : NotesView) (name : HostId) (session : Session) (pulls chunks : ℕ) → name ≡ host.host → IsNoted desk.known name notes → pulls ≡ times_in session notes.pulls → chunks ≡ times_in session notes.chunks → chunks + plan.patience ≤ pulls → chunk_count desk.known.seen host.host session + plan.patience ≤ pull_count desk.known.seen host.host session
pull_spent plan desk host notes name session pulls chunks named n pulls_are chunks_are many =
    let pulled : pulls ≡ pull_count desk.known.seen host.host session = pulls_are ∙ n.pulls_are session ∙ ap (λ (h : HostId). pull_count desk.known.seen h session) named in
    let taken : chunks ≡ chunk_count desk.known.seen host.host session = chunks_are ∙ n.chunks_are session ∙ ap (λ (h : HostId). chunk_count desk.known.seen h session) named in
    omega (arith, many, pulled, taken)
