-- A host's turn: what its event leaves, and the turns of its desk.
use Rattle.std.proofs.Common.{ap, refl, subst, sym, ◌∙◌}
use Rattle.std.specs.Prelude.{Err, Ok, OnErr, Result, [], ℕ, ◌≡◌}
use Rattle.base_ids.specs.declared.ids.Actor.{Actor}
use Rattle.base_ids.specs.declared.ids.Actor.TheVariants.{Host as ByHost}
use Rattle.base_ids.specs.declared.ids.HostId.{HostId}
use Rattle.cluster_history.specs.History.{History}
use Rattle.cluster_history.specs.declared.data.Entry.{Entry}
use Rattle.cluster_history.specs.declared.data.Event.{Event}
use Rattle.host_core.specs.Host.{HostView}
use Rattle.host_core.specs.declared.data.HostInput.{HostInput}
use Rattle.host_ties.specs.HostTies.{host_view}
use Rattle.host_ties.proofs.HostTies.{host_stays}
use Rattle.plan_facts.specs.Suits.{Suits}
use Rattle.run_plan.specs.declared.plan.RunPlan.{RunPlan}
use Rattle.engine_desk.specs.Chairs.{HasTurned, IsLater, IsRun, Known}
use Rattle.engine_desk.specs.Desks.{DeskNoted, DeskTurned, DeskView, IsDesk, IsSameDesk}
use Rattle.engine_desk.specs.declared.chair.Refused.{Refused}
use Rattle.engine_desk.proofs.DeskLemmas.{desk_committed, desk_turned, turned_turned}
use Rattle.engine_desk.proofs.NotedLemmas.{desk_noted, same_noted}
use Rattle.engine_desk.proofs.LaterLemmas.{since}
use Rattle.engine_desk.proofs.SameLemmas.{same_committed, same_still, same_turned, same_twice}
use Rattle.engine_players.specs.Hosts.{IsHost, IsHostDue, IsHostPlayed, host_entry}
use Rattle.engine_hosts.specs.Notes.{IsNoted, NotesView, input_noted}
use Rattle.engine_hosts.specs.Turns.{HasAdded, HasNoMore, IsAtHost, IsStill}
use Rattle.engine_hosts.proofs.NoteLemmas.{noted_own, noted_since}

pub later_of : (known : Known) (host : HostId) (now : History) → known.actor ≡ ByHost host → IsLater known.opening known.actor known.seen now → IsLater known.opening (ByHost host) known.seen now
later_of known host now is later = subst (λ (a : Actor). IsLater known.opening a known.seen now) is later

-- ---- what an event leaves

pub event_kept : (plan : RunPlan) (desk after : DeskView) (host played : HostView) (event : Event) (input : HostInput) (result : Result ℕ Refused) → IsDesk plan desk → IsHost desk.known host → IsHostDue desk host event input → Suits plan desk.known.opening desk.known.seen event → IsHostPlayed desk host event input result after played → IsDesk plan after
event_kept plan desk after host played event input (Ok number) d is due suits p =
    desk_committed plan desk (host_entry host event input) number after d (due.author ∙ sym is.actor) due.held suits p.0
event_kept plan desk after host played event input (Err refused) d is due suits p = desk_turned plan desk after d p

pub event_takes : (desk after : DeskView) (host played : HostView) (event : Event) (input : HostInput) (result : Result ℕ Refused) → IsHostPlayed desk host event input result after played → after.takes ≡ desk.takes
event_takes desk after host played event input (Ok number) p = ap (λ (d : DeskView). d.takes) p.0.is
event_takes desk after host played event input (Err refused) p = ap (λ (d : DeskView). d.takes) p.is

pub event_same : (desk after : DeskView) (host played : HostView) (event : Event) (input : HostInput) (result : Result ℕ Refused) → IsHostPlayed desk host event input result after played → IsSameDesk desk after
event_same desk after host played event input (Ok number) p = same_committed desk after (host_entry host event input) number p.0
event_same desk after host played event input (Err refused) p = same_turned desk after p

pub turned_none : (old new : Known) → HasTurned old new → HasNoMore old new
turned_none old new t = subst (λ (k : Known). IsLater old.opening old.actor old.seen k.seen) (sym t.is) t.later

pub event_lost : (desk after : DeskView) (host played : HostView) (event : Event) (input : HostInput) (result : Result ℕ Refused) → IsHostPlayed desk host event input result after played → OnErr result (HasNoMore desk.known after.known)
event_lost desk after host played event input (Ok number) p = tt
event_lost desk after host played event input (Err refused) p = turned_none desk.known after.known p.turned

pub event_added : (desk after : DeskView) (host played : HostView) (event : Event) (input : HostInput) (number : ℕ) → IsHostPlayed desk host event input (Ok number) after played → HasAdded desk.known (host_entry host event input) after.known
event_added desk after host played event input number p =
    record { now = p.0.committed.now; later = p.0.committed.later; is = ap (λ (k : Known). k.seen) p.0.committed.is }

named_by : (a b : HostId) → ByHost a ≡ ByHost b → a ≡ b
named_by a b e = cc e

pub named_after : (desk after : DeskView) (host played : HostView) (event : Event) (input : HostInput) (number : ℕ) → IsHost desk.known host → IsHostPlayed desk host event input (Ok number) after played → host.host ≡ played.host
named_after desk after host played event input number is p =
    let actor : after.known.actor ≡ desk.known.actor = ap (λ (k : Known). k.actor) p.0.committed.is in
    named_by host.host played.host (sym is.actor ∙ sym actor ∙ p.1.actor)

noted_played : (desk after : DeskView) (host played : HostView) (event : Event) (input : HostInput) (number : ℕ) (notes : NotesView) → IsHost desk.known host → IsHostDue desk host event input → IsNoted desk.known host.host notes → IsHostPlayed desk host event input (Ok number) after played → IsNoted after.known host.host (input_noted input notes)
noted_played desk after host played event input number notes is due n p =
    let c = p.0.committed in
    let later = later_of desk.known host.host c.now is.actor c.later in
    subst (λ (k : Known). IsNoted k host.host (input_noted input notes)) (sym c.is)
    (noted_own desk.known c.now host.host event input (host_entry host event input).outputs notes later due.author due.input_is
    (noted_since desk.known host.host c.now notes later n))

pub at_played : (plan : RunPlan) (name : HostId) (desk after : DeskView) (host played : HostView) (event : Event) (input : HostInput) (number : ℕ) (notes : NotesView) → name ≡ host.host → IsHost desk.known host → IsHostDue desk host event input → IsDesk plan after → IsNoted desk.known name notes → IsHostPlayed desk host event input (Ok number) after played → IsAtHost plan name after played (input_noted input notes)
at_played plan name desk after host played event input number notes named is due d n p =
    record {
      kept = d;
      host_is = p.1;
      named = named ∙ named_after desk after host played event input number is p;
      noted = subst (λ (h : HostId). IsNoted after.known h (input_noted input notes)) (sym named)
          (noted_played desk after host played event input number notes is due (subst (λ (h : HostId). IsNoted desk.known h notes) named n) p);
      free = ap (λ (d : DeskView). d.held) p.0.is;
    }

-- ---- turns

pub host_turned : (old new : Known) (host : HostView) → HasTurned old new → IsHost old host → IsHost new host
host_turned old new host t is =
    subst (λ (k : Known). IsHost k host) (sym t.is)
    (record { actor = is.actor; view = is.view ∙ sym (since old.opening (ByHost host.host) (λ h. host_view old.opening h host.host) (λ history entry legal other. host_stays old.opening history entry host.host legal other) old.seen t.now (later_of old host.host t.now is.actor t.later)) })

pub noted_turned : (old new : Known) (host : HostId) (notes : NotesView) → old.actor ≡ ByHost host → HasTurned old new → IsNoted old host notes → IsNoted new host notes
noted_turned old new host notes is t n =
    subst (λ (k : Known). IsNoted k host notes) (sym t.is) (noted_since old host t.now notes (later_of old host t.now is t.later) n)

pub at_turned : (plan : RunPlan) (name : HostId) (old new : DeskView) (host : HostView) (notes : NotesView) → IsAtHost plan name old host notes → DeskTurned old new → IsAtHost plan name new host notes
at_turned plan name old new host notes a t =
    record {
      kept = desk_turned plan old new a.kept t;
      host_is = host_turned old.known new.known host t.turned a.host_is;
      named = a.named;
      noted = noted_turned old.known new.known name notes (a.host_is.actor ∙ ap ByHost (sym a.named)) t.turned a.noted;
      free = ap (λ (d : DeskView). d.held) t.is ∙ a.free;
    }

-- ---- what is left where nothing was done

pub still_same : (plan : RunPlan) (desk : DeskView) → IsDesk plan desk → IsStill plan desk desk
still_same plan desk d = record { kept = d; same = same_still desk; takes = refl }

pub still_turned : (plan : RunPlan) (old new : DeskView) → IsDesk plan old → DeskTurned old new → IsStill plan old new
still_turned plan old new d t = record { kept = desk_turned plan old new d t; same = same_turned old new t; takes = ap (λ (d : DeskView). d.takes) t.is }

pub still_noted : (plan : RunPlan) (old new : DeskView) → IsDesk plan old → DeskNoted old new → IsStill plan old new
still_noted plan old new d n = record { kept = desk_noted plan old new n d; same = same_noted old new n; takes = ap (λ (d : DeskView). d.takes) n.is }

pub still_on : (plan : RunPlan) (a b c : DeskView) → IsStill plan a b → IsStill plan b c → IsStill plan a c
still_on plan a b c f s = record { kept = s.kept; same = same_twice a b c f.same s.same; takes = s.takes ∙ f.takes }

pub no_more_same : (old new : Known) → new ≡ old → IsRun old.opening old.seen → HasNoMore old new
no_more_same old new is run =
    subst (λ (k : Known). HasNoMore old k) (sym is) (record { between = []; is = refl; others = tt; run = run })

-- ---- one call after another

later_on : (a b : Known) (now : History) → HasTurned a b → IsLater b.opening b.actor b.seen now → IsLater a.opening a.actor a.seen now
later_on a b now t later =
    let on : HasTurned b (record b { seen = now }) = record { now = now; later = later; is = refl } in
    let both = turned_turned a b (record b { seen = now }) t on in
    subst (λ (h : History). IsLater a.opening a.actor a.seen h) (sym (ap (λ (k : Known). k.seen) both.is)) both.later

pub no_more_on : (a b c : Known) → HasTurned a b → HasNoMore b c → HasNoMore a c
no_more_on a b c t later = later_on a b c.seen t later

pub added_on : (a b c : Known) (entry : Entry) → HasTurned a b → HasAdded b entry c → HasAdded a entry c
added_on a b c entry t added = record { now = added.now; later = later_on a b added.now t added.later; is = added.is }

pub on_err : {X E : Type 0} (result : Result X E) (Fact : Type 0) → Fact → OnErr result Fact
on_err (Ok x) Fact fact = tt
on_err (Err e) Fact fact = fact
