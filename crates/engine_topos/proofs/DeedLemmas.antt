-- What a coordinator does for its move, and what it leaves.
use Rattle.std.proofs.Common.{arith, refl, subst, ◌∙◌}
use Rattle.std.proofs.lemmas.Bool.Decides.{nat_tests}
use Rattle.std.specs.Prelude.{Bool, List, None, Option, Some, false, if◌then◌else◌, nat_le, nat_lt, option_map, true, ℕ, ◌<◌, ◌≡◌, ◌≤◌}
use Rattle.barrier_core.specs.Facts.{first_without}
use Rattle.barrier_core.specs.declared.data.Mode.TheVariants.{Fenced}
use Rattle.barrier_core.specs.declared.data.Told.{Told}
use Rattle.barrier_core.specs.declared.data.What.{What}
use Rattle.barrier_core.specs.declared.data.What.TheVariants.{Clean as CleanOf, Done, Drain, Fence as FenceAt, Ready as ReadyFor}
use Rattle.base_ids.specs.declared.ids.Session.{Session}
use Rattle.base_ids.specs.declared.ids.Actor.TheVariants.{Topo as ByTopo}
use Rattle.base_ids.specs.declared.ids.HostId.{HostId}
use Rattle.topo_state.specs.State.{Topology}
use Rattle.topo_state.specs.declared.command.Command.{Command}
use Rattle.topo_state.specs.declared.command.Command.TheVariants.{Advance}
use Rattle.migrate_core.specs.declared.next.Next.{Next}
use Rattle.migrate_core.specs.declared.next.Next.TheVariants.{Barrier, Clean, Nothing, Propose, Ready, Stream}
use Rattle.topo_coord.specs.Topo.{TopoView}
use Rattle.plan_facts.specs.Suits.{IsAbout}
use Rattle.plan_facts.specs.declared.standing.Standing.{Standing}
use Rattle.run_plan.specs.declared.plan.MoveAsk.{MoveAsk}
use Rattle.run_plan.specs.declared.plan.RunPlan.{RunPlan}
use Rattle.engine_desk.specs.Chairs.{Known}
use Rattle.engine_players.specs.Coordinators.{IsSafe}
use Rattle.engine_topos.specs.Courses.{is_inquiry}
use Rattle.engine_topos.specs.Deeds.{DeedSends, IsDeed, IsProposing, Moment, WayGoes, advance_rule, moment_at, must_wait, question, session_question, silence}
use Rattle.engine_topos.specs.Notes.{NotesView, asked_in}
use Rattle.engine_topos.specs.Turns.{SentStays, WaysStay, ask_outputs}
use Rattle.engine_topos.specs.declared.clock.Clock.{Clock}
use Rattle.engine_topos.specs.declared.deed.Deed.{Deed}
use Rattle.engine_topos.specs.declared.deed.Deed.TheVariants.{Hindered, Idle, Inquired, Proposed, Silent}
use Rattle.engine_topos.specs.declared.deed.Silence.TheVariants.{Absent, Spent, Waiting}
use Rattle.engine_topos.specs.declared.notes.Asked.{Asked}
use Rattle.engine_topos.proofs.SentLemmas.{sent_after, sent_before, sent_on}
use Rattle.engine_topos.proofs.TurnLemmas.{ways_on}

-- ---- questions

some_is : (a b : Asked) → Some a ≡ Some b → a ≡ b
some_is a b e = cc e

barrier_about : (state : Topology) (begun : Option ℕ) (host : HostId) (asked : Asked) (b : Bool) (other : Option HostId) → (if b then Some (record { to = host; what = Drain state.version }) else option_map (λ (o : HostId). record { to = o; what = FenceAt state.version }) other) ≡ Some asked → IsAbout state begun asked.what
barrier_about state begun host asked true other e =
    subst (λ (a : Asked). IsAbout state begun a.what) (some_is (record { to = host; what = Drain state.version }) asked e) refl
barrier_about state begun host asked false None e = cc e
barrier_about state begun host asked false (Some o) e =
    subst (λ (a : Asked). IsAbout state begun a.what) (some_is (record { to = o; what = FenceAt state.version }) asked e) refl

session_about : (state : Topology) (host : HostId) (kind : Session → What) (begun : Option ℕ) (asked : Asked) → ((number : ℕ) → IsAbout state (Some number) (kind (record { 0 = number }))) → session_question host kind begun ≡ Some asked → IsAbout state begun asked.what
session_about state host kind None asked about e = cc e
session_about state host kind (Some number) asked about e =
    subst (λ (a : Asked). IsAbout state (Some number) a.what) (some_is (record { to = host; what = kind (record { 0 = number }) }) asked e) (about number)

pub question_about : (next : Next) (state : Topology) (facts : List Told) (begun : Option ℕ) (asked : Asked) → question next state facts begun ≡ Some asked → IsAbout state begun asked.what
question_about (Barrier host) state facts begun asked e =
    barrier_about state begun host asked (nat_lt state.fence.0 state.version.0) (first_without facts Fenced state.version state.members state.before) e
question_about (Stream host) state facts begun asked e = session_about state host (λ session. Done session) begun asked (λ number. refl) e
question_about (Clean host) state facts begun asked e = session_about state host (λ session. CleanOf session) begun asked (λ number. refl) e
question_about (Ready host) state facts begun asked e = session_about state host (λ session. ReadyFor session) begun asked (λ number. refl) e
question_about (Propose command) state facts begun asked e = cc e
question_about Nothing state facts begun asked e = cc e

-- ---- silence

pub is_absent : (moment : Moment) (asked : Asked) → moment.hosts ≤ asked.to.0 → silence moment asked ≡ Some Absent
is_absent moment asked there =
    let absent : nat_le moment.hosts asked.to.0 ≡ true = grind (arith, nat_tests) in rw absent refl

pub is_waiting : (moment : Moment) (asked : Asked) → asked.to.0 < moment.hosts → must_wait moment.drain moment.notes moment.clock moment.takes asked ≡ true → silence moment asked ≡ Some Waiting
is_waiting moment asked there waits =
    let absent : nat_le moment.hosts asked.to.0 ≡ false = grind (arith, nat_tests) in rw (absent, waits) refl

pub is_spent : (moment : Moment) (asked : Asked) → asked.to.0 < moment.hosts → must_wait moment.drain moment.notes moment.clock moment.takes asked ≡ false → moment.most ≤ asked_in asked.to asked.what moment.notes.asks → silence moment asked ≡ Some Spent
is_spent moment asked there waits many =
    let absent : nat_le moment.hosts asked.to.0 ≡ false = grind (arith, nat_tests) in
    let spent : nat_le moment.most (asked_in asked.to asked.what moment.notes.asks) ≡ true = grind (arith, nat_tests) in
    rw (absent, waits, spent) refl

pub is_free : (moment : Moment) (asked : Asked) → asked.to.0 < moment.hosts → must_wait moment.drain moment.notes moment.clock moment.takes asked ≡ false → asked_in asked.to asked.what moment.notes.asks < moment.most → silence moment asked ≡ None
is_free moment asked there waits few =
    let absent : nat_le moment.hosts asked.to.0 ≡ false = grind (arith, nat_tests) in
    let spent : nat_le moment.most (asked_in asked.to asked.what moment.notes.asks) ≡ false = grind (arith, nat_tests) in
    rw (absent, waits, spent) refl

-- ---- proposals

pub safe_of : (state : Topology) (command : Command) → advance_rule state command ≡ None → IsSafe state command
safe_of state (Advance session to) e = e
safe_of state command e = tt

pub deed_proposing : (plan : RunPlan) (topo : TopoView) (notes : NotesView) (clock : Clock) (takes moves hosts : ℕ) (next : Next) (command : Command) (deed : Deed) → next ≡ Propose command → IsProposing topo notes command deed → IsDeed (moment_at plan topo notes clock takes moves hosts) next deed
deed_proposing plan topo notes clock takes moves hosts next command (Proposed outcome) is p = (command, is)
deed_proposing plan topo notes clock takes moves hosts next command (Hindered hindrance) is p = (command, is, p)
deed_proposing plan topo notes clock takes moves hosts next command (Inquired number asked) is p = absurd p
deed_proposing plan topo notes clock takes moves hosts next command (Silent cause) is p = absurd p
deed_proposing plan topo notes clock takes moves hosts next command Idle is p = absurd p

pub proposing_sends : (old new : Known) (host : HostId) (topo : TopoView) (notes : NotesView) (command : Command) (deed : Deed) → IsProposing topo notes command deed → SentStays old host new → DeedSends old host deed new
proposing_sends old new host topo notes command (Proposed outcome) p s = s
proposing_sends old new host topo notes command (Hindered hindrance) p s = s
proposing_sends old new host topo notes command (Inquired number asked) p s = absurd p
proposing_sends old new host topo notes command (Silent cause) p s = s
proposing_sends old new host topo notes command Idle p s = s

-- ---- what comes before and after

pub goes_after : (a b c : Known) (topo : HostId) (move : MoveAsk) (before after : Standing) (deed : Deed) → WayGoes a topo move before deed after b → WaysStay b topo c → WayGoes a topo move before deed after c
goes_after a b c topo move stood after (Proposed outcome) g stays =
    record { command = g.command; stage = g.stage; whole = stays ∙ g.whole; due = g.due; comes = g.comes; stands = g.stands }
goes_after a b c topo move stood after (Hindered hindrance) g stays = (ways_on a b c topo g.0 stays, g.1)
goes_after a b c topo move stood after (Inquired number asked) g stays = (ways_on a b c topo g.0 stays, g.1)
goes_after a b c topo move stood after (Silent cause) g stays = (ways_on a b c topo g.0 stays, g.1)
goes_after a b c topo move stood after Idle g stays = (ways_on a b c topo g.0 stays, g.1)

pub sends_before : (a b c : Known) (topo : HostId) (deed : Deed) → a.actor ≡ ByTopo topo → b.actor ≡ a.actor → SentStays a topo b → DeedSends b topo deed c → DeedSends a topo deed c
sends_before a b c topo (Inquired number asked) is same stays has = sent_before a b c topo number (ask_outputs topo asked) is (same ∙ is) stays has
sends_before a b c topo (Proposed outcome) is same stays s = sent_on a b c topo stays s
sends_before a b c topo (Hindered hindrance) is same stays s = sent_on a b c topo stays s
sends_before a b c topo (Silent cause) is same stays s = sent_on a b c topo stays s
sends_before a b c topo Idle is same stays s = sent_on a b c topo stays s

pub sends_after : (a b c : Known) (topo : HostId) (deed : Deed) → a.actor ≡ ByTopo topo → DeedSends a topo deed b → SentStays b topo c → DeedSends a topo deed c
sends_after a b c topo (Inquired number asked) is has stays = sent_after a b c topo number (ask_outputs topo asked) is has stays
sends_after a b c topo (Proposed outcome) is s stays = sent_on a b c topo s stays
sends_after a b c topo (Hindered hindrance) is s stays = sent_on a b c topo s stays
sends_after a b c topo (Silent cause) is s stays = sent_on a b c topo s stays
sends_after a b c topo Idle is s stays = sent_on a b c topo s stays

pub sends_none : (a b : Known) (topo : HostId) (deed : Deed) → is_inquiry deed ≡ false → DeedSends a topo deed b → SentStays a topo b
sends_none a b topo (Inquired number asked) e s = cc e
sends_none a b topo (Proposed outcome) e s = s
sends_none a b topo (Hindered hindrance) e s = s
sends_none a b topo (Silent cause) e s = s
sends_none a b topo Idle e s = s
