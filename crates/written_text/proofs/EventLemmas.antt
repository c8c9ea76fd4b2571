-- The words of a written event are of the form of a line that says it.
use Rattle.std.proofs.Common.{List, None, Some, Ok, [], append-nil, append_assoc, ap, arith, codes, length, nat_lt, refl, subst, sym, true, ℕ, ◌++◌, ◌+◌, ◌^◌, ◌<◌, ◌∷◌, ◌≡◌, ◌≤◌}
use Rattle.std.proofs.lemmas.Bool.Decides.{nat_tests}
use Rattle.std.proofs.lemmas.List.{length-append}
use Rattle.std.specs.Fmt.{decimal}
use Rattle.std.specs.List.{AllByRecursion}
use Rattle.barrier_core.specs.declared.data.What.{What}
use Rattle.barrier_core.specs.declared.data.What.TheVariants.{Clean as CleanAsked, Done as DoneAsked, Drain as DrainAsked, Fence as FenceAsked, Ready as ReadyAsked}
use Rattle.base_ids.specs.declared.ids.Actor.{Actor}
use Rattle.base_ids.specs.declared.ids.Actor.TheVariants.{Host as ByHost, Lane as ByLane, Topo as ByTopo}
use Rattle.base_ids.specs.declared.ids.HostId.{HostId}
use Rattle.base_ids.specs.declared.ids.LaneId.{LaneId}
use Rattle.base_ids.specs.declared.ids.MsgRef.{MsgRef}
use Rattle.base_ids.specs.declared.ids.Replica.{Replica}
use Rattle.base_ids.specs.declared.ids.Version.{Version}
use Rattle.base_ids.specs.declared.rules.LimitName.TheVariants.{Replicas}
use Rattle.cluster_history.specs.Legal.{HasActor, IsFitEvent}
use Rattle.cluster_history.specs.Messages.{level_of}
use Rattle.cluster_history.specs.Openings.{HasHost, HasLane, HasPart}
use Rattle.cluster_history.specs.declared.data.Event.{Event}
use Rattle.cluster_history.specs.declared.data.Event.TheVariants.{Answer, Apply, Ask, Begin, Clean, Hear, Look, Propose, Pull, Quiet, Restart, Serve, Take, TakeChunk, Timeout}
use Rattle.cluster_history.specs.declared.data.Opening.{Opening}
use Rattle.cluster_history.specs.declared.data.Operation.{Operation}
use Rattle.cluster_history.specs.declared.data.Operation.TheVariants.{Read, Write}
use Rattle.schedule_data.specs.declared.data.LineAct.TheVariants.{Event as OneEvent}
use Rattle.schedule_data.specs.declared.data.LineRef.TheVariants.{Journal as InJournal}
use Rattle.schedule_lines.specs.Forms.{OfEvent, act_form, actor, advance, ask, at_version, begin, begin_by, begin_with, command, create, finalize, host_named, of_command, of_host, of_lane, of_lane_message, of_lane_request, of_message, of_session, of_version, operation, read_form, resize, set_fence, start, what, what_session, what_version, with_level, write}
use Rattle.schedule_lines.specs.Verbs.{behind_word}
use Rattle.schedule_lines.specs.declared.verbs.Behind.TheVariants.{Level as BehindLevel}
use Rattle.schedule_data.specs.declared.data.LineEvent.TheVariants.{Begin as BeginLine}
use Rattle.stage_graph.specs.declared.level.Level.{Level}
use Rattle.stage_graph.specs.declared.level.Level.TheVariants.{One, Two, Three, Quorum, All}
use Rattle.schedule_words.specs.declared.counts.Format.{Format}
use Rattle.schedule_words.specs.declared.counts.Format.TheVariants.{Two as SecondFormat}
use Rattle.text_grammar.specs.Readings.{or_rule}
use Rattle.text_grammar.specs.declared.faults.TextRule.TheVariants.{BadWord}
use Rattle.schedule_lines.specs.declared.verbs.ActorWord.TheVariants.{Host as HostWord, Lane as LaneWord, Topo as TopoWord}
use Rattle.schedule_lines.specs.declared.verbs.CommandVerb.TheVariants.{Advance as AdvanceVerb, Create as CreateVerb, Fence as SetFenceVerb, Finalize as FinalizeVerb, Join as JoinVerb, Leave as LeaveVerb, Resize as ResizeVerb, Start as StartVerb}
use Rattle.schedule_lines.specs.declared.verbs.EventVerb.TheVariants.{Host as HostEvent, Lane as LaneEvent, Restart as RestartVerb, Topo as TopoEvent}
use Rattle.schedule_lines.specs.declared.verbs.HostVerb.TheVariants.{Answer as AnswerVerb, Apply as ApplyVerb, Chunk as ChunkVerb, Clean as CleanVerb, Pull as PullVerb, Quiet as QuietVerb, Serve as ServeVerb}
use Rattle.schedule_lines.specs.declared.verbs.LaneVerb.TheVariants.{Begin as BeginVerb, Take as TakeVerb, Timeout as TimeoutVerb}
use Rattle.schedule_lines.specs.declared.verbs.OperationVerb.TheVariants.{Read as ReadVerb, Write as WriteVerb}
use Rattle.schedule_lines.specs.declared.verbs.TopoVerb.TheVariants.{Ask as AskVerb, Hear as HearVerb, Look as LookVerb, Propose as ProposeVerb}
use Rattle.schedule_lines.specs.declared.verbs.WhatVerb.TheVariants.{Clean as CleanAsk, Done as DoneAsk, Drain as DrainAsk, Fence as FenceAsk, Ready as ReadyAsk}
use Rattle.schedule_words.specs.Labels.{LineOf}
use Rattle.schedule_words.specs.Places.{host, lane, next_replica, one_of}
use Rattle.schedule_words.specs.declared.counts.Counts.{Counts}
use Rattle.schedule_write.specs.Events.{actor_words, spelt_command, event_words, operation_words, spelt_what}
use Rattle.schedule_write.specs.Words.{spelt_host, spelt_lane, spelt_level, reference_word, replica_words}
use Rattle.text_grammar.specs.Judging.{if_within}
use Rattle.text_grammar.specs.Shapes.{AreEach, Each, EndOr, Is, Shape, Spells, Word}
use Rattle.topo_state.specs.Rules.{IsFit}
use Rattle.topo_state.specs.declared.command.Command.{Command}
use Rattle.topo_state.specs.declared.command.Command.TheVariants.{Advance, CreateTable, FinalizeResize, Join, Leave, Resize, SetFence, Start}
use Rattle.written_text.proofs.PlaceLemmas.{is_any_host, is_any_replica, is_cell, is_host, is_lane, is_log2, is_operation_number, is_reference, is_resize_kind, is_session, is_table_number, is_tablet_number, is_target, is_token, is_version}
use Rattle.written_text.specs.Fits.{FitsCommand, FitsEvent, FitsOperation, FitsReference, FitsReplica, FitsWhat}
use Rattle.written_text.specs.Schedules.{line_event}

-- ---- parts of lines

spells_operation : {A : Type 0} (more : Operation → Shape A) (op : Operation) (rest : List (List ℕ)) (a : A) → FitsOperation op → Spells (more (with_level Quorum op)) rest a → Spells (operation more) (operation_words op ++ rest) a
unfolding operation write read_form
spells_operation more (Write t k c level) rest a fits spells =
    (WriteVerb, refl, (t, is_table_number t fits.0, (k, is_token k, (c, is_cell c fits.1, spells))))
spells_operation more (Read t k level) rest a fits spells =
    (ReadVerb, refl, (t, is_table_number t fits, (k, is_token k, spells)))

-- a level is known by its word in the second format
known_level : (level : Level) → or_rule BadWord (behind_word SecondFormat (spelt_level level)) ≡ Ok (BehindLevel level)
known_level One = refl
known_level Two = refl
known_level Three = refl
known_level Quorum = refl
known_level All = refl

own_level : (op : Operation) → with_level (level_of op) (with_level Quorum op) ≡ op
own_level (Write t k c level) = refl
own_level (Read t k level) = refl

-- a level and a version behind an operation
spells_behind : (l : LaneId) (op : Operation) (v : Version) → v.0 < 2 ^ 64 →
    Spells (EndOr (BeginLine l (with_level Quorum op) None) (Word (one_of (behind_word SecondFormat)) (begin_by l (with_level Quorum op)))) (spelt_level (level_of op) ∷ codes "at" ∷ decimal v.0 ∷ []) (BeginLine l op (Some v))
unfolding begin_with at_version
spells_behind l op v fits =
    (BehindLevel (level_of op), known_level (level_of op), (v, (tt, refl, (v, is_version v fits, refl)), ap (λ (o : Operation). BeginLine l o (Some v)) (sym (own_level op))))

spells_what : (w : What) → FitsWhat w → Spells what (spelt_what w) w
unfolding what what_version what_session
spells_what (DrainAsked v) fits = (DrainAsk, refl, (v, (v, is_version v fits, refl), refl))
spells_what (FenceAsked v) fits = (FenceAsk, refl, (v, (v, is_version v fits, refl), refl))
spells_what (DoneAsked s) fits = (DoneAsk, refl, (s, (s, is_session s fits, refl), refl))
spells_what (CleanAsked s) fits = (CleanAsk, refl, (s, (s, is_session s fits, refl), refl))
spells_what (ReadyAsked s) fits = (ReadyAsk, refl, (s, (s, is_session s fits, refl), refl))

-- ---- commands

room : (earlier : List Replica) (r : Replica) → length earlier < 8 → if_within (nat_lt (length earlier) 8) Replicas r ≡ Ok r
room earlier r few =
    let e : nat_lt (length earlier) 8 ≡ true = grind (arith, nat_tests) in
    rw e refl

are_replicas : (replicas earlier : List Replica) → AllByRecursion FitsReplica replicas → length earlier + length replicas ≤ 8 → AreEach next_replica earlier (replica_words replicas) (earlier ++ replicas)
unfolding next_replica
are_replicas [] earlier fits few = append-nil earlier
are_replicas (r ∷ replicas) earlier fits few =
    let size : length (earlier ++ r ∷ []) ≡ length earlier + length (r ∷ []) = length-append earlier (r ∷ []) in (
      r,
      (r, is_any_replica r fits.0, room earlier r (omega arith)),
      subst
          (AreEach next_replica (earlier ++ r ∷ []) (replica_words replicas))
          (append_assoc earlier (r ∷ []) replicas)
          (are_replicas replicas (earlier ++ r ∷ []) fits.1 (omega arith)),
    )

spells_each : {A : Type 0} (made : List Replica → A) (replicas : List Replica) → AllByRecursion FitsReplica replicas → 1 ≤ length replicas → length replicas ≤ 8 → Spells (Each next_replica made) (replica_words replicas) (made replicas)
spells_each made [] fits some few = absurd (omega arith)
spells_each made (r ∷ replicas) fits some few = (r ∷ replicas, are_replicas (r ∷ replicas) [] fits (omega arith), refl)

spells_command : (x : Command) → FitsCommand x → IsFit x → Spells command (spelt_command x) x
unfolding command create start advance set_fence host_named resize finalize
spells_command (CreateTable t b replicas) fits fit = (
  CreateVerb,
  refl,
  (t, is_table_number t fits.0, (b, is_log2 b fit.0, spells_each (CreateTable t b) replicas fits.1 fit.1 fit.2)),
)
spells_command (Start t i f p) fits fit = (
  StartVerb,
  refl,
  (
    t,
    is_table_number t fits.0,
    (i, is_tablet_number i fits.1, (f, is_any_replica f fits.2, (p, is_any_replica p fits.3, refl))),
  ),
)
spells_command (Advance s to) fits fit = (AdvanceVerb, refl, (s, is_session s fits, (to, is_target to, refl)))
spells_command (SetFence v) fits fit = (SetFenceVerb, refl, (v, is_version v fits, refl))
spells_command (Join h) fits fit = (JoinVerb, refl, (h, (h, is_any_host h fits, refl), refl))
spells_command (Leave h) fits fit = (LeaveVerb, refl, (h, (h, is_any_host h fits, refl), refl))
spells_command (Resize t kind) fits fit =
    (ResizeVerb, refl, (t, is_table_number t fits, (kind, is_resize_kind kind, refl)))
spells_command (FinalizeResize t s) fits fit =
    (FinalizeVerb, refl, (t, is_table_number t fits.0, (s, is_session s fits.1, refl)))

-- ---- events

-- the hosts and lanes of an opening are few
pub record AreFew (counts : Counts) (opening : Opening) : Type 0 where
  pub format : counts.format ≡ SecondFormat
  pub hosts : counts.hosts ≡ opening.hosts
  pub few_hosts : counts.hosts ≤ 256
  pub lanes : counts.lanes ≡ opening.lanes
  pub few_lanes : counts.lanes ≤ 4

abbrev IsHostOf : Counts → HostId → Type 0
IsHostOf counts h = Is (host counts.hosts) (spelt_host h) h

host_there : (counts : Counts) (opening : Opening) → AreFew counts opening → (h : HostId) → HasHost opening h → IsHostOf counts h
host_there counts opening few h has =
    let hosts : counts.hosts ≡ opening.hosts = few.hosts in
    is_host counts.hosts h (omega arith) few.few_hosts

lane_there : (counts : Counts) (opening : Opening) → AreFew counts opening → (l : LaneId) → HasLane opening l → Is (lane counts) (spelt_lane l) l
lane_there counts opening few l has =
    let hosts : counts.hosts ≡ opening.hosts = few.hosts in
    let lanes : counts.lanes ≡ opening.lanes = few.lanes in
    let on : l.host.0 < opening.hosts = has.0 in
    let by : l.lane < opening.lanes = has.1 in
    is_lane counts l (omega arith) few.few_hosts (omega arith) few.few_lanes

spells_actor : (counts : Counts) (opening : Opening) → AreFew counts opening → (a : Actor) → HasPart opening a → Spells (actor counts) (actor_words a) a
unfolding actor of_host of_lane
spells_actor counts opening few (ByHost h) has = (HostWord, refl, (h, (h, host_there counts opening few h has, refl), refl))
spells_actor counts opening few (ByLane l) has = (LaneWord, refl, (l, (l, lane_there counts opening few l has, refl), refl))
spells_actor counts opening few (ByTopo h) has = (TopoWord, refl, (h, (h, host_there counts opening few h has, refl), refl))

spells_message : (counts : Counts) (opening : Opening) → AreFew counts opening → (labels : LineOf) (h : HostId) (at : MsgRef) → HasHost opening h → FitsReference at → Spells (of_message counts labels) (spelt_host h ∷ reference_word at ∷ []) (h, InJournal at)
unfolding of_message
spells_message counts opening few labels h at has fits =
    (h, host_there counts opening few h has, (InJournal at, is_reference labels at fits, refl))

-- the words of an event say it
pub spells_event : (counts : Counts) (opening : Opening) → AreFew counts opening → (labels : LineOf) (e : Event) → HasActor opening e → IsFitEvent opening e → FitsEvent e → Spells (act_form counts labels) (event_words e) (None, OneEvent (line_event e))
unfolding act_form begin at_version of_lane_message of_lane_request of_host of_version of_message of_session ask of_command
spells_event counts opening few labels (Begin l op v) has fit fits = (
  OfEvent (LaneEvent BeginVerb),
  refl,
  (
    line_event (Begin l op v),
    (
      l,
      lane_there counts opening few l has,
      spells_operation _ op (spelt_level (level_of op) ∷ codes "at" ∷ decimal v.0 ∷ []) (line_event (Begin l op v)) fits.0
          (subst
          (λ (f : Format). Spells (EndOr (BeginLine l (with_level Quorum op) None) (Word (one_of (behind_word f)) (begin_by l (with_level Quorum op)))) (spelt_level (level_of op) ∷ codes "at" ∷ decimal v.0 ∷ []) (BeginLine l op (Some v)))
          (sym few.format) (spells_behind l op v fits.1)),
    ),
    refl,
  ),
)
spells_event counts opening few labels (Take l at) has fit fits = (
  OfEvent (LaneEvent TakeVerb),
  refl,
  (
    line_event (Take l at),
    ((l, InJournal at), (l, lane_there counts opening few l has, (InJournal at, is_reference labels at fits, refl)), refl),
    refl,
  ),
)
spells_event counts opening few labels (Timeout l op) has fit fits = (
  OfEvent (LaneEvent TimeoutVerb),
  refl,
  (
    line_event (Timeout l op),
    ((l, op), (l, lane_there counts opening few l has, (op, is_operation_number op fits, refl)), refl),
    refl,
  ),
)
spells_event counts opening few labels (Apply h) has fit fits = (
  OfEvent (HostEvent ApplyVerb),
  refl,
  (line_event (Apply h), (h, (h, host_there counts opening few h has, refl), refl), refl),
)
spells_event counts opening few labels (Quiet h v) has fit fits = (
  OfEvent (HostEvent QuietVerb),
  refl,
  (
    line_event (Quiet h v),
    ((h, v), (h, host_there counts opening few h has, (v, is_version v fits, refl)), refl),
    refl,
  ),
)
spells_event counts opening few labels (Serve h at) has fit fits = (
  OfEvent (HostEvent ServeVerb),
  refl,
  (line_event (Serve h at), ((h, InJournal at), spells_message counts opening few labels h at has fits, refl), refl),
)
spells_event counts opening few labels (Answer h at) has fit fits = (
  OfEvent (HostEvent AnswerVerb),
  refl,
  (line_event (Answer h at), ((h, InJournal at), spells_message counts opening few labels h at has fits, refl), refl),
)
spells_event counts opening few labels (Clean h at) has fit fits = (
  OfEvent (HostEvent CleanVerb),
  refl,
  (line_event (Clean h at), ((h, InJournal at), spells_message counts opening few labels h at has fits, refl), refl),
)
spells_event counts opening few labels (Pull h s) has fit fits = (
  OfEvent (HostEvent PullVerb),
  refl,
  (
    line_event (Pull h s),
    ((h, s), (h, host_there counts opening few h has, (s, is_session s fits, refl)), refl),
    refl,
  ),
)
spells_event counts opening few labels (TakeChunk h at) has fit fits = (
  OfEvent (HostEvent ChunkVerb),
  refl,
  (line_event (TakeChunk h at), ((h, InJournal at), spells_message counts opening few labels h at has fits, refl), refl),
)
spells_event counts opening few labels (Look h) has fit fits = (
  OfEvent (TopoEvent LookVerb),
  refl,
  (line_event (Look h), (h, (h, host_there counts opening few h has, refl), refl), refl),
)
spells_event counts opening few labels (Ask c h w) has fit fits = (
  OfEvent (TopoEvent AskVerb),
  refl,
  (
    line_event (Ask c h w),
    (c, host_there counts opening few c has, (h, host_there counts opening few h fit, (w, spells_what w fits, refl))),
    refl,
  ),
)
spells_event counts opening few labels (Hear h at) has fit fits = (
  OfEvent (TopoEvent HearVerb),
  refl,
  (line_event (Hear h at), ((h, InJournal at), spells_message counts opening few labels h at has fits, refl), refl),
)
spells_event counts opening few labels (Propose h x) has fit fits = (
  OfEvent (TopoEvent ProposeVerb),
  refl,
  (
    line_event (Propose h x),
    ((h, x), (h, host_there counts opening few h has, (x, spells_command x fits fit, refl)), refl),
    refl,
  ),
)
spells_event counts opening few labels (Restart a) has fit fits = (
  OfEvent RestartVerb,
  refl,
  (line_event (Restart a), (a, spells_actor counts opening few a has, refl), refl),
)
