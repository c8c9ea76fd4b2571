-- Whatever the words of a line are, whom it names is in the opening, what it would create is of a fit size, and it names only
-- messages of lines that have labels.
use Rattle.std.proofs.Common.{Bool, List, None, Ok, Option, Result, Some, [], arith, false, length, nat_le, nat_lt, subst, true, ℕ, ◌++◌, ◌+◌, ◌<◌, ◌∷◌, ◌≡◌, ◌≤◌}
use Rattle.std.proofs.lemmas.Bool.Decides.{nat_tests}
use Rattle.std.proofs.lemmas.Grind.{common_steps}
use Rattle.barrier_core.specs.declared.data.What.{What}
use Rattle.base_ids.specs.declared.ids.Actor.TheVariants.{Lane as ByLane}
use Rattle.base_ids.specs.declared.ids.HostId.{HostId}
use Rattle.base_ids.specs.declared.ids.LaneId.{LaneId}
use Rattle.base_ids.specs.declared.ids.Replica.{Replica}
use Rattle.base_ids.specs.declared.rules.LimitName.TheVariants.{Log2, Replicas}
use Rattle.cluster_history.specs.Openings.{HasHost, HasLane, HasPart}
use Rattle.cluster_history.specs.declared.data.Opening.{Opening}
use Rattle.cluster_history.specs.declared.data.Operation.{Operation}
use Rattle.cluster_history.specs.declared.data.Operation.TheVariants.{Read, Write}
use Rattle.schedule_data.specs.Playable.{HasOwner, IsAmong, IsFitLine, NamesEvent, line_actor}
use Rattle.schedule_data.specs.declared.data.LineAct.{LineAct}
use Rattle.schedule_data.specs.declared.data.LineAct.TheVariants.{Event, Short}
use Rattle.schedule_data.specs.declared.data.LineEvent.{LineEvent}
use Rattle.schedule_data.specs.declared.data.LineRef.{LineRef}
use Rattle.schedule_data.specs.declared.data.SchedLine.{SchedLine}
use Rattle.schedule_data.specs.declared.data.Shorthand.{Shorthand}
use Rattle.schedule_lines.specs.Forms.{First, OfEvent, OfLabel, OfShort, act_by, act_form, actor, actor_by, advance, ask, at_version, begin, begin_at, begin_by, begin_with, command, command_by, create, do_at, do_form, event, event_by, finalize, host_event, lane_event, host_named, mono_form, of_command, of_host, of_lane, of_lane_message, of_lane_request, of_message, of_session, of_version, operation, operation_by, read_form, resize, set_fence, short_by, start, topo_event, what, what_by, what_session, what_version, write}
use Rattle.schedule_lines.specs.Said.{AreCountsOf, AreLabelsOf, IsSaidAct}
use Rattle.schedule_lines.specs.declared.verbs.ActorWord.{ActorWord}
use Rattle.schedule_lines.specs.declared.verbs.ActorWord.TheVariants.{Host as HostWord, Lane as LaneWord, Topo as TopoWord}
use Rattle.schedule_lines.specs.declared.verbs.Behind.{Behind}
use Rattle.schedule_lines.specs.declared.verbs.Behind.TheVariants.{At as BehindAt, Level as BehindLevel}
use Rattle.stage_graph.specs.declared.level.Level.TheVariants.{Quorum}
use Rattle.schedule_lines.specs.declared.verbs.CommandVerb.{CommandVerb}
use Rattle.schedule_lines.specs.declared.verbs.CommandVerb.TheVariants.{Advance as AdvanceVerb, Create as CreateVerb, Fence as SetFenceVerb, Finalize as FinalizeVerb, Join as JoinVerb, Leave as LeaveVerb, Resize as ResizeVerb, Start as StartVerb}
use Rattle.schedule_lines.specs.declared.verbs.EventVerb.{EventVerb}
use Rattle.schedule_lines.specs.declared.verbs.EventVerb.TheVariants.{Host as HostEvent, Lane as LaneEvent, Restart as RestartVerb, Topo as TopoEvent}
use Rattle.schedule_lines.specs.declared.verbs.HostVerb.{HostVerb}
use Rattle.schedule_lines.specs.declared.verbs.HostVerb.TheVariants.{Answer as AnswerVerb, Apply as ApplyVerb, Chunk as ChunkVerb, Clean as CleanVerb, Pull as PullVerb, Quiet as QuietVerb, Serve as ServeVerb}
use Rattle.schedule_lines.specs.declared.verbs.LaneVerb.{LaneVerb}
use Rattle.schedule_lines.specs.declared.verbs.LaneVerb.TheVariants.{Begin as BeginVerb, Take as TakeVerb, Timeout as TimeoutVerb}
use Rattle.schedule_lines.specs.declared.verbs.OperationVerb.{OperationVerb}
use Rattle.schedule_lines.specs.declared.verbs.OperationVerb.TheVariants.{Read as ReadVerb, Write as WriteVerb}
use Rattle.schedule_lines.specs.declared.verbs.ShortVerb.{ShortVerb}
use Rattle.schedule_lines.specs.declared.verbs.ShortVerb.TheVariants.{Do as DoVerb, Drain as DrainVerb, Fence as FenceVerb, Force as ForceVerb, Mono as MonoVerb, Ready as ReadyVerb, Step as StepVerb, Stream as StreamVerb, Sync as SyncVerb, Tidy as TidyVerb}
use Rattle.schedule_lines.specs.declared.verbs.TopoVerb.{TopoVerb}
use Rattle.schedule_lines.specs.declared.verbs.TopoVerb.TheVariants.{Ask as AskVerb, Hear as HearVerb, Look as LookVerb, Propose as ProposeVerb}
use Rattle.schedule_lines.specs.declared.verbs.WhatVerb.{WhatVerb}
use Rattle.schedule_lines.specs.declared.verbs.WhatVerb.TheVariants.{Clean as CleanAsk, Done as DoneAsk, Drain as DrainAsk, Fence as FenceAsk, Ready as ReadyAsk}
use Rattle.schedule_words.specs.Labels.{LineOf}
use Rattle.schedule_words.specs.Places.{by_entry, by_label, has_lane, host, lane, log2, next_replica, reference}
use Rattle.schedule_words.specs.Words.{is_letter}
use Rattle.schedule_words.specs.declared.counts.Counts.{Counts}
use Rattle.text_grammar.proofs.Numerals.{both_true}
use Rattle.text_grammar.proofs.TellLaws.{AllTell, all_tell, each_keeps, is_so, is_within, told_count}
use Rattle.text_grammar.specs.Readings.{or_rule}
use Rattle.text_grammar.specs.Shapes.{Each, Either, End, EndOr, Is, Made, Shape, Spells, Whole, Word, begins_with}
use Rattle.text_grammar.specs.declared.faults.Fault.{Fault}
use Rattle.text_grammar.specs.declared.faults.TextRule.TheVariants.{BadActor, NoLabel}
use Rattle.topo_state.specs.Rules.{IsFit}

-- what holds of each value holds of what it is made into, and what follows from it holds of each
tell_more : {A : Type 0} (P Q : A → Type 0) (shape : Shape A) → ((a : A) → P a → Q a) → AllTell P shape → AllTell Q shape
tell_more P Q (End a) more all = more a all
tell_more P Q (Word place others) more all = λ w b is. tell_more P Q (others b) more (all w b is)
tell_more P Q (EndOr a others) more all = (more a all.0, tell_more P Q others more all.1)
tell_more P Q (Each place made) more all = λ ws bs some are. more (made bs) (all ws bs some are)
tell_more P Q (Made shape made) more all = tell_more (λ b. P (made b)) (λ b. Q (made b)) shape (λ b. more (made b)) all
tell_more P Q (Whole table) more all = λ ws a e. more a (all ws a e)

-- ---- places

below : (n limit : ℕ) → nat_lt n limit ≡ true → n < limit
below n limit e = grind (arith, nat_tests)

within : (n limit : ℕ) → nat_le n limit ≡ true → n ≤ limit
within n limit e = grind (arith, nat_tests)

host_in : (opening : Opening) (counts : Counts) → AreCountsOf opening counts → (w : List ℕ) (h : HostId) → Is (host counts.hosts) w h → HasHost opening h
unfolding host
host_in opening counts same w h is =
    let told = is_so (nat_lt is.0.0 counts.hosts) BadActor is.0 h is.2 in
    subst (λ n. h.0 < n) same.hosts (subst (λ (x : HostId). x.0 < counts.hosts) told.1 (below is.0.0 counts.hosts told.0))

lane_in : (opening : Opening) (counts : Counts) → AreCountsOf opening counts → (w : List ℕ) (l : LaneId) → Is (lane counts) w l → HasLane opening l
unfolding lane
lane_in opening counts same w l is =
    let told = is_so (has_lane counts is.0) BadActor is.0 l is.2 in
    let tests = both_true (nat_lt is.0.host.0 counts.hosts) (nat_lt is.0.lane counts.lanes) told.0 in
    subst
    (HasLane opening)
    told.1 (
      subst (λ n. is.0.host.0 < n) same.hosts (below is.0.host.0 counts.hosts tests.0),
      subst (λ n. is.0.lane < n) same.lanes (below is.0.lane counts.lanes tests.1),
    )

same_told : {A : Type 0} {a b : A} → ◌≡◌ {A = Result A Fault} (Ok a) (Ok b) → a ≡ b
same_told e = cc

labelled : (labels : LineOf) (name : List ℕ) (number : ℕ) → or_rule NoLabel (labels name) ≡ Ok number → labels name ≡ Some number
labelled labels name number e = go (labels name) e
  where
    go : (found : Option ℕ) → or_rule NoLabel found ≡ Ok number → found ≡ Some number
    go None e = cc
    go (Some line) e = cc

reference_among : (lines : List SchedLine) (labels : LineOf) → AreLabelsOf lines labels → (w : List ℕ) (at : LineRef) → Is (reference labels) w at → IsAmong lines at
unfolding reference
reference_among lines labels are w at is = go (begins_with is_letter w) is
  where
    go : (test : Bool) → Either test (Is (by_label labels) w at) (Is by_entry w at) → IsAmong lines at
    go true told = subst (IsAmong lines) (same_told told.5.2) (are told.0 told.2 (labelled labels told.0 told.2 told.4))
    go false told = subst (IsAmong lines) (same_told told.5.2) tt

-- ---- commands

log2_few : (w : List ℕ) (b : ℕ) → Is log2 w b → b ≤ 10
unfolding log2
log2_few w b is =
    let told = is_within (nat_le is.0 10) Log2 is.0 b is.2 in
    subst (λ n. n ≤ 10) told.1 (within is.0 10 told.0)

one_more : (earlier : List Replica) (w : List ℕ) (r : Replica) → length earlier ≤ 8 → Is (next_replica earlier) w r → length (earlier ++ r ∷ []) ≤ 8
unfolding next_replica
one_more earlier w r few is =
    let told = is_within (nat_lt (length earlier) 8) Replicas is.0 r is.2 in
    let room : length earlier < 8 = below (length earlier) 8 told.0 in
    grind (arith, common_steps)

create_fit : AllTell IsFit create
unfolding create
create_fit = λ w t is v b js ws all some are.
    let count : length all ≡ 0 + length ws = told_count next_replica [] ws all are in
    let one : 1 ≤ length all = omega arith in (
      log2_few v b js,
      one,
      each_keeps (λ rs. length rs ≤ 8) next_replica one_more [] ws all (omega arith) are,
    )

command_fit : AllTell IsFit command
unfolding command start advance set_fence host_named resize finalize
command_fit = λ w verb is. go verb
  where
    go : (verb : CommandVerb) → AllTell IsFit (command_by verb)
    go CreateVerb = create_fit
    go StartVerb = λ w t is v i js x f ks y p ls. tt
    go AdvanceVerb = λ w s is v to js. tt
    go SetFenceVerb = λ w v is. tt
    go JoinVerb = λ w h is. tt
    go LeaveVerb = λ w h is. tt
    go ResizeVerb = λ w t is v kind js. tt
    go FinalizeVerb = λ w t is v s js. tt

-- ---- parts of lines

operation_tells : {A : Type 0} (P : A → Type 0) (more : Operation → Shape A) → ((op : Operation) → AllTell P (more op)) → AllTell P (operation more)
unfolding operation write read_form
operation_tells P more all = λ w verb is. go verb
  where
    go : (verb : OperationVerb) → AllTell P (operation_by more verb)
    go WriteVerb = λ w t is v k js u c ks. all (Write t k c Quorum)
    go ReadVerb = λ w t is v k js. all (Read t k Quorum)

what_tells : (P : What → Type 0) → ((w : What) → P w) → AllTell P what
unfolding what what_version what_session
what_tells P holds = λ w verb is. go verb
  where
    go : (verb : WhatVerb) → AllTell P (what_by verb)
    go DrainAsk = λ w v is. holds _
    go FenceAsk = λ w v is. holds _
    go DoneAsk = λ w s is. holds _
    go CleanAsk = λ w s is. holds _
    go ReadyAsk = λ w s is. holds _

-- ---- events

-- what an event names is so
abbrev IsEventSaid : Opening → List SchedLine → LineEvent → Type 0
IsEventSaid opening lines e = HasPart opening (line_actor e) × IsFitLine opening (Event e) × NamesEvent lines e

lane_event_said : (opening : Opening) (counts : Counts) (same : AreCountsOf opening counts) (lines : List SchedLine) (labels : LineOf) → AreLabelsOf lines labels → (verb : LaneVerb) → AllTell (IsEventSaid opening lines) (lane_event counts labels verb)
unfolding begin begin_at begin_with at_version of_lane_message of_lane_request
lane_event_said opening counts same lines labels are BeginVerb = λ w l is.
    operation_tells (IsEventSaid opening lines) _ (λ op. ((lane_in opening counts same w l is, tt, tt), λ u behind js. by_behind l op (lane_in opening counts same w l is) behind))
  where
    by_behind : (l : LaneId) (op : Operation) → HasPart opening (ByLane l) → (behind : Behind) → AllTell (IsEventSaid opening lines) (begin_by l op behind)
    by_behind l op has BehindAt = λ v n ks. (has, tt, tt)
    by_behind l op has (BehindLevel level) = ((has, tt, tt), λ u x js v n ks. (has, tt, tt))
lane_event_said opening counts same lines labels are TakeVerb = λ w l is v at js.
    (lane_in opening counts same w l is, tt, reference_among lines labels are v at js)
lane_event_said opening counts same lines labels are TimeoutVerb = λ w l is v op js. (lane_in opening counts same w l is, tt, tt)

host_event_said : (opening : Opening) (counts : Counts) (same : AreCountsOf opening counts) (lines : List SchedLine) (labels : LineOf) → AreLabelsOf lines labels → (verb : HostVerb) → AllTell (IsEventSaid opening lines) (host_event counts labels verb)
unfolding of_host of_version of_message of_session
host_event_said opening counts same lines labels are ApplyVerb = λ w h is. (host_in opening counts same w h is, tt, tt)
host_event_said opening counts same lines labels are QuietVerb = λ w h is v n js. (host_in opening counts same w h is, tt, tt)
host_event_said opening counts same lines labels are ServeVerb = λ w h is v at js.
    (host_in opening counts same w h is, tt, reference_among lines labels are v at js)
host_event_said opening counts same lines labels are AnswerVerb = λ w h is v at js.
    (host_in opening counts same w h is, tt, reference_among lines labels are v at js)
host_event_said opening counts same lines labels are CleanVerb = λ w h is v at js.
    (host_in opening counts same w h is, tt, reference_among lines labels are v at js)
host_event_said opening counts same lines labels are PullVerb = λ w h is v s js. (host_in opening counts same w h is, tt, tt)
host_event_said opening counts same lines labels are ChunkVerb = λ w h is v at js.
    (host_in opening counts same w h is, tt, reference_among lines labels are v at js)

topo_event_said : (opening : Opening) (counts : Counts) (same : AreCountsOf opening counts) (lines : List SchedLine) (labels : LineOf) → AreLabelsOf lines labels → (verb : TopoVerb) → AllTell (IsEventSaid opening lines) (topo_event counts labels verb)
unfolding of_host ask of_message of_command
topo_event_said opening counts same lines labels are LookVerb = λ w h is. (host_in opening counts same w h is, tt, tt)
topo_event_said opening counts same lines labels are AskVerb = λ w c is v h js.
    what_tells _ (λ _. (host_in opening counts same w c is, host_in opening counts same v h js, tt))
topo_event_said opening counts same lines labels are HearVerb = λ w h is v at js.
    (host_in opening counts same w h is, tt, reference_among lines labels are v at js)
topo_event_said opening counts same lines labels are ProposeVerb = λ w h is.
    tell_more IsFit _ command (λ x fit. (host_in opening counts same w h is, fit, tt)) command_fit

restart_said : (opening : Opening) (counts : Counts) (same : AreCountsOf opening counts) (lines : List SchedLine) (labels : LineOf) → AllTell (IsEventSaid opening lines) (event_by counts labels RestartVerb)
unfolding actor of_host of_lane
restart_said opening counts same lines labels = λ w word is. go word
  where
    go : (word : ActorWord) → AllTell (λ a. HasPart opening a × Unit {0} × Unit {0}) (actor_by counts word)
    go HostWord = λ w h is. (host_in opening counts same w h is, tt, tt)
    go LaneWord = λ w l is. (lane_in opening counts same w l is, tt, tt)
    go TopoWord = λ w h is. (host_in opening counts same w h is, tt, tt)

event_said : (opening : Opening) (counts : Counts) (same : AreCountsOf opening counts) (lines : List SchedLine) (labels : LineOf) → AreLabelsOf lines labels → (verb : EventVerb) → AllTell (IsEventSaid opening lines) (event_by counts labels verb)
event_said opening counts same lines labels are (LaneEvent verb) = lane_event_said opening counts same lines labels are verb
event_said opening counts same lines labels are (HostEvent verb) = host_event_said opening counts same lines labels are verb
event_said opening counts same lines labels are (TopoEvent verb) = topo_event_said opening counts same lines labels are verb
event_said opening counts same lines labels are RestartVerb = restart_said opening counts same lines labels

-- ---- shorthands

-- what a shorthand names is so
abbrev IsShortSaid : Opening → Shorthand → Type 0
IsShortSaid opening s = HasOwner opening s × IsFitLine opening (Short s)

short_said : (opening : Opening) (counts : Counts) (same : AreCountsOf opening counts) (verb : ShortVerb) → AllTell (IsShortSaid opening) (short_by counts verb)
unfolding do_form do_at mono_form of_host of_command of_session
short_said opening counts same SyncVerb = (tt, tt)
short_said opening counts same DoVerb = λ w l is. operation_tells (IsShortSaid opening) _ (λ op. ((lane_in opening counts same w l is, tt), λ u level js. (lane_in opening counts same w l is, tt)))
short_said opening counts same MonoVerb = λ w l is u t js v k ks. (lane_in opening counts same w l is, tt)
short_said opening counts same DrainVerb = λ w h is. (host_in opening counts same w h is, tt)
short_said opening counts same FenceVerb = λ w h is. (host_in opening counts same w h is, tt)
short_said opening counts same StepVerb = λ w h is.
    tell_more IsFit _ command (λ x fit. (host_in opening counts same w h is, fit)) command_fit
short_said opening counts same ForceVerb = λ w h is.
    tell_more IsFit _ command (λ x fit. (host_in opening counts same w h is, fit)) command_fit
short_said opening counts same StreamVerb = λ w h is v s js. (host_in opening counts same w h is, tt)
short_said opening counts same TidyVerb = λ w h is v s js. (host_in opening counts same w h is, tt)
short_said opening counts same ReadyVerb = λ w h is v s js. (host_in opening counts same w h is, tt)

-- ---- lines

acts_said : (opening : Opening) (counts : Counts) (same : AreCountsOf opening counts) (lines : List SchedLine) (labels : LineOf) → AreLabelsOf lines labels → AllTell (IsSaidAct opening lines) (act_form counts labels)
unfolding act_form event
acts_said opening counts same lines labels are = λ w first is. go first
  where
    of_event : (label : Option (List ℕ)) (e : LineEvent) → IsEventSaid opening lines e → IsSaidAct opening lines (label, Event e)
    of_event label e said = record { actor = said.0; fit = said.1; names = said.2; labelled = λ _. tt }

    of_short : (s : Shorthand) → IsShortSaid opening s → IsSaidAct opening lines (None, Short s)
    of_short s said = record { actor = said.0; fit = said.1; names = tt; labelled = λ none. cc }

    go : (first : First) → AllTell (IsSaidAct opening lines) (act_by counts labels first)
    go (OfEvent verb) = tell_more (IsEventSaid opening lines) _ (event_by counts labels verb) (of_event None) (event_said opening counts same lines labels are verb)
    go (OfShort verb) = tell_more (IsShortSaid opening) _ (short_by counts verb) of_short (short_said opening counts same verb)
    go (OfLabel name) = λ w verb is.
        tell_more (IsEventSaid opening lines) _ (event_by counts labels verb) (of_event (Some name)) (event_said opening counts same lines labels are verb)

-- a line that is of the form says no more than may be played after lines that have its labels
pub act_said : (opening : Opening) (counts : Counts) → AreCountsOf opening counts → (lines : List SchedLine) (labels : LineOf) → AreLabelsOf lines labels → (words : List (List ℕ)) (said : Option (List ℕ) × LineAct) → Spells (act_form counts labels) words said → IsSaidAct opening lines said
act_said opening counts same lines labels are words said spells =
    all_tell (IsSaidAct opening lines) (act_form counts labels) words said (acts_said opening counts same lines labels are) spells
