-- A host is what the history says of it.
use Rattle.std.proofs.Common.{ap, arith, refl, subst, sym, ◌∙◌}
use Rattle.std.specs.Option.{option_or}
use Rattle.std.specs.Prelude.{Bool, IfSome, IsSome, List, None, Option, Some, [], false, if◌then◌else◌, length, map, nat_lt, not, option_map, true, ◌&&◌, ◌+◌, ◌∷◌, ◌≡◌, ◌≤◌}
use Rattle.barrier_core.specs.declared.data.Ask.{Ask}
use Rattle.barrier_core.specs.declared.data.What.{What}
use Rattle.barrier_core.specs.declared.data.What.TheVariants.{Clean as CleanOf}
use Rattle.base_ids.specs.Names.{same_actor, same_host}
use Rattle.base_ids.specs.declared.ids.Actor.{Actor}
use Rattle.base_ids.specs.declared.ids.Actor.TheVariants.{Host as ByHost}
use Rattle.base_ids.specs.declared.ids.HostId.{HostId}
use Rattle.base_ids.specs.declared.ids.MsgRef.{MsgRef}
use Rattle.base_ids.specs.declared.ids.Session.{Session}
use Rattle.base_ids.specs.declared.ids.TableId.{TableId}
use Rattle.base_ids.specs.declared.ids.Version.{Version}
use Rattle.base_ids.specs.declared.rules.EventRule.{EventRule}
use Rattle.group0_log.proofs.StateLemmas.{command_within, leads}
use Rattle.group0_log.specs.Log.{command_at}
use Rattle.host_core.specs.Host.{cells_with_chunk as chunk_cells_by, chunk_out, clean_cells, clean_out, clean_pulls, cleanup_out, host_after, host_rule, kept_pulls, pull_out, took_out}
use Rattle.host_core.specs.Pulls.{Pulls, pull_of_state as first_pull_by, pull_in}
use Rattle.host_core.specs.declared.data.HostInput.{HostInput}
use Rattle.host_core.specs.declared.data.HostInput.TheVariants.{Answer as AnswerInput, Apply as ApplyInput, Clean as CleanInput, Pull as PullInput, Quiet as QuietInput, Read as ReadInput, SendChunk, TakeChunk as ChunkInput, Write as WriteInput}
use Rattle.quorum_ops.specs.declared.data.ReadAsk.{ReadAsk}
use Rattle.quorum_ops.specs.declared.data.Said.TheVariants.{Found, Stale as Refused, Written}
use Rattle.quorum_ops.specs.declared.data.WriteAsk.{WriteAsk}
use Rattle.replica_core.specs.Cleanups.{cells_without}
use Rattle.replica_core.specs.Serving.{written_cells}
use Rattle.replica_core.specs.declared.cleanup.Cleanup.TheVariants.{Cleaned, NotMine as NotCleaned}
use Rattle.replica_store.specs.Cells.{Cells}
use Rattle.replica_store.specs.Columns.{put_at}
use Rattle.replica_store.specs.Puts.{cells_with}
use Rattle.replica_store.specs.declared.store.Stored.{Stored}
use Rattle.stream_core.specs.Pulls.{Pulling, is_next}
use Rattle.stream_core.specs.declared.pull.Took.TheVariants.{Done, Foreign, More}
use Rattle.stream_core.specs.declared.data.ChunkAsk.{ChunkAsk}
use Rattle.stream_core.specs.declared.data.ChunkMsg.{ChunkMsg}
use Rattle.topo_state.specs.Moves.{cleans_host, is_cleaned_by, move_of}
use Rattle.topo_state.specs.State.{Topology}
use Rattle.topo_state.specs.declared.command.Command.{Command}
use Rattle.topo_state.specs.declared.moves.Move.{Move}
use Rattle.cell_merge.specs.declared.cell.Cell.{Cell}
use Rattle.register_model.specs.declared.data.Key.{Key}
use Rattle.cluster_history.proofs.FrameLemmas.{applied_count-other, floor_of-other, held_cells-other}
use Rattle.cluster_history.proofs.HeldLemmas.{cell_at-held_cells}
use Rattle.cluster_history.proofs.StayLemmas.{applied_state-other, or_none}
use Rattle.cluster_history.proofs.WithinLemmas.{applied_within}
use Rattle.cluster_history.specs.Held.{chunk_in, cleaned_session, held_cell, held_cells, kept_cells, move_for, pull_of, pulled_cells, served_cells, with_cells}
use Rattle.cluster_history.specs.History.{History, actor_of, is_by, message_at, message_of, output_at}
use Rattle.cluster_history.specs.Legal.{IsLegalHistory, broken_rule}
use Rattle.cluster_history.specs.Messages.{is_chunk, is_clean_ask, is_for, is_question, is_request, read_key}
use Rattle.cluster_history.specs.Openings.{opening_state}
use Rattle.cluster_history.specs.Outputs.{answer_of, cleaned_outputs, fact_for, is_last, pull_outputs, said_to, serve_outputs}
use Rattle.cluster_history.specs.Rules.{message_rule}
use Rattle.cluster_history.specs.Topology.{applied_count, applied_state, fence_of, log_of}
use Rattle.cluster_history.specs.declared.data.Event.{Event}
use Rattle.cluster_history.specs.declared.data.Event.TheVariants.{Answer, Apply, Clean, Pull, Quiet, Restart, Serve, TakeChunk}
use Rattle.cluster_history.specs.declared.data.Message.{Message}
use Rattle.cluster_history.specs.declared.data.Message.TheVariants.{Ask as AskSent, Chunk as ChunkSent, ChunkAsk as ChunkAskSent, NotMine as NotMineSent, Read as ReadSent, Write as WriteSent}
use Rattle.cluster_history.specs.declared.data.Opening.{Opening}
use Rattle.cluster_history.specs.declared.data.Output.{Output}
use Rattle.cluster_history.specs.declared.data.Output.TheVariants.{Pulled, Sent}
use Rattle.history_facts.proofs.HostLemmas.{log_legal}
use Rattle.history_facts.proofs.LegalLemmas.{rule_takes, taken_by}
use Rattle.base_ids.proofs.NameLemmas.{same_host-refl, same_host-same}
use Rattle.host_ties.proofs.HostRules.{host_rules}
use Rattle.host_ties.proofs.LogLemmas.{below_end, next_there}
use Rattle.host_ties.proofs.PullLemmas.{pulls_agree, same_first}
use Rattle.host_ties.specs.HostRules.{asked_rule, live_rule, taking_rule}
use Rattle.host_ties.specs.HostTies.{HostsBegin, HostsHaveInputs, HostsPlay, HostsRestart, HostsStay, IsHostPlay, ask_in, host_input, host_outputs, host_view, pulls_after, pulls_cleaned, pulls_of, served_input}

-- ---- at the opening, past the events of others, and at a restart

pub host_begins : HostsBegin
host_begins opening host = refl

pulls_after-other : (opening : Opening) (history : History) (host : HostId) (event : Event) (outputs : List Output) (pulls : Pulls) → is_by (ByHost host) event ≡ false → pulls_after opening history host event outputs pulls ≡ pulls
pulls_after-other opening history host (Pull by session) outputs pulls e = rw e refl
pulls_after-other opening history host (TakeChunk by at) outputs pulls e = rw e refl
pulls_after-other opening history host (Clean by at) outputs pulls e = rw e refl
pulls_after-other opening history host (Restart actor) outputs pulls e = rw e refl
pulls_after-other opening history host event outputs pulls e = refl

pub host_stays : HostsStay
host_stays opening history entry host legal other =
    let state = applied_state-other opening history entry host (applied_within opening history host legal.1) other in
    λ i. record {
      host = host;
      applied = applied_count-other history entry host other i;
      state = state i;
      floor = floor_of-other history entry host other i;
      cells = held_cells-other opening history entry host other i;
      pulls = pulls_after-other opening history host entry.event entry.outputs (pulls_of opening history host) other i;
    }

pub host_restarts : HostsRestart
host_restarts opening history host = rw (same_host-refl host) refl

-- ---- inputs

serve_has_input : (host : HostId) (message : Message) → is_for (ByHost host) is_request message ≡ true → IsSome (served_input (Some message))
serve_has_input host (WriteSent ask) taken = refl
serve_has_input host (ReadSent ask) taken = refl
serve_has_input host (ChunkAskSent ask) taken = refl
serve_has_input host message taken = cc taken

answer_has_input : (host : HostId) (message : Message) → is_for (ByHost host) is_question message ≡ true → IsSome (option_map AnswerInput (ask_in (Some message)))
answer_has_input host (AskSent ask) taken = refl
answer_has_input host message taken = cc taken

clean_has_input : (host : HostId) (message : Message) → is_for (ByHost host) is_clean_ask message ≡ true → IsSome (option_map CleanInput (ask_in (Some message)))
clean_has_input host (AskSent ask) taken = refl
clean_has_input host message taken = cc taken

take_has_input : (host : HostId) (message : Message) → is_for (ByHost host) is_chunk message ≡ true → IsSome (option_map ChunkInput (chunk_in (Some message)))
take_has_input host (ChunkSent chunk) taken = refl
take_has_input host message taken = cc taken

-- a message that an event takes gives an input, where each message of its kind does
message_has_input :
    (kind : Message → Bool) (input : Option Message → Option HostInput) (output : Option Output) →
    ((message : Message) → kind message ≡ true → IsSome (input (Some message))) → message_rule kind output ≡ None → IsSome (input (message_of output))
message_has_input kind input output each enabled =
    let taken = taken_by kind output enabled in
    subst (λ message. IsSome (input message)) (sym taken.sent) (each taken.message taken.taken)

not_restarted : (actor : Actor) (host : HostId) → actor ≡ ByHost host → same_actor actor (ByHost host) ≡ false → ⊥
not_restarted actor host mine other =
    let wrong : same_host host host ≡ false = ap (λ a. same_actor a (ByHost host)) (sym mine) ∙ other in
    cc (wrong, same_host-refl host)

pub host_inputs : HostsHaveInputs
host_inputs opening history (Apply by) host mine running enabled = next_there ApplyInput (log_of history) (applied_count history by) enabled
host_inputs opening history (Quiet by version) host mine running enabled = refl
host_inputs opening history (Serve by at) host mine running enabled =
    message_has_input (is_for (ByHost by) is_request) served_input (output_at history at) (serve_has_input by) enabled
host_inputs opening history (Answer by at) host mine running enabled =
    message_has_input (is_for (ByHost by) is_question) (λ message. option_map AnswerInput (ask_in message)) (output_at history at) (answer_has_input by) (or_none _ _ enabled)
host_inputs opening history (Clean by at) host mine running enabled =
    message_has_input (is_for (ByHost by) is_clean_ask) (λ message. option_map CleanInput (ask_in message)) (output_at history at) (clean_has_input by) enabled
host_inputs opening history (Pull by session) host mine running enabled = refl
host_inputs opening history (TakeChunk by at) host mine running enabled =
    message_has_input (is_for (ByHost by) is_chunk) (λ message. option_map ChunkInput (chunk_in message)) (output_at history at) (take_has_input by) enabled
host_inputs opening history (Restart actor) host mine running enabled = absurd (not_restarted actor host mine running)
host_inputs opening history event host mine running enabled = cc mine

-- ---- parts of a play

-- a write
put_once : (fence : Version) (held_at : Key → Option Cell) (cells : Cells) (ask : WriteAsk) → written_cells fence cells ask ≡ with_cells cells (served_cells (Some (WriteSent ask)) (serve_outputs fence held_at cells (Some (WriteSent ask))))
put_once fence held_at cells ask =
    let stored : Stored = record { token = ask.token; cell = ask.cell } in
    elim (nat_lt ask.version.0 fence.0) as (λ b. (if b then cells else put_at cells (ask.table, stored)) ≡ with_cells cells (served_cells (Some (WriteSent ask)) (answer_of ask.lane ask.op ask.to (if b then Refused fence else Written) ∷ []))) [ true ↦ refl | false ↦ refl ]

-- a chunk
cells_put : (cells : Cells) (table : TableId) (stored : List Stored) → cells_with cells table stored ≡ with_cells cells (map (λ s. (table, s)) stored)
cells_put cells table [] = refl
cells_put cells table (s ∷ stored) = cells_put (put_at cells (table, s)) table stored

chunk_put : (cells : Cells) (pull : Option Pulling) (chunk : ChunkMsg) → chunk_cells_by cells chunk pull ≡ with_cells cells (pulled_cells pull chunk)
chunk_put cells None chunk = refl
chunk_put cells (Some pull) chunk =
    elim (is_next pull chunk) as (λ b. (if b then cells_with cells pull.table chunk.cells else cells) ≡ with_cells cells (if b then map (λ stored. (pull.table, stored)) chunk.cells else [])) [
      | true ↦ cells_put cells pull.table chunk.cells
      | false ↦ refl
    ]

chunk_told : (host : HostId) (pull : Option Pulling) (chunk : ChunkMsg) → host_outputs host (chunk_out chunk pull) ≡ (if is_last pull chunk then Pulled chunk.session ∷ [] else [])
chunk_told host None chunk = refl
chunk_told host (Some pull) chunk =
    elim (is_next pull chunk) as (λ b. host_outputs host (took_out chunk.session (if b then (if chunk.more then More else Done) else Foreign)) ≡ (if b && not chunk.more then Pulled chunk.session ∷ [] else [])) [
      | true ↦ elim chunk.more as (λ m. host_outputs host (took_out chunk.session (if m then More else Done)) ≡ (if not m then Pulled chunk.session ∷ [] else [])) [ true ↦ refl | false ↦ refl ]
      | false ↦ refl
    ]

-- a pull event
pull_told : (host : HostId) (pull : Option Pulling) → host_outputs host (pull_out pull) ≡ pull_outputs pull
pull_told host None = refl
pull_told host (Some pull) = refl

-- a cleanup
clean_told : (state : Topology) (host : HostId) (ask : Ask) (session : Session) → ask.to ≡ host → host_outputs host (clean_out state host ask (CleanOf session)) ≡ cleaned_outputs (is_cleaned_by state host) ask (Some session)
clean_told state host ask session here =
    elim (cleans_host host (move_of state session)) as (λ b. host_outputs host (cleanup_out ask session (if b then Cleaned else NotCleaned)) ≡ (if b then fact_for ask else Sent (NotMineSent ask.to ask.by session)) ∷ []) [
      | true ↦ refl
      | false ↦ ap (λ h. Sent (NotMineSent h ask.by session) ∷ []) (sym here)
    ]

without_kept : (cells : Cells) (move : Option Move) → cells_without cells move ≡ kept_cells move cells
without_kept cells None = refl
without_kept cells (Some move) = refl

clean_kept : (state : Topology) (host : HostId) (cells : Cells) (ask : Ask) (session : Session) →
    clean_cells cells state host (CleanOf session) ≡ kept_cells (move_for state (cleaned_session (cleaned_outputs (is_cleaned_by state host) (record ask { what = CleanOf session }) (Some session)))) cells
clean_kept state host cells ask session =
    let asked : Ask = record ask { what = CleanOf session } in
    let move = move_of state session in
    elim (cleans_host host move) as (λ b. (if b then cells_without cells move else cells) ≡ kept_cells (move_for state (cleaned_session ((if b then fact_for asked else Sent (NotMineSent asked.to asked.by session)) ∷ []))) cells) [
      | true ↦ without_kept cells move
      | false ↦ refl
    ]

clean_pulls_kept : (state : Topology) (host : HostId) (pulls : Pulls) (ask : Ask) (session : Session) →
    clean_pulls pulls state host (CleanOf session) ≡ pulls_cleaned pulls (cleaned_session (cleaned_outputs (is_cleaned_by state host) (record ask { what = CleanOf session }) (Some session)))
clean_pulls_kept state host pulls ask session =
    let asked : Ask = record ask { what = CleanOf session } in
    elim (cleans_host host (move_of state session)) as (λ b. kept_pulls pulls session (if b then Cleaned else NotCleaned) ≡ pulls_cleaned pulls (cleaned_session ((if b then fact_for asked else Sent (NotMineSent asked.to asked.by session)) ∷ []))) [
      | true ↦ refl
      | false ↦ refl
    ]

-- ---- plays, each of the event's own host

apply_plays :
    (opening : Opening) (history : History) (host : HostId) (command : Command) →
    IsLegalHistory opening history → length (log_of history) ≤ 10000 →
    command_at (log_of history) (applied_count history host + 1) ≡ Some command →
    IsHostPlay opening history host (Apply host) (ApplyInput command)
apply_plays opening history host command legal short found =
    let first = opening_state opening in
    let log = log_of history in
    let count = applied_count history host in
    let step = leads first log (log_legal opening history legal) (below_end first log (omega (arith, short))) count command found in
    let within = command_within log (count + 1) command found in
    record {
      rule = refl;
      fits = record { fit = step.accepted.fit; judged = step.accepted.judged; version = step.below; applied = omega (arith, within, short) };
      outputs = refl;
      after = rw (same_host-refl host) (λ i. record (host_view opening history host) { applied = count + 1; state = sym step.next i });
    }

-- of two rules that are not broken, each is not
first_kept : (first other : Option EventRule) → option_or first other ≡ None → first ≡ None
first_kept None other kept = refl
first_kept (Some rule) other kept = cc kept

other_kept : (first other : Option EventRule) → option_or first other ≡ None → other ≡ None
other_kept None other kept = kept
other_kept (Some rule) other kept = cc kept

quiet_plays : (opening : Opening) (history : History) (host : HostId) (version : Version) → broken_rule opening history (Quiet host version) ≡ None → IsHostPlay opening history host (Quiet host version) (QuietInput version)
quiet_plays opening history host version enabled =
    let both = sym ((host_rules opening history host).quiet version) ∙ enabled in
    record {
      rule = first_kept (host_rule (host_view opening history host) (QuietInput version)) (live_rule opening history host version) both;
      fits = tt;
      outputs = refl;
      after = rw (same_host-refl host) refl;
    }

pull_plays : (opening : Opening) (history : History) (host : HostId) (session : Session) → broken_rule opening history (Pull host session) ≡ None → IsHostPlay opening history host (Pull host session) (PullInput session)
pull_plays opening history host session enabled =
    let pull = pulls_agree opening history host session in
    let first = same_first (applied_state opening history host) host session in
    record {
      rule = sym ((host_rules opening history host).pull session) ∙ enabled;
      fits = tt;
      outputs = pull_told host (option_or (pull_in (pulls_of opening history host) session) (first_pull_by (applied_state opening history host) host session)) ∙ (λ i. pull_outputs (option_or (pull i) (first i)));
      after = rw (same_host-refl host) refl;
    }

write_plays : (opening : Opening) (history : History) (host : HostId) (at : MsgRef) (ask : WriteAsk) → message_at history at ≡ Some (WriteSent ask) → IsHostPlay opening history host (Serve host at) (WriteInput ask)
write_plays opening history host at ask sent =
    let cells = held_cells opening history host in
    let put = put_once (fence_of opening history host) (held_cell opening history host) cells ask in
    record {
      rule = refl;
      fits = tt;
      outputs = rw sent refl;
      after = rw (sent, same_host-refl host) (λ i. record (host_view opening history host) { cells = put i });
    }

read_plays : (opening : Opening) (history : History) (host : HostId) (at : MsgRef) (ask : ReadAsk) → message_at history at ≡ Some (ReadSent ask) → IsHostPlay opening history host (Serve host at) (ReadInput ask)
read_plays opening history host at ask sent =
    let fence = fence_of opening history host in
    let cell = cell_at-held_cells opening history host (read_key ask) in
    record {
      rule = refl;
      fits = tt;
      outputs = rw sent (λ i. answer_of ask.lane ask.op ask.to (said_to ask.version fence (Found (cell i))) ∷ []);
      after = rw (sent, same_host-refl host) refl;
    }

send_plays : (opening : Opening) (history : History) (host : HostId) (at : MsgRef) (ask : ChunkAsk) → message_at history at ≡ Some (ChunkAskSent ask) → IsHostPlay opening history host (Serve host at) (SendChunk ask)
send_plays opening history host at ask sent =
    record { rule = refl; fits = tt; outputs = rw sent refl; after = rw (sent, same_host-refl host) refl }

answer_plays : (opening : Opening) (history : History) (host : HostId) (at : MsgRef) (ask : Ask) → message_at history at ≡ Some (AskSent ask) → broken_rule opening history (Answer host at) ≡ None → IsHostPlay opening history host (Answer host at) (AnswerInput ask)
answer_plays opening history host at ask sent enabled =
    let view = host_view opening history host in
    let both = sym ((host_rules opening history host).answer at) ∙ enabled in
    let asked = other_kept (taking_rule history host is_question at) (asked_rule view (ask_in (message_at history at))) both in
    record {
      rule = ap (λ message. asked_rule view (ask_in message)) (sym sent) ∙ asked;
      fits = tt;
      outputs = rw sent refl;
      after = refl;
    }

take_plays : (opening : Opening) (history : History) (host : HostId) (at : MsgRef) (chunk : ChunkMsg) → message_at history at ≡ Some (ChunkSent chunk) → IsHostPlay opening history host (TakeChunk host at) (ChunkInput chunk)
take_plays opening history host at chunk sent =
    let cells = held_cells opening history host in
    let pull = pulls_agree opening history host chunk.session in
    let listed = pull_in (pulls_of opening history host) chunk.session in
    let put : chunk_cells_by cells chunk listed ≡ with_cells cells (pulled_cells (pull_of opening history host chunk.session) chunk) =
    chunk_put cells listed chunk ∙ ap (λ p. with_cells cells (pulled_cells p chunk)) pull in
    record {
      rule = refl;
      fits = tt;
      outputs = rw sent (chunk_told host listed chunk ∙ ap (λ p. if is_last p chunk then Pulled chunk.session ∷ [] else []) pull);
      after = rw (sent, same_host-refl host) (λ i. record (host_after (host_view opening history host) (ChunkInput chunk)) { cells = put i });
    }

abbrev ask_of : HostId → HostId → What → Ask
ask_of by to what = record { by = by; to = to; what = what }

clean_plays :
    (opening : Opening) (history : History) (host : HostId) (at : MsgRef) (by to : HostId) (what : What) →
    message_at history at ≡ Some (AskSent (ask_of by to what)) → is_for (ByHost host) is_clean_ask (AskSent (ask_of by to what)) ≡ true →
    IsHostPlay opening history host (Clean host at) (CleanInput (ask_of by to what))
clean_plays opening history host at by to (CleanOf session) sent taken =
    let ask = ask_of by to (CleanOf session) in
    let state = applied_state opening history host in
    let kept = clean_kept state host (held_cells opening history host) ask session in
    let kept_pulls = clean_pulls_kept state host (pulls_of opening history host) ask session in
    record {
      rule = refl;
      fits = tt;
      outputs = rw sent (clean_told state host ask session (same_host-same to host taken));
      after = rw (sent, same_host-refl host) (λ i. record (host_view opening history host) { cells = kept i; pulls = kept_pulls i });
    }
clean_plays opening history host at by to what sent taken = cc taken

-- ---- each event

abbrev Plays : Opening → History → HostId → Event → Option HostInput → Type 0
Plays opening history host event input = IfSome input (IsHostPlay opening history host event)

apply_by_command : (opening : Opening) (history : History) (host : HostId) (command : Option Command) → IsLegalHistory opening history → length (log_of history) ≤ 10000 → command_at (log_of history) (applied_count history host + 1) ≡ command → Plays opening history host (Apply host) (option_map ApplyInput command)
apply_by_command opening history host None legal short found = tt
apply_by_command opening history host (Some command) legal short found = apply_plays opening history host command legal short found

serve_by_message : (opening : Opening) (history : History) (host : HostId) (at : MsgRef) (message : Option Message) → message_at history at ≡ message → Plays opening history host (Serve host at) (served_input message)
serve_by_message opening history host at (Some (WriteSent ask)) sent = write_plays opening history host at ask sent
serve_by_message opening history host at (Some (ReadSent ask)) sent = read_plays opening history host at ask sent
serve_by_message opening history host at (Some (ChunkAskSent ask)) sent = send_plays opening history host at ask sent
serve_by_message opening history host at message sent = tt

answer_by_message : (opening : Opening) (history : History) (host : HostId) (at : MsgRef) (message : Option Message) → message_at history at ≡ message → broken_rule opening history (Answer host at) ≡ None → Plays opening history host (Answer host at) (option_map AnswerInput (ask_in message))
answer_by_message opening history host at (Some (AskSent ask)) sent enabled = answer_plays opening history host at ask sent enabled
answer_by_message opening history host at message sent enabled = tt

take_by_message : (opening : Opening) (history : History) (host : HostId) (at : MsgRef) (message : Option Message) → message_at history at ≡ message → Plays opening history host (TakeChunk host at) (option_map ChunkInput (chunk_in message))
take_by_message opening history host at (Some (ChunkSent chunk)) sent = take_plays opening history host at chunk sent
take_by_message opening history host at message sent = tt

clean_by_output : (opening : Opening) (history : History) (host : HostId) (at : MsgRef) (output : Option Output) → output_at history at ≡ output → message_rule (is_for (ByHost host) is_clean_ask) output ≡ None → Plays opening history host (Clean host at) (option_map CleanInput (ask_in (message_of output)))
clean_by_output opening history host at (Some (Sent (AskSent ask))) sent enabled =
    clean_plays opening history host at ask.by ask.to ask.what (ap message_of sent) (rule_takes (is_for (ByHost host) is_clean_ask) (Some (Sent (AskSent ask))) (AskSent ask) refl enabled)
clean_by_output opening history host at output sent enabled = tt

-- whichever event of the host it is
event_plays : (opening : Opening) (history : History) (event : Event) (host : HostId) → IsLegalHistory opening history → actor_of event ≡ ByHost host → broken_rule opening history event ≡ None → length (log_of history) ≤ 10000 → Plays opening history host event (host_input history event)
event_plays opening history (Apply by) host legal mine enabled short =
    subst (λ h. Plays opening history h (Apply by) (host_input history (Apply by))) (cc mine) (apply_by_command opening history by _ legal short refl)
event_plays opening history (Quiet by version) host legal mine enabled short =
    subst (λ h. IsHostPlay opening history h (Quiet by version) (QuietInput version)) (cc mine) (quiet_plays opening history by version enabled)
event_plays opening history (Serve by at) host legal mine enabled short =
    subst (λ h. Plays opening history h (Serve by at) (host_input history (Serve by at))) (cc mine) (serve_by_message opening history by at (message_at history at) refl)
event_plays opening history (Answer by at) host legal mine enabled short =
    subst (λ h. Plays opening history h (Answer by at) (host_input history (Answer by at))) (cc mine) (answer_by_message opening history by at (message_at history at) refl enabled)
event_plays opening history (Clean by at) host legal mine enabled short =
    subst (λ h. Plays opening history h (Clean by at) (host_input history (Clean by at))) (cc mine) (clean_by_output opening history by at (output_at history at) refl enabled)
event_plays opening history (Pull by session) host legal mine enabled short =
    subst (λ h. IsHostPlay opening history h (Pull by session) (PullInput session)) (cc mine) (pull_plays opening history by session enabled)
event_plays opening history (TakeChunk by at) host legal mine enabled short =
    subst (λ h. Plays opening history h (TakeChunk by at) (host_input history (TakeChunk by at))) (cc mine) (take_by_message opening history by at (message_at history at) refl)
event_plays opening history event host legal mine enabled short = tt

pub host_plays : HostsPlay
host_plays opening history event host input valid legal mine enabled short given =
    subst (λ i. IfSome i (IsHostPlay opening history host event)) given (event_plays opening history event host legal mine enabled short)
