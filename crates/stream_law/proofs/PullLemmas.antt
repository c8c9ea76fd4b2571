-- Pulls and chunk asks are of the move of their session.
use Rattle.std.proofs.Common.{arith, inl, inr, refl, subst, sym, ◌∙◌}
use Rattle.std.specs.Option.{option_or}
use Rattle.std.specs.Prelude.{None, Option, Some, [], false, if◌then◌else◌, not, true, ◌∷◌, ◌≡◌}
use Rattle.answer_law.proofs.PrefixLemmas.{kept_since, sent_by}
use Rattle.answer_law.proofs.TakenLemmas.{some_same}
use Rattle.base_ids.specs.Names.{same_host}
use Rattle.base_ids.specs.declared.ids.HostId.{HostId}
use Rattle.base_ids.specs.declared.ids.MsgRef.{MsgRef}
use Rattle.base_ids.specs.declared.ids.Session.{Session}
use Rattle.cluster_history.proofs.WithinLemmas.{applied_within}
use Rattle.cluster_history.specs.Held.{ends_pull, is_pull_of, pull_of, pull_with, taken_chunk}
use Rattle.cluster_history.specs.History.{History, message_at}
use Rattle.cluster_history.specs.Legal.{IsLegalHistory}
use Rattle.cluster_history.specs.Moves.{first_pull, pull_for}
use Rattle.cluster_history.specs.Outputs.{ask_of}
use Rattle.cluster_history.specs.Requests.{next_op}
use Rattle.cluster_history.specs.Topology.{applied_count, applied_state, state_after}
use Rattle.cluster_history.specs.declared.data.Entry.{Entry}
use Rattle.cluster_history.specs.declared.data.Event.{Event}
use Rattle.cluster_history.specs.declared.data.Message.{Message}
use Rattle.cluster_history.specs.declared.data.Message.TheVariants.{ChunkAsk as ChunkAskSent}
use Rattle.cluster_history.specs.declared.data.Opening.{Opening}
use Rattle.cluster_history.specs.declared.data.Operation.{Operation}
use Rattle.cluster_history.specs.declared.data.Operation.TheVariants.{Read as ReadOf, Write as WriteOf}
use Rattle.history_facts.proofs.HostLemmas.{applied-rises}
use Rattle.base_ids.proofs.NameLemmas.{both_true, same_host-same}
use Rattle.history_facts.proofs.SentLemmas.{Sends}
use Rattle.history_facts.proofs.SentLemmas.Sends.{sends_ask, sends_chunk, sends_chunk_ask, sends_cleaned, sends_fact, sends_found, sends_not_mine, sends_question, sends_written}
use Rattle.history_facts.specs.Prefixes.{history_before}
use Rattle.stream_core.specs.Pulls.{Pulling, is_next, last_token, new_pull, next_ask, pull_after}
use Rattle.stream_core.specs.declared.data.ChunkAsk.{ChunkAsk}
use Rattle.stream_core.specs.declared.data.ChunkMsg.{ChunkMsg}
use Rattle.topo_state.specs.Moves.{is_streaming, move_of, streams_to}
use Rattle.topo_state.specs.declared.moves.Move.{Move}
use Rattle.stream_law.proofs.MoveLemmas.{streamed-later, streaming_is}
use Rattle.stream_law.specs.Laws.{ChunkAsksAreOfMoves, PullsAreOfMoves}
use Rattle.stream_law.specs.Streams.{IsAskOfMove, IsPullOfMove}
use Rattle.answer_law.proofs.PullLemmas.{either}

-- ---- pulls

pull-later : (opening : Opening) (history : History) (entry : Entry) (host : HostId) (session : Session) (pull : Pulling) → IsPullOfMove opening history host session pull → IsPullOfMove opening (entry ∷ history) host session pull
pull-later opening history entry host session pull was =
    record {
      move = was.move;
      count = was.count;
      streamed = streamed-later opening history entry session was.count was.move was.streamed;
      applied = (let more = applied-rises history entry host in omega (arith, was.applied, more));
      pending = was.pending;
      session_is = was.session_is;
      table_is = was.table_is;
      range_is = was.range_is;
      by_is = was.by_is;
      from_is = was.from_is;
    }

pub first_is : (opening : Opening) (history : History) (host : HostId) (session : Session) (pull : Pulling) → IsLegalHistory opening history → first_pull (applied_state opening history host) host session ≡ Some pull → IsPullOfMove opening history host session pull
first_is opening history host session pull legal e = by_move (move_of (applied_state opening history host) session) refl e
  where
    by_move : (move : Option Move) → move_of (applied_state opening history host) session ≡ move → pull_for host session move ≡ Some pull → IsPullOfMove opening history host session pull
    by_move None is h = cc h
    by_move (Some move) is h =
        elim (streams_to host move) as (λ b. streams_to host move ≡ b → (if b then Some (new_pull session move.table move.range host move.transition.leaving.host) else None) ≡ Some pull → IsPullOfMove opening history host session pull) [
          | true ↦ λ to f.
              let made : new_pull session move.table move.range host move.transition.leaving.host ≡ pull = cc f in
              let both = both_true (is_streaming move.transition.stage) (same_host move.transition.pending.host host) to in
              subst (IsPullOfMove opening history host session) made
              (record {
                move = move;
                count = applied_count history host;
                streamed = record { within = applied_within opening history host legal; moves = is; streams = streaming_is move.transition.stage both.0 };
                applied = omega arith;
                pending = sym (same_host-same move.transition.pending.host host both.1);
                session_is = refl;
                table_is = refl;
                range_is = refl;
                by_is = refl;
                from_is = refl;
              })
          | false ↦ λ to f. cc f
        ] refl h

-- a chunk does not change what a pull pulls
after_chunk : (opening : Opening) (history : History) (host : HostId) (session : Session) (pull : Pulling) (chunk : ChunkMsg) → IsPullOfMove opening history host session pull → IsPullOfMove opening history host session (pull_after pull chunk)
after_chunk opening history host session pull chunk was =
    elim (is_next pull chunk) as (λ b. IsPullOfMove opening history host session (if b then record pull { after = last_token pull.after chunk.cells; done = not chunk.more } else pull)) [
      | true ↦ record {
        move = was.move;
        count = was.count;
        streamed = was.streamed;
        applied = was.applied;
        pending = was.pending;
        session_is = was.session_is;
        table_is = was.table_is;
        range_is = was.range_is;
        by_is = was.by_is;
        from_is = was.from_is;
      }
      | false ↦ was
    ]

-- the pull that a pull event goes on with, or begins
pub going_on :
    (opening : Opening) (history : History) (host : HostId) (session : Session) (pull : Pulling) → IsLegalHistory opening history →
    (pull_of opening history host session ≡ Some pull → IsPullOfMove opening history host session pull) →
    option_or (pull_of opening history host session) (first_pull (applied_state opening history host) host session) ≡ Some pull → IsPullOfMove opening history host session pull
going_on opening history host session pull legal known e =
    elim (either (pull_of opening history host session) (first_pull (applied_state opening history host) host session) pull e) [
      | inl old ↦ known old
      | inr new ↦ first_is opening history host session pull legal new
    ]

-- a pull that took a chunk, or none
with_chunk :
    (opening : Opening) (history : History) (host : HostId) (session : Session) (before : Option Pulling) (chunk : Option ChunkMsg) (pull : Pulling) →
    ((was : Pulling) → before ≡ Some was → IsPullOfMove opening history host session was) → pull_with before chunk ≡ Some pull → IsPullOfMove opening history host session pull
with_chunk opening history host session None chunk pull known e = cc e
with_chunk opening history host session (Some was) None pull known e = known pull e
with_chunk opening history host session (Some was) (Some chunk) pull known e =
    subst (IsPullOfMove opening history host session) (some_same (pull_after was chunk) pull e) (after_chunk opening history host session was chunk (known was refl))

-- how a pull goes on over an entry: it begins, or it was there and goes on as it was, or it takes a chunk
pub data PullGoesOn (opening : Opening) (history : History) (entry : Entry) (host : HostId) (session : Session) (pull : Pulling) : Type 0 where
  Begins : first_pull (applied_state opening history host) host session ≡ Some pull → PullGoesOn opening history entry host session pull
  Stays : pull_of opening history host session ≡ Some pull → PullGoesOn opening history entry host session pull
  Takes : (was : Pulling) (chunk : ChunkMsg) → pull_of opening history host session ≡ Some was → taken_chunk history host entry.event ≡ Some chunk →
      pull ≡ pull_after was chunk → PullGoesOn opening history entry host session pull

with_taken :
    (opening : Opening) (history : History) (entry : Entry) (host : HostId) (session : Session) (before : Option Pulling) (chunk : Option ChunkMsg) (pull : Pulling) →
    pull_of opening history host session ≡ before → taken_chunk history host entry.event ≡ chunk → pull_with before chunk ≡ Some pull → PullGoesOn opening history entry host session pull
with_taken opening history entry host session None chunk pull is takes e = cc e
with_taken opening history entry host session (Some was) None pull is takes e = Stays (is ∙ e)
with_taken opening history entry host session (Some was) (Some chunk) pull is takes e = Takes was chunk is takes (sym (some_same (pull_after was chunk) pull e))

pub pull_goes_on :
    (opening : Opening) (history : History) (entry : Entry) (host : HostId) (session : Session) (pull : Pulling) →
    pull_of opening (entry ∷ history) host session ≡ Some pull → PullGoesOn opening history entry host session pull
pull_goes_on opening history entry host session pull e =
    elim (ends_pull host session entry.event entry.outputs) as (λ b. (if b then None else if is_pull_of host session entry.event then option_or (pull_of opening history host session) (first_pull (applied_state opening history host) host session) else pull_with (pull_of opening history host session) (taken_chunk history host entry.event)) ≡ Some pull → PullGoesOn opening history entry host session pull) [
      | true ↦ λ h. cc h
      | false ↦ λ h.
          elim (is_pull_of host session entry.event) as (λ b. (if b then option_or (pull_of opening history host session) (first_pull (applied_state opening history host) host session) else pull_with (pull_of opening history host session) (taken_chunk history host entry.event)) ≡ Some pull → PullGoesOn opening history entry host session pull) [
            | true ↦ λ g.
                elim (either (pull_of opening history host session) (first_pull (applied_state opening history host) host session) pull g) [
                  | inl old ↦ Stays old
                  | inr new ↦ Begins new
                ]
            | false ↦ λ g. with_taken opening history entry host session (pull_of opening history host session) (taken_chunk history host entry.event) pull refl refl g
          ] h
    ] e

goes_on_is :
    (opening : Opening) (history : History) (entry : Entry) (host : HostId) (session : Session) (pull : Pulling) → IsLegalHistory opening history →
    ((was : Pulling) → pull_of opening history host session ≡ Some was → IsPullOfMove opening history host session was) →
    PullGoesOn opening history entry host session pull → IsPullOfMove opening history host session pull
goes_on_is opening history entry host session pull legal known (Begins first) = first_is opening history host session pull legal first
goes_on_is opening history entry host session pull legal known (Stays old) = known pull old
goes_on_is opening history entry host session pull legal known (Takes was chunk old takes is) =
    subst (IsPullOfMove opening history host session) (sym is) (after_chunk opening history host session was chunk (known was old))

pub pull_is : (opening : Opening) (history : History) (host : HostId) (session : Session) (pull : Pulling) → IsLegalHistory opening history → pull_of opening history host session ≡ Some pull → IsPullOfMove opening history host session pull
pull_is opening [] host session pull legal e = cc e
pull_is opening (entry ∷ history) host session pull legal e =
    pull-later opening history entry host session pull
    (goes_on_is opening history entry host session pull legal.1 (λ was is. pull_is opening history host session was legal.1 is) (pull_goes_on opening history entry host session pull e))

pub pulls_are : PullsAreOfMoves
pulls_are opening history host session pull valid legal e = pull_is opening history host session pull legal e

-- ---- chunk asks

pub ask-later : (opening : Opening) (history : History) (entry : Entry) (ask : ChunkAsk) → IsAskOfMove opening history ask → IsAskOfMove opening (entry ∷ history) ask
ask-later opening history entry ask was =
    record {
      move = was.move;
      count = was.count;
      streamed = streamed-later opening history entry ask.session was.count was.move was.streamed;
      table_is = was.table_is;
      range_is = was.range_is;
      by_is = was.by_is;
      to_is = was.to_is;
    }

ask_of_pull : (opening : Opening) (history : History) (host : HostId) (session : Session) (pull : Pulling) → IsPullOfMove opening history host session pull → IsAskOfMove opening history (next_ask pull)
ask_of_pull opening history host session pull known =
    record {
      move = known.move;
      count = known.count;
      streamed = record {
        within = known.streamed.within;
        moves = subst (λ (s : Session). move_of (state_after opening history known.count) s ≡ Some known.move) (sym known.session_is) known.streamed.moves;
        streams = known.streamed.streams;
      };
      table_is = known.table_is;
      range_is = known.range_is;
      by_is = known.by_is ∙ known.pending;
      to_is = known.from_is;
    }

chunk_ask_by :
    (opening : Opening) (history : History) (event : Event) (message : Message) (ask : ChunkAsk) → IsLegalHistory opening history →
    Sends opening history event message → message ≡ ChunkAskSent ask → IsAskOfMove opening history ask
chunk_ask_by opening history event message ask legal (sends_chunk_ask {host = host} {session = session} pull is) e =
    let known = going_on opening history host session pull legal (pull_is opening history host session pull legal) is in
    subst (IsAskOfMove opening history) (ask_same (next_ask pull) ask e) (ask_of_pull opening history host session pull known)
  where
    ask_same : (a b : ChunkAsk) → ChunkAskSent a ≡ ChunkAskSent b → a ≡ b
    ask_same a b e = cc e
chunk_ask_by opening history event message ask legal (sends_ask {lane = lane} {operation = operation} {version = version} route to there among) e =
    absurd (no_chunk_ask operation e)
  where
    no_chunk_ask : (operation : Operation) → ask_of lane (next_op history lane) version operation to ≡ ChunkAskSent ask → ⊥
    no_chunk_ask (WriteOf table token cell level) e = cc e
    no_chunk_ask (ReadOf table token level) e = cc e
chunk_ask_by opening history event message ask legal (sends_written asked sent here) e = cc e
chunk_ask_by opening history event message ask legal (sends_found asked sent here) e = cc e
chunk_ask_by opening history event message ask legal (sends_chunk asked sent here) e = cc e
chunk_ask_by opening history event message ask legal (sends_fact asked sent here so) e = cc e
chunk_ask_by opening history event message ask legal (sends_cleaned asked session sent here what mine) e = cc e
chunk_ask_by opening history event message ask legal (sends_not_mine asked session sent here what mine) e = cc e
chunk_ask_by opening history event message ask legal sends_question e = cc e

pub chunk_ask_is : (opening : Opening) (history : History) (at : MsgRef) (ask : ChunkAsk) → IsLegalHistory opening history → message_at history at ≡ Some (ChunkAskSent ask) → IsAskOfMove opening history ask
chunk_ask_is opening history at ask legal sent =
    let by = sent_by opening history at (ChunkAskSent ask) legal sent in
    kept_since opening (λ h. IsAskOfMove opening h ask)
    (λ h entry going was. ask-later opening h entry ask was)
    history at.event legal
    (chunk_ask_by opening (history_before history at.event) by.entry.event (ChunkAskSent ask) ask by.legal by.sends refl)

pub chunk_asks_are : ChunkAsksAreOfMoves
chunk_asks_are opening history at ask valid legal e = chunk_ask_is opening history at ask legal e
