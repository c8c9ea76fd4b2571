-- What a host keeps of its own entries stays what the history says.
use Rattle.std.proofs.Common.{ap, arith, refl, subst, sym, ◌∙◌}
use Rattle.std.specs.Prelude.{Bool, List, None, Option, Some, [], false, if◌then◌else◌, option_map, true, ℕ, ◌&&◌, ◌++◌, ◌+◌, ◌∷◌, ◌≡◌}
use Rattle.base_ids.specs.Names.{same_session}
use Rattle.base_ids.specs.declared.ids.Actor.TheVariants.{Host as ByHost}
use Rattle.base_ids.specs.declared.ids.HostId.{HostId}
use Rattle.base_ids.specs.declared.ids.MsgRef.{MsgRef}
use Rattle.base_ids.specs.declared.ids.Session.{Session}
use Rattle.base_ids.specs.declared.ids.Version.{Version}
use Rattle.base_ids.proofs.NameLemmas.{same_host-refl}
use Rattle.stream_core.specs.declared.data.ChunkMsg.{ChunkMsg}
use Rattle.topo_state.specs.declared.command.Command.{Command}
use Rattle.group0_log.specs.Log.{command_at}
use Rattle.barrier_core.specs.declared.data.Ask.{Ask}
use Rattle.cluster_history.specs.Held.{chunk_in, taken_chunk}
use Rattle.cluster_history.specs.History.{History, actor_of, is_by, message_at}
use Rattle.cluster_history.specs.Topology.{applied_count, log_of}
use Rattle.cluster_history.specs.declared.data.Entry.{Entry}
use Rattle.cluster_history.specs.declared.data.Event.{Event}
use Rattle.cluster_history.specs.declared.data.Event.TheVariants.{Answer, Apply, Clean, Pull, Quiet, Serve, TakeChunk}
use Rattle.cluster_history.specs.declared.data.Message.{Message}
use Rattle.cluster_history.specs.declared.data.Message.TheVariants.{Chunk as ChunkSent, ChunkAsk as ChunkAskSent, Read as ReadSent, Write as WriteSent}
use Rattle.cluster_history.specs.declared.data.Output.{Output}
use Rattle.cluster_history.proofs.FrameLemmas.{pull-other}
use Rattle.host_core.specs.declared.data.HostInput.{HostInput}
use Rattle.host_core.specs.declared.data.HostInput.TheVariants.{Answer as AnswerInput, Apply as ApplyInput, Clean as CleanInput, Pull as PullInput, Quiet as QuietInput, Read as ReadInput, SendChunk, TakeChunk as ChunkInput, Write as WriteInput}
use Rattle.host_ties.specs.HostTies.{ask_in, host_input, served_input}
use Rattle.plan_facts.specs.Own.{chunk_count, is_chunk_of, pull_count}
use Rattle.plan_facts.proofs.CauseLemmas.{message-later}
use Rattle.engine_desk.specs.Chairs.{IsLater, Known}
use Rattle.engine_desk.proofs.LaterLemmas.{kept, since}
use Rattle.engine_hosts.specs.Notes.{IsNoted, NotesView, first_notes, input_noted, times_in}

-- ---- past entries of others

pull_count-other : (history : History) (entry : Entry) (host : HostId) (session : Session) → is_by (ByHost host) entry.event ≡ false → pull_count (entry ∷ history) host session ≡ pull_count history host session
pull_count-other history entry host session e = rw (pull-other host session entry.event e) refl

no_chunk : (history : History) (host : HostId) (session : Session) (event : Event) → is_by (ByHost host) event ≡ false → is_chunk_of session (taken_chunk history host event) ≡ false
no_chunk history host session (TakeChunk by at) e = rw e refl
no_chunk history host session event e = refl

chunk_count-other : (history : History) (entry : Entry) (host : HostId) (session : Session) → is_by (ByHost host) entry.event ≡ false → chunk_count (entry ∷ history) host session ≡ chunk_count history host session
chunk_count-other history entry host session e = rw (no_chunk history host session entry.event e) refl

pub noted_since : (known : Known) (host : HostId) (now : History) (notes : NotesView) → IsLater known.opening (ByHost host) known.seen now → IsNoted known host notes → IsNoted (record known { seen = now }) host notes
noted_since known host now notes later n =
    record {
      pulls_are = λ session. n.pulls_are session ∙ sym (since known.opening (ByHost host) (λ h. pull_count h host session) (λ history entry legal other. pull_count-other history entry host session other) known.seen now later);
      chunks_are = λ session. n.chunks_are session ∙ sym (since known.opening (ByHost host) (λ h. chunk_count h host session) (λ history entry legal other. chunk_count-other history entry host session other) known.seen now later);
      published_is = n.published_is;
    }

-- ---- counts

times-append : (session : Session) (first second : List Session) → times_in session (first ++ second) ≡ times_in session first + times_in session second
times-append session [] second = omega arith
times-append session (other ∷ first) second = let e = times-append session first second in omega (arith, e)

pub times_on : (session other : Session) (sessions : List Session) (b : Bool) → b ≡ same_session other session → times_in session (sessions ++ other ∷ []) ≡ times_in session sessions + (if b then 1 else 0)
times_on session other sessions b is =
    let e = times-append session sessions (other ∷ []) in
    let one : times_in session (other ∷ []) ≡ (if b then 1 else 0) = omega arith ∙ ap (λ t. if t then 1 else 0) (sym is) in
    e ∙ ap (λ n. times_in session sessions + n) one

if_more : (b : Bool) (n : ℕ) → n + (if b then 1 else 0) ≡ (if b then n + 1 else n)
if_more true n = refl
if_more false n = omega arith

counted : (session other : Session) (sessions : List Session) (count : ℕ) → times_in session sessions ≡ count → times_in session (sessions ++ other ∷ []) ≡ (if same_session other session then count + 1 else count)
counted session other sessions count is =
    times_on session other sessions (same_session other session) refl
    ∙ ap (λ n. n + (if same_session other session then 1 else 0)) is
    ∙ if_more (same_session other session) count

-- ---- own entries

abbrev with_own : Known → History → Event → List Output → Known
with_own known now event outputs = record known { seen = record { event = event; outputs = outputs } ∷ now }

abbrev IsPlainInput : HostInput → Type 0
IsPlainInput input = (notes : NotesView) → input_noted input notes ≡ notes

served_plain : (message : Option Message) (input : HostInput) → served_input message ≡ Some input → IsPlainInput input
served_plain (Some (WriteSent ask)) input h = let is : WriteInput ask ≡ input = cc h in subst IsPlainInput is (λ notes. refl)
served_plain (Some (ReadSent ask)) input h = let is : ReadInput ask ≡ input = cc h in subst IsPlainInput is (λ notes. refl)
served_plain (Some (ChunkAskSent ask)) input h = let is : SendChunk ask ≡ input = cc h in subst IsPlainInput is (λ notes. refl)
served_plain message input h = cc h

asked_plain : (ask : Option Ask) (input : HostInput) → option_map AnswerInput ask ≡ Some input → IsPlainInput input
asked_plain None input h = cc h
asked_plain (Some ask) input h = let is : AnswerInput ask ≡ input = cc h in subst IsPlainInput is (λ notes. refl)

cleaned_plain : (ask : Option Ask) (input : HostInput) → option_map CleanInput ask ≡ Some input → IsPlainInput input
cleaned_plain None input h = cc h
cleaned_plain (Some ask) input h = let is : CleanInput ask ≡ input = cc h in subst IsPlainInput is (λ notes. refl)

applied_plain : (command : Option Command) (input : HostInput) → option_map ApplyInput command ≡ Some input → IsPlainInput input
applied_plain None input h = cc h
applied_plain (Some command) input h = let is : ApplyInput command ≡ input = cc h in subst IsPlainInput is (λ notes. refl)

noted_pull : (known : Known) (now : History) (host : HostId) (session : Session) (outputs : List Output) (notes : NotesView) → IsNoted (record known { seen = now }) host notes → IsNoted (with_own known now (Pull host session) outputs) host (input_noted (PullInput session) notes)
noted_pull known now host session outputs notes n =
    record {
      pulls_are = λ other.
          counted other session notes.pulls (pull_count now host other) (n.pulls_are other)
          ∙ ap (λ b. if b && same_session session other then pull_count now host other + 1 else pull_count now host other) (sym (same_host-refl host));
      chunks_are = n.chunks_are;
      published_is = n.published_is;
    }

noted_chunk : (known : Known) (now : History) (host : HostId) (at : MsgRef) (chunk : ChunkMsg) (outputs : List Output) (notes : NotesView) → chunk_in (message_at now at) ≡ Some chunk → IsNoted (record known { seen = now }) host notes → IsNoted (with_own known now (TakeChunk host at) outputs) host (input_noted (ChunkInput chunk) notes)
noted_chunk known now host at chunk outputs notes found n =
    let taken : taken_chunk now host (TakeChunk host at) ≡ Some chunk = rw (same_host-refl host) found in
    record {
      pulls_are = n.pulls_are;
      chunks_are = λ other.
          counted other chunk.session notes.chunks (chunk_count now host other) (n.chunks_are other)
          ∙ ap (λ c. if is_chunk_of other c then chunk_count now host other + 1 else chunk_count now host other) (sym taken);
      published_is = n.published_is;
    }

chunk_message : (message : Option Message) (chunk : ChunkMsg) → chunk_in message ≡ Some chunk → message ≡ Some (ChunkSent chunk)
chunk_message (Some (ChunkSent other)) chunk h = let is : other ≡ chunk = cc h in ap (λ c. Some (ChunkSent c)) is
chunk_message message chunk h = cc h

chunk_since : (known : Known) (host : HostId) (now : History) (at : MsgRef) (chunk : ChunkMsg) → IsLater known.opening (ByHost host) known.seen now → chunk_in (message_at known.seen at) ≡ Some chunk → chunk_in (message_at now at) ≡ Some chunk
chunk_since known host now at chunk later h =
    ap chunk_in
    (kept known.opening (ByHost host) (λ history. message_at history at ≡ Some (ChunkSent chunk)) (λ history other legal foreign is. message-later history other at (ChunkSent chunk) is) known.seen now later
    (chunk_message (message_at known.seen at) chunk h))

still_noted : (known : Known) (now : History) (host : HostId) (event : Event) (outputs : List Output) (notes : NotesView) (input : HostInput) → IsPlainInput input → IsNoted (with_own known now event outputs) host notes → IsNoted (with_own known now event outputs) host (input_noted input notes)
still_noted known now host event outputs notes input plain n = subst (IsNoted (with_own known now event outputs) host) (sym (plain notes)) n

pub noted_own : (known : Known) (now : History) (host : HostId) (event : Event) (input : HostInput) (outputs : List Output) (notes : NotesView) → IsLater known.opening (ByHost host) known.seen now → actor_of event ≡ ByHost host → host_input known.seen event ≡ Some input → IsNoted (record known { seen = now }) host notes → IsNoted (with_own known now event outputs) host (input_noted input notes)
noted_own known now host (Apply by) input outputs notes later mine given n =
    still_noted known now host (Apply by) outputs notes input (applied_plain (command_at (log_of known.seen) (applied_count known.seen by + 1)) input given)
    (record { pulls_are = n.pulls_are; chunks_are = n.chunks_are; published_is = n.published_is })
noted_own known now host (Quiet by version) input outputs notes later mine given n =
    let is : QuietInput version ≡ input = cc given in
    still_noted known now host (Quiet by version) outputs notes input (subst IsPlainInput is (λ notes. refl))
    (record { pulls_are = n.pulls_are; chunks_are = n.chunks_are; published_is = n.published_is })
noted_own known now host (Serve by at) input outputs notes later mine given n =
    still_noted known now host (Serve by at) outputs notes input (served_plain (message_at known.seen at) input given)
    (record { pulls_are = n.pulls_are; chunks_are = n.chunks_are; published_is = n.published_is })
noted_own known now host (Answer by at) input outputs notes later mine given n =
    still_noted known now host (Answer by at) outputs notes input (asked_plain (ask_in (message_at known.seen at)) input given)
    (record { pulls_are = n.pulls_are; chunks_are = n.chunks_are; published_is = n.published_is })
noted_own known now host (Clean by at) input outputs notes later mine given n =
    still_noted known now host (Clean by at) outputs notes input (cleaned_plain (ask_in (message_at known.seen at)) input given)
    (record { pulls_are = n.pulls_are; chunks_are = n.chunks_are; published_is = n.published_is })
noted_own known now host (Pull by session) input outputs notes later mine given n =
    let named : host ≡ by = cc mine in
    let is : PullInput session ≡ input = cc given in
    subst (λ (h : HostId). IsNoted (with_own known now (Pull h session) outputs) host (input_noted input notes)) named
    (subst (λ (i : HostInput). IsNoted (with_own known now (Pull host session) outputs) host (input_noted i notes)) is (noted_pull known now host session outputs notes n))
noted_own known now host (TakeChunk by at) input outputs notes later mine given n = by_chunk (chunk_in (message_at known.seen at)) refl given
  where
    by_chunk : (found : Option ChunkMsg) → chunk_in (message_at known.seen at) ≡ found → option_map ChunkInput found ≡ Some input → IsNoted (with_own known now (TakeChunk by at) outputs) host (input_noted input notes)
    by_chunk None found h = cc h
    by_chunk (Some chunk) found h =
        let named : host ≡ by = cc mine in
        let is : ChunkInput chunk ≡ input = cc h in
        subst (λ (b : HostId). IsNoted (with_own known now (TakeChunk b at) outputs) host (input_noted input notes)) named
        (subst (λ (i : HostInput). IsNoted (with_own known now (TakeChunk host at) outputs) host (input_noted i notes)) is
        (noted_chunk known now host at chunk outputs notes (chunk_since known host now at chunk later found) n))
noted_own known now host event input outputs notes later mine given n = cc given

-- ---- at first

pub noted_first : (published : Version) (known : Known) (host : HostId) → known.seen ≡ [] → known.published ≡ published → IsNoted known host (first_notes published)
noted_first published known host none is =
    record {
      pulls_are = λ session. sym (ap (λ (h : History). pull_count h host session) none);
      chunks_are = λ session. sym (ap (λ (h : History). chunk_count h host session) none);
      published_is = sym is;
    }
