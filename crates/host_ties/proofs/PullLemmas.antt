-- A host's pulls as a list: one for each session at most, and it is the one that the history says.
use Rattle.std.proofs.Common.{ap, arith, refl, subst, sym, ◌∙◌}
use Rattle.std.proofs.lemmas.Bool.Decides.{nat_tests}
use Rattle.std.specs.Option.{option_or}
use Rattle.std.specs.Prelude.{Bool, List, None, Option, Some, [], false, if◌then◌else◌, is_some, not, true, ◌&&◌, ◌∷◌, ◌≡◌}
use Rattle.base_ids.specs.Names.{same_actor, same_host, same_session}
use Rattle.base_ids.specs.declared.ids.Actor.TheVariants.{Host as ByHost}
use Rattle.base_ids.specs.declared.ids.HostId.{HostId}
use Rattle.base_ids.specs.declared.ids.Session.{Session}
use Rattle.host_core.specs.Host.{begun_pull, chunk_pulls, is_pulled as is_pull_done, with_begun}
use Rattle.host_core.specs.Pulls.{Pulls, pull_of_state as first_pull_by, pull_of_move as pull_for_by, pull_in, with_pull, without_pull}
use Rattle.stream_core.specs.Pulls.{Pulling, is_next, last_token, new_pull, pull_after}
use Rattle.stream_core.specs.declared.data.ChunkMsg.{ChunkMsg}
use Rattle.topo_state.specs.Moves.{move_of, streams_to}
use Rattle.topo_state.specs.State.{Topology}
use Rattle.topo_state.specs.declared.moves.Move.{Move}
use Rattle.cluster_history.specs.Held.{chunk_in, cleaned_session, ends_pull, has_done, is_done, is_pull_of, is_that_session, pull_of, pull_with, taken_chunk}
use Rattle.cluster_history.specs.History.{History, message_at}
use Rattle.cluster_history.specs.Moves.{first_pull, pull_for}
use Rattle.cluster_history.specs.Topology.{applied_state}
use Rattle.cluster_history.specs.declared.data.Event.{Event}
use Rattle.cluster_history.specs.declared.data.Event.TheVariants.{Clean, Pull, Restart, TakeChunk}
use Rattle.cluster_history.specs.declared.data.Opening.{Opening}
use Rattle.cluster_history.specs.declared.data.Output.{Output}
use Rattle.base_ids.proofs.NameLemmas.{same_session-refl, same_session-same}
use Rattle.host_ties.specs.HostRules.{HostPulls}
use Rattle.host_ties.specs.HostTies.{pulls_after, pulls_begun, pulls_cleaned, pulls_of, pulls_taken}
use Rattle.cluster_history.proofs.FrameLemmas.{one_way}

-- what holds both ways holds
both_ways : {X : Type 0} (P : X → Type 0) (b : Bool) (x y : X) → P x → P y → P (if b then x else y)
both_ways P true x y first second = first
both_ways P false x y first second = second

-- ---- a list of pulls with one for each session at most

abbrev pub AreDistinct : Pulls → Type 0
AreDistinct [] = Unit {0}
AreDistinct (e ∷ pulls) = (pull_in pulls e.0 ≡ None) × AreDistinct pulls

pull_in-with : (pulls : Pulls) (session : Session) (pull : Pulling) (other : Session) → pull_in (with_pull pulls session pull) other ≡ (if same_session other session then Some pull else pull_in pulls other)
pull_in-with [] session pull other = refl
pull_in-with (e ∷ pulls) session pull other =
    (elim (same_session session e.0) as (λ b. same_session session e.0 ≡ b → pull_in (if b then (e.0, pull) ∷ pulls else e ∷ with_pull pulls session pull) other ≡ (if same_session other session then Some pull else if same_session other e.0 then Some e.1 else pull_in pulls other)) [
      | true ↦ λ here.
          let same : same_session other e.0 ≡ same_session other session = grind (arith, nat_tests) in
          rw same (twice (same_session other session) (Some pull) (Some e.1) (pull_in pulls other))
      | false ↦ λ apart.
          (elim (same_session other e.0) as (λ b. same_session other e.0 ≡ b → (if b then Some e.1 else pull_in (with_pull pulls session pull) other) ≡ (if same_session other session then Some pull else if b then Some e.1 else pull_in pulls other)) [
            | true ↦ λ found. let not_that : same_session other session ≡ false = grind (arith, nat_tests) in rw not_that refl
            | false ↦ λ found. pull_in-with pulls session pull other
          ]) refl
    ]) refl
  where
    twice : (b : Bool) (x y z : Option Pulling) → (if b then x else z) ≡ (if b then x else if b then y else z)
    twice true x y z = refl
    twice false x y z = refl

pull_in-without : (pulls : Pulls) (session other : Session) → AreDistinct pulls → pull_in (without_pull pulls session) other ≡ (if same_session other session then None else pull_in pulls other)
pull_in-without [] session other distinct = sym (one_way (same_session other session) None)
pull_in-without (e ∷ pulls) session other distinct =
    (elim (same_session session e.0) as (λ b. same_session session e.0 ≡ b → pull_in (if b then pulls else e ∷ without_pull pulls session) other ≡ (if same_session other session then None else if same_session other e.0 then Some e.1 else pull_in pulls other)) [
      | true ↦ λ here.
          (elim (same_session other e.0) as (λ b. same_session other e.0 ≡ b → pull_in pulls other ≡ (if same_session other session then None else if b then Some e.1 else pull_in pulls other)) [
            | true ↦ λ found.
                let that : same_session other session ≡ true = grind (arith, nat_tests) in
                let is : other ≡ e.0 = grind (arith, nat_tests) in
                rw that (ap (pull_in pulls) is ∙ distinct.0)
            | false ↦ λ found. let not_that : same_session other session ≡ false = grind (arith, nat_tests) in rw not_that refl
          ]) refl
      | false ↦ λ apart.
          (elim (same_session other e.0) as (λ b. same_session other e.0 ≡ b → (if b then Some e.1 else pull_in (without_pull pulls session) other) ≡ (if same_session other session then None else if b then Some e.1 else pull_in pulls other)) [
            | true ↦ λ found. let not_that : same_session other session ≡ false = grind (arith, nat_tests) in rw not_that refl
            | false ↦ λ found. pull_in-without pulls session other distinct.1
          ]) refl
    ]) refl

distinct-with : (pulls : Pulls) (session : Session) (pull : Pulling) → AreDistinct pulls → AreDistinct (with_pull pulls session pull)
distinct-with [] session pull distinct = (refl, tt)
distinct-with (e ∷ pulls) session pull distinct =
    (elim (same_session session e.0) as (λ b. same_session session e.0 ≡ b → AreDistinct (if b then (e.0, pull) ∷ pulls else e ∷ with_pull pulls session pull)) [
      | true ↦ λ here. distinct
      | false ↦ λ apart.
          let not_that : same_session e.0 session ≡ false = grind (arith, nat_tests) in
          (pull_in-with pulls session pull e.0 ∙ rw not_that distinct.0, distinct-with pulls session pull distinct.1)
    ]) refl

distinct-without : (pulls : Pulls) (session : Session) → AreDistinct pulls → AreDistinct (without_pull pulls session)
distinct-without [] session distinct = tt
distinct-without (e ∷ pulls) session distinct =
    elim (same_session session e.0) as (λ b. AreDistinct (if b then pulls else e ∷ without_pull pulls session)) [
      | true ↦ distinct.1
      | false ↦ (pull_in-without pulls session e.0 distinct.1 ∙ none (same_session e.0 session) (pull_in pulls e.0) distinct.0, distinct-without pulls session distinct.1)
    ]
  where
    none : (b : Bool) (found : Option Pulling) → found ≡ None → (if b then None else found) ≡ None
    none true found e = refl
    none false found e = e

-- ---- so is a host's list

distinct-begun : (pulls : Pulls) (session : Session) (begun : Option Pulling) → AreDistinct pulls → AreDistinct (with_begun pulls session begun)
distinct-begun pulls session None distinct = distinct
distinct-begun pulls session (Some pull) distinct = distinct-with pulls session pull distinct

distinct-taken : (pulls : Pulls) (chunk : Option ChunkMsg) → AreDistinct pulls → AreDistinct (pulls_taken pulls chunk)
distinct-taken pulls None distinct = distinct
distinct-taken pulls (Some chunk) distinct = by_pull (pull_in pulls chunk.session)
  where
    by_pull : (found : Option Pulling) → AreDistinct (chunk_pulls pulls chunk found)
    by_pull None = distinct
    by_pull (Some pull) = distinct-with pulls chunk.session (pull_after pull chunk) distinct

distinct-cleaned : (pulls : Pulls) (session : Option Session) → AreDistinct pulls → AreDistinct (pulls_cleaned pulls session)
distinct-cleaned pulls None distinct = distinct
distinct-cleaned pulls (Some session) distinct = distinct-without pulls session distinct

distinct-after : (opening : Opening) (history : History) (host : HostId) (event : Event) (outputs : List Output) (pulls : Pulls) → AreDistinct pulls → AreDistinct (pulls_after opening history host event outputs pulls)
distinct-after opening history host (Pull by session) outputs pulls distinct =
    both_ways AreDistinct (same_host by host) _ pulls (distinct-begun pulls session _ distinct) distinct
distinct-after opening history host (TakeChunk by at) outputs pulls distinct =
    both_ways AreDistinct (same_host by host) _ pulls (distinct-taken pulls (chunk_in (message_at history at)) distinct) distinct
distinct-after opening history host (Clean by at) outputs pulls distinct =
    both_ways AreDistinct (same_host by host) _ pulls (distinct-cleaned pulls (cleaned_session outputs) distinct) distinct
distinct-after opening history host (Restart actor) outputs pulls distinct =
    both_ways AreDistinct (same_actor actor (ByHost host)) [] pulls tt distinct
distinct-after opening history host event outputs pulls distinct = distinct

pub pulls_distinct : (opening : Opening) (history : History) (host : HostId) → AreDistinct (pulls_of opening history host)
pulls_distinct opening [] host = tt
pulls_distinct opening (entry ∷ history) host =
    distinct-after opening history host entry.event entry.outputs (pulls_of opening history host) (pulls_distinct opening history host)

-- ---- a pull is of the session that it is found under

-- the pull, where there is one, is of the session
abbrev pub IsOf : Session → Option Pulling → Type 0
IsOf session None = Unit {0}
IsOf session (Some pull) = pull.session ≡ session

first_is_of : (host : HostId) (session : Session) (move : Option Move) → IsOf session (pull_for host session move)
first_is_of host session None = tt
first_is_of host session (Some move) =
    both_ways (IsOf session) (streams_to host move) (Some (new_pull session move.table move.range host move.transition.leaving.host)) None refl tt

after_is_of : (session : Session) (pull : Pulling) (chunk : ChunkMsg) → pull.session ≡ session → (pull_after pull chunk).session ≡ session
after_is_of session pull chunk is =
    both_ways (λ (p : Pulling). p.session ≡ session) (is_next pull chunk) (record pull { after = last_token pull.after chunk.cells; done = not chunk.more }) pull is is

with_is_of : (session : Session) (pull : Option Pulling) (chunk : Option ChunkMsg) → IsOf session pull → IsOf session (pull_with pull chunk)
with_is_of session None chunk is = tt
with_is_of session (Some pull) None is = is
with_is_of session (Some pull) (Some chunk) is = after_is_of session pull chunk is

or_is_of : (session : Session) (pull new : Option Pulling) → IsOf session pull → IsOf session new → IsOf session (option_or pull new)
or_is_of session None new is new_is = new_is
or_is_of session (Some pull) new is new_is = is

pub pull_is_of : (opening : Opening) (history : History) (host : HostId) (session : Session) → IsOf session (pull_of opening history host session)
pull_is_of opening [] host session = tt
pull_is_of opening (entry ∷ history) host session =
    let old = pull_of opening history host session in
    let state = applied_state opening history host in
    let before = pull_is_of opening history host session in
    let new = first_is_of host session (move_of state session) in
    both_ways (IsOf session) (ends_pull host session entry.event entry.outputs) None _ tt
    (both_ways (IsOf session) (is_pull_of host session entry.event) (option_or old (first_pull state host session)) (pull_with old (taken_chunk history host entry.event))
    (or_is_of session old (first_pull state host session) before new) (with_is_of session old (taken_chunk history host entry.event) before))

-- ---- the list has the pull that the history says

same_pull_for : (host : HostId) (session : Session) (move : Option Move) → pull_for_by host session move ≡ pull_for host session move
same_pull_for host session None = refl
same_pull_for host session (Some move) = refl

pub same_first : (state : Topology) (host : HostId) (session : Session) → first_pull_by state host session ≡ first_pull state host session
same_first state host session = same_pull_for host session (move_of state session)

with_none : (pull : Option Pulling) → pull ≡ pull_with pull None
with_none None = refl
with_none (Some pull) = refl

found-with : (pulls : Pulls) (session : Session) (pull : Pulling) → pull_in (with_pull pulls session pull) session ≡ Some pull
found-with pulls session pull = pull_in-with pulls session pull session ∙ rw (same_session-refl session) refl

others-with : (pulls : Pulls) (session : Session) (pull : Pulling) (other : Session) → same_session other session ≡ false → pull_in (with_pull pulls session pull) other ≡ pull_in pulls other
others-with pulls session pull other apart = pull_in-with pulls session pull other ∙ rw apart refl

-- a pull event
begun-found : (state : Topology) (host : HostId) (pulls : Pulls) (session : Session) → pull_in (pulls_begun state host pulls session) session ≡ option_or (pull_in pulls session) (first_pull state host session)
begun-found state host pulls session = by_old (pull_in pulls session) refl
  where
    by_new : (new : Option Pulling) → pull_in pulls session ≡ None → pull_in (with_begun pulls session new) session ≡ new
    by_new None e = e
    by_new (Some pull) e = found-with pulls session pull

    by_old : (old : Option Pulling) → pull_in pulls session ≡ old → pull_in (with_begun pulls session (if is_some old then None else first_pull_by state host session)) session ≡ option_or old (first_pull state host session)
    by_old None e = by_new (first_pull_by state host session) e ∙ same_first state host session
    by_old (Some pull) e = e

begun-others : (pulls : Pulls) (session : Session) (new : Option Pulling) (other : Session) → same_session other session ≡ false → pull_in (with_begun pulls session new) other ≡ pull_in pulls other
begun-others pulls session None other apart = refl
begun-others pulls session (Some pull) other apart = others-with pulls session pull other apart

begun-in : (state : Topology) (host : HostId) (pulls : Pulls) (by session : Session) → pull_in (pulls_begun state host pulls by) session ≡ (if same_session by session then option_or (pull_in pulls session) (first_pull state host session) else pull_with (pull_in pulls session) None)
begun-in state host pulls by session =
    (elim (same_session by session) as (λ b. same_session by session ≡ b → pull_in (pulls_begun state host pulls by) session ≡ (if b then option_or (pull_in pulls session) (first_pull state host session) else pull_with (pull_in pulls session) None)) [
      | true ↦ λ e.
          ap (λ s. pull_in (pulls_begun state host pulls s) session) (same_session-same by session e) ∙ begun-found state host pulls session
      | false ↦ λ e.
          let apart : same_session session by ≡ false = grind (arith, nat_tests) in
          begun-others pulls by (begun_pull state host pulls by) session apart ∙ with_none (pull_in pulls session)
    ]) refl

-- a chunk
taken-others : (session : Session) (chunk : ChunkMsg) (pull : Option Pulling) → same_session chunk.session session ≡ false → IsOf session pull → pull ≡ pull_with pull (Some chunk)
taken-others session chunk None apart is = refl
taken-others session chunk (Some pull) apart is =
    let foreign : same_session chunk.session pull.session ≡ false = ap (same_session chunk.session) is ∙ apart in
    rw foreign refl

taken-in : (pulls : Pulls) (chunk : Option ChunkMsg) (session : Session) → ((s : Session) → IsOf s (pull_in pulls s)) → pull_in (pulls_taken pulls chunk) session ≡ pull_with (pull_in pulls session) chunk
taken-in pulls None session are = with_none (pull_in pulls session)
taken-in pulls (Some chunk) session are =
    (elim (same_session chunk.session session) as (λ b. same_session chunk.session session ≡ b → pull_in (chunk_pulls pulls chunk (pull_in pulls chunk.session)) session ≡ pull_with (pull_in pulls session) (Some chunk)) [
      | true ↦ λ e.
          subst (λ s. pull_in (chunk_pulls pulls chunk (pull_in pulls chunk.session)) s ≡ pull_with (pull_in pulls s) (Some chunk)) (same_session-same chunk.session session e)
          (of_its_own (pull_in pulls chunk.session) refl)
      | false ↦ λ e.
          let apart : same_session session chunk.session ≡ false = grind (arith, nat_tests) in
          of_another (pull_in pulls chunk.session) apart ∙ taken-others session chunk (pull_in pulls session) e (are session)
    ]) refl
  where
    of_its_own : (found : Option Pulling) → pull_in pulls chunk.session ≡ found → pull_in (chunk_pulls pulls chunk found) chunk.session ≡ pull_with (pull_in pulls chunk.session) (Some chunk)
    of_its_own None e = rw e refl
    of_its_own (Some pull) e = found-with pulls chunk.session (pull_after pull chunk) ∙ rw e refl

    of_another : (found : Option Pulling) → same_session session chunk.session ≡ false → pull_in (chunk_pulls pulls chunk found) session ≡ pull_in pulls session
    of_another None apart = refl
    of_another (Some pull) apart = others-with pulls chunk.session (pull_after pull chunk) session apart

-- a cleanup
cleaned-in : (pulls : Pulls) (cleaned : Option Session) (session : Session) → AreDistinct pulls → pull_in (pulls_cleaned pulls cleaned) session ≡ (if is_that_session session cleaned then None else pull_with (pull_in pulls session) None)
cleaned-in pulls None session distinct = with_none (pull_in pulls session)
cleaned-in pulls (Some other) session distinct =
    let turned : same_session session other ≡ same_session other session = grind (arith, nat_tests) in
    pull_in-without pulls other session distinct
    ∙ (λ i. if turned i then None else with_none (pull_in pulls session) i)

-- each event
after-in :
    (opening : Opening) (history : History) (host : HostId) (event : Event) (outputs : List Output) (pulls : Pulls) (session : Session) →
    AreDistinct pulls → ((s : Session) → IsOf s (pull_in pulls s)) →
    pull_in (pulls_after opening history host event outputs pulls) session
    ≡ (if ends_pull host session event outputs then None
    else if is_pull_of host session event then option_or (pull_in pulls session) (first_pull (applied_state opening history host) host session)
    else pull_with (pull_in pulls session) (taken_chunk history host event))
after-in opening history host (Pull by other) outputs pulls session distinct are =
    let state = applied_state opening history host in
    elim (same_host by host) as (λ b. pull_in (if b then pulls_begun state host pulls other else pulls) session ≡ (if b && same_session other session then option_or (pull_in pulls session) (first_pull state host session) else pull_with (pull_in pulls session) None)) [
      | true ↦ begun-in state host pulls other session
      | false ↦ with_none (pull_in pulls session)
    ]
after-in opening history host (TakeChunk by at) outputs pulls session distinct are =
    let chunk = chunk_in (message_at history at) in
    elim (same_host by host) as (λ b. pull_in (if b then pulls_taken pulls chunk else pulls) session ≡ pull_with (pull_in pulls session) (if b then chunk else None)) [
      | true ↦ taken-in pulls chunk session are
      | false ↦ with_none (pull_in pulls session)
    ]
after-in opening history host (Clean by at) outputs pulls session distinct are =
    let cleaned = cleaned_session outputs in
    elim (same_host by host) as (λ b. pull_in (if b then pulls_cleaned pulls cleaned else pulls) session ≡ (if b && is_that_session session cleaned then None else pull_with (pull_in pulls session) None)) [
      | true ↦ cleaned-in pulls cleaned session distinct
      | false ↦ with_none (pull_in pulls session)
    ]
after-in opening history host (Restart actor) outputs pulls session distinct are =
    elim (same_actor actor (ByHost host)) as (λ b. pull_in (if b then [] else pulls) session ≡ (if b then None else pull_with (pull_in pulls session) None)) [
      | true ↦ refl
      | false ↦ with_none (pull_in pulls session)
    ]
after-in opening history host event outputs pulls session distinct are = with_none (pull_in pulls session)

pub pulls_agree : (opening : Opening) (history : History) (host : HostId) (session : Session) → pull_in (pulls_of opening history host) session ≡ pull_of opening history host session
pulls_agree opening [] host session = refl
pulls_agree opening (entry ∷ history) host session =
    let pulls = pulls_of opening history host in
    let first = first_pull (applied_state opening history host) host session in
    let are = λ (s : Session). subst (IsOf s) (sym (pulls_agree opening history host s)) (pull_is_of opening history host s) in
    after-in opening history host entry.event entry.outputs pulls session (pulls_distinct opening history host) are
    ∙ ap (λ old. if ends_pull host session entry.event entry.outputs then None else if is_pull_of host session entry.event then option_or old first else pull_with old (taken_chunk history host entry.event)) (pulls_agree opening history host session)

same_done : (pull : Option Pulling) → is_pull_done pull ≡ is_done pull
same_done None = refl
same_done (Some pull) = refl

pub done_agrees : (opening : Opening) (history : History) (host : HostId) (session : Session) → is_pull_done (pull_in (pulls_of opening history host) session) ≡ has_done opening history host session
done_agrees opening history host session =
    ap is_pull_done (pulls_agree opening history host session) ∙ same_done (pull_of opening history host session)

pub host_pulls : HostPulls
host_pulls opening history host session = record { same = pulls_agree opening history host session; done = done_agrees opening history host session }
