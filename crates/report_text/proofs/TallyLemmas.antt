-- The tally and the lines of the entries so far, and one entry more.
use Rattle.std.proofs.Common.{◌≡◌, ℕ, suc, ◌+◌, ◌<◌, ◌≤◌, cond, Option, None, Some, List, [], ◌∷◌, ◌++◌, length, reverse, take, get_or, refl, sym, ap, ◌∙◌, arith, length-append}
use Rattle.std.proofs.lemmas.List.{reverse-append, take_more}
use Rattle.std.proofs.lemmas.List.Sums.{sum_by-cons}
use Rattle.std.specs.List.{count_by, flat_map}
use Rattle.std.specs.Prelude.{if◌then◌else◌, option_to_list}
use Rattle.base_ids.specs.declared.ids.LaneId.{LaneId}
use Rattle.base_ids.specs.declared.ids.Version.{Version}
use Rattle.cluster_history.specs.History.{History}
use Rattle.cluster_history.specs.Openings.{opening_state}
use Rattle.cluster_history.specs.Topology.{accepted_command, log_of, with_command}
use Rattle.cluster_history.specs.declared.data.Entry.{Entry}
use Rattle.cluster_history.specs.declared.data.Event.{Event}
use Rattle.cluster_history.specs.declared.data.Event.TheVariants.{Answer, Apply, Ask, Begin, Clean, Hear, Look, Propose, Pull, Quiet, Restart, Serve, Take, TakeChunk, Timeout}
use Rattle.cluster_history.specs.declared.data.Opening.{Opening}
use Rattle.cluster_history.specs.declared.data.Output.{Output}
use Rattle.cluster_history.specs.declared.data.Output.TheVariants.{Proposed, Pulled, Reply as Replied, Sent}
use Rattle.group0_log.specs.Log.{state_of}
use Rattle.topo_state.proofs.VersionLemmas.{raised, same_fence, not_raised}
use Rattle.topo_state.specs.After.{after, fence_set}
use Rattle.topo_state.specs.State.{Topology}
use Rattle.topo_state.specs.declared.command.Command.{Command}
use Rattle.topo_state.specs.declared.command.Command.TheVariants.{Advance, CreateTable, FinalizeResize, Join, Leave, Resize, SetFence, Start}
use Rattle.report_text.specs.Report.{entry_lines, entry_replies, history_lines, is_of_lane, is_reply, lane_line, log_version, output_line}
use Rattle.report_text.specs.Tally.{IsTally, tally_after, tally_by}
use Rattle.report_text.specs.declared.report.Tally.{Tally}

-- what a list of commands tells
record TellsLog (first : Topology) (commands : List Command) (tally : Tally) : Type 0 where
  pub log : tally.log ≡ length commands
  pub version : tally.version ≡ (state_of first commands).version
  pub fence : tally.fence ≡ (state_of first commands).fence

new_fence : (state : Topology) (command : Command) (index : ℕ) (fence : Version) → fence_set command ≡ Some fence
    → (after state command index).fence ≡ fence
new_fence state (CreateTable x log2 replicas) index fence is = cc is
new_fence state (Start x tablet leaving pending) index fence is = cc is
new_fence state (Advance session to) index fence is = cc is
new_fence state (SetFence f) index fence is = cc is
new_fence state (Join host) index fence is = cc is
new_fence state (Leave host) index fence is = cc is
new_fence state (Resize x kind) index fence is = cc is
new_fence state (FinalizeResize x seq) index fence is = cc is

one_more : (log : ℕ) (n : ℕ) → log ≡ n → log + 1 ≡ suc n
one_more log n is = omega arith

tells-more : (first : Topology) (log : List Command) (tally : Tally) (command : Command) → TellsLog first log tally
    → TellsLog first (command ∷ log) (tally_by tally (fence_set command))
tells-more first log tally command told =
    elim (fence_set command) as (λ (fence : Option Version). fence_set command ≡ fence → TellsLog first (command ∷ log) (tally_by tally fence)) [
      | None ↦ λ is. record {
        log = one_more tally.log (length log) told.log;
        version = ap (λ (v : Version). record { 0 = v.0 + 1 }) told.version ∙ ap (λ (n : ℕ). record { 0 = n }) (sym (raised (state_of first log) command (length log + 1) is));
        fence = told.fence ∙ sym (same_fence (state_of first log) command (length log + 1) is);
      }
      | Some fence ↦ λ is. record {
        log = one_more tally.log (length log) told.log;
        version = told.version ∙ sym (not_raised (state_of first log) command (length log + 1) fence is);
        fence = sym (new_fence (state_of first log) command (length log + 1) fence is);
      }
    ] refl

tells-after : (first : Topology) (log : List Command) (tally : Tally) (command : Option Command) → TellsLog first log tally
    → TellsLog first (with_command command log) (tally_after tally command)
tells-after first log tally None told = told
tells-after first log tally (Some command) told = tells-more first log tally command told

-- what the loop keeps, after so many entries
pub record Kept (opening : Opening) (history : History) (told : List (List ℕ)) (now : Tally) (count : ℕ) : Type 0 where
  pub lines : told ≡ history_lines opening history
  pub tally : IsTally opening history now
  pub replies : now.replies ≤ length told
  pub log : now.log ≤ count
  pub version : now.version.0 ≤ count + 1

pub kept-none : (opening : Opening) → Kept opening [] [] (record { replies = 0; log = 0; version = record { 0 = 1 }; fence = record { 0 = 1 } }) 0
kept-none opening = record {
  lines = refl;
  tally = record { replies = refl; log = refl; version = refl; fence = refl };
  replies = omega arith;
  log = omega arith;
  version = omega arith;
}

log-rises : (tally : Tally) (command : Option Command) → (tally_after tally command).log ≤ tally.log + 1
log-rises tally None = omega arith
log-rises tally (Some command) =
    elim (fence_set command) as (λ (fence : Option Version). (tally_by tally fence).log ≤ tally.log + 1) [
      | None ↦ omega arith
      | Some fence ↦ omega arith
    ]

version-rises : (tally : Tally) (command : Option Command) → (tally_after tally command).version.0 ≤ tally.version.0 + 1
version-rises tally None = omega arith
version-rises tally (Some command) =
    elim (fence_set command) as (λ (fence : Option Version). (tally_by tally fence).version.0 ≤ tally.version.0 + 1) [
      | None ↦ omega arith
      | Some fence ↦ omega arith
    ]

replies-same : (tally : Tally) (command : Option Command) → (tally_after tally command).replies ≡ tally.replies
replies-same tally None = refl
replies-same tally (Some command) =
    elim (fence_set command) as (λ (fence : Option Version). (tally_by tally fence).replies ≡ tally.replies) [
      | None ↦ refl
      | Some fence ↦ refl
    ]

count-step : (output : Output) (outputs : List Output)
    → count_by is_reply (output ∷ outputs) ≡ cond (is_reply output) 1 0 + count_by is_reply outputs
count-step output outputs = sum_by-cons (λ (o : Output). cond (is_reply o) 1 0) output outputs

-- a lane's entry has a line for each reply
lane-replies : (lane : LaneId) (outputs : List Output)
    → count_by is_reply outputs ≤ length (flat_map (λ output. option_to_list (lane_line lane output)) outputs)
lane-replies lane [] = omega arith
lane-replies lane (Replied op version kind reply ∷ outputs) =
    omega (arith, lane-replies lane outputs, count-step (Replied op version kind reply) outputs)
lane-replies lane (Sent message ∷ outputs) = omega (arith, lane-replies lane outputs, count-step (Sent message) outputs)
lane-replies lane (Pulled session ∷ outputs) =
    omega (arith, lane-replies lane outputs, count-step (Pulled session) outputs)
lane-replies lane (Proposed outcome ∷ outputs) =
    omega (arith, lane-replies lane outputs, count-step (Proposed outcome) outputs)

event-replies : (version : Version) (event : Event) (outputs : List Output)
    → (if is_of_lane event then count_by is_reply outputs else 0)
    ≤ length (flat_map (λ output. option_to_list (output_line version event output)) outputs)
event-replies version (Begin lane operation at) outputs = lane-replies lane outputs
event-replies version (Take lane at) outputs = lane-replies lane outputs
event-replies version (Timeout lane op) outputs = lane-replies lane outputs
event-replies version (Apply host) outputs = omega arith
event-replies version (Quiet host at) outputs = omega arith
event-replies version (Serve host at) outputs = omega arith
event-replies version (Answer host at) outputs = omega arith
event-replies version (Clean host at) outputs = omega arith
event-replies version (Pull host session) outputs = omega arith
event-replies version (TakeChunk host at) outputs = omega arith
event-replies version (Look topo) outputs = omega arith
event-replies version (Ask topo host what) outputs = omega arith
event-replies version (Hear topo at) outputs = omega arith
event-replies version (Propose topo command) outputs = omega arith
event-replies version (Restart actor) outputs = omega arith

-- the replies so far and those of one entry more are no more than the lines
pub replies-within : (opening : Opening) (history : History) (lines after : List (List ℕ)) (tally : Tally) (count : ℕ) (entry : Entry)
    → Kept opening history lines tally count
    → after ≡ lines ++ entry_lines (tally_after tally (accepted_command entry.event entry.outputs)).version entry
    → (tally_after tally (accepted_command entry.event entry.outputs)).replies + entry_replies entry ≤ length after
replies-within opening history lines after tally count entry kept longer =
    let next = tally_after tally (accepted_command entry.event entry.outputs) in
    let new : List (List ℕ) = entry_lines next.version entry in
    let sum : length after ≡ length lines + length new = ap (λ (l : List (List ℕ)). length l) longer ∙ length-append lines new in
    let same : next.replies ≡ tally.replies = replies-same tally (accepted_command entry.event entry.outputs) in
    let few : entry_replies entry ≤ length new = event-replies next.version entry.event entry.outputs in
    let before : tally.replies ≤ length lines = kept.replies in
    omega arith

-- one entry more
pub kept-more : (opening : Opening) (history : History) (lines after : List (List ℕ)) (tally : Tally) (count : ℕ) (entry : Entry)
    → Kept opening history lines tally count
    → after ≡ lines ++ entry_lines (tally_after tally (accepted_command entry.event entry.outputs)).version entry
    → Kept opening (entry ∷ history) after
    (record (tally_after tally (accepted_command entry.event entry.outputs)) { replies = (tally_after tally (accepted_command entry.event entry.outputs)).replies + entry_replies entry }) (count + 1)
kept-more opening history lines after tally count entry kept longer =
    let command = accepted_command entry.event entry.outputs in
    let next = tally_after tally command in
    let told : TellsLog (opening_state opening) (log_of (entry ∷ history)) next =
    tells-after (opening_state opening) (log_of history) tally command
    (record { log = kept.tally.log; version = kept.tally.version; fence = kept.tally.fence }) in
    let new : List (List ℕ) = entry_lines (log_version opening (entry ∷ history)) entry in
    let all : after ≡ lines ++ new = longer ∙ ap (λ (v : Version). lines ++ entry_lines v entry) told.version in
    let same : next.replies ≡ tally.replies = replies-same tally command in
    let log : next.log ≤ tally.log + 1 = log-rises tally command in
    let version : next.version.0 ≤ tally.version.0 + 1 = version-rises tally command in
    let log_kept : tally.log ≤ count = kept.log in
    let version_kept : tally.version.0 ≤ count + 1 = kept.version in
    record {
      lines = all ∙ ap (λ (l : List (List ℕ)). l ++ new) kept.lines;
      tally = record {
        replies = ap (λ (n : ℕ). n + entry_replies entry) (same ∙ kept.tally.replies);
        log = told.log;
        version = told.version;
        fence = told.fence;
      };
      replies = replies-within opening history lines after tally count entry kept longer;
      log = omega arith;
      version = omega arith;
    }

-- the history of the first so many entries and one more
pub history-more : (entries : List Entry) (at : ℕ) (entry : Entry) → at < length entries → entry ≡ get_or entries at entry
    → reverse (take (at + 1) entries) ≡ entry ∷ reverse (take at entries)
history-more entries at entry within is =
    ap reverse (take_more entries at entry within ∙ ap (λ (e : Entry). take at entries ++ e ∷ []) (sym is))
    ∙ reverse-append (take at entries) (entry ∷ [])
