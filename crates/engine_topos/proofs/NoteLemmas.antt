-- What a coordinator keeps of its own entries stays what the history says.
use Rattle.std.proofs.Common.{ap, arith, refl, subst, sym, ◌∙◌}
use Rattle.std.specs.Prelude.{Bool, List, None, Some, [], false, if◌then◌else◌, true, ℕ, ◌&&◌, ◌++◌, ◌+◌, ◌∷◌, ◌≡◌}
use Rattle.barrier_core.specs.Facts.{same_what}
use Rattle.barrier_core.specs.declared.data.What.{What}
use Rattle.barrier_core.specs.declared.data.What.TheVariants.{Clean as CleanOf, Done, Drain, Fence as FenceAt, Ready}
use Rattle.base_ids.specs.Names.{same_host}
use Rattle.base_ids.specs.declared.ids.Actor.TheVariants.{Topo as ByTopo}
use Rattle.base_ids.specs.declared.ids.HostId.{HostId}
use Rattle.base_ids.specs.declared.ids.MsgRef.{MsgRef}
use Rattle.base_ids.specs.declared.ids.Version.{Version}
use Rattle.base_ids.specs.declared.rules.Appended.{Appended}
use Rattle.topo_state.specs.declared.command.Command.{Command}
use Rattle.topo_state.specs.declared.command.Rule.{Rule}
use Rattle.cluster_history.specs.History.{History}
use Rattle.cluster_history.specs.declared.data.Event.TheVariants.{Ask, Hear, Look}
use Rattle.cluster_history.specs.declared.data.Opening.{Opening}
use Rattle.cluster_history.specs.declared.data.Output.{Output}
use Rattle.base_ids.proofs.NameLemmas.{same_host-refl}
use Rattle.plan_facts.specs.Own.{ask_count, begun_by, has_acted, has_asked, has_looked, last_begun, newer_number}
use Rattle.plan_facts.proofs.OtherLemmas.{ask_count-other, has_acted-other, has_asked-other, has_looked-other, last_begun-other}
use Rattle.engine_desk.specs.Chairs.{IsLater, propose_entry}
use Rattle.engine_desk.proofs.LaterLemmas.{since}
use Rattle.engine_topos.specs.Notes.{IsNoted, NotesView, ask_noted, asked_in, is_asked, look_noted, propose_noted, resets}
use Rattle.engine_topos.specs.declared.notes.Asked.{Asked}

pub noted_since : (opening : Opening) (topo : HostId) (old new : History) (notes : NotesView) → IsLater opening (ByTopo topo) old new → IsNoted old topo notes → IsNoted new topo notes
noted_since opening topo old new notes later n =
    record {
      looked_is = n.looked_is ∙ sym (since opening (ByTopo topo) (λ h. has_looked h topo) (λ history entry legal other. has_looked-other history entry topo other) old new later);
      acted_is = n.acted_is ∙ sym (since opening (ByTopo topo) (λ h. has_acted h topo) (λ history entry legal other. has_acted-other history entry topo other) old new later);
      begun_is = n.begun_is ∙ sym (since opening (ByTopo topo) (λ h. last_begun h topo) (λ history entry legal other. last_begun-other history entry topo other) old new later);
      drained_is = λ version is. since opening (ByTopo topo) (λ h. has_asked h topo (Drain version)) (λ history entry legal other. has_asked-other history entry topo (Drain version) other) old new later ∙ n.drained_is version is;
      asks_are = λ host what. n.asks_are host what ∙ sym (since opening (ByTopo topo) (λ h. ask_count h topo host what) (λ history entry legal other. ask_count-other history entry topo host what other) old new later);
    }

-- ---- counts

pub asked-append : (host : HostId) (what : What) (first second : List Asked) → asked_in host what (first ++ second) ≡ asked_in host what first + asked_in host what second
asked-append host what [] second = omega arith
asked-append host what (other ∷ first) second = let e = asked-append host what first second in omega (arith, e)

pub asked_on : (host : HostId) (what : What) (asked : Asked) (asks : List Asked) (b : Bool) → b ≡ is_asked host what asked → asked_in host what (asks ++ asked ∷ []) ≡ asked_in host what asks + (if b then 1 else 0)
asked_on host what asked asks b is =
    let e = asked-append host what asks (asked ∷ []) in
    let one : asked_in host what (asked ∷ []) ≡ (if b then 1 else 0) = omega arith ∙ ap (λ t. if t then 1 else 0) (sym is) in
    e ∙ ap (λ n. asked_in host what asks + n) one

if_more : (b : Bool) (n : ℕ) → n + (if b then 1 else 0) ≡ (if b then n + 1 else n)
if_more true n = refl
if_more false n = omega arith

still : (b : Bool) (x : Bool) → x ≡ true → (if b then true else x) ≡ true
still true x h = refl
still false x h = h

-- ---- own entries

drained_ask : (history : History) (topo host : HostId) (what : What) (outputs : List Output) (notes : NotesView) (version : Version) → IsNoted history topo notes → (ask_noted host what notes).drained ≡ Some version → has_asked (record { event = Ask topo host what; outputs = outputs } ∷ history) topo (Drain version) ≡ true
drained_ask history topo host (Drain asked) outputs notes version n is =
    let same : asked ≡ version = cc is in
    rw (same_host-refl topo) (subst (λ (v : Version). (if same_what (Drain v) (Drain version) then true else has_asked history topo (Drain version)) ≡ true) (sym same) (rw (same_host-refl (record { 0 = version.0 })) refl))
drained_ask history topo host (FenceAt asked) outputs notes version n is = still (same_host topo topo && false) (has_asked history topo (Drain version)) (n.drained_is version is)
drained_ask history topo host (Done asked) outputs notes version n is = still (same_host topo topo && false) (has_asked history topo (Drain version)) (n.drained_is version is)
drained_ask history topo host (CleanOf asked) outputs notes version n is = still (same_host topo topo && false) (has_asked history topo (Drain version)) (n.drained_is version is)
drained_ask history topo host (Ready asked) outputs notes version n is = still (same_host topo topo && false) (has_asked history topo (Drain version)) (n.drained_is version is)

pub noted_ask : (history : History) (topo host : HostId) (what : What) (outputs : List Output) (notes : NotesView) → IsNoted history topo notes → IsNoted (record { event = Ask topo host what; outputs = outputs } ∷ history) topo (ask_noted host what notes)
noted_ask history topo host what outputs notes n =
    record {
      looked_is = n.looked_is;
      acted_is = ap (λ b. if b then true else has_acted history topo) (sym (same_host-refl topo));
      begun_is = n.begun_is;
      drained_is = λ version is. drained_ask history topo host what outputs notes version n is;
      asks_are = λ to asked.
          asked_on to asked (record { to = host; what = what }) notes.asks (same_host host to && same_what what asked) refl
          ∙ ap (λ k. k + (if same_host host to && same_what what asked then 1 else 0)) (n.asks_are to asked)
          ∙ if_more (same_host host to && same_what what asked) (ask_count history topo to asked)
          ∙ ap (λ b. if b && (same_host host to && same_what what asked) then ask_count history topo to asked + 1 else ask_count history topo to asked) (sym (same_host-refl topo));
    }

pub noted_hear : (history : History) (topo : HostId) (at : MsgRef) (outputs : List Output) (notes : NotesView) → IsNoted history topo notes → IsNoted (record { event = Hear topo at; outputs = outputs } ∷ history) topo notes
noted_hear history topo at outputs notes n =
    record { looked_is = n.looked_is; acted_is = n.acted_is; begun_is = n.begun_is; drained_is = n.drained_is; asks_are = n.asks_are }

pub noted_look : (history : History) (topo : HostId) (outputs : List Output) (notes : NotesView) → IsNoted history topo notes → IsNoted (record { event = Look topo; outputs = outputs } ∷ history) topo (look_noted notes)
noted_look history topo outputs notes n =
    record {
      looked_is = ap (λ b. if b then true else has_looked history topo) (sym (same_host-refl topo));
      acted_is = ap (λ b. if b then false else has_acted history topo) (sym (same_host-refl topo));
      begun_is = n.begun_is;
      drained_is = n.drained_is;
      asks_are = n.asks_are;
    }

reset_asks : (host : HostId) (what : What) (asks : List Asked) (b : Bool) (n : ℕ) → asked_in host what asks ≡ n → asked_in host what (if b then [] else asks) ≡ (if b then 0 else n)
reset_asks host what asks true n h = refl
reset_asks host what asks false n h = h

pub noted_proposal : (history : History) (topo : HostId) (command : Command) (outcome : Appended Rule) (notes : NotesView) → IsNoted history topo notes → IsNoted (propose_entry topo command outcome ∷ history) topo (propose_noted command outcome notes)
noted_proposal history topo command outcome notes n =
    record {
      looked_is = ap (λ b. if b then false else has_looked history topo) (sym (same_host-refl topo));
      acted_is = ap (λ b. if b then true else has_acted history topo) (sym (same_host-refl topo));
      begun_is =
          ap (newer_number (begun_by command (propose_entry topo command outcome).outputs)) n.begun_is
          ∙ ap (λ b. newer_number (if b then begun_by command (propose_entry topo command outcome).outputs else None) (last_begun history topo)) (sym (same_host-refl topo));
      drained_is = n.drained_is;
      asks_are = λ host what.
          reset_asks host what notes.asks (resets command outcome) (ask_count history topo host what) (n.asks_are host what)
          ∙ ap (λ b. if b && resets command outcome then 0 else ask_count history topo host what) (sym (same_host-refl topo));
    }
