-- What an event adds to what clients see.
use Rattle.std.proofs.Common.{arith, inl, inr, refl}
use Rattle.std.specs.Prelude.{List, None, Option, Some, [], length, slice_get, suc, true, zero, ℕ, ◌++◌, ◌+◌, ◌∷◌, ◌≡◌, ◌⊎◌}
use Rattle.base_ids.specs.declared.ids.LaneId.{LaneId}
use Rattle.base_ids.specs.declared.ids.OpId.{OpId}
use Rattle.base_ids.specs.declared.ids.Version.{Version}
use Rattle.cluster_history.specs.History.{History}
use Rattle.cluster_history.specs.Legal.{outputs_of}
use Rattle.cluster_history.specs.Requests.{is_event_of, next_op}
use Rattle.cluster_history.specs.declared.data.Event.{Event}
use Rattle.cluster_history.specs.declared.data.Event.TheVariants.{Begin, Take, Timeout}
use Rattle.cluster_history.specs.declared.data.Opening.{Opening}
use Rattle.cluster_history.specs.declared.data.Operation.{Operation}
use Rattle.cluster_history.specs.declared.data.Operation.TheVariants.{Read as ReadOf, Write as WriteOf}
use Rattle.cluster_history.specs.declared.data.Output.{Output}
use Rattle.cluster_history.specs.declared.data.Output.TheVariants.{Reply as Replied}
use Rattle.base_ids.proofs.NameLemmas.{same_lane-refl}
use Rattle.quorum_ops.specs.declared.data.Reply.{Reply}
use Rattle.quorum_ops.specs.declared.data.Reply.TheVariants.{NoTable, NotMember, Ok, Read, Stale, Timeout as TimedOut}
use Rattle.register_model.specs.Register.{begun_by, ended_by}
use Rattle.register_model.specs.declared.data.ClientEvent.{ClientEvent}
use Rattle.register_model.specs.declared.data.Request.{Request as Named}
use Rattle.stage_graph.specs.declared.kind.Kind.{Kind}
use Rattle.tablet_map.specs.declared.tablet.Tablet.{Tablet}
use Rattle.overlap_law.specs.ClientEvents.{asked_at, begin_event, named_request, reply_event, reply_events, seen_of}

-- ---- places in a list that goes on

pub record IsBehind {X : Type 0} (xs ys : List X) (place : ℕ) (x : X) : Type 0 where
  pub offset : ℕ
  pub place_is : place ≡ length xs + offset
  pub stands : slice_get ys offset ≡ Some x

pub stands_split : {X : Type 0} (xs ys : List X) (place : ℕ) (x : X) → slice_get (xs ++ ys) place ≡ Some x → (slice_get xs place ≡ Some x) ⊎ IsBehind xs ys place x
stands_split [] ys place x e = inr (record { offset = place; place_is = omega arith; stands = e })
stands_split (a ∷ xs) ys zero x e = inl e
stands_split (a ∷ xs) ys (suc place) x e =
    elim (stands_split xs ys place x e) [
      | inl old ↦ inl old
      | inr behind ↦ inr (record { offset = behind.offset; place_is = omega (arith, behind.place_is); stands = behind.stands })
    ]

pub stands_at : {X : Type 0} (xs ys : List X) (x : X) → slice_get (xs ++ x ∷ ys) (length xs) ≡ Some x
stands_at [] ys x = refl
stands_at (a ∷ xs) ys x = stands_at xs ys x

-- ---- replies

-- the event is what clients see of a reply among the outputs
pub record IsReply (lane : LaneId) (outputs : List Output) (seen : ClientEvent) : Type 0 where
  pub op : OpId
  pub version : Version
  pub kind : Kind
  pub reply : Reply
  pub place : ℕ
  pub stands : slice_get outputs place ≡ Some (Replied op version kind reply)
  pub is : seen ≡ reply_event (named_request lane op) reply

reply_behind : (lane : LaneId) (output : Output) (outputs : List Output) (seen : ClientEvent) → IsReply lane outputs seen → IsReply lane (output ∷ outputs) seen
reply_behind lane output outputs seen rest =
    record { op = rest.op; version = rest.version; kind = rest.kind; reply = rest.reply; place = suc rest.place; stands = rest.stands; is = rest.is }

pub reply_seen : (lane : LaneId) (outputs : List Output) (offset : ℕ) (seen : ClientEvent) → slice_get (reply_events lane outputs) offset ≡ Some seen → IsReply lane outputs seen
reply_seen lane [] offset seen e = cc
reply_seen lane (Replied op version kind reply ∷ outputs) zero seen e =
    record { op = op; version = version; kind = kind; reply = reply; place = 0; stands = refl; is = cc }
reply_seen lane (Replied op version kind reply ∷ outputs) (suc offset) seen e =
    reply_behind lane (Replied op version kind reply) outputs seen (reply_seen lane outputs offset seen e)
reply_seen lane (output ∷ outputs) offset seen e = reply_behind lane output outputs seen (reply_seen lane outputs offset seen e)

-- no reply begins a request
pub reply_begins : (request : Named) (reply : Reply) → begun_by (reply_event request reply) ≡ None
reply_begins request Ok = refl
reply_begins request (Read cell) = refl
reply_begins request (Stale refused fence) = refl
reply_begins request (TimedOut answered required) = refl
reply_begins request NoTable = refl
reply_begins request NotMember = refl

-- each reply ends its request
pub reply_ends : (request : Named) (reply : Reply) → ended_by (reply_event request reply) ≡ Some request
reply_ends request Ok = refl
reply_ends request (Read cell) = refl
reply_ends request (Stale refused fence) = refl
reply_ends request (TimedOut answered required) = refl
reply_ends request NoTable = refl
reply_ends request NotMember = refl

pub begin_begins : (request : Named) (operation : Operation) (asked : Option Tablet) → begun_by (begin_event request operation asked) ≡ Some request
begin_begins request (WriteOf table token cell level) asked = refl
begin_begins request (ReadOf table token level) asked = refl

pub begin_ends : (request : Named) (operation : Operation) (asked : Option Tablet) → ended_by (begin_event request operation asked) ≡ None
begin_ends request (WriteOf table token cell level) asked = refl
begin_ends request (ReadOf table token level) asked = refl

-- ---- what clients see of one event

-- the event begins a request
pub record IsBegun (history : History) (event : Event) (offset : ℕ) (seen : ClientEvent) : Type 0 where
  pub lane : LaneId
  pub operation : Operation
  pub version : Version
  pub asked : Option Tablet
  pub event_is : event ≡ Begin lane operation version
  pub first : offset ≡ 0
  pub is : seen ≡ begin_event (named_request lane (next_op history lane)) operation asked

-- or the client of a request of the event's lane is told a reply
pub record IsTold (opening : Opening) (history : History) (event : Event) (seen : ClientEvent) : Type 0 where
  pub lane : LaneId
  pub own : is_event_of lane event ≡ true
  pub op : OpId
  pub version : Version
  pub kind : Kind
  pub reply : Reply
  pub place : ℕ
  pub stands : slice_get (outputs_of opening history event) place ≡ Some (Replied op version kind reply)
  pub is : seen ≡ reply_event (named_request lane op) reply

told : (opening : Opening) (history : History) (event : Event) (lane : LaneId) (seen : ClientEvent) → is_event_of lane event ≡ true → IsReply lane (outputs_of opening history event) seen → IsTold opening history event seen
told opening history event lane seen own reply =
    record { lane = lane; own = own; op = reply.op; version = reply.version; kind = reply.kind; reply = reply.reply; place = reply.place; stands = reply.stands; is = reply.is }

pub seen_cases : (opening : Opening) (history : History) (event : Event) (offset : ℕ) (seen : ClientEvent) → slice_get (seen_of opening history event (outputs_of opening history event)) offset ≡ Some seen → IsBegun history event offset seen ⊎ IsTold opening history event seen
seen_cases opening history (Begin lane operation version) zero seen e =
    inl (record { lane = lane; operation = operation; version = version; asked = asked_at opening history lane operation version; event_is = refl; first = refl; is = cc })
seen_cases opening history (Begin lane operation version) (suc offset) seen e =
    inr (told opening history (Begin lane operation version) lane seen (same_lane-refl lane) (reply_seen lane (outputs_of opening history (Begin lane operation version)) offset seen e))
seen_cases opening history (Take lane at) offset seen e =
    inr (told opening history (Take lane at) lane seen (same_lane-refl lane) (reply_seen lane (outputs_of opening history (Take lane at)) offset seen e))
seen_cases opening history (Timeout lane op) offset seen e =
    inr (told opening history (Timeout lane op) lane seen (same_lane-refl lane) (reply_seen lane (outputs_of opening history (Timeout lane op)) offset seen e))
seen_cases opening history event offset seen e = cc e
