-- A worker's office, and what of its actors' messages it has sent.
use Rattle.std.specs.Prelude.{List, None, Option, Some, [], false, filter, length, slice_index_or, ℕ, ◌<◌, ◌∷◌, ◌≡◌, ◌≤◌}
use Rattle.base_ids.specs.Names.{same_actor}
use Rattle.base_ids.specs.declared.ids.Actor.{Actor}
use Rattle.base_ids.specs.declared.ids.MsgRef.{MsgRef}
use Rattle.plan_facts.specs.Posts.{Post, is_from}
use Rattle.run_plan.specs.declared.plan.Storm.{Storm}
use Rattle.rand_pcg.specs.Lcg.{Lcg}
use Rattle.engine_desk.specs.Chairs.{Known}
use Rattle.engine_desk.specs.Offices.{BoxView}
use Rattle.engine_desk.specs.Workers.{IsSentBy}
use Rattle.engine_desk.specs.declared.office.Letter.{Letter}

-- the worker's number, its storm, how many lanes a host has, its draws and outboxes, and the newest message of its
-- actors
pub record OfficeView : Type 0 where
  pub worker : ℕ
  pub storm : Option Storm
  pub lanes : ℕ
  pub draws : Lcg
  pub boxes : List BoxView
  pub last : Option MsgRef

-- the number of the entry in which it stands
abbrev pub last_number : Option MsgRef → ℕ
last_number None = 0
last_number (Some at) = at.event

-- the newest message once an entry of this number has these
abbrev pub newest : ℕ → List Letter → Option MsgRef → Option MsgRef
newest number [] last = last
newest number (letter ∷ letters) last = Some (record { event = number; out = letter.out })

-- the actor sees as far as the newest message
abbrev pub HasCaughtUp : OfficeView → Known → Type 0
HasCaughtUp office known = last_number office.last ≤ length known.seen

-- what was put into the boxes and what waits is what is put for these messages, which stand in the order of their
-- places, and those of the actor are the ones of its entries
abbrev pub HasSentAll : OfficeView → List Post → Known → Type 0
HasSentAll office posts known =
    IsSentBy office.storm office.worker office.draws office.boxes (last_number office.last) posts known

abbrev pub AreOthersSame : Actor → List Post → List Post → Type 0
AreOthersSame actor old new =
    (other : Actor) → same_actor actor other ≡ false → filter (is_from other) new ≡ filter (is_from other) old

-- for whatever messages it had sent all, it has sent all as the actor goes on, and the others' are the same
pub record SendsOn (known after : Known) (old new : OfficeView) : Type 0 where
  pub worker_is : new.worker ≡ old.worker
  pub storm_is : new.storm ≡ old.storm
  pub lanes_is : new.lanes ≡ old.lanes
  pub sends :
      (posts : List Post) → HasSentAll old posts known →
      (later : List Post) × HasSentAll new later after × AreOthersSame known.actor posts later

-- ---- room

-- more may wait, and nothing else has changed
pub record IsGrown (old new : BoxView) : Type 0 where
  pub to_is : new.to ≡ old.to
  pub put_is : new.put ≡ old.put
  pub full_is : new.full ≡ old.full
  pub out_is : new.out ≡ old.out
  pub size_is : old.size ≤ new.size

pub record AreGrown (old new : List BoxView) : Type 0 where
  pub count : length new ≡ length old
  pub each : (k : ℕ) (d : BoxView) → k < length old → IsGrown (slice_index_or old k d) (slice_index_or new k d)
