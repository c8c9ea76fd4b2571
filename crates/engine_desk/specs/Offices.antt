-- A worker's outboxes, one for each mailbox, and the storm's draws.
use Rattle.std.specs.Prelude.{Bool, List, None, Option, Some, [], false, if◌then◌else◌, length, slice_index_or, true, ℕ, ◌*◌, ◌++◌, ◌+◌, ◌-◌, ◌<◌, ◌∷◌, ◌≡◌, ◌≤◌}
use Rattle.base_ids.specs.declared.ids.Actor.{Actor}
use Rattle.base_ids.specs.declared.ids.Actor.TheVariants.{Host as ByHost, Lane as ByLane, Topo as ByTopo}
use Rattle.base_ids.specs.declared.ids.MsgRef.{MsgRef}
use Rattle.cluster_history.specs.Messages.{addressee}
use Rattle.cluster_history.specs.declared.data.Output.{Output}
use Rattle.cluster_history.specs.declared.data.Output.TheVariants.{Sent}
use Rattle.plan_facts.specs.Posts.{Post, draws_of, put_for, sent_to}
use Rattle.run_plan.specs.declared.plan.Storm.{Storm}
use Rattle.rand_pcg.specs.Lcg.{Lcg}
use Rattle.engine_desk.specs.declared.office.Letter.{Letter}

-- whose mailbox it is, what was put into it, what waits to be put, whether it was found full by the last put, and how
-- many may wait without taking memory
pub record BoxView : Type 0 where
  pub to : Actor
  pub put : List MsgRef
  pub out : List MsgRef
  pub full : Bool
  pub size : ℕ

-- ---- where a mailbox stands: by host, its host first, then its coordinator, then its lanes

abbrev pub box_place : ℕ → Actor → ℕ
box_place lanes (ByHost host) = host.0 * (lanes + 2)
box_place lanes (ByTopo host) = host.0 * (lanes + 2) + 1
box_place lanes (ByLane lane) = lane.host.0 * (lanes + 2) + 2 + lane.lane

-- each box stands in its place
abbrev pub ArePlaced : ℕ → List BoxView → Type 0
ArePlaced lanes boxes = (k : ℕ) (d : BoxView) → k < length boxes → box_place lanes (slice_index_or boxes k d).to ≡ k

-- ---- a message waits

-- it waits so often in the box of its addressee, and in no other
pub record IsPosted (copies : ℕ) (at : MsgRef) (to : Actor) (old new : BoxView) : Type 0 where
  pub to_is : new.to ≡ old.to
  pub put_is : new.put ≡ old.put
  pub full_is : new.full ≡ old.full
  pub out_is : new.out ≡ old.out ++ put_for copies to at old.to
  pub size_is : old.size ≤ new.size

pub record ArePosted (copies : ℕ) (at : MsgRef) (to : Actor) (old new : List BoxView) : Type 0 where
  pub count : length new ≡ length old
  pub each :
      (k : ℕ) (d : BoxView) →
      k < length old →
      IsPosted copies at to (slice_index_or old k d) (slice_index_or new k d)

-- so many more may wait without taking memory
abbrev pub HasRoomFor : ℕ → BoxView → Type 0
HasRoomFor count box = length box.out + count ≤ box.size

-- there is room for so many more in the actor's box, where there is one
abbrev pub HasRoom : ℕ → List BoxView → ℕ → Actor → Type 0
HasRoom lanes boxes count to =
    (d : BoxView) →
    box_place lanes to < length boxes →
    HasRoomFor count (slice_index_or boxes (box_place lanes to) d)

-- ---- the messages of an entry

-- by the number of the output and whom it is for
abbrev pub letters_of : ℕ → List Output → List Letter
letters_of out [] = []
letters_of out (Sent message ∷ outputs) = record { out = out; to = addressee message } ∷ letters_of (out + 1) outputs
letters_of out (output ∷ outputs) = letters_of (out + 1) outputs

-- from the letter of this number on there is room for two copies of each in the box of each
abbrev pub HaveRoom : ℕ → List BoxView → ℕ → List Letter → Type 0
HaveRoom lanes boxes from letters =
    (k : ℕ) (d : Letter) → from ≤ k → k < length letters →
    HasRoom lanes boxes (2 * (length letters - from)) (slice_index_or letters k d).to

abbrev pub post_of : Actor → ℕ → Letter → Post
post_of by number letter = record { by = by; at = record { event = number; out = letter.out }; to = letter.to }

abbrev pub with_letters : Actor → ℕ → List Letter → List Post → List Post
with_letters by number [] posts = posts
with_letters by number (letter ∷ letters) posts = with_letters by number letters (post_of by number letter ∷ posts)

-- ---- what was put and what waits is what is put for these messages, as the storm draws

abbrev pub AreDrawn : Option Storm → ℕ → Lcg → List Post → Type 0
AreDrawn None worker draws posts = Unit {0}
AreDrawn (Some storm) worker draws posts = draws ≡ draws_of storm worker posts

-- what was put into a box and what waits for it is what is put for the messages
abbrev pub IsSentTo : Option Storm → ℕ → List Post → BoxView → Type 0
IsSentTo storm worker posts box = sent_to storm worker box.to posts ≡ box.put ++ box.out

abbrev pub AreSent : Option Storm → ℕ → List Post → List BoxView → Type 0
AreSent storm worker posts boxes =
    (k : ℕ) (d : BoxView) → k < length boxes → IsSentTo storm worker posts (slice_index_or boxes k d)

pub record IsOffice (storm : Option Storm) (worker : ℕ) (draws : Lcg) (boxes : List BoxView)
    (posts : List Post) : Type 0 where
  pub drawn : AreDrawn storm worker draws posts
  pub sent : AreSent storm worker posts boxes
