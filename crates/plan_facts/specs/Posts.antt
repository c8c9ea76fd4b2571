-- What a worker puts into mailboxes: the messages of its actors' entries, each once, never or twice as the storm draws.
use Rattle.std.specs.Prelude.{Bool, List, None, Option, Some, [], if◌then◌else◌, length, nat_lt, suc, zero, ℕ, ◌%◌, ◌++◌, ◌+◌, ◌∷◌, ◌<◌, ◌≡◌, ◌≤◌, ◌⊎◌}
use Rattle.base_ids.specs.Names.{same_actor}
use Rattle.base_ids.specs.declared.ids.Actor.{Actor}
use Rattle.base_ids.specs.declared.ids.MsgRef.{MsgRef}
use Rattle.cluster_history.specs.History.{History, is_by}
use Rattle.cluster_history.specs.Messages.{addressee}
use Rattle.cluster_history.specs.declared.data.Output.{Output}
use Rattle.cluster_history.specs.declared.data.Output.TheVariants.{Sent}
use Rattle.run_plan.specs.declared.plan.Storm.{Storm}
use Rattle.rand_pcg.specs.Lcg.{Lcg, started, increment_of}
use Rattle.rand_pcg.specs.Pcg.{multiplier_64, pcg32}

-- a message: who sent it, where it stands, and who may take it
pub record Post : Type 0 where
  pub by : Actor
  pub at : MsgRef
  pub to : Actor

-- the messages of an entry of this number, in front of earlier ones; its outputs are numbered on from this one
abbrev pub with_sent : Actor → ℕ → ℕ → List Output → List Post → List Post
with_sent by number out [] posts = posts
with_sent by number out (Sent message ∷ outputs) posts =
    with_sent by number (out + 1) outputs
    (record { by = by; at = record { event = number; out = out }; to = addressee message } ∷ posts)
with_sent by number out (output ∷ outputs) posts = with_sent by number (out + 1) outputs posts

-- the messages of an actor's entries, the newest first
abbrev pub sent_by : Actor → History → List Post
sent_by actor [] = []
sent_by actor (entry ∷ history) =
    if is_by actor entry.event
    then with_sent actor (length history + 1) 0 entry.outputs (sent_by actor history)
    else sent_by actor history

abbrev pub is_from : Actor → Post → Bool
is_from actor post = same_actor post.by actor

-- ---- order

abbrev pub IsBefore : MsgRef → MsgRef → Type 0
IsBefore a b = (a.event < b.event) ⊎ ((a.event ≡ b.event) × (a.out < b.out))

-- the place stands after the newest of these messages
abbrev pub IsNewer : MsgRef → List Post → Type 0
IsNewer at [] = Unit {0}
IsNewer at (older ∷ posts) = IsBefore older.at at

-- the newest first
abbrev pub AreRising : List Post → Type 0
AreRising [] = Unit {0}
AreRising (post ∷ posts) = IsNewer post.at posts × AreRising posts

-- the newest stands in an entry of at most this number
abbrev pub AreUpTo : ℕ → List Post → Type 0
AreUpTo last [] = Unit {0}
AreUpTo last (post ∷ posts) = post.at.event ≤ last

-- ---- draws

-- the generator of a worker
abbrev pub first_draws : Storm → ℕ → Lcg
first_draws storm worker = started 64 multiplier_64 storm.seed (increment_of 64 worker)

-- the generator after two draws for each of these messages
abbrev pub draws_of : Storm → ℕ → List Post → Lcg
draws_of storm worker [] = first_draws storm worker
draws_of storm worker (post ∷ posts) = (pcg32 (pcg32 (draws_of storm worker posts)).1).1

-- how often a message is put, by two draws below a hundred: it is lost, or comes twice
abbrev pub copies_by : Storm → ℕ → ℕ → ℕ
copies_by storm first second =
    if nat_lt first storm.lose then 0 else if nat_lt second storm.repeat then 2 else 1

abbrev pub copies_with : Storm → Lcg → ℕ
copies_with storm draws = copies_by storm ((pcg32 draws).0 % 100) ((pcg32 (pcg32 draws).1).0 % 100)

-- how often the message after these is put
abbrev pub copies_after : Option Storm → ℕ → List Post → ℕ
copies_after None worker posts = 1
copies_after (Some storm) worker posts = copies_with storm (draws_of storm worker posts)

abbrev pub repeated : ℕ → MsgRef → List MsgRef
repeated zero at = []
repeated (suc n) at = at ∷ repeated n at

-- what is put into an actor's mailbox for a message that is put so often
abbrev pub put_for : ℕ → Actor → MsgRef → Actor → List MsgRef
put_for copies to at actor = if same_actor to actor then repeated copies at else []

-- what is put into it for these messages, in the order of the puts
abbrev pub sent_to : Option Storm → ℕ → Actor → List Post → List MsgRef
sent_to storm worker actor [] = []
sent_to storm worker actor (post ∷ posts) =
    sent_to storm worker actor posts ++ put_for (copies_after storm worker posts) post.to post.at actor
