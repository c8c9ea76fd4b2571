-- The messages of a worker's actors.
use Rattle.std.proofs.Common.{ap, arith, refl, inl, inr, ◌∙◌}
use Rattle.std.specs.Prelude.{List, [], false, filter, length, true, ℕ, ◌+◌, ◌∷◌, ◌≡◌, ◌≤◌, ◌<◌, ◌⊎◌}
use Rattle.base_ids.specs.Names.{same_actor}
use Rattle.base_ids.specs.declared.ids.Actor.{Actor}
use Rattle.base_ids.specs.declared.ids.MsgRef.{MsgRef}
use Rattle.cluster_history.specs.History.{History, is_by}
use Rattle.cluster_history.specs.Messages.{addressee}
use Rattle.cluster_history.specs.declared.data.Entry.{Entry}
use Rattle.cluster_history.specs.declared.data.Output.{Output}
use Rattle.cluster_history.specs.declared.data.Output.TheVariants.{Sent}
use Rattle.base_ids.proofs.NameLemmas.{same_actor-refl}
use Rattle.plan_facts.specs.Posts.{AreRising, AreUpTo, IsNewer, Post, is_from, sent_by, with_sent}

pub sent-other : (actor : Actor) (history : History) (entry : Entry) → is_by actor entry.event ≡ false → sent_by actor (entry ∷ history) ≡ sent_by actor history
sent-other actor history entry e = rw e refl

pub sent-own : (actor : Actor) (history : History) (entry : Entry) → is_by actor entry.event ≡ true → sent_by actor (entry ∷ history) ≡ with_sent actor (length history + 1) 0 entry.outputs (sent_by actor history)
sent-own actor history entry e = rw e refl

-- of the messages of all, those of the actor that sends come in front of its own
pub from-own : (actor : Actor) (number out : ℕ) (outputs : List Output) (posts : List Post) → filter (is_from actor) (with_sent actor number out outputs posts) ≡ with_sent actor number out outputs (filter (is_from actor) posts)
from-own actor number out [] posts = refl
from-own actor number out (Sent message ∷ outputs) posts =
    let post : Post = record { by = actor; at = record { event = number; out = out }; to = addressee message } in
    let mine : filter (is_from actor) (post ∷ posts) ≡ post ∷ filter (is_from actor) posts = rw (same_actor-refl actor) refl in
    from-own actor number (out + 1) outputs (post ∷ posts) ∙ ap (with_sent actor number (out + 1) outputs) mine
from-own actor number out (output ∷ outputs) posts = from-own actor number (out + 1) outputs posts

-- those of another stay
pub from-other : (actor other : Actor) (number out : ℕ) (outputs : List Output) (posts : List Post) → same_actor actor other ≡ false → filter (is_from other) (with_sent actor number out outputs posts) ≡ filter (is_from other) posts
from-other actor other number out [] posts e = refl
from-other actor other number out (Sent message ∷ outputs) posts e =
    let post : Post = record { by = actor; at = record { event = number; out = out }; to = addressee message } in
    let none : filter (is_from other) (post ∷ posts) ≡ filter (is_from other) posts = rw e refl in
    from-other actor other number (out + 1) outputs (post ∷ posts) e ∙ none
from-other actor other number out (output ∷ outputs) posts e = from-other actor other number (out + 1) outputs posts e

-- ---- order

abbrev pub place : ℕ → ℕ → MsgRef
place number out = record { event = number; out = out }

newer-next : (number out : ℕ) (posts : List Post) → IsNewer (place number out) posts → IsNewer (place number (out + 1)) posts
newer-next number out [] h = tt
newer-next number out (older ∷ posts) h =
    elim h as (λ _. (older.at.event < number) ⊎ ((older.at.event ≡ number) × (older.at.out < out + 1))) [
      | inl less ↦ inl less
      | inr same ↦ let first = same.1 in inr (same.0, omega (arith, first))
    ]

pub rising-sent : (actor : Actor) (number out : ℕ) (outputs : List Output) (posts : List Post) → AreRising posts → IsNewer (place number out) posts → AreRising (with_sent actor number out outputs posts)
rising-sent actor number out [] posts rising newer = rising
rising-sent actor number out (Sent message ∷ outputs) posts rising newer =
    let post : Post = record { by = actor; at = place number out; to = addressee message } in
    rising-sent actor number (out + 1) outputs (post ∷ posts) (newer, rising) (inr (refl, omega arith))
rising-sent actor number out (output ∷ outputs) posts rising newer =
    rising-sent actor number (out + 1) outputs posts rising (newer-next number out posts newer)

-- ---- the posts of a worker

pub newer_than_all : (last number : ℕ) (posts : List Post) → AreUpTo last posts → last < number → IsNewer (place number 0) posts
newer_than_all last number [] h less = tt
newer_than_all last number (post ∷ posts) h less = inl (omega (arith, h, less))

pub sent_up_to : (actor : Actor) (number out last : ℕ) (outputs : List Output) (posts : List Post) → AreUpTo last posts → last ≤ number → AreUpTo number (with_sent actor number out outputs posts)
sent_up_to actor number out last [] [] h le = tt
sent_up_to actor number out last [] (post ∷ posts) h le = omega (arith, h, le)
sent_up_to actor number out last (Sent message ∷ outputs) posts h le =
    sent_up_to actor number (out + 1) number outputs _ (omega arith) (omega arith)
sent_up_to actor number out last (output ∷ outputs) posts h le = sent_up_to actor number (out + 1) last outputs posts h le
