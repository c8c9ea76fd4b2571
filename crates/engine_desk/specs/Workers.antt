-- A worker's messages: those of its actors' entries, in the order of their places, and what its boxes have of them.
use Rattle.std.specs.Prelude.{List, Option, filter, length, ℕ, ◌≡◌, ◌≤◌}
use Rattle.base_ids.specs.declared.ids.Actor.{Actor}
use Rattle.cluster_history.specs.declared.data.Output.{Output}
use Rattle.plan_facts.specs.Posts.{AreRising, AreUpTo, Post, is_from, sent_by, with_sent}
use Rattle.run_plan.specs.declared.plan.Storm.{Storm}
use Rattle.rand_pcg.specs.Lcg.{Lcg}
use Rattle.engine_desk.specs.Chairs.{Known}
use Rattle.engine_desk.specs.Desks.{HasSent}
use Rattle.engine_desk.specs.Offices.{BoxView, IsOffice, letters_of, with_letters}
use Rattle.engine_desk.specs.declared.office.Letter.{Letter}

-- of one of its actors; the last number is that of the newest entry with a message, or a later one
pub record IsSentBy (storm : Option Storm) (worker : ℕ) (draws : Lcg) (boxes : List BoxView) (newest : ℕ)
    (posts : List Post) (known : Known) : Type 0 where
  pub office : IsOffice storm worker draws boxes posts
  pub rising : AreRising posts
  pub last : AreUpTo newest posts
  pub own : filter (is_from known.actor) posts ≡ sent_by known.actor known.seen

-- the draws and boxes go on by the letters of an entry, for whatever messages they stood
abbrev pub LettersCome : Option Storm → ℕ → Lcg → Lcg → List BoxView → List BoxView → ℕ → List Letter → Type 0
LettersCome storm worker draws drawn old new number letters =
    (by : Actor) (posts : List Post) →
    IsOffice storm worker draws old posts →
    IsOffice storm worker drawn new (with_letters by number letters posts)

-- an entry of an actor that has seen as far as the last number, once its messages wait in the boxes
abbrev pub EventsAreSent : Type 0
EventsAreSent =
    (storm : Option Storm) (worker : ℕ) (draws drawn : Lcg) (old new : List BoxView) (known after : Known)
    (number : ℕ) (outputs : List Output) (posts : List Post) (last : ℕ) →
    after.actor ≡ known.actor →
    last ≤ length known.seen →
    HasSent known number outputs after →
    IsSentBy storm worker draws old last posts known →
    LettersCome storm worker draws drawn old new number (letters_of 0 outputs) →
    IsSentBy storm worker drawn new number (with_sent known.actor number 0 outputs posts) after
