-- What a desk counts of its entries.
use Rattle.std.proofs.Common.{ap, add_assoc, arith, refl, subst, sym, ◌∙◌}
use Rattle.std.proofs.lemmas.Bool.Decides.{nat_tests}
use Rattle.std.specs.Prelude.{Bool, List, None, Option, Some, [], false, if◌then◌else◌, length, true, ℕ, ◌&&◌, ◌++◌, ◌+◌, ◌∷◌, ◌≡◌, ◌≤◌, option_to_list}
use Rattle.base_ids.specs.declared.ids.Actor.{Actor}
use Rattle.base_ids.specs.declared.ids.MsgRef.{MsgRef}
use Rattle.cluster_history.specs.History.{History, actor_of, is_by}
use Rattle.cluster_history.specs.declared.data.Entry.{Entry}
use Rattle.base_ids.proofs.NameLemmas.{same_actor-refl}
use Rattle.plan_facts.specs.Own.{is_that_ref, own_count, same_ref, taken_count, taken_ref}
use Rattle.plan_facts.proofs.OtherLemmas.{own_count-other, taken_count-other}
use Rattle.engine_desk.specs.Chairs.{HasCommitted, HasNoted, HasTurned, IsLater, Known}
use Rattle.engine_desk.specs.Desks.{IsFiled, count_in}
use Rattle.engine_desk.proofs.LaterLemmas.{since}

pub own_since : (known : Known) (now : History) → IsLater known.opening known.actor known.seen now → own_count known.actor now ≡ own_count known.actor known.seen
own_since known now later = since known.opening known.actor (own_count known.actor) (λ history entry legal other. own_count-other history entry known.actor other) known.seen now later

pub taken_since : (known : Known) (now : History) (at : MsgRef) → IsLater known.opening known.actor known.seen now → taken_count known.actor now at ≡ taken_count known.actor known.seen at
taken_since known now at later = since known.opening known.actor (λ h. taken_count known.actor h at) (λ history entry legal other. taken_count-other history entry known.actor at other) known.seen now later

pub filed_turned : (old new : Known) (own : ℕ) (refs : List MsgRef) → HasTurned old new → IsFiled old own refs → IsFiled new own refs
filed_turned old new own refs t f =
    subst (λ (k : Known). IsFiled k own refs) (sym t.is)
    (record { own_is = f.own_is ∙ sym (own_since old t.now t.later); refs_are = λ at. f.refs_are at ∙ sym (taken_since old t.now at t.later) })

pub filed_noted : (old new : Known) (own : ℕ) (refs : List MsgRef) → HasNoted old new → IsFiled old own refs → IsFiled new own refs
filed_noted old new own refs noted f = subst (λ (k : Known). IsFiled k own refs) (sym noted) (record { own_is = f.own_is; refs_are = f.refs_are })

pub count-append : (at : MsgRef) (first second : List MsgRef) → count_in at (first ++ second) ≡ count_in at first + count_in at second
count-append at [] second = omega arith
count-append at (other ∷ first) second = let e = count-append at first second in omega (arith, e)

count-one : (at : MsgRef) (taken : Option MsgRef) → count_in at (option_to_list taken) ≡ (if is_that_ref at taken then 1 else 0)
count-one at None = refl
count-one at (Some other) = (elim (same_ref other at) as (λ b. (if b then 1 else 0) + 0 ≡ (if b then 1 else 0)) [ true ↦ refl | false ↦ refl ])

one_more : (b : Bool) (n : ℕ) → n + (if b then 1 else 0) ≡ (if b then n + 1 else n)
one_more true n = refl
one_more false n = omega arith

pub filed_committed : (old new : Known) (entry : Entry) (number own : ℕ) (refs : List MsgRef) → actor_of entry.event ≡ old.actor → HasCommitted old entry number new → IsFiled old own refs → IsFiled new (own + 1) (refs ++ option_to_list (taken_ref entry.event))
filed_committed old new entry number own refs author c f =
    let mine : is_by old.actor entry.event ≡ true = subst (λ (a : Actor). is_by a entry.event ≡ true) author (same_actor-refl (actor_of entry.event)) in
    subst (λ (k : Known). IsFiled k (own + 1) (refs ++ option_to_list (taken_ref entry.event))) (sym c.is)
    (record {
      own_is = rw mine (ap (λ n. n + 1) (f.own_is ∙ sym (own_since old c.now c.later)));
      refs_are = λ at.
          count-append at refs (option_to_list (taken_ref entry.event))
          ∙ (λ i. (f.refs_are at ∙ sym (taken_since old c.now at c.later)) i + count-one at (taken_ref entry.event) i)
          ∙ one_more (is_that_ref at (taken_ref entry.event)) (taken_count old.actor c.now at)
          ∙ ap (λ b. if b && is_that_ref at (taken_ref entry.event) then taken_count old.actor c.now at + 1 else taken_count old.actor c.now at) (sym mine);
    })

pub own_within : (actor : Actor) (history : History) → own_count actor history ≤ length history
own_within actor [] = omega arith
own_within actor (entry ∷ history) =
    let before = own_within actor history in
    elim (is_by actor entry.event) as (λ b. (if b then own_count actor history + 1 else own_count actor history) ≤ length (entry ∷ history)) [ true ↦ grind (arith, before) | false ↦ grind (arith, before) ]

-- a count goes on by one message
pub count_on : (at other : MsgRef) (refs : List MsgRef) (b : Bool) → b ≡ same_ref other at → count_in at (refs ++ other ∷ []) ≡ count_in at refs + (if b then 1 else 0)
count_on at other refs b is =
    count-append at refs (other ∷ []) ∙ ap (λ n. count_in at refs + n) (count-one at (Some other) ∙ ap (λ t. if t then 1 else 0) (sym is))
