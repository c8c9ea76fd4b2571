-- The keeper's view and a new seat's, as seats are handed out.
use Rattle.std.proofs.Common.{List, [], ap, arith, drop, drop-cons, get_or, length, refl, subst, suc, sym, take, zero, ℕ, ◌++◌, ◌+◌, ◌<◌, ◌∙◌, ◌∷◌, ◌≡◌}
use Rattle.std.specs.Prelude.{All, map}
use Rattle.std.proofs.lemmas.List.{map-append}
use Rattle.atomic_table.specs.Seated.{TableId}
use Rattle.base_ids.specs.declared.ids.Actor.{Actor}
use Rattle.book_rule.specs.Notes.{host_of, hosts_of}
use Rattle.book_rule.specs.Seats.{AreOf, IsFree, Sitting, fresh_seats, known_in}
use Rattle.book_rule.specs.Turns.{Doing, fresh, handed, handing}
use Rattle.book_rule.specs.World.{Meaning}
use Rattle.book_rule.specs.declared.view.Stage.TheVariants.{Idle}
use Rattle.book_rule.specs.declared.view.View.TheVariants.{Keeper, Working}

pub host_below : (actors : List Actor) (i : ℕ) (d : Actor) → i < length actors → (host_of (get_or actors i d)).0 < hosts_of actors
host_below [] i d h = absurd (omega arith)
host_below (x ∷ xs) zero d h = omega arith
host_below (x ∷ xs) (suc i) d h = let r = host_below xs i d (omega arith) in omega arith

take_suc : {A : Type 0} (xs : List A) (i : ℕ) (d : A) → i < length xs → take (suc i) xs ≡ take i xs ++ get_or xs i d ∷ []
take_suc [] i d h = absurd (omega arith)
take_suc (x ∷ xs) zero d h = refl
take_suc (x ∷ xs) (suc i) d h = ap (λ l. x ∷ l) (take_suc xs i d (omega arith))

pub take_next : {A : Type 0} (xs : List A) (i : ℕ) (d : A) → i < length xs → take (i + 1) xs ≡ take i xs ++ get_or xs i d ∷ []
take_next xs i d h = let e : suc i ≡ i + 1 = omega arith in ap (λ n. take n xs) (sym e) ∙ take_suc xs i d h

pub all_front : {A : Type 0} (P : A → Type 0) (xs : List A) (y : A) → All P (xs ++ y ∷ []) → All P xs
all_front P [] y all k d h = absurd (omega arith)
all_front P (x ∷ xs) y all zero d h = all 0 d (omega arith)
all_front P (x ∷ xs) y all (suc k) d h = all_front P xs y (λ i e b. all (suc i) e (omega arith)) k d (omega arith)

pub all_last : {A : Type 0} (P : A → Type 0) (xs : List A) (y : A) → All P (xs ++ y ∷ []) → P y
all_last P [] y all = all 0 y (omega arith)
all_last P (x ∷ xs) y all = all_last P xs y (λ i e b. all (suc i) e (omega arith))

module _ {W O E C R M S : Type 0} (m : Meaning W O E C R M S) (o : O) (actors : List Actor) (i : ℕ) (a d : Actor) (less : i < length actors) (at : get_or actors i d ≡ a) where
  pub next_actor : drop i actors ≡ a ∷ drop (i + 1) actors
  next_actor = let e : suc i ≡ i + 1 = omega arith in drop-cons actors i d less ∙ (ap (λ x. x ∷ drop (suc i) actors) at ∙ ap (λ n. a ∷ drop n actors) e)

  module _ (keeper : Doing m) (has : keeper ≡ (Keeper o (drop i actors) [], [])) where
    pub keeper_view : keeper.0 ≡ Keeper o (a ∷ drop (i + 1) actors) []
    keeper_view = ap (λ (v : Doing m). v.0) has ∙ ap (λ l. Keeper o l []) next_actor

    pub seat_view : (inner : Doing m) → inner ≡ (handed keeper.0, []) → inner ≡ (Working Idle (fresh o a), [])
    seat_view inner is = is ∙ ap (λ v. (handed v, [])) keeper_view

    pub keeper_after : (after : Doing m) → after ≡ (handing keeper.0, keeper.1) → after ≡ (Keeper o (drop (i + 1) actors) [], [])
    keeper_after after is = is ∙ λ n. (ap handing keeper_view n, ap (λ (v : Doing m). v.1) has n)

    pub seat_free : (inner : Doing m) → inner ≡ (handed keeper.0, []) → IsFree m inner
    seat_free inner is = subst (IsFree m) (sym (seat_view inner is)) refl

    pub seat_knows : (inner : Doing m) → inner ≡ (handed keeper.0, []) → known_in m inner ≡ fresh o a
    seat_knows inner is = ap (known_in m) (seat_view inner is)

  pub seats_next : (table : TableId) (old new : List (Sitting O E)) (seat : Sitting O E) → old ≡ fresh_seats table o (take i actors) → new ≡ old ++ seat ∷ [] → seat.table ≡ table → seat.known ≡ fresh o a → new ≡ fresh_seats table o (take (i + 1) actors)
  seats_next table old new seat was is at_table knows =
      let one : Actor → Sitting O E = λ x. record { table = table; known = fresh o x } in
      let seat_is : seat ≡ one a = λ n. record { table = at_table n; known = knows n } in
      is ∙ ((λ n. was n ++ seat_is n ∷ []) ∙ (sym (map-append one (take i actors) (a ∷ [])) ∙ ap (λ l. map one l) (ap (λ x. take i actors ++ x ∷ []) (sym at) ∙ sym (take_next actors i d less))))

pub fresh_of : {O E : Type 0} (table : TableId) (o : O) (actors : List Actor) → AreOf {O = O} {E = E} table (fresh_seats table o actors)
fresh_of table o [] k d h = absurd (omega arith)
fresh_of table o (a ∷ rest) zero d h = refl
fresh_of table o (a ∷ rest) (suc k) d h = fresh_of table o rest k d (omega arith)
