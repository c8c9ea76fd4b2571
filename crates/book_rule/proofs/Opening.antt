-- A book that is made: its words, its hosts and its seats.
use Rattle.std.proofs.Common.{List, [], ap, arith, drop, drop-cons, get_or, length, max, refl, suc, zero, ℕ, ◌++◌, ◌+◌, ◌<◌, ◌≤◌, ◌∷◌, ◌≡◌}
use Rattle.std.specs.Prelude.{false, true, ◌||◌}
use Rattle.base_ids.specs.Names.{same_actor}
use Rattle.base_ids.specs.declared.ids.Actor.{Actor}
use Rattle.base_ids.proofs.NameLemmas.{same_actor-same}
use Rattle.book_rule.specs.Notes.{host_of, host_words, hosts_of}
use Rattle.book_rule.specs.Turns.{IsBook, are_distinct, has_actor}
use Rattle.book_rule.specs.World.{Meaning}
use Rattle.book_rule.specs.declared.view.About.{About}

-- the words of one host
abbrev pub one_host : List ℕ
one_host = 1 ∷ 0 ∷ 0 ∷ 0 ∷ 0 ∷ 0 ∷ 0 ∷ 0 ∷ 0 ∷ []

pub host_words-last : (hosts : ℕ) → host_words hosts ++ one_host ≡ host_words (suc hosts)
host_words-last zero = refl
host_words-last (suc hosts) = ap (λ l. one_host ++ l) (host_words-last hosts)

pub in_hosts : (actors : List Actor) (a : Actor) → has_actor actors a ≡ true → (host_of a).0 < hosts_of actors
in_hosts [] a h = cc
in_hosts (x ∷ xs) a h = elim (same_actor a x) as (λ t. same_actor a x ≡ t → (t || has_actor xs a) ≡ true → (host_of a).0 < hosts_of (x ∷ xs)) [
  | true ↦ λ is _. let e : (host_of a).0 ≡ (host_of x).0 = ap (λ y. (host_of y).0) (same_actor-same a x is) in omega arith
  | false ↦ λ _ rest. let r = in_hosts xs a rest in omega arith
]
    refl h

pub hosts_of-drop : (actors : List Actor) (i : ℕ) (d : Actor) → i < length actors → hosts_of (drop i actors) ≡ max ((host_of (get_or actors i d)).0 + 1) (hosts_of (drop (suc i) actors))
hosts_of-drop actors i d h = ap hosts_of (drop-cons actors i d h)

pub hosts_most : (actors : List Actor) → ((a : Actor) → has_actor actors a ≡ true → (host_of a).0 < 65536) → hosts_of actors ≤ 65536
hosts_most [] h = omega arith
hosts_most (x ∷ xs) h = let a = h x (here x xs) in let r = hosts_most xs (λ a p. h a (there a p)) in omega arith
  where
    here : (x : Actor) (xs : List Actor) → has_actor (x ∷ xs) x ≡ true
    here x xs = Rattle.base_ids.proofs.NameLemmas.or_first (same_actor x x) (has_actor xs x) (Rattle.base_ids.proofs.NameLemmas.same_actor-refl x)

    there : (a : Actor) → has_actor xs a ≡ true → has_actor (x ∷ xs) a ≡ true
    there a p = Rattle.base_ids.proofs.NameLemmas.or_second (same_actor a x) (has_actor xs a) p

module _ {W O E C R M S : Type 0} (m : Meaning W O E C R M S) where
  pub is_book : (about : About O) → are_distinct about.actors ≡ true → length about.actors < 4294967295 → ((a : Actor) → has_actor about.actors a ≡ true → m.is_in about.opening a) → about.hosts ≡ hosts_of about.actors → IsBook m about
  is_book about distinct few inside hosts = record { distinct = distinct; few = few; inside = λ a h. (inside a h, (let l = in_hosts about.actors a h in omega arith)) }
