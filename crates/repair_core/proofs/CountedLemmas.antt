-- How much each replica got.
use Rattle.std.proofs.Common.{◌≡◌, ◌<◌, ◌&&◌, ℕ, Bool, true, false, List, [], ◌∷◌, map, None, arith, refl, ap, ◌∙◌}
use Rattle.std.proofs.lemmas.Bool.Decides.{nat_tests}
use Rattle.base_ids.specs.declared.ids.Replica.{Replica}
use Rattle.base_ids.specs.declared.ids.TableId.{TableId}
use Rattle.token_ring.specs.declared.ring.TokenRange.{TokenRange}
use Rattle.replica_store.proofs.MapLemmas.{IsAscending-range_cells}
use Rattle.replica_store.specs.Cells.{IsAscending}
use Rattle.gather_core.proofs.CountLemmas.{new_same}
use Rattle.gather_core.specs.Laws.{AreOrdered}
use Rattle.gather_core.specs.Steps.{Stores}
use Rattle.repair_core.specs.Counted.{got_of, got_each, range_at, had_of, CanCount, got_since}
use Rattle.repair_core.specs.Repairs.{is_known, are_known}
use Rattle.repair_core.specs.declared.counted.Had.{Had}

both_true : (a b : Bool) → (a && b) ≡ true → (a ≡ true) × (b ≡ true)
both_true true true both = (refl, refl)
both_true true false both = cc
both_true false b both = cc

-- the first replica's host has a store, and so have those of the others
pub known_first : (count : ℕ) (first : Replica) (rest : List Replica) → are_known count (first ∷ rest) ≡ true → first.host.0 < count
known_first count first rest known = (let here = (both_true (is_known count first) (are_known count rest) known).0 in grind (arith, nat_tests, here))

pub known_rest : (count : ℕ) (first : Replica) (rest : List Replica) → are_known count (first ∷ rest) ≡ true → are_known count rest ≡ true
known_rest count first rest known = (both_true (is_known count first) (are_known count rest) known).1

-- so what the first one got can be counted, and what the others got
pub can_first : (count : ℕ) (first : Had) (rest : List Had) → CanCount count (first ∷ rest) → first.replica.host.0 < count
can_first count first rest can = can.0

pub can_ascend : (count : ℕ) (first : Had) (rest : List Had) → CanCount count (first ∷ rest) → IsAscending first.cells
can_ascend count first rest can = can.1

pub can_rest : (count : ℕ) (first : Had) (rest : List Had) → CanCount count (first ∷ rest) → CanCount count rest
can_rest count first rest can = can.2

pub range_ascending : (stores : Stores) (table : TableId) (range : TokenRange) (replica : Replica) → AreOrdered stores → IsAscending (range_at stores table range replica)
range_ascending stores table range replica ordered = IsAscending-range_cells (stores replica.host) table range None (ordered replica.host)

pub can_count : (stores : Stores) (table : TableId) (range : TokenRange) (count n : ℕ) (replicas : List Replica) → AreOrdered stores → are_known count replicas ≡ true → n ≡ count → CanCount n (map (had_of stores table range) replicas)
can_count stores table range count n [] ordered known same = tt
can_count stores table range count n (r ∷ rest) ordered known same =
    let here : r.host.0 < count = known_first count r rest known in
    (omega arith, range_ascending stores table range r ordered, can_count stores table range count n rest ordered (known_rest count r rest known) same)

pub got_same : (stores end : Stores) (table : TableId) (range : TokenRange) (replicas : List Replica) → AreOrdered end → map (got_since end table range) (map (had_of stores table range) replicas) ≡ got_each stores end table range replicas
unfolding got_since
got_same stores end table range [] ordered = refl
got_same stores end table range (r ∷ rest) ordered =
    ap (λ n. n ∷ map (got_since end table range) (map (had_of stores table range) rest)) (new_same (stores r.host) (end r.host) table range (ordered r.host))
    ∙ ap (λ l. got_of stores end table range r ∷ l) (got_same stores end table range rest ordered)
