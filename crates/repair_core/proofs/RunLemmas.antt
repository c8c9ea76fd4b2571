-- A repair over stores that are all at hand.
use Rattle.std.proofs.Common.{◌≡◌, ◌&&◌, ◌||◌, ◌==◌, ℕ, Bool, true, false, not, nat_lt, None, List, [], ◌∷◌, ◌++◌, map, arith, refl, ap, sym, subst, ◌∙◌}
use Rattle.std.specs.List.{list_all}
use Rattle.std.proofs.lemmas.Bool.Decides.{nat_tests}
use Rattle.base_ids.specs.Names.{same_host}
use Rattle.base_ids.specs.Replicas.{has_host, is_on, on_distinct_hosts}
use Rattle.base_ids.specs.declared.ids.HostId.{HostId}
use Rattle.base_ids.specs.declared.ids.Replica.{Replica}
use Rattle.base_ids.specs.declared.ids.TableId.{TableId}
use Rattle.token_ring.specs.declared.ring.TokenRange.{TokenRange}
use Rattle.gather_core.specs.declared.data.Route.{Route}
use Rattle.gather_core.specs.Gathers.{Gathering}
use Rattle.gather_core.specs.Laws.{AreOrdered}
use Rattle.gather_core.specs.Rounds.{are_fit, is_fit, CanGather, IsCome}
use Rattle.gather_core.specs.Steps.{Stores}
use Rattle.gather_core.proofs.ComeLemmas.{begun_can}
use Rattle.repair_core.specs.Repairs.{repair_of, repair_routes, route_in, route_out, is_known, are_known}
use Rattle.repair_core.specs.Laws.{IsRepaired}
use Rattle.repair_core.proofs.RepairLemmas.{repair_is_exact}

both_known : (a b : Bool) → (a && b) ≡ true → (a ≡ true) × (b ≡ true)
both_known true true both = (refl, refl)
both_known true false both = cc
both_known false b both = cc

neither : (a b : Bool) → (a || b) ≡ false → (a ≡ false) × (b ≡ false)
neither true b e = cc e
neither false b e = (refl, e)

both_are : (a b : Bool) → a ≡ true → b ≡ true → (a && b) ≡ true
both_are true b one two = two
both_are false b one two = cc one

not_true : (b : Bool) → not b ≡ true → b ≡ false
not_true true e = cc e
not_true false e = refl

all_more : (p : Route → Bool) (xs ys : List Route) → list_all p xs ≡ true → list_all p ys ≡ true → list_all p (xs ++ ys) ≡ true
all_more p [] ys one two = two
all_more p (x ∷ xs) ys one two =
    let both = both_known (p x) (list_all p xs) one in
    both_are (p x) (list_all p (xs ++ ys)) both.0 (all_more p xs ys both.1 two)

fit_in : (count : ℕ) (a b : HostId) → (a.0 == b.0) ≡ false → nat_lt a.0 count ≡ true → nat_lt b.0 count ≡ true → are_fit count a b ≡ true
fit_in count a b apart one two =
    let off : not (same_host a b) ≡ true = grind (arith, nat_tests) in
    both_are (not (same_host a b)) (nat_lt a.0 count && nat_lt b.0 count) off (both_are (nat_lt a.0 count) (nat_lt b.0 count) one two)

turned : (a b : ℕ) → (a == b) ≡ false → (b == a) ≡ false
turned a b e = grind (arith, nat_tests, e)

ins_fit : (count : ℕ) (first : Replica) (others : List Replica) → has_host others first.host ≡ false → nat_lt first.host.0 count ≡ true → are_known count others ≡ true → list_all (is_fit count) (map (route_in first) others) ≡ true
ins_fit count first [] apart here known = refl
ins_fit count first (other ∷ rest) apart here known =
    let both = both_known (is_known count other) (are_known count rest) known in
    let none = neither (is_on first.host other) (has_host rest first.host) apart in
    both_are (is_fit count (route_in first other)) (list_all (is_fit count) (map (route_in first) rest))
    (fit_in count first.host other.host none.0 here both.0) (ins_fit count first rest none.1 here both.1)

outs_fit : (count : ℕ) (first : Replica) (others : List Replica) → has_host others first.host ≡ false → nat_lt first.host.0 count ≡ true → are_known count others ≡ true → list_all (is_fit count) (map (route_out first) others) ≡ true
outs_fit count first [] apart here known = refl
outs_fit count first (other ∷ rest) apart here known =
    let both = both_known (is_known count other) (are_known count rest) known in
    let none = neither (is_on first.host other) (has_host rest first.host) apart in
    both_are (is_fit count (route_out first other)) (list_all (is_fit count) (map (route_out first) rest))
    (fit_in count other.host first.host (turned first.host.0 other.host.0 none.0) both.0 here) (outs_fit count first rest none.1 here both.1)

routes_fit : (count : ℕ) (replicas : List Replica) → on_distinct_hosts replicas ≡ true → are_known count replicas ≡ true → list_all (is_fit count) (repair_routes replicas) ≡ true
routes_fit count [] distinct known = refl
routes_fit count (first ∷ others) distinct known =
    let both = both_known (is_known count first) (are_known count others) known in
    let apart = not_true (has_host others first.host) ((both_known (not (has_host others first.host)) (on_distinct_hosts others) distinct).0) in
    all_more (is_fit count) (map (route_in first) others) (map (route_out first) others)
    (ins_fit count first others apart both.0 both.1) (outs_fit count first others apart both.0 both.1)

pub can_repair : (count : ℕ) (table : TableId) (range : TokenRange) (replicas : List Replica) (gather : Gathering) → gather ≡ repair_of table range replicas → on_distinct_hosts replicas ≡ true → are_known count replicas ≡ true → CanGather count gather
can_repair count table range replicas gather is distinct known =
    subst (λ (g : Gathering). CanGather count g) (sym is) (begun_can count (record { 0 = 0 }) table range (repair_routes replicas) (routes_fit count replicas distinct known))

pub is_repaired : (count : ℕ) (table : TableId) (range : TokenRange) (replicas : List Replica) (stores : Stores) (gather : Gathering) (end_stores : Stores) (end : Gathering) → gather ≡ repair_of table range replicas → AreOrdered stores → IsCome count stores gather end_stores end → end.pull ≡ None → IsRepaired stores table range replicas end_stores
is_repaired count table range replicas stores gather end_stores end is ordered come none =
    let P : Gathering → Type 0 = λ g. IsCome count stores g end_stores end in
    let lead = (subst P is come).comes [] [] in
    let exact = repair_is_exact stores table range replicas lead.steps ordered lead.free (ap (λ (g : Gathering). g.pull) lead.gather_is ∙ none) in
    subst (λ (s : Stores). IsRepaired stores table range replicas s) lead.stores_are exact
