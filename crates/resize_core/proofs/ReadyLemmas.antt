-- The least host that is waited for, in loops over replicas and over tablets.
use Rattle.std.proofs.Common.{◌≡◌, ◌∙◌, ◌+◌, ◌<◌, ℕ, Bool, true, false, cond, not, List, [], ◌∷◌, length, take, get_or, Option, Some, None, refl, sym, ap}
use Rattle.std.proofs.lemmas.List.{take_more, map-append, flat_map_more}
use Rattle.base_ids.specs.declared.ids.HostId.{HostId}
use Rattle.base_ids.specs.declared.ids.Replica.{Replica}
use Rattle.barrier_core.specs.declared.data.What.{What}
use Rattle.barrier_core.specs.declared.data.Told.{Told}
use Rattle.barrier_core.specs.Facts.{has_told, lesser_host, least_host, least_without}
use Rattle.barrier_core.proofs.FactLemmas.{least_without-append}
use Rattle.tablet_map.specs.declared.tablet.Tablet.{Tablet}
use Rattle.resize_core.specs.Plan.{hosts_of, replica_hosts}

lesser_host-None : (a : Option HostId) → lesser_host a None ≡ a
lesser_host-None None = refl
lesser_host-None (Some a) = refl

module _ (facts : List Told) (what : What) where
  alone : (host : HostId) (told : Bool) → has_told facts what host ≡ told → least_without facts what (host ∷ []) ≡ cond told None (Some host)
  alone host told is = ap (λ b. least_host (cond (not b) (host ∷ []) [])) is ∙ by told
    where
      by : (b : Bool) → least_host (cond (not b) (host ∷ []) []) ≡ cond b None (Some host)
      by true = refl
      by false = refl

  -- one replica more
  behind : (replicas : List Replica) (i : ℕ) (d : Replica) → i < length replicas → (told : Bool) → has_told facts what (get_or replicas i d).host ≡ told → least_without facts what (hosts_of (take (i + 1) replicas)) ≡ lesser_host (least_without facts what (hosts_of (take i replicas))) (cond told None (Some (get_or replicas i d).host))
  behind replicas i d below told is =
      let host = (get_or replicas i d).host in
      ap (λ rs. least_without facts what (hosts_of rs)) (take_more replicas i d below)
      ∙ ap (least_without facts what) (map-append (λ (r : Replica). r.host) (take i replicas) (get_or replicas i d ∷ []))
      ∙ least_without-append facts what (hosts_of (take i replicas)) (host ∷ [])
      ∙ ap (lesser_host (least_without facts what (hosts_of (take i replicas)))) (alone host told is)

  pub behind_told : (replicas : List Replica) (i : ℕ) (d : Replica) → i < length replicas → (least : Option HostId) → least ≡ least_without facts what (hosts_of (take i replicas)) → has_told facts what (get_or replicas i d).host ≡ true → least ≡ least_without facts what (hosts_of (take (i + 1) replicas))
  behind_told replicas i d below least so_far told =
      so_far ∙ sym (behind replicas i d below true told ∙ lesser_host-None (least_without facts what (hosts_of (take i replicas))))

  pub behind_untold : (replicas : List Replica) (i : ℕ) (d : Replica) → i < length replicas → (least : Option HostId) → least ≡ least_without facts what (hosts_of (take i replicas)) → has_told facts what (get_or replicas i d).host ≡ false → lesser_host least (Some (get_or replicas i d).host) ≡ least_without facts what (hosts_of (take (i + 1) replicas))
  behind_untold replicas i d below least so_far untold =
      ap (λ a. lesser_host a (Some (get_or replicas i d).host)) so_far ∙ sym (behind replicas i d below false untold)

  -- one tablet more
  pub behind_tablet : (tablets : List Tablet) (i : ℕ) (d : Tablet) → i < length tablets → (least : Option HostId) → least ≡ least_without facts what (replica_hosts (take i tablets)) → lesser_host least (least_without facts what (hosts_of (get_or tablets i d).replicas)) ≡ least_without facts what (replica_hosts (take (i + 1) tablets))
  behind_tablet tablets i d below least so_far =
      let hosts = λ (tablet : Tablet). hosts_of tablet.replicas in
      ap (λ a. lesser_host a (least_without facts what (hosts (get_or tablets i d)))) so_far
      ∙ sym (least_without-append facts what (replica_hosts (take i tablets)) (hosts (get_or tablets i d)))
      ∙ ap (least_without facts what) (flat_map_more hosts [] (take i tablets) (get_or tablets i d) ∙ ap replica_hosts (sym (take_more tablets i d below)))
