-- The opening of a sound header is valid.
use Rattle.std.proofs.Common.{◌≡◌, ℕ, zero, suc, ◌+◌, ◌<◌, ◌≤◌, not, nat_lt, true, false, [], ◌∷◌, ◌++◌, length, Option, Some, None, refl, sym, ap, subst, ◌∙◌, arith}
use Rattle.std.specs.List.{All}
use Rattle.std.specs.Prelude.{IfSome, is_some, is_none, unwrap_or}
use Rattle.std.proofs.lemmas.Bool.Decides.{nat_tests}
use Rattle.std.proofs.lemmas.List.{length-append}
use Rattle.std.proofs.lemmas.List.Elements.{All-nil, All-push, All-weaker}
use Rattle.base_ids.specs.declared.ids.HostId.{HostId}
use Rattle.base_ids.specs.declared.ids.TableId.{TableId}
use Rattle.tablet_map.specs.declared.tablet.Tablet.{Tablet}
use Rattle.tablet_map.specs.declared.tablet.Transition.{Transition}
use Rattle.topo_state.specs.declared.data.Table.{Table}
use Rattle.topo_state.specs.declared.data.Resize.{Resize}
use Rattle.topo_state.specs.State.{distinct_members, is_on_member}
use Rattle.topo_state.specs.Rules.{is_bad_resize}
use Rattle.topo_state.specs.Sound.{HasMembers, IsOnMembers, IsTable, IsTopology}
use Rattle.topo_state.specs.Openings.{is_still, is_undecided, IsOpening}
use Rattle.cluster_history.specs.Openings.{IsValidOpening, opening_state}
use Rattle.schedule_header.specs.Header.{Header, host_count, shard_count, members_of, hosts_under, opening_of}
use Rattle.schedule_header.specs.Sound.{AreMembers, Ground, ground_of, IsPlaced, IsTableHere, IsSoundHeader}
use Rattle.schedule_header.proofs.ListLemmas.{member_behind, all_pass}
use Rattle.schedule_header.proofs.MemberLemmas.{below}
use Rattle.schedule_header.proofs.TableLemmas.{found_here}

-- ---- all hosts as members

hosts_length : (n : ℕ) → length (hosts_under n) ≡ n
hosts_length zero = refl
hosts_length (suc n) =
    let last : HostId = record { 0 = n } in
    let more : length (hosts_under n ++ last ∷ []) ≡ length (hosts_under n) + length (last ∷ []) = length-append (hosts_under n) (last ∷ []) in
    let before : length (hosts_under n) ≡ n = hosts_length n in
    omega arith

not_below : (n : ℕ) → nat_lt n n ≡ false
not_below n = grind (arith, nat_tests)

hosts_once : (n : ℕ) → distinct_members (hosts_under n) ≡ true
hosts_once zero = refl
hosts_once (suc n) =
    let last : HostId = record { 0 = n } in
    member_behind (hosts_under n) last (hosts_once n) (below n last ∙ not_below n)

hosts_within : (n : ℕ) → All (λ (h : HostId). h.0 < n) (hosts_under n)
hosts_within zero = All-nil (λ (h : HostId). h.0 < 0)
hosts_within (suc n) =
    let last : HostId = record { 0 = n } in
    All-push (λ (h : HostId). h.0 < suc n) (hosts_under n) last (All-weaker (λ (h : HostId). h.0 < n) (λ (h : HostId). h.0 < suc n) (λ h less. omega arith) (hosts_under n) (hosts_within n)) (omega arith)

pub all_members : (n : ℕ) → 1 ≤ n → AreMembers n (hosts_under n)
all_members n some =
    let count : length (hosts_under n) ≡ n = hosts_length n in
    record { some = omega arith; once = hosts_once n; within = hosts_within n }

-- ---- what is said, or holds where it is left out

said_or : {X : Type 0} (P : X → Type 0) (o : Option X) (d : X) → IfSome o P → P d → P (unwrap_or o d)
said_or P (Some x) d said other = said
said_or P None d said other = other

said_so : {X : Type 0} (P : X → Type 0) (o : Option X) (d : X) → IfSome o P → is_some o ≡ true → P (unwrap_or o d)
said_so P (Some x) d said some = said
said_so P None d said some = absurd (cc)

-- ---- the tables

still_there : (ground : Ground) (t : Tablet) → IsPlaced ground t → is_still t ≡ true
still_there ground t placed = ap (λ (o : Option Transition). not (elim o [ None ↦ false | Some x ↦ true ])) placed.rests

on_members : (ground : Ground) (t : Tablet) → IsPlaced ground t → IsOnMembers ground.members t
on_members ground t placed = record {
  replicas = placed.replicas.here;
  pending = subst (λ (o : Option Transition). IfSome o (λ x. is_on_member ground.members x.pending ≡ true)) (sym placed.rests) tt;
}

undecided_there : (ground : Ground) (t : Table) → IsTableHere ground t → is_undecided t ≡ true
undecided_there ground t here = ap (λ (o : Option Resize). is_none o) here.undecided

table_there : (ground : Ground) (t : Table) → IsTableHere ground t → IsTable ground.members t
table_there ground t here = record {
  map = here.map;
  here = All-weaker (IsPlaced ground) (IsOnMembers ground.members) (on_members ground) t.map.list here.tablets;
  decided = subst (λ (o : Option Resize). IfSome o (λ d. is_bad_resize d.kind t.map.log2 ≡ false)) (sym here.undecided) tt;
}

-- ---- the opening

sound_topology : (header : Header) → IsSoundHeader header → HasMembers (opening_state (opening_of header)) → IsTopology (opening_state (opening_of header))
sound_topology header sound members = record {
  members = members;
  distinct = sound.distinct;
  few = sound.few;
  tablets = sound.tablets;
  each = λ (id : TableId) (t : Table) e. table_there (ground_of header) t (found_here (IsTableHere (ground_of header)) header.tables id t sound.each e);
}

is_opening : (header : Header) → IsSoundHeader header → (1 ≤ host_count header) × (host_count header ≤ 256) → IsOpening (opening_state (opening_of header))
is_opening header sound hosts =
    let ground = ground_of header in
    let members : AreMembers (host_count header) (members_of header) = said_or (AreMembers (host_count header)) header.members (hosts_under (host_count header)) sound.members (all_members (host_count header) hosts.0) in
    let shards : (1 ≤ shard_count header) × (shard_count header ≤ 16) = said_or (λ (n : ℕ). (1 ≤ n) × (n ≤ 16)) header.shards 1 sound.shards (omega arith, omega arith) in
    record {
      version = refl;
      fence = refl;
      before = refl;
      hosts = hosts;
      shards = shards;
      some = members.some;
      once = members.once;
      within = members.within;
      known = all_pass (IsTableHere ground) _ (λ t here. all_pass (IsPlaced ground) _ (λ x placed. placed.replicas.known) t.map.list here.tablets) header.tables sound.each;
      still = all_pass (IsTableHere ground) _ (λ t here. all_pass (IsPlaced ground) is_still (still_there ground) t.map.list here.tablets) header.tables sound.each;
      undecided = all_pass (IsTableHere ground) is_undecided (undecided_there ground) header.tables sound.each;
      sound = sound_topology header sound (record { shards = shards.0; once = members.once; within = members.within });
    }

pub valid : (header : Header) → IsSoundHeader header → is_some header.hosts ≡ true → is_some header.lanes ≡ true → IsValidOpening (opening_of header)
valid header sound hosts lanes = record {
  lanes = said_so (λ (n : ℕ). (1 ≤ n) × (n ≤ 4)) header.lanes 0 sound.lanes lanes;
  topology = is_opening header sound (said_so (λ (n : ℕ). (1 ≤ n) × (n ≤ 256)) header.hosts 0 sound.hosts hosts);
}
