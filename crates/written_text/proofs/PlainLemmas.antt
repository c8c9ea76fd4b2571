-- Written words have one byte or more, and no spaces or ends of lines.
use Rattle.std.proofs.Common.{Bool, List, None, Option, Some, [], arith, codes, false, if◌then◌else◌, length, map, nat_le, nat_lt, negsuc, pos, refl, true, ℕ, ℤ, ◌&&◌, ◌++◌, ◌+◌, ◌<◌, ◌^◌, ◌∷◌, ◌≡◌, ◌≤◌}
use Rattle.std.proofs.lemmas.Bool.Decides.{nat_tests}
use Rattle.std.proofs.lemmas.Fmt.{decimal_nonempty}
use Rattle.std.proofs.lemmas.List.Elements.{All-head, All-tail}
use Rattle.std.specs.Fmt.{decimal, signed_decimal}
use Rattle.std.specs.List.{All, AllByRecursion, flat_map, list_all}
use Rattle.hex.specs.Hex.{encode_lower}
use Rattle.barrier_core.specs.declared.data.What.{What}
use Rattle.barrier_core.specs.declared.data.What.TheVariants.{Clean as CleanAsked, Done as DoneAsked, Drain as DrainAsked, Fence as FenceAsked, Ready as ReadyAsked}
use Rattle.base_ids.specs.declared.ids.Actor.{Actor}
use Rattle.base_ids.specs.declared.ids.Actor.TheVariants.{Host as ByHost, Lane as ByLane, Topo as ByTopo}
use Rattle.base_ids.specs.declared.ids.HostId.{HostId}
use Rattle.base_ids.specs.declared.ids.LaneId.{LaneId}
use Rattle.base_ids.specs.declared.ids.MsgRef.{MsgRef}
use Rattle.base_ids.specs.declared.ids.Replica.{Replica}
use Rattle.base_ids.specs.declared.ids.TableId.{TableId}
use Rattle.cell_merge.specs.declared.cell.Body.{Body}
use Rattle.cell_merge.specs.declared.cell.Body.TheVariants.{Dead, Live}
use Rattle.cluster_history.specs.Legal.{HasActor, IsFitEvent}
use Rattle.cluster_history.specs.Openings.{HasHost, HasLane, HasPart, IsValidOpening, opening_state}
use Rattle.cluster_history.specs.declared.data.Event.{Event}
use Rattle.cluster_history.specs.declared.data.Event.TheVariants.{Answer, Apply, Ask, Begin, Clean, Hear, Look, Propose, Pull, Quiet, Restart, Serve, Take, TakeChunk, Timeout}
use Rattle.cluster_history.specs.declared.data.Opening.{Opening}
use Rattle.cluster_history.specs.declared.data.Operation.{Operation}
use Rattle.cluster_history.specs.declared.data.Operation.TheVariants.{Read, Write}
use Rattle.schedule_words.specs.Texts.{body_text}
use Rattle.cluster_history.specs.Messages.{level_of}
use Rattle.stage_graph.specs.declared.level.Level.{Level}
use Rattle.stage_graph.specs.declared.level.Level.TheVariants.{One, Two, Three, Quorum, All as AtAll}
use Rattle.schedule_write.specs.Events.{actor_words, spelt_command, event_words, operation_words, spelt_what}
use Rattle.schedule_write.specs.Words.{spelt_host, spelt_lane, reference_word, replica_word, replica_words, spelt_level, spelt_resize, spelt_target}
use Rattle.schedule_write.specs.Written.{first_replicas, header_lines, same_replicas, table_lines, spelt_tablet, tablet_lines}
use Rattle.stage_graph.specs.declared.stage.Stage.{Stage}
use Rattle.stage_graph.specs.declared.stage.Stage.TheVariants.{AllowWriteBothReadOld, Cleanup, CleanupTarget, EndMigration, FallbackCleanup, RevertMigration, Streaming, UseNew, WriteBothReadNew, WriteBothReadOld}
use Rattle.tablet_map.specs.Tablets.{tablet_in}
use Rattle.tablet_map.specs.declared.tablet.Tablet.{Tablet}
use Rattle.text_grammar.specs.Words.{IsDigit}
use Rattle.topo_state.specs.Rules.{IsFit}
use Rattle.topo_state.specs.State.{is_known}
use Rattle.topo_state.specs.declared.command.Command.{Command}
use Rattle.topo_state.specs.declared.command.Command.TheVariants.{Advance, CreateTable, FinalizeResize, Join, Leave, Resize, SetFence, Start}
use Rattle.topo_state.specs.declared.data.ResizeKind.{ResizeKind}
use Rattle.topo_state.specs.declared.data.ResizeKind.TheVariants.{Keep, Merge, Split}
use Rattle.topo_state.specs.declared.data.Table.{Table}
use Rattle.written_text.proofs.FitLemmas.{IsTableFit, IsTabletFit, both, few_tablets}
use Rattle.written_text.proofs.HexLemmas.{lower_bytes}
use Rattle.written_text.proofs.NumeralLemmas.{IsSignOrDigit, all_append, all_weaker, digits_of_decimal, signs_of_signed}
use Rattle.written_text.proofs.PlaceLemmas.{token_fits}
use Rattle.written_text.specs.Fits.{FitsBody, FitsCommand, FitsEvent, FitsOperation, FitsReference, FitsReplica, FitsSigned, FitsWhat}

-- bytes above the space
abbrev pub ArePlain : List ℕ → Type 0
ArePlain bytes = AllByRecursion (λ byte. 33 ≤ byte) bytes

pub record IsPlain (word : List ℕ) : Type 0 where
  pub some : 1 ≤ length word
  pub bytes : ArePlain word

abbrev pub IsPlainLine : List (List ℕ) → Type 0
IsPlainLine words = AllByRecursion IsPlain words

-- ---- known words

abbrev is_plain : List ℕ → Bool
is_plain word = nat_le 1 (length word) && list_all (λ byte. nat_le 33 byte) word

plain_bytes : (bytes : List ℕ) → list_all (λ byte. nat_le 33 byte) bytes ≡ true → ArePlain bytes
plain_bytes [] all = tt
plain_bytes (byte ∷ bytes) all =
    let parts = both (nat_le 33 byte) (list_all (λ b. nat_le 33 b) bytes) all in
    let first : nat_le 33 byte ≡ true = parts.0 in
    (grind (arith, nat_tests), plain_bytes bytes parts.1)

known : (word : List ℕ) → is_plain word ≡ true → IsPlain word
known word is =
    let parts = both (nat_le 1 (length word)) (list_all (λ b. nat_le 33 b) word) is in
    let some : nat_le 1 (length word) ≡ true = parts.0 in
    record { some = grind (arith, nat_tests); bytes = plain_bytes word parts.1 }

-- ---- numbers

digit_plain : (byte : ℕ) → IsDigit byte → 33 ≤ byte
digit_plain byte is = let low : 48 ≤ byte = is.0 in omega arith

sign_plain : (byte : ℕ) → IsSignOrDigit byte → 33 ≤ byte
sign_plain byte is = let low : 45 ≤ byte = is.0 in omega arith

decimal_bytes : (n : ℕ) → n < 2 ^ 64 → ArePlain (decimal n)
decimal_bytes n fits = all_weaker IsDigit (λ byte. 33 ≤ byte) digit_plain (decimal n) (digits_of_decimal n fits)

number_plain : (n : ℕ) → n < 2 ^ 64 → IsPlain (decimal n)
number_plain n fits =
    let some : 0 < length (decimal n) = decimal_nonempty n fits in
    record { some = omega arith; bytes = decimal_bytes n fits }

signed_bytes : (z : ℤ) → FitsSigned z → ArePlain (signed_decimal z)
signed_bytes z fits = all_weaker IsSignOrDigit (λ byte. 33 ≤ byte) sign_plain (signed_decimal z) (signs_of_signed z fits)

signed_plain : (z : ℤ) → FitsSigned z → IsPlain (signed_decimal z)
signed_plain (pos n) fits = number_plain n (omega arith)
signed_plain (negsuc n) fits = record { some = omega arith; bytes = signed_bytes (negsuc n) fits }

-- a number, a separator and another number
longer : (one other : List ℕ) → 1 ≤ length one → 1 ≤ length (one ++ other)
longer [] other some = absurd (omega arith)
longer (byte ∷ one) other some = omega arith

pair_plain : (separator n m : ℕ) → 33 ≤ separator → n < 2 ^ 64 → m < 2 ^ 64 → IsPlain (decimal n ++ separator ∷ decimal m)
pair_plain separator n m high fits small =
    let one : IsPlain (decimal n) = number_plain n fits in
    record {
      some = longer (decimal n) (separator ∷ decimal m) one.some;
      bytes = all_append (λ byte. 33 ≤ byte) (decimal n) (separator ∷ decimal m) one.bytes (high, decimal_bytes m small);
    }

reference_plain : (at : MsgRef) → FitsReference at → IsPlain (reference_word at)
reference_plain at fits =
    let first : at.event < 2 ^ 64 = fits.0 in
    let second : at.out < 2 ^ 32 = fits.1 in
    pair_plain 46 at.event at.out (omega arith) first (omega arith)

replica_plain : (r : Replica) → FitsReplica r → IsPlain (replica_word r)
replica_plain r fits =
    let first : r.host.0 < 2 ^ 16 = fits.0 in
    let second : r.shard.0 < 2 ^ 8 = fits.1 in
    pair_plain 58 r.host.0 r.shard.0 (omega arith) (omega arith) (omega arith)

replicas_plain : (replicas : List Replica) → AllByRecursion FitsReplica replicas → IsPlainLine (replica_words replicas)
replicas_plain [] fits = tt
replicas_plain (r ∷ replicas) fits = (replica_plain r fits.0, replicas_plain replicas fits.1)

cell_plain : (z : ℤ) (body : Body) → FitsSigned z → FitsBody body → IsPlain (body_text z body)
cell_plain z (Live bytes) fits all = record {
  some = omega arith;
  bytes =
      all_append (λ byte. 33 ≤ byte) (codes "live:") (signed_decimal z ++ 58 ∷ encode_lower bytes) (plain_bytes (codes "live:") refl)
      (all_append (λ byte. 33 ≤ byte) (signed_decimal z) (58 ∷ encode_lower bytes) (signed_bytes z fits) (omega arith, lower_bytes bytes all.1));
}
cell_plain z (Dead time) fits few = record {
  some = omega arith;
  bytes =
      all_append (λ byte. 33 ≤ byte) (codes "dead:") (signed_decimal z ++ 58 ∷ decimal time) (plain_bytes (codes "dead:") refl)
      (all_append (λ byte. 33 ≤ byte) (signed_decimal z) (58 ∷ decimal time) (signed_bytes z fits) (omega arith, decimal_bytes time (omega arith)));
}

target_plain : (to : Option Stage) → IsPlain (spelt_target to)
target_plain None = known (codes "none") refl
target_plain (Some AllowWriteBothReadOld) = known (spelt_target (Some AllowWriteBothReadOld)) refl
target_plain (Some WriteBothReadOld) = known (spelt_target (Some WriteBothReadOld)) refl
target_plain (Some Streaming) = known (spelt_target (Some Streaming)) refl
target_plain (Some WriteBothReadNew) = known (spelt_target (Some WriteBothReadNew)) refl
target_plain (Some UseNew) = known (spelt_target (Some UseNew)) refl
target_plain (Some Cleanup) = known (spelt_target (Some Cleanup)) refl
target_plain (Some EndMigration) = known (spelt_target (Some EndMigration)) refl
target_plain (Some FallbackCleanup) = known (spelt_target (Some FallbackCleanup)) refl
target_plain (Some CleanupTarget) = known (spelt_target (Some CleanupTarget)) refl
target_plain (Some RevertMigration) = known (spelt_target (Some RevertMigration)) refl

resize_plain : (kind : ResizeKind) → IsPlain (spelt_resize kind)
resize_plain Split = known (codes "split") refl
resize_plain Merge = known (codes "merge") refl
resize_plain Keep = known (codes "keep") refl

-- ---- events

small_number : (n : ℕ) → n < 2 ^ 32 → IsPlain (decimal n)
small_number n fits = number_plain n (omega arith)

host_plain : (h : HostId) → h.0 < 2 ^ 16 → IsPlain (spelt_host h)
host_plain h fits = number_plain h.0 (omega arith)

operation_plain : (op : Operation) (rest : List (List ℕ)) → FitsOperation op → IsPlainLine rest → IsPlainLine (operation_words op ++ rest)
operation_plain (Write t k c level) rest fits more = (
  known (codes "write") refl,
  (small_number t.0 fits.0, (signed_plain k.value (token_fits k.value k.is_token), (cell_plain c.timestamp c.body fits.1.0 fits.1.1, more))),
)
operation_plain (Read t k level) rest fits more = (
  known (codes "read") refl,
  (small_number t.0 fits, (signed_plain k.value (token_fits k.value k.is_token), more)),
)

level_plain : (level : Level) → IsPlain (spelt_level level)
level_plain One = known (codes "one") refl
level_plain Two = known (codes "two") refl
level_plain Three = known (codes "three") refl
level_plain Quorum = known (codes "quorum") refl
level_plain AtAll = known (codes "all") refl

what_plain : (w : What) → FitsWhat w → IsPlainLine (spelt_what w)
what_plain (DrainAsked v) fits = (known (codes "drain") refl, (number_plain v.0 fits, tt))
what_plain (FenceAsked v) fits = (known (codes "fence") refl, (number_plain v.0 fits, tt))
what_plain (DoneAsked s) fits = (known (codes "done") refl, (number_plain s.0 fits, tt))
what_plain (CleanAsked s) fits = (known (codes "clean") refl, (number_plain s.0 fits, tt))
what_plain (ReadyAsked s) fits = (known (codes "ready") refl, (number_plain s.0 fits, tt))

command_plain : (x : Command) → FitsCommand x → IsFit x → IsPlainLine (spelt_command x)
command_plain (CreateTable t b replicas) fits fit =
    let few : b ≤ 10 = fit.0 in (
      known (codes "create") refl,
      (small_number t.0 fits.0, (number_plain b (omega arith), replicas_plain replicas fits.1)),
    )
command_plain (Start t i f p) fits fit = (
  known (codes "start") refl,
  (small_number t.0 fits.0, (small_number i.0 fits.1, (replica_plain f fits.2, (replica_plain p fits.3, tt)))),
)
command_plain (Advance s to) fits fit = (known (codes "advance") refl, (number_plain s.0 fits, (target_plain to, tt)))
command_plain (SetFence v) fits fit = (known (codes "fence") refl, (number_plain v.0 fits, tt))
command_plain (Join h) fits fit = (known (codes "join") refl, (host_plain h fits, tt))
command_plain (Leave h) fits fit = (known (codes "leave") refl, (host_plain h fits, tt))
command_plain (Resize t kind) fits fit = (known (codes "resize") refl, (small_number t.0 fits, (resize_plain kind, tt)))
command_plain (FinalizeResize t s) fits fit =
    (known (codes "finalize") refl, (small_number t.0 fits.0, (number_plain s.0 fits.1, tt)))

-- the hosts and lanes of the opening are few
pub record IsSmall (opening : Opening) : Type 0 where
  pub hosts : opening.hosts ≤ 256
  pub lanes : opening.lanes ≤ 4

host_there : (opening : Opening) → IsSmall opening → (h : HostId) → HasHost opening h → IsPlain (spelt_host h)
host_there opening small h has =
    let few : opening.hosts ≤ 256 = small.hosts in
    host_plain h (omega arith)

lane_there : (opening : Opening) → IsSmall opening → (l : LaneId) → HasLane opening l → IsPlain (spelt_lane l)
lane_there opening small l has =
    let few : opening.hosts ≤ 256 = small.hosts in
    let least : opening.lanes ≤ 4 = small.lanes in
    let on : l.host.0 < opening.hosts = has.0 in
    let by : l.lane < opening.lanes = has.1 in
    pair_plain 46 l.host.0 l.lane (omega arith) (omega arith) (omega arith)

actor_plain : (opening : Opening) → IsSmall opening → (a : Actor) → HasPart opening a → IsPlainLine (actor_words a)
actor_plain opening small (ByHost h) has = (known (codes "host") refl, (host_there opening small h has, tt))
actor_plain opening small (ByLane l) has = (known (codes "lane") refl, (lane_there opening small l has, tt))
actor_plain opening small (ByTopo h) has = (known (codes "topo") refl, (host_there opening small h has, tt))

pub event_plain : (opening : Opening) → IsSmall opening → (e : Event) → HasActor opening e → IsFitEvent opening e → FitsEvent e → IsPlainLine (event_words e)
event_plain opening small (Begin l op v) has fit fits = (
  known (codes "begin") refl,
  (
    lane_there opening small l has,
    operation_plain op (spelt_level (level_of op) ∷ codes "at" ∷ decimal v.0 ∷ []) fits.0
        (level_plain (level_of op), (known (codes "at") refl, (number_plain v.0 fits.1, tt))),
  ),
)
event_plain opening small (Take l at) has fit fits =
    (known (codes "take") refl, (lane_there opening small l has, (reference_plain at fits, tt)))
event_plain opening small (Timeout l op) has fit fits =
    (known (codes "timeout") refl, (lane_there opening small l has, (number_plain op.0 fits, tt)))
event_plain opening small (Apply h) has fit fits = (known (codes "apply") refl, (host_there opening small h has, tt))
event_plain opening small (Quiet h v) has fit fits =
    (known (codes "quiet") refl, (host_there opening small h has, (number_plain v.0 fits, tt)))
event_plain opening small (Serve h at) has fit fits =
    (known (codes "serve") refl, (host_there opening small h has, (reference_plain at fits, tt)))
event_plain opening small (Answer h at) has fit fits =
    (known (codes "answer") refl, (host_there opening small h has, (reference_plain at fits, tt)))
event_plain opening small (Clean h at) has fit fits =
    (known (codes "clean") refl, (host_there opening small h has, (reference_plain at fits, tt)))
event_plain opening small (Pull h s) has fit fits =
    (known (codes "pull") refl, (host_there opening small h has, (number_plain s.0 fits, tt)))
event_plain opening small (TakeChunk h at) has fit fits =
    (known (codes "chunk") refl, (host_there opening small h has, (reference_plain at fits, tt)))
event_plain opening small (Look h) has fit fits = (known (codes "look") refl, (host_there opening small h has, tt))
event_plain opening small (Ask c h w) has fit fits =
    (known (codes "ask") refl, (host_there opening small c has, (host_there opening small h fit, what_plain w fits)))
event_plain opening small (Hear h at) has fit fits =
    (known (codes "hear") refl, (host_there opening small h has, (reference_plain at fits, tt)))
event_plain opening small (Propose h x) has fit fits =
    (known (codes "propose") refl, (host_there opening small h has, command_plain x fits fit))
event_plain opening small (Restart a) has fit fits = (known (codes "restart") refl, actor_plain opening small a has)

-- ---- the header

known_fits : (opening : Opening) → opening.hosts ≤ 256 → opening.shards ≤ 16 → (replicas : List Replica) → list_all (is_known (opening_state opening)) replicas ≡ true → AllByRecursion FitsReplica replicas
known_fits opening small least [] all = tt
known_fits opening small least (r ∷ replicas) all =
    let parts = both (is_known (opening_state opening) r) (list_all (is_known (opening_state opening)) replicas) all in
    let tests = both (nat_lt r.host.0 opening.hosts) (nat_lt r.shard.0 opening.shards) parts.0 in
    let on : nat_lt r.host.0 opening.hosts ≡ true = tests.0 in
    let of : nat_lt r.shard.0 opening.shards ≡ true = tests.1 in
    let host_few : r.host.0 < opening.hosts = grind (arith, nat_tests) in
    let shard_few : r.shard.0 < opening.shards = grind (arith, nat_tests) in
    ((omega arith, omega arith), known_fits opening small least replicas parts.1)

tablet_plain : (opening : Opening) → opening.hosts ≤ 256 → opening.shards ≤ 16 → (tablet : Tablet) → IsTabletFit opening tablet → IsPlainLine (replica_words tablet.replicas)
tablet_plain opening small least tablet fit =
    replicas_plain tablet.replicas (known_fits opening small least tablet.replicas fit.known)

abbrev pub ArePlainLines : List (List (List ℕ)) → Type 0
ArePlainLines lines = AllByRecursion IsPlainLine lines

pub lines_append : (one other : List (List (List ℕ))) → ArePlainLines one → ArePlainLines other → ArePlainLines (one ++ other)
lines_append [] other all more = more
lines_append (line ∷ one) other all more = (all.0, lines_append one other all.1 more)

tablet_line_plain : (opening : Opening) → opening.hosts ≤ 256 → opening.shards ≤ 16 → (id : TableId) → id.0 < 2 ^ 32 → (usual : List Replica) (at : ℕ) → at < 2 ^ 64 → (tablet : Tablet) → IsTabletFit opening tablet → ArePlainLines (spelt_tablet id usual at tablet)
tablet_line_plain opening small least id fits usual at few tablet fit =
    elim (same_replicas usual tablet.replicas) as (λ (t : Bool). ArePlainLines (if t then [] else (codes "tablet" ∷ decimal id.0 ∷ decimal at ∷ replica_words tablet.replicas) ∷ [])) [
      | true ↦ tt
      | false ↦ ((known (codes "tablet") refl, (small_number id.0 fits, (number_plain at few, tablet_plain opening small least tablet fit))), tt)
    ]

tablets_plain : (opening : Opening) → opening.hosts ≤ 256 → opening.shards ≤ 16 → (id : TableId) → id.0 < 2 ^ 32 → (usual : List Replica) (at : ℕ) (tablets : List Tablet) → at + length tablets < 2 ^ 64 → AllByRecursion (IsTabletFit opening) tablets → ArePlainLines (tablet_lines id usual at tablets)
tablets_plain opening small least id fits usual at [] few fit = tt
tablets_plain opening small least id fits usual at (tablet ∷ tablets) few fit =
    lines_append (spelt_tablet id usual at tablet) (tablet_lines id usual (at + 1) tablets)
    (tablet_line_plain opening small least id fits usual at (omega arith) tablet fit.0)
    (tablets_plain opening small least id fits usual (at + 1) tablets (omega arith) fit.1)

first_plain : (opening : Opening) → opening.hosts ≤ 256 → opening.shards ≤ 16 → (tablets : List Tablet) → AllByRecursion (IsTabletFit opening) tablets → IsPlainLine (replica_words (tablet_in tablets 0).replicas)
first_plain opening small least [] fit = tt
first_plain opening small least (tablet ∷ tablets) fit = tablet_plain opening small least tablet fit.0

tables_plain : (opening : Opening) → opening.hosts ≤ 256 → opening.shards ≤ 16 → (tables : List Table) → AllByRecursion (IsTableFit opening) tables → ArePlainLines (flat_map table_lines tables)
tables_plain opening small least [] fit = tt
tables_plain opening small least (t ∷ tables) fit =
    let log : t.map.log2 ≤ 10 = fit.0.log2 in
    let few : length t.map.list ≤ 1024 = few_tablets (length t.map.list) t.map.log2 log fit.0.count in
    lines_append (table_lines t) (flat_map table_lines tables) (
      (known (codes "table") refl, (small_number t.id.0 fit.0.id, (number_plain t.map.log2 (omega arith), first_plain opening small least t.map.list fit.0.tablets))),
      tablets_plain opening small least t.id fit.0.id (first_replicas t) 0 t.map.list (omega arith) fit.0.tablets,
    )
    (tables_plain opening small least tables fit.1)

members_plain : (hosts : ℕ) → hosts ≤ 256 → (members : List HostId) → All (λ (h : HostId). h.0 < hosts) members → IsPlainLine (map spelt_host members)
members_plain hosts small [] within = tt
members_plain hosts small (h ∷ members) within =
    let few : h.0 < hosts = All-head (λ (x : HostId). x.0 < hosts) h members within in
    (host_plain h (omega arith), members_plain hosts small members (All-tail (λ (x : HostId). x.0 < hosts) h members within))

pub header_plain : (opening : Opening) → IsValidOpening opening → AllByRecursion (IsTableFit opening) opening.tables → ArePlainLines (header_lines opening)
header_plain opening valid fit =
    let hosts : opening.hosts ≤ 256 = valid.topology.hosts.1 in
    let lanes : opening.lanes ≤ 4 = valid.lanes.1 in
    let shards : opening.shards ≤ 16 = valid.topology.shards.1 in (
      (known (codes "tablets") refl, (known (codes "2") refl, tt)),
      (
        (known (codes "hosts") refl, (number_plain opening.hosts (omega arith), tt)),
        (
          (known (codes "lanes") refl, (number_plain opening.lanes (omega arith), tt)),
          (
            (known (codes "shards") refl, (number_plain opening.shards (omega arith), tt)),
            (
              (known (codes "members") refl, members_plain opening.hosts hosts opening.members valid.topology.within),
              lines_append (flat_map table_lines opening.tables) ((codes "go" ∷ []) ∷ [])
                  (tables_plain opening hosts shards opening.tables fit)
                  ((known (codes "go") refl, tt), tt),
            ),
          ),
        ),
      ),
    )
