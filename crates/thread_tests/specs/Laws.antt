-- A diary meets the laws of a world. The proof stands here since the world names it.
use Rattle.std.specs.Prelude.{Bool, List, false, if◌then◌else◌, true, ℕ, ◌&&◌, ◌+◌, ◌==◌, ◌∷◌, ◌≡◌, ◌≤◌}
use Rattle.std.proofs.Common.{ap, arith, refl, subst, sym, ◌∙◌}
use Rattle.base_ids.specs.Names.{same_host, same_lane}
use Rattle.base_ids.specs.declared.ids.Actor.TheVariants.{Host as ByHost, Lane as ByLane}
use Rattle.base_ids.specs.declared.ids.HostId.{HostId}
use Rattle.base_ids.specs.declared.ids.LaneId.{LaneId}
use Rattle.base_ids.specs.declared.ids.Version.{Version}
use Rattle.book_rule.proofs.Following.{host_by, later-least}
use Rattle.base_ids.proofs.NameLemmas.{same_host-refl, same_host-same}
use Rattle.book_rule.specs.World.{IsBelow, IsForeign, IsQuiet, Kind, Laws, begins, begun, later, plain, proposes, quiets, raised}
use Rattle.thread_tests.specs.Diary.{author, enabled, floor, kind, live, meaning, version}
use Rattle.thread_tests.specs.declared.diary.Line.{Line}
use Rattle.thread_tests.specs.declared.diary.Line.TheVariants.{Begin, Note, Quiet, Reach, Say}

-- the version that a kind names
abbrev version_in : Kind ℕ ℕ → Version
version_in plain = record { 0 = 0 }
version_in (begins v) = v
version_in (quiets v) = v
version_in (proposes c o) = record { 0 = 0 }

stays :
    (o : ℕ) (history : List Line) (d mine : Line) →
    IsForeign meaning o history d (author mine) →
    kind mine ≡ plain →
    enabled history mine →
    enabled (d ∷ history) mine
stays o history d (Note by text) f is next = tt
stays o history d (Reach host steps) f is next = tt
stays o history d (Begin lane from) f is next = cc
stays o history d (Quiet host raised) f is next = cc
stays o history d (Say topo command told) f is next = cc

-- a host's version after it has moved on, or another has
abbrev moved : Bool → Version → ℕ → Version
moved own at steps = if own then record { 0 = at.0 + steps } else at

moved_up : (own : Bool) (at : Version) (steps : ℕ) → at.0 ≤ (moved own at steps).0
moved_up true at steps = omega arith
moved_up false at steps = omega arith

version_up :
    (history : List Line) (d : Line) (host : HostId) → (version history host).0 ≤ (version (d ∷ history) host).0
version_up history (Note by text) host = omega arith
version_up history (Reach other steps) host = moved_up (same_host other host) (version history host) steps
version_up history (Begin lane from) host = omega arith
version_up history (Quiet other raised) host = omega arith
version_up history (Say topo command told) host = omega arith

-- a host's floor after it has raised it, or another has
abbrev lifted : Bool → Version → Version → Version
lifted own at up = if own then later at up else at

lifted_low :
    (own : Bool) (at up v : Version) → (own ≡ true → up.0 ≤ v.0) → at.0 ≤ v.0 → (lifted own at up).0 ≤ v.0
lifted_low true at up v below le = later-least at up v le (below refl)
lifted_low false at up v below le = le

floor_low :
    (history : List Line) (d : Line) (host : HostId) (v : Version) →
    (author d ≡ ByHost host → IsBelow (kind d) v) →
    (floor history host).0 ≤ v.0 →
    (floor (d ∷ history) host).0 ≤ v.0
floor_low history (Note by text) host v below le = le
floor_low history (Reach other steps) host v below le = le
floor_low history (Begin lane from) host v below le = le
floor_low history (Quiet other up) host v below le =
    let own : same_host other host ≡ true → up.0 ≤ v.0 =
    λ e. below (ap ByHost (same_host-same other host e)) in
    lifted_low (same_host other host) (floor history host) up v own le
floor_low history (Say topo command told) host v below le = le

begin_stays :
    (o : ℕ) (history : List Line) (d mine : Line) (lane : LaneId) (v : Version) →
    IsForeign meaning o history d (ByLane lane) →
    author mine ≡ ByLane lane →
    kind mine ≡ begins v →
    (author d ≡ ByHost lane.host → IsBelow (kind d) v) →
    enabled history mine →
    enabled (d ∷ history) mine
begin_stays o history d (Note by text) lane v f whose is below next = cc
begin_stays o history d (Reach host steps) lane v f whose is below next = cc
begin_stays o history d (Quiet host raised) lane v f whose is below next = cc
begin_stays o history d (Say topo command told) lane v f whose is below next = cc
begin_stays o history d (Begin other from) lane v f whose is below next =
    let same : other.host ≡ lane.host = ap host_by whose in
    let from_is : from ≡ v = ap version_in is in
    let under : author d ≡ ByHost other.host → IsBelow (kind d) from =
    λ e. subst (λ (x : Version). IsBelow (kind d) x) (sym from_is) (below (e ∙ ap ByHost same)) in
    let up = version_up history d other.host in
    let low = floor_low history d other.host from under next.0 in
    let n = next.1 in
    (low, omega arith)

floor_stays :
    (o : ℕ) (history : List Line) (d : Line) (host : HostId) →
    IsForeign meaning o history d (ByHost host) →
    floor (d ∷ history) host ≡ floor history host
floor_stays o history (Note by text) host f = refl
floor_stays o history (Reach other steps) host f = refl
floor_stays o history (Begin lane from) host f = refl
floor_stays o history (Quiet other up) host f = ap (λ t. lifted t (floor history host) up) f.apart
floor_stays o history (Say topo command told) host f = refl

version_stays :
    (o : ℕ) (history : List Line) (d : Line) (host : HostId) →
    IsForeign meaning o history d (ByHost host) →
    version (d ∷ history) host ≡ version history host
version_stays o history (Note by text) host f = refl
version_stays o history (Reach other steps) host f = ap (λ t. moved t (version history host) steps) f.apart
version_stays o history (Begin lane from) host f = refl
version_stays o history (Quiet other raised) host f = refl
version_stays o history (Say topo command told) host f = refl

-- how many requests are live after one has begun, by whether its lane and its version are these
abbrev counted : Bool → Bool → ℕ → ℕ
counted own same count = if own && same then count + 1 else count

live_stays :
    (o : ℕ) (history : List Line) (d : Line) (lane : LaneId) (at : Version) →
    IsForeign meaning o history d (ByLane lane) →
    live (d ∷ history) lane at ≡ live history lane at
live_stays o history (Note by text) lane at f = refl
live_stays o history (Reach other steps) lane at f = refl
live_stays o history (Begin other from) lane at f =
    ap (λ t. counted t (from.0 == at.0) (live history lane at)) f.apart
live_stays o history (Quiet other raised) lane at f = refl
live_stays o history (Say topo command told) lane at f = refl

floor_next :
    (history : List Line) (d : Line) (host : HostId) →
    author d ≡ ByHost host →
    floor (d ∷ history) host ≡ raised (kind d) (floor history host)
floor_next history (Note by text) host is = refl
floor_next history (Reach other steps) host is = refl
floor_next history (Begin lane from) host is = refl
floor_next history (Quiet other up) host is =
    let own : same_host other host ≡ true = ap (λ h. same_host h host) (ap host_by is) ∙ same_host-refl host in
    ap (λ t. lifted t (floor history host) up) own
floor_next history (Say topo command told) host is = refl

counted_most : (own same : Bool) (count : ℕ) → counted own same count ≤ count + (if same then 1 else 0)
counted_most true true count = omega arith
counted_most true false count = omega arith
counted_most false true count = omega arith
counted_most false false count = omega arith

live_next :
    (history : List Line) (d : Line) (lane : LaneId) (at : Version) →
    live (d ∷ history) lane at ≤ live history lane at + begun (kind d) at
live_next history (Note by text) lane at = omega arith
live_next history (Reach other steps) lane at = omega arith
live_next history (Begin other from) lane at =
    counted_most (same_lane other lane) (from.0 == at.0) (live history lane at)
live_next history (Quiet other up) lane at = omega arith
live_next history (Say topo command told) lane at = omega arith

quiet_next :
    (o : ℕ) (history : List Line) (mine : Line) (host : HostId) (v : Version) →
    author mine ≡ ByHost host →
    kind mine ≡ quiets v →
    v.0 ≤ (version history host).0 →
    IsQuiet meaning o history host v →
    enabled history mine
quiet_next o history (Note by text) host v whose is reached quiet = cc
quiet_next o history (Reach other steps) host v whose is reached quiet = cc
quiet_next o history (Begin lane from) host v whose is reached quiet = cc
quiet_next o history (Say topo command told) host v whose is reached quiet = cc
quiet_next o history (Quiet other up) host v whose is reached quiet =
    let said : HostId × Version → Type 0 = λ y. enabled history (Quiet y.0 y.1) in
    subst said (λ i. (ap host_by (sym whose) i, ap version_in (sym is) i)) (reached, quiet)

pub laws : Laws meaning
laws =
    record {
      proposer = λ o history topo command outcome may. refl;
      fit = λ o history topo command may. tt;
      proposed = λ topo command outcome. refl;
      stays = stays;
      proposal_stays = λ o history d topo command f may. tt;
      begin_stays = begin_stays;
      log_first = λ o. refl;
      log_next = λ o history d legal next. refl;
      look_stays = λ o history d topo f. refl;
      proposal_next = λ o history topo command legal may. refl;
      floor_first = λ o host. refl;
      version_first = λ o host. refl;
      live_first = λ o lane at. refl;
      floor_stays = floor_stays;
      version_stays = version_stays;
      live_stays = live_stays;
      version_rises = λ o history d host legal next is. version_up history d host;
      floor_next = λ o history d host legal next is. floor_next history d host is;
      live_next = λ o history d lane at legal next is. live_next history d lane at;
      quiet_next = λ o history mine host v legal inside whose is reached quiet.
          quiet_next o history mine host v whose is reached quiet;
      snapshot_there = λ o history host v legal one reached. (o, refl);
    }
