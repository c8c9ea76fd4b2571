-- The facts that were heard, and what they show.
use Rattle.std.specs.Prelude.{Bool, false, ◌==◌, ◌&&◌, ◌||◌, not, nat_lt, if◌then◌else◌, List, [], ◌∷◌, ◌++◌, filter, Option, Some, None}
use Rattle.std.specs.List.{list_any, list_all}
use Rattle.base_ids.specs.declared.ids.HostId.{HostId}
use Rattle.base_ids.specs.declared.ids.Version.{Version}
use Rattle.base_ids.specs.Names.{same_host, same_session}
use Rattle.barrier_core.specs.declared.data.What.{What}
use Rattle.barrier_core.specs.declared.data.What.TheVariants.{Drain, Fence as FenceAt, Done, Clean as CleanOf, Ready}
use Rattle.barrier_core.specs.declared.data.Fact.{Fact}
use Rattle.barrier_core.specs.declared.data.Told.{Told}
use Rattle.barrier_core.specs.declared.data.Mode.{Mode}
use Rattle.barrier_core.specs.declared.data.Mode.TheVariants.{Drained, Fenced}

-- the same kind of fact, of the same version or session
abbrev pub same_what : What → What → Bool
same_what (Drain a) (Drain b) = a.0 == b.0
same_what (FenceAt a) (FenceAt b) = a.0 == b.0
same_what (Done a) (Done b) = same_session a b
same_what (CleanOf a) (CleanOf b) = same_session a b
same_what (Ready a) (Ready b) = same_session a b
same_what a b = false

-- the same fact, told by the same host
abbrev pub same_told : Told → Told → Bool
same_told a b = same_host a.from b.from && same_what a.what b.what

-- the host has told it
abbrev pub has_told : List Told → What → HostId → Bool
has_told facts what host = list_any (same_told (record { from = host; what = what })) facts

-- some host has told it
abbrev pub is_told : List Told → What → Bool
is_told facts what = list_any (λ (told : Told). same_what what told.what) facts

-- a list of kinds has it
abbrev pub has_kind : List What → What → Bool
has_kind kinds what = list_any (same_what what) kinds

-- each host of a list has told it
abbrev pub all_told : List Told → What → List HostId → Bool
all_told facts what hosts = list_all (has_told facts what) hosts

-- the facts, the newest first, and one more in front; what the host has told before is not noted twice
abbrev pub noted_facts : List Told → Fact → List Told
noted_facts facts fact =
    if has_told facts fact.what fact.from then facts else record { from = fact.from; what = fact.what } ∷ facts

-- ---- barriers

-- what a host tells of a version in each mode
abbrev pub fact_of : Mode → Version → What
fact_of Drained version = Drain version
fact_of Fenced version = FenceAt version

-- all hosts of both lists have told it in this one mode
abbrev pub is_complete_by : Mode → List Told → Version → List HostId → List HostId → Bool
is_complete_by mode facts version members before =
    all_told facts (fact_of mode version) members && all_told facts (fact_of mode version) before

-- all hosts of both lists have drained the version, or all have fenced it: to drain a version is to let no request
-- below it begin or live, and to fence it is to refuse each one below it
abbrev pub is_complete : List Told → Version → List HostId → List HostId → Bool
is_complete facts version members before =
    is_complete_by Drained facts version members before || is_complete_by Fenced facts version members before

-- which of the two it is: drained where both are
abbrev pub complete_mode : List Told → Version → List HostId → List HostId → Option Mode
complete_mode facts version members before =
    if is_complete_by Drained facts version members before then Some Drained
    else if is_complete_by Fenced facts version members before then Some Fenced
    else None

-- ---- hosts that are waited for

-- the host of the lesser number
abbrev pub lesser_host : Option HostId → Option HostId → Option HostId
lesser_host None b = b
lesser_host (Some a) None = Some a
lesser_host (Some a) (Some b) = Some (if nat_lt b.0 a.0 then b else a)

-- the host of the least number
abbrev pub least_host : List HostId → Option HostId
least_host [] = None
least_host (host ∷ rest) = lesser_host (Some host) (least_host rest)

-- the least host of a list that has not told it
abbrev pub least_without : List Told → What → List HostId → Option HostId
least_without facts what hosts = least_host (filter (λ host. not (has_told facts what host)) hosts)

-- the least host of both lists that has not told of the version in this mode
abbrev pub first_without : List Told → Mode → Version → List HostId → List HostId → Option HostId
first_without facts mode version members before = least_without facts (fact_of mode version) (members ++ before)
