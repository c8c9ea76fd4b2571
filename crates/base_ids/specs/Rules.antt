-- The words by which rules and limits are printed.
use Rattle.std.specs.Prelude.{ℕ, List, codes}
use Rattle.base_ids.specs.declared.rules.EventRule.{EventRule}
use Rattle.base_ids.specs.declared.rules.EventRule.TheVariants.{BelowFloor, AboveVersion, LaneFull, NoMessage, WrongMessage, NoRequest, NothingToApply, VersionAhead, LiveBelow, NotTrue, NoStream, PullOver, NoEvidence, NoDone, NoCleaned, NoReady}
use Rattle.base_ids.specs.declared.rules.LimitName.{LimitName}
use Rattle.base_ids.specs.declared.rules.LimitName.TheVariants.{Input, Hosts, Lanes, Shards, Tables, Log2, Tablets, Replicas, Value, Events, Log}

abbrev pub event_rule_word : EventRule → List ℕ
event_rule_word BelowFloor = codes "BelowFloor"
event_rule_word AboveVersion = codes "AboveVersion"
event_rule_word LaneFull = codes "LaneFull"
event_rule_word NoMessage = codes "NoMessage"
event_rule_word WrongMessage = codes "WrongMessage"
event_rule_word NoRequest = codes "NoRequest"
event_rule_word NothingToApply = codes "NothingToApply"
event_rule_word VersionAhead = codes "VersionAhead"
event_rule_word LiveBelow = codes "LiveBelow"
event_rule_word NotTrue = codes "NotTrue"
event_rule_word NoStream = codes "NoStream"
event_rule_word PullOver = codes "PullOver"
event_rule_word NoEvidence = codes "NoEvidence"
event_rule_word NoDone = codes "NoDone"
event_rule_word NoCleaned = codes "NoCleaned"
event_rule_word NoReady = codes "NoReady"

abbrev pub limit_word : LimitName → List ℕ
limit_word Input = codes "input"
limit_word Hosts = codes "hosts"
limit_word Lanes = codes "lanes"
limit_word Shards = codes "shards"
limit_word Tables = codes "tables"
limit_word Log2 = codes "log2"
limit_word Tablets = codes "tablets"
limit_word Replicas = codes "replicas"
limit_word Value = codes "value"
limit_word Events = codes "events"
limit_word Log = codes "log"
