-- A source and a sink in memory: their states, and what a call answers and leaves.
use Rattle.std.specs.Prelude.{ℕ, Bool, ◌-◌, ◌==◌, ◌&&◌, if◌then◌else◌, nat_lt, min, List, ◌++◌, length, take, drop}
use Rattle.std.specs.List.{list_any}
use Rattle.fault_io.specs.declared.reading.Taken.{Taken}
use Rattle.fault_io.specs.declared.reading.Taken.TheVariants.{Got, End, Failed}
use Rattle.fault_io.specs.declared.writing.Placed.{Placed}
use Rattle.fault_io.specs.declared.writing.Placed.TheVariants.{Took, Failed as PutFailed}
use Rattle.fault_io.specs.Counts.{raised_by}

-- what is known of a source in memory
pub record SourceState : Type 0 where
  -- the bytes that are left
  pub left : List ℕ
  -- how many bytes a call gives at most
  pub piece : ℕ
  -- the numbers of the calls that fail
  pub fail_at : List ℕ
  -- how many calls there were, how many of them failed, and how many bytes they gave
  pub calls : ℕ
  pub faults : ℕ
  pub given : ℕ

-- what is known of a sink in memory
pub record SinkState : Type 0 where
  -- the bytes that were taken
  pub content : List ℕ
  -- how many bytes a call takes at most, and how many all calls take
  pub piece : ℕ
  pub room : ℕ
  -- the numbers of the calls that fail
  pub fail_at : List ℕ
  -- how many calls there were, and how many of them failed
  pub calls : ℕ
  pub faults : ℕ

-- whether the next call is one that is to fail: calls are numbered from 1
abbrev pub is_failing : List ℕ → ℕ → Bool
is_failing fail_at calls = list_any (λ call. call == raised_by calls 1) fail_at

-- what a source answers to a buffer with this room
abbrev pub source_answer : SourceState → ℕ → Taken
source_answer s room =
    if is_failing s.fail_at s.calls then Failed else
    if length s.left == 0 then End else Got (min (min s.piece room) (length s.left))

-- the source after that answer
abbrev pub source_after : SourceState → Taken → SourceState
source_after s (Got n) =
    record s { left = drop n s.left; calls = raised_by s.calls 1; given = raised_by s.given n }
source_after s End = record s { calls = raised_by s.calls 1 }
source_after s Failed = record s { calls = raised_by s.calls 1; faults = raised_by s.faults 1 }

-- how many bytes of a piece a sink has room for
abbrev pub fitting : SinkState → ℕ → ℕ
fitting s length_of_piece = min (min s.piece length_of_piece) (s.room - length s.content)

-- what a sink answers to a piece of this length
abbrev pub sink_answer : SinkState → ℕ → Placed
sink_answer s length_of_piece =
    if is_failing s.fail_at s.calls then PutFailed else
    if nat_lt 0 length_of_piece && (fitting s length_of_piece == 0) then PutFailed else Took (fitting s length_of_piece)

-- the sink after that answer to a piece
abbrev pub sink_after : SinkState → List ℕ → Placed → SinkState
sink_after s piece (Took n) = record s { content = s.content ++ take n piece; calls = raised_by s.calls 1 }
sink_after s piece PutFailed = record s { calls = raised_by s.calls 1; faults = raised_by s.faults 1 }
