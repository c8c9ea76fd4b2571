-- Real readers and writers: what is told of them, the counts that are kept beside them, and what a call does to them.
use Rattle.std.specs.Prelude.{◌≡◌, ℕ, ◌≤◌, Bool, true, false, List, [], length, take, Option, None, Some, refl}
use Rattle.std.specs.Coded.{Coded, code_by, coded×, coded_ℕ}
use Rattle.std.specs.Io.KnownBytes.{Appends}
use Rattle.fault_io.specs.declared.reading.Taken.{Taken}
use Rattle.fault_io.specs.declared.reading.Taken.TheVariants.{Got, End, Failed}
use Rattle.fault_io.specs.declared.writing.Placed.{Placed}
use Rattle.fault_io.specs.declared.writing.Placed.TheVariants.{Took, Failed as PutFailed}
use Rattle.fault_io.specs.Counts.{raised_by}

-- ---- readers and writers

-- what is told of a reader
pub record InAccount : Type 0 where
  -- the bytes that its reads will give from here on, where they are known
  pub remaining : Option (List ℕ)
  -- how many reads have failed
  pub failures : ℕ

-- what is told of a writer
pub record OutAccount : Type 0 where
  -- the bytes that it holds, where they are known
  pub contents : Option (List ℕ)
  -- how many bytes were written, and how many of them were there at the last flush that did not fail
  pub written : ℕ
  pub flushed : ℕ
  -- how many writes and flushes have failed
  pub failures : ℕ

-- the bytes that a read gave: none where it failed
abbrev pub bytes_read : Option ℕ → List ℕ → List ℕ
bytes_read (Some n) buffer = take n buffer
bytes_read None buffer = []

-- the count of failures after a read or a write
abbrev pub failures_after : ℕ → Option ℕ → ℕ
failures_after failures (Some n) = failures
failures_after failures None = raised_by failures 1

-- the counts of failures and of bytes flushed after a flush that succeeded or failed
abbrev pub failures_after_flush : ℕ → Bool → ℕ
failures_after_flush failures true = failures
failures_after_flush failures false = raised_by failures 1

abbrev pub flushed_after : OutAccount → Bool → ℕ
flushed_after before true = before.written
flushed_after before false = before.flushed

-- a reader of std, and how many of its reads failed
pub record ReaderState (R : Type 0) : Type 0 where
  pub reader : R
  pub failures : ℕ

-- such a state is stored as the two
abbrev pub reader_code : {R : Type 0} → Coded R → Coded (ReaderState R)
reader_code {R} code =
    code_by (R × ℕ) (coded× code coded_ℕ) (λ s. (s.reader, s.failures))
    (λ p. record { reader = p.0; failures = p.1 }) (λ _. refl)

-- a writer of std, how many bytes were written and flushed, and how many of its calls failed
pub record WriterState (W : Type 0) : Type 0 where
  pub writer : W
  pub written : ℕ
  pub flushed : ℕ
  pub failures : ℕ

-- such a state is stored as the four
abbrev pub writer_code : {W : Type 0} → Coded W → Coded (WriterState W)
writer_code {W} code =
    code_by (W × (ℕ × (ℕ × ℕ))) (coded× code (coded× coded_ℕ (coded× coded_ℕ coded_ℕ)))
    (λ s. (s.writer, (s.written, (s.flushed, s.failures))))
    (λ p. record { writer = p.0; written = p.1.0; flushed = p.1.1.0; failures = p.1.1.1 }) (λ _. refl)

-- ---- as sources and sinks

-- a reader as a source: how many bytes it gave, and how many calls there were
pub record RealSource (R : Type 0) : Type 0 where
  pub reader : R
  pub given : ℕ
  pub calls : ℕ

-- such a source is stored as the three
abbrev pub source_code : {R : Type 0} → Coded R → Coded (RealSource R)
source_code {R} code =
    code_by (R × (ℕ × ℕ)) (coded× code (coded× coded_ℕ coded_ℕ)) (λ s. (s.reader, (s.given, s.calls)))
    (λ p. record { reader = p.0; given = p.1.0; calls = p.1.1 }) (λ _. refl)

-- the reader's failures after an answer of the source: one more at a failure, and no more else
abbrev pub failures_after_next : ℕ → Taken → ℕ
failures_after_next failures (Got n) = failures
failures_after_next failures End = failures
failures_after_next failures Failed = raised_by failures 1

-- the writer's failures after an answer of the sink: one more at a failure, and no more else
abbrev pub failures_after_put : ℕ → Placed → ℕ
failures_after_put failures (Took n) = failures
failures_after_put failures PutFailed = raised_by failures 1

-- a writer whose bytes are known has a front part of these behind them
abbrev pub AppendsFront : Option (List ℕ) → Option (List ℕ) → List ℕ → Type 0
AppendsFront before after bytes = (n : ℕ) × (n ≤ length bytes) × Appends before after (take n bytes)

-- the bytes were written after those before them, and all that was written is flushed
pub record WritesFlushed (before after : OutAccount) (bytes : List ℕ) : Type 0 where
  pub appended : Appends before.contents after.contents bytes
  pub count : after.written ≡ raised_by before.written (length bytes)
  pub flushed : after.flushed ≡ after.written

-- what was written at an answer: what was taken, which is flushed too; or some front part, where the call failed
abbrev pub Writes : Placed → OutAccount → OutAccount → List ℕ → Type 0
Writes (Took n) before after piece = WritesFlushed before after (take n piece)
Writes PutFailed before after piece = AppendsFront before.contents after.contents piece
