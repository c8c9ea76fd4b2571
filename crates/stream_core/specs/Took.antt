-- What becomes of a chunk.
use Rattle.std.specs.Prelude.{if◌then◌else◌}
use Rattle.stream_core.specs.Pulls.{Pulling, is_next}
use Rattle.stream_core.specs.declared.data.ChunkMsg.{ChunkMsg}
use Rattle.stream_core.specs.declared.pull.Took.{Took}
use Rattle.stream_core.specs.declared.pull.Took.TheVariants.{More, Done, Foreign}

-- the next chunk of a pull is stored, and ends the pull where there are no more; every other one is foreign
abbrev pub took_of : Pulling → ChunkMsg → Took
took_of pull chunk = if is_next pull chunk then (if chunk.more then More else Done) else Foreign
