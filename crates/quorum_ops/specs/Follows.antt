-- What a client that repairs its reads does after a reply.
use Rattle.std.specs.Prelude.{Some, None}
use Rattle.quorum_ops.specs.declared.data.Reply.{Reply}
use Rattle.quorum_ops.specs.declared.data.Reply.TheVariants.{Read}
use Rattle.quorum_ops.specs.declared.follow.Follow.{Follow}
use Rattle.quorum_ops.specs.declared.follow.Follow.TheVariants.{WriteBack, Answered, Ended}

abbrev pub follow_up : Reply → Follow
follow_up (Read (Some cell)) = WriteBack cell
follow_up (Read None) = Answered
follow_up reply = Ended
