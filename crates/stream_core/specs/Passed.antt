-- Which tokens a pull has passed, and which a chunk covers.
use Rattle.std.specs.Prelude.{◌≡◌, Bool, true, false, not, ◌&&◌, ◌||◌, int_le, Option, Some, None}
use Rattle.token_ring.specs.declared.token.Token.{Token}
use Rattle.replica_store.specs.Cells.{Cells, IsOrdered, cell_at, stored_at, is_within, is_above}
use Rattle.stream_core.specs.declared.data.ChunkAsk.{ChunkAsk}
use Rattle.stream_core.specs.declared.data.ChunkMsg.{ChunkMsg}
use Rattle.stream_core.specs.Pulls.{Pulling, last_token, pull_after, served_chunk}

-- a token is not above the last one that there is
abbrev pub is_upto : Option Token → Token → Bool
is_upto None token = false
is_upto (Some last) token = int_le token.value last.value

-- the pull has all of its range up to this token
abbrev pub has_passed : Pulling → Token → Bool
has_passed pull token = pull.done || is_upto pull.after token

-- of the tokens of the range, a chunk covers those above its `after`: where more cells follow up to its last token,
-- else all of them
abbrev pub covers : ChunkMsg → Token → Bool
covers chunk token = is_above chunk.after token && (not chunk.more || is_upto (last_token None chunk.cells) token)

-- a chunk covers the token, and has the cell there that the source has, or none where it has none
pub record HasCell (source : Cells) (ask : ChunkAsk) (chunk : ChunkMsg) (token : Token) : Type 0 where
  pub covered : covers chunk token ≡ true
  pub cell : stored_at chunk.cells token ≡ cell_at source ask.table token

-- the chunk that a source sends for an ask has the source's cell at each token of the range that it covers
abbrev pub ChunkHasCells : Type 0
ChunkHasCells =
    (source : Cells) (ask : ChunkAsk) (token : Token)
    → IsOrdered source
    → is_within ask.table ask.range ask.table token ≡ true
    → covers (served_chunk source ask) token ≡ true
    → stored_at (served_chunk source ask).cells token ≡ cell_at source ask.table token

-- where a chunk that a source sent for the pull's range lets the pull pass a token of the range, the chunk covers the
-- token and has the source's cell there
abbrev pub PassedIsCovered : Type 0
PassedIsCovered =
    (source : Cells) (ask : ChunkAsk) (pull : Pulling) (token : Token)
    → IsOrdered source
    → is_within ask.table ask.range ask.table token ≡ true
    → has_passed pull token ≡ false
    → has_passed (pull_after pull (served_chunk source ask)) token ≡ true
    → HasCell source ask (served_chunk source ask) token
