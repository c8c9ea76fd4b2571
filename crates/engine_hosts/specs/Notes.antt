-- What a host keeps of its own entries, and of what it published.
use Rattle.std.specs.Prelude.{List, [], if◌then◌else◌, ℕ, ◌++◌, ◌+◌, ◌∷◌, ◌≡◌}
use Rattle.base_ids.specs.Names.{same_session}
use Rattle.base_ids.specs.declared.ids.HostId.{HostId}
use Rattle.base_ids.specs.declared.ids.Session.{Session}
use Rattle.base_ids.specs.declared.ids.Version.{Version}
use Rattle.host_core.specs.declared.data.HostInput.{HostInput}
use Rattle.host_core.specs.declared.data.HostInput.TheVariants.{Pull as PullInput, TakeChunk as ChunkInput}
use Rattle.plan_facts.specs.Own.{chunk_count, pull_count}
use Rattle.engine_desk.specs.Chairs.{Known}

-- the sessions of its pull events and of the chunks that it took, one for each; and the version that it published last
pub record NotesView : Type 0 where
  pub pulls : List Session
  pub chunks : List Session
  pub published : Version

abbrev pub first_notes : Version → NotesView
first_notes published = record { pulls = []; chunks = []; published = published }

-- how often the session stands in the list
abbrev pub times_in : Session → List Session → ℕ
times_in session [] = 0
times_in session (other ∷ sessions) = (if same_session other session then 1 else 0) + times_in session sessions

-- what an event with this input adds
abbrev pub input_noted : HostInput → NotesView → NotesView
input_noted (PullInput session) notes = record notes { pulls = notes.pulls ++ session ∷ [] }
input_noted (ChunkInput chunk) notes = record notes { chunks = notes.chunks ++ chunk.session ∷ [] }
input_noted input notes = notes

abbrev pub publish_noted : Version → NotesView → NotesView
publish_noted version notes = record notes { published = version }

abbrev pub next_version : Version → Version
next_version version = record { 0 = version.0 + 1 }

-- each is what the history says, and the version is the one that was published
pub record IsNoted (known : Known) (host : HostId) (notes : NotesView) : Type 0 where
  pub pulls_are : (session : Session) → times_in session notes.pulls ≡ pull_count known.seen host session
  pub chunks_are : (session : Session) → times_in session notes.chunks ≡ chunk_count known.seen host session
  pub published_is : notes.published ≡ known.published
