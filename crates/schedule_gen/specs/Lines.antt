-- The lines of a schedule.
use Rattle.std.specs.Prelude.{ℕ, List, [], ◌∷◌, ◌++◌, Option, None, Some, codes}
use Rattle.std.specs.Fmt.{decimal, signed_decimal}
use Rattle.hex.specs.Hex.{encode_lower}
use Rattle.rand_pcg.specs.Lcg.{Lcg}
use Rattle.stage_graph.specs.declared.stage.Stage.{Stage}
use Rattle.stage_graph.specs.declared.stage.Stage.TheVariants.{AllowWriteBothReadOld, WriteBothReadOld, Streaming, WriteBothReadNew, UseNew, Cleanup, EndMigration, FallbackCleanup, CleanupTarget, RevertMigration}
use Rattle.stage_graph.specs.Words.{word}
use Rattle.schedule_gen.specs.Draws.{drawn_number, drawn_token}

-- Five hosts with a lane each, and table 1 with four tablets of three replicas.
unfoldable pub header : List ℕ
header =
    codes "tablets 1\n"
    ++ codes "hosts 5\n"
    ++ codes "lanes 1\n"
    ++ codes "table 1 2 0:0 1:0 2:0\n"
    ++ codes "tablet 1 1 1:0 2:0 3:0\n"
    ++ codes "tablet 1 2 2:0 3:0 4:0\n"
    ++ codes "tablet 1 3 3:0 4:0 0:0\n"
    ++ codes "go\n"

-- A client asks a drawn host to write, read or delete at a drawn token. What is written is a drawn byte, and the
-- timestamp is the number of the round.
abbrev pub write_line : ℕ → Lcg → List ℕ
write_line round generator =
    codes "do " ++ (decimal (drawn_number 0 5 generator)
    ++ (codes ".0 write 1 " ++ (signed_decimal (drawn_token (drawn_number 1 64 generator))
    ++ (codes " live:" ++ (decimal round
    ++ (codes ":" ++ (encode_lower (drawn_number 2 256 generator ∷ []) ++ codes "\n")))))))

abbrev pub read_line : Lcg → List ℕ
read_line generator =
    codes "do " ++ (decimal (drawn_number 0 5 generator)
    ++ (codes ".0 read 1 " ++ (signed_decimal (drawn_token (drawn_number 1 64 generator)) ++ codes "\n")))

abbrev pub delete_line : ℕ → Lcg → List ℕ
delete_line round generator =
    codes "do " ++ (decimal (drawn_number 0 5 generator)
    ++ (codes ".0 write 1 " ++ (signed_decimal (drawn_token (drawn_number 1 64 generator))
    ++ (codes " dead:" ++ (decimal round ++ (codes ":" ++ (decimal round ++ codes "\n")))))))

-- A move of the tablet starts, from a leaving to a pending host.
abbrev pub start_line : ℕ → ℕ → ℕ → List ℕ
start_line tablet leaving pending =
    codes "step 0 start 1 " ++ (decimal tablet
    ++ (codes " " ++ (decimal leaving ++ (codes ":0 " ++ (decimal pending ++ codes ":0\n")))))

-- the word of the stage that a move goes to, or the one that ends it
abbrev pub written_target : Option Stage → List ℕ
written_target None = codes "none"
written_target (Some stage) = word stage

-- what has to be done before a move goes to a stage: cells are streamed before the pending replica is read, and the
-- leaving one is cleaned before the end
abbrev pub before_advance : ℕ → Option Stage → List ℕ
before_advance session None = []
before_advance session (Some AllowWriteBothReadOld) = []
before_advance session (Some WriteBothReadOld) = []
before_advance session (Some Streaming) = []
before_advance session (Some WriteBothReadNew) = codes "stream 0 " ++ (decimal session ++ codes "\n")
before_advance session (Some UseNew) = []
before_advance session (Some Cleanup) = []
before_advance session (Some EndMigration) = codes "tidy 0 " ++ (decimal session ++ codes "\n")
before_advance session (Some FallbackCleanup) = []
before_advance session (Some CleanupTarget) = []
before_advance session (Some RevertMigration) = []

-- A move goes to a stage, or ends.
abbrev pub advance_lines : ℕ → Option Stage → List ℕ
advance_lines session to =
    before_advance session to
    ++ (codes "step 0 advance " ++ (decimal session ++ (codes " " ++ (written_target to ++ codes "\n"))))
