-- The live requests of a table, as callers see them.
use Rattle.std.specs.Prelude.{ℕ, ◌==◌, Bool, List, [], ◌∷◌, Option, if◌then◌else◌, nat_lt, map}
use Rattle.std.specs.List.{list_any}
use Rattle.std.specs.Map.{lookup, remove_entry, values_of}
use Rattle.base_ids.specs.declared.OpId.{OpId}
use Rattle.base_ids.specs.declared.Version.{Version}
use Rattle.request_table.specs.declared.Live.{Live}

-- the live requests as they began one after the other, each under its number, and the number that has room
pub record Requests (P O : Type 0) : Type 0 where
  pub live : List (OpId × Live P O)
  pub room : Option OpId

abbrev pub is_same_request : OpId → OpId → Bool
is_same_request op other = op.0 == other.0

module _ {P O : Type 0} where
  -- the live request of this number
  abbrev pub request_of : List (OpId × Live P O) → OpId → Option (Live P O)
  request_of live op = lookup (is_same_request op) live

  -- the others, in their order
  abbrev pub without : List (OpId × Live P O) → OpId → List (OpId × Live P O)
  without live op = remove_entry (is_same_request op) live

  -- the same requests, the one of this number with other work
  abbrev pub with_work : List (OpId × Live P O) → OpId → O → List (OpId × Live P O)
  with_work [] op work = []
  with_work (r ∷ rs) op work = if is_same_request op r.0 then (r.0, record r.1 { work = work }) ∷ rs
      else r ∷ with_work rs op work

  -- the versions of the live requests, as these began one after the other
  abbrev pub versions_of : List (OpId × Live P O) → List ℕ
  versions_of live = map (λ request. request.version.0) (values_of live)

  -- some live request is of a version below this one
  abbrev pub is_live_below : List (OpId × Live P O) → Version → Bool
  is_live_below live version = list_any (λ other. nat_lt other version.0) (versions_of live)
