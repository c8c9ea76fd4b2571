-- How a chunk is gathered.
use Rattle.std.proofs.Common.{◌≡◌, ◌⊎◌, ◌↔◌, ℕ, suc, ◌+◌, ◌-◌, Option, Some, [], ◌∷◌, get_or, ◌<◌, ◌≤◌, Bool, false, IsTrue, List, ◌++◌, length, take, inl, inr, arith, ap, sym, ◌∙◌}
use Rattle.std.proofs.lemmas.List.{take_all}
use Rattle.std.proofs.Math.Seq.{take-append-add}
use Rattle.std.proofs.lemmas.Bool.{cases_lt}
use Rattle.token_ring.specs.declared.token.Token.{Token}
use Rattle.replica_store.specs.declared.store.Stored.{Stored}
use Rattle.stream_core.specs.Pulls.{most_cells, last_token}

-- the list and what is left are all, and there is room for more
pub record IsGathering (all list left : List Stored) (room : ℕ) : Type 0 where
  pub whole : list ++ left ≡ all
  pub count : length list + room ≡ most_cells
  pub some : 1 ≤ room

-- what was lent makes up the first cells of all, where it is all that is left or all that there is room for
pub all_taken : (all list left cells : List Stored) (room : ℕ) → IsGathering all list left room → cells ≡ take (length cells) left → length cells ≤ room → (length left ≤ length cells) ⊎ (room ≤ length cells) → list ++ cells ≡ take most_cells all
all_taken all list left cells room gathering prefix most which =
    let short : take (length cells) left ≡ take room left =
    elim which [
      | inl ended ↦ take_all (length cells) left ended ∙ sym (take_all room left (omega arith))
      | inr full ↦ let same : length cells ≡ room = omega arith in ap (λ n. take n left) same
    ] in
    ap (λ (cs : List Stored). list ++ cs) (prefix ∙ short)
    ∙ sym (take-append-add list left room)
    ∙ ap (λ n. take n (list ++ left)) gathering.count
    ∙ ap (take most_cells) gathering.whole

pub not_more : (more : Bool) (n m : ℕ) → more ≡ false → IsTrue more ↔ (n < m) → m ≤ n
not_more more n m ended told =
    elim (cases_lt n m) [
      | inl below ↦ let wrong : IsTrue more = told.1 below in cc
      | inr above ↦ above
    ]

-- the last token of cells is that of the last one
pub last_token-last : (after : Option Token) (cells : List Stored) (last : Stored) → 0 < length cells → last ≡ get_or cells (length cells - 1) last → Some last.token ≡ last_token after cells
last_token-last after [] last some is_last = absurd (omega arith)
last_token-last after (stored ∷ []) last some is_last = ap (λ (s : Stored). Some s.token) is_last
last_token-last after (stored ∷ next ∷ rest) last some is_last =
    let count : length (stored ∷ next ∷ rest) - 1 ≡ suc (length (next ∷ rest) - 1) = omega arith in
    last_token-last (Some stored.token) (next ∷ rest) last (omega arith) (is_last ∙ ap (λ n. get_or (stored ∷ next ∷ rest) n last) count)
