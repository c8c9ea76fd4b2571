use Rattle.std.proofs.Common.{◌≡◌, ℕ, List, sym, subst, None, Some, ◌∷◌, [], ◌++◌}
use Rattle.std.proofs.lemmas.Bool.Decides.{Decides-eqb}
use Rattle.std.proofs.lemmas.Slice.Eq.{strip_suffix_is}
use Rattle.text_grammar.proofs.CutLemmas.{return_none, return_passed}
use Rattle.text_grammar.proofs.lines.without_return.Goals as goal

pub returns-in-None : goal.returns-in-None
returns-in-None c =
    let end : c.as_slice.result.now ≡ 13 ∷ [] = c.as_slice.ensures in
    sym (return_none c.args.line.now (subst (λ (x : List ℕ). (front : List ℕ) → c.args.line.now ≡ front ++ x → ⊥) end
    (strip_suffix_is Decides-eqb c.args.line.now c.as_slice.result.now None c.in-None.ensures.cases)))

pub returns-in-Some : goal.returns-in-Some
returns-in-Some c =
    let end : c.as_slice.result.now ≡ 13 ∷ [] = c.as_slice.ensures in
    sym (return_passed c.in-Some.front.now c.args.line.now (subst (λ (x : List ℕ). c.args.line.now ≡ c.in-Some.front.now ++ x) end
    (strip_suffix_is Decides-eqb c.args.line.now c.as_slice.result.now (Some c.in-Some.front) c.in-Some.ensures.cases)))
