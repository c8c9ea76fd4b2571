use Rattle.std.proofs.Common.{◌∙◌}
use Rattle.std.proofs.lemmas.List.{drop-replicate}
use Rattle.cell_merge.proofs.bytes.Bytes64.new.Goals as goal

pub invariant_of-result : goal.invariant_of-result
invariant_of-result c = record {
  size = c.fill_front.ensures.size;
  fits = c.if-bytes-gt-MAX.false;
  rest = c.fill_front.ensures.rest ∙ drop-replicate _ _ _;
}
