use Rattle.std.proofs.Common.{◌≡◌, arith}
use Rattle.token_ring.proofs.Offsets.{in_range, range_has, second_offset}
use Rattle.token_ring.specs.Ring.{offset, first_offset, last_offset}
use Rattle.token_ring.proofs.Tokens.{range_at_offsets}
use Rattle.token_ring.proofs.ring.range_of.Goals as goal

pub returns-clause-range : goal.returns-clause-range
returns-clause-range c =
    let low : offset c.token_at.result.value ≡ first_offset c.args.log2 c.args.tablet.0 = omega arith in
    let high : offset c.token_at-2.result.value ≡ last_offset c.args.log2 c.args.tablet.0 = omega arith in
    range_at_offsets (record { first = c.token_at.result; last = c.token_at-2.result }) c.args.log2 c.args.tablet.0 low high

pub token_at-requires-2 : goal.token_at-requires-2
token_at-requires-2 c =
    omega (arith, second_offset c.args.log2 c.args.tablet.0 c.start_of-end.result c.requires.divided c.start_of-end.ensures.offsets)

pub returns-clause-tokens : goal.returns-clause-tokens
returns-clause-tokens c =
    let low : offset c.token_at.result.value ≡ first_offset c.args.log2 c.args.tablet.0 = omega arith in
    let high : offset c.token_at-2.result.value ≡ last_offset c.args.log2 c.args.tablet.0 = omega arith in
    λ token. (
      λ h. in_range c.args.log2 c.args.tablet.0 c.token_at.result.value c.token_at-2.result.value token.value c.token_at.result.is_token c.token_at-2.result.is_token token.is_token low high h.0 h.1,
      λ e. range_has c.args.log2 c.args.tablet.0 c.token_at.result.value c.token_at-2.result.value token.value c.token_at.result.is_token c.token_at-2.result.is_token token.is_token low high e,
    )
