use Rattle.std.proofs.Common.{refl}
use Rattle.book_rule.proofs.Seating.{closes, joins, opens, splits}
use Rattle.book_rule.proofs.laws.law_seats.Goals as goal

pub returns : goal.returns
returns g c = λ about. let m = g.W.World.meaning in let laws = g.met.W.World.laws in
    record {
      first = λ world book its empty. opens m about laws book _ refl its empty;
      split = splits m about;
      join = λ id other view part o rest ended known is it. joins m about id other view part o rest ended known is it;
      end = λ id view o rest ended words slots written is all final at. closes m about id view o rest ended words slots is all final written at;
    }
