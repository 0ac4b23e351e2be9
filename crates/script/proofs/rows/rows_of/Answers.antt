use Rattle.std.proofs.Common.{refl, arith}
use Rattle.script.proofs.Copies.{rows_more, rows_all, rows_few}
use Rattle.script.proofs.rows.rows_of.Goals as goal

pub loop-number-preserved : goal.loop-number-preserved
loop-number-preserved g c =
    rows_more c.args.alphabet.now c.loop-number.number _ c.loop-number.rows.items c.push.new.self.items c.in_ok-row_of.field-0 c.loop-number.invariant (omega (arith, c.loop-number-test.true, c.len-count.ensures.count)) refl c.in_ok-row_of.ensures c.in_ok-push.ensures.items

pub returns-clause-few : goal.returns-clause-few
returns-clause-few g c =
    rows_few c.args.alphabet.now 256 c.loop-number.rows.items (rows_all c.args.alphabet.now c.loop-number.number c.loop-number.rows.items c.loop-number.invariant (omega (arith, c.loop-number-test.false, c.len-count.ensures.count))) (omega (arith, c.len-count.ensures.count, c.len-count.ensures.limit))
