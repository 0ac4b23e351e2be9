use Rattle.std.proofs.Common.{◌≡◌, ◌≤◌, ◌+◌, ◌^◌, length}
use Rattle.locked.specs.Legal.{limit_of}
use Rattle.shared.proofs.turns.offer_all.Given as goal

-- the first reports were taken
abbrev pub invariant-loop-report : goal.invariant-loop-report
invariant-loop-report g l = record {
  count : l.count ≡ l.report-index;
  counted : l.part.amount ≡ l.fn.part.amount + l.count;
  parts : l.part.parts ≡ l.fn.part.parts;
  entries : length l.locked.entries ≡ length l.fn.locked.entries + l.count;
  limit : length l.locked.entries ≤ limit_of g.N.Naming.spec.names;
  small : length l.locked.entries ≤ 2 ^ 62;
  numbers : l.number + l.count ≤ 4294967295;
  settled : l.locked.settled ≡ l.fn.locked.settled;
}
