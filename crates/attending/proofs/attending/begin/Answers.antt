use Rattle.session.specs.Entries.{events}
use Rattle.attending.proofs.AttendLemmas.{some_ready, stands_first}
use Rattle.attending.proofs.attending.begin.Goals as goal

pub attendant_of-requires-clause-ready : goal.attendant_of-requires-clause-ready
attendant_of-requires-clause-ready g c =
    let s = c.args.session in
    let o = c.in-Ok.monitor in
    record {
      wanted = c.in-Ok.ensures.wanted;
      stands = λ e. some_ready o s.spec (events s.history) (stands_first o s.spec s.history c.requires.none.0 (c.in-Ok.ensures.stands s.spec c.requires.read));
    }
