use Rattle.std.proofs.Common.{◌∷◌, [], List, Bool, false, get_or, subst}
use Rattle.shared.specs.Turns.{CameTo}
use Rattle.shared.proofs.Rounds.{one_came, single}
use Rattle.shared.proofs.share.Share.report.Goals as goal

pub returns-in-None-clause-answered : goal.returns-in-None-clause-answered
returns-in-None-clause-answered g c =
    let spec = g.N.Naming.spec in
    let vs : List Bool = c.turn-round.new.verdicts in
    let r = c.args.report in
    let t = c.turn-round in
    let came : CameTo spec c.args.self.now (r ∷ []) (get_or vs 0 false ∷ []) t.result.count t.result.place t.result.fault t.new.self =
    subst (λ (l : List Bool). CameTo spec c.args.self.now (r ∷ []) l t.result.count t.result.place t.result.fault t.new.self) (single vs t.ensures.room) t.ensures.came in
    (one_came spec c.args.self.now t.new.self r (get_or vs 0 false) t.result.count t.result.place t.result.fault came).0 c.in-None.is
