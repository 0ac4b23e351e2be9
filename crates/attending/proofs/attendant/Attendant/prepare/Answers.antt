use Rattle.std.proofs.Common.{List, None, Option, sym, subst, ◌∙◌}
use Rattle.term.specs.Specs.{Specified}
use Rattle.session.specs.Entry.{Entry}
use Rattle.attending.specs.Preparing.{IsReady, Prepares, standing}
use Rattle.attending.proofs.attendant.Attendant.prepare.Goals as goal

pub returns-clause-ready : goal.returns-clause-ready
returns-clause-ready g c =
    let a = c.answer_line-quit.new.self in
    let n = c.let_go.new.alone.session in
    subst (λ (s : Specified). IsReady a.manner s n.history a.monitor a.whole) (sym c.let_go.ensures.spec)
    (subst (λ (h : List Entry). IsReady a.manner a.alone.session.spec h a.monitor a.whole) (sym c.let_go.ensures.history) c.answer_line-quit.ensures.ready)

pub returns-clause-prepares : goal.returns-clause-prepares
returns-clause-prepares g c =
    let s = c.args.self.now in
    let a = c.answer_line-quit.new.self in
    let n = c.let_go.new.alone.session in
    let old = standing s.alone.session.history s.alone.session.failed s.tally s.lines s.whole None in
    subst (λ (h : List Entry). Prepares s.manner s.alone.session.spec old c.args.line.now (standing h n.failed a.tally a.lines a.whole None) a.reply.items a.said.items) (sym c.let_go.ensures.history)
    (subst (λ (f : Option Entry). Prepares s.manner s.alone.session.spec old c.args.line.now (standing a.alone.session.history f a.tally a.lines a.whole None) a.reply.items a.said.items) (sym c.let_go.ensures.failed) c.answer_line-quit.ensures.prepares)
