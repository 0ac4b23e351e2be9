use Rattle.std.proofs.Common.{◌≡◌, ◌∙◌, IsTrue, List, ap, sym, subst}
use Rattle.term.specs.Specs.{Specified}
use Rattle.shared.specs.Entry.{Entry}
use Rattle.shared.specs.Summary.{Summary}
use Rattle.program.specs.Exits.{replay_exit, rejected_exit}
use Rattle.program.specs.Showings.{IsBeyond, WritesAll}
use Rattle.program.specs.Parts.{HaveNoDisplay, HaveNoDisplayFor}
use Rattle.program.proofs.InParts.{err_and, err_match, no_display, refused_display, written_all}
use Rattle.program.proofs.in_parts.show_parts.Goals as goal

pub returns-in_err-replaying-clause-fault : goal.returns-in_err-replaying-clause-fault
returns-in_err-replaying-clause-fault g c =
    let s = g.F.Folder.state c.args.folder in
    let failed = c.in_err-replaying.field-0.0 in
    err_and c.from_residual.result (λ e. e ≡ failed) (λ e. IsTrue s.claims_bytes → HaveNoDisplay c.args.size s.bytes e) c.from_residual.ensures.1
    (λ e same. subst (λ (x : _). IsTrue s.claims_bytes → HaveNoDisplay c.args.size s.bytes x) (sym same) c.in_err-replaying.ensures.fault)

pub returns-in_err-replaying-clause-only : goal.returns-in_err-replaying-clause-only
returns-in_err-replaying-clause-only g c claims script root spec h is small =
    let failed = c.in_err-replaying.field-0.0 in
    err_match c.from_residual.result (λ e. e ≡ failed) _ IsBeyond c.from_residual.ensures.1 (λ e same. subst IsBeyond (sym same) (c.in_err-replaying.ensures.only claims script root spec h is small))

pub returns-in-Ok-clause-text : goal.returns-in-Ok-clause-text
returns-in-Ok-clause-text g c =
    let r = c.in_ok-replaying.replaying in
    written_all r.taken.spec r.taken.entries c.args.options (g.W.Sink.contents c.args.output.now) (g.W.Sink.contents c.lines_of_parts.new.output) (g.W.Sink.contents c.write_end-written.new.output)
    c.in_ok-replaying.left.items c.summary-summary.result c.summary-summary.ensures c.in_ok-replaying.ensures.text c.in-Ok.ensures.text

pub returns-in-Ok-clause-only : goal.returns-in-Ok-clause-only
returns-in-Ok-clause-only g c claims script root spec h is small =
    let r = c.in_ok-replaying.replaying in
    let old = g.W.Sink.contents c.args.output.now in
    let new = g.W.Sink.contents c.write_end-written.new.output in
    let same = c.in_ok-replaying.ensures.only claims script root spec h is small in
    let all = written_all r.taken.spec r.taken.entries c.args.options old (g.W.Sink.contents c.lines_of_parts.new.output) new
    c.in_ok-replaying.left.items c.summary-summary.result c.summary-summary.ensures c.in_ok-replaying.ensures.text c.in-Ok.ensures.text in (
      same.1,
      subst (λ (l : List Entry). WritesAll spec l c.args.options old new) same.1 (subst (λ (s : Specified). WritesAll s r.taken.entries c.args.options old new) same.0 all),
      c.exit_of.ensures ∙ ap (λ (n : Summary). rejected_exit n.rejected) c.summary-summary.ensures ∙ ap replay_exit same.1,
    )

pub returns-in-Err-clause-fault : goal.returns-in-Err-clause-fault
returns-in-Err-clause-fault g c claims = no_display c.args.size (g.F.Folder.state c.args.folder).bytes c.into.result c.into.ensures.0

pub returns-in_err-replaying-clause-refuses : goal.returns-in_err-replaying-clause-refuses
returns-in_err-replaying-clause-refuses g c claims fault has =
    let files = (g.F.Folder.state c.args.folder).bytes in
    let failed = c.in_err-replaying.field-0.0 in
    err_match c.from_residual.result (λ e. e ≡ failed) _ (HaveNoDisplayFor c.args.size files fault) c.from_residual.ensures.1
    (λ e same. subst (HaveNoDisplayFor c.args.size files fault) (sym same) (refused_display c.args.size files fault failed has (c.in_err-replaying.ensures.fault claims)))

pub returns-in-Ok-clause-refuses : goal.returns-in-Ok-clause-refuses
returns-in-Ok-clause-refuses g c claims fault has = absurd (c.in_ok-replaying.ensures.no_fault claims fault has)

pub returns-in-Err-clause-refuses : goal.returns-in-Err-clause-refuses
returns-in-Err-clause-refuses g c claims fault has = absurd (c.in_ok-replaying.ensures.no_fault claims fault has)
