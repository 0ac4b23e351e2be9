use Rattle.std.proofs.Common.{◌∙◌, ◌++◌, ap, codes}
use Rattle.shown.proofs.Texts.{when_added}
use Rattle.shown.proofs.ReasonLines.{reasoned}
use Rattle.shown.proofs.reasons.put_reason.Goals as goal

pub returns : goal.returns
returns g c before is =
    let spec = c.args.monitor.now.spec in
    reasoned c.extend_from_slice-3.result spec c.alphabet.result.now before c.args.line c.args.place c.args.report.now
    c.args.text.now.items c.put_marked.new.text.items c.extend_from_slice.new.self.items c.put_report.new.text.items c.put_marked-2.new.text.items c.extend_from_slice-2.new.self.items c.put_why.new.text.items c.extend_from_slice-3.new.self.items
    (c.alphabet.ensures ∙ ap (λ s. s.alphabet) c.spec.ensures) c.in_ok-put_marked.ensures c.in_ok-extend_from_slice.ensures.items c.in_ok-put_report.ensures c.in_ok-put_marked-2.ensures c.in_ok-extend_from_slice-2.ensures.items
    (c.in_ok-put_why.ensures before is)
    (when_added c.extend_from_slice-3.result c.put_why.new.text.items (c.put_why.new.text.items ++ codes "\n") c.extend_from_slice-3.new.self.items c.extend_from_slice-3.ensures.items)
