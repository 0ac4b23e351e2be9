use Rattle.std.proofs.Common.{◌∙◌, ◌++◌, ap, is_ok, if◌then◌else◌}
use Rattle.shown.specs.Names.{ending}
use Rattle.shown.proofs.Texts.{when_added}
use Rattle.shown.proofs.EntryLines.{lined}
use Rattle.shown.proofs.entries.put_entry.Goals as goal

pub returns-clause-line : goal.returns-clause-line
returns-clause-line g c =
    let last = c.extend_from_slice in
    let e = c.args.entry.now in
    lined last.result c.args.format c.args.legal.now.spec c.alphabet.result.now c.args.legal.now.entries e c.args.place c.get.result
    c.args.text.now.items c.put_head.new.text.items c.put_report.new.text.items c.put_finding.new.text.items last.new.self.items
    c.requires.place c.get.ensures.number (c.alphabet.ensures ∙ ap (λ s. s.alphabet) c.spec.ensures) c.in_ok-put_head.ensures c.in_ok-put_report.ensures c.in_ok-put_finding.ensures.finding
    (when_added last.result c.put_finding.new.text.items (c.put_finding.new.text.items ++ ending c.args.format) last.new.self.items
    (last.ensures.items ∙ ap (λ m. if is_ok last.result then c.put_finding.new.text.items ++ m else c.put_finding.new.text.items) c.ending.ensures))
