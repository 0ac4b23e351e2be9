use Rattle.std.proofs.Common.{codes}
use Rattle.shown.specs.Names.{set_text}
use Rattle.shown.specs.Lines.{report_text}
use Rattle.shown.specs.declared.options.Format.TheVariants.{Json}
use Rattle.shown.proofs.Texts.{after_mark}
use Rattle.shown.proofs.lines.put_report.Goals as goal

pub returns-in_ok-extend_from_slice-in-Json-Refusal : goal.returns-in_ok-extend_from_slice-in-Json-Refusal
unfolding report_text
returns-in_ok-extend_from_slice-in-Json-Refusal g c =
    rw (c.in-Json-Refusal.is-0, c.in-Json-Refusal.is-1)
    (after_mark c.put_set.result c.args.text.now.items c.extend_from_slice-in-Json-Refusal.new.self.items c.put_set.new.text.items (codes "\"report\":\"refusal\",\"events\":")
    (set_text Json c.args.alphabet.now c.in-Json-Refusal.set) c.in_ok-extend_from_slice-in-Json-Refusal.ensures.items c.put_set.ensures)
