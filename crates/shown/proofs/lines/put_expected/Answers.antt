use Rattle.std.proofs.Common.{codes}
use Rattle.shown.specs.Names.{set_text}
use Rattle.shown.specs.Lines.{finding_text}
use Rattle.shown.specs.declared.options.Format.TheVariants.{Json}
use Rattle.shown.proofs.Texts.{after_mark}
use Rattle.shown.proofs.lines.put_expected.Goals as goal

pub returns-in_ok-extend_from_slice-in-Json : goal.returns-in_ok-extend_from_slice-in-Json
unfolding finding_text
returns-in_ok-extend_from_slice-in-Json g c =
    rw c.in-Json.is
    (after_mark c.put_set.result c.args.text.now.items c.extend_from_slice-in-Json.new.self.items c.put_set.new.text.items (codes ",\"verdict\":\"NO\",\"expected\":")
    (set_text Json c.args.alphabet.now c.args.set) c.in_ok-extend_from_slice-in-Json.ensures.items c.put_set.ensures)
