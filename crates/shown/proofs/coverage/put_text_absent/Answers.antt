use Rattle.std.proofs.Common.{◌++◌, codes}
use Rattle.alphabet.specs.EventSets.{members}
use Rattle.shown.specs.Lines.{listed}
use Rattle.shown.specs.Coverage.{absent_text}
use Rattle.shown.proofs.Texts.{two_items, when_added}
use Rattle.shown.proofs.coverage.put_text_absent.Goals as goal

pub returns : goal.returns
unfolding absent_text
returns g c =
    let cs = c.args.alphabet.now in
    let last = c.extend_from_slice-3 in
    two_items last.result c.args.text.now.items c.extend_from_slice.new.self.items c.put_listed.new.text.items c.extend_from_slice-2.new.self.items c.put_listed-2.new.text.items last.new.self.items
    (codes "never came:") (listed cs (members c.args.never)) (codes "; could never come:") (listed cs (members c.args.impossible)) (codes "\n")
    c.in_ok-extend_from_slice.ensures.items c.in_ok-put_listed.ensures c.in_ok-extend_from_slice-2.ensures.items c.in_ok-put_listed-2.ensures
    (when_added last.result c.put_listed-2.new.text.items (c.put_listed-2.new.text.items ++ codes "\n") last.new.self.items last.ensures.items)
