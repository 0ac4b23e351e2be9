use Rattle.std.proofs.Common.{◌++◌, codes, map}
use Rattle.shown.specs.Names.{joined, set_text}
use Rattle.shown.specs.Lines.{finding_text}
use Rattle.shown.specs.declared.options.Format.TheVariants.{Json}
use Rattle.shown.proofs.Texts.{when_added, within_marks}
use Rattle.shown.proofs.lines.put_offered.Goals as goal

pub returns-in_ok-put_list-in-Json : goal.returns-in_ok-put_list-in-Json
unfolding finding_text
returns-in_ok-put_list-in-Json g c =
    rw c.in-Json.is
    (within_marks c.extend_from_slice-in-Json-2.result c.args.text.now.items c.extend_from_slice-in-Json.new.self.items c.put_list.new.text.items c.extend_from_slice-in-Json-2.new.self.items
    (codes ",\"verdict\":\"NO\",\"acceptances\":[") (joined (codes ",") (map (set_text Json c.args.alphabet.now) c.args.sets.now)) (codes "]")
    c.in_ok-extend_from_slice-in-Json.ensures.items c.in_ok-put_list-in-Json.ensures
    (when_added c.extend_from_slice-in-Json-2.result c.put_list.new.text.items (c.put_list.new.text.items ++ codes "]") c.extend_from_slice-in-Json-2.new.self.items c.extend_from_slice-in-Json-2.ensures.items))
