use Rattle.std.proofs.Common.{◌++◌, codes}
use Rattle.shown.specs.declared.options.Format.TheVariants.{Json}
use Rattle.shown.specs.Names.{set_text}
use Rattle.shown.specs.Coverage.{absent_text}
use Rattle.shown.proofs.Texts.{two_items, when_added}
use Rattle.shown.proofs.coverage.put_json_absent.Goals as goal

pub returns : goal.returns
unfolding absent_text
returns g c =
    let cs = c.args.alphabet.now in
    let last = c.extend_from_slice-3 in
    two_items last.result c.args.text.now.items c.extend_from_slice.new.self.items c.put_set.new.text.items c.extend_from_slice-2.new.self.items c.put_set-2.new.text.items last.new.self.items
    (codes "{\"never_came\":") (set_text Json cs c.args.never) (codes ",\"could_never_come\":") (set_text Json cs c.args.impossible) (codes "}\n")
    c.in_ok-extend_from_slice.ensures.items c.in_ok-put_set.ensures c.in_ok-extend_from_slice-2.ensures.items c.in_ok-put_set-2.ensures
    (when_added last.result c.put_set-2.new.text.items (c.put_set-2.new.text.items ++ codes "}\n") last.new.self.items last.ensures.items)
