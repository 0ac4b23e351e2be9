use Rattle.std.proofs.Common.{◌++◌, decimal, codes}
use Rattle.program.proofs.Fields.{where-ok, first-field, next-field, last-piece}
use Rattle.program.proofs.summaries.add_json.Goals as goal

pub returns : goal.returns
returns g c =
    let old = c.args.line.now.items in
    let s = c.args.summary in
    let judged = codes "{\"judged\":" ++ decimal s.judged in
    let events = judged ++ codes ",\"events\":" ++ decimal s.events in
    let refusals = events ++ codes ",\"refusals\":" ++ decimal s.refusals in
    let rejected = refusals ++ codes ",\"rejected\":" ++ decimal s.rejected in
    let one = c.add_field.new.line.items in
    let two = c.add_field-2.new.line.items in
    let three = c.add_field-3.new.line.items in
    let four = c.add_field-4.new.line.items in
    let end = codes ",\"closed\":false}\n" in
    let has-one = first-field old one (codes "{\"judged\":") (decimal s.judged) c.in_ok-add_field.ensures in
    let has-two = next-field old judged one two (codes ",\"events\":") (decimal s.events) has-one c.in_ok-add_field-2.ensures in
    let has-three = next-field old events two three (codes ",\"refusals\":") (decimal s.refusals) has-two c.in_ok-add_field-3.ensures in
    let has-four = next-field old refusals three four (codes ",\"rejected\":") (decimal s.rejected) has-three c.in_ok-add_field-4.ensures in
    where-ok c.extend_from_slice.result c.extend_from_slice.new.self.items (four ++ end) four _ c.extend_from_slice.ensures.items (λ e. last-piece old rejected four c.extend_from_slice.new.self.items end has-four e)
