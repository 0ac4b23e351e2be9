use Rattle.std.proofs.Common.{◌≡◌, None, get_or, sym, ◌∙◌, arith}
use Rattle.std.proofs.lemmas.List.{get_or_read}
use Rattle.transitions.proofs.by_number.ListsByNumber.get.Goals as goal

pub slice_bounds-result-count : goal.slice_bounds-result-count
slice_bounds-result-count g c =
    let ps = c.self.inside.places.items in
    let is : c.index.result.now ≡ get_or ps c.args.number None = get_or_read ps c.args.number c.index.result.now (omega (arith, c.len.ensures, c.if-place-len.false)) c.index.ensures None in
    (c.self.invariant c.args.number (c.in-Some.from, c.in-Some.to) (sym is ∙ c.in-Some.is)).0

pub slice_bounds-result-start : goal.slice_bounds-result-start
slice_bounds-result-start g c =
    let ps = c.self.inside.places.items in
    let is : c.index.result.now ≡ get_or ps c.args.number None = get_or_read ps c.args.number c.index.result.now (omega (arith, c.len.ensures, c.if-place-len.false)) c.index.ensures None in
    let within = c.self.invariant c.args.number (c.in-Some.from, c.in-Some.to) (sym is ∙ c.in-Some.is) in
    omega (arith, within.0, within.1)

pub slice_bounds-result-end : goal.slice_bounds-result-end
slice_bounds-result-end g c =
    let ps = c.self.inside.places.items in
    let is : c.index.result.now ≡ get_or ps c.args.number None = get_or_read ps c.args.number c.index.result.now (omega (arith, c.len.ensures, c.if-place-len.false)) c.index.ensures None in
    let within = c.self.invariant c.args.number (c.in-Some.from, c.in-Some.to) (sym is ∙ c.in-Some.is) in
    omega (arith, within.0, within.1, c.deref.ensures.value, c.deref.ensures.len)
