use Rattle.std.proofs.Common.{◌≡◌, ◌<◌, [], Some, length, get_or, slice_get, sym, ap, ◌∙◌, subst}
use Rattle.spaces.specs.Known.{lists_of}
use Rattle.spaces.proofs.Entering.{list-at}
use Rattle.spaces.proofs.found.numbers_of.Goals as goal

pub returns-in-Some : goal.returns-in-Some
returns-in-Some g c =
    let es = c.args.sets.now.entries in
    let e : Some (c.in-Some.numbers.now, c.in-Some.field-0-1.now) ≡ slice_get es c.number.result = rw c.in-Some.is at c.get_index.ensures.entry in
    c.as_slice.ensures.value ∙ sym (list-at es c.number.result (c.in-Some.numbers.now, c.in-Some.field-0-1.now) e) ∙ ap (λ k. get_or (lists_of es) k []) c.number.ensures

pub returns-in-None : goal.returns-in-None
returns-in-None g c =
    let some = c.get_index.ensures.found.1 (subst (λ k. k < length c.args.sets.now.entries) (sym c.number.ensures) c.requires) in
    let none = rw c.in-None.is at some in
    absurd (cc)
