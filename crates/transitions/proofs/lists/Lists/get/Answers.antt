use Rattle.std.proofs.Common.{◌≡◌, ℕ, List, Some, nat_eq, ap, sym, ◌∙◌, arith}
use Rattle.std.specs.Map.{lookup}
use Rattle.std.specs.Prelude.{option_map, slice_range}
use Rattle.transitions.specs.Lists.{listed}
use Rattle.transitions.proofs.Listing.{listed-at}
use Rattle.transitions.proofs.lists.Lists.get.Goals as goal

pub offset_bounds-deref-from : goal.offset_bounds-deref-from
offset_bounds-deref-from g c =
    let within = c.self.invariant c.args.key c.in-Some.field-0.now (sym c.in-Some.ensures.value) in
    omega (arith, within.0, within.1, c.deref.ensures.value, c.deref.ensures.len)

pub slice_bounds-result-count : goal.slice_bounds-result-count
slice_bounds-result-count g c = (c.self.invariant c.args.key c.in-Some.field-0.now (sym c.in-Some.ensures.value)).0

pub slice_bounds-result-start : goal.slice_bounds-result-start
slice_bounds-result-start g c = let within = c.self.invariant c.args.key c.in-Some.field-0.now (sym c.in-Some.ensures.value) in omega (arith, within.0, within.1)

pub slice_bounds-result-end : goal.slice_bounds-result-end
slice_bounds-result-end g c = let within = c.self.invariant c.args.key c.in-Some.field-0.now (sym c.in-Some.ensures.value) in omega (arith, within.0, within.1, c.deref.ensures.value, c.deref.ensures.len)

pub returns-in-Some : goal.returns-in-Some
returns-in-Some g c =
    let l = c.self.inside in
    let same : Some (slice_range c.deref.result.now c.in-Some.field-0.now.0 c.in-Some.field-0.now.1) ≡ lookup (nat_eq c.args.key) (listed l.numbers.items l.places.entries) =
    ap (λ (ns : List ℕ). Some (slice_range ns c.in-Some.field-0.now.0 c.in-Some.field-0.now.1)) c.deref.ensures.value
    ∙ ap (option_map (λ (p : ℕ × ℕ). slice_range l.numbers.items p.0 p.1)) c.in-Some.ensures.value
    ∙ sym (listed-at l.numbers.items l.places.entries c.args.key) in
    same ∙ ap (lookup (nat_eq c.args.key)) c.self.view_is

pub returns-in-None : goal.returns-in-None
returns-in-None g c =
    let l = c.self.inside in
    ap (option_map (λ (p : ℕ × ℕ). slice_range l.numbers.items p.0 p.1)) c.in-None.ensures.value
    ∙ sym (listed-at l.numbers.items l.places.entries c.args.key)
    ∙ ap (lookup (nat_eq c.args.key)) c.self.view_is
