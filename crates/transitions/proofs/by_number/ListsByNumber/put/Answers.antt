use Rattle.std.proofs.Common.{ℕ, List, Option, Some, set, length, length-append, sym, ap, subst, arith}
use Rattle.transitions.specs.Lists.{MayHaveAt, listed_by_number}
use Rattle.transitions.proofs.Listing.{kept-at, none-more-at, one-more-at}
use Rattle.transitions.proofs.by_number.ListsByNumber.put.Goals as goal

pub returns-in_default : goal.returns-in_default
returns-in_default g c =
    let l = c.self.inside in
    subst (λ (old : List (Option (List ℕ))). MayHaveAt old (listed_by_number l.numbers.items c.reach.new.places.items) c.args.number c.args.list.now) c.self.view_is
    (kept-at l.numbers.items l.places.items c.reach.new.places.items c.reach.ensures.same c.args.number c.args.list.now)

pub returns-in_default-extend_from_slice : goal.returns-in_default-extend_from_slice
returns-in_default-extend_from_slice g c =
    let l = c.self.inside in
    subst (λ (old : List (Option (List ℕ))). MayHaveAt old (listed_by_number c.extend_from_slice.new.self.items c.reach.new.places.items) c.args.number c.args.list.now) c.self.view_is
    (subst (λ (ns : List ℕ). MayHaveAt (listed_by_number l.numbers.items l.places.items) (listed_by_number ns c.reach.new.places.items) c.args.number c.args.list.now) (sym c.in_default-extend_from_slice.ensures.items)
    (kept-at l.numbers.items l.places.items c.reach.new.places.items c.reach.ensures.same c.args.number c.args.list.now))

pub returns-then-to-le-MOST_NUMBERS : goal.returns-then-to-le-MOST_NUMBERS
returns-then-to-le-MOST_NUMBERS g c =
    let l = c.self.inside in
    let ns = l.numbers.items in
    let more = c.args.list.now in
    let qs = c.reach.new.places.items in
    let new = set qs c.args.number (Some (c.len-from.result, c.len-to.result)) in
    subst (λ (old : List (Option (List ℕ))). MayHaveAt old (listed_by_number c.extend_from_slice.new.self.items new) c.args.number more) c.self.view_is
    (subst (λ (ns' : List ℕ). MayHaveAt (listed_by_number ns l.places.items) (listed_by_number ns' new) c.args.number more) (sym c.in-Ok-extend_from_slice.ensures.items)
    (one-more-at ns more l.places.items qs c.reach.ensures.same c.self.invariant c.args.number c.len-from.result c.len-to.result (omega arith)
    (omega (arith, length-append ns more, ap (λ (xs : List ℕ). length xs) c.in-Ok-extend_from_slice.ensures.items)) c.in-Ok.ensures.reached))

pub returns-else-to-le-MOST_NUMBERS : goal.returns-else-to-le-MOST_NUMBERS
returns-else-to-le-MOST_NUMBERS g c =
    let l = c.self.inside in
    let ns = l.numbers.items in
    let more = c.args.list.now in
    let qs = c.reach.new.places.items in
    subst (λ (old : List (Option (List ℕ))). MayHaveAt old (listed_by_number c.extend_from_slice.new.self.items qs) c.args.number more) c.self.view_is
    (subst (λ (ns' : List ℕ). MayHaveAt (listed_by_number ns l.places.items) (listed_by_number ns' qs) c.args.number more) (sym c.in-Ok-extend_from_slice.ensures.items)
    (none-more-at ns more l.places.items qs c.reach.ensures.same c.self.invariant c.args.number more))
