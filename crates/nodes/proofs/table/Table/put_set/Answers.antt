use Rattle.std.proofs.Common.{◌≡◌, ◌++◌, [], ◌∷◌, ℕ, List, None, Some, position, nat_eq, sym, ap, subst, arith, ◌∙◌}
use Rattle.std.specs.Map.{keys_of, values_of}
use Rattle.nodes.specs.Shapes.{set_at}
use Rattle.nodes.specs.Tables.{Tabled, tabled, parameters_of, IsTable, HasGrown}
use Rattle.nodes.proofs.Putting.{set-new, set-more, set-found, parameters-more, parameters-grown, none-when}
use Rattle.nodes.proofs.table.Table.put_set.Goals as goal

pub returns-in-Some-clause-set : goal.returns-in-Some-clause-set
returns-in-Some-clause-set g c =
    let e = sym c.place_of_set.ensures ∙ c.in-Some.is in
    let f = subst (λ (l : List ℕ). position (nat_eq c.args.set) l ≡ Some c.in-Some.number) c.deref.ensures.value e in
    subst (λ (t : Tabled). set_at t.parameters c.in-Some.number ≡ c.args.set) c.self.view_is (set-found c.self.inside.sets.items c.args.set c.in-Some.number f).1

pub invariant_of-self-2 : goal.invariant_of-self-2
invariant_of-self-2 g c =
    let S = parameters_of c.self.inside.sets.items c.self.inside.relations.items in
    let T = parameters_of (c.self.inside.sets.items ++ c.args.set ∷ []) c.self.inside.relations.items in
    let es = c.self.inside.nodes.entries in
    let e : position (nat_eq c.args.set) c.self.inside.sets.items ≡ None = sym (ap (position (nat_eq c.args.set)) c.deref.ensures.value) ∙ sym c.place_of_set.ensures ∙ none-when c.place_of_set.result c.in_default.not-Some in
    subst (λ (l : List ℕ). IsTable (parameters_of l c.self.inside.relations.items) (keys_of es) (values_of es)) (sym c.in_ok-push.ensures.items)
    (parameters-more S T (keys_of es) (values_of es) c.self.invariant (set-more S c.args.set) (set-new S c.args.set c.self.invariant.parameters e (omega (arith, c.len-number.ensures))))

pub returns-clause-grown : goal.returns-clause-grown
returns-clause-grown g c =
    let S = parameters_of c.self.inside.sets.items c.self.inside.relations.items in
    let T = parameters_of (c.self.inside.sets.items ++ c.args.set ∷ []) c.self.inside.relations.items in
    let xs = keys_of c.self.inside.nodes.entries in
    subst (λ (t : Tabled). HasGrown t (tabled (parameters_of c.push.new.self.items c.self.inside.relations.items) xs)) c.self.view_is
    (subst (λ (l : List ℕ). HasGrown (tabled S xs) (tabled (parameters_of l c.self.inside.relations.items) xs)) (sym c.in_ok-push.ensures.items)
    (parameters-grown S T xs c.self.invariant.within (set-more S c.args.set)))
