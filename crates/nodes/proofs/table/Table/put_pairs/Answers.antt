use Rattle.std.proofs.Common.{◌≡◌, ◌+◌, ◌<◌, ◌^◌, ◌++◌, [], ◌∷◌, List, None, Some, position, sym, ap, subst, arith, ◌∙◌, length}
use Rattle.std.proofs.lemmas.List.{length-map}
use Rattle.std.specs.Map.{keys_of, values_of}
use Rattle.term.specs.Traces.{Pairs}
use Rattle.term.specs.Same.{same_pairs}
use Rattle.nodes.specs.Shapes.{Parameters, relation_at}
use Rattle.nodes.specs.Tables.{Tabled, tabled, parameters_of, relations_of, is_relation, IsTable, HasGrown}
use Rattle.nodes.proofs.Putting.{relation-new, relation-more, relation-found, relation-place, relation-push, same-pair, parameters-more, parameters-grown, same-grown, none-when}
use Rattle.nodes.proofs.table.Table.put_pairs.Goals as goal

pub returns-in-Some-clause-pairs : goal.returns-in-Some-clause-pairs
returns-in-Some-clause-pairs g c =
    let rs = c.self.inside.relations.items in
    let e = sym c.place_of_pairs.ensures ∙ c.in-Some.is in
    let f : position (same_pairs c.args.pairs.now) (relations_of rs) ≡ Some c.in-Some.number = relation-place c.args.pairs.now rs ∙ sym (ap (position (is_relation c.args.pairs.now)) c.deref.ensures.value) ∙ e in
    subst (λ (t : Tabled). relation_at t.parameters c.in-Some.number ≡ c.args.pairs.now) c.self.view_is (relation-found (relations_of rs) c.args.pairs.now c.in-Some.number f).1

pub returns-in_err-push-clause-grown : goal.returns-in_err-push-clause-grown
returns-in_err-push-clause-grown g c =
    let rs = c.self.inside.relations.items in
    let xs = keys_of c.self.inside.nodes.entries in
    let e : relations_of c.push.new.self.items ≡ relations_of rs = ap relations_of c.in_err-push.ensures.items in
    subst (λ (t : Tabled). HasGrown t (tabled (parameters_of c.self.inside.sets.items c.push.new.self.items) xs)) c.self.view_is
    (subst (λ (l : List Pairs). HasGrown (tabled (parameters_of c.self.inside.sets.items rs) xs) (tabled (record { sets = c.self.inside.sets.items; relations = l }) xs)) (sym e)
    (same-grown (tabled (parameters_of c.self.inside.sets.items rs) xs)))

module _ (g : _) (c : goal.In_ok-push g) where
  items : c.in_ok-kept.kept.items ≡ c.args.pairs.now
  items = c.in_ok-kept.ensures.items_if_clones_equal same-pair

  stored : relations_of c.push.new.self.items ≡ relations_of c.self.inside.relations.items ++ c.args.pairs.now ∷ []
  stored =
      ap relations_of c.in_ok-push.ensures.items ∙ relation-push c.self.inside.relations.items c.in_ok-kept.kept
      ∙ ap (λ (r : Pairs). relations_of c.self.inside.relations.items ++ r ∷ []) items

  absent : position (same_pairs c.args.pairs.now) (relations_of c.self.inside.relations.items) ≡ None
  absent =
      relation-place c.args.pairs.now c.self.inside.relations.items
      ∙ sym (ap (position (is_relation c.args.pairs.now)) c.deref.ensures.value)
      ∙ sym c.place_of_pairs.ensures
      ∙ none-when c.place_of_pairs.result c.in_default.not-Some

  few : length (relations_of c.self.inside.relations.items) + 1 < 2 ^ 32
  few = omega (arith, c.len-number.ensures, length-map c.self.inside.relations.items (λ v. v.items))

pub invariant_of-self-2 : goal.invariant_of-self-2
invariant_of-self-2 g c =
    let S = parameters_of c.self.inside.sets.items c.self.inside.relations.items in
    let T : Parameters = record { sets = S.sets; relations = S.relations ++ c.args.pairs.now ∷ [] } in
    let es = c.self.inside.nodes.entries in
    subst (λ (l : List Pairs). IsTable (record { sets = c.self.inside.sets.items; relations = l }) (keys_of es) (values_of es)) (sym (stored g c))
    (parameters-more S T (keys_of es) (values_of es) c.self.invariant (relation-more S c.args.pairs.now) (relation-new S c.args.pairs.now c.self.invariant.parameters (absent g c) (few g c)))

pub returns-clause-grown : goal.returns-clause-grown
returns-clause-grown g c =
    let S = parameters_of c.self.inside.sets.items c.self.inside.relations.items in
    let T : Parameters = record { sets = S.sets; relations = S.relations ++ c.args.pairs.now ∷ [] } in
    let xs = keys_of c.self.inside.nodes.entries in
    subst (λ (t : Tabled). HasGrown t (tabled (parameters_of c.self.inside.sets.items c.push.new.self.items) xs)) c.self.view_is
    (subst (λ (l : List Pairs). HasGrown (tabled S xs) (tabled (record { sets = c.self.inside.sets.items; relations = l }) xs)) (sym (stored g c))
    (parameters-grown S T xs c.self.invariant.within (relation-more S c.args.pairs.now)))
