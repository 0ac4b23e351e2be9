use Rattle.std.proofs.Common.{◌≡◌, ◌++◌, [], ◌∷◌, List, sym, ap, ◌∙◌, subst, arith, length}
use Rattle.std.proofs.lemmas.List.{length-map}
use Rattle.std.specs.Map.{keys_of, values_of}
use Rattle.nodes.specs.declared.node.Node.{Node}
use Rattle.nodes.specs.declared.facts.Facts.{Facts}
use Rattle.nodes.specs.Known.{IsKnown}
use Rattle.nodes.specs.Shapes.{shape, processes, IsWithin}
use Rattle.nodes.specs.Tables.{Tabled, tabled, parameters_of, IsTable, IsNumber, HasGrown}
use Rattle.nodes.proofs.Putting.{put-found, put-new, new-number, new-grown, same-nodes, entries-new, none-when}
use Rattle.nodes.proofs.table.Table.put.Goals as goal

pub returns-in-Some-clause-number : goal.returns-in-Some-clause-number
returns-in-Some-clause-number g c =
    let S = parameters_of c.self.inside.sets.items c.self.inside.relations.items in
    let es = c.self.inside.nodes.entries in
    subst (λ (t : Tabled). IsNumber t c.in-Some.number (shape t.parameters t.processes c.args.node)) c.self.view_is
    (put-found S (keys_of es) (values_of es) c.self.invariant c.args.node c.in-Some.number (sym c.get_index_of.ensures.index ∙ c.in-Some.is))

pub returns-in_err-insert-clause-grown : goal.returns-in_err-insert-clause-grown
returns-in_err-insert-clause-grown g c =
    let S = parameters_of c.self.inside.sets.items c.self.inside.relations.items in
    let e = ap keys_of c.in_err-insert.ensures.err in
    subst (λ (t : Tabled). HasGrown t (tabled S (keys_of c.insert.new.self.entries))) c.self.view_is (same-nodes S (keys_of c.self.inside.nodes.entries) (keys_of c.insert.new.self.entries) e)

module _ (g : _) (c : goal.In_ok-insert g) where
  entries : (keys_of c.insert.new.self.entries ≡ keys_of c.self.inside.nodes.entries ++ c.args.node ∷ []) × (values_of c.insert.new.self.entries ≡ values_of c.self.inside.nodes.entries ++ c.facts_of-facts.result ∷ [])
  entries =
      entries-new c.self.inside.nodes c.insert.new.self.entries c.args.node c.facts_of-facts.result c.get_index_of.result (none-when c.get_index_of.result c.in_default.not-Some) c.get_index_of.ensures.found c.in_ok-insert.ensures.entries

  len : c.len-number.result ≡ length (keys_of c.self.inside.nodes.entries)
  len = c.len-number.ensures.len ∙ sym (length-map c.self.inside.nodes.entries (λ (e : Node × Facts). e.0))

pub invariant_of-self-2 : goal.invariant_of-self-2
invariant_of-self-2 g c =
    let S = parameters_of c.self.inside.sets.items c.self.inside.relations.items in
    let es = c.self.inside.nodes.entries in
    subst (λ (l : List Node). IsTable S l (values_of c.insert.new.self.entries)) (sym (entries g c).0)
    (subst (λ (l : List Facts). IsTable S (keys_of es ++ c.args.node ∷ []) l) (sym (entries g c).1)
    (put-new S (keys_of es) (values_of es) c.self.invariant c.args.node c.facts_of-facts.result (sym c.get_index_of.ensures.index ∙ none-when c.get_index_of.result c.in_default.not-Some)
    (subst (λ (t : Tabled). IsWithin t.parameters (length t.processes) c.args.node) (sym c.self.view_is) c.requires) (let e = len g c in omega arith)
    (subst (λ (t : Tabled). IsKnown c.facts_of-facts.result (shape t.parameters t.processes c.args.node)) (sym c.self.view_is) c.facts_of-facts.ensures)))

pub returns-clause-number : goal.returns-clause-number
returns-clause-number g c =
    let S = parameters_of c.self.inside.sets.items c.self.inside.relations.items in
    let es = c.self.inside.nodes.entries in
    subst (λ (t : Tabled). IsNumber (tabled S (keys_of c.insert.new.self.entries)) c.len-number.result (shape t.parameters t.processes c.args.node)) c.self.view_is
    (subst (λ (l : List Node). IsNumber (tabled S l) c.len-number.result (shape S (processes S (keys_of es)) c.args.node)) (sym (entries g c).0)
    (new-number S (keys_of es) c.args.node c.len-number.result (len g c)))

pub returns-clause-grown : goal.returns-clause-grown
returns-clause-grown g c =
    let S = parameters_of c.self.inside.sets.items c.self.inside.relations.items in
    let es = c.self.inside.nodes.entries in
    subst (λ (t : Tabled). HasGrown t (tabled S (keys_of c.insert.new.self.entries))) c.self.view_is
    (subst (λ (l : List Node). HasGrown (tabled S (keys_of es)) (tabled S l)) (sym (entries g c).0) (new-grown S (keys_of es) c.args.node))
