use Rattle.std.proofs.Common.{◌++◌, ◌∷◌, [], ap, ◌∙◌, subst}
use Rattle.alphabet.specs.Elements.{In}
use Rattle.alphabet.specs.Tables.{stored_names}
use Rattle.alphabet.proofs.Lookups.{inserted}
use Rattle.alphabet.proofs.naming.add_name.Goals as goal

pub returns-clause-added : goal.returns-clause-added
returns-clause-added g c =
    inserted (λ key. key.items) c.args.names.now.keys c.insert.new.self.keys c.in_ok-name.name
    (λ i. c.requires.fresh (subst (λ n. In n (stored_names c.args.names.now.keys)) c.in_ok-name.ensures i))
    c.in_ok-insert.ensures.keys
    ∙ ap (λ n. stored_names c.args.names.now.keys ++ n ∷ []) c.in_ok-name.ensures
