use Rattle.std.proofs.Common.{◌≡◌, [], ◌∷◌, ◌++◌, List, Option, Some, None, false, cond, sym, ap, ◌∙◌}
use Rattle.values.specs.Names.{Entry}
use Rattle.declared_names.specs.Stored.{listed}
use Rattle.declared_names.specs.View.{meaning_of}
use Rattle.declared_names.specs.Entering.{put, has_name}
use Rattle.declared_names.proofs.Tables.{is_there, appended}
use Rattle.declared_names.proofs.entering.enter.Goals as goal

pub returns-then-contains_key : goal.returns-then-contains_key
unfolding put
returns-then-contains_key g c =
    rw c.fault.ensures (
    ap (λ b. let o : Option (List Entry) = cond b None (Some (listed c.args.table.now.entries ++ (c.args.name.now, meaning_of c.args.meaning) ∷ [])) in o)
    (sym (is_there c.args.table.now.entries c.args.name.now) ∙ sym c.contains_key.ensures ∙ c.if-contains_key.true)
    )

pub returns : goal.returns
unfolding put
returns g c =
    let new : has_name (listed c.args.table.now.entries) c.args.name.now ≡ false = sym (is_there c.args.table.now.entries c.args.name.now) ∙ sym c.contains_key.ensures ∙ c.if-contains_key.false in
    ap (λ b. let o : Option (List Entry) = cond b None (Some (listed c.args.table.now.entries ++ (c.args.name.now, meaning_of c.args.meaning) ∷ [])) in o) new
    ∙ ap (λ xs. let o : Option (List Entry) = Some xs in o) (sym (appended c.args.table.now.entries c.insert.new.self.entries c.in_ok-name.name (record { line = c.args.line; meaning = c.args.meaning }) c.args.name.now c.in_ok-name.ensures.items new c.in_ok-_old.ensures.entries))
