use Rattle.std.proofs.Common.{rules, ◌≡◌, ℕ, List, [], ◌∷◌, ◌++◌, ◌∙◌, ap, sym, map, take, Global, Vec}
use Rattle.std.proofs.lemmas.List.{map_push, take-map}
use Rattle.server_rows.proofs.folder.begin_after.Goals as goal

abbrev held : List (Vec ℕ Global) → List (List ℕ)
held files = map (λ v. v.items) files

pub returns-clause-done : goal.returns-clause-done
returns-clause-done c =
    let same : c.in-Ok.bytes.items ≡ c.args.bytes.now = search rules in
    let left : held c.truncate.new.self.items ≡ take c.args.kept (held c.args.files.now.items) =
    ap held (c.truncate.ensures.items ∙ ap (λ (l : List (Vec ℕ Global)). take c.args.kept l) c.reserve.ensures.items) ∙ sym (take-map (λ v. v.items) c.args.kept c.args.files.now.items) in
    ap held c.push_reserved.ensures.items ∙ map_push (λ v. v.items) c.truncate.new.self.items c.in-Ok.bytes ∙ (λ i. left i ++ same i ∷ [])
