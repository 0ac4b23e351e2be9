use Rattle.std.proofs.Common.{◌≡◌, ◌++◌, List, ℕ, sym, ap, subst, ◌∙◌}
use Rattle.shown.specs.Shows.{Shows}
use Rattle.program.proofs.in_parts.text_of_parts.Goals as goal

pub returns-in-Ok-joined-clause-text : goal.returns-in-Ok-joined-clause-text
returns-in-Ok-joined-clause-text g c =
    let r = c.in-Ok.replaying in
    let e = c.in-Ok.ensures in
    let written = e.text in
    let all : c.into_inner.result.items ≡ written.0 =
    ap (λ v. v.items) c.into_inner.ensures ∙ written.2 ∙ ap (λ (l : List ℕ). l ++ written.0) (ap (λ v. v.items) c.new-text.ensures.inner ∙ c.new.ensures.items) in
    record {
      script = r.opened.held.script;
      root = r.opened.held.root;
      spec = r.taken.spec;
      history = r.taken.entries;
      replayed = e.replayed;
      shows = subst (λ (t : List ℕ). Shows c.args.options r.taken.spec r.taken.entries t) (sym (c.in-Ok-joined.ensures ∙ ap (λ (t : List ℕ). t ++ c.in-Ok.left.items) all)) written.1;
    }
