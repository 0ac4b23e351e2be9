use Rattle.std.proofs.Common.{◌≡◌, ◌++◌, List, ℕ, sym, ap, subst, ◌∙◌}
use Rattle.shown.specs.Shows.{Shows}
use Rattle.program.proofs.following.text_of.Goals as goal

pub returns-in-Ok-joined-clause-text : goal.returns-in-Ok-joined-clause-text
returns-in-Ok-joined-clause-text g c =
    let r = c.in-Ok in
    let written = r.ensures.text in
    let all : c.into_inner.result.items ≡ written.0 =
    ap (λ v. v.items) c.into_inner.ensures ∙ written.2 ∙ ap (λ (l : List ℕ). l ++ written.0) (ap (λ v. v.items) c.new-text.ensures.inner ∙ c.new.ensures.items) in
    record {
      script = r.header.script.items;
      root = r.header.root.items;
      spec = r.session.spec;
      history = r.session.history;
      replayed = r.ensures.replayed;
      shows = subst (λ (t : List ℕ). Shows c.args.options r.session.spec r.session.history t) (sym (c.in-Ok-joined.ensures ∙ ap (λ (t : List ℕ). t ++ r.left.items) all)) written.1;
    }
