use Rattle.std.proofs.Common.{rules, ◌≡◌, ◌+◌, ℕ, if◌then◌else◌, ap, sym, ◌∙◌}
use Rattle.syntax.specs.Rules.{is_heavy, ending}
use Rattle.syntax.specs.Grammar.{height_of, is_open, ends_open}
use Rattle.syntax.specs.View.{shapes}
use Rattle.syntax.proofs.Lists.{node_shape, last_open_is}
use Rattle.syntax.proofs.parts.Parts.node.Goals as goal
use Rattle.syntax.proofs.parts.Parts.node.Goals.{then-heavy, else-heavy, in-Closed, in-Last, in-Far}

pub returns-clause-shape : goal.returns-clause-shape
returns-clause-shape g c = node_shape c.args.line c.args.form c.args.self.trees

pub invariant_of-result : goal.invariant_of-result
unfolding is_open
invariant_of-result g c =
    let shaped = node_shape c.args.line c.args.form c.args.self.trees in
    let e : c.if-heavy.height ≡ (if is_heavy c.args.form then 1 else 0) + c.args.self.height = elim c.if-heavy.branch [ then-heavy w ↦ search rules | else-heavy w ↦ search rules ] in
    let o : c.match-end_of.greedy ≡ ends_open (ending c.args.form) c.args.self.greedy = elim c.match-end_of.branch [ in-Closed w ↦ search rules | in-Last w ↦ search rules | in-Far w ↦ search rules ] in
    record {
      is_height = e ∙ ap (λ (n : ℕ). (if is_heavy c.args.form then 1 else 0) + n) c.args.self.is_height ∙ sym (ap height_of shaped);
      is_low = search rules;
      is_greedy = o ∙ ap (ends_open (ending c.args.form)) (c.args.self.is_greedy ∙ sym (last_open_is (shapes c.args.self.trees.items))) ∙ sym (ap is_open shaped);
    }
