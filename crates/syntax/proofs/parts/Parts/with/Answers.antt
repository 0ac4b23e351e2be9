use Rattle.std.proofs.Common.{rules, ◌≡◌, max, ◌∙◌}
use Rattle.syntax.proofs.Lists.{pushed, pushed_height, pushed_open}
use Rattle.syntax.proofs.parts.Parts.with.Goals as goal

pub returns : goal.returns
returns g c = (pushed c.args.self.trees.items c.push.new.self.items c.args.part.tree c.in_ok-push.ensures.items, search rules)

pub invariant_of-result : goal.invariant_of-result
invariant_of-result g c =
    let higher : c.max-height.result ≡ max c.args.self.height c.args.part.height = search rules in
    record {
      is_height = higher ∙ pushed_height c.args.self.trees.items c.push.new.self.items c.args.part.tree c.in_ok-push.ensures.items c.args.self.height c.args.part.height c.args.self.is_height c.args.part.is_height;
      is_low = search rules;
      is_greedy = pushed_open c.args.self.trees.items c.push.new.self.items c.args.part.tree c.in_ok-push.ensures.items c.args.part.greedy c.args.part.is_greedy;
    }
