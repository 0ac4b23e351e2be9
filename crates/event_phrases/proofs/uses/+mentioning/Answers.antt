use Rattle.std.proofs.Common.{◌+◌, ◌||◌, drop, refl, sym, ap, ◌∙◌, arith}
use Rattle.syntax.specs.Parsing.{syntaxes}
use Rattle.syntax.specs.View.{shapes}
use Rattle.values.proofs.Parts.{node_is}
use Rattle.event_phrases.specs.Uses.{mention, mentions}
use Rattle.event_phrases.proofs.EventNumbers.{drop_item, drop_none}
use Rattle.event_phrases.proofs.uses.+mentioning.Goals as goal

pub mention-loop-tree-init : goal.mention-loop-tree-init
mention-loop-tree-init g t c = refl

pub mention-returns-then-mentions : goal.mention-returns-then-mentions
unfolding mention
mention-returns-then-mentions g t c =
    let x = c.args.name.now in
    let i = c.loop-tree.tree-index in
    let item = drop_item c.args.trees.now i c.tree-item.result (omega arith) c.tree-item.is in
    sym (sym c.loop-tree.invariant ∙ ap (λ ts. mention x (syntaxes (shapes ts))) item ∙ ap (λ b. b || mention x (syntaxes (shapes (drop (i + 1) c.args.trees.now)))) (sym c.mentions.ensures ∙ c.if-mentions.true))

pub mention-loop-tree-preserved : goal.mention-loop-tree-preserved
unfolding mention
mention-loop-tree-preserved g t c =
    let x = c.args.name.now in
    let i = c.loop-tree.tree-index in
    let item = drop_item c.args.trees.now i c.tree-item.result (omega arith) c.tree-item.is in
    sym (ap (λ ts. mention x (syntaxes (shapes ts))) item ∙ ap (λ b. b || mention x (syntaxes (shapes (drop (i + 1) c.args.trees.now)))) (sym c.mentions.ensures ∙ c.if-mentions.false)) ∙ c.loop-tree.invariant

pub mention-returns : goal.mention-returns
unfolding mention
mention-returns g t c = sym (sym c.loop-tree.invariant ∙ ap (λ ts. mention c.args.name.now (syntaxes (shapes ts))) (drop_none c.args.trees.now c.loop-tree.tree-index (omega arith)))

pub mentions-returns-in-Node : goal.mentions-returns-in-Node
unfolding mentions
mentions-returns-in-Node g t c =
    c.mention.ensures ∙ sym (ap (mentions c.args.name.now) (node_is c.args.tree.now c.in-Node.line c.in-Node.form c.in-Node.parts c.deref.result.now c.in-Node.is c.deref.ensures.value))
