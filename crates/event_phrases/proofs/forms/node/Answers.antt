use Rattle.event_phrases.proofs.Views.{node_parts}
use Rattle.event_phrases.proofs.forms.node.Goals as goal

pub returns-in-Node : goal.returns-in-Node
returns-in-Node g c = node_parts c.args.tree.now c.in-Node.line c.in-Node.form c.in-Node.parts c.deref.result.now c.in-Node.is c.deref.ensures.value
