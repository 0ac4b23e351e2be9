use Rattle.declared_names.specs.View.{entries}
use Rattle.declared_names.specs.ProcessAnswers.{count_found}
use Rattle.declared_names.proofs.ProcessAnswers.{answer_known, answer_said, answer_none}
use Rattle.declared_names.proofs.process_answers.answer_by.Goals as goal

pub returns-in-Known : goal.returns-in-Known
returns-in-Known g c = answer_known (entries c.args.entries.now) (count_found c.args.found.now) c.args.name.now c.in-Known.answer c.in-Known.ensures

pub returns-in-Some : goal.returns-in-Some
returns-in-Some g c = answer_said (entries c.args.entries.now) c.args.found.now c.args.name.now c.in-SameAs.next.now c.in-Some.place c.found_at.result c.requires c.in-SameAs.ensures c.in-Some.ensures c.found_at.ensures

pub returns-in-None : goal.returns-in-None
returns-in-None g c = answer_none (entries c.args.entries.now) (count_found c.args.found.now) c.args.name.now c.in-SameAs.next.now c.in-SameAs.ensures c.in-None.ensures
