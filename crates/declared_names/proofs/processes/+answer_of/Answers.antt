use Rattle.std.proofs.Common.{arith}
use Rattle.declared_names.specs.Processes.{says}
use Rattle.declared_names.proofs.ProcessNames.{inside, not_inside, by_event, by_form}
use Rattle.declared_names.proofs.processes.+answer_of.Goals as goal

pub returns-in-len1 : goal.returns-in-len1
returns-in-len1 g t c name =
    inside name c.args.phrase.now c.in-Node.line c.in-Node.parts c.as_slice.result.now c.inner-item.result (says name c.answer_of.result) (cc) c.as_slice.ensures.value (omega arith) c.inner-item.is (c.answer_of.ensures name)

pub returns-in-Event : goal.returns-in-Event
returns-in-Event g t c name =
    by_event name c.args.phrase.now c.in-Node.line c.in-Node.parts c.deref.result.now (says name c.answer_of_event.result) (cc) c.deref.ensures.value (c.answer_of_event.ensures name)

pub returns-in_default-as_slice : goal.returns-in_default-as_slice
returns-in_default-as_slice g t c name =
    not_inside name c.args.phrase.now c.in-Node.line c.in-Node.parts c.as_slice.result.now (cc) c.as_slice.ensures.value (grind arith)

pub returns-in_default : goal.returns-in_default
returns-in_default g t c name =
    by_form name c.args.phrase.now c.in-Node.line c.in-Node.form c.in-Node.parts c.is_process_form.result c.in-Node.is c.in_default.not-Brackets c.in_default.not-Event c.is_process_form.ensures
