-- A fault, as a reply says it: without what closed the session.
use Rattle.answers.specs.declared.fault.Fault.{Fault as AnyFault}

abbrev pub Fault : Type 0
Fault = AnyFault (Unit {0})
