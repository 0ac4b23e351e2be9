use Rattle.std.proofs.Common.{codes, sym, ◌∙◌}
use Rattle.term.specs.Proc.{proc}
use Rattle.printing.proofs.Lists.{on_ok}
use Rattle.printing.proofs.Enclosed.{enclosed, unenclosed, on_items}
use Rattle.printing.proofs.processes.+processes.Goals as goal

pub put_process-returns-then-not-has_brackets : goal.put_process-returns-then-not-has_brackets
put_process-returns-then-not-has_brackets g t c =
    on_ok c.put_inside.result _ _ c.put_inside.ensures
    (unenclosed c.args.spec.now.alphabet c.args.primes (proc c.args.term.now) c.args.text.now.items c.put_inside.new.text.items (sym c.has_brackets.ensures ∙ c.if-not-has_brackets.true))

pub put_process-returns : goal.put_process-returns
put_process-returns g t c =
    on_items c.extend_from_slice-2.result c.extend_from_slice-2.new.self.items c.put_inside-2.new.text.items (codes ")") _ c.extend_from_slice-2.ensures.items
    (enclosed c.args.spec.now.alphabet c.args.primes (proc c.args.term.now) c.args.text.now.items c.extend_from_slice.new.self.items c.put_inside-2.new.text.items
    c.extend_from_slice-2.new.self.items (sym c.has_brackets.ensures ∙ c.if-not-has_brackets.false) c.in_ok-extend_from_slice.ensures.items c.in_ok-put_inside.ensures)
