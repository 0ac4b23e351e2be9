use Rattle.std.proofs.Common.{◌≡◌, ◌≤◌, ℕ, List, length, refl, ap, sym, ◌∙◌, subst}
use Rattle.values.specs.Values.{Name}
use Rattle.term.specs.Specs.{Specified}
use Rattle.term.specs.declared.names.Names.TheVariants.{Steps}
use Rattle.printing.specs.Names.{body_primes}
use Rattle.printing.specs.Printed.{printed, reference}
use Rattle.script.specs.Reading.{IsRead}
use Rattle.script.proofs.Denoting.{read_with}
use Rattle.program.specs.declared.forms.PrintError.TheVariants.{Memory}
use Rattle.shared.proofs.Keeping.{if_ok}
use Rattle.program.specs.Prints.{IsPrinted, IsUnprinted}
use Rattle.program.proofs.Results.{match_from}
use Rattle.program.proofs.forms.print.Goals as goal

-- the same phrases, however their names are kept: the printed form has no part of that
abbrev in_steps : Specified → Specified
in_steps spec = record { alphabet = spec.alphabet; bodies = spec.bodies; names = Steps }

read_in_steps : (text : List ℕ) (root : Name) (spec : Specified) → IsRead text root spec → IsRead text root (in_steps spec)
read_in_steps text root spec reads = read_with text root spec (in_steps spec) refl refl reads

pub returns-clause-only : goal.returns-clause-only
returns-clause-only g c spec reads =
    match_from c.text_of.result (λ text. text.items ≡ printed c.in-Ok.spec) (λ text. text.items ≡ printed spec) (λ error. error ≡ Memory) IsUnprinted
    (λ text is. is ∙ ap printed (c.in-Ok.ensures.only (in_steps spec) (read_in_steps _ _ spec reads) refl)) (λ error is. subst IsUnprinted (sym is) tt) c.text_of.ensures.text c.text_of.ensures.memory

pub returns-in-Err-clause-only : goal.returns-in-Err-clause-only
returns-in-Err-clause-only g c spec reads = c.in-Err.ensures.only (in_steps spec) (read_in_steps _ _ spec reads) refl

pub returns-clause-printed : goal.returns-clause-printed
returns-clause-printed g c =
    let spec = c.in-Ok.spec in
    let script = c.args.script.now in
    let process = c.args.process.now in
    if_ok (λ text. text.items ≡ printed spec) (λ text. IsPrinted script process text.items) c.text_of.result
    (λ text is. record {
      spec = spec;
      read = c.in-Ok.ensures.found;
      is = is;
      reads_back = λ small. subst (λ (t : List ℕ). IsRead t (reference (body_primes spec.alphabet (length spec.bodies)) 0) spec) (sym is)
          (c.text_of.ensures.reads_back script process c.in-Ok.ensures.found (subst (λ (t : List ℕ). length t ≤ 65536) is small));
    })
    c.text_of.ensures.text
