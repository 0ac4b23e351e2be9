use Rattle.std.proofs.Common.{subst, sym, ap, Err}
use Rattle.alphabet.specs.Stored.{channel_of}
use Rattle.values.specs.View.{Fails}
use Rattle.declarations.specs.Sigma.{enter}
use Rattle.declarations.proofs.Parted.{entered_ok, entered_twice, entered_many}
use Rattle.declarations.proofs.sigma.add_channel.Goals as goal

pub returns-in-Ok : goal.returns-in-Ok
returns-in-Ok g c =
    entered_ok c.args.alphabet.now c.declare.new.self (channel_of c.args.name.now c.args.fields.now)
    (λ h. let e = c.in-Ok.ensures.redeclared.1 h in cc)
    (λ h k. let e = c.in-Ok.ensures.too_many.1 (h, k) in cc)
    c.in-Ok.ensures.declared

pub returns-in-Err-Redeclared : goal.returns-in-Err-Redeclared
returns-in-Err-Redeclared g c =
    subst (λ k. Fails k (enter c.args.alphabet.now (channel_of c.args.name.now c.args.fields.now))) (sym c.fault.ensures)
    (entered_twice c.args.alphabet.now (channel_of c.args.name.now c.args.fields.now) (c.in-Err-Redeclared.ensures.redeclared.0 (ap (λ e. Err e) c.in-Err-Redeclared.field-0-is)))

pub returns-in-Err-TooManyEvents : goal.returns-in-Err-TooManyEvents
returns-in-Err-TooManyEvents g c =
    let h = c.in-Err-TooManyEvents.ensures.too_many.0 (ap (λ e. Err e) c.in-Err-TooManyEvents.field-0-is) in
    subst (λ k. Fails k (enter c.args.alphabet.now (channel_of c.args.name.now c.args.fields.now))) (sym c.fault-in-Err-TooManyEvents.ensures)
    (entered_many c.args.alphabet.now (channel_of c.args.name.now c.args.fields.now) h.0 h.1)
