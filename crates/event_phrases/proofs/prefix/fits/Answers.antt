use Rattle.std.proofs.Common.{Some, None, cond, map, subst, sym, ap}
use Rattle.syntax.specs.View.{shape}
use Rattle.values.specs.Tables.{input}
use Rattle.values.specs.View.{Gives, value}
use Rattle.event_phrases.specs.Fitting.{fits_field}
use Rattle.event_phrases.specs.Forms.{FieldPhrase, field_of}
use Rattle.event_phrases.specs.Scopes.{within}
use Rattle.event_phrases.specs.View.{listed}
use Rattle.syntax.proofs.Failing.{fails_none}
use Rattle.event_phrases.proofs.prefix.fits.Goals as goal

pub returns-in-Some : goal.returns-in-Some
returns-in-Some g c =
    let s = g.G.GlobalScope.scope c.args.global.now in
    subst (λ f. Gives (λ fits. cond fits (Some (within s (map input c.fits_phrase.new.inputs.items))) None) c.fits_phrase.result (fits_field f (listed c.args.set.now.items) (value c.args.value.now) (within s (map input c.args.inputs.now.items)))) c.in-Some.ensures c.fits_phrase.ensures

pub returns-in-None : goal.returns-in-None
unfolding fits_field
returns-in-None g c =
    let s = within (g.G.GlobalScope.scope c.args.global.now) (map input c.args.inputs.now.items) in
    let at = λ (f : FieldPhrase). fits_field f (listed c.args.set.now.items) (value c.args.value.now) s in
    fails_none c.fault.result (at (field_of (shape c.args.tree.now))) (ap at (sym c.in-None.ensures))
