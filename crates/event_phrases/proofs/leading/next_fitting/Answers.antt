use Rattle.std.proofs.Common.{arith, drop, map, ap, ◌∙◌}
use Rattle.std.specs.Option.{option_map}
use Rattle.std.proofs.lemmas.Result.{err_from_is_err_and}
use Rattle.alphabet.specs.Channels.{events}
use Rattle.syntax.specs.View.{shapes}
use Rattle.values.specs.Tables.{input}
use Rattle.event_phrases.specs.Forms.{field_of}
use Rattle.event_phrases.specs.Leading.{first_fit, led_fits}
use Rattle.event_phrases.specs.Scopes.{within}
use Rattle.event_phrases.specs.View.{listed, row}
use Rattle.event_phrases.proofs.FirstValues.{some_fit, begun, at_end, fault_at, passed, found_at, none_if}
use Rattle.event_phrases.proofs.leading.next_fitting.Goals as goal

pub loop-number-init : goal.loop-number-init
loop-number-init g c =
    let s = g.G.GlobalScope.scope c.args.scope.now.global.now in
    let q = c.args.prefix.now in
    let test = led_fits q.channel.now (listed q.leading.items) (map field_of (shapes q.fields.now)) (map (λ v. listed v.items) q.sets.now) (within s (map input c.args.scope.now.inputs.items)) in
    let rows = c.events-events.result.now in
    let es = events s.channels in
    (omega arith, begun row rows es c.events-events.ensures.rows test c.args.from)

pub returns-in_err-inputs-clause-first : goal.returns-in_err-inputs-clause-first
returns-in_err-inputs-clause-first g c =
    let s = g.G.GlobalScope.scope c.args.scope.now.global.now in
    let q = c.args.prefix.now in
    let test = led_fits q.channel.now (listed q.leading.items) (map field_of (shapes q.fields.now)) (map (λ v. listed v.items) q.sets.now) (within s (map input c.args.scope.now.inputs.items)) in
    let rows = c.events-events.result.now in
    let es = events s.channels in
    let p = err_from_is_err_and c.from_residual.result c.from_residual.ensures.1 in
    rw (p.1, p.2) (fault_at row rows es c.events-events.ensures.rows test c.loop-number.number c.index-events-number.result (first_fit test c.args.from (drop c.args.from es)) c.loop-number.invariant.1 (omega (arith, c.loop-number-test.true)) c.index-events-number.is c.in_err-inputs.field-0.0 c.in_err-inputs.ensures)

pub returns-in-Some-clause-first : goal.returns-in-Some-clause-first
returns-in-Some-clause-first g c =
    let s = g.G.GlobalScope.scope c.args.scope.now.global.now in
    let q = c.args.prefix.now in
    let test = led_fits q.channel.now (listed q.leading.items) (map field_of (shapes q.fields.now)) (map (λ v. listed v.items) q.sets.now) (within s (map input c.args.scope.now.inputs.items)) in
    let rows = c.events-events.result.now in
    let es = events s.channels in
    found_at row rows es c.events-events.ensures.rows test c.loop-number.number c.index-events-number.result (first_fit test c.args.from (drop c.args.from es)) c.loop-number.invariant.1 (omega (arith, c.loop-number-test.true)) c.index-events-number.is (within s (map input c.in-Some.inputs.items)) (c.in_ok-inputs.ensures ∙ ap (λ o. some_fit (option_map (λ v. within s (map input v.items)) o)) c.in-Some.is)

pub loop-number-preserved : goal.loop-number-preserved
loop-number-preserved g c =
    let s = g.G.GlobalScope.scope c.args.scope.now.global.now in
    let q = c.args.prefix.now in
    let test = led_fits q.channel.now (listed q.leading.items) (map field_of (shapes q.fields.now)) (map (λ v. listed v.items) q.sets.now) (within s (map input c.args.scope.now.inputs.items)) in
    let rows = c.events-events.result.now in
    let es = events s.channels in
    (omega (arith, c.loop-number.invariant.0), passed row rows es c.events-events.ensures.rows test c.loop-number.number c.index-events-number.result (first_fit test c.args.from (drop c.args.from es)) c.loop-number.invariant.1 (omega (arith, c.loop-number-test.true)) c.index-events-number.is (c.in_ok-inputs.ensures ∙ ap (λ o. some_fit (option_map (λ v. within s (map input v.items)) o)) (none_if c.in_ok-inputs.field-0 c.in_default.not-Some)))

pub returns-clause-first : goal.returns-clause-first
returns-clause-first g c =
    let s = g.G.GlobalScope.scope c.args.scope.now.global.now in
    let q = c.args.prefix.now in
    let test = led_fits q.channel.now (listed q.leading.items) (map field_of (shapes q.fields.now)) (map (λ v. listed v.items) q.sets.now) (within s (map input c.args.scope.now.inputs.items)) in
    let rows = c.events-events.result.now in
    let es = events s.channels in
    at_end row rows es c.events-events.ensures.rows test c.loop-number.number (first_fit test c.args.from (drop c.args.from es)) c.loop-number.invariant.1 (omega (arith, c.loop-number-test.false))
