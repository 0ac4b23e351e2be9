use Rattle.std.proofs.Common.{◌<◌, ◌≤◌, length, sym, ap, ◌∙◌, arith}
use Rattle.std.specs.Option.{option_map}
use Rattle.values.specs.Names.{have_parameters}
use Rattle.declared_names.specs.View.{entries, meaning_of}
use Rattle.declared_names.proofs.ParameterNames.{fit_more, fit_fails, fit_end, at_place}
use Rattle.declared_names.proofs.parameters.parameters_fit.Goals as goal
use Rattle.declared_names.proofs.parameters.parameters_fit.Goals.{in-Some+in_ok-fit+else-not-fit, in_default}

pub returns-then-not-fit : goal.returns-then-not-fit
returns-then-not-fit g c =
    fit_fails (have_parameters (entries c.args.entries.now)) (entries c.args.entries.now) c.loop-place.place (meaning_of c.in-Some.entry.now.meaning) _ c.loop-place.invariant c.in-Some.ensures (sym c.in_ok-fit.ensures ∙ c.if-not-fit.true)

pub loop-place-preserved : goal.loop-place-preserved
loop-place-preserved g c =
    elim c.match-at.branch [
      | in-Some+in_ok-fit+else-not-fit w ↦ fit_more (have_parameters (entries c.args.entries.now)) (entries c.args.entries.now) c.loop-place.place (meaning_of w.in-Some.entry.now.meaning) _ c.loop-place.invariant w.in-Some.ensures (sym w.in_ok-fit.ensures ∙ w.if-not-fit.false)
      | in_default w ↦ absurd (at_place (entries c.args.entries.now) c.loop-place.place _ (let lt : c.loop-place.place < length (entries c.args.entries.now) = omega (arith, c.loop-place-test.true, c.len-place-end.ensures) in lt) (ap (option_map (λ e. meaning_of e.now.meaning)) w.in_default.is) c.at.ensures)
    ]

pub returns : goal.returns
returns g c =
    let end : length (entries c.args.entries.now) ≤ c.loop-place.place = omega (arith, c.loop-place-test.false, c.len-place-end.ensures) in
    fit_end (have_parameters (entries c.args.entries.now)) (entries c.args.entries.now) c.loop-place.place _ c.loop-place.invariant end
