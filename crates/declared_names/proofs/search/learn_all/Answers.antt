use Rattle.std.proofs.Common.{◌≡◌, ◌<◌, ◌||◌, length, sym, ap, subst, ◌∙◌, arith}
use Rattle.std.specs.Option.{option_map}
use Rattle.declared_names.specs.View.{entries}
use Rattle.declared_names.specs.Standing.{LearnsFirst}
use Rattle.declared_names.proofs.Searching.{still_reached, first_step, there}
use Rattle.declared_names.proofs.search.learn_all.Goals as goal
use Rattle.declared_names.proofs.search.learn_all.Goals.{in-Some+in_ok-new+then-any, in-Some+in_ok-new+else-any, in_default}

pub learn-requires : goal.learn-requires
learn-requires g c =
    let s = c.args.learner.now in
    still_reached g.L.Learner.knows (g.L.Learner.reached s) (g.L.Learner.settled s) (entries c.args.entries.now) c.args.table.now c.loop-place.table c.loop-place.any c.loop-place.place c.requires c.loop-place.invariant

pub loop-place-preserved : goal.loop-place-preserved
loop-place-preserved g c =
    let s = c.args.learner.now in
    let es = entries c.args.entries.now in
    elim c.match-name_at.branch [
      | in-Some+in_ok-new+then-any w ↦ first_step g.L.Learner.knows (g.L.Learner.reached s) (g.L.Learner.settled s) es c.args.table.now c.loop-place.table w.learn.new.table c.match-name_at.table c.loop-place.any w.in_ok-new.new c.match-name_at.any c.loop-place.place w.in-Some.name.now c.loop-place.invariant w.in-Some.ensures w.in_ok-new.ensures w.table-is (w.any-is ∙ w.if-any.true ∙ sym (ap (λ b. b || w.in_ok-new.new) w.if-any.true))
      | in-Some+in_ok-new+else-any w ↦ first_step g.L.Learner.knows (g.L.Learner.reached s) (g.L.Learner.settled s) es c.args.table.now c.loop-place.table w.learn.new.table c.match-name_at.table c.loop-place.any w.in_ok-new.new c.match-name_at.any c.loop-place.place w.in-Some.name.now c.loop-place.invariant w.in-Some.ensures w.in_ok-new.ensures w.table-is (w.any-is ∙ sym (ap (λ b. b || w.in_ok-new.new) w.if-any.false))
      | in_default w ↦ absurd (there es c.loop-place.place (let lt : c.loop-place.place < length es = omega (arith, c.loop-place-test.true, c.len-place-end.ensures) in lt) (sym (ap (option_map (λ n. n.now)) w.in_default.is) ∙ c.name_at.ensures))
    ]

pub returns : goal.returns
returns g c =
    let s = c.args.learner.now in
    let es = entries c.args.entries.now in
    let end : c.loop-place.place ≡ length es = omega (arith, c.loop-place-test.false, c.loop-place.auto.place-end, c.len-place-end.ensures) in
    subst (λ i. LearnsFirst g.L.Learner.knows (g.L.Learner.reached s) (g.L.Learner.settled s) es c.args.table.now c.loop-place.table c.loop-place.any i) end c.loop-place.invariant
