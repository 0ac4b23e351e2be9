use Rattle.std.proofs.Common.{◌≡◌, ◌<◌, Bool, suc, length, None, List, Option, refl, sym, ap, subst, ◌∙◌, arith}
use Rattle.declared_names.specs.View.{entries}
use Rattle.declared_names.specs.ProcessAnswers.{found_in, count_found, IsAnswer}
use Rattle.declared_names.proofs.ProcessAnswers.{find_at, none_found, within}
use Rattle.declared_names.proofs.process_answers.find_at.Goals as goal

pub index_mut-requires : goal.index_mut-requires
index_mut-requires g c =
    let each : length c.args.found.items ≡ length (entries c.args.entries.now) = c.requires.each in
    let inside : c.args.place < length (entries c.args.entries.now) = within (entries c.args.entries.now) c.args.place c.in-Some.name.now (sym c.in-Some.ensures) in
    omega (arith, each, inside)

pub returns-in-Some-answer_by : goal.returns-in-Some-answer_by
returns-in-Some-answer_by g c =
    let none : found_in c.args.found.items c.args.place ≡ None =
    ap (λ ts. found_in ts c.args.place) (sym c.deref.ensures.value) ∙ sym c.found_at.ensures ∙ none_found c.found_at.result (sym c.is_some.ensures ∙ c.if-is_some.false) in
    find_at (entries c.args.entries.now) c.args.found.items _ c.args.place c.in-Some.name.now c.in-Some-answer_by.answer c.requires (sym c.in-Some.ensures) none
    (subst (λ (ts : List (Option Bool)). IsAnswer (entries c.args.entries.now) (suc (count_found ts)) c.in-Some.name.now c.in-Some-answer_by.answer) c.deref-2.ensures.value c.in-Some-answer_by.ensures)
    refl
