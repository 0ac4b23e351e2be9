use Rattle.std.proofs.Common.{◌≡◌, ℕ, ◌<◌, length, replicate, Bool, List, Option, None, ap, subst, ◌∙◌, rules}
use Rattle.declared_names.specs.View.{entries}
use Rattle.declared_names.specs.ProcessAnswers.{MayLeadOn}
use Rattle.declared_names.proofs.ProcessAnswers.{answers, found_none}
use Rattle.declared_names.proofs.process_answers.answers.Goals as goal

pub find_in_order-found-requires : goal.find_in_order-found-requires
find_in_order-found-requires g c =
    let none : c.in_ok-none.none.items ≡ replicate c.len.result None = search rules in
    found_none (entries c.args.entries.now) c.in_ok-none.none.items (none ∙ ap (λ n. replicate n None) c.len.ensures)

pub returns-then-all_lead_on : goal.returns-then-all_lead_on
returns-then-all_lead_on g c =
    answers (entries c.args.entries.now) c.find_in_order-found.result.items c.find_in_order-found.ensures
    (subst (λ (ts : List (Option Bool)). (i : ℕ) → i < length (entries c.args.entries.now) → MayLeadOn (entries c.args.entries.now) ts i) c.deref-2.ensures.value (c.all_lead_on.ensures c.if-all_lead_on.true))
