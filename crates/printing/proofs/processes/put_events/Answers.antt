use Rattle.std.proofs.Common.{◌≡◌, ◌∷◌, sym, ap, subst, ◌∙◌}
use Rattle.std.specs.List.{AllByRecursion}
use Rattle.alphabet.specs.EventSets.{members}
use Rattle.alphabet.specs.Channels.{event_count}
use Rattle.term.specs.Specs.{InSigma}
use Rattle.printing.proofs.Members.{all_in_sigma, is_event, first_told}
use Rattle.printing.proofs.processes.put_events.Goals as goal

pub name_into-requires : goal.name_into-requires
name_into-requires g c =
    let n = event_count c.args.alphabet.now in
    let all = subst (λ A. AllByRecursion (InSigma n) (members A)) (sym c.iter-events.ensures) (all_in_sigma n c.args.set c.requires) in
    is_event c.args.alphabet.now c.in-Some.first (subst (λ es. AllByRecursion (InSigma n) es) c.in-Some.ensures.steps all).0

pub loop-event-init : goal.loop-event-init
loop-event-init g c =
    let n = event_count c.args.alphabet.now in
    let all = subst (λ A. AllByRecursion (InSigma n) (members A)) (sym c.iter-events.ensures) (all_in_sigma n c.args.set c.requires) in
    let rest = (subst (λ es. AllByRecursion (InSigma n) es) c.in-Some.ensures.steps all).1 in
    let same : c.into_iter-event-iterator.result ≡ c.next.new.self = c.into_iter-event-iterator.ensures.into_iter_gives in
    let set : members c.args.set ≡ members c.iter-events.result = ap members (sym c.iter-events.ensures) in
    record {
      written = first_told c.args.alphabet.now c.args.text.now.items c.name_into.new.into.items (members c.args.set) (members c.into_iter-event-iterator.result) c.in-Some.first
          (set ∙ c.in-Some.ensures.steps ∙ ap (λ A. c.in-Some.first ∷ members A) (sym same)) c.in_ok-name_into.ensures.appended;
      below = subst (λ A. AllByRecursion (InSigma n) (members A)) (sym same) rest;
    }
