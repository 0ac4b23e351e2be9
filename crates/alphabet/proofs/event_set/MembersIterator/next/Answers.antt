use Rattle.std.proofs.Common.{◌≡◌, [], ◌∷◌, arith}
use Rattle.alphabet.specs.EventSets.{members}
use Rattle.alphabet.proofs.MemberLists.{members_of_nothing, members_from_first}
use Rattle.alphabet.proofs.event_set.MembersIterator.next.Goals as goal

pub returns-in-None-clause-steps : goal.returns-in-None-clause-steps
returns-in-None-clause-steps c =
    let nothing : members c.args.self.now ≡ [] = rw (← c.self.view_is) (members_of_nothing c.self.inside.left c.in-None.ensures) in
    (nothing, nothing)

pub returns-in-Some-clause-steps : goal.returns-in-Some-clause-steps
returns-in-Some-clause-steps c =
    rw (← c.self.view_is) (members_from_first c.self.inside.left c.empty.result c.with.result c.minus-self-inside.result c.in-Some.event c.in-Some.ensures c.empty.ensures c.with.ensures c.minus-self-inside.ensures)

pub returns-in-Some-clause-goes : goal.returns-in-Some-clause-goes
returns-in-Some-clause-goes c =
    let shorter : members c.args.self.now ≡ c.in-Some.event ∷ members c.minus-self-inside.result =
    rw (← c.self.view_is) (members_from_first c.self.inside.left c.empty.result c.with.result c.minus-self-inside.result c.in-Some.event c.in-Some.ensures c.empty.ensures c.with.ensures c.minus-self-inside.ensures) in
    record { on = λ _. (tt, tt, rw shorter (omega arith)); keeps = tt; rests = λ _. tt }
