use Rattle.std.proofs.Common.{◌≡◌, ◌<◌, map, length, subst, sym, arith}
use Rattle.std.proofs.lemmas.List.{length-map}
use Rattle.values.specs.View.{Gives}
use Rattle.denotation.specs.Rooms.{spare_joined}
use Rattle.denotation.specs.View.{body}
use Rattle.denotation.proofs.Halves.{no_join, internal_none, internal_some, others_joined}
use Rattle.syntax.proofs.Failing.{fails_none}
use Rattle.denotation.proofs.replicated.all_joined.Goals as goal

pub returns-in-Sequence : goal.returns-in-Sequence
returns-in-Sequence g c =
    let ps = map body c.args.drafts.items in
    fails_none c.fault.result (spare_joined c.args.join ps c.args.room.now) (no_join c.args.join ps c.args.room.now c.in-Sequence.is)

pub returns-then-length-lt1 : goal.returns-then-length-lt1
returns-then-length-lt1 g c =
    let ps = map body c.args.drafts.items in
    let n : length ps ≡ length c.args.drafts.items = length-map c.args.drafts.items body in
    let h : length c.args.drafts.items < 1 = omega arith in
    fails_none c.fault-then-length-lt1.result (spare_joined c.args.join ps c.args.room.now) (internal_none c.args.join ps c.args.room.now c.in-Internal.is (omega (arith, n, h)))

pub returns-else-length-lt1 : goal.returns-else-length-lt1
returns-else-length-lt1 g c =
    let ps = map body c.args.drafts.items in
    let n : length ps ≡ length c.args.drafts.items = length-map c.args.drafts.items body in
    let h : length c.args.drafts.items < 1 → ⊥ = λ m. omega (arith, m) in
    subst (λ o. Gives (λ b. (body b, c.halved_within.new.room)) c.halved_within.result o) (sym (internal_some c.args.join ps c.args.room.now c.in-Internal.is (λ m. h (omega (arith, n, m))))) c.halved_within.ensures

pub returns-in-External : goal.returns-in-External
returns-in-External g c =
    let ps = map body c.args.drafts.items in
    subst (λ o. Gives (λ b. (body b, c.halved_within-in-External.new.room)) c.halved_within-in-External.result o) (sym (others_joined c.args.join ps c.args.room.now c.in-External.is)) c.halved_within-in-External.ensures
