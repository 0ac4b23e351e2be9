use Rattle.std.proofs.Common.{Option, ℕ, List, sym, subst}
use Rattle.std.proofs.lemmas.Result.{IfOk-weaker}
use Rattle.nodes.specs.Copies.{ArePlaces}
use Rattle.nodes.proofs.table.Table.put_from.Goals as goal

module _ (g : _) (c : goal.After-drop-wanted-2 g) where
  places : ArePlaces c.put_wanted.new.self c.args.other.now.processes c.deref-2.result.now
  places = subst (λ (l : List (Option ℕ)). ArePlaces c.put_wanted.new.self c.args.other.now.processes l) (sym c.deref-2.ensures.value) c.in_ok-places.ensures.places

pub returns-clause-below : goal.returns-clause-below
returns-clause-below g c = IfOk-weaker c.numbers_at.result _ _ (λ ns h. h c.args.other.now.processes (places g c)) c.numbers_at.ensures.below

pub returns-clause-same : goal.returns-clause-same
returns-clause-same g c = IfOk-weaker c.numbers_at.result _ _ (λ ns h. h c.args.other.now.processes (places g c)) c.numbers_at.ensures.same
