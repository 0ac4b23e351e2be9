use Rattle.std.proofs.Common.{sym, subst}
use Rattle.connections.specs.Services.{Without}
use Rattle.connections.specs.Visiting.{book_of, more, promises}
use Rattle.connections.proofs.visits.join_one.Goals as goal

pub returns-clause-goes_on : goal.returns-clause-goes_on
returns-clause-goes_on g c first before =
    more (book_of g.G.Reusable.free g.G.Reusable.counted c.args.hall.now) (book_of g.G.Reusable.free g.G.Reusable.counted c.leave.new.hall) before
    record {
      visit = c.taken_out-thread.result.promise;
      gone = c.join.result;
      out = subst (λ rs. Without c.taken_out-thread.result.promise (promises c.args.hall.now.running.items) (promises rs)) (sym c.leave.ensures.running) c.taken_out-thread.ensures.out;
      kept_by = c.join.ensures;
      added = c.leave.ensures.added;
      free_is = c.leave.ensures.free;
      counted_is = c.leave.ensures.counted;
    }
