use Rattle.std.specs.Prelude.{is_some}
use Rattle.command_line.proofs.by_line.talk.Goals as goal

pub returns-in-Ok-clause-attended : goal.returns-in-Ok-clause-attended
returns-in-Ok-clause-attended g c =
    let attended = c.in-Ok.attended in
    record {
      script = c.args.script.now;
      spec = attended.session.spec;
      read = c.in-Ok.ensures.read.read;
      end = attended.end;
      last = record {
        course = record { history = attended.session.history; closed = is_some attended.session.failed };
        tally = attended.tally;
        lines = attended.lines;
        whole = attended.whole;
        errors = g.E.Write.contents c.attend.new.errors;
      };
      attended = c.in-Ok.ensures.attends;
      exit_is = c.ended_of.ensures.1;
    }
