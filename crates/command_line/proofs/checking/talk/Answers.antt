use Rattle.std.proofs.Common.{◌∙◌}
use Rattle.command_line.proofs.checking.talk.Goals as goal

pub returns-in-Ok-clause-judged : goal.returns-in-Ok-clause-judged
returns-in-Ok-clause-judged g c =
    let checked = c.in-Ok.checked in
    record {
      script = c.args.script.now;
      spec = checked.session.spec;
      read = c.in-Ok.ensures.read.read;
      end = checked.end;
      history = checked.session.history;
      tally = checked.tally;
      conversed = c.in-Ok.ensures.conversed;
      exit_is = c.talked_of.ensures.1 ∙ c.in-Ok.ensures.exit;
    }
