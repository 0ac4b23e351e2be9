use Rattle.std.proofs.Common.{◌∙◌, ap, inl, sym}
use Rattle.serving.proofs.OpeningsInParts.{new_of, none_of_another, on_itself}
use Rattle.serving.proofs.opening_parts.begin_parts.Goals as goal

pub returns-in-Ok-clause-opens : goal.returns-in-Ok-clause-opens
returns-in-Ok-clause-opens g c =
    let files = (g.F.Folder.state c.args.folder).bytes in
    let script = c.args.script.text in
    let root = c.args.script.root in
    let o = c.in-Ok.ensures in
    record {
      read = o.read;
      begun = on_itself c.in-Ok.session _ _ _ o.begun;
      kept = o.kept;
      size_is = o.is.size_is;
      held = λ claims. inl (c.requires.new claims, o.read, o.begun.history_is);
      fault = tt;
      only = λ claims spec h holds small. let new = new_of c.args.size files script root spec h (c.requires.new claims) holds in (o.only spec new.0, o.begun.history_is ∙ sym new.1);
      other = λ claims a small. absurd (none_of_another c.args.size files script root (c.requires.new claims) a);
      refuses = λ claims there fault has. absurd (there (c.requires.new claims));
      untouched = tt;
      continues = o.continues;
      cause = tt;
      any_moment = λ claims kept there. absurd (there (c.requires.new claims));
    }

pub returns-in-Err-clause-opens : goal.returns-in-Err-clause-opens
returns-in-Err-clause-opens g c =
    let files = (g.F.Folder.state c.args.folder).bytes in
    let script = c.args.script.text in
    let root = c.args.script.root in
    let o = c.in-Err.ensures in
    record {
      read = tt;
      begun = tt;
      kept = tt;
      size_is = tt;
      held = tt;
      fault = (o.fault, c.requires.new);
      only = λ claims spec h holds small. let new = new_of c.args.size files script root spec h (c.requires.new claims) holds in (c.requires.new claims, o.only spec new.0);
      other = λ claims a small. absurd (none_of_another c.args.size files script root (c.requires.new claims) a);
      refuses = λ claims there fault has. absurd (there (c.requires.new claims));
      untouched = λ inside claims. ap (λ d. (g.F.Folder.state d).bytes) (o.untouched (λ device. inside (inl device)));
      continues = o.continues;
      cause = o.cause;
      any_moment = λ claims kept there. absurd (there (c.requires.new claims));
    }
