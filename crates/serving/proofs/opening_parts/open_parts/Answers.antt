use Rattle.std.proofs.Common.{inl, inr, refl}
use Rattle.disk.proofs.Moments.{weaker}
use Rattle.shared.specs.SessionError.TheVariants.{Device}
use Rattle.large_sessions.proofs.Refusing.{outside_for}
use Rattle.serving.proofs.OpeningsInParts.{opens_parts_before}
use Rattle.serving.proofs.opening_parts.open_parts.Goals as goal

-- ---- a new session

pub returns-in-Ok-true : goal.returns-in-Ok-true
returns-in-Ok-true g c =
    let look = c.is_new.ensures in
    opens_parts_before (g.F.Folder.state c.args.folder) (g.F.Folder.state c.is_new.new.folder) look.continues look.bytes g.F.Folder.state c.args.size c.args.script.text c.args.script.root c.begin_parts.result look.any_moment c.begin_parts.ensures.opens

-- ---- a journal that is there

pub returns-in-Ok-false : goal.returns-in-Ok-false
returns-in-Ok-false g c =
    let look = c.is_new.ensures in
    opens_parts_before (g.F.Folder.state c.args.folder) (g.F.Folder.state c.is_new.new.folder) look.continues look.bytes g.F.Folder.state c.args.size c.args.script.text c.args.script.root c.replay_parts.result look.any_moment c.replay_parts.ensures

-- ---- a device that failed

pub returns-in-Err : goal.returns-in-Err
returns-in-Err g c =
    let old = g.F.Folder.state c.args.folder in
    let look = c.is_new.ensures in
    record {
      read = tt;
      begun = tt;
      kept = tt;
      size_is = tt;
      held = tt;
      fault = λ claims. (inl (inl refl), inr refl);
      only = λ claims spec h holds small. inl refl;
      other = λ claims a small. inr (inl refl);
      refuses = λ claims there fault has. outside_for c.args.size old.bytes fault Device (inl refl);
      untouched = λ inside claims. look.bytes claims;
      continues = look.continues;
      cause = λ device. c.in-Err.ensures.cause refl;
      any_moment = λ claims files there. weaker old (g.F.Folder.state c.is_new.new.folder) old.leaves _ (look.any_moment files) (λ c left. inl left);
    }
