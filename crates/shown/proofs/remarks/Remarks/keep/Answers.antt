use Rattle.shown.proofs.Kept.{put_after}
use Rattle.shown.proofs.remarks.Remarks.keep.Goals as goal

pub returns : goal.returns
returns g c =
    put_after c.args.self.now.texts.entries c.make_room.new.self.texts.entries c.insert.new.self.entries c.in_ok-key.key c.in_ok-text.text c.args.sets.now c.args.said.now
    c.in_ok-_old.ensures.entries c.make_room.ensures c.in_ok-key.ensures.items c.in_ok-text.ensures.items
