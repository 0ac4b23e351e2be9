use Rattle.std.proofs.Common.{◌++◌, ◌∷◌, [], arith, ap, length, length-append, sym, subst, ◌≡◌, ◌∙◌, ◌+◌, ◌^◌, ◌<◌, List}
use Rattle.history.specs.declared.entry.Entry.{Entry}
use Rattle.shown.specs.Steps.{IsShown, written}
use Rattle.shown.proofs.Further.{room_here, shown_next, small_here}
use Rattle.shown.proofs.Sending.{after_sent}
use Rattle.shown.proofs.progress.Progress.show.Goals as goal

pub put_part-requires : goal.put_part-requires
put_part-requires g c =
    record {
      said = c.requires.at.said;
      place = omega (arith, c.requires.at.count_is, ap length c.requires.history);
    }

pub count_entry-requires : goal.count_entry-requires
count_entry-requires g c =
    let p = c.args.self.now in
    let legal = c.args.legal.now in
    let small = small_here legal.spec legal.entries c.args.entry.now c.requires.judged in
    room_here c.args.options legal.spec p.history.items c.args.entry.now (written p ++ p.text.items) p.counts.accepted.items p.counts.rejected.items p.counts.possible
    (subst (λ (h : List Entry). length h < 2 ^ 62) (sym c.requires.history) small) c.requires.at.shown

pub returns-clause-at : goal.returns-clause-at
returns-clause-at g c =
    let p = c.args.self.now in
    let e = c.args.entry.now in
    let options = c.args.options in
    let spec = c.args.legal.now.spec in
    let before = c.args.legal.now.entries in
    let sent = written p in
    let text = c.put_part.new.text.items in
    let counts = c.count_entry.new.counts in
    let shown : IsShown options spec before (sent ++ p.text.items) p.counts.accepted.items p.counts.rejected.items p.counts.possible =
    subst (λ h. IsShown options spec h (sent ++ p.text.items) p.counts.accepted.items p.counts.rejected.items p.counts.possible) c.requires.history c.requires.at.shown in
    let longer : c.and-self.result.items ≡ before ++ e ∷ [] = c.and-self.ensures ∙ ap (λ h. h ++ e ∷ []) c.requires.history in
    let count : p.shown + 1 ≡ length c.and-self.result.items =
    omega (arith, c.requires.at.count_is, ap length c.requires.history, ap length longer, length-append before (e ∷ [])) in
    record {
      spec_is = c.requires.at.spec_is;
      said = c.in_ok-put_part.ensures.said;
      count_is = count;
      shown = subst (λ h. IsShown options spec h (sent ++ text) counts.accepted.items counts.rejected.items counts.possible) (sym longer)
          (shown_next options spec before e c.next-next.result (sent ++ p.text.items) (sent ++ text)
          p.counts.accepted.items p.counts.rejected.items p.counts.possible counts.accepted.items counts.rejected.items counts.possible
          shown c.next-next.ensures
          (after_sent options spec before e sent p.text.items text c.in_ok-put_part.ensures.part)
          c.count_entry.ensures);
    }
