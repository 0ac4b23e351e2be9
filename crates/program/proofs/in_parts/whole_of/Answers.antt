use Rattle.program.proofs.InParts.{IsFrom, claims_at, ends_at, fault_from, from_on, no_fault_from, replay_at, replay_from}
use Rattle.program.proofs.in_parts.whole_of.Goals as goal

pub returns-in-Ok-whole_watched-clause-onlooker : goal.returns-in-Ok-whole_watched-clause-onlooker
returns-in-Ok-whole_watched-clause-onlooker g c = λ first was. c.whole_watched.ensures.onlooker first (c.begin_watched.ensures.onlooker first was)

pub returns-in-Err-whole_watched-clause-onlooker : goal.returns-in-Err-whole_watched-clause-onlooker
returns-in-Err-whole_watched-clause-onlooker g c = λ first was. c.whole_watched.ensures.onlooker first (c.begin_watched.ensures.onlooker first was)

pub returns-in-Ok-whole_watched-clause-replayed : goal.returns-in-Ok-whole_watched-clause-replayed
returns-in-Ok-whole_watched-clause-replayed g c over claims =
    let state = g.F.Folder.state in
    let s = state c.args.folder in
    let begun = c.in-Ok.begun.0 in
    let r = c.in-Ok-whole_watched.replaying in
    let e = c.in-Ok.ensures.begins in
    let w = c.in-Ok-whole_watched.ensures in
    let first : IsFrom state s c.args.size begun = record { size_is = e.is.size_is; goes = e.continues; bytes = e.untouched } in
    let last = from_on state s c.args.size begun first r w.further in
    replay_from state s c.args.size r last r.opened.held.script r.opened.held.root r.taken.spec r.taken.entries (c.is_done-is_done.ensures.hold (c.is_done-is_done.ensures.done.1 (w.done over))) claims

pub returns-in-Ok-whole_watched-clause-only : goal.returns-in-Ok-whole_watched-clause-only
returns-in-Ok-whole_watched-clause-only g c claims script root spec h is small over =
    let state = g.F.Folder.state in
    let s = state c.args.folder in
    let begun = c.in-Ok.begun.0 in
    let r = c.in-Ok-whole_watched.replaying in
    let e = c.in-Ok.ensures.begins in
    let w = c.in-Ok-whole_watched.ensures in
    let first : IsFrom state s c.args.size begun = record { size_is = e.is.size_is; goes = e.continues; bytes = e.untouched } in
    let last = from_on state s c.args.size begun first r w.further in
    ends_at state s c.args.size r last (c.is_done-is_done.ensures.all (c.is_done-is_done.ensures.done.1 (w.done over))) claims script root spec h is
    (w.further.only (claims_at state s c.args.size begun first claims) script root spec h (replay_at state s c.args.size begun first script root spec h claims is) small (e.only claims script root spec h is small))

pub returns-in-Err-whole_watched-clause-fault : goal.returns-in-Err-whole_watched-clause-fault
returns-in-Err-whole_watched-clause-fault g c claims =
    let state = g.F.Folder.state in
    let s = state c.args.folder in
    let begun = c.in-Ok.begun.0 in
    let e = c.in-Ok.ensures.begins in
    let first : IsFrom state s c.args.size begun = record { size_is = e.is.size_is; goes = e.continues; bytes = e.untouched } in
    fault_from state s c.args.size begun first c.in-Err-whole_watched.error c.in-Err-whole_watched.ensures.further.fault claims

pub returns-in-Err-whole_watched-clause-only : goal.returns-in-Err-whole_watched-clause-only
returns-in-Err-whole_watched-clause-only g c claims script root spec h is small =
    let state = g.F.Folder.state in
    let s = state c.args.folder in
    let begun = c.in-Ok.begun.0 in
    let e = c.in-Ok.ensures.begins in
    let first : IsFrom state s c.args.size begun = record { size_is = e.is.size_is; goes = e.continues; bytes = e.untouched } in
    c.in-Err-whole_watched.ensures.further.only (claims_at state s c.args.size begun first claims) script root spec h (replay_at state s c.args.size begun first script root spec h claims is) small (e.only claims script root spec h is small)

pub returns-in-Ok-whole_watched-clause-no_fault : goal.returns-in-Ok-whole_watched-clause-no_fault
returns-in-Ok-whole_watched-clause-no_fault g c over =
    let state = g.F.Folder.state in
    let s = state c.args.folder in
    let begun = c.in-Ok.begun.0 in
    let r = c.in-Ok-whole_watched.replaying in
    let e = c.in-Ok.ensures.begins in
    let w = c.in-Ok-whole_watched.ensures in
    let first : IsFrom state s c.args.size begun = record { size_is = e.is.size_is; goes = e.continues; bytes = e.untouched } in
    no_fault_from state s c.args.size r (from_on state s c.args.size begun first r w.further) (c.is_done-is_done.ensures.no_fault (c.is_done-is_done.ensures.done.1 (w.done over)))
