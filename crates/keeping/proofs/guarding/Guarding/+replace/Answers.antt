use Rattle.std.proofs.Common.{IfOk, sym, ap, subst}
use Rattle.term.specs.Proc.{Proc}
use Rattle.nodes.specs.declared.node.Node.TheVariants.{Ext, Seq, Par, Hide, Ren, Intr, Name}
use Rattle.nodes.specs.Shapes.{at}
use Rattle.nodes.specs.Tables.{IsNumber}
use Rattle.unfolding.specs.Unfolded.{unfolded}
use Rattle.keeping.specs.Guarding.{stands_so_far}
use Rattle.keeping.proofs.Growing.{number-grown}
use Rattle.keeping.proofs.Replacing.{IsOf, is-of-seen, seq-within, seq-replaced, hide-within, hide-replaced, ren-within, ren-replaced, ext-replaced, par-within, par-replaced, intr-replaced, found-on, replaced-after}
use Rattle.keeping.proofs.guarding.Guarding.+replace.Goals as goal

pub replaced-returns-in-Name-clause-number : goal.replaced-returns-in-Name-clause-number
replaced-returns-in-Name-clause-number g t c =
    let s = c.args.self.now in
    let of : IsOf s.all.table c.args.number (Name c.in-Name.name) = is-of-seen c.self.view_is c.in-Name.ensures.within c.in-Name.ensures.shape in
    subst (λ (P : Proc). IfOk c.standing.result (λ n. IsNumber c.standing.new.self.all.table n P)) (sym (ap (λ P. unfolded (stands_so_far s) P) of.is)) c.standing.ensures.number

pub replaced-put-requires : goal.replaced-put-requires
replaced-put-requires g t c =
    let s = c.args.self.now in
    let of : IsOf s.all.table c.args.number (Seq c.in-Seq.p c.in-Seq.q) = is-of-seen c.self.view_is c.in-Seq.ensures.within c.in-Seq.ensures.shape in
    seq-within s.all.table c.replaced.new.self.all.table c.replaced.ensures.kept.all.table (stands_so_far s) c.requires of c.in_ok-p-in-Seq.ensures.number

pub replaced-returns-in_ok-p-in-Seq-clause-number : goal.replaced-returns-in_ok-p-in-Seq-clause-number
replaced-returns-in_ok-p-in-Seq-clause-number g t c =
    let s = c.args.self.now in
    let of : IsOf s.all.table c.args.number (Seq c.in-Seq.p c.in-Seq.q) = is-of-seen c.self.view_is c.in-Seq.ensures.within c.in-Seq.ensures.shape in
    let same = seq-replaced s.all.table c.replaced.new.self.all.table c.replaced.ensures.kept.all.table (stands_so_far s) c.requires of c.in_ok-p-in-Seq.ensures.number in
    subst (λ (P : Proc). IfOk c.put.result (λ n. IsNumber c.put.new.self.all.table n P)) same c.put.ensures.number

pub replaced-returns-in_ok-p-in-Seq-clause-kept : goal.replaced-returns-in_ok-p-in-Seq-clause-kept
replaced-returns-in_ok-p-in-Seq-clause-kept g t c = found-on c.replaced.ensures.kept c.put.ensures.kept

pub replaced-put-requires-in-Hide : goal.replaced-put-requires-in-Hide
replaced-put-requires-in-Hide g t c =
    let s = c.args.self.now in
    let of : IsOf s.all.table c.args.number (Hide c.in-Hide.set c.in-Hide.p) = is-of-seen c.self.view_is c.in-Hide.ensures.within c.in-Hide.ensures.shape in
    hide-within s.all.table c.replaced-in-Hide.new.self.all.table c.replaced-in-Hide.ensures.kept.all.table (stands_so_far s) of c.in_ok-p-in-Hide.ensures.number

pub replaced-returns-in_ok-p-in-Hide-clause-number : goal.replaced-returns-in_ok-p-in-Hide-clause-number
replaced-returns-in_ok-p-in-Hide-clause-number g t c =
    let s = c.args.self.now in
    let of : IsOf s.all.table c.args.number (Hide c.in-Hide.set c.in-Hide.p) = is-of-seen c.self.view_is c.in-Hide.ensures.within c.in-Hide.ensures.shape in
    let same = hide-replaced s.all.table c.replaced-in-Hide.new.self.all.table c.replaced-in-Hide.ensures.kept.all.table (stands_so_far s) of c.in_ok-p-in-Hide.ensures.number in
    subst (λ (P : Proc). IfOk c.put-in-Hide.result (λ n. IsNumber c.put-in-Hide.new.self.all.table n P)) same c.put-in-Hide.ensures.number

pub replaced-returns-in_ok-p-in-Hide-clause-kept : goal.replaced-returns-in_ok-p-in-Hide-clause-kept
replaced-returns-in_ok-p-in-Hide-clause-kept g t c = found-on c.replaced-in-Hide.ensures.kept c.put-in-Hide.ensures.kept

pub replaced-put-requires-in-Ren : goal.replaced-put-requires-in-Ren
replaced-put-requires-in-Ren g t c =
    let s = c.args.self.now in
    let of : IsOf s.all.table c.args.number (Ren c.in-Ren.relation c.in-Ren.p) = is-of-seen c.self.view_is c.in-Ren.ensures.within c.in-Ren.ensures.shape in
    ren-within s.all.table c.replaced-in-Ren.new.self.all.table c.replaced-in-Ren.ensures.kept.all.table (stands_so_far s) of c.in_ok-p-in-Ren.ensures.number

pub replaced-returns-in_ok-p-in-Ren-clause-number : goal.replaced-returns-in_ok-p-in-Ren-clause-number
replaced-returns-in_ok-p-in-Ren-clause-number g t c =
    let s = c.args.self.now in
    let of : IsOf s.all.table c.args.number (Ren c.in-Ren.relation c.in-Ren.p) = is-of-seen c.self.view_is c.in-Ren.ensures.within c.in-Ren.ensures.shape in
    let same = ren-replaced s.all.table c.replaced-in-Ren.new.self.all.table c.replaced-in-Ren.ensures.kept.all.table (stands_so_far s) of c.in_ok-p-in-Ren.ensures.number in
    subst (λ (P : Proc). IfOk c.put-in-Ren.result (λ n. IsNumber c.put-in-Ren.new.self.all.table n P)) same c.put-in-Ren.ensures.number

pub replaced-returns-in_ok-p-in-Ren-clause-kept : goal.replaced-returns-in_ok-p-in-Ren-clause-kept
replaced-returns-in_ok-p-in-Ren-clause-kept g t c = found-on c.replaced-in-Ren.ensures.kept c.put-in-Ren.ensures.kept

pub replaced-put-requires-in-Ext : goal.replaced-put-requires-in-Ext
replaced-put-requires-in-Ext g t c = (c.in_ok-p-in-Ext.ensures.left.within, c.in_ok-p-in-Ext.ensures.right.within)

pub replaced-returns-in_ok-p-in-Ext-clause-number : goal.replaced-returns-in_ok-p-in-Ext-clause-number
replaced-returns-in_ok-p-in-Ext-clause-number g t c =
    let s = c.args.self.now in
    let of : IsOf s.all.table c.args.number (Ext c.in-Ext.p c.in-Ext.q) = is-of-seen c.self.view_is c.in-Ext.ensures.within c.in-Ext.ensures.shape in
    let same = ext-replaced s.all.table c.replaced_both.new.self.all.table c.replaced_both.ensures.kept.all.table (stands_so_far s) of c.in_ok-p-in-Ext.ensures.left c.in_ok-p-in-Ext.ensures.right in
    subst (λ (P : Proc). IfOk c.put-in-Ext.result (λ n. IsNumber c.put-in-Ext.new.self.all.table n P)) same c.put-in-Ext.ensures.number

pub replaced-returns-in_ok-p-in-Ext-clause-kept : goal.replaced-returns-in_ok-p-in-Ext-clause-kept
replaced-returns-in_ok-p-in-Ext-clause-kept g t c = found-on c.replaced_both.ensures.kept c.put-in-Ext.ensures.kept

pub replaced-put-requires-in-Par : goal.replaced-put-requires-in-Par
replaced-put-requires-in-Par g t c =
    let s = c.args.self.now in
    let of : IsOf s.all.table c.args.number (Par c.in-Par.set c.in-Par.p c.in-Par.q) = is-of-seen c.self.view_is c.in-Par.ensures.within c.in-Par.ensures.shape in
    par-within s.all.table c.replaced_both-in-Par.new.self.all.table c.replaced_both-in-Par.ensures.kept.all.table (stands_so_far s) of c.in_ok-p-in-Par.ensures.left c.in_ok-p-in-Par.ensures.right

pub replaced-returns-in_ok-p-in-Par-clause-number : goal.replaced-returns-in_ok-p-in-Par-clause-number
replaced-returns-in_ok-p-in-Par-clause-number g t c =
    let s = c.args.self.now in
    let of : IsOf s.all.table c.args.number (Par c.in-Par.set c.in-Par.p c.in-Par.q) = is-of-seen c.self.view_is c.in-Par.ensures.within c.in-Par.ensures.shape in
    let same = par-replaced s.all.table c.replaced_both-in-Par.new.self.all.table c.replaced_both-in-Par.ensures.kept.all.table (stands_so_far s) of c.in_ok-p-in-Par.ensures.left c.in_ok-p-in-Par.ensures.right in
    subst (λ (P : Proc). IfOk c.put-in-Par.result (λ n. IsNumber c.put-in-Par.new.self.all.table n P)) same c.put-in-Par.ensures.number

pub replaced-returns-in_ok-p-in-Par-clause-kept : goal.replaced-returns-in_ok-p-in-Par-clause-kept
replaced-returns-in_ok-p-in-Par-clause-kept g t c = found-on c.replaced_both-in-Par.ensures.kept c.put-in-Par.ensures.kept

pub replaced-put-requires-in-Intr : goal.replaced-put-requires-in-Intr
replaced-put-requires-in-Intr g t c = (c.in_ok-p-in-Intr.ensures.left.within, c.in_ok-p-in-Intr.ensures.right.within)

pub replaced-returns-in_ok-p-in-Intr-clause-number : goal.replaced-returns-in_ok-p-in-Intr-clause-number
replaced-returns-in_ok-p-in-Intr-clause-number g t c =
    let s = c.args.self.now in
    let of : IsOf s.all.table c.args.number (Intr c.in-Intr.p c.in-Intr.q) = is-of-seen c.self.view_is c.in-Intr.ensures.within c.in-Intr.ensures.shape in
    let same = intr-replaced s.all.table c.replaced_both-in-Intr.new.self.all.table c.replaced_both-in-Intr.ensures.kept.all.table (stands_so_far s) of c.in_ok-p-in-Intr.ensures.left c.in_ok-p-in-Intr.ensures.right in
    subst (λ (P : Proc). IfOk c.put-in-Intr.result (λ n. IsNumber c.put-in-Intr.new.self.all.table n P)) same c.put-in-Intr.ensures.number

pub replaced-returns-in_ok-p-in-Intr-clause-kept : goal.replaced-returns-in_ok-p-in-Intr-clause-kept
replaced-returns-in_ok-p-in-Intr-clause-kept g t c = found-on c.replaced_both-in-Intr.ensures.kept c.put-in-Intr.ensures.kept

pub replaced_both-returns-clause-left : goal.replaced_both-returns-clause-left
replaced_both-returns-clause-left g t c =
    let s = c.args.self.now in
    number-grown c.replaced.new.self.all.table c.replaced-2.new.self.all.table c.in_ok-left.left (unfolded (stands_so_far s) (at s.all.table.processes c.args.p)) c.replaced-2.ensures.kept.all.table c.in_ok-left.ensures.number

pub replaced_both-returns-clause-right : goal.replaced_both-returns-clause-right
replaced_both-returns-clause-right g t c =
    replaced-after c.args.self.now c.replaced.new.self c.replaced-2.new.self.all.table c.args.q c.in_ok-right.right c.replaced.ensures.kept c.requires.right c.in_ok-right.ensures.number

pub replaced_both-returns-clause-kept : goal.replaced_both-returns-clause-kept
replaced_both-returns-clause-kept g t c = found-on c.replaced.ensures.kept c.replaced-2.ensures.kept
